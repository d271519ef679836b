use Rattle.reader.proofs.branch.Branch.joined.Goals as goal

pub returns : goal.returns
returns c e f m n = record { sized = c.joined.ensures e f m.sized n.sized; tree = c.joined-2.ensures e f m.tree n.tree }
