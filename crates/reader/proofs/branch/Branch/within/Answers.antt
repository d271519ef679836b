use Rattle.reader.proofs.branch.Branch.within.Goals as goal

pub returns : goal.returns
returns c e m = record { sized = c.within.ensures e m.sized; tree = c.bracketed.ensures e m.tree }
