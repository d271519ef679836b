use Rattle.std.proofs.Common.{refl}
use Rattle.reader.proofs.branch.Branch.of_leaf.Goals as goal

pub returns : goal.returns
returns c = record { sized = c.of_leaf.ensures c.args.named; tree = refl }
