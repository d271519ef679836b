use Rattle.std.proofs.Common.{◌-◌, length, vec_items}
use Rattle.text.proofs.Runs.{Parting}
use Rattle.text.proofs.part.parts.Given as goal

abbrev pub invariant-loop-at : goal.invariant-loop-at
invariant-loop-at l = Parting l.text (vec_items l.list) l.at

abbrev pub decreases-loop-at : goal.decreases-loop-at
decreases-loop-at l = length l.text - l.at
