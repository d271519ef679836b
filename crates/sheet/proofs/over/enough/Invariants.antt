use Rattle.std.proofs.Common.{◌≡◌, drop}
use Rattle.sheet.specs.Calls.{shortage}
use Rattle.sheet.proofs.over.enough.Given as goal

abbrev pub invariant-loop-len : goal.invariant-loop-len
invariant-loop-len l = shortage l.lengths ≡ shortage (drop l.len-index l.lengths)
