use Rattle.load.proofs.Endings.{DigitsSoFar}
use Rattle.load.proofs.trailer.four_digits.Given as goal

abbrev pub invariant-loop-b : goal.invariant-loop-b
invariant-loop-b l = DigitsSoFar l.bytes l.n l.b-index
