use Rattle.text.specs.Numbers.{Read}
use Rattle.text.proofs.decimal.number.Given as goal

abbrev pub invariant-loop-b : goal.invariant-loop-b
invariant-loop-b l = Read l.run l.most l.n l.b-index
