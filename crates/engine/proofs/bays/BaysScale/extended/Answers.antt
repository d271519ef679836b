use mathlib.Core.Path.{fun_ext}
use Rattle.engine.proofs.BitLaws.{bays_set}
use Rattle.engine.proofs.bays.BaysScale.extended.Goals as goal

pub returns-in-Some : goal.returns-in-Some
returns-in-Some c = fun_ext (λ k. rw c.in-Some.is (bays_set _ _ k c.if-b-lt64.true))
