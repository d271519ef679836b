use mathlib.Core.Path.{fun_ext}
use Rattle.engine.proofs.BitLaws.{bays_and}
use Rattle.engine.proofs.bays.BaysScale.joined.Goals as goal

pub returns : goal.returns
returns c = fun_ext (λ b. bays_and _ _ b)
