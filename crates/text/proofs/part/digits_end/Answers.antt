use Rattle.text.specs.Bytes.{digit}
use Rattle.text.proofs.part.digits_end.Goals as goal

pub returns : goal.returns
returns c = c.run_end.ensures digit (λ b r p. p)
