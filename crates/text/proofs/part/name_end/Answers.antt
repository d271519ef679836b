use Rattle.text.specs.Bytes.{name_byte}
use Rattle.text.proofs.part.name_end.Goals as goal

pub returns : goal.returns
returns c = c.run_end.ensures name_byte (λ b r p. p)
