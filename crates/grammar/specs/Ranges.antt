-- Marks within their ranges.
use Rattle.std.specs.Prelude.{ℕ, ◌<◌, ℤ, pos, negsuc, Some, None, Option}
use Rattle.grammar.specs.declared.leaf.Marks.{Marks}

-- a correction lies from -32,768 to 32,767
abbrev pub CorrectionInRange : ℤ → Type 0
CorrectionInRange (pos n) = n < 32768
CorrectionInRange (negsuc n) = n < 32768

-- a bay is below 64
abbrev pub BayInRange : Option ℕ → Type 0
BayInRange None = Unit {0}
BayInRange (Some b) = b < 64

abbrev pub InRange : Marks → Type 0
InRange m = CorrectionInRange m.correction × BayInRange m.bay
