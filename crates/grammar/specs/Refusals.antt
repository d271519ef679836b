-- The number of each refusal, and the place, length, width or name number that goes with it.
use Rattle.std.specs.Prelude.{ℕ}
use Rattle.grammar.specs.declared.refusal.Refusal.{Refusal}
use Rattle.grammar.specs.declared.refusal.Refusal.TheVariants.{Short, Length, Form, NoName, Mark, Depth, Many, Width, Cuts, Twice}

abbrev pub code : Refusal → ℕ × ℕ
code (Short n) = (9, n)
code Length = (1, 0)
code (Form p) = (2, p)
code (NoName p) = (3, p)
code (Mark p) = (4, p)
code (Depth p) = (5, p)
code (Many p) = (6, p)
code (Width w) = (7, w)
code Cuts = (8, 0)
code (Twice n) = (13, n)
