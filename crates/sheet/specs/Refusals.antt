-- The number of each refusal, and the length that goes with it.
use Rattle.std.specs.Prelude.{ℕ}
use Rattle.sheet.specs.declared.refusal.Refusal.{Refusal}
use Rattle.sheet.specs.declared.refusal.Refusal.TheVariants.{Short, NotTaken, NoStamp, NoReading}

abbrev pub code : Refusal → ℕ × ℕ
code (Short n) = (9, n)
code NotTaken = (10, 0)
code NoStamp = (11, 0)
code NoReading = (12, 0)
