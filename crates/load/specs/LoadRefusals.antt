-- The number of each refusal of a load file, and the place, length or width that goes with it.
use Rattle.std.specs.Prelude.{ℕ, ◌+◌}
use Rattle.grammar.specs.Refusals.{code}
use Rattle.grammar.specs.declared.refusal.Refusal.{Refusal}
use Rattle.grammar.specs.declared.refusal.Refusal.TheVariants as refusal
use Rattle.load.specs.Files.{file_code}
use Rattle.load.specs.declared.refusal.LoadRefusal.{LoadRefusal}
use Rattle.load.specs.declared.refusal.LoadRefusal.TheVariants.{Short, File, Plan, Unnamed, Untaken}

-- which layer spoke: the buffers, the file's frame, its plan, the name of a stamp line, or the sheet
abbrev pub load_code : LoadRefusal → ℕ × ℕ
load_code (Short n) = (9, n)
load_code (File f) = file_code f
load_code (Plan f) = code f
load_code (Unnamed place) = (3, place)
load_code (Untaken place) = (10, place)

-- a plan's refusal as the file's, in which the plan stands at a place: the places of 2 to 6 count from the file's start
abbrev pub counted_from : ℕ → Refusal → Refusal
counted_from start (refusal.Form p) = refusal.Form (start + p)
counted_from start (refusal.NoName p) = refusal.NoName (start + p)
counted_from start (refusal.Mark p) = refusal.Mark (start + p)
counted_from start (refusal.Depth p) = refusal.Depth (start + p)
counted_from start (refusal.Many p) = refusal.Many (start + p)
counted_from start (refusal.Short n) = refusal.Short n
counted_from start refusal.Length = refusal.Length
counted_from start (refusal.Width w) = refusal.Width w
counted_from start refusal.Cuts = refusal.Cuts
counted_from start (refusal.Twice n) = refusal.Twice n

-- the place of a refusal of 2 to 6
abbrev pub place_of : Refusal → ℕ
place_of (refusal.Form p) = p
place_of (refusal.NoName p) = p
place_of (refusal.Mark p) = p
place_of (refusal.Depth p) = p
place_of (refusal.Many p) = p
place_of (refusal.Short n) = 0
place_of refusal.Length = 0
place_of (refusal.Width w) = 0
place_of refusal.Cuts = 0
place_of (refusal.Twice n) = 0
