-- A whole text read, and the names in it.
use Rattle.std.specs.Prelude.{◌≡◌, ℕ, ◌+◌, ◌-◌, ◌<◌, ◌≤◌, Bool, true, false, not, ◌&&◌, List, [], length, drop, Some, None, Option, nat_lt, slice_index}
use Rattle.text.specs.Bytes.{digit, name_byte}
use Rattle.text.specs.Parts.{number_may_begin}
use Rattle.meaning.specs.Limits.{sequence}
use Rattle.grammar.specs.Machine.{fresh, live, run, accepts}
use Rattle.grammar.specs.Faults.{Refuses, front}
use Rattle.reader.specs.Reading.{any, Drawn}
use Rattle.reader.specs.declared.branch.Branch.{Branch}
use Rattle.reader.specs.declared.draft.Draft.{Draft}
use Rattle.grammar.specs.declared.refusal.Refusal.{Refusal}
use Rattle.grammar.specs.declared.refusal.Refusal.TheVariants.{Short, Length, Form, NoName, Mark, Depth, Many, Width, Cuts, Twice}

-- the whole text is a plan within the limits of depth, leaves and brackets, and its leaves and its text are these
pub record ReadWhole (t : List ℕ) (ds : List Draft) (b : Branch) : Type 0 where
  pub accepted : accepts (run (live [] fresh) t) ≡ true
  pub nothing : (f : Refusal) → Refuses any t f → ⊥
  pub number : ℕ
  pub drawn : Drawn sequence 16 t 0 0 (length t) number [] ds b
  pub lean : number ≤ 64
  pub few : length ds ≤ 128

-- a name may begin at a place: a byte of a name, behind none of a name, and no digit of a number
abbrev pub starts : List ℕ → ℕ → Bool
starts t p = (not (nat_lt 0 p && name_byte (slice_index t (p - 1))) && name_byte (slice_index t p)) && not (number_may_begin t p && digit (slice_index t p))

-- a name begins there that the kind does not have
abbrev pub lacks : (List ℕ → Bool) → List ℕ → ℕ → Bool
lacks has t p = starts t p && not (has (front name_byte (drop p t)))

-- the first such place below a limit
abbrev pub Unnamed : (List ℕ → Bool) → List ℕ → ℕ → Option ℕ → Type 0
Unnamed has t limit (Some p) = (p < limit) × (lacks has t p ≡ true) × ((q : ℕ) → q < p → lacks has t q ≡ false)
Unnamed has t limit None = (q : ℕ) → q < limit → lacks has t q ≡ false

-- up to where names are looked at, where this is the first refusal whatever the kind
abbrev pub reach : Refusal → ℕ
reach (Short n) = 0
reach Length = 0
reach (Form p) = p
reach (NoName p) = 0
reach (Mark p) = p
reach (Depth p) = p + 1
reach (Many p) = p + 1
reach (Width n) = 0
reach Cuts = 0
reach (Twice n) = 0
