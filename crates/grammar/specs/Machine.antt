-- The form of a plan's text as a reader meets it, byte by byte: a machine with a stack of open brackets.
-- `forms_are_accepted` shows that it accepts exactly the texts of the grammar, and `beginnings_live` that it lives on
-- exactly the texts with which some text of the grammar begins.
use Rattle.std.specs.Prelude.{ℕ, suc, Bool, true, false, cond, ◌&&◌, List, [], ◌∷◌, ◌==◌, nat_le, nat_lt}
use Rattle.text.specs.Bytes.{digit, name_byte}
use Rattle.meaning.specs.Shape.{Sort, lock, choice, interleave}
use Rattle.grammar.specs.Form.{least, most}

-- where the machine stands:
--   fresh     before an item
--   opening   behind a bracket's sign
--   naming    in a name
--   colon     behind `:`, negating behind its `-`, shifting in its digits
--   at        behind `@`, housing in its digits
--   ended     behind a `_` or a `)`
pub data Mode : Type 0 where
  fresh : Mode
  opening : Sort → Mode
  naming colon negating shifting at housing ended : Mode

-- a bracket that is open, with the number of plans begun in it
pub record Frame : Type 0 where
  pub sort : Sort
  pub count : ℕ

-- no text of the form goes on so; or the open brackets, the innermost first, and the mode
pub data State : Type 0 where
  dead : State
  live : List Frame → Mode → State

-- the byte that follows a whole item: `.`; or `,` or `)` in a bracket, if its number of plans allows it
abbrev pub ends : List Frame → ℕ → State
ends [] b = cond (b == 46) (live [] fresh) dead
ends (f ∷ fs) b = cond (b == 46) (live (f ∷ fs) fresh) (
    cond (b == 44 && nat_lt f.count (most f.sort)) (live (record { sort = f.sort; count = suc f.count } ∷ fs) fresh) (
    cond (b == 41 && nat_le (least f.sort) f.count) (live fs ended) dead))

-- the byte that an item begins with: one of a name, `_`, or a bracket's sign
abbrev pub begins : List Frame → ℕ → State
begins fs b = cond (name_byte b) (live fs naming) (
    cond (b == 95) (live fs ended) (
    cond (b == 33) (live fs (opening lock)) (
    cond (b == 43) (live fs (opening choice)) (
    cond (b == 124) (live fs (opening interleave)) dead))))

-- one byte
abbrev pub step : State → ℕ → State
step dead b = dead
step (live fs fresh) b = begins fs b
step (live fs (opening s)) b = cond (b == 40) (live (record { sort = s; count = 1 } ∷ fs) fresh) dead
step (live fs naming) b = cond (name_byte b) (live fs naming) (cond (b == 58) (live fs colon) (cond (b == 64) (live fs at) (ends fs b)))
step (live fs colon) b = cond (digit b) (live fs shifting) (cond (b == 45) (live fs negating) dead)
step (live fs negating) b = cond (digit b) (live fs shifting) dead
step (live fs shifting) b = cond (digit b) (live fs shifting) (cond (b == 64) (live fs at) (ends fs b))
step (live fs at) b = cond (digit b) (live fs housing) dead
step (live fs housing) b = cond (digit b) (live fs housing) (ends fs b)
step (live fs ended) b = ends fs b

-- the bytes of a text, one after another
abbrev pub run : State → List ℕ → State
run s [] = s
run s (b ∷ t) = run (step s b) t

-- an item may end in these modes
abbrev pub ending : Mode → Bool
ending fresh = false
ending (opening s) = false
ending naming = true
ending colon = false
ending negating = false
ending shifting = true
ending at = false
ending housing = true
ending ended = true

-- a text may end here: behind a whole item, with no bracket open
abbrev pub accepts : State → Bool
accepts dead = false
accepts (live [] m) = ending m
accepts (live (f ∷ fs) m) = false
