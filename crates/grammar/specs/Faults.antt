-- When the machine refuses a text, with which number and at which place. This is the reader's view;
-- `refusals_agree` shows that these are the refusals of the grammar.
use Rattle.std.specs.Prelude.{◌≡◌, ℕ, ◌+◌, ◌<◌, ◌≤◌, Bool, true, false, cond, ◌||◌, ◌⊎◌, List, [], ◌∷◌, length, take, drop, ◌==◌, slice_index}
use Rattle.text.specs.Bytes.{digit, name_byte}
use Rattle.text.specs.Decimal.{says, farthest}
use Rattle.grammar.specs.Machine.{Mode, fresh, opening, naming, colon, negating, shifting, at, housing, ended, Frame, State, dead, live, step, run, accepts}
use Rattle.grammar.specs.Refusals.{code}
use Rattle.grammar.specs.declared.refusal.Refusal.{Refusal}
use Rattle.grammar.specs.declared.refusal.Refusal.TheVariants.{Short, Length, Form, NoName, Mark, Depth, Many, Width, Cuts, Twice}

-- the state before the byte at p
abbrev pub before : List ℕ → ℕ → State
before t p = run (live [] fresh) (take p t)

-- a leaf begins with a byte of a name or with `_`
abbrev pub leaf_byte : ℕ → Bool
leaf_byte b = name_byte b || b == 95

-- a bracket begins with its sign: `!`, `+` or `|`
abbrev pub sign_byte : ℕ → Bool
sign_byte b = b == 33 || b == 43 || b == 124

-- 1 where an item of this kind begins
abbrev pub begun : (ℕ → Bool) → State → ℕ → ℕ
begun kind dead b = 0
begun kind (live fs fresh) b = cond (kind b) 1 0
begun kind (live fs (opening s)) b = 0
begun kind (live fs naming) b = 0
begun kind (live fs colon) b = 0
begun kind (live fs negating) b = 0
begun kind (live fs shifting) b = 0
begun kind (live fs at) b = 0
begun kind (live fs housing) b = 0
begun kind (live fs ended) b = 0

-- how many items of this kind begin in a text that is read from a state on
abbrev pub count_from : (ℕ → Bool) → State → List ℕ → ℕ
count_from kind s [] = 0
count_from kind s (b ∷ t) = begun kind s b + count_from kind (step s b) t

-- how many items of this kind begin before p
abbrev pub count : (ℕ → Bool) → List ℕ → ℕ → ℕ
count kind t p = count_from kind (live [] fresh) (take p t)

-- the longest run in front of bytes that pass a test
abbrev pub front : (ℕ → Bool) → List ℕ → List ℕ
front test [] = []
front test (b ∷ w) = cond (test b) (b ∷ front test w) []

-- the longest run of digits in front
abbrev pub digits : List ℕ → List ℕ
digits w = front digit w

-- whether a `-` stands in front
abbrev pub minus : List ℕ → Bool
minus [] = false
minus (b ∷ w) = b == 45

-- what follows that `-`
abbrev pub body : List ℕ → List ℕ
body [] = []
body (b ∷ w) = cond (b == 45) w (b ∷ w)

-- a number stands there, and breaks its rule
abbrev pub Bad : ℕ → ℕ → List ℕ → Type 0
Bad least most w = (0 < length w) × (says w least most ≡ false)

-- what stands behind `:` or `@` is whole, and breaks its rule
abbrev pub Wrong : Mode → List ℕ → Type 0
Wrong fresh w = ⊥
Wrong (opening s) w = ⊥
Wrong naming w = ⊥
Wrong colon w = Bad 1 (farthest (minus w)) (digits (body w))
Wrong negating w = ⊥
Wrong shifting w = ⊥
Wrong at w = Bad 0 63 (digits w)
Wrong housing w = ⊥
Wrong ended w = ⊥

-- an item of this kind begins at p, among the brackets fs
pub record BeginsAt (kind : ℕ → Bool) (t : List ℕ) (p : ℕ) (fs : List Frame) : Type 0 where
  pub within : p < length t
  pub due : before t p ≡ live fs fresh
  pub first : kind (slice_index t p) ≡ true

-- what a text is refused for, under a kind's test for its names: the form, a name, a mark, a depth, a number of items
abbrev pub Refuses : (List ℕ → Bool) → List ℕ → Refusal → Type 0
Refuses has t (Form p) = (fs : List Frame) × (m : Mode) × (p ≤ length t) × (before t p ≡ live fs m)
    × (p < length t → step (live fs m) (slice_index t p) ≡ dead) × (p ≡ length t → accepts (live fs m) ≡ false)
Refuses has t (NoName p) = (fs : List Frame) × BeginsAt name_byte t p fs × (has (front name_byte (drop p t)) ≡ false)
Refuses has t (Mark p) = (fs : List Frame) × (m : Mode) × (before t p ≡ live fs m) × Wrong m (drop p t)
Refuses has t (Depth p) = (fs : List Frame) × BeginsAt sign_byte t p fs × (16 ≤ length fs)
Refuses has t (Many p) = (fs : List Frame)
    × ((BeginsAt leaf_byte t p fs × (128 ≤ count leaf_byte t p)) ⊎ (BeginsAt sign_byte t p fs × (64 ≤ count sign_byte t p)))
Refuses has t (Short n) = ⊥
Refuses has t Length = ⊥
Refuses has t (Width w) = ⊥
Refuses has t Cuts = ⊥
Refuses has t (Twice n) = ⊥

-- the number of a refusal, and its place
abbrev pub number : Refusal → ℕ
number f = (code f).0

abbrev pub place : Refusal → ℕ
place f = (code f).1

-- nothing is refused before p
abbrev pub Clean : (List ℕ → Bool) → List ℕ → ℕ → Type 0
Clean has t p = (g : Refusal) → Refuses has t g → p ≤ place g

-- the smallest place, then the smallest number
abbrev pub First : (List ℕ → Bool) → List ℕ → Refusal → Type 0
First has t f = Refuses has t f
    × ((g : Refusal) → Refuses has t g → (place f < place g) ⊎ ((place f ≡ place g) × (number f ≤ number g)))
