-- The parts that a text falls into, each with the place of its first byte.
use Rattle.std.specs.Prelude.{◌≡◌, ℕ, ◌+◌, ◌-◌, ◌<◌, ◌≤◌, Bool, true, false, ◌&&◌, ◌||◌, List, [], ◌∷◌, ◌++◌, length, Some, None, Option, ◌==◌, ◌≢◌, nat_lt, slice_index}
use Rattle.text.specs.Bytes.{digit, name_byte, between, Longest}
use Rattle.text.specs.declared.part.Sign.{Sign}
use Rattle.text.specs.declared.part.Sign.TheVariants.{Dot, Comma, Open, Close, Lock, Choice, Interleave, Blank, Colon, At, Minus}
use Rattle.text.specs.declared.part.Part.{Part}
use Rattle.text.specs.declared.part.Part.TheVariants.{Name, Digits, Mark, Other, End}

-- the byte of a sign
abbrev pub sign_byte : Sign → ℕ
sign_byte Dot = 46
sign_byte Comma = 44
sign_byte Open = 40
sign_byte Close = 41
sign_byte Lock = 33
sign_byte Choice = 43
sign_byte Interleave = 124
sign_byte Blank = 95
sign_byte Colon = 58
sign_byte At = 64
sign_byte Minus = 45

-- the sign that a byte is, or none
abbrev pub Signs : ℕ → Option Sign → Type 0
Signs b (Some s) = b ≡ sign_byte s
Signs b None = (s : Sign) → b ≢ sign_byte s

-- a number may begin at a place: the byte before it is `:`, `@` or `-`
abbrev pub number_may_begin : List ℕ → ℕ → Bool
number_may_begin t p = nat_lt 0 p && ((slice_index t (p - 1) == 58 || slice_index t (p - 1) == 64) || slice_index t (p - 1) == 45)

-- a run is the bytes of the text from a place on, as many as pass a test, and one at least
abbrev pub Run : (ℕ → Bool) → List ℕ → ℕ → List ℕ → Type 0
Run test t p run = (to : ℕ) × Longest test t p to × (p < to) × (run ≡ between t p to)

-- which part stands at a place: digits are a number behind `:`, `@` or `-`, and else belong to a name
abbrev pub Stands : List ℕ → ℕ → Part → Type 0
Stands t p (Name q run) = (q ≡ p) × Run name_byte t p run.now × ((number_may_begin t p && digit (slice_index t p)) ≡ false)
Stands t p (Digits q run) = (q ≡ p) × Run digit t p run.now × (number_may_begin t p ≡ true)
Stands t p (Mark q s) = (q ≡ p) × (p < length t) × (slice_index t p ≡ sign_byte s)
Stands t p (Other q b) = (q ≡ p) × (p < length t) × (slice_index t p ≡ b) × (name_byte b ≡ false) × ((s : Sign) → b ≢ sign_byte s)
Stands t p (End q) = (q ≡ length t) × (length t ≤ p)

-- the bytes of a part
abbrev pub part_bytes : Part → List ℕ
part_bytes (Name q run) = run.now
part_bytes (Digits q run) = run.now
part_bytes (Mark q s) = sign_byte s ∷ []
part_bytes (Other q b) = b ∷ []
part_bytes (End q) = []

-- the bytes of parts, one after another
abbrev pub parts_bytes : List Part → List ℕ
parts_bytes [] = []
parts_bytes (x ∷ xs) = part_bytes x ++ parts_bytes xs

-- the parts of a text from one place up to another, each standing where the one before it ends
abbrev pub Parted : List ℕ → ℕ → List Part → ℕ → Type 0
Parted t p [] q = p ≡ q
Parted t p (x ∷ xs) q = (p < length t) × Stands t p x × Parted t (p + length (part_bytes x)) xs q

-- all parts of a text, from its first byte to its end; together they are the text
pub record AllParts (t : List ℕ) (xs : List Part) : Type 0 where
  pub each : Parted t 0 xs (length t)
  pub together : parts_bytes xs ≡ t
