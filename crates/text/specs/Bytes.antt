-- Bytes, and runs of bytes, of a plan's text.
use Rattle.std.specs.Prelude.{◌≡◌, ℕ, ◌<◌, ◌≤◌, Bool, true, false, ◌&&◌, ◌||◌, List, [], ◌∷◌, ◌++◌, length, drop, Some, None, Option, nat_le, slice_index, slice_range}

-- `0` to `9`
abbrev pub digit : ℕ → Bool
digit b = nat_le 48 b && nat_le b 57

-- `a` to `z`
abbrev pub letter : ℕ → Bool
letter b = nat_le 97 b && nat_le b 122

-- the bytes of a name: lower-case letters and digits
abbrev pub name_byte : ℕ → Bool
name_byte b = letter b || digit b

-- every byte of a list passes a test
abbrev pub every : (ℕ → Bool) → List ℕ → Bool
every test [] = true
every test (b ∷ t) = test b && every test t

-- the bytes of a text from a place up to another
abbrev pub between : List ℕ → ℕ → ℕ → List ℕ
between t from to = slice_range t from to

-- the longest run of bytes that pass a test, from one place up to another
pub record Longest (test : ℕ → Bool) (t : List ℕ) (from to : ℕ) : Type 0 where
  pub forward : from ≤ to
  pub within : to ≤ length t
  pub all : (k : ℕ) → from ≤ k → k < to → test (slice_index t k) ≡ true
  pub stops : to < length t → test (slice_index t to) ≡ false

-- a text is written at the front of a buffer, the bytes behind it stay, and its length is answered;
-- or the buffer is too short, and stays as it was
abbrev pub Writes : List ℕ → List ℕ → List ℕ → Option ℕ → Type 0
Writes text before after (Some n) = (n ≡ length text) × (after ≡ text ++ drop n before)
Writes text before after None = (length before < length text) × (after ≡ before)
