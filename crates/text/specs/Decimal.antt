-- Decimal numbers: what digits say, and which digits may say it.
use Rattle.std.specs.Prelude.{◌≡◌, ℕ, ◌+◌, ◌-◌, ◌*◌, ◌^◌, ◌<◌, Bool, true, false, not, ◌&&◌, List, [], ◌∷◌, ℤ, pos, neg_ℤ, Some, None, decimal, Option, ◌==◌, nat_le}
use Rattle.text.specs.Bytes.{digit, every}

-- the value of digits that stand behind others, whose value is n
abbrev pub value_after : ℕ → List ℕ → ℕ
value_after n [] = n
value_after n (b ∷ w) = value_after (10 * n + (b - 48)) w

-- the value of a run of digits
abbrev pub value : List ℕ → ℕ
value w = value_after 0 w

-- one digit at least, and no zero in front of others
abbrev pub plain : List ℕ → Bool
plain [] = false
plain (b ∷ []) = true
plain (b ∷ c ∷ w) = not (b == 48)

-- the bytes are digits, plainly written, of a number from `least` to `most`
abbrev pub says : List ℕ → ℕ → ℕ → Bool
says w least most = (every digit w && plain w) && (nat_le least (value w) && nat_le (value w) most)

-- the number that the bytes say, or none
abbrev pub Number : List ℕ → ℕ → ℕ → Option ℕ → Type 0
Number w least most (Some n) = (says w least most ≡ true) × (n ≡ value w)
Number w least most None = says w least most ≡ false

-- how far from 0 a correction may lie, behind a `-` (true) or without
abbrev pub farthest : Bool → ℕ
farthest true = 32768
farthest false = 32767

-- a number behind a `-` or without
abbrev pub signed_value : Bool → ℕ → ℤ
signed_value true n = neg_ℤ (pos n)
signed_value false n = pos n

-- the correction that the digits say, or none; 0 is never written
abbrev pub Correction : Bool → List ℕ → Option ℤ → Type 0
Correction minus w (Some z) = (says w 1 (farthest minus) ≡ true) × (z ≡ signed_value minus (value w))
Correction minus w None = says w 1 (farthest minus) ≡ false

-- reading and writing agree: the digits that a number is written with say that number,
-- and digits that say a number are those that it is written with
abbrev pub DecimalsAgree : Type 0
DecimalsAgree =
    ((n : ℕ) → n < 2 ^ 32 → says (decimal n) n n ≡ true)
    × ((w : List ℕ) (least most : ℕ) → most < 2 ^ 32 → says w least most ≡ true → decimal (value w) ≡ w)
