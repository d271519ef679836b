-- The texts of names.
use Rattle.std.specs.Prelude.{◌≡◌, ℕ, ◌≤◌, Bool, true, ◌&&◌, List, length, nat_le}
use Rattle.text.specs.Bytes.{letter, name_byte, every}
use Rattle.text.specs.Decimal.{says}

-- every name's text has 1 to 12 bytes, each a lower-case letter or a digit
pub record Shaped (t : List ℕ) : Type 0 where
  pub some : 1 ≤ length t
  pub short : length t ≤ 12
  pub bytes : every name_byte t ≡ true

-- a word: 1 to 12 letters
abbrev pub word : List ℕ → Bool
word t = (nat_le 1 (length t) && nat_le (length t) 12) && every letter t

-- a badge: a number from 0 to 65,535 in decimal, with no leading zero
abbrev pub badge : List ℕ → Bool
badge t = says t 0 65535
