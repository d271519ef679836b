-- What spans and bays mean: where they start, how two are joined, and what a leaf's marks add.
use Rattle.std.specs.Prelude.{ℕ, ◌/◌, ◌%◌, ◌^◌, Bool, false, ◌&&◌, ◌||◌, ℤ, pos, ◌+ℤ◌, Some, None, Option, ◌==◌, nat_lt}
use Rattle.std.specs.Int.{int_min, int_max, saturate_to_bits}
use Rattle.grammar.specs.declared.leaf.Marks.{Marks}
use Rattle.engine.specs.declared.bays.Bays.{Bays}

-- a span: the least and the greatest; both start at 0
abbrev pub no_span : ℤ × ℤ
no_span = (pos 0, pos 0)

-- the lesser of the least, the greater of the greatest
abbrev pub wider : ℤ × ℤ → ℤ × ℤ → ℤ × ℤ
wider x y = (int_min x.0 y.0, int_max x.1 y.1)

-- the correction is added to both, and a sum beyond 32 bits stays at the bound
abbrev pub moved_by : ℤ × ℤ → Marks → ℤ × ℤ
moved_by x m = (saturate_to_bits 31 (x.0 +ℤ m.correction), saturate_to_bits 31 (x.1 +ℤ m.correction))

-- whether n has the bit of 2 ^ b
abbrev pub bit : ℕ → ℕ → Bool
bit n b = n / 2 ^ b % 2 == 1

-- the set that bays mean, of the numbers 0 to 63
abbrev pub bays_of : Bays → ℕ → Bool
bays_of s b = nat_lt b 64 && bit s.bits b

-- a set of bays: the empty one, the bays of both, and one bay more
abbrev pub no_bay : ℕ → Bool
no_bay b = false

abbrev pub both : (ℕ → Bool) → (ℕ → Bool) → ℕ → Bool
both x y b = x b && y b

-- whether b is the bay that a leaf asks for; there are 64
abbrev pub asked : Option ℕ → ℕ → Bool
asked None b = false
asked (Some a) b = nat_lt a 64 && a == b

abbrev pub with_bay : (ℕ → Bool) → Marks → ℕ → Bool
with_bay x m b = x b || asked m.bay b
