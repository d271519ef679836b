use Rattle.std.specs.Prelude.{◌≡◌, ℤ, pos, negsuc, ◌+ℤ◌}
use Rattle.std.proofs.Common.{arith}
use Rattle.std.specs.Int.{int_min, int_max, saturate_to_bits}
use Rattle.std.proofs.lemmas.Int.{ints, clamps}

pub int_min-assoc : (x y z : ℤ) → int_min (int_min x y) z ≡ int_min x (int_min y z)
int_min-assoc x y z = omega (arith, ints, clamps)

pub int_max-assoc : (x y z : ℤ) → int_max (int_max x y) z ≡ int_max x (int_max y z)
int_max-assoc x y z = omega (arith, ints, clamps)

-- a sum that saturates is clamped
sat_is : (z : ℤ) → saturate_to_bits 31 z ≡ int_max (negsuc 2147483647) (int_min (pos 2147483647) z)
sat_is (pos n) = omega (arith, ints, clamps)
sat_is (negsuc n) = omega (arith, ints, clamps)

pub int_min-spreads : (x y c : ℤ) → saturate_to_bits 31 (int_min x y +ℤ c) ≡ int_min (saturate_to_bits 31 (x +ℤ c)) (saturate_to_bits 31 (y +ℤ c))
int_min-spreads x y c = rw (sat_is (int_min x y +ℤ c), sat_is (x +ℤ c), sat_is (y +ℤ c)) (omega (arith, ints, clamps))

pub int_max-spreads : (x y c : ℤ) → saturate_to_bits 31 (int_max x y +ℤ c) ≡ int_max (saturate_to_bits 31 (x +ℤ c)) (saturate_to_bits 31 (y +ℤ c))
int_max-spreads x y c = rw (sat_is (int_max x y +ℤ c), sat_is (x +ℤ c), sat_is (y +ℤ c)) (omega (arith, ints, clamps))
