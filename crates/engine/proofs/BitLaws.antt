use Rattle.std.proofs.Common.{◌≡◌, ℕ, suc, ◌+◌, ◌-◌, ◌*◌, ◌/◌, ◌%◌, ◌^◌, ◌<◌, ◌≤◌, min, max, Bool, true, false, ◌&&◌, ◌||◌, eqb, ltb, sym, refl, ap, ◌∙◌, inl, inr, pow-suc, arith, pow_pos, pow_mono, pow-add}
use lib.Bits.{bit_and, bit_or, and_shr, or_shr, and_step, or_step}
use native.Mathlib.Nat.{div-eq_of_lt, div_self}
use Rattle.std.proofs.lemmas.Nat.{shl-shr, pow_below, one_shl}
use Rattle.std.proofs.lemmas.Bool.{cases_order, cases_lt, eq-eqb, ne_eqb, lt-ltb, le-ltb}
use Rattle.std.proofs.lemmas.Bool.Decides.{nat_tests}
use Rattle.engine.specs.Scales.{bit}

and_low : (a b : ℕ) → bit_and a b % 2 ≡ min (a % 2) (b % 2)
and_low a b = omega (arith, and_step a b)

or_low : (a b : ℕ) → bit_or a b % 2 ≡ max (a % 2) (b % 2)
or_low a b = omega (arith, or_step a b)

and_test : (a b : ℕ) → a < 2 → b < 2 → eqb (min a b) 1 ≡ (eqb a 1 && eqb b 1)
and_test a b h k = grind (arith, nat_tests)

or_test : (a b : ℕ) → a < 2 → b < 2 → eqb (max a b) 1 ≡ (eqb a 1 || eqb b 1)
or_test a b h k = grind (arith, nat_tests)

pub bit-bit_and : (a b k : ℕ) → bit (bit_and a b) k ≡ (bit a k && bit b k)
bit-bit_and a b k = rw (and_shr, and_low) (and_test (a / 2 ^ k % 2) (b / 2 ^ k % 2) (omega arith) (omega arith))

pub bit-bit_or : (a b k : ℕ) → bit (bit_or a b) k ≡ (bit a k || bit b k)
bit-bit_or a b k = rw (or_shr, or_low) (or_test (a / 2 ^ k % 2) (b / 2 ^ k % 2) (omega arith) (omega arith))

below_pow : (a k : ℕ) → a < k → 2 ^ a / 2 ^ k % 2 ≡ 0
below_pow a k h = let e : 2 ^ a / 2 ^ k ≡ 0 = div-eq_of_lt (pow_below a k h) in rw e

above_pow : (k d : ℕ) → 2 ^ (suc d + k) / 2 ^ k % 2 ≡ 0
above_pow k d = rw (pow-add 2 (suc d) k, shl-shr (2 ^ suc d) k, pow-suc) (omega arith)

above : (a k : ℕ) → k < a → 2 ^ a / 2 ^ k % 2 ≡ 0
above a k h = let e : a ≡ suc (a - suc k) + k = omega arith in rw e (above_pow k (a - suc k))

here : (k : ℕ) → 2 ^ k / 2 ^ k % 2 ≡ 1
here k = rw (div_self (pow_pos k))

pub bit_pow : (a k : ℕ) → bit (2 ^ a) k ≡ eqb a k
bit_pow a k =
    elim (cases_order a k) [
      | inl e ↦ rw e (ap (λ n. eqb n 1) (here k) ∙ sym (eq-eqb k k refl))
      | inr (inl h) ↦ ap (λ n. eqb n 1) (below_pow a k h) ∙ sym (ne_eqb a k (λ e. omega arith))
      | inr (inr h) ↦ ap (λ n. eqb n 1) (above a k h) ∙ sym (ne_eqb a k (λ e. omega arith))
    ]

-- one bit more, of a number of w bits
pub bit_set : (w s a k : ℕ) → a < w → bit (bit_or s ((1 * 2 ^ a) % 2 ^ w)) k ≡ (bit s k || eqb a k)
bit_set w s a k h = rw (one_shl a w h) (bit-bit_or s (2 ^ a) k ∙ ap (λ t. bit s k || t) (bit_pow a k))

-- the same of bays, which are below 64
pub bays_and : (a b k : ℕ) → (ltb k 64 && bit (bit_and a b) k) ≡ ((ltb k 64 && bit a k) && (ltb k 64 && bit b k))
bays_and a b k = ap (λ t. ltb k 64 && t) (bit-bit_and a b k) ∙ split (ltb k 64) (bit a k) (bit b k)
  where
    split : (x y z : Bool) → (x && (y && z)) ≡ ((x && y) && (x && z))
    split true y z = refl
    split false y z = refl

pub bays_set : (s a k : ℕ) → a < 64 → (ltb k 64 && bit (bit_or s ((1 * 2 ^ a) % 2 ^ 64)) k) ≡ ((ltb k 64 && bit s k) || (ltb a 64 && eqb a k))
bays_set s a k h = ap (λ t. ltb k 64 && t) (bit_set 64 s a k h) ∙ (elim (cases_lt k 64) [
  | inl l ↦ rw (lt-ltb k 64 l, lt-ltb a 64 h)
  | inr l ↦ let ne : eqb a k ≡ false = ne_eqb a k (λ e. omega arith) in rw (le-ltb k 64 l, lt-ltb a 64 h) (sym ne)
])

-- a number of w bits has no bit beyond them
pub bit_past : (n w k : ℕ) → n < 2 ^ w → w ≤ k → bit n k ≡ false
bit_past n w k h l =
    let e : n / 2 ^ k ≡ 0 = div-eq_of_lt (omega (arith, pow_mono {i = w} {j = k} l)) in
    ap (λ x. eqb (x % 2) 1) e
