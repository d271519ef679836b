-- The value of digits, one by one.
use Rattle.std.specs.Prelude.{◌≡◌, ℕ, zero, suc, ◌+◌, ◌-◌, ◌*◌, ◌/◌, ◌%◌, ◌^◌, ◌<◌, ◌≤◌, true, false, ◌⊎◌, List, [], ◌∷◌, ◌++◌, length, take, drop, set, decimal, ◌≢◌, slice_index, slice_set, refl}
use Rattle.std.proofs.Common.{sym, ap, ◌∙◌, append_assoc, inl, inr, arith, add-one}
use Rattle.std.proofs.lemmas.Bool.Decides.{nat_tests}
use Rattle.std.proofs.lemmas.List.{take_all, length-append, length-drop, length_push, drop_more, set_at}
use Rattle.std.proofs.lemmas.Fmt.{decimal_digit, decimal_step}
use Rattle.text.specs.Bytes.{digit, every}
use Rattle.text.specs.Decimal.{value_after, value, plain, says}
use Rattle.text.specs.Bools.{refute, clash, every_at, every_more}

grows : (n : ℕ) (w : List ℕ) → n ≤ value_after n w
grows n [] = omega arith
grows n (b ∷ w) = omega (arith, grows (10 * n + (b - 48)) w)

-- a beginning says no more than the whole
pub beginning : (i n : ℕ) (w : List ℕ) → value_after n (take i w) ≤ value_after n w
beginning zero n w = grows n w
beginning (suc i) n [] = omega arith
beginning (suc i) n (b ∷ w) = beginning i (10 * n + (b - 48)) w

next : (i n : ℕ) (w : List ℕ) → i < length w → value_after n (take (suc i) w) ≡ 10 * value_after n (take i w) + (slice_index w i - 48)
next zero n (b ∷ w) h = refl
next (suc i) n (b ∷ w) h = next i (10 * n + (b - 48)) w (omega arith)
next i n [] h = absurd (omega arith)

-- one digit more
pub value_more : (w : List ℕ) (i : ℕ) → i < length w → value (take (i + 1) w) ≡ 10 * value (take i w) + (slice_index w i - 48)
value_more w i h = rw add-one (next i 0 w h)

pub plain_from : (w : List ℕ) → 0 < length w → (1 < length w → slice_index w 0 ≢ 48) → plain w ≡ true
plain_from [] h k = absurd (omega arith)
plain_from (b ∷ []) h k = refl
plain_from (b ∷ c ∷ w) h k = let q : b ≡ 48 → ⊥ = k (omega arith) in grind (arith, nat_tests)

pub plain_some : (w : List ℕ) → plain w ≡ true → 0 < length w
plain_some [] e = let z : ◌≡◌ {A = ℕ} 0 1 = cc in omega arith
plain_some (b ∷ w) e = omega arith

pub plain_first : (w : List ℕ) → plain w ≡ true → 1 < length w → slice_index w 0 ≢ 48
plain_first [] e h k = omega arith
plain_first (b ∷ []) e h k = omega arith
plain_first (b ∷ c ∷ w) e h k = grind (arith, nat_tests)

-- a zero in front stands alone
pub plain_alone : (w : List ℕ) → plain w ≡ true → slice_index w 0 ≡ 48 → length w ≡ 1
plain_alone [] e k = absurd (omega (arith, plain_some [] e))
plain_alone (b ∷ []) e k = refl
plain_alone (b ∷ c ∷ w) e k = absurd (plain_first (b ∷ c ∷ w) e (omega arith) k)

-- what digits say, part by part
pub record Said (w : List ℕ) (least most : ℕ) : Type 0 where
  pub digits : every digit w ≡ true
  pub plainly : plain w ≡ true
  pub low : least ≤ value w
  pub high : value w ≤ most

pub said : (w : List ℕ) (least most : ℕ) → says w least most ≡ true → Said w least most
said w least most h = grind (arith, nat_tests)

pub says_from : (w : List ℕ) (least most : ℕ) → Said w least most → says w least most ≡ true
says_from w least most s = grind (arith, nat_tests)

pub unsaid : (w : List ℕ) (least most : ℕ) → (Said w least most → ⊥) → says w least most ≡ false
unsaid w least most h = refute (says w least most) (λ e. h (said w least most e))

-- the steps of `number`
pub record Read (w : List ℕ) (most n i : ℕ) : Type 0 where
  pub worth : n ≡ value (take i w)
  pub digits : every digit (take i w) ≡ true
  pub small : n ≤ most

pub read_none : (w : List ℕ) (most : ℕ) → Read w most 0 0
read_none w most = record { worth = refl; digits = refl; small = omega arith }

pub read_more : (w : List ℕ) (most n m i : ℕ) → i < length w → digit (slice_index w i) ≡ true → m ≡ 10 * n + (slice_index w i - 48) → m ≤ most → Read w most n i → Read w most m (i + 1)
read_more w most n m i h d e k r = record {
  worth = e ∙ omega (arith, r.worth, value_more w i h);
  digits = every_more digit w i h r.digits d;
  small = k;
}

-- a byte that is no digit
pub no_digit : (w : List ℕ) (least most i : ℕ) → i < length w → digit (slice_index w i) ≡ false → says w least most ≡ false
no_digit w least most i h bad = unsaid w least most (λ s. clash (every_at digit w i h s.digits) bad)

-- the digits so far say too much
pub too_much : (w : List ℕ) (least most n m i : ℕ) → i < length w → m ≡ 10 * n + (slice_index w i - 48) → most < m → n ≡ value (take i w) → says w least most ≡ false
too_much w least most n m i h e k worth =
    unsaid w least most (λ s. omega (arith, s.high, beginning (i + 1) 0 w, value_more w i h))

pub too_little : (w : List ℕ) (least most n i : ℕ) → length w ≤ i → n < least → Read w most n i → says w least most ≡ false
too_little w least most n i h k r =
    unsaid w least most (λ s. omega (arith, s.low, r.worth, ap value (take_all i w h)))

-- the first bytes are no number
pub not_plain : (w : List ℕ) (least most : ℕ) → (length w ≡ 0) ⊎ ((1 < length w) × (slice_index w 0 ≡ 48)) → says w least most ≡ false
not_plain w least most bad =
    unsaid w least most (λ s.
    elim bad [ inl a ↦ omega (arith, plain_some w s.plainly) | inr b ↦ plain_first w s.plainly b.0 b.1 ])

pub read_all : (w : List ℕ) (least most n i : ℕ) → length w ≤ i → plain w ≡ true → least ≤ n → Read w most n i → (says w least most ≡ true) × (n ≡ value w)
read_all w least most n i h p k r =
    let e : n ≡ value w = r.worth ∙ ap value (take_all i w h) in
    (says_from w least most (record { digits = rw (take_all i w h) at r.digits; plainly = p; low = omega arith; high = omega (arith, r.small) }), e)

-- the steps of `digits` and `put`
pub length_one : (n : ℕ) → n < 10 → length (decimal n) ≡ 1
length_one n h = ap length (decimal_digit n h)

pub length_step : (n : ℕ) → 10 ≤ n → n < 2 ^ 32 → length (decimal n) ≡ length (decimal (n / 10)) + 1
length_step n h k = ap length (decimal_step n h (omega arith)) ∙ length_push (decimal (n / 10)) (48 + n % 10)

pub put_one : (n : ℕ) (b : List ℕ) → n < 10 → 0 < length b → slice_set b 0 (48 + n) ≡ decimal n ++ drop 1 b
put_one n [] h l = absurd (omega arith)
put_one n (x ∷ xs) h l = ap (λ p. p ++ xs) (sym (decimal_digit n h))

pub put_more : (n k : ℕ) (b now : List ℕ) → 10 ≤ n → n < 2 ^ 32 → k ≡ length (decimal (n / 10)) → k < length b → now ≡ decimal (n / 10) ++ drop k b → slice_set now k (48 + n % 10) ≡ decimal n ++ drop (k + 1) b
put_more n k b now h s e l w =
    ap (λ p. set p k (48 + n % 10)) (w ∙ ap (λ q. decimal (n / 10) ++ q) (drop_more b k 0 l))
    ∙ set_at (decimal (n / 10)) (slice_index b k) (drop (k + 1) b) (48 + n % 10) k (sym e)
    ∙ sym (append_assoc (decimal (n / 10)) ((48 + n % 10) ∷ []) (drop (k + 1) b))
    ∙ ap (λ p. p ++ drop (k + 1) b) (sym (decimal_step n h (omega arith)))

pub now_length : (n k : ℕ) (b now : List ℕ) → k ≡ length (decimal (n / 10)) → k < length b → now ≡ decimal (n / 10) ++ drop k b → k < length now
now_length n k b now e l w = rw w (simp (length-append, length-drop) (omega arith))
