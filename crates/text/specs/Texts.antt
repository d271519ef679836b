-- The texts of words and badges.
use Rattle.std.specs.Prelude.{◌≡◌, ℕ, zero, suc, ◌+◌, ◌^◌, ◌<◌, ◌≤◌, Bool, true, false, List, [], ◌∷◌, ◌++◌, length, take, decimal, slice_index, slice_set}
use Rattle.std.proofs.Common.{sym, ap, ◌∙◌, arith, rules}
use Rattle.std.proofs.lemmas.Bool.Decides.{nat_tests}
use Rattle.std.proofs.ByRecursion.{All-weaker}
use Rattle.std.proofs.lemmas.List.{take_more, take_more_set, take_all}
use Rattle.std.proofs.lemmas.Str.Parse.{IsNumeralModel, numerals_by_fold}
use Rattle.std.proofs.lemmas.Fmt.{decimal_nonempty, first_decimal, digits_decimal, digits_value-decimal, decimal-digits_value, length-decimal-le, decimal_digit}
use Rattle.text.specs.Bytes.{digit, letter, name_byte, every}
use Rattle.text.specs.Decimal.{value_after, value, says, DecimalsAgree}
use Rattle.text.specs.Names.{Shaped, word, badge}
use Rattle.text.specs.Bools.{refute, clash, every_all, every_at}
use Rattle.text.specs.Numbers.{said, says_from, plain_from, plain_some, plain_alone}

every_weaker : (f g : ℕ → Bool) → ((b : ℕ) → f b ≡ true → g b ≡ true) → (t : List ℕ) → every f t ≡ true → every g t ≡ true
every_weaker f g w t e = (every_all g t).1 (All-weaker (λ b. f b ≡ true) (λ b. g b ≡ true) w t ((every_all f t).0 e))

-- words
pub word_parts : (t : List ℕ) → word t ≡ true → (1 ≤ length t) × (length t ≤ 12) × (every letter t ≡ true)
word_parts t h = grind (arith, nat_tests)

pub word_from : (t : List ℕ) → 1 ≤ length t → length t ≤ 12 → every letter t ≡ true → word t ≡ true
word_from t a b e = grind (arith, nat_tests)

letter_in_name : (b : ℕ) → letter b ≡ true → name_byte b ≡ true
letter_in_name b e = rw e

digit_in_name : (b : ℕ) → digit b ≡ true → name_byte b ≡ true
digit_in_name b e = grind (arith, nat_tests)

pub word_shaped : (t : List ℕ) → word t ≡ true → Shaped t
word_shaped t h =
    let p = word_parts t h in
    record { some = p.0; short = p.1; bytes = every_weaker letter name_byte letter_in_name t p.2 }

pub no_letter : (t : List ℕ) (i : ℕ) → i < length t → letter (slice_index t i) ≡ false → word t ≡ false
no_letter t i h bad = refute (word t) (λ w. clash (every_at letter t i h (word_parts t w).2) bad)

pub copied : (s t : List ℕ) (i : ℕ) → i < length s → i < length t → take i s ≡ take i t → take (i + 1) (slice_set s i (slice_index t i)) ≡ take (i + 1) t
copied s t i h k e = take_more_set s i (slice_index t i) h ∙ ap (λ p. p ++ (slice_index t i ∷ [])) e ∙ sym (take_more t i 0 k)

pub whole : (s t : List ℕ) (i : ℕ) → i ≤ length t → length t ≤ i → take i s ≡ take i t → take (length t) s ≡ t
whole s t i a b e = let q : length t ≡ i = omega arith in rw q (e ∙ take_all i t b)

-- digits and the numbers that they say
own : IsNumeralModel (λ w. every digit w ≡ true) (value_after 0)
own = numerals_by_fold _ (search rules) value_after (search rules)

-- digits that are plainly written are those that their value is written with
pub text_of_value : (w : List ℕ) (least most : ℕ) → most < 2 ^ 32 → says w least most ≡ true → decimal (value w) ≡ w
text_of_value w least most k h =
    let s = said w least most h in
    decimal-digits_value own w s.digits (plain_some w s.plainly) (plain_alone w s.plainly) (omega (arith, s.high))

first_digit : (n : ℕ) → n < 2 ^ 32 → slice_index (decimal n) 0 ≡ 48 → length (decimal n) ≡ 1
first_digit zero h e = ap length (decimal_digit 0 (omega arith))
first_digit (suc n) h e = absurd (omega (arith, first_decimal (suc n) (omega arith) (omega arith)))

-- a number's digits say it
pub number_said : (n least most : ℕ) → n < 2 ^ 32 → least ≤ n → n ≤ most → says (decimal n) least most ≡ true
number_said n least most h lo hi =
    let v = digits_value-decimal own n (omega arith) in
    says_from (decimal n) least most (record {
      digits = digits_decimal own n (omega arith);
      plainly = plain_from (decimal n) (decimal_nonempty n (omega arith)) (λ k e. omega (arith, first_digit n h e));
      low = omega (arith, v);
      high = omega (arith, v);
    })

pub decimals_agree : DecimalsAgree
decimals_agree = (λ n h. number_said n n n h (omega arith) (omega arith), text_of_value)

-- badges
pub badge_text : (t : List ℕ) → badge t ≡ true → decimal (value t) ≡ t
badge_text t h = text_of_value t 0 65535 (omega arith) h

pub badge_shaped : (t : List ℕ) → badge t ≡ true → Shaped t
badge_shaped t h =
    let s = said t 0 65535 h in
    let five = length-decimal-le 5 (value t) (omega arith) (omega (arith, s.high)) (omega (arith, s.high)) in
    record {
      some = plain_some t s.plainly;
      short = omega (arith, rw (badge_text t h) at five);
      bytes = every_weaker digit name_byte digit_in_name t s.digits;
    }

pub badge_named : (n : ℕ) → n < 65536 → badge (decimal n) ≡ true
badge_named n h = number_said n 0 65535 (omega arith) (omega arith) (omega arith)
