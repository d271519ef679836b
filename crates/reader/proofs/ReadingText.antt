-- The bytes of a text from a place up to another, and the texts of marks.
use Rattle.std.proofs.Common.{◌≡◌, ℕ, zero, suc, ◌+◌, ◌-◌, ◌^◌, ◌<◌, ◌≤◌, Bool, true, false, ◌||◌, eqb, ltb, List, [], ◌∷◌, ◌++◌, length, get_or, take, drop, ℤ, pos, neg_ℤ, Some, decimal, sym, refl, ap, ◌∙◌, arith, drop-drop, take-add, eqb-true}
use mir.Val.{bool_byte}
use Rattle.std.proofs.lemmas.List.{drop_more}
use Rattle.std.proofs.lemmas.Bool.Decides.{nat_tests}
use Rattle.text.specs.Bytes.{digit, between}
use Rattle.text.specs.Decimal.{says, value, farthest, signed_value}
use Rattle.text.specs.Parts.{Run, number_may_begin}
use Rattle.text.specs.Numbers.{said}
use Rattle.text.specs.Texts.{decimals_agree}
use Rattle.grammar.specs.Written.{correction_text, bay_text}
use Rattle.reader.proofs.ReadingParts.{run_end}

pub between_none : (t : List ℕ) (p : ℕ) → between t p p ≡ []
between_none t p = let e : p - p ≡ 0 = omega arith in ap (λ n. take n (drop p t)) e

pub between_cons : (t : List ℕ) (p q : ℕ) → p < q → p < length t → between t p q ≡ get_or t p 0 ∷ between t (p + 1) q
between_cons t p q l w =
    let e : q - p ≡ suc (q - (p + 1)) = omega arith in
    ap (λ n. take n (drop p t)) e ∙ ap (take (suc (q - (p + 1)))) (drop_more t p 0 w)

pub between_append : (t : List ℕ) (p q r : ℕ) → p ≤ q → q ≤ r → between t p r ≡ between t p q ++ between t q r
between_append t p q r l m =
    let e : r - p ≡ (q - p) + (r - q) = omega arith in
    let f : p + (q - p) ≡ q = omega arith in
    ap (λ n. take n (drop p t)) e
    ∙ (take-add (q - p) (r - q) (drop p t) ∙ ap (λ x. between t p q ++ take (r - q) x) (drop-drop (q - p) p t ∙ ap (λ n. drop n t) f))

pub run_between : (test : ℕ → Bool) (t : List ℕ) (p : ℕ) (w : List ℕ) → Run test t p w → between t p (p + length w) ≡ w
run_between test t p w r = ap (between t p) (sym (run_end test t p w r)) ∙ sym r.3

-- digits that say a number are those that it is written with
pub number_text : (w : List ℕ) (least most : ℕ) → most < 2 ^ 32 → says w least most ≡ true → decimal (value w) ≡ w
number_text w least most l s = decimals_agree.1 w least most l s

plus_text : (n : ℕ) → 1 ≤ n → correction_text (pos n) ≡ 58 ∷ decimal n
plus_text zero h = absurd (omega arith)
plus_text (suc n) h = refl

minus_text : (n : ℕ) → 1 ≤ n → correction_text (neg_ℤ (pos n)) ≡ 58 ∷ 45 ∷ decimal n
minus_text zero h = absurd (omega arith)
minus_text (suc n) h = refl

-- a bay's text
pub bay_text_of : (t : List ℕ) (p : ℕ) (w : List ℕ) (n : ℕ) → p < length t → get_or t p 0 ≡ 64 → Run digit t (p + 1) w → says w 0 63 ≡ true → n ≡ value w
    → between t p (p + 1 + length w) ≡ bay_text (Some n)
bay_text_of t p w n l e r s v =
    between_cons t p (p + 1 + length w) (omega arith) l
    ∙ (ap (λ b. b ∷ between t (p + 1) (p + 1 + length w)) e
    ∙ ap (λ x. 64 ∷ x) (run_between digit t (p + 1) w r ∙ (sym (number_text w 0 63 (omega arith) s) ∙ ap decimal (sym v))))

-- a correction's text
pub correction_text_of : (m : Bool) (t : List ℕ) (p q : ℕ) (w : List ℕ) (z : ℤ) → p + 1 < length t → get_or t p 0 ≡ 58 → eqb (get_or t (p + 1) 0) 45 ≡ m
    → q ≡ p + 1 + bool_byte m → Run digit t q w → says w 1 (farthest m) ≡ true → z ≡ signed_value m (value w) → between t p (q + length w) ≡ correction_text z
correction_text_of true t p q w z l e f g r s v =
    let low = (said w 1 32768 s).low in
    let h : between t q (q + length w) ≡ decimal (value w) = run_between digit t q w r ∙ sym (number_text w 1 32768 (omega arith) s) in
    between_cons t p (q + length w) (omega arith) (omega arith)
    ∙ (ap (λ b. b ∷ between t (p + 1) (q + length w)) e
    ∙ (ap (λ x. 58 ∷ x) (between_cons t (p + 1) (q + length w) (omega arith) l
    ∙ (ap (λ b. b ∷ between t (p + 1 + 1) (q + length w)) (eqb-true _ _ f) ∙ ap (λ x. 45 ∷ x) (ap (λ x. between t x (q + length w)) (sym g) ∙ h)))
    ∙ (sym (minus_text (value w) low) ∙ ap correction_text (sym v))))
correction_text_of false t p q w z l e f g r s v =
    let low = (said w 1 32767 s).low in
    let i : q ≡ p + 1 = omega arith in
    let h : between t q (q + length w) ≡ decimal (value w) = run_between digit t q w r ∙ sym (number_text w 1 32767 (omega arith) s) in
    between_cons t p (q + length w) (omega arith) (omega arith)
    ∙ (ap (λ b. b ∷ between t (p + 1) (q + length w)) e
    ∙ (ap (λ x. 58 ∷ x) (ap (λ x. between t x (q + length w)) (sym i) ∙ h) ∙ (sym (plus_text (value w) low) ∙ ap correction_text (sym v))))

-- a number may begin behind such a byte
pub may_begin : (t : List ℕ) (p b : ℕ) → get_or t p 0 ≡ b → ((eqb b 58 || eqb b 64) || eqb b 45) ≡ true → number_may_begin t (p + 1) ≡ true
may_begin t p b e h =
    let z : ltb 0 (p + 1) ≡ true = grind (arith, nat_tests) in
    let f : p + 1 - 1 ≡ p = omega arith in
    rw (z, f, e) h
