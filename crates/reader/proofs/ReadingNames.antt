-- Which byte stands before a place, by the mode there.
use Rattle.std.proofs.Common.{◌≡◌, ℕ, zero, suc, ◌+◌, ◌-◌, ◌<◌, ◌≤◌, Bool, true, false, cond, ◌&&◌, ◌||◌, eqb, ltb, leb, ◌⊎◌, List, [], ◌∷◌, length, get_or, sym, refl, ap, ◌∙◌, subst, inl, inr, arith, eqb-true}
use Rattle.std.proofs.lemmas.Bool.Decides.{nat_tests}
use Rattle.text.specs.Bytes.{digit, name_byte}
use Rattle.text.specs.Parts.{number_may_begin}
use Rattle.grammar.specs.Form.{least, most}
use Rattle.grammar.specs.Machine.{fresh, opening, naming, colon, negating, shifting, at, housing, ended, Frame, State, dead, live, ends, step}
use Rattle.grammar.specs.Faults.{before}
use Rattle.reader.proofs.ReadingSteps.{advance}

-- a byte that a number may follow
abbrev pub marks_number : ℕ → Bool
marks_number b = (eqb b 58 || eqb b 64) || eqb b 45

-- what the byte is that led to a state
abbrev pub Led : ℕ → State → Type 0
Led b dead = Unit {0}
Led b (live fs fresh) = (name_byte b ≡ false) × (marks_number b ≡ false)
Led b (live fs (opening s)) = Unit {0}
Led b (live fs naming) = name_byte b ≡ true
Led b (live fs colon) = marks_number b ≡ true
Led b (live fs negating) = marks_number b ≡ true
Led b (live fs shifting) = name_byte b ≡ true
Led b (live fs at) = marks_number b ≡ true
Led b (live fs housing) = name_byte b ≡ true
Led b (live fs ended) = Unit {0}

choose : (P : State → Type 0) (x : Bool) {s r : State} → (x ≡ true → P s) → P r → P (cond x s r)
choose P true f g = f refl
choose P false f g = g

first_of : (x y : Bool) → (x && y) ≡ true → x ≡ true
first_of true y e = refl
first_of false y e = e

digit_named : (b : ℕ) → digit b ≡ true → name_byte b ≡ true
digit_named b e = grind (arith, nat_tests, e)

module _ (b : ℕ) where
  is : (n : ℕ) (P : ℕ → Type 0) → eqb b n ≡ true → P n → P b
  is n P e h = subst P (sym (eqb-true b n e)) h

  dotted : eqb b 46 ≡ true → (name_byte b ≡ false) × (marks_number b ≡ false)
  dotted e = is 46 (λ x. (name_byte x ≡ false) × (marks_number x ≡ false)) e (refl, refl)

  ends_led : (fs : List Frame) → Led b (ends fs b)
  ends_led [] = choose (Led b) (eqb b 46) dotted tt
  ends_led (f ∷ fs) =
      choose (Led b) (eqb b 46) dotted
      (choose (Led b) (eqb b 44 && ltb f.count (most f.sort))
      (λ e. is 44 (λ x. (name_byte x ≡ false) × (marks_number x ≡ false)) (first_of (eqb b 44) _ e) (refl, refl))
      (choose (Led b) (eqb b 41 && leb (least f.sort) f.count) (λ _. tt) tt))

  pub led : (s : State) → Led b (step s b)
  led dead = tt
  led (live fs fresh) =
      choose (Led b) (name_byte b) (λ k. k)
      (choose (Led b) (eqb b 95) (λ _. tt) (choose (Led b) (eqb b 33) (λ _. tt) (choose (Led b) (eqb b 43) (λ _. tt) (choose (Led b) (eqb b 124) (λ _. tt) tt))))
  led (live fs (opening s)) =
      choose (Led b) (eqb b 40) (λ e. is 40 (λ x. (name_byte x ≡ false) × (marks_number x ≡ false)) e (refl, refl)) tt
  led (live fs naming) =
      choose (Led b) (name_byte b) (λ k. k)
      (choose (Led b) (eqb b 58) (λ e. is 58 (λ x. marks_number x ≡ true) e refl) (choose (Led b) (eqb b 64) (λ e. is 64 (λ x. marks_number x ≡ true) e refl) (ends_led fs)))
  led (live fs colon) =
      choose (Led b) (digit b) (digit_named b) (choose (Led b) (eqb b 45) (λ e. is 45 (λ x. marks_number x ≡ true) e refl) tt)
  led (live fs negating) = choose (Led b) (digit b) (digit_named b) tt
  led (live fs shifting) =
      choose (Led b) (digit b) (digit_named b) (choose (Led b) (eqb b 64) (λ e. is 64 (λ x. marks_number x ≡ true) e refl) (ends_led fs))
  led (live fs at) = choose (Led b) (digit b) (digit_named b) tt
  led (live fs housing) = choose (Led b) (digit b) (digit_named b) (ends_led fs)
  led (live fs ended) = ends_led fs

-- the byte before a place
pub led_to : (t : List ℕ) (p : ℕ) (s : State) → before t (p + 1) ≡ s → p < length t → Led (get_or t p 0) s
led_to t p s e l = subst (Led (get_or t p 0)) (sym (advance t p l) ∙ e) (led (get_or t p 0) (before t p))

pub may_at : (t : List ℕ) (p : ℕ) → number_may_begin t (p + 1) ≡ marks_number (get_or t p 0)
may_at t p =
    let z : ltb 0 (p + 1) ≡ true = grind (arith, nat_tests) in
    let f : p + 1 - 1 ≡ p = omega arith in
    rw (z, f)

-- the byte before a place that is not the first
pub split_place : (p : ℕ) → (p ≡ 0) ⊎ ((q : ℕ) × (p ≡ q + 1))
split_place zero = inl refl
split_place (suc q) = inr (q, omega arith)

-- before an item no number may begin
pub fresh_no_number : (t : List ℕ) (p : ℕ) (fs : List Frame) → p ≤ length t → before t p ≡ live fs fresh → number_may_begin t p ≡ false
fresh_no_number t p fs l e =
    elim (split_place p) [
      | inl z ↦ subst (λ x. number_may_begin t x ≡ false) (sym z) refl
      | inr (q, z) ↦
          subst (λ x. number_may_begin t x ≡ false) (sym z)
          (may_at t q ∙ (led_to t q (live fs fresh) (ap (before t) (sym z) ∙ e) (omega arith)).1)
    ]
