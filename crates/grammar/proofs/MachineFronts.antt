-- The longest run of bytes in front, and the longest run from a place.
use Rattle.std.proofs.Common.{◌≡◌, ℕ, zero, suc, ◌+◌, ◌-◌, ◌<◌, ◌≤◌, Bool, true, false, List, [], ◌∷◌, length, get_or, take, drop, sym, refl, ap, ◌∙◌, subst, inl, inr, arith, length-drop, length-take}
use Rattle.std.proofs.lemmas.List.{get_or-drop}
use Rattle.std.proofs.lemmas.Bool.{cases_Bool}
use Rattle.text.specs.Bytes.{digit, between, Longest}
use Rattle.text.specs.Decimal.{says}
use Rattle.grammar.specs.Faults.{front, digits, Bad}
use Rattle.grammar.specs.Readings.{WrongNumber}

front_take : (test : ℕ → Bool) (n : ℕ) (w : List ℕ) → n ≤ length w → ((k : ℕ) → k < n → test (get_or w k 0) ≡ true) → (n < length w → test (get_or w n 0) ≡ false) → front test w ≡ take n w
front_take test zero [] l a s = refl
front_take test zero (b ∷ w) l a s = let e = s (omega arith) in rw e
front_take test (suc n) [] l a s = absurd (omega arith)
front_take test (suc n) (b ∷ w) l a s =
    let e = a 0 (omega arith) in
    rw e (ap (λ x. b ∷ x) (front_take test n w (omega arith) (λ k h. a (suc k) (omega arith)) (λ h. s (omega arith))))

-- the bytes in front are those up to the run's end
pub longest_front : (test : ℕ → Bool) (t : List ℕ) (p to : ℕ) → Longest test t p to → front test (drop p t) ≡ between t p to
longest_front test t p to h =
    let f = h.forward in
    let w = h.within in
    let n = length-drop p t in
    front_take test (to - p) (drop p t) (omega arith)
    (λ k l. ap test (get_or-drop p t k 0) ∙ h.all (p + k) (omega arith) (omega arith))
    (λ l. ap test (get_or-drop p t (to - p) 0 ∙ ap (λ x. get_or t x 0) (same f)) ∙ h.stops (omega arith))
  where
    same : p ≤ to → p + (to - p) ≡ to
    same f = omega arith

-- how far the run in front goes
record Fronted (test : ℕ → Bool) (w : List ℕ) (n : ℕ) : Type 0 where
  inside : n ≤ length w
  passing : (k : ℕ) → k < n → test (get_or w k 0) ≡ true
  stopping : n < length w → test (get_or w n 0) ≡ false

fronted : (test : ℕ → Bool) (w : List ℕ) → (n : ℕ) × Fronted test w n
fronted test [] = (0, record { inside = omega arith; passing = λ k h. absurd (omega arith); stopping = λ h. absurd (omega arith) })
fronted test (b ∷ w) = elim (cases_Bool (test b)) [ inl e ↦ go e (fronted test w) | inr e ↦ (0, record { inside = omega arith; passing = λ k h. absurd (omega arith); stopping = λ _. e }) ]
  where
    go : test b ≡ true → (n : ℕ) × Fronted test w n → (n : ℕ) × Fronted test (b ∷ w) n
    go e (n, f) = (suc n, record { inside = omega (arith, f.inside); passing = passes; stopping = λ h. f.stopping (omega arith) })
      where
        passes : (k : ℕ) → k < suc n → test (get_or (b ∷ w) k 0) ≡ true
        passes zero h = e
        passes (suc k) h = f.passing k (omega arith)

-- every place has a longest run from it
pub some_longest : (test : ℕ → Bool) (t : List ℕ) (p : ℕ) → p ≤ length t → (to : ℕ) × Longest test t p to
some_longest test t p l = go (fronted test (drop p t))
  where
    go : (n : ℕ) × Fronted test (drop p t) n → (to : ℕ) × Longest test t p to
    go (n, f) =
        let i = f.inside in
        let d = length-drop p t in (
          p + n,
          record {
            forward = omega arith;
            within = omega arith;
            all = λ k a b. (let e : p + (k - p) ≡ k = omega arith in ap (λ x. test (get_or t x 0)) (sym e) ∙ (sym (ap test (get_or-drop p t (k - p) 0)) ∙ f.passing (k - p) (omega arith)));
            stops = λ h. sym (ap test (get_or-drop p t n 0)) ∙ f.stopping (omega arith);
          },
        )

between_length : (t : List ℕ) (p to : ℕ) → to ≤ length t → length (between t p to) ≡ to - p
between_length t p to h = let d = length-drop p t in length-take (to - p) (drop p t) ∙ omega arith

-- a number that breaks its rule, by the digits in front and by the longest run
pub bad_number : (t : List ℕ) (p least most : ℕ) → p ≤ length t → Bad least most (digits (drop p t)) → WrongNumber t p least most
bad_number t p least most l b =
    let r = some_longest digit t p l in
    let e = longest_front digit t p r.0 r.1 in
    let n = between_length t p r.0 r.1.within in
    let z = b.0 in
    record {
      to = r.0;
      longest = r.1;
      some = omega (arith, ap length e);
      breaks = subst (λ w. says w least most ≡ false) e b.1;
    }

pub number_bad : (t : List ℕ) (p least most : ℕ) → WrongNumber t p least most → Bad least most (digits (drop p t))
number_bad t p least most w =
    let e = longest_front digit t p w.to w.longest in
    let n = between_length t p w.to w.longest.within in
    let s = w.some in
    (omega (arith, ap length e), subst (λ v. says v least most ≡ false) (sym e) w.breaks)
