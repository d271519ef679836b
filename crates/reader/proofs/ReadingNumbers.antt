-- Corrections and bays, as the reader finds them behind a name.
use Rattle.std.proofs.Common.{◌≡◌, ℕ, ◌+◌, ◌<◌, ◌≤◌, Bool, true, false, eqb, List, length, get_or, sym, refl, subst, arith, eqb-true}
use mir.Val.{bool_byte}
use Rattle.text.specs.Bytes.{digit, between, Longest}
use Rattle.text.specs.Decimal.{says, farthest}
use Rattle.text.specs.Parts.{Run, number_may_begin}
use Rattle.grammar.specs.Machine.{Frame, naming}
use Rattle.grammar.specs.Faults.{First}
use Rattle.reader.specs.Reading.{spot_at, any, Here, Whole, Marked}
use Rattle.grammar.specs.declared.refusal.Refusal.TheVariants.{Form, Mark}
use Rattle.reader.proofs.ReadingParts.{apart, run_end}
use Rattle.reader.proofs.ReadingText.{may_begin}
use Rattle.reader.proofs.ReadingMoves.{stands_within}
use Rattle.reader.proofs.ReadingMarks.{shift_opens, shift_none, shift_wrong, shift_right, minus_none, minus_wrong, minus_right, bay_opens, bay_wrong, bay_right}

pub byte_within : (t : List ℕ) (p : ℕ) → 0 < get_or t p 0 → p < length t
byte_within t p h = stands_within (spot_at t p 0 0) h

-- the run that begins at q, at an equal place
module _ {t : List ℕ} {q : ℕ} {w : List ℕ} (r : Run digit t q w) where
  there : (p : ℕ) → q ≡ p → Longest digit t p r.0
  there p e = subst (λ x. Longest digit t x r.0) e r.1

  some : (p : ℕ) → q ≡ p → p < r.0
  some p e = omega (arith, r.2, e)

  tells_there : (p : ℕ) → q ≡ p → (least most : ℕ) (b : Bool) → says w least most ≡ b → says (between t p r.0) least most ≡ b
  tells_there p e least most b s = subst (λ x. says (between t x r.0) least most ≡ b) e (subst (λ v. says v least most ≡ b) r.3 s)

module _ (t : List ℕ) (p q : ℕ) (e : get_or t p 0 ≡ 58) where
  -- digits are a number there
  pub correction_from : (m : Bool) → eqb (get_or t (p + 1) 0) 45 ≡ m → q ≡ p + 1 + bool_byte m → (q ≤ length t) × (number_may_begin t q ≡ true)
  correction_from true f g =
      let l = byte_within t (p + 1) (omega (arith, eqb-true _ _ f)) in
      (omega arith, subst (λ x. number_may_begin t x ≡ true) (sym g) (may_begin t (p + 1) 45 (eqb-true _ _ f) refl))
  correction_from false f g =
      let l = byte_within t p (omega arith) in
      let i : p + 1 ≡ q = omega arith in
      (omega arith, subst (λ x. number_may_begin t x ≡ true) i (may_begin t p 58 e refl))

  module _ (n k : ℕ) (fs : List Frame) (h : Here (spot_at t p n k) fs naming) where
    pub correction_none : (m : Bool) → eqb (get_or t (p + 1) 0) 45 ≡ m → q ≡ p + 1 + bool_byte m → Longest digit t q q → First any t (Form q)
    correction_none true f g d =
        subst (λ x. First any t (Form x)) (sym g) (minus_none (shift_opens h e) (eqb-true _ _ f) (subst (λ x. Longest digit t x x) g d))
    correction_none false f g d =
        let i : q ≡ p + 1 = omega arith in
        subst (λ x. First any t (Form x)) (sym i) (shift_none (shift_opens h e) (apart f) (subst (λ x. Longest digit t x x) i d))

    pub correction_wrong : (m : Bool) (w : List ℕ) → eqb (get_or t (p + 1) 0) 45 ≡ m → q ≡ p + 1 + bool_byte m → Run digit t q w → says w 1 (farthest m) ≡ false → First any t (Mark (p + 1))
    correction_wrong true w f g r s = minus_wrong r.0 (shift_opens h e) (eqb-true _ _ f) (there r _ g) (some r _ g) (tells_there r _ g 1 32768 false s)
    correction_wrong false w f g r s =
        let i : q ≡ p + 1 = omega arith in
        shift_wrong r.0 (shift_opens h e) (apart f) (there r _ i) (some r _ i) (tells_there r _ i 1 32767 false s)

    pub correction_right : (m : Bool) (w : List ℕ) → eqb (get_or t (p + 1) 0) 45 ≡ m → q ≡ p + 1 + bool_byte m → Run digit t q w → says w 1 (farthest m) ≡ true → Marked (spot_at t (q + length w) n k) fs
    correction_right true w f g r s =
        subst (λ x. Marked (spot_at t x n k) fs) (run_end digit t q w r)
        (minus_right r.0 (shift_opens h e) (eqb-true _ _ f) (there r _ g) (some r _ g) (tells_there r _ g 1 32768 true s))
    correction_right false w f g r s =
        let i : q ≡ p + 1 = omega arith in
        subst (λ x. Marked (spot_at t x n k) fs) (run_end digit t q w r)
        (shift_right r.0 (shift_opens h e) (apart f) (there r _ i) (some r _ i) (tells_there r _ i 1 32767 true s))

module _ (t : List ℕ) (p n k : ℕ) (fs : List Frame) (h : Marked (spot_at t p n k) fs) (e : get_or t p 0 ≡ 64) where
  pub bay_wrong_there : (w : List ℕ) → Run digit t (p + 1) w → says w 0 63 ≡ false → First any t (Mark (p + 1))
  bay_wrong_there w r s = bay_wrong r.0 (bay_opens h e) r.1 r.2 (tells_there r _ refl 0 63 false s)

  pub bay_right_there : (w : List ℕ) → Run digit t (p + 1) w → says w 0 63 ≡ true → Whole (spot_at t (p + 1 + length w) n k) fs
  bay_right_there w r s =
      subst (λ x. Whole (spot_at t x n k) fs) (run_end digit t (p + 1) w r)
      (bay_right r.0 (bay_opens h e) r.1 r.2 (tells_there r _ refl 0 63 true s))
