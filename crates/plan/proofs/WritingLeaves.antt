-- The text of a leaf has one reading.
use Rattle.std.proofs.Common.{◌≡◌, ℕ, zero, suc, ◌^◌, ◌<◌, Bool, true, ◌||◌, eqb, List, [], ◌∷◌, ◌++◌, get_or, ℤ, pos, negsuc, Some, None, decimal, Option, sym, refl, ap, ◌∙◌, append-nil, arith}
use Rattle.std.proofs.lemmas.Fmt.{decimal_nonempty, decimal_injective}
use Rattle.text.specs.Bytes.{digit, name_byte, every}
use Rattle.grammar.specs.Written.{correction_text, bay_text, marks_text, name_text}
use Rattle.grammar.specs.Ranges.{CorrectionInRange, BayInRange, InRange}
use Rattle.plan.specs.WrittenLaws.{OneLeafReading}
use Rattle.grammar.specs.declared.leaf.Marks.{Marks}
use Rattle.plan.proofs.WritingBytes.{tails, every_in, decimal_digits, not_begun, outside, told_apart}

never : {x : ℕ} {xs : List ℕ} → ◌≡◌ {A = List ℕ} [] (x ∷ xs) → ⊥
never e = let z : ◌≡◌ {A = ℕ} 0 1 = cc in omega arith

-- the bytes of a correction: `:`, `-` and digits
abbrev of_correction : ℕ → Bool
of_correction b = digit b || (eqb b 58 || eqb b 45)

digit_of : (b : ℕ) → digit b ≡ true → of_correction b ≡ true
digit_of b e = rw e

digits_of : (n : ℕ) → n < 2 ^ 32 → every of_correction (decimal n) ≡ true
digits_of n h = every_in digit of_correction digit_of (decimal n) (decimal_digits n h)

correction_bytes : (z : ℤ) → CorrectionInRange z → every of_correction (correction_text z) ≡ true
correction_bytes (pos zero) h = refl
correction_bytes (pos (suc n)) h = digits_of (suc n) (omega arith)
correction_bytes (negsuc n) h = digits_of (suc n) (omega arith)

bay_outside : (o : Option ℕ) → outside of_correction (bay_text o) ≡ true
bay_outside None = refl
bay_outside (Some b) = refl

marks_outside : (z : ℤ) (o : Option ℕ) → outside name_byte (correction_text z ++ bay_text o) ≡ true
marks_outside (pos zero) None = refl
marks_outside (pos zero) (Some b) = refl
marks_outside (pos (suc n)) o = refl
marks_outside (negsuc n) o = refl

no_minus : (n : ℕ) (u : List ℕ) → n < 2 ^ 32 → decimal n ≡ 45 ∷ u → ⊥
no_minus n u h is = not_begun digit (decimal n) [] u 45 (decimal_nonempty n (omega arith)) (decimal_digits n h) refl (append-nil (decimal n) ∙ is)

same_correction : (y z : ℤ) → CorrectionInRange y → CorrectionInRange z → correction_text y ≡ correction_text z → y ≡ z
same_correction (pos zero) (pos zero) h k is = refl
same_correction (pos zero) (pos (suc n)) h k is = absurd (never is)
same_correction (pos zero) (negsuc n) h k is = absurd (never is)
same_correction (pos (suc m)) (pos zero) h k is = absurd (never (sym is))
same_correction (negsuc m) (pos zero) h k is = absurd (never (sym is))
same_correction (pos (suc m)) (pos (suc n)) h k is = ap pos (decimal_injective (suc m) (suc n) (omega arith) (omega arith) (tails is))
same_correction (pos (suc m)) (negsuc n) h k is = absurd (no_minus (suc m) (decimal (suc n)) (omega arith) (tails is))
same_correction (negsuc m) (pos (suc n)) h k is = absurd (no_minus (suc n) (decimal (suc m)) (omega arith) (sym (tails is)))
same_correction (negsuc m) (negsuc n) h k is =
    let e : m ≡ n = omega (arith, decimal_injective (suc m) (suc n) (omega arith) (omega arith) (tails (tails is))) in
    ap negsuc e

same_bay : (o p : Option ℕ) → BayInRange o → BayInRange p → bay_text o ≡ bay_text p → o ≡ p
same_bay None None h k is = refl
same_bay None (Some b) h k is = absurd (never is)
same_bay (Some a) None h k is = absurd (never (sym is))
same_bay (Some a) (Some b) h k is = ap Some (decimal_injective a b (omega arith) (omega arith) (tails is))

same_marks : (m n : Marks) → InRange m → InRange n → marks_text m ≡ marks_text n → m ≡ n
same_marks m n h k is =
    let w = told_apart of_correction (correction_text m.correction) (correction_text n.correction) (bay_text m.bay) (bay_text n.bay)
    (correction_bytes m.correction h.0) (correction_bytes n.correction k.0) (bay_outside m.bay) (bay_outside n.bay) is in
    let c = same_correction m.correction n.correction h.0 k.0 w.0 in
    let b = same_bay m.bay n.bay h.1 k.1 w.1 in
    ap (λ x. record { correction = x; bay = m.bay }) c ∙ ap (λ x. record { correction = n.correction; bay = x }) b

pub one_leaf_reading : OneLeafReading
one_leaf_reading l m texts others a b la mb s t h k is =
    let left = ap (λ o. name_text texts o (marks_text l.marks)) la in
    let right = ap (λ o. name_text others o (marks_text m.marks)) mb in
    let w = told_apart name_byte (get_or texts a []) (get_or others b []) (marks_text l.marks) (marks_text m.marks) s.bytes t.bytes
    (marks_outside l.marks.correction l.marks.bay) (marks_outside m.marks.correction m.marks.bay) (sym left ∙ (is ∙ right)) in
    (w.0, same_marks l.marks m.marks h k w.1)
