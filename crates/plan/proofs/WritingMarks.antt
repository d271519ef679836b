-- The texts of marks and leaves: their forms and their lengths.
use Rattle.std.proofs.Common.{◌≡◌, ℕ, zero, suc, ◌+◌, ◌<◌, ◌≤◌, List, [], ◌∷◌, map, length, get_or, ℤ, pos, negsuc, Some, None, Option, refl, arith, w16, SFits}
use Rattle.std.proofs.lemmas.List.{length-append}
use Rattle.std.proofs.lemmas.Fmt.{length-decimal-le}
use Rattle.grammar.specs.Written.{correction_text, bay_text, marks_text, name_text, leaf_text}
use Rattle.grammar.specs.declared.leaf.Leaf.{Leaf}

pub correction_short : (z : ℤ) → SFits w16 z → length (correction_text z) ≤ 7
correction_short (pos zero) f = omega arith
correction_short (pos (suc n)) f = omega (arith, f.sfits, length-decimal-le 5 (suc n) (omega arith) (omega (arith, f.sfits)) (omega (arith, f.sfits)))
correction_short (negsuc n) f = omega (arith, f.sfits, length-decimal-le 5 (suc n) (omega arith) (omega (arith, f.sfits)) (omega (arith, f.sfits)))

pub bay_short : (b : ℕ) → b < 256 → length (bay_text (Some b)) ≤ 4
bay_short b h = omega (arith, length-decimal-le 3 b (omega arith) (omega arith) (omega arith))

-- how long the texts can be
pub texts_short : {K : Type 0} (text : K → List ℕ) (names : List K) (most : ℕ) → ((x : K) → length (text x) ≤ most) → (n : ℕ) → length (get_or (map text names) n []) ≤ most
texts_short text [] most h n = omega arith
texts_short text (x ∷ xs) most h zero = h x
texts_short text (x ∷ xs) most h (suc n) = texts_short text xs most h n

bay_at_most : (o : Option ℕ) → ((n : ℕ) → o ≡ Some n → n < 256) → length (bay_text o) ≤ 4
bay_at_most None h = omega arith
bay_at_most (Some b) h = bay_short b (h b refl)

pub name_at_most : (texts : List (List ℕ)) (o : Option ℕ) (marks : List ℕ) (room : ℕ) → ((n : ℕ) → length (get_or texts n []) ≤ 12) → length marks ≤ room → length (name_text texts o marks) ≤ 12 + room
name_at_most texts None marks room h k = omega arith
name_at_most texts (Some n) marks room h k = omega (arith, h n, length-append (get_or texts n []) marks)

pub leaf_short : (texts : List (List ℕ)) (l : Leaf) → ((n : ℕ) → length (get_or texts n []) ≤ 12) → SFits w16 l.marks.correction → ((n : ℕ) → l.marks.bay ≡ Some n → n < 256)
    → length (leaf_text texts l) ≤ 23
leaf_short texts l h f b =
    name_at_most texts l.name (marks_text l.marks) 11 h
    (omega (arith, length-append (correction_text l.marks.correction) (bay_text l.marks.bay), correction_short l.marks.correction f, bay_at_most l.marks.bay b))
