-- What decides the text of a shape, and how long it can be.
use Rattle.std.proofs.Common.{◌≡◌, ℕ, suc, ◌+◌, ◌*◌, ◌<◌, ◌≤◌, true, List, [], ◌∷◌, ◌++◌, length, get_or, ℤ, pos, negsuc, Some, None, Option, sym, refl, ap, ◌∙◌, subst, add-zero, add_assoc, arith, w16, SFits}
use Rattle.std.proofs.lemmas.Bool.Decides.{nat_tests}
use Rattle.std.proofs.lemmas.List.{length-append}
use Rattle.std.proofs.lemmas.Fmt.{length-decimal-le}
use Rattle.meaning.specs.Shape.{Shape, leaf, bracket, join, leaves}
use Rattle.meaning.specs.Limits.{brackets, within_limits}
use Rattle.grammar.specs.Written.{sign_of, link_sign, marks_text, correction_text, bay_text, name_text, leaf_text, no_leaf, written_from}
use Rattle.grammar.specs.Ranges.{CorrectionInRange, BayInRange, InRange}
use Rattle.plan.specs.WrittenLaws.{LeavesDecide, NamesDecide, LengthsAreBounded}
use Rattle.grammar.specs.declared.leaf.Leaf.{Leaf}
use Rattle.plan.proofs.WritingMarks.{correction_short, name_at_most}

-- the leaves of a shape from number k on, those of its right part from k + n on
from_here : (P : ℕ → Type 0) (k n : ℕ) → ((j : ℕ) → j < suc n → P (k + j)) → P k
from_here P k n h = subst P (add-zero k) (h 0 (omega arith))

right_part : (P : ℕ → Type 0) (k m n : ℕ) → ((j : ℕ) → j < m + n → P (k + j)) → (j : ℕ) → j < n → P ((k + m) + j)
right_part P k m n h j l = subst P (sym (add_assoc k m j)) (h (m + j) (omega arith))

decided : (e : Shape) (k : ℕ) (ls ms : List Leaf) (texts others : List (List ℕ))
    → ((j : ℕ) → j < leaves e → leaf_text texts (get_or ls (k + j) no_leaf) ≡ leaf_text others (get_or ms (k + j) no_leaf))
    → written_from k e ls texts ≡ written_from k e ms others
decided (leaf b) k ls ms texts others h = from_here (λ i. leaf_text texts (get_or ls i no_leaf) ≡ leaf_text others (get_or ms i no_leaf)) k 0 h
decided (bracket s e) k ls ms texts others h = ap (λ t. sign_of s ∷ 40 ∷ (t ++ (41 ∷ []))) (decided e k ls ms texts others h)
decided (join l e f) k ls ms texts others h =
    ap (λ t. t ++ (link_sign l ∷ written_from (k + leaves e) f ls texts)) (decided e k ls ms texts others (λ j i. h j (omega arith)))
    ∙ ap (λ t. written_from k e ms others ++ (link_sign l ∷ t)) (decided f (k + leaves e) ls ms texts others
    (right_part (λ i. leaf_text texts (get_or ls i no_leaf) ≡ leaf_text others (get_or ms i no_leaf)) k (leaves e) (leaves f) h))

zero_on : (P : ℕ → Type 0) (n : ℕ) → ((j : ℕ) → j < n → P j) → (j : ℕ) → j < n → P (0 + j)
zero_on P n h j l = let e : j ≡ 0 + j = omega arith in subst P e (h j l)

pub leaves_decide : LeavesDecide
leaves_decide e ls ms texts others h =
    decided e 0 ls ms texts others (zero_on (λ i. leaf_text texts (get_or ls i no_leaf) ≡ leaf_text others (get_or ms i no_leaf)) (leaves e) h)

name_decides : (texts others : List (List ℕ)) (o : Option ℕ) (m : List ℕ) → ((n : ℕ) → o ≡ Some n → get_or texts n [] ≡ get_or others n []) → name_text texts o m ≡ name_text others o m
name_decides texts others None m h = refl
name_decides texts others (Some n) m h = ap (λ t. t ++ m) (h n refl)

pub names_decide : NamesDecide
names_decide e ls texts others h =
    leaves_decide e ls ls texts others (λ k l. name_decides texts others (get_or ls k no_leaf).name (marks_text (get_or ls k no_leaf).marks) (λ n is. h k n l is))

-- lengths
fits_from : (z : ℤ) → CorrectionInRange z → SFits w16 z
fits_from (pos n) h = record { sfits = h }
fits_from (negsuc n) h = record { sfits = h }

bay_in_range : (o : Option ℕ) → BayInRange o → length (bay_text o) ≤ 3
bay_in_range None h = omega arith
bay_in_range (Some b) h = omega (arith, length-decimal-le 2 b (omega arith) (omega arith) (omega arith))

leaf_bounded : (texts : List (List ℕ)) (l : Leaf) → ((n : ℕ) → length (get_or texts n []) ≤ 12) → InRange l.marks → length (leaf_text texts l) ≤ 22
leaf_bounded texts l h r =
    name_at_most texts l.name (marks_text l.marks) 10 h
    (omega (arith, length-append (correction_text l.marks.correction) (bay_text l.marks.bay), correction_short l.marks.correction (fits_from l.marks.correction r.0), bay_in_range l.marks.bay r.1))

bounded : (e : Shape) (k : ℕ) (ls : List Leaf) (texts : List (List ℕ)) → ((n : ℕ) → length (get_or texts n []) ≤ 12)
    → ((j : ℕ) → j < leaves e → InRange (get_or ls (k + j) no_leaf).marks)
    → length (written_from k e ls texts) + 1 ≤ 23 * leaves e + 3 * brackets e
bounded (leaf b) k ls texts h r = omega (arith, leaf_bounded texts (get_or ls k no_leaf) h (from_here (λ i. InRange (get_or ls i no_leaf).marks) k 0 r))
bounded (bracket s e) k ls texts h r = omega (arith, bounded e k ls texts h r, length-append (written_from k e ls texts) (41 ∷ []))
bounded (join l e f) k ls texts h r =
    omega (
      arith,
      bounded e k ls texts h (λ j i. r j (omega arith)),
      bounded f (k + leaves e) ls texts h (right_part (λ i. InRange (get_or ls i no_leaf).marks) k (leaves e) (leaves f) r),
      length-append (written_from k e ls texts) (link_sign l ∷ written_from (k + leaves e) f ls texts),
    )

few_parts : (e : Shape) → within_limits e ≡ true → (leaves e ≤ 128) × (brackets e ≤ 64)
few_parts e h = grind (arith, nat_tests)

pub lengths_are_bounded : LengthsAreBounded
lengths_are_bounded e ls texts h r =
    let b = bounded e 0 ls texts h (zero_on (λ i. InRange (get_or ls i no_leaf).marks) (leaves e) r) in
    (b, λ w. let f = few_parts e w in omega (arith, b, f.0, f.1))
