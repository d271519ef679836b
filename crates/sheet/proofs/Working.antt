-- The worked examples, by going through the permitted leaf lists.
use Rattle.std.proofs.Common.{◌≡◌, ℕ, ◌≤◌, Bool, true, false, ◌&&◌, eqb, ◌⊎◌, List, [], ◌∷◌, ◌++◌, pos, sym, refl, subst, inl, inr, true≢false, arith, eqb-true}
use mathlib.Core.List.Memᴰ
use mathlib.Core.List.{Memᴰ}
use Rattle.std.specs.List.{AllByRecursion}
use Rattle.std.proofs.lemmas.Fmt.{decimal_digit}
use Rattle.meaning.specs.Strands.{Permitted}
use Rattle.grammar.specs.declared.leaf.Leaf.{Leaf}
use Rattle.grammar.specs.declared.leaf.Marks.{Marks}
use Rattle.meaning.specs.Examples.{a, b}
use Rattle.meaning.proofs.StrandLists.{permitted_listed, permitted_tested}
use Rattle.meaning.proofs.Working.{worked_examples}
use Rattle.meaning.proofs.Testing.{and_left, and_right}
use Rattle.engine.specs.Answers.{fit_all, Reading, Begun, counted, Distance, Amount, at_most, FirstReading, extended}
use Rattle.sheet.specs.Examples.{minus_four, only, twofold, corrected, apart, fork, four_leaves, one_name, four_names, AllExamples}
use Rattle.engine.specs.Fits.{fits}
use Rattle.engine.specs.Joined.{over}
use Rattle.engine.specs.Scales.{no_span, wider, moved_by, no_bay, both, with_bay}
use Rattle.engine.proofs.Closure.{all_mem}

-- both readings of the choice, with any leaves that a fits
module _ (leaves : List Leaf) (zero-fits : fit_all one_name leaves (a ∷ []) (0 ∷ []) ≡ true) (one-fits : fit_all one_name leaves (a ∷ []) (1 ∷ []) ≡ true) where
  both_read : AllByRecursion (Reading twofold leaves one_name (a ∷ [])) ((0 ∷ []) ∷ (1 ∷ []) ∷ [])
  both_read = (((permitted_tested twofold (0 ∷ [])).1 refl, zero-fits), (((permitted_tested twofold (1 ∷ [])).1 refl, one-fits), tt))

  -- and no other
  pub two_readings : (w : List ℕ) → Reading twofold leaves one_name (a ∷ []) w → Memᴰ w ((0 ∷ []) ∷ (1 ∷ []) ∷ [])
  two_readings w r = (permitted_listed twofold w).0 r.0

  pub twice : {V : Type 0} (join : V → V → V) (start : V) (extend : V → Marks → V) (v : V) → v ≡ over join (extended extend leaves start) (0 ∷ []) ((1 ∷ []) ∷ [])
      → Amount join start extend twofold leaves one_name (a ∷ []) v
  twice join start extend v p = record { first = 0 ∷ []; rest = (1 ∷ []) ∷ []; each = both_read; every = two_readings; total = p }

  zero_first : FirstReading twofold leaves one_name (a ∷ []) (0 ∷ [])
  zero_first = record {
    reads = both_read.0;
    first = λ v r. all_mem (λ u. at_most (0 ∷ []) u ≡ true) v ((0 ∷ []) ∷ (1 ∷ []) ∷ []) (refl, (refl, tt)) (two_readings v r);
  }

pub corrected_span : Amount wider no_span moved_by twofold corrected one_name (a ∷ []) (minus_four, pos 1)
corrected_span = twice corrected refl refl wider no_span moved_by (minus_four, pos 1) refl

-- the digits of a text are worked out last
abbrev corrected_digits : List ℕ → List ℕ → List ℕ → List ℕ
corrected_digits x y z = 43 ∷ 40 ∷ (((97 ∷ 58 ∷ (x ++ (64 ∷ y))) ++ (44 ∷ 97 ∷ 58 ∷ 45 ∷ (z ++ (64 ∷ y)))) ++ (41 ∷ []))

abbrev apart_digits : List ℕ → List ℕ → List ℕ
apart_digits x y = 43 ∷ 40 ∷ (((97 ∷ 64 ∷ x) ++ (44 ∷ 97 ∷ 64 ∷ y)) ++ (41 ∷ []))

-- sets of bays
and_self : (x : Bool) → x ≡ (x && x)
and_self true = refl
and_self false = refl

one_bay : (n : ℕ) → only n ≡ (λ m. only n m && only n m)
one_bay n = λ i m. and_self (eqb n m) i

two_bays : no_bay ≡ (λ m. only 2 m && only 3 m)
two_bays = λ i m. none m i
  where
    go : (m : ℕ) (x y : Bool) → eqb 2 m ≡ x → eqb 3 m ≡ y → false ≡ (x && y)
    go m true true p q =
        let h = eqb-true 2 m p in
        let k = eqb-true 3 m q in
        absurd (omega arith)
    go m true false p q = refl
    go m false y p q = refl

    none : (m : ℕ) → false ≡ (eqb 2 m && eqb 3 m)
    none m = go m (eqb 2 m) (eqb 3 m) refl refl

-- what is read from the beginning on, and after b
from_none : (u : List ℕ) → Begun fork four_leaves four_names [] u → Memᴰ u ((0 ∷ []) ∷ (1 ∷ 2 ∷ 3 ∷ []) ∷ [])
from_none u h = go h.0 h.1 h.2
  where
    go : (w : List ℕ) → Permitted fork (w ++ u) → fit_all four_names four_leaves [] w ≡ true → Memᴰ u ((0 ∷ []) ∷ (1 ∷ 2 ∷ 3 ∷ []) ∷ [])
    go [] p f = (permitted_listed fork u).0 p
    go (l ∷ w) p f = absurd (true≢false (sym f))

from_b : (u : List ℕ) → Begun fork four_leaves four_names (b ∷ []) u → u ≡ 2 ∷ 3 ∷ []
from_b u h = go h.0 h.1 h.2
  where
    cases : (l : ℕ) → fits four_names four_leaves b l ≡ true → ((l ∷ u) ≡ (0 ∷ [])) ⊎ Memᴰ (l ∷ u) ((1 ∷ 2 ∷ 3 ∷ []) ∷ []) → u ≡ 2 ∷ 3 ∷ []
    cases l f (inl p) =
        let q : l ≡ 0 = cc in
        absurd (true≢false (sym (subst (λ n. fits four_names four_leaves b n ≡ true) q f)))
    cases l f (inr m) = let p = Memᴰ.eq_of_singleton m in cc

    go : (w : List ℕ) → Permitted fork (w ++ u) → fit_all four_names four_leaves (b ∷ []) w ≡ true → u ≡ 2 ∷ 3 ∷ []
    go [] p f = absurd (true≢false (sym f))
    go (l ∷ []) p f = cases l (and_left (fits four_names four_leaves b l) true f) (Memᴰ.cases_cons ((permitted_listed fork (l ∷ u)).0 p))
    go (l ∷ k ∷ w) p f = absurd (true≢false (sym (and_right (fits four_names four_leaves b l) false f)))

abbrev CountsWithin : ℕ → ℕ → List ℕ → Type 0
CountsWithin least most u = (least ≤ counted four_leaves u) × (counted four_leaves u ≤ most)

fork_distance : Distance fork four_leaves four_names [] 1 3
fork_distance = record {
  fewest = (0 ∷ [], ([], (permitted_tested fork (0 ∷ [])).1 refl, refl), refl);
  farthest = (1 ∷ 2 ∷ 3 ∷ [], ([], (permitted_tested fork (1 ∷ 2 ∷ 3 ∷ [])).1 refl, refl), refl);
  between = λ u h. all_mem (CountsWithin 1 3) u ((0 ∷ []) ∷ (1 ∷ 2 ∷ 3 ∷ []) ∷ []) ((omega arith, omega arith), ((omega arith, omega arith), tt)) (from_none u h);
}

fork_after_b : Distance fork four_leaves four_names (b ∷ []) 2 2
fork_after_b = record {
  fewest = (2 ∷ 3 ∷ [], after_b, refl);
  farthest = (2 ∷ 3 ∷ [], after_b, refl);
  between = λ u h. subst (CountsWithin 2 2) (sym (from_b u h)) (omega arith, omega arith);
}
  where
    after_b : Begun fork four_leaves four_names (b ∷ []) (2 ∷ 3 ∷ [])
    after_b = (1 ∷ [], (permitted_tested fork (1 ∷ 2 ∷ 3 ∷ [])).1 refl, refl)

pub all_examples : AllExamples
all_examples = record {
  plans = worked_examples;
  corrected_text = λ i. corrected_digits (decimal_digit 1 (omega arith) i) (decimal_digit 2 (omega arith) i) (decimal_digit 4 (omega arith) i);
  corrected_readings = λ w. (two_readings corrected refl refl w, all_mem (Reading twofold corrected one_name (a ∷ [])) w ((0 ∷ []) ∷ (1 ∷ []) ∷ []) (both_read corrected refl refl));
  corrected_first = zero_first corrected refl refl;
  corrected_span = corrected_span;
  corrected_bays = twice corrected refl refl both no_bay with_bay (only 2) (one_bay 2);
  apart_text = λ i. apart_digits (decimal_digit 2 (omega arith) i) (decimal_digit 3 (omega arith) i);
  apart_bays = twice apart refl refl both no_bay with_bay no_bay two_bays;
  fork_text = refl;
  fork_distance = fork_distance;
  fork_after_b = fork_after_b;
}
