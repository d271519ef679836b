-- Keeping the first of two amounts that meet is a mistake.
use Rattle.std.proofs.Common.{◌≡◌, ℕ, ◌⊎◌, List, [], ◌∷◌, ℤ, pos, sym, refl, ap, ◌∙◌, inl, inr, arith}
use mathlib.Core.List.Memᴰ
use mathlib.Core.List.{Memᴰ}
use Rattle.std.proofs.lemmas.Int.{ints, clamps}
use Rattle.std.specs.Int.{int_min, int_max}
use Rattle.meaning.specs.Cuts.{silent, reads, name, enter, leave, inside, inˡ, inʳ, rank}
use Rattle.meaning.specs.Walks.{stay, quiet, read}
use Rattle.meaning.specs.Examples.{a}
use Rattle.meaning.proofs.Mistaken.{moves}
use Rattle.engine.specs.Answers.{Reading, extended}
use Rattle.sheet.specs.Examples.{minus_four, twofold, corrected, one_name}
use Rattle.engine.specs.Joined.{over}
use Rattle.sheet.specs.Mistakes.{keep_first, SpanBy, KeepingIsMistaken}
use Rattle.engine.specs.Scales.{no_span, wider, moved_by}
use Rattle.engine.proofs.Closure.{Laws, joined_unique}
use Rattle.engine.specs.Signs.{int_min-assoc, int_max-assoc}
use Rattle.sheet.proofs.Working.{two_readings, twice, corrected_span}

int_min-self : (x : ℤ) → int_min x x ≡ x
int_min-self x = omega (arith, ints, clamps)

int_max-self : (x : ℤ) → int_max x x ≡ x
int_max-self x = omega (arith, ints, clamps)

int_min-turned : (x y : ℤ) → int_min x y ≡ int_min y x
int_min-turned x y = omega (arith, ints, clamps)

int_max-turned : (x y : ℤ) → int_max x y ≡ int_max y x
int_max-turned x y = omega (arith, ints, clamps)

laws : Laws wider
laws = record {
  idem = λ x. λ i. (int_min-self x.0 i, int_max-self x.1 i);
  comm = λ x y. λ i. (int_min-turned x.0 y.0 i, int_max-turned x.1 y.1 i);
  assoc = λ x y z. λ i. (int_min-assoc x.0 y.0 z.0 i, int_max-assoc x.1 y.1 z.1 i);
}

-- the amount is one
amount_is : (m : ℤ × ℤ) → SpanBy wider m → m ≡ (minus_four, pos 1)
amount_is m h = joined_unique wider laws (extended moved_by corrected no_span) (Reading twofold corrected one_name (a ∷ [])) m (minus_four, pos 1) h corrected_span

kept_first : {V W : Type 0} (f : W → V) (w : W) (ws : List W) → over keep_first f w ws ≡ f w
kept_first f w [] = refl
kept_first f w (v ∷ ws) = refl

one_of_two : (m : ℤ × ℤ) → SpanBy keep_first m → (m ≡ (pos 1, pos 1)) ⊎ (m ≡ (minus_four, minus_four))
one_of_two m h = go (Memᴰ.cases_cons (two_readings corrected refl refl h.first h.each.0))
  where
    f : List ℕ → ℤ × ℤ
    f = extended moved_by corrected no_span

    is : m ≡ f h.first
    is = h.total ∙ kept_first f h.first h.rest

    go : (h.first ≡ (0 ∷ [])) ⊎ Memᴰ h.first ((1 ∷ []) ∷ []) → (m ≡ (pos 1, pos 1)) ⊎ (m ≡ (minus_four, minus_four))
    go (inl p) = inl (is ∙ ap f p)
    go (inr k) = inr (is ∙ ap f (Memᴰ.eq_of_singleton k))

not_amount : SpanBy wider (pos 1, pos 1) → ⊥
not_amount h = let p : pos 1 ≡ minus_four = ap (λ x. x.0) (amount_is (pos 1, pos 1) h) in omega (arith, ints)

never_amount : (m : ℤ × ℤ) → SpanBy keep_first m → SpanBy wider m → ⊥
never_amount m k h = go (one_of_two m k)
  where
    is : m ≡ (minus_four, pos 1)
    is = amount_is m h

    go : (m ≡ (pos 1, pos 1)) ⊎ (m ≡ (minus_four, minus_four)) → ⊥
    go (inl p) = let q : pos 1 ≡ minus_four = ap (λ x. x.0) (sym p ∙ is) in omega (arith, ints)
    go (inr p) = let q : minus_four ≡ pos 1 = ap (λ x. x.1) (sym p ∙ is) in omega (arith, ints)

-- the items of the plan: 0 the choice, 1 the first a, 2 the second
pub keeping_is_mistaken : KeepingIsMistaken
keeping_is_mistaken =
    let n = rank 0 twofold in
    record {
      first_walk =
          quiet (moves n twofold [] (0 ∷ []) (2 ∷ []) [] silent (enter (inl refl)) refl)
          (read (moves n twofold [] (2 ∷ []) (3 ∷ []) [] (reads 0) (inside (inˡ name)) refl) stay);
      first_meets = moves n twofold [] (3 ∷ []) (1 ∷ []) [] silent (leave (inl refl)) refl;
      second_walk =
          quiet (moves n twofold [] (0 ∷ []) (4 ∷ []) [] silent (enter (inr refl)) refl)
          (read (moves n twofold [] (4 ∷ []) (5 ∷ []) [] (reads 1) (inside (inʳ name)) refl) stay);
      second_meets = moves n twofold [] (5 ∷ []) (1 ∷ []) [] silent (leave (inr refl)) refl;
      kept = twice corrected refl refl keep_first no_span moved_by (pos 1, pos 1) refl;
      not_amount = not_amount;
      one_of_two = one_of_two;
      never_amount = never_amount;
    }
