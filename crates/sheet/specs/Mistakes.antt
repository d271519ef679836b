-- A mistake that the join forbids: keeping the first amount where two moves meet in a cut.
use Rattle.std.specs.Prelude.{◌≡◌, ◌⊎◌, [], ◌∷◌, ℤ, pos}
use Rattle.meaning.specs.Cuts.{silent, Move}
use Rattle.meaning.specs.Walks.{Walk}
use Rattle.meaning.specs.Examples.{a}
use Rattle.engine.specs.Answers.{Amount}
use Rattle.sheet.specs.Examples.{minus_four, twofold, corrected, one_name}
use Rattle.engine.specs.Scales.{no_span, wider, moved_by}

-- the mistaken join: the first amount stays
abbrev pub keep_first : {V : Type 0} → V → V → V
keep_first x y = x

-- the spans of `+(a:1@2,a:-4@2)`, stamped a, by a join
abbrev pub SpanBy : (ℤ × ℤ → ℤ × ℤ → ℤ × ℤ) → ℤ × ℤ → Type 0
SpanBy join m = Amount join no_span moved_by twofold corrected one_name (a ∷ []) m

-- there one walk reads the first a and another the second, and they meet in the last cut, `1`.
-- Where the amount that comes first is kept, the span is (1, 1) if the first a comes first, and -4 is lost; it is
-- (-4, -4) if the second does. Neither is the amount
pub record KeepingIsMistaken : Type 0 where
  pub first_walk : Walk twofold (0 ∷ []) (0 ∷ []) (3 ∷ [])
  pub first_meets : Move twofold (3 ∷ []) silent (1 ∷ [])
  pub second_walk : Walk twofold (0 ∷ []) (1 ∷ []) (5 ∷ [])
  pub second_meets : Move twofold (5 ∷ []) silent (1 ∷ [])
  pub kept : SpanBy keep_first (pos 1, pos 1)
  pub not_amount : SpanBy wider (pos 1, pos 1) → ⊥
  pub one_of_two : (m : ℤ × ℤ) → SpanBy keep_first m → (m ≡ (pos 1, pos 1)) ⊎ (m ≡ (minus_four, minus_four))
  pub never_amount : (m : ℤ × ℤ) → SpanBy keep_first m → SpanBy wider m → ⊥
