-- Worked examples of readings, amounts and distances, in one list with those of plans.
use Rattle.std.specs.Prelude.{◌≡◌, ℕ, Bool, ◌↔◌, List, [], ◌∷◌, ℤ, pos, negsuc, Some, None, codes, Option, ◌==◌}
use mathlib.Core.List.{Memᴰ}
use Rattle.text.specs.Directory.{Text}
use Rattle.meaning.specs.Shape.{choice, then, or, Shape, bracket, join}
use Rattle.grammar.specs.Written.{written}
use Rattle.meaning.specs.Examples.{word, a, b, c, WorkedExamples}
use Rattle.grammar.specs.declared.leaf.Leaf.{Leaf}
use Rattle.engine.specs.Answers.{Reading, Distance, Amount, FirstReading}
use Rattle.engine.specs.Scales.{no_span, wider, moved_by, no_bay, both, with_bay}

-- a leaf of the name with this number, with a correction and a bay
abbrev pub marked : ℕ → ℤ → Option ℕ → Leaf
marked n correction bay = record { name = Some n; marks = record { correction = correction; bay = bay } }

abbrev pub unmarked : ℕ → Leaf
unmarked n = marked n (pos 0) None

-- the correction -4
abbrev pub minus_four : ℤ
minus_four = negsuc 3

-- the set of one bay
abbrev pub only : ℕ → ℕ → Bool
only n m = n == m

-- +(a:1@2,a:-4@2) and +(a@2,a@3): one shape, with different leaves
abbrev pub twofold : Shape
twofold = bracket choice (join or word word)

abbrev pub corrected : List Leaf
corrected = marked 0 (pos 1) (Some 2) ∷ marked 0 minus_four (Some 2) ∷ []

abbrev pub apart : List Leaf
apart = marked 0 (pos 0) (Some 2) ∷ marked 0 (pos 0) (Some 3) ∷ []

-- +(a,b.c.d)
abbrev pub fork : Shape
fork = bracket choice (join or word (join then word (join then word word)))

abbrev pub four_leaves : List Leaf
four_leaves = unmarked 0 ∷ unmarked 1 ∷ unmarked 2 ∷ unmarked 3 ∷ []

-- the texts of the names
abbrev pub one_name : List Text
one_name = a ∷ []

abbrev pub four_names : List Text
four_names = a ∷ b ∷ c ∷ codes "d" ∷ []

-- the examples of plans, and those of sheets
pub record AllExamples : Type 0 where
  pub plans : WorkedExamples
  -- `+(a:1@2,a:-4@2)`, stamped a: the readings 0 and 1 and no other, the first is 0; the span (-4, 1); the bay 2 alone
  pub corrected_text : written twofold corrected one_name ≡ codes "+(a:1@2,a:-4@2)"
  pub corrected_readings : (w : List ℕ) → Reading twofold corrected one_name (a ∷ []) w ↔ Memᴰ w ((0 ∷ []) ∷ (1 ∷ []) ∷ [])
  pub corrected_first : FirstReading twofold corrected one_name (a ∷ []) (0 ∷ [])
  pub corrected_span : Amount wider no_span moved_by twofold corrected one_name (a ∷ []) (minus_four, pos 1)
  pub corrected_bays : Amount both no_bay with_bay twofold corrected one_name (a ∷ []) (only 2)
  -- `+(a@2,a@3)`, stamped a: no bay
  pub apart_text : written twofold apart one_name ≡ codes "+(a@2,a@3)"
  pub apart_bays : Amount both no_bay with_bay twofold apart one_name (a ∷ []) no_bay
  -- `+(a,b.c.d)`: 1 to 3 stamps to come; after b just 2
  pub fork_text : written fork four_leaves four_names ≡ codes "+(a,b.c.d)"
  pub fork_distance : Distance fork four_leaves four_names [] 1 3
  pub fork_after_b : Distance fork four_leaves four_names (b ∷ []) 2 2
