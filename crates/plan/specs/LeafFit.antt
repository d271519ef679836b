-- The leaves of a plan fit its shape.
use Rattle.std.specs.Prelude.{ℕ, Bool, true, false, ◌&&◌, List, [], ◌∷◌, ◌++◌, Some, None, Option, nat_le, nat_lt}
use Rattle.meaning.specs.Shape.{Shape, leaf, bracket, join}
use Rattle.grammar.specs.declared.leaf.Leaf.{Leaf}

-- the leaves of a shape in order: a name (true) or `_` (false)
abbrev pub leaf_kinds : Shape → List Bool
leaf_kinds (leaf b) = b ∷ []
leaf_kinds (bracket s e) = leaf_kinds e
leaf_kinds (join l e f) = leaf_kinds e ++ leaf_kinds f

-- a name has a number below the number of names, and `_` has none
abbrev pub name_fits : ℕ → Bool → Option ℕ → Bool
name_fits names true (Some n) = nat_lt n names
name_fits names true None = false
name_fits names false (Some n) = false
name_fits names false None = true

abbrev pub leaf_fits : ℕ → Bool → Leaf → Bool
leaf_fits names b l = name_fits names b l.name

-- as many leaves as the shape has, each of its kind
abbrev pub all_fit : ℕ → List Bool → List Leaf → Bool
all_fit names [] [] = true
all_fit names [] (l ∷ ls) = false
all_fit names (b ∷ bs) [] = false
all_fit names (b ∷ bs) (l ∷ ls) = leaf_fits names b l && all_fit names bs ls

-- and at most 128 names
abbrev pub leaves_fit : Shape → List Leaf → ℕ → Bool
leaves_fit e ls names = nat_le names 128 && all_fit names (leaf_kinds e) ls
