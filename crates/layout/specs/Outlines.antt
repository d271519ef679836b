-- The items of a plan in the order of their numbers, each with the brackets around it.
use Rattle.std.specs.Prelude.{◌≡◌, ℕ, ◌+◌, Bool, true, false, List, [], ◌∷◌, ◌++◌, length}
use Rattle.meaning.specs.Shape as S
use Rattle.meaning.specs.Shape.{Shape, leaf, bracket, join, leaves, items}
use Rattle.layout.specs.declared.outline.Item.{Item}
use Rattle.layout.specs.declared.outline.Item.TheVariants.{Name, Blank, Bracket}
use Rattle.layout.specs.declared.outline.Line.{Line}
use Rattle.layout.specs.declared.tree.Sort.{Sort}
use Rattle.layout.specs.declared.tree.Sort.TheVariants.{Lock, Choice, Interleave}

abbrev pub a_sort : S.Sort → Sort
a_sort S.lock = Lock
a_sort S.choice = Choice
a_sort S.interleave = Interleave

abbrev pub a_leaf : Bool → ℕ → Item
a_leaf true k = Name k
a_leaf false k = Blank k

abbrev pub line : ℕ → Item → Line
line d x = record { depth = d; item = x }

-- the items of a shape whose first leaf has number k, among d brackets
abbrev pub outline_from : ℕ → ℕ → Shape → List Line
outline_from d k (leaf b) = line d (a_leaf b k) ∷ []
outline_from d k (bracket s e) = line d (Bracket (a_sort s)) ∷ outline_from (d + 1) k e
outline_from d k (join l e f) = outline_from d k e ++ outline_from d (k + leaves e) f

-- the outline of a plan
abbrev pub outline : Shape → List Line
outline e = outline_from 0 0 e

-- it has a line for each item
abbrev pub OutlinesAreWhole : Type 0
OutlinesAreWhole = (e : Shape) → length (outline e) ≡ items e
