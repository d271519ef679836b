-- Laws of the text of a plan.
use Rattle.std.specs.Prelude.{◌≡◌, ℕ, ◌+◌, ◌*◌, ◌<◌, ◌≤◌, Bool, true, false, List, [], length, get_or, Some, None, Option, slice_index_or}
use Rattle.text.specs.Names.{Shaped}
use Rattle.meaning.specs.Shape.{Shape, leaf, bracket, join, leaves}
use Rattle.meaning.specs.Limits.{brackets, well_formed, within_limits}
use Rattle.grammar.specs.Ranges.{InRange}
use Rattle.grammar.specs.Written.{leaf_text, no_leaf, written}
use Rattle.grammar.specs.declared.leaf.Leaf.{Leaf}

-- the texts of its leaves decide the text of a shape
abbrev pub LeavesDecide : Type 0
LeavesDecide = (e : Shape) (ls ms : List Leaf) (texts others : List (List ℕ))
    → ((k : ℕ) → k < leaves e → leaf_text texts (slice_index_or ls k no_leaf) ≡ leaf_text others (slice_index_or ms k no_leaf))
    → written e ls texts ≡ written e ms others

-- of the texts of names, only those of the names that its leaves use count
abbrev pub NamesDecide : Type 0
NamesDecide = (e : Shape) (ls : List Leaf) (texts others : List (List ℕ))
    → ((k n : ℕ) → k < leaves e → (get_or ls k no_leaf).name ≡ Some n → slice_index_or texts n [] ≡ slice_index_or others n [])
    → written e ls texts ≡ written e ls others

-- with names of at most 12 bytes, a leaf takes at most 22 bytes and a bracket 3, and one byte stands between neighbours;
-- so a plan within the limits has a text of at most 3,135 bytes
abbrev pub LengthsAreBounded : Type 0
LengthsAreBounded = (e : Shape) (ls : List Leaf) (texts : List (List ℕ))
    → ((n : ℕ) → length (slice_index_or texts n []) ≤ 12) → ((k : ℕ) → k < leaves e → InRange (get_or ls k no_leaf).marks)
    → (length (written e ls texts) + 1 ≤ 23 * leaves e + 3 * brackets e) × (within_limits e ≡ true → length (written e ls texts) ≤ 3135)

-- a leaf that is a name has one, with a text shaped as names are, and `_` has none
abbrev pub LeafSuits : Bool → Option ℕ → List (List ℕ) → Type 0
LeafSuits true (Some n) texts = Shaped (slice_index_or texts n [])
LeafSuits true None texts = ⊥
LeafSuits false (Some n) texts = ⊥
LeafSuits false None texts = Unit {0}

-- so it is at every leaf of a shape whose first leaf has number k, and the marks are in range
abbrev pub SuitsFrom : ℕ → Shape → List Leaf → List (List ℕ) → Type 0
SuitsFrom k (leaf b) ls texts = LeafSuits b (get_or ls k no_leaf).name texts × InRange (get_or ls k no_leaf).marks
SuitsFrom k (bracket s e) ls texts = SuitsFrom k e ls texts
SuitsFrom k (join l e f) ls texts = SuitsFrom k e ls texts × SuitsFrom (k + leaves e) f ls texts

-- a text has one reading: plans with the same text have the same shape, and their leaves the same texts
abbrev pub OneReading : Type 0
OneReading = (e f : Shape) (ls ms : List Leaf) (texts others : List (List ℕ))
    → well_formed e ≡ true → well_formed f ≡ true → SuitsFrom 0 e ls texts → SuitsFrom 0 f ms others
    → written e ls texts ≡ written f ms others
    → (e ≡ f) × ((k : ℕ) → k < leaves e → leaf_text texts (slice_index_or ls k no_leaf) ≡ leaf_text others (slice_index_or ms k no_leaf))

-- and the text of a leaf has one reading: leaves with names and the same text have names of the same text, and the same marks
abbrev pub OneLeafReading : Type 0
OneLeafReading = (l m : Leaf) (texts others : List (List ℕ)) (a b : ℕ) → l.name ≡ Some a → m.name ≡ Some b
    → Shaped (slice_index_or texts a []) → Shaped (slice_index_or others b []) → InRange l.marks → InRange m.marks
    → leaf_text texts l ≡ leaf_text others m
    → (slice_index_or texts a [] ≡ slice_index_or others b []) × (l.marks ≡ m.marks)
