-- What writing does to a buffer, and when it is refused.
use Rattle.std.specs.Prelude.{◌≡◌, ℕ, ◌+◌, ◌<◌, ◌≤◌, ◌⊎◌, List, [], ◌++◌, length, get_or, take, drop, Some, None, Ok, Err, Option, Result, slice_index_or}
use Rattle.grammar.specs.Written.{no_leaf}
use Rattle.grammar.specs.declared.leaf.Leaf.{Leaf}
use Rattle.grammar.specs.declared.refusal.Refusal.{Refusal}
use Rattle.grammar.specs.declared.refusal.Refusal.TheVariants.{Short, Length, Form, NoName, Mark, Depth, Many, Width, Cuts, Twice}

-- a text stands in a buffer from one place up to another, and all other bytes are as they were
pub record Laid (at : ℕ) (text before after : List ℕ) (end : ℕ) : Type 0 where
  pub ends : end ≡ at + length text
  pub holds : after ≡ take at before ++ (text ++ drop end before)

-- the name of a leaf has a number below `count`, or the leaf is `_`
abbrev pub Numbered : ℕ → Option ℕ → Type 0
Numbered count None = Unit {0}
Numbered count (Some n) = n < count

-- so it is at every leaf
abbrev pub AllNumbered : ℕ → List Leaf → Type 0
AllNumbered count ls = (k : ℕ) → k < length ls → Numbered count (get_or ls k no_leaf).name

-- the text of a number stands under an earlier number too
abbrev pub StandsTwice : List (List ℕ) → ℕ → Type 0
StandsTwice texts n = (k : ℕ) × (k < n) × (slice_index_or texts k [] ≡ slice_index_or texts n [])

-- the smallest number below `count` whose text stands under an earlier number too, or none
abbrev pub FirstTwice : List (List ℕ) → ℕ → Option ℕ → Type 0
FirstTwice texts count (Some n) = (n < count) × StandsTwice texts n × ((k : ℕ) → k < n → StandsTwice texts k → ⊥)
FirstTwice texts count None = (k : ℕ) → k < count → StandsTwice texts k → ⊥

-- the text is refused: the texts of the names are fewer than 128;
-- or they are enough, and the buffer is shorter than the text;
-- or there is room, and a text stands twice among the first `count`, the smallest such number
abbrev pub Unwritten : List ℕ → List (List ℕ) → ℕ → ℕ → Refusal → Type 0
Unwritten text texts count room (Short n) = ((length texts < 128) × (n ≡ 128)) ⊎ ((128 ≤ length texts) × (room < length text) × (n ≡ length text))
Unwritten text texts count room (Twice n) = (128 ≤ length texts) × (length text ≤ room) × FirstTwice texts count (Some n)
Unwritten text texts count room Length = ⊥
Unwritten text texts count room (Form p) = ⊥
Unwritten text texts count room (NoName p) = ⊥
Unwritten text texts count room (Mark p) = ⊥
Unwritten text texts count room (Depth p) = ⊥
Unwritten text texts count room (Many p) = ⊥
Unwritten text texts count room (Width w) = ⊥
Unwritten text texts count room Cuts = ⊥

-- a text is written at the front of a buffer, the bytes behind it stay, and its length is answered, where there are 128 texts of
-- names, room for it, and no text twice among the first `count`; else it is refused, and the buffer stays as it was
abbrev pub Renders : List ℕ → List (List ℕ) → ℕ → List ℕ → List ℕ → Result ℕ Refusal → Type 0
Renders text texts count before after (Ok n) = (128 ≤ length texts) × (length text ≤ length before) × FirstTwice texts count None × (n ≡ length text) × (after ≡ text ++ drop n before)
Renders text texts count before after (Err r) = Unwritten text texts count (length before) r × (after ≡ before)
