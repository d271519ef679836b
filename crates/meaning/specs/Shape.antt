-- The shape of a plan: its expression without names and marks.
use Rattle.std.specs.Prelude.{ℕ, suc, ◌+◌, Bool}

-- the sorts of bracket: `!(..)`, `+(..)` and `|(..)`
pub data Sort : Type 0 where
  lock choice interleave : Sort

-- what joins two neighbours: `.`, or the `,` of a choice, or the `,` of an interleave
pub data Link : Type 0 where
  then or beside : Link

-- a leaf is a name (true) or `_` (false); a bracket holds what its links join
pub data Shape : Type 0 where
  leaf : Bool → Shape
  bracket : Sort → Shape → Shape
  join : Link → Shape → Shape → Shape

-- how many leaves a shape has; they are numbered as they appear
abbrev pub leaves : Shape → ℕ
leaves (leaf b) = 1
leaves (bracket s e) = leaves e
leaves (join l e f) = leaves e + leaves f

-- how many items: leaves and brackets, numbered as they appear, a bracket at its sign
abbrev pub items : Shape → ℕ
items (leaf b) = 1
items (bracket s e) = suc (items e)
items (join l e f) = items e + items f
