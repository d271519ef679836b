-- The text of a plan under given names: the one way to write it.
use Rattle.std.specs.Prelude.{ℕ, zero, suc, ◌+◌, List, [], ◌∷◌, ◌++◌, ℤ, pos, negsuc, Some, None, decimal, Option, slice_index_or}
use Rattle.meaning.specs.Shape.{Sort, lock, choice, interleave, Link, then, or, beside, Shape, leaf, bracket, join, leaves}
use Rattle.grammar.specs.declared.leaf.Leaf.{Leaf}
use Rattle.grammar.specs.declared.leaf.Marks.{Marks}

-- a correction: nothing for 0, else `:` and the number, behind a `-` where it is negative
abbrev pub correction_text : ℤ → List ℕ
correction_text (pos zero) = []
correction_text (pos (suc n)) = 58 ∷ decimal (suc n)
correction_text (negsuc n) = 58 ∷ 45 ∷ decimal (suc n)

-- a bay: nothing, or `@` and the number
abbrev pub bay_text : Option ℕ → List ℕ
bay_text None = []
bay_text (Some b) = 64 ∷ decimal b

abbrev pub marks_text : Marks → List ℕ
marks_text m = correction_text m.correction ++ bay_text m.bay

-- a name with its marks, or `_`; `texts` are the texts of the names, by number
abbrev pub name_text : List (List ℕ) → Option ℕ → List ℕ → List ℕ
name_text texts None marks = 95 ∷ []
name_text texts (Some n) marks = slice_index_or texts n [] ++ marks

abbrev pub leaf_text : List (List ℕ) → Leaf → List ℕ
leaf_text texts l = name_text texts l.name (marks_text l.marks)

-- the sign of a bracket: `!`, `+` or `|`
abbrev pub sign_of : Sort → ℕ
sign_of lock = 33
sign_of choice = 43
sign_of interleave = 124

-- what stands between neighbours: `.` or `,`
abbrev pub link_sign : Link → ℕ
link_sign then = 46
link_sign or = 44
link_sign beside = 44

-- no leaf, where a list of leaves is too short
abbrev pub no_leaf : Leaf
no_leaf = record { name = None; marks = record { correction = pos 0; bay = None } }

-- the text of a shape whose first leaf has number k, under the leaves and the texts of the names
abbrev pub written_from : ℕ → Shape → List Leaf → List (List ℕ) → List ℕ
written_from k (leaf b) ls texts = leaf_text texts (slice_index_or ls k no_leaf)
written_from k (bracket s e) ls texts = sign_of s ∷ 40 ∷ (written_from k e ls texts ++ (41 ∷ []))
written_from k (join l e f) ls texts = written_from k e ls texts ++ (link_sign l ∷ written_from (k + leaves e) f ls texts)

-- the text of a plan
abbrev pub written : Shape → List Leaf → List (List ℕ) → List ℕ
written e ls texts = written_from 0 e ls texts
