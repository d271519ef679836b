-- The leaves of a text as they are read, before their names are numbered, and the text that they make with a shape.
use Rattle.std.specs.Prelude.{◌≡◌, ℕ, ◌<◌, Bool, true, false, List, [], ◌∷◌, ◌++◌, drop, pos, Some, None, Option, slice_index_or}
use Rattle.text.specs.Bytes.{between, name_byte, Longest}
use Rattle.meaning.specs.Shape.{Shape, leaf, bracket, join, leaves}
use Rattle.grammar.specs.Written.{marks_text, sign_of, link_sign}
use Rattle.grammar.specs.Machine.{Frame, fresh, live}
use Rattle.grammar.specs.Faults.{before}
use Rattle.reader.specs.declared.draft.Draft.{Draft}

-- no draft, where a list of drafts is too short
abbrev pub no_draft : Draft
no_draft = record { at = 0; end = None; marks = record { correction = pos 0; bay = None } }

-- whether a leaf has a name
abbrev pub named_to : Option ℕ → Bool
named_to None = false
named_to (Some q) = true

abbrev pub is_named : Draft → Bool
is_named d = named_to d.end

-- the text of a leaf: the name's bytes up to where it ends, and the marks; or `_`
abbrev pub text_to : List ℕ → ℕ → Option ℕ → List ℕ → List ℕ
text_to t p None marks = 95 ∷ []
text_to t p (Some q) marks = between t p q ++ marks

abbrev pub draft_text : List ℕ → Draft → List ℕ
draft_text t d = text_to t d.at d.end (marks_text d.marks)

-- a name begins there, and is as long as can be
abbrev pub NamedAt : List ℕ → ℕ → Option ℕ → Type 0
NamedAt t p None = Unit {0}
NamedAt t p (Some q) = (fs : List Frame) × (before t p ≡ live fs fresh) × Longest name_byte t p q × (p < q)

abbrev pub Placed : List ℕ → List Draft → Type 0
Placed t [] = Unit {0}
Placed t (d ∷ ds) = NamedAt t d.at d.end × Placed t ds

-- which leaves of a shape are names, in order
abbrev pub kinds : Shape → List Bool
kinds (leaf b) = b ∷ []
kinds (bracket s e) = kinds e
kinds (join l e f) = kinds e ++ kinds f

-- the text of a shape, from the texts of its leaves in order
abbrev pub spelled : Shape → List (List ℕ) → List ℕ
spelled (leaf b) ws = slice_index_or ws 0 []
spelled (bracket s e) ws = sign_of s ∷ 40 ∷ (spelled e ws ++ (41 ∷ []))
spelled (join l e f) ws = spelled e ws ++ (link_sign l ∷ spelled f (drop (leaves e) ws))
