-- Worked answers, where the names are words: texts that none of the refusals 2 to 6 applies to, and texts that are
-- refused, each with its first refusal.
use Rattle.std.specs.Prelude.{ℕ, zero, suc, List, [], ◌∷◌, ◌++◌, codes}
use Prim.Native.String.{String}
use Rattle.text.specs.Names.{word}
use Rattle.grammar.specs.Readings.{FirstRefused, Unrefused}
use Rattle.grammar.specs.declared.refusal.Refusal.{Refusal}
use Rattle.grammar.specs.declared.refusal.Refusal.TheVariants.{Form, NoName, Mark, Depth, Many}

-- texts that are refused for none of 2 to 6
abbrev pub taken_texts : List String
taken_texts =
    "_"
    ∷ "a:-32768"
    ∷ "a:32767@63"
    ∷ "+(a:1@2,a:-4@2)"
    ∷ "weighin:-3@1.|(+(glass@4,mixed@5),!(front.rear)).out@1"
    ∷ []

-- texts that are refused, each with what it is refused for first
abbrev pub refused_texts : List (String × Refusal)
refused_texts =
    ("a.", Form 2)
    ∷ ("a:", Form 2)
    ∷ ("a:-", Form 3)
    ∷ ("+(a)", Form 3)
    ∷ ("!(a,b)", Form 3)
    ∷ ("a@1:2", Form 3)
    ∷ ("+(a,a,a,a,a,a,a,a,a)", Form 17)
    ∷ ("_:1", Form 1)
    ∷ ("A", Form 0)
    ∷ ("a1", NoName 0)
    ∷ ("a1.+(b)", NoName 0)
    ∷ ("thirteenbytes", NoName 0)
    ∷ ("a:0", Mark 2)
    ∷ ("a:32768", Mark 2)
    ∷ ("a:-0", Mark 2)
    ∷ ("a@64", Mark 2)
    ∷ ("a@01", Mark 2)
    ∷ ("a:32768x", Mark 2)
    ∷ []

-- each of these is of the form and unrefused
abbrev pub AllTaken : List String → Type 0
AllTaken [] = Unit {0}
AllTaken (t ∷ ts) = Unrefused word (codes t) × AllTaken ts

-- each of these is refused so
abbrev pub AllRefused : List (String × Refusal) → Type 0
AllRefused [] = Unit {0}
AllRefused (x ∷ xs) = FirstRefused word (codes x.0) x.1 × AllRefused xs

-- a text written n times
abbrev pub times : ℕ → List ℕ → List ℕ
times zero t = []
times (suc n) t = t ++ times n t

-- these texts are so taken and so refused: 17 locks within one another, 129 leaves and 65 brackets are too many
pub record AnswersWorked : Type 0 where
  pub taken : AllTaken taken_texts
  pub refused : AllRefused refused_texts
  pub deep : FirstRefused word (times 17 (codes "!(") ++ codes "a") (Depth 32)
  pub leaves : FirstRefused word (times 128 (codes "a.") ++ codes "a") (Many 256)
  pub brackets : FirstRefused word (times 64 (codes "!(a).") ++ codes "!(a)") (Many 320)
