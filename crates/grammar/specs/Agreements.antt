-- The grammar and the machine agree, on whole texts, on their beginnings and on every refusal.
use Rattle.std.specs.Prelude.{◌≡◌, ℕ, Bool, true, ◌↔◌, List, []}
use Rattle.grammar.specs.Form.{Form, a_plan, GoesOn}
use Rattle.grammar.specs.Machine.{Mode, fresh, Frame, live, run, accepts}
use Rattle.grammar.specs.Faults.{Refuses, First}
use Rattle.grammar.specs.Readings.{RefusedAt, FirstRefused, Unrefused}
use Rattle.grammar.specs.declared.refusal.Refusal.{Refusal}

-- the machine accepts exactly the texts of the form
abbrev pub FormsAreAccepted : Type 0
FormsAreAccepted = (t : List ℕ) → Form a_plan t ↔ (accepts (run (live [] fresh) t) ≡ true)

-- it lives on exactly the texts with which some text of the form begins
abbrev pub BeginningsLive : Type 0
BeginningsLive = (t : List ℕ) → GoesOn t ↔ ((fs : List Frame) × (m : Mode) × (run (live [] fresh) t ≡ live fs m))

-- it refuses exactly what the grammar refuses
abbrev pub RefusalsAgree : Type 0
RefusalsAgree = (has : List ℕ → Bool) (t : List ℕ) (f : Refusal) → Refuses has t f ↔ RefusedAt has t f

-- and first the same
abbrev pub FirstsAgree : Type 0
FirstsAgree = (has : List ℕ → Bool) (t : List ℕ) (f : Refusal) → First has t f ↔ FirstRefused has t f

-- it takes exactly the texts that are of the form and unrefused
abbrev pub Takes : (List ℕ → Bool) → List ℕ → Type 0
Takes has t = (accepts (run (live [] fresh) t) ≡ true) × ((f : Refusal) → Refuses has t f → ⊥)

abbrev pub TakingsAgree : Type 0
TakingsAgree = (has : List ℕ → Bool) (t : List ℕ) → Takes has t ↔ Unrefused has t
