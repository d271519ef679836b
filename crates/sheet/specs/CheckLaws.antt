-- What follows from the answer of `check`, also beside that of `reading`, where nothing is short.
use Rattle.std.specs.Prelude.{◌≡◌, ℕ, ◌<◌, ◌≤◌, Bool, true, false, List, length, None, Ok, Err, Result, ◌≢◌, slice_index}
use Rattle.text.specs.Directory.{Text}
use Rattle.meaning.specs.Shape.{leaves}
use Rattle.sheet.specs.declared.refusal.Refusal.{Refusal}
use Rattle.sheet.specs.declared.refusal.Refusal.TheVariants.{NoReading}
use Rattle.sheet.specs.Calls.{Ground, Checks, GivesFirst}

-- of every plan with its names, stamps σ, leaf numbers w, and what `check` answers of them
abbrev pub OfAnswers : (Ground → List Text → List ℕ → Result Bool Refusal → Type 0) → Type 0
OfAnswers claim = (g : Ground) (σ : List Text) (w : List ℕ) (r : Result Bool Refusal) → Checks g σ w None r → claim g σ w r

-- yes to what `reading` gives
abbrev pub FirstIsChecked : Type 0
FirstIsChecked = OfAnswers (λ g σ w r. GivesFirst g σ None (Ok w) → r ≡ Ok true)

-- no to every list where `reading` says that there is none
abbrev pub NoneIsChecked : Type 0
NoneIsChecked = OfAnswers (λ g σ w r. GivesFirst g σ None (Err NoReading) → r ≡ Ok false)

-- no where the lists are not of one length
abbrev pub UnevenIsNot : Type 0
UnevenIsNot = OfAnswers (λ g σ w r. (length w ≢ length σ) → r ≡ Ok false)

-- no to more stamps than the plan has leaves
abbrev pub MoreIsNot : Type 0
MoreIsNot = OfAnswers (λ g σ w r. leaves g.shape < length σ → r ≡ Ok false)

-- no to a number that no leaf has
abbrev pub UnknownIsNot : Type 0
UnknownIsNot = OfAnswers (λ g σ w r. (i : ℕ) → i < length w → length g.leaves ≤ slice_index w i → r ≡ Ok false)
