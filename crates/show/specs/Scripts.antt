-- Scripts: lines whose calls are put to a sheet in turn.
use Rattle.std.specs.Prelude.{◌≡◌, ℕ, Bool, true, List, [], ◌++◌, map, Some, None, Option}
use Rattle.text.specs.Directory.{Text}
use Rattle.sheet.specs.declared.words.Call.{Call}
use Rattle.sheet.specs.declared.words.Call.TheVariants.{Strike}
use Rattle.sheet.specs.declared.words.Turn.{Turn}
use Rattle.sheet.specs.Played.{calls_of}
use Rattle.sheet.specs.Runs.{Desk, Lawful, AmountsAreJoined, DistancesAreTold}
use Rattle.show.specs.declared.script.Script.{Script}
use Rattle.show.specs.Asking.{Finds, Called}

-- a call is asked for at a place, and the script goes on at another: what is found there; a strike where there is nothing more
abbrev pub Goes : {K : Type 0} → Option (Call K × ℕ) → ℕ → Call K → ℕ → Type 0
Goes (Some p) at call to = (call ≡ p.0) × (to ≡ p.1)
Goes None at call to = (call ≡ Strike) × (to ≡ at)

-- a script asks for the call of its next line that asks for one, and is behind that line then
abbrev pub Takes : {K : Type 0} → (K → List ℕ) → (List ℕ → Bool) → Script → Call K → Script → Type 0
Takes {K} text has c call m =
    (m.lines.now ≡ c.lines.now) × ((r : Option (Call K × ℕ)) × Finds text has c.lines.now c.at r × Goes r c.at call m.at)

-- the turns are of the calls that lines ask for from a place on, in their order, and of all of them if the run is whole; and
-- each answer is right for the stamps that stood when its call came
pub record LinesServed {K S V : Type 0} (d : Desk K S V) (has : List ℕ → Bool) (fit : Call K → Call K) (t : List ℕ) (from : ℕ)
    (before after : List (Turn K S)) (whole : Bool) : Type 0 where
  pub turned : List (Turn K S)
  pub added : after ≡ before ++ turned
  pub stands : List Text
  pub lawful : Lawful d [] turned stands
  pub amounts : AmountsAreJoined d turned
  pub distances : DistancesAreTold d turned
  pub called : whole ≡ true → (calls : List (Call K)) × Called d.text has t from calls × (calls_of turned ≡ map fit calls)
