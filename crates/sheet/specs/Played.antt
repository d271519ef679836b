-- Any list of calls, put to a sheet in turn.
use Rattle.std.specs.Prelude.{◌≡◌, ◌+◌, ◌<◌, Bool, true, List, [], ◌∷◌, ◌++◌, map, length, take, slice_index_or}
use Rattle.text.specs.Directory.{Text}
use Rattle.sheet.specs.declared.words.Call.{Call}
use Rattle.sheet.specs.declared.words.Call.TheVariants.{Strike}
use Rattle.sheet.specs.declared.words.Turn.{Turn}
use Rattle.sheet.specs.declared.player.Player.{Player}
use Rattle.sheet.specs.Runs.{Desk, Lawful, AmountsAreJoined, DistancesAreTold}

-- the player asks for the call that its turn has come to
abbrev pub NextCall : {K : Type 0} → Player K → Call K → Player K → Type 0
NextCall c k m = (k ≡ slice_index_or c.calls.now c.at Strike) × (m.calls.now ≡ c.calls.now) × (c.at < length c.calls.now → m.at ≡ c.at + 1)

abbrev pub calls_of : {K S : Type 0} → List (Turn K S) → List (Call K)
calls_of [] = []
calls_of (t ∷ ts) = t.call ∷ calls_of ts

-- the calls were put in their order, from the first, and each answer is right for the stamps that stood when its call came
pub record Played {K S V : Type 0} (d : Desk K S V) (fit : Call K → Call K) (calls : List (Call K)) (before after : List (Turn K S)) (whole : Bool) : Type 0 where
  pub turned : List (Turn K S)
  pub added : after ≡ before ++ turned
  pub stands : List Text
  pub lawful : Lawful d [] turned stands
  pub amounts : AmountsAreJoined d turned
  pub distances : DistancesAreTold d turned
  pub ordered : calls_of turned ≡ map fit (take (length turned) calls)
  pub all : whole ≡ true → length turned ≡ length calls
