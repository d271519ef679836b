-- What lines ask of a sheet.
use Rattle.std.specs.Prelude.{◌≡◌, ℕ, ◌+◌, ◌≤◌, Bool, false, List, [], ◌∷◌, ◌++◌, length, Some, None, Ok, Err, codes, Option, Result, ◌≢◌}
use Rattle.text.specs.Bytes.{between}
use Rattle.sheet.specs.declared.words.Lengths.{Lengths}
use Rattle.sheet.specs.declared.words.Call.{Call}
use Rattle.sheet.specs.declared.words.Call.TheVariants.{Stamp, Strike, Next, Distance, Amount, Reading}
use Rattle.show.specs.Lines.{Lies}
use Rattle.show.specs.declared.requests.LineError.{LineError}
use Rattle.show.specs.declared.requests.LineError.TheVariants.{NoName, NoCall}

-- the lengths that calls need
abbrev pub full : Lengths
full = record { list = 128; numbers = 32768; amounts = 8192 }

-- a call is lent what it needs
abbrev pub LentFull : {K : Type 0} → Call K → Type 0
LentFull (Stamp name x) = x ≡ full
LentFull Strike = Unit {0}
LentFull (Next x) = x ≡ full
LentFull (Distance x) = x ≡ full
LentFull (Amount x) = x ≡ full
LentFull (Reading x) = x ≡ full

-- what a line asks: nothing or a call; or why it asks for none of them
abbrev pub Request : Type 0 → Type 0
Request K = Result (Option (Call K)) LineError

-- no call is asked for
abbrev pub Idle : {K : Type 0} → Request K → Type 0
Idle (Ok None) = Unit {0}
Idle (Ok (Some call)) = ⊥
Idle (Err e) = Unit {0}

-- the line of a stamp of a text
abbrev pub stamp_line : List ℕ → List ℕ
stamp_line t = codes "stamp " ++ t

module _ {K : Type 0} (text : K → List ℕ) (has : List ℕ → Bool) where
  -- the line that asks for a call
  abbrev pub call_line : Call K → List ℕ
  call_line (Stamp name x) = stamp_line (text name)
  call_line Strike = codes "strike"
  call_line (Next x) = codes "next"
  call_line (Distance x) = codes "distance"
  call_line (Amount x) = codes "amount"
  call_line (Reading x) = codes "reading"

  -- what a line asks: nothing, a call, a stamp of a text that no name has, or none of these
  abbrev pub Asks : List ℕ → Request K → Type 0
  Asks line (Ok None) = line ≡ []
  Asks line (Ok (Some call)) = (line ≡ call_line call) × LentFull call
  Asks line (Err NoName) = (t : List ℕ) × (line ≡ stamp_line t) × (has t ≡ false)
  Asks line (Err NoCall) = (line ≢ []) × ((t : List ℕ) → line ≢ stamp_line t) × ((call : Call K) → line ≢ call_line call)

  -- the call that a line asks for, or it asks for none
  abbrev pub AsksFor : List ℕ → Option (Call K) → Type 0
  AsksFor line None = (a : Request K) × Asks line a × Idle a
  AsksFor line (Some call) = Asks line (Ok (Some call))

  -- the first call that a line of a text asks for from a place on, and where the next line begins; or none asks for one
  pub data Finds (t : List ℕ) : ℕ → Option (Call K × ℕ) → Type 0 where
    over : {at : ℕ} → length t ≤ at → Finds t at None
    here : {at next : ℕ} {call : Call K} (end : ℕ) → Lies t at end → Asks (between t at end) (Ok (Some call)) → next ≡ end + 1 → Finds t at (Some (call, next))
    later : {at : ℕ} {r : Option (Call K × ℕ)} (end : ℕ) (a : Request K) → Lies t at end → Asks (between t at end) a → Idle a → Finds t (end + 1) r → Finds t at r

  -- the calls that lines ask for from a place on, in turn
  pub data Called (t : List ℕ) : ℕ → List (Call K) → Type 0 where
    all : {at : ℕ} → Finds t at None → Called t at []
    more : {at next : ℕ} {call : Call K} {calls : List (Call K)} → Finds t at (Some (call, next)) → Called t next calls → Called t at (call ∷ calls)

  -- how many they are
  abbrev pub Counted : List ℕ → ℕ → ℕ → Type 0
  Counted t from n = (calls : List (Call K)) × Called t from calls × (n ≡ length calls)
