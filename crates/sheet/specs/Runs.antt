-- Which answers are right, and which transcripts are lawful.
use Rattle.std.specs.Prelude.{◌≡◌, ℕ, ◌≤◌, min, Bool, true, ◌⊎◌, List, [], ◌∷◌, ◌++◌, length, take, None, Ok, Err, Option, Result}
use Rattle.text.specs.Directory.{Text}
use Rattle.grammar.specs.declared.leaf.Marks.{Marks}
use Rattle.sheet.specs.declared.refusal.Refusal.{Refusal}
use Rattle.sheet.specs.declared.words.Lengths.{Lengths}
use Rattle.sheet.specs.declared.words.Listing.{Listing}
use Rattle.sheet.specs.declared.words.Call.{Call}
use Rattle.sheet.specs.declared.words.Call.TheVariants.{Stamp, Strike, Next, Distance, Amount, Reading}
use Rattle.sheet.specs.declared.words.Answer.{Answer}
use Rattle.sheet.specs.declared.words.Answer.TheVariants.{Opened, Stamped, Struck, Listed, Measured, Weighed, Read}
use Rattle.sheet.specs.declared.words.Turn.{Turn}
use Rattle.engine.specs.Answers as A
use Rattle.sheet.specs.Calls.{Ground, short, short_list, Stamps, StandsThen, Strikes, struck, ListsNext, Tells, Weighs, GivesFirst}

-- the list that a listing holds
abbrev pub listing : Result Listing Refusal → Result (List ℕ) Refusal
listing (Ok l) = Ok (take l.count l.numbers)
listing (Err e) = Err e

-- what is said of an answer that belongs to a call of its sort
abbrev pub OfStamp : {S : Type 0} → Answer S → (Result (Unit {0}) Refusal → Type 0) → Type 0
OfStamp Opened P = ⊥
OfStamp (Stamped r) P = P r
OfStamp (Struck r) P = ⊥
OfStamp (Listed r) P = ⊥
OfStamp (Measured r) P = ⊥
OfStamp (Weighed r) P = ⊥
OfStamp (Read r) P = ⊥

abbrev pub OfStrike : {S : Type 0} → Answer S → (Result (Unit {0}) Refusal → Type 0) → Type 0
OfStrike Opened P = ⊥
OfStrike (Stamped r) P = ⊥
OfStrike (Struck r) P = P r
OfStrike (Listed r) P = ⊥
OfStrike (Measured r) P = ⊥
OfStrike (Weighed r) P = ⊥
OfStrike (Read r) P = ⊥

abbrev pub OfNext : {S : Type 0} → Answer S → (Result (List ℕ) Refusal → Type 0) → Type 0
OfNext Opened P = ⊥
OfNext (Stamped r) P = ⊥
OfNext (Struck r) P = ⊥
OfNext (Listed r) P = P (listing r)
OfNext (Measured r) P = ⊥
OfNext (Weighed r) P = ⊥
OfNext (Read r) P = ⊥

abbrev pub OfDistance : {S : Type 0} → Answer S → (Result (ℕ × ℕ) Refusal → Type 0) → Type 0
OfDistance Opened P = ⊥
OfDistance (Stamped r) P = ⊥
OfDistance (Struck r) P = ⊥
OfDistance (Listed r) P = ⊥
OfDistance (Measured r) P = P r
OfDistance (Weighed r) P = ⊥
OfDistance (Read r) P = ⊥

abbrev pub OfAmount : {S : Type 0} → Answer S → (Result S Refusal → Type 0) → Type 0
OfAmount Opened P = ⊥
OfAmount (Stamped r) P = ⊥
OfAmount (Struck r) P = ⊥
OfAmount (Listed r) P = ⊥
OfAmount (Measured r) P = ⊥
OfAmount (Weighed r) P = P r
OfAmount (Read r) P = ⊥

abbrev pub OfReading : {S : Type 0} → Answer S → (Result (List ℕ) Refusal → Type 0) → Type 0
OfReading Opened P = ⊥
OfReading (Stamped r) P = ⊥
OfReading (Struck r) P = ⊥
OfReading (Listed r) P = ⊥
OfReading (Measured r) P = ⊥
OfReading (Weighed r) P = ⊥
OfReading (Read r) P = P (listing r)

-- what a transcript is judged by: what the sheet stands on, the text of a name, and the scale of the amounts
pub record Desk (K S V : Type 0) : Type 0 where
  pub basis : Ground
  pub text : K → Text
  pub value : S → V
  pub join : V → V → V
  pub start : V
  pub extend : V → Marks → V

abbrev pub desk : {K S V : Type 0} → (K → Text) → (S → V) → (V → V → V) → V → (V → Marks → V) → Ground → Desk K S V
desk text value join start extend g = record { basis = g; text = text; value = value; join = join; start = start; extend = extend }

-- the lengths that a call asks for; a strike is lent nothing
abbrev pub lengths_of : {K : Type 0} → Call K → Lengths
lengths_of (Stamp name x) = x
lengths_of Strike = record { list = 0; numbers = 0; amounts = 0 }
lengths_of (Next x) = x
lengths_of (Distance x) = x
lengths_of (Amount x) = x
lengths_of (Reading x) = x

-- no longer than what there is
abbrev pub cut_down : ℕ → ℕ → ℕ → Lengths → Lengths
cut_down l n a x = record { list = min x.list l; numbers = min x.numbers n; amounts = min x.amounts a }

-- the call with buffers no longer than there are
abbrev pub fitted : {K : Type 0} → ℕ → ℕ → ℕ → Call K → Call K
fitted l n a (Stamp name x) = Stamp name (cut_down l n a x)
fitted l n a Strike = Strike
fitted l n a (Next x) = Next (cut_down l n a x)
fitted l n a (Distance x) = Distance (cut_down l n a x)
fitted l n a (Amount x) = Amount (cut_down l n a x)
fitted l n a (Reading x) = Reading (cut_down l n a x)

module _ {K S V : Type 0} (d : Desk K S V) where
  -- what is too short for a call with buffers of these lengths
  abbrev pub lacks : Lengths → Option ℕ
  lacks x = short (length d.basis.texts) x.numbers x.amounts

  abbrev pub lacks_list : Lengths → Option ℕ
  lacks_list x = short_list (length d.basis.texts) x.list x.numbers x.amounts

  -- the answer is right for the stamps that stand when the call comes
  abbrev pub Right : List Text → Call K → Answer S → Type 0
  Right σ (Stamp name x) a = OfStamp a (λ r. Stamps d.basis σ (d.text name) (lacks x) r)
  Right σ Strike a = OfStrike a (λ r. Strikes σ r)
  Right σ (Next x) a = OfNext a (λ r. ListsNext d.basis σ (lacks_list x) r)
  Right σ (Distance x) a = OfDistance a (λ r. Tells d.basis σ (lacks x) r)
  Right σ (Amount x) a = OfAmount a (λ r. Weighs d.value d.join d.start d.extend d.basis σ (lacks x) r)
  Right σ (Reading x) a = OfReading a (λ r. GivesFirst d.basis σ (lacks_list x) r)

  -- the stamps τ that stand after the call: by the plan, the names and the call alone
  abbrev pub After : List Text → Call K → List Text → Type 0
  After σ (Stamp name x) τ = StandsThen d.basis σ (d.text name) (lacks x) τ
  After σ Strike τ = τ ≡ struck σ
  After σ (Next x) τ = τ ≡ σ
  After σ (Distance x) τ = τ ≡ σ
  After σ (Amount x) τ = τ ≡ σ
  After σ (Reading x) τ = τ ≡ σ

  -- each answer is right for the stamps that stand when its call comes: from σ, to τ after the last turn
  abbrev pub Lawful : List Text → List (Turn K S) → List Text → Type 0
  Lawful σ [] τ = σ ≡ τ
  Lawful σ (t ∷ ts) τ = Right σ t.call t.answer × ((ρ : List Text) × After σ t.call ρ × Lawful ρ ts τ)

  -- a turn of a transcript that begins with σ standing, and the stamps τ that stood when its call came
  abbrev pub Stood : List Text → List (Turn K S) → List Text → Turn K S → Type 0
  Stood σ [] τ t = ⊥
  Stood σ (u ∷ us) τ t = ((τ ≡ σ) × (t ≡ u)) ⊎ ((ρ : List Text) × After σ u.call ρ × Stood ρ us τ t)

  -- the names and the buffers are as long as needed
  abbrev pub Full : Lengths → Type 0
  Full x = (128 ≤ length d.basis.texts) × (32768 ≤ x.numbers) × (8192 ≤ x.amounts)

  -- with full buffers an amount is the join of the amounts of all readings of the standing stamps, and it is refused (12)
  -- exactly where there is none
  abbrev pub AmountsAreJoined : List (Turn K S) → Type 0
  AmountsAreJoined turns = (σ : List Text) (x : Lengths) (r : Result S Refusal)
      → Stood [] turns σ (record { call = Amount x; answer = Weighed r }) → Full x
      → Weighs d.value d.join d.start d.extend d.basis σ None r

  -- with full buffers a distance is the least and the greatest number of stamps that any log that begins with the standing
  -- stamps has beyond them, and it is never refused
  abbrev pub DistancesAreTold : List (Turn K S) → Type 0
  DistancesAreTold turns = (σ : List Text) (x : Lengths) (r : Result (ℕ × ℕ) Refusal)
      → Stood [] turns σ (record { call = Distance x; answer = Measured r }) → Full x
      → (least : ℕ) × (most : ℕ) × (r ≡ Ok (least, most)) × A.Distance d.basis.shape d.basis.leaves d.basis.texts σ least most

  -- what stands after a call is one list of stamps
  abbrev pub AfterIsOne : Type 0
  AfterIsOne = (σ : List Text) (c : Call K) (τ ρ : List Text) → After σ c τ → After σ c ρ → τ ≡ ρ

-- the answer that the next call knows of
abbrev pub last_of : {K S : Type 0} → Answer S → List (Turn K S) → Answer S
last_of a [] = a
last_of a (t ∷ ts) = last_of t.answer ts

-- the calls are those that the clerk asks for, each when it knows the answer before it, with buffers no longer than there are
module _ {K S C : Type 0} (asks : C → Answer S → Call K → C → Type 0) (fit : Call K → Call K) where
  abbrev pub Asked : C → Answer S → List (Turn K S) → C → Type 0
  Asked c last [] e = c ≡ e
  Asked c last (t ∷ ts) e = (k : Call K) × (m : C) × asks c last k m × (t.call ≡ fit k) × Asked m t.answer ts e

-- what a service adds to a transcript: lawful turns from no stamps, of what the clerk asked, and all of them if it is whole;
-- and what follows of amounts and distances
pub record Served {K S V C : Type 0} (d : Desk K S V) (asks : C → Answer S → Call K → C → Type 0) (fit : Call K → Call K)
    (clerk : C) (turns : ℕ) (before after : List (Turn K S)) (whole : Bool) : Type 0 where
  pub turned : List (Turn K S)
  pub added : after ≡ before ++ turned
  pub stands : List Text
  pub lawful : Lawful d [] turned stands
  pub single : AfterIsOne d
  pub amounts : AmountsAreJoined d turned
  pub distances : DistancesAreTold d turned
  pub few : length turned ≤ turns
  pub all : whole ≡ true → length turned ≡ turns
  pub then : C
  pub asked : Asked asks fit clerk Opened turned then
