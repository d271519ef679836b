-- What each call on a sheet answers, and which stamps stand then: over what the sheet stands on, and the texts σ of the
-- stamps that stand when the call comes.
use Rattle.std.specs.Prelude.{◌≡◌, ℕ, ◌-◌, ◌<◌, ◌≤◌, Bool, cond, ◌⊎◌, List, [], ◌∷◌, ◌++◌, length, take, drop, Some, None, Ok, Err, Decides, Option, Result, nat_lt, slice_index, slice_index_or}
use Rattle.text.specs.Directory.{Text}
use Rattle.meaning.specs.Shape.{Shape}
use Rattle.grammar.specs.declared.leaf.Leaf.{Leaf}
use Rattle.grammar.specs.declared.leaf.Marks.{Marks}
use Rattle.sheet.specs.declared.refusal.Refusal.{Refusal}
use Rattle.sheet.specs.declared.refusal.Refusal.TheVariants.{Short, NotTaken, NoStamp, NoReading}
use Rattle.engine.specs.Answers.{Reading, LogBegins, MayFollow, Distance, Amount, FirstReading}

-- what a sheet stands on: its plan's shape, leaves and number of names, and the texts of the names handed over
pub record Ground : Type 0 where
  pub shape : Shape
  pub leaves : List Leaf
  pub names : ℕ
  pub texts : List Text

-- the first length that is too short, of lengths each with what is needed, if any is
abbrev pub shortage : List (ℕ × ℕ) → Option ℕ
shortage [] = None
shortage (x ∷ xs) = cond (nat_lt x.0 x.1) (Some x.1) (shortage xs)

-- of what a call is handed: names, numbers and amounts
abbrev pub short : ℕ → ℕ → ℕ → Option ℕ
short names numbers amounts = shortage ((names, 128) ∷ ((numbers, 32768) ∷ ((amounts, 8192) ∷ [])))

-- and a list for results, behind the names
abbrev pub short_list : ℕ → ℕ → ℕ → ℕ → Option ℕ
short_list names list numbers amounts = shortage ((names, 128) ∷ ((list, 128) ∷ ((numbers, 32768) ∷ ((amounts, 8192) ∷ []))))

-- an answer: where something is short, that refusal; else a value with the property P, or a refusal with the property Q
abbrev pub Answered : {A : Type 0} → Option ℕ → (A → Type 0) → (Refusal → Type 0) → Result A Refusal → Type 0
Answered (Some n) P Q r = r ≡ Err (Short n)
Answered None P Q (Ok a) = P a
Answered None P Q (Err e) = Q e

-- some log begins with the standing stamps and then t
abbrev pub Follows : Ground → List Text → Text → Type 0
Follows g σ t = MayFollow g.shape g.leaves g.texts σ t

-- some log begins with the standing stamps
abbrev pub Begins : Ground → List Text → Type 0
Begins g σ = LogBegins g.shape g.leaves g.texts σ

-- a reading of stamps
abbrev pub Reads : Ground → List Text → List ℕ → Type 0
Reads g σ w = Reading g.shape g.leaves g.texts σ w

-- stamp t: taken exactly if it may follow
abbrev pub Stamps : Ground → List Text → Text → Option ℕ → Result (Unit {0}) Refusal → Type 0
Stamps g σ t lack r = Answered lack (λ _. Follows g σ t) (λ e. (e ≡ NotTaken) × (Follows g σ t → ⊥)) r

-- and then it stands behind the others; else they stand as before
abbrev pub StandsThen : Ground → List Text → Text → Option ℕ → List Text → Type 0
StandsThen g σ t (Some n) τ = τ ≡ σ
StandsThen g σ t None τ = (Follows g σ t × (τ ≡ σ ++ (t ∷ []))) ⊎ ((Follows g σ t → ⊥) × (τ ≡ σ))

-- strike: granted exactly if a stamp stands
abbrev pub Strikes : List Text → Result (Unit {0}) Refusal → Type 0
Strikes [] r = r ≡ Err NoStamp
Strikes (t ∷ σ) r = r ≡ Ok tt

-- and then the last one is gone
abbrev pub struck : List Text → List Text
struck σ = take (length σ - 1) σ

-- the numbers below a bound that have a property, rising
pub record RisingList (P : ℕ → Type 0) (bound : ℕ) (xs : List ℕ) : Type 0 where
  pub rising : (i j : ℕ) → i < j → j < length xs → slice_index xs i < slice_index xs j
  pub sound : (i : ℕ) → i < length xs → (slice_index xs i < bound) × P (slice_index xs i)
  pub full : (k : ℕ) → k < bound → P k → (i : ℕ) × (i < length xs) × (slice_index xs i ≡ k)

-- next: the numbers of the plan's names whose texts may follow
abbrev pub ListsNext : Ground → List Text → Option ℕ → Result (List ℕ) Refusal → Type 0
ListsNext g σ lack r = Answered lack (λ xs. RisingList (λ k. Follows g σ (slice_index_or g.texts k [])) g.names xs) (λ e. ⊥) r

-- distance: the fewest and the most stamps to come; there are none to tell only where no log begins with what stands
abbrev pub Tells : Ground → List Text → Option ℕ → Result (ℕ × ℕ) Refusal → Type 0
Tells g σ lack r =
    Answered lack (λ x. Distance g.shape g.leaves g.texts σ x.0 x.1) (λ e. (e ≡ NoReading) × (Begins g σ → ⊥)) r

-- amount: the join over all readings, refused exactly where there is none
abbrev pub Weighs : {S V : Type 0} → (S → V) → (V → V → V) → V → (V → Marks → V) → Ground → List Text → Option ℕ → Result S Refusal → Type 0
Weighs value join start extend g σ lack r =
    Answered lack (λ s. Amount join start extend g.shape g.leaves g.texts σ (value s)) (λ e. (e ≡ NoReading) × ((w : List ℕ) → Reads g σ w → ⊥)) r

-- reading: the first of all readings, refused exactly where there is none
abbrev pub GivesFirst : Ground → List Text → Option ℕ → Result (List ℕ) Refusal → Type 0
GivesFirst g σ lack r =
    Answered lack (λ w. FirstReading g.shape g.leaves g.texts σ w) (λ e. (e ≡ NoReading) × ((w : List ℕ) → Reads g σ w → ⊥)) r

-- the list that a count and a buffer give
abbrev pub listed : Result ℕ Refusal → List ℕ → Result (List ℕ) Refusal
listed (Ok n) xs = Ok (take n xs)
listed (Err e) xs = Err e

-- a buffer for results: only the entries of the list are written, and nothing where the call is refused
abbrev pub Keeps : Result ℕ Refusal → List ℕ → List ℕ → Type 0
Keeps (Ok n) before after = (n ≤ 128) × (n ≤ length before) × (drop n after ≡ drop n before)
Keeps (Err e) before after = after ≡ before

-- check: yes exactly if w is a reading of σ, whatever stands
abbrev pub Checks : Ground → List Text → List ℕ → Option ℕ → Result Bool Refusal → Type 0
Checks g σ w lack r = Answered lack (λ yes. Decides yes (Reads g σ w)) (λ e. ⊥) r
