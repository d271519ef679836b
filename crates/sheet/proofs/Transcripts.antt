-- One more turn of a transcript, and what follows of a lawful one.
use Rattle.std.proofs.Common.{◌≡◌, ℕ, ◌+◌, ◌-◌, ◌≤◌, Bool, true, List, [], ◌∷◌, ◌++◌, length, Some, None, Ok, Err, Option, Result, sym, refl, ap, ◌∙◌, subst, inl, inr, append_assoc, arith, length-append}
use Rattle.std.proofs.lemmas.Bool.{le-ltb}
use Rattle.text.specs.Directory.{Text}
use Rattle.sheet.specs.declared.refusal.Refusal.{Refusal}
use Rattle.sheet.specs.declared.words.Answer.{Answer}
use Rattle.sheet.specs.declared.words.Answer.TheVariants.{Opened, Measured, Weighed}
use Rattle.sheet.specs.declared.words.Call.{Call}
use Rattle.sheet.specs.declared.words.Call.TheVariants.{Stamp, Strike, Next, Distance, Amount, Reading}
use Rattle.sheet.specs.declared.words.Lengths.{Lengths}
use Rattle.sheet.specs.declared.words.Turn.{Turn}
use Rattle.engine.specs.Answers as A
use Rattle.sheet.specs.Calls.{Ground, short, Begins, StandsThen, Tells, Weighs}
use Rattle.sheet.specs.Runs.{Desk, lacks, Right, After, Lawful, Stood, Full, AmountsAreJoined, DistancesAreTold, AfterIsOne, last_of, Asked, fitted, Served}
use Rattle.sheet.proofs.Stamping.{still_begun, begun_take}

pub enough : (n m a : ℕ) → 128 ≤ n → 32768 ≤ m → 8192 ≤ a → short n m a ≡ None
enough n m a x y z = let e = le-ltb n 128 x in let f = le-ltb m 32768 y in let g = le-ltb a 8192 z in rw (e, f, g)

-- what stands after a stamp is one list
stands_one : (g : Ground) (σ : List Text) (t : Text) (lack : Option ℕ) (τ ρ : List Text) → StandsThen g σ t lack τ → StandsThen g σ t lack ρ → τ ≡ ρ
stands_one g σ t (Some n) τ ρ a b = a ∙ sym b
stands_one g σ t None τ ρ (inl (f, a)) (inl (h, b)) = a ∙ sym b
stands_one g σ t None τ ρ (inl (f, a)) (inr (h, b)) = absurd (h f)
stands_one g σ t None τ ρ (inr (f, a)) (inl (h, b)) = absurd (f h)
stands_one g σ t None τ ρ (inr (f, a)) (inr (h, b)) = a ∙ sym b

module _ {K S V : Type 0} (d : Desk K S V) where
  pub after_one : AfterIsOne d
  after_one σ (Stamp name x) τ ρ a b = stands_one d.basis σ (d.text name) (lacks d x) τ ρ a b
  after_one σ Strike τ ρ a b = a ∙ sym b
  after_one σ (Next x) τ ρ a b = a ∙ sym b
  after_one σ (Distance x) τ ρ a b = a ∙ sym b
  after_one σ (Amount x) τ ρ a b = a ∙ sym b
  after_one σ (Reading x) τ ρ a b = a ∙ sym b

  -- some log begins with what stands after a call
  after_begun : (σ : List Text) (c : Call K) (τ : List Text) → After d σ c τ → Begins d.basis σ → Begins d.basis τ
  after_begun σ (Stamp name x) τ a b = still_begun d.basis σ (d.text name) (lacks d x) τ a b
  after_begun σ Strike τ a b = subst (Begins d.basis) (sym a) (begun_take d.basis.shape d.basis.leaves d.basis.texts (length σ - 1) σ b)
  after_begun σ (Next x) τ a b = subst (Begins d.basis) (sym a) b
  after_begun σ (Distance x) τ a b = subst (Begins d.basis) (sym a) b
  after_begun σ (Amount x) τ a b = subst (Begins d.basis) (sym a) b
  after_begun σ (Reading x) τ a b = subst (Begins d.basis) (sym a) b

  pub lawful_more : (σ : List Text) (ts : List (Turn K S)) (τ : List Text) (t : Turn K S) (ρ : List Text) → Lawful d σ ts τ → Right d τ t.call t.answer → After d τ t.call ρ → Lawful d σ (ts ++ (t ∷ [])) ρ
  lawful_more σ [] τ t ρ l r a = (subst (λ x. Right d x t.call t.answer) (sym l) r, (ρ, subst (λ x. After d x t.call ρ) (sym l) a, refl))
  lawful_more σ (u ∷ us) τ t ρ (h, (x, a0, rest)) r a = (h, (x, a0, lawful_more x us τ t ρ rest r a))

  -- every turn of a lawful transcript was answered rightly, and some log began with what stood
  stood_right : (σ : List Text) (ts : List (Turn K S)) (τ ρ : List Text) (t : Turn K S) → Lawful d σ ts τ → Stood d σ ts ρ t → Begins d.basis σ → Right d ρ t.call t.answer × Begins d.basis ρ
  stood_right σ [] τ ρ t l s b = absurd s
  stood_right σ (u ∷ us) τ ρ t (h, (x, a, rest)) (inl (is, same)) b =
      (subst (λ y. Right d y t.call t.answer) (sym is) (subst (λ v. Right d σ v.call v.answer) (sym same) h), subst (Begins d.basis) (sym is) b)
  stood_right σ (u ∷ us) τ ρ t (h, (x, a, rest)) (inr (y, ay, s)) b =
      let same : y ≡ x = after_one σ u.call y x ay a in
      stood_right x us τ ρ t rest (subst (λ z. Stood d z us ρ t) same s) (after_begun σ u.call x a b)

  full_none : (x : Lengths) → Full d x → lacks d x ≡ None
  full_none x (n, m, a) = enough (length d.basis.texts) x.numbers x.amounts n m a

  module _ (ts : List (Turn K S)) (τ : List Text) (law : Lawful d [] ts τ) (begun : Begins d.basis []) where
    pub amounts_joined : AmountsAreJoined d ts
    amounts_joined σ x r s f =
        let h = stood_right [] ts τ σ (record { call = Amount x; answer = Weighed r }) law s begun in
        subst (λ o. Weighs d.value d.join d.start d.extend d.basis σ o r) (full_none x f) h.0

    pub distances_told : DistancesAreTold d ts
    distances_told σ x r s f =
        let h = stood_right [] ts τ σ (record { call = Distance x; answer = Measured r }) law s begun in
        go r (subst (λ o. Tells d.basis σ o r) (full_none x f) h.0) h.1
      where
        go : (r : Result (ℕ × ℕ) Refusal) → Tells d.basis σ None r → Begins d.basis σ
            → (least : ℕ) × (most : ℕ) × (r ≡ Ok (least, most)) × A.Distance d.basis.shape d.basis.leaves d.basis.texts σ least most
        go (Ok y) told b = (y.0, y.1, refl, told)
        go (Err e) told b = absurd (told.1 b)

module _ {K S C : Type 0} (asks : C → Answer S → Call K → C → Type 0) (fit : Call K → Call K) where
  pub asked_more : (c : C) (last : Answer S) (ts : List (Turn K S)) (m : C) → Asked asks fit c last ts m → (t : Turn K S) (k : Call K) (e : C) → asks m (last_of last ts) k e → t.call ≡ fit k → Asked asks fit c last (ts ++ (t ∷ [])) e
  asked_more c last [] m is t k e a f = (k, e, subst (λ x. asks x last k e) (sym is) a, f, refl)
  asked_more c last (u ∷ us) m (k0, m0, a0, f0, rest) t k e a f = (k0, m0, a0, f0, asked_more m0 u.answer us m rest t k e a f)

  pub last_more : (last : Answer S) (ts : List (Turn K S)) (t : Turn K S) → last_of last (ts ++ (t ∷ [])) ≡ t.answer
  last_more last [] t = refl
  last_more last (u ∷ us) t = last_more u.answer us t

pub length_more : {X : Type 0} (ts : List X) (t : X) → length (ts ++ (t ∷ [])) ≡ length ts + 1
length_more ts t = simp length-append (omega arith)

-- what holds between two turns of a service
pub record Going {K S V C : Type 0} (d : Desk K S V) (asks : C → Answer S → Call K → C → Type 0) (fit : Call K → Call K) (clerk clerk' : C) (last : Answer S) (stands : List Text) (done : ℕ) (before after' : List (Turn K S)) : Type 0 where
  pub turned : List (Turn K S)
  pub added : after' ≡ before ++ turned
  pub lawful : Lawful d [] turned stands
  pub long : length turned ≡ done
  pub asked : Asked asks fit clerk Opened turned clerk'
  pub knows : last ≡ last_of Opened turned

module _ {K S V C : Type 0} {d : Desk K S V} {asks : C → Answer S → Call K → C → Type 0} {fit : Call K → Call K} {clerk clerk' : C} {last : Answer S} {σ : List Text} {done : ℕ} {before log : List (Turn K S)} where
  pub going_more : Going d asks fit clerk clerk' last σ done before log → (t : Turn K S) (k : Call K) (e : C) (τ : List Text) (log' : List (Turn K S)) → asks clerk' last k e → t.call ≡ fit k → Right d σ t.call t.answer → After d σ t.call τ → log' ≡ log ++ (t ∷ []) → Going d asks fit clerk e t.answer τ (done + 1) before log'
  going_more h t k e τ log' a f r s l =
      let ts = h.turned in
      record {
        turned = ts ++ (t ∷ []);
        added = l ∙ ap (λ (x : List (Turn K S)). x ++ (t ∷ [])) h.added ∙ append_assoc before ts (t ∷ []);
        lawful = lawful_more d [] ts σ t τ h.lawful r s;
        long = length_more ts t ∙ ap (λ (n : ℕ). n + 1) h.long;
        asked = asked_more asks fit clerk Opened ts clerk' h.asked t k e (subst (λ x. asks clerk' x k e) h.knows a) f;
        knows = sym (last_more asks fit Opened ts t);
      }

pub fitted_same : {K : Type 0} {o p w v n m : ℕ} (k : Call K) → o ≡ p → w ≡ v → n ≡ m → fitted o w n k ≡ fitted p v m k
fitted_same {K} {o} {p} {w} {v} {n} {m} k a b c = ap (λ (x : ℕ). fitted x w n k) a ∙ ap (λ (x : ℕ). fitted p x n k) b ∙ ap (λ (x : ℕ). fitted p v x k) c

-- what a service leaves
pub served : {K S V C : Type 0} {d : Desk K S V} {asks : C → Answer S → Call K → C → Type 0} {fit : Call K → Call K} {clerk clerk' : C} {last : Answer S} {σ : List Text} {done : ℕ} {before log : List (Turn K S)}
    → Going d asks fit clerk clerk' last σ done before log → (turns : ℕ) → done ≤ turns → Begins d.basis [] → (log' : List (Turn K S)) → log' ≡ log → (whole : Bool) → (whole ≡ true → done ≡ turns) → Served d asks fit clerk turns before log' whole
served {d = d} {clerk' = clerk'} {σ = σ} h turns few begun log' same whole all = record {
  turned = h.turned;
  added = same ∙ h.added;
  stands = σ;
  lawful = h.lawful;
  single = after_one d;
  amounts = amounts_joined d h.turned σ h.lawful begun;
  distances = distances_told d h.turned σ h.lawful begun;
  few = omega (arith, h.long);
  all = λ w. h.long ∙ all w;
  then = clerk';
  asked = h.asked;
}
