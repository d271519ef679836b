-- What is found over the rows of a plan is what a call on a sheet should answer.
use Rattle.std.proofs.Common.{◌≡◌, ℕ, ◌-◌, ◌<◌, ◌≤◌, Bool, true, cond, ltb, ◌⊎◌, ◌↔◌, List, [], ◌∷◌, ◌++◌, map, reverse, length, get_or, Some, None, Ok, Err, Decides, Option, sym, refl, subst, inl, inr, arith}
use lib.ListN.{length-map}
use Rattle.std.proofs.lemmas.Bool.{lt-ltb, le-ltb}
use Rattle.text.specs.Directory.{Text}
use Rattle.meaning.specs.CutOrder.{cut_list}
use Rattle.grammar.specs.declared.leaf.Leaf.{Leaf}
use Rattle.grammar.specs.declared.leaf.Marks.{Marks}
use Rattle.spots.specs.declared.moves.RowMove.{RowMove}
use Rattle.plan.specs.declared.plan.Plan.{Plan}
use Rattle.std.specs.Option.{MatchOption, ok_or}
use Rattle.sheet.specs.declared.refusal.Refusal.TheVariants.{NotTaken, NoReading}
use Rattle.engine.specs.declared.searching.Search.{Search}
use Rattle.engine.specs.Searches.{AheadOf, WholeWay, worth}
use Rattle.engine.specs.Fits.{standing, stamped}
use Rattle.engine.specs.Joined.{Joined}
use Rattle.engine.specs.Ways.{Way, amount, Searchable}
use Rattle.engine.specs.Ahead.{range_over, range_of, Ahead}
use Rattle.engine.specs.Next.{ReadsNext}
use Rattle.engine.specs.Answers.{Distance, Amount}
use Rattle.sheet.specs.Calls.{Answered, short, short_list, Follows, Begins, Reads, Stamps, StandsThen, Tells, Weighs}
use Rattle.sheet.specs.Views.{ground_over, GoesOver}
use Rattle.engine.proofs.Meaning.{taken_iff_live, reading_is_way, amount_is_joined}
use Rattle.engine.proofs.Beyond.{distance_is, nothing_ahead}
use Rattle.engine.proofs.Onward.{next_is}
use Rattle.sheet.proofs.Grounds.{shape, plan_leaves, plan_moves, whole, laid_out, ready}

-- where nothing is short there is room
long_enough : (a b : ℕ) (rest : Option ℕ) → cond (ltb a b) (Some b) rest ≡ None → (b ≤ a) × (rest ≡ None)
long_enough a b rest h = go (cases a b)
  where
    cases : (a b : ℕ) → (a < b) ⊎ (b ≤ a)
    cases a b = search arith

    go : (a < b) ⊎ (b ≤ a) → (b ≤ a) × (rest ≡ None)
    go (inl lt) = let e = lt-ltb a b lt in let f : ◌≡◌ {A = Option ℕ} (Some b) None = rw e at h in let z : ◌≡◌ {A = ℕ} 0 1 = cc in absurd (omega arith)
    go (inr ge) = (ge, let e = le-ltb a b ge in rw e at h)

pub room : (n m a : ℕ) → short n m a ≡ None → (128 ≤ n) × (32768 ≤ m) × (8192 ≤ a)
room n m a h =
    let x = long_enough n 128 _ h in
    let y = long_enough m 32768 _ x.1 in
    let z = long_enough a 8192 _ y.1 in
    (x.0, y.0, z.0)

pub room_list : (n l m a : ℕ) → short_list n l m a ≡ None → (128 ≤ n) × (128 ≤ l) × (32768 ≤ m) × (8192 ≤ a)
room_list n l m a h =
    let x = long_enough n 128 _ h in
    let w = long_enough l 128 _ x.1 in
    let y = long_enough m 32768 _ w.1 in
    let z = long_enough a 8192 _ y.1 in
    (x.0, w.0, y.0, z.0)

pub enough_there : {A : Type 0} (lack : Option ℕ) (x : A) → Answered lack (λ _. Unit {0}) (λ _. ⊥) (Ok x) → None ≡ lack
enough_there (Some n) x h = cc
enough_there None x h = refl

-- over stamps that are kept as numbers
module _ {K : Type 0} (text : K → Text) (p : Plan) (names : List K) (stamps : List ℕ) where
  abbrev stood : List Text
  stood = standing (map text names) stamps

  abbrev fit : ℕ → ℕ → Bool
  fit = stamped (map text names) (plan_leaves p) stood

  abbrev rows : ℕ
  rows = length (cut_list (shape p))

  size : length stamps ≡ length stood
  size = sym (length-map stamps (λ n. get_or (map text names) n []))

  pub live_begins : (r : Bool) → Decides r ((q : ℕ) × (w : List ℕ) × (q < rows) × Way (plan_moves p) fit (length stamps) q w) → Decides r (Begins (ground_over text p names) stood)
  live_begins r d =
      let d2 = subst (λ n. Decides r ((q : ℕ) × (w : List ℕ) × (q < rows) × Way (plan_moves p) fit n q w)) size d in
      let t = taken_iff_live (shape p) (cut_list (shape p)) (plan_moves p) (laid_out p) (whole p) (plan_leaves p) (map text names) stood in
      ((λ e. t.1 (d2.0 e)), (λ b. d2.1 (t.0 b)))

  pub distance_some : (x : ℕ × ℕ) → Joined range_over (range_of (plan_leaves p)) (Ahead (plan_moves p) fit rows (length stamps)) x → Distance (shape p) (plan_leaves p) (map text names) stood x.0 x.1
  distance_some x j = distance_is (shape p) (cut_list (shape p)) (plan_moves p) (laid_out p) (whole p) (plan_leaves p) (map text names) stood x (subst (λ n. Joined range_over (range_of (plan_leaves p)) (Ahead (plan_moves p) fit rows n) x) size j)

  pub distance_none : ((u : List ℕ) → Ahead (plan_moves p) fit rows (length stamps) u → ⊥) → Begins (ground_over text p names) stood → ⊥
  distance_none h = nothing_ahead (shape p) (cut_list (shape p)) (plan_moves p) (laid_out p) (whole p) (plan_leaves p) (map text names) stood (subst (λ n. (u : List ℕ) → Ahead (plan_moves p) fit rows n u → ⊥) size h)

  pub amount_some : {V : Type 0} (join : V → V → V) (start : V) (extend : V → Marks → V) (v : V) → Joined join (amount start extend (plan_leaves p)) (Way (plan_moves p) fit (length stamps) (rows - 1)) v → Amount join start extend (shape p) (plan_leaves p) (map text names) stood v
  amount_some join start extend v j = amount_is_joined (shape p) (cut_list (shape p)) (plan_moves p) (laid_out p) (whole p) (plan_leaves p) (map text names) stood join start extend true v (subst (λ n. Joined join (amount start extend (plan_leaves p)) (Way (plan_moves p) fit n (rows - 1)) v) size j)

  pub amount_none : ((w : List ℕ) → Way (plan_moves p) fit (length stamps) (rows - 1) w → ⊥) → (w : List ℕ) → Reads (ground_over text p names) stood w → ⊥
  amount_none h w r = h (reverse w) (subst (λ n. Way (plan_moves p) fit n (rows - 1) (reverse w)) (sym size) (reading_is_way (shape p) (cut_list (shape p)) (plan_moves p) (laid_out p) (whole p) (plan_leaves p) (map text names) stood w r))

  -- what is read next is what may follow
  pub next_follows : (t : Text) → Follows (ground_over text p names) stood t ↔ ReadsNext (plan_moves p) (plan_leaves p) (map text names) fit (length stamps) t
  next_follows t =
      let n = next_is (shape p) (cut_list (shape p)) (plan_moves p) (laid_out p) (whole p) (plan_leaves p) (map text names) stood t in
      subst (λ k. Follows (ground_over text p names) stood t ↔ ReadsNext (plan_moves p) (plan_leaves p) (map text names) fit k t) (sym size) n

  -- the answers of the calls
  module _ (m a : ℕ) where
    abbrev lack : Option ℕ
    lack = short (length (map text names)) m a

    module _ (t : Text) where
      pub stamps_not : None ≡ lack → (Follows (ground_over text p names) stood t → ⊥) → Stamps (ground_over text p names) stood t lack (Err NotTaken) × StandsThen (ground_over text p names) stood t lack stood
      stamps_not e h = (subst (λ o. Stamps (ground_over text p names) stood t o (Err NotTaken)) e (refl, h), subst (λ o. StandsThen (ground_over text p names) stood t o stood) e (inr (h, refl)))

      pub stamps_taken : None ≡ lack → Follows (ground_over text p names) stood t → (τ : List Text) → τ ≡ stood ++ (t ∷ []) → Stamps (ground_over text p names) stood t lack (Ok tt) × StandsThen (ground_over text p names) stood t lack τ
      stamps_taken e h τ is = (subst (λ o. Stamps (ground_over text p names) stood t o (Ok tt)) e h, subst (λ o. StandsThen (ground_over text p names) stood t o τ) e (inl (h, is)))

-- what a plan's own functions answer is what a search relies on
module _ (p : Plan) (row_count : ℕ) (leaves : List Leaf) (moves : List RowMove) (r : row_count ≡ length (cut_list (shape p))) (l : leaves ≡ plan_leaves p) (v : moves ≡ plan_moves p) where
  pub ready_at : (n : ℕ) → 128 ≤ n → Searchable row_count n leaves moves
  ready_at n h = subst (λ x. Searchable x n leaves moves) (sym r) (subst (λ x. Searchable (length (cut_list (shape p))) n x moves) (sym l) (subst (λ x. Searchable (length (cut_list (shape p))) n (plan_leaves p) x) (sym v) (ready p n h)))

-- the same of what a search finds that goes over the plan
module _ {K : Type 0} (text : K → Text) (p : Plan) (names : List K) (stamps : List ℕ) (s : Search K) (over : GoesOver p names stamps s) where
  pub moved : (P : ℕ → List Leaf → List RowMove → List K → List ℕ → Type 0) → P s.rows s.leaves.now s.moves.now s.names.now s.stamps.now → P (length (cut_list (shape p))) (plan_leaves p) (plan_moves p) names stamps
  moved P h =
      subst (λ n. P n (plan_leaves p) (plan_moves p) names stamps) over.rows
      (subst (λ x. P s.rows x (plan_moves p) names stamps) over.leaves
      (subst (λ x. P s.rows s.leaves.now x names stamps) over.moves
      (subst (λ x. P s.rows s.leaves.now s.moves.now x stamps) over.names (subst (λ x. P s.rows s.leaves.now s.moves.now s.names.now x) over.stamps h))))

  abbrev Fit : List Leaf → List K → List ℕ → ℕ → ℕ → Bool
  Fit ls ns xs = stamped (map text ns) ls (standing (map text ns) xs)

  pub live_at : (b : Bool) → Decides b ((q : ℕ) × (w : List ℕ) × (q < s.rows) × WholeWay text s q w) → Decides b (Begins (ground_over text p names) (standing (map text names) stamps))
  live_at b d = live_begins text p names stamps b (moved (λ n ls ms ns xs. Decides b ((q : ℕ) × (w : List ℕ) × (q < n) × Way ms (Fit ls ns xs) (length xs) q w)) d)

  module _ (m a : ℕ) (e : None ≡ short (length (map text names)) m a) where
    pub tells_at : (o : Option (ℕ × ℕ)) → MatchOption o ((u : List ℕ) → AheadOf text s u → ⊥) (Joined range_over (range_of s.leaves.now) (AheadOf text s)) → Tells (ground_over text p names) (standing (map text names) stamps) (short (length (map text names)) m a) (ok_or o NoReading)
    tells_at None h = subst (λ k. Tells (ground_over text p names) (standing (map text names) stamps) k (Err NoReading)) e (refl, distance_none text p names stamps (moved (λ n ls ms ns xs. (u : List ℕ) → Ahead ms (Fit ls ns xs) n (length xs) u → ⊥) h))
    tells_at (Some x) h = subst (λ k. Tells (ground_over text p names) (standing (map text names) stamps) k (Ok x)) e (distance_some text p names stamps x (moved (λ n ls ms ns xs. Joined range_over (range_of ls) (Ahead ms (Fit ls ns xs) n (length xs)) x) h))

    module _ {S V : Type 0} (value : S → V) (join : V → V → V) (start : V) (extend : V → Marks → V) where
      pub weighs_at : (o : Option S) → MatchOption o ((w : List ℕ) → WholeWay text s (s.rows - 1) w → ⊥) (λ x. Joined join (worth start extend s) (WholeWay text s (s.rows - 1)) (value x)) → Weighs value join start extend (ground_over text p names) (standing (map text names) stamps) (short (length (map text names)) m a) (ok_or o NoReading)
      weighs_at None h = subst (λ k. Weighs value join start extend (ground_over text p names) (standing (map text names) stamps) k (Err NoReading)) e (refl, amount_none text p names stamps (moved (λ n ls ms ns xs. (w : List ℕ) → Way ms (Fit ls ns xs) (length xs) (n - 1) w → ⊥) h))
      weighs_at (Some x) h = subst (λ k. Weighs value join start extend (ground_over text p names) (standing (map text names) stamps) k (Ok x)) e (amount_some text p names stamps join start extend (value x) (moved (λ n ls ms ns xs. Joined join (amount start extend ls) (Way ms (Fit ls ns xs) (length xs) (n - 1)) (value x)) h))
