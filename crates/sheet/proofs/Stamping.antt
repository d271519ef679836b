-- What stamping and striking do to the stamps that stand, and when a stamp may follow.
use Rattle.std.proofs.Common.{◌≡◌, ℕ, zero, suc, ◌+◌, ◌-◌, ◌<◌, ◌≤◌, Bool, true, ltb, List, [], ◌∷◌, ◌++◌, map, length, get_or, take, drop, set, IfSome, Some, None, Option, sym, refl, ap, ◌∙◌, subst, inl, inr, append_assoc, add-one, arith, length-append, take-append-drop, length-take-le, take-take, take-suc-set, ltb-true}
use mathlib.Core.List.{map-append}
use lib.ListN.{length-map}
use Rattle.std.specs.List.{AllByRecursion}
use Rattle.std.proofs.lemmas.Slice.Eq.{bytes_eq-Decides}
use Rattle.std.proofs.lemmas.List.{length_push, get_or-take, get_or_past, take-map}
use Rattle.std.proofs.lemmas.Bool.{cases_lt}
use Rattle.text.specs.Bytes.{every}
use Rattle.text.specs.Directory.{Text, Finds}
use Rattle.meaning.specs.Shape.{Shape}
use Rattle.meaning.specs.Strands.{Permitted}
use Rattle.grammar.specs.Written.{no_leaf}
use Rattle.grammar.specs.declared.leaf.Leaf.{Leaf}
use Rattle.plan.specs.declared.plan.Plan.{Plan}
use Rattle.meaning.proofs.Testing.{and_left, and_right, and_true}
use Rattle.engine.specs.Fits.{fits_name, fits, standing}
use Rattle.engine.specs.Answers.{fit_all, LogBegins, MayFollow}
use Rattle.sheet.specs.Calls.{Ground, Begins, StandsThen}
use Rattle.engine.proofs.Fitted.{fit_length}
use Rattle.sheet.proofs.Grounds.{shape, plan_leaves, limits, named, permitted_short}

-- every one below a bound
pub all_below : (m : ℕ) (xs : List ℕ) → every (λ n. ltb n m) xs ≡ true → AllByRecursion (λ n. n < m) xs
all_below m [] h = tt
all_below m (x ∷ xs) h = (ltb-true x m (and_left (ltb x m) (every (λ n. ltb n m) xs) h), all_below m xs (and_right (ltb x m) (every (λ n. ltb n m) xs) h))

pub every_push : (test : ℕ → Bool) (xs : List ℕ) (x : ℕ) → every test xs ≡ true → test x ≡ true → every test (xs ++ (x ∷ [])) ≡ true
every_push test [] x h k = and_true k refl
every_push test (y ∷ ys) x h k = and_true (and_left (test y) (every test ys) h) (every_push test ys x (and_right (test y) (every test ys) h) k)

every_take : (test : ℕ → Bool) (n : ℕ) (xs : List ℕ) → every test xs ≡ true → every test (take n xs) ≡ true
every_take test zero xs h = refl
every_take test (suc n) [] h = refl
every_take test (suc n) (x ∷ xs) h = and_true (and_left (test x) (every test xs) h) (every_take test n xs (and_right (test x) (every test xs) h))

pub every_fewer : (test : ℕ → Bool) (n count : ℕ) (xs : List ℕ) → n ≤ count → every test (take count xs) ≡ true → every test (take n xs) ≡ true
every_fewer test n count xs less h = subst (λ ys. every test ys ≡ true) (take-take n count xs less) (every_take test n (take count xs) h)

-- one stamp more
pub standing_push : (texts : List Text) (stamps : List ℕ) (count n : ℕ) → count < length stamps → standing texts (take (count + 1) (set stamps count n)) ≡ standing texts (take count stamps) ++ (get_or texts n [] ∷ [])
standing_push texts stamps count n h =
    ap (standing texts) (rw add-one (take-suc-set stamps count n h)) ∙ map-append (λ k. get_or texts k []) (take count stamps) (n ∷ [])

pub standing_length : (texts : List Text) (stamps : List ℕ) (count : ℕ) → count ≤ length stamps → length (standing texts (take count stamps)) ≡ count
standing_length texts stamps count h = length-map (take count stamps) (λ n. get_or texts n []) ∙ length-take-le count stamps h

-- one stamp less
pub standing_take : (texts : List Text) (stamps : List ℕ) (count : ℕ) → count ≤ length stamps → standing texts (take (count - 1) stamps) ≡ take (length (standing texts (take count stamps)) - 1) (standing texts (take count stamps))
standing_take texts stamps count h =
    let e = standing_length texts stamps count h in
    let f : take (count - 1) (standing texts (take count stamps)) ≡ standing texts (take (count - 1) stamps) = take-map (λ n. get_or texts n []) (count - 1) (take count stamps) ∙ ap (standing texts) (take-take (count - 1) count stamps (omega arith)) in
    sym f ∙ ap (λ k. take (k - 1) (standing texts (take count stamps))) (sym e)

module _ (e : Shape) (leaves : List Leaf) (texts : List Text) where
  fit_take : (n : ℕ) (σ : List Text) (w : List ℕ) → fit_all texts leaves σ w ≡ true → fit_all texts leaves (take n σ) (take n w) ≡ true
  fit_take zero σ w h = refl
  fit_take (suc n) [] [] h = refl
  fit_take (suc n) [] (l ∷ w) h = h
  fit_take (suc n) (t ∷ σ) [] h = h
  fit_take (suc n) (t ∷ σ) (l ∷ w) h =
      and_true (and_left (fits texts leaves t l) (fit_all texts leaves σ w) h) (fit_take n σ w (and_right (fits texts leaves t l) (fit_all texts leaves σ w) h))

  -- the beginning of what a log begins with begins a log
  pub begun_take : (n : ℕ) (σ : List Text) → LogBegins e leaves texts σ → LogBegins e leaves texts (take n σ)
  begun_take n σ (u, (w, p, f)) =
      let q : w ++ u ≡ take n w ++ (drop n w ++ u) = ap (λ x. x ++ u) (sym (take-append-drop n w)) ∙ append_assoc (take n w) (drop n w) u in
      (drop n w ++ u, (take n w, subst (Permitted e) q p, fit_take n σ w f))

  -- a leaf that the last text fits
  fit_last : (σ : List Text) (t : Text) (w : List ℕ) → fit_all texts leaves (σ ++ (t ∷ [])) w ≡ true → (l : ℕ) × (fits texts leaves t l ≡ true)
  fit_last [] t [] h = let z : ◌≡◌ {A = ℕ} 0 1 = cc in absurd (omega arith)
  fit_last [] t (l ∷ w) h = (l, and_left (fits texts leaves t l) (fit_all texts leaves [] w) h)
  fit_last (s ∷ σ) t [] h = let z : ◌≡◌ {A = ℕ} 0 1 = cc in absurd (omega arith)
  fit_last (s ∷ σ) t (l ∷ w) h = fit_last σ t w (and_right (fits texts leaves s l) (fit_all texts leaves (σ ++ (t ∷ [])) w) h)

-- the name that a text fits has that text
module _ (texts : List Text) (t : Text) (m : ℕ) (none : (k : ℕ) → k < m → get_or texts k [] ≡ t → ⊥) where
  no_name : (o : Option ℕ) → IfSome o (λ n. n < m) → fits_name texts t o ≡ true → ⊥
  no_name None c f = let z : ◌≡◌ {A = ℕ} 0 1 = cc in omega arith
  no_name (Some n) c f = none n c ((bytes_eq-Decides (get_or texts n []) t).0 f)

module _ (p : Plan) (texts σ : List Text) (t : Text) where
  -- a text that no name of the plan has may not follow
  pub unknown : ((k : ℕ) → k < p.names → get_or texts k [] ≡ t → ⊥) → MayFollow (shape p) (plan_leaves p) texts σ t → ⊥
  unknown none (u, (w, h, f)) =
      let l = fit_last (shape p) (plan_leaves p) texts σ t w f in
      elim (cases_lt l.0 (length (plan_leaves p))) [
        | inl lt ↦ no_name texts t p.names none (get_or (plan_leaves p) l.0 no_leaf).name (named p l.0 lt) l.1
        | inr ge ↦ no_name texts t p.names none None tt (subst (λ x. fits_name texts t x.name ≡ true) (get_or_past (plan_leaves p) l.0 no_leaf ge) l.1)
      ]

  -- nothing follows 128 stamps
  pub no_more : 128 ≤ length σ → MayFollow (shape p) (plan_leaves p) texts σ t → ⊥
  no_more h (u, (w, q, f)) =
      omega (arith, permitted_short (shape p) (w ++ u) q, (limits p).leaf_number, length-append w u, fit_length texts (plan_leaves p) (σ ++ (t ∷ [])) w f, length_push σ t)

-- what `find` says of the plan's names
pub not_found : {K : Type 0} (text : K → Text) (names : List K) (m : ℕ) (t : Text) → m ≤ length names → Finds (map text (take m names)) t None → (k : ℕ) → k < m → get_or (map text names) k [] ≡ t → ⊥
not_found text names m t long f k h e =
    let same : get_or (map text (take m names)) k [] ≡ get_or (map text names) k [] = ap (λ x. get_or x k []) (sym (take-map text m names)) ∙ get_or-take m (map text names) k [] h in
    let size : length (map text (take m names)) ≡ m = length-map (take m names) text ∙ length-take-le m names long in
    f k (omega arith) (same ∙ e)

pub found_at : {K : Type 0} (text : K → Text) (names : List K) (m n : ℕ) (t : Text) → m ≤ length names → Finds (map text (take m names)) t (Some n) → (n < m) × (get_or (map text names) n [] ≡ t)
found_at text names m n t long (lt, is, least) =
    let size : length (map text (take m names)) ≡ m = length-map (take m names) text ∙ length-take-le m names long in
    let h : n < m = omega arith in
    (h, sym (ap (λ x. get_or x n []) (sym (take-map text m names)) ∙ get_or-take m (map text names) n [] h) ∙ is)

-- some log still begins with what stands after a stamp
pub still_begun : (g : Ground) (σ : List Text) (t : Text) (lack : Option ℕ) (τ : List Text) → StandsThen g σ t lack τ → Begins g σ → Begins g τ
still_begun g σ t (Some n) τ is b = subst (Begins g) (sym is) b
still_begun g σ t None τ (inl (f, is)) b = subst (Begins g) (sym is) f
still_begun g σ t None τ (inr (f, is)) b = subst (Begins g) (sym is) b

-- the stamps with one more are below the bound too
pub every_stamped : (test : ℕ → Bool) (stamps : List ℕ) (count n : ℕ) → count < length stamps → every test (take count stamps) ≡ true → test n ≡ true → every test (take (count + 1) (set stamps count n)) ≡ true
every_stamped test stamps count n h all here =
    let same : take (count + 1) (set stamps count n) ≡ take count stamps ++ (n ∷ []) = rw add-one (take-suc-set stamps count n h) in
    subst (λ x. every test x ≡ true) (sym same) (every_push test (take count stamps) n all here)
