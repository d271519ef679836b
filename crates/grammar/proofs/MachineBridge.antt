-- What leads the machine to accept is of the form; and every live state can be completed.
use Rattle.std.proofs.Common.{◌≡◌, ℕ, zero, suc, ◌<◌, ◌≤◌, Bool, true, false, cond, ◌&&◌, eqb, ltb, leb, List, [], ◌∷◌, ◌++◌, sym, refl, ap, ◌∙◌, subst, append_assoc, append-nil, arith, eqb-true}
use Rattle.std.proofs.lemmas.Bool.Decides.{nat_tests}
use Rattle.text.specs.Bytes.{digit, name_byte}
use Rattle.meaning.specs.Shape.{Sort, lock, choice, interleave}
use Rattle.grammar.specs.Written.{sign_of}
use Rattle.grammar.specs.Form.{least, most, BytesOf, last_byte, more_bytes, Digits, Correction, unsigned, negative, Bay, in_bay, Marks, no_mark, correction_only, bay_only, both_marks, blank_leaf, name_leaf, an_item, a_plan, some_plans, Form, GoesOn, whole_leaf, whole_bracket, one_item, more_items, last_plan, more_plans}
use Rattle.grammar.specs.Machine.{Mode, fresh, opening, naming, colon, negating, shifting, at, housing, ended, Frame, State, dead, live, ends, step, run, accepts}
use Rattle.grammar.proofs.MachineRuns.{run_++, run_dead, never, through, dot_step}

mutual
  -- what may follow a whole plan, with these brackets open
  pub data Closes : List Frame → List ℕ → Type 0 where
    done : Closes [] []
    close : {s : Sort} {k : ℕ} {fs : List Frame} {v : List ℕ} → least s ≤ k → After fs v → Closes (record { sort = s; count = k } ∷ fs) (41 ∷ v)
    comma : {s : Sort} {k : ℕ} {fs : List Frame} {w v : List ℕ} → k < most s → Form a_plan w → Closes (record { sort = s; count = suc k } ∷ fs) v → Closes (record { sort = s; count = k } ∷ fs) (44 ∷ (w ++ v))

  -- what may follow a whole item
  pub data After : List Frame → List ℕ → Type 0 where
    over : {fs : List Frame} {v : List ℕ} → Closes fs v → After fs v
    dot : {fs : List Frame} {w v : List ℕ} → Form a_plan w → Closes fs v → After fs (46 ∷ (w ++ v))

abbrev Starts : List Frame → List ℕ → Type 0
Starts fs u = (w : List ℕ) × (v : List ℕ) × Form a_plan w × Closes fs v × (u ≡ w ++ v)

item_after : {fs : List Frame} {w v : List ℕ} → Form an_item w → After fs v → Starts fs (w ++ v)
item_after {fs} {w} i (over {v = v} c) = (w, v, one_item i, c, refl)
item_after {fs} {w} i (dot {w = x} {v = v} p c) = (w ++ (46 ∷ x), v, more_items i p, c, sym (append_assoc w (46 ∷ x) v))

abbrev Inside : Sort → ℕ → List Frame → List ℕ → Type 0
Inside s k fs u = (w : List ℕ) × (v : List ℕ) × Form (some_plans s k) w × After fs v × (u ≡ w ++ v)

-- the stack as its innermost bracket and the rest
abbrev Innermost : List Frame → List ℕ → List ℕ → Type 0
Innermost [] w v = Unit {0}
Innermost (f ∷ fs) w v = Inside f.sort f.count fs (w ++ v)

inside : {fs : List Frame} {w v : List ℕ} → Form a_plan w → Closes fs v → Innermost fs w v
inside p done = tt
inside {w = w} p (close {v = v} l a) = (w ++ (41 ∷ []), v, last_plan l p, a, sym (append_assoc w (41 ∷ []) v))
inside {w = w} p (comma {w = x} {v = v} l q c) =
    let r = inside q c in
    (w ++ (44 ∷ r.0), r.1, more_plans l p r.2, r.3, ap (λ y. w ++ (44 ∷ y)) r.4 ∙ sym (append_assoc w (44 ∷ r.0) r.1))

-- bytes of a kind, perhaps none
data Bytes (kind : ℕ → Bool) : List ℕ → Type 0 where
  no_bytes : Bytes kind []
  one_more : {b : ℕ} {w : List ℕ} → kind b ≡ true → Bytes kind w → Bytes kind (b ∷ w)

as_run : {kind : ℕ → Bool} {b : ℕ} {w : List ℕ} → kind b ≡ true → Bytes kind w → BytesOf kind (b ∷ w)
as_run k no_bytes = last_byte k
as_run k (one_more l h) = more_bytes k (as_run l h)

data House : List ℕ → Type 0 where
  no_bay : House []
  has : {w : List ℕ} → Bay w → House w

-- what completes a text that led to the state
abbrev Means : State → List ℕ → Type 0
Means dead u = ⊥
Means (live fs fresh) u = Starts fs u
Means (live fs (opening s)) u = (w : List ℕ) × (v : List ℕ) × Form (some_plans s 1) w × After fs v × (u ≡ 40 ∷ (w ++ v))
Means (live fs naming) u = (n : List ℕ) × (m : List ℕ) × (v : List ℕ) × Bytes name_byte n × Marks m × After fs v × (u ≡ n ++ (m ++ v))
Means (live fs colon) u = (c : List ℕ) × (h : List ℕ) × (v : List ℕ) × Correction (58 ∷ c) × House h × After fs v × (u ≡ c ++ (h ++ v))
Means (live fs negating) u = (c : List ℕ) × (h : List ℕ) × (v : List ℕ) × Digits c × House h × After fs v × (u ≡ c ++ (h ++ v))
Means (live fs shifting) u = (c : List ℕ) × (h : List ℕ) × (v : List ℕ) × Bytes digit c × House h × After fs v × (u ≡ c ++ (h ++ v))
Means (live fs at) u = (c : List ℕ) × (v : List ℕ) × Digits c × After fs v × (u ≡ c ++ v)
Means (live fs housing) u = (c : List ℕ) × (v : List ℕ) × Bytes digit c × After fs v × (u ≡ c ++ v)
Means (live fs ended) u = After fs u

pick : {C : Type 0} (P : State → Type 0) (x : Bool) (s r : State) → (x ≡ true → P s → C) → (P r → C) → P (cond x s r) → C
pick P true s r f g h = f refl h
pick P false s r f g h = g h

and_both : (x y : Bool) → (x && y) ≡ true → (x ≡ true) × (y ≡ true)
and_both true y e = (refl, e)
and_both false y e = absurd (never e)

dotted : {fs : List Frame} (b : ℕ) (t : List ℕ) → eqb b 46 ≡ true → Starts fs t → After fs (b ∷ t)
dotted {fs} b t e (w, v, p, c, i) =
    subst (λ x. After fs (x ∷ t)) (sym (eqb-true b 46 e)) (subst (λ x. After fs (46 ∷ x)) (sym i) (dot p c))

ends_back : (fs : List Frame) (b : ℕ) (t : List ℕ) → Means (ends fs b) t → After fs (b ∷ t)
ends_back [] b t h = pick (λ s. Means s t) (eqb b 46) _ _ (λ e m. dotted b t e m) absurd h
ends_back (f ∷ fs) b t h =
    pick (λ s. Means s t) (eqb b 46) _ _ (λ e m. dotted b t e m)
    (pick (λ s. Means s t) (eqb b 44 && ltb f.count (most f.sort)) _ _
    (λ e m.
    let p = and_both (eqb b 44) _ e in
    let l : f.count < most f.sort = grind (arith, nat_tests, p.1) in
    subst (λ x. After (f ∷ fs) (x ∷ t)) (sym (eqb-true b 44 p.0)) (subst (λ x. After (f ∷ fs) (44 ∷ x)) (sym m.4) (over (comma l m.2 m.3))))
    (pick (λ s. Means s t) (eqb b 41 && leb (least f.sort) f.count) _ _
    (λ e m.
    let p = and_both (eqb b 41) _ e in
    let l : least f.sort ≤ f.count = grind (arith, nat_tests, p.1) in
    subst (λ x. After (f ∷ fs) (x ∷ t)) (sym (eqb-true b 41 p.0)) (over (close l m)))
    absurd))
    h

leaf_of : {n m : List ℕ} {b : ℕ} {fs : List Frame} {v : List ℕ} → name_byte b ≡ true → Bytes name_byte n → Marks m → After fs v → Starts fs ((b ∷ n) ++ (m ++ v))
leaf_of {n} {m} {b} {fs} {v} k h g a =
    subst (Starts fs) (append_assoc (b ∷ n) m v) (item_after (whole_leaf (name_leaf (as_run k h) g)) a)

signed : (s : Sort) (fs : List Frame) (b : ℕ) (t : List ℕ) → eqb b (sign_of s) ≡ true → Means (live fs (opening s)) t → Starts fs (b ∷ t)
signed s fs b t e (w, v, p, a, i) =
    subst (λ x. Starts fs (x ∷ t)) (sym (eqb-true b (sign_of s) e))
    (subst (λ x. Starts fs (sign_of s ∷ x)) (sym i) (item_after (whole_bracket p) a))

marked : {c h : List ℕ} → Correction c → House h → Marks (c ++ h)
marked {c} g no_bay = subst Marks (sym (append-nil c)) (correction_only g)
marked g (has b) = both_marks g b

back : (s : State) (b : ℕ) (t : List ℕ) → Means (step s b) t → Means s (b ∷ t)
back dead b t h = h
back (live fs ended) b t h = ends_back fs b t h
back (live fs fresh) b t h =
    pick (λ s. Means s t) (name_byte b) _ _
    (λ k m. subst (λ x. Starts fs (b ∷ x)) (sym m.6) (leaf_of k m.3 m.4 m.5))
    (pick (λ s. Means s t) (eqb b 95) _ _ (λ e a. subst (λ x. Starts fs (x ∷ t)) (sym (eqb-true b 95 e)) (item_after (whole_leaf blank_leaf) a))
    (pick (λ s. Means s t) (eqb b 33) _ _ (signed lock fs b t)
    (pick (λ s. Means s t) (eqb b 43) _ _ (signed choice fs b t)
    (pick (λ s. Means s t) (eqb b 124) _ _ (signed interleave fs b t) absurd))))
    h
back (live fs (opening s)) b t h =
    pick (λ s. Means s t) (eqb b 40) _ _
    (λ e m.
    let r = inside m.2 m.3 in
    (r.0, r.1, r.2, r.3, ap (λ x. x ∷ t) (eqb-true b 40 e) ∙ ap (λ x. 40 ∷ x) (m.4 ∙ r.4)))
    absurd h
back (live fs naming) b t h =
    pick (λ s. Means s t) (name_byte b) _ _
    (λ k m. (b ∷ m.0, m.1, m.2, one_more k m.3, m.4, m.5, ap (λ x. b ∷ x) m.6))
    (pick (λ s. Means s t) (eqb b 58) _ _
    (λ e m. (
      [],
      (58 ∷ m.0) ++ m.1,
      m.2,
      no_bytes,
      marked m.3 m.4,
      m.5,
      ap (λ x. x ∷ t) (eqb-true b 58 e) ∙ (ap (λ x. 58 ∷ x) m.6 ∙ sym (append_assoc (58 ∷ m.0) m.1 m.2)),
    ))
    (pick (λ s. Means s t) (eqb b 64) _ _
    (λ e m. ([], 64 ∷ m.0, m.1, no_bytes, bay_only (in_bay m.2), m.3, ap (λ x. x ∷ t) (eqb-true b 64 e) ∙ ap (λ x. 64 ∷ x) m.4))
    (λ m. ([], [], b ∷ t, no_bytes, no_mark, ends_back fs b t m, refl))))
    h
back (live fs colon) b t h =
    pick (λ s. Means s t) (digit b) _ _
    (λ k m. (b ∷ m.0, m.1, m.2, unsigned (as_run k m.3), m.4, m.5, ap (λ x. b ∷ x) m.6))
    (pick (λ s. Means s t) (eqb b 45) _ _
    (λ e m. (45 ∷ m.0, m.1, m.2, negative m.3, m.4, m.5, ap (λ x. x ∷ t) (eqb-true b 45 e) ∙ ap (λ x. 45 ∷ x) m.6))
    absurd)
    h
back (live fs negating) b t h =
    pick (λ s. Means s t) (digit b) _ _ (λ k m. (b ∷ m.0, m.1, m.2, as_run k m.3, m.4, m.5, ap (λ x. b ∷ x) m.6)) absurd h
back (live fs shifting) b t h =
    pick (λ s. Means s t) (digit b) _ _ (λ k m. (b ∷ m.0, m.1, m.2, one_more k m.3, m.4, m.5, ap (λ x. b ∷ x) m.6))
    (pick (λ s. Means s t) (eqb b 64) _ _
    (λ e m. ([], 64 ∷ m.0, m.1, no_bytes, has (in_bay m.2), m.3, ap (λ x. x ∷ t) (eqb-true b 64 e) ∙ ap (λ x. 64 ∷ x) m.4))
    (λ m. ([], [], b ∷ t, no_bytes, no_bay, ends_back fs b t m, refl)))
    h
back (live fs at) b t h =
    pick (λ s. Means s t) (digit b) _ _ (λ k m. (b ∷ m.0, m.1, as_run k m.2, m.3, ap (λ x. b ∷ x) m.4)) absurd h
back (live fs housing) b t h =
    pick (λ s. Means s t) (digit b) _ _ (λ k m. (b ∷ m.0, m.1, one_more k m.2, m.3, ap (λ x. b ∷ x) m.4))
    (λ m. ([], b ∷ t, no_bytes, ends_back fs b t m, refl)) h

stands : (s : State) → accepts s ≡ true → Means s []
stands dead e = absurd (never e)
stands (live (f ∷ fs) m) e = absurd (never e)
stands (live [] fresh) e = absurd (never e)
stands (live [] (opening s)) e = absurd (never e)
stands (live [] colon) e = absurd (never e)
stands (live [] negating) e = absurd (never e)
stands (live [] at) e = absurd (never e)
stands (live [] naming) e = ([], [], [], no_bytes, no_mark, over done, refl)
stands (live [] shifting) e = ([], [], [], no_bytes, no_bay, over done, refl)
stands (live [] housing) e = ([], [], no_bytes, over done, refl)
stands (live [] ended) e = over done

meant : (u : List ℕ) (s : State) → accepts (run s u) ≡ true → Means s u
meant [] s e = stands s e
meant (b ∷ t) s e = back s b t (meant t (step s b) e)

nothing : {v : List ℕ} → Closes [] v → v ≡ []
nothing done = refl

-- what the machine accepts is of the form
pub accepted : (t : List ℕ) → accepts (run (live [] fresh) t) ≡ true → Form a_plan t
accepted t e =
    let m : Starts [] t = meant t (live [] fresh) e in
    subst (Form a_plan) (sym (m.4 ∙ (ap (λ x. m.0 ++ x) (nothing m.3) ∙ append-nil m.0))) m.2

-- and the other way round
pub accepts_form : {t : List ℕ} → Form a_plan t → accepts (run (live [] fresh) t) ≡ true
accepts_form f = let d = through f [] in ap accepts d.2 ∙ d.1

-- from every live state some text completes.
-- what closes a bracket with k plans begun, before u
abbrev shut : Sort → ℕ → List ℕ → List ℕ
shut lock zero u = 44 ∷ 95 ∷ 41 ∷ u
shut lock (suc k) u = 41 ∷ u
shut choice zero u = 44 ∷ 95 ∷ 44 ∷ 95 ∷ 41 ∷ u
shut choice (suc zero) u = 44 ∷ 95 ∷ 41 ∷ u
shut choice (suc (suc k)) u = 41 ∷ u
shut interleave zero u = 44 ∷ 95 ∷ 44 ∷ 95 ∷ 41 ∷ u
shut interleave (suc zero) u = 44 ∷ 95 ∷ 41 ∷ u
shut interleave (suc (suc k)) u = 41 ∷ u

close_step : (s : Sort) (k : ℕ) (fs : List Frame) (u : List ℕ) → leb (least s) k ≡ true → run (live (record { sort = s; count = k } ∷ fs) ended) (41 ∷ u) ≡ run (live fs ended) u
close_step s k fs u t =
    let e : ends (record { sort = s; count = k } ∷ fs) 41 ≡ live fs ended = rw t in ap (λ x. run x u) e

shut_runs : (s : Sort) (k : ℕ) (fs : List Frame) (u : List ℕ) → run (live (record { sort = s; count = k } ∷ fs) ended) (shut s k u) ≡ run (live fs ended) u
shut_runs lock zero fs u = refl
shut_runs lock (suc k) fs u = close_step lock (suc k) fs u (grind (arith, nat_tests))
shut_runs choice zero fs u = refl
shut_runs choice (suc zero) fs u = refl
shut_runs choice (suc (suc k)) fs u = close_step choice (suc (suc k)) fs u (grind (arith, nat_tests))
shut_runs interleave zero fs u = refl
shut_runs interleave (suc zero) fs u = refl
shut_runs interleave (suc (suc k)) fs u = close_step interleave (suc (suc k)) fs u (grind (arith, nat_tests))

abbrev closing : List Frame → List ℕ
closing [] = []
closing (f ∷ fs) = shut f.sort f.count (closing fs)

closing_runs : (fs : List Frame) → run (live fs ended) (closing fs) ≡ live [] ended
closing_runs [] = refl
closing_runs (f ∷ fs) = shut_runs f.sort f.count fs (closing fs) ∙ closing_runs fs

abbrev Completes : State → Type 0
Completes s = (u : List ℕ) × (accepts (run s u) ≡ true)

from_ended : (fs : List Frame) → Completes (live fs ended)
from_ended fs = (closing fs, ap accepts (closing_runs fs))

-- one byte in front
by : (s r : State) (b : ℕ) → step s b ≡ r → Completes r → Completes s
by s r b e (u, h) = (b ∷ u, subst (λ x. accepts (run x u) ≡ true) (sym e) h)

-- a dot and a `_` after any ended item
dot_completes : (fs : List Frame) (m : Mode) → step (live fs m) 46 ≡ ends fs 46 → Completes (live fs m)
dot_completes fs m e = by (live fs m) (live fs fresh) 46 (e ∙ dot_step fs) (by (live fs fresh) (live fs ended) 95 refl (from_ended fs))

pub completes : (fs : List Frame) (m : Mode) → Completes (live fs m)
completes fs ended = from_ended fs
completes fs fresh = by (live fs fresh) (live fs ended) 95 refl (from_ended fs)
completes fs (opening s) =
    let gs : List Frame = record { sort = s; count = 1 } ∷ fs in
    by (live fs (opening s)) (live gs fresh) 40 refl (by (live gs fresh) (live gs ended) 95 refl (from_ended gs))
completes fs naming = dot_completes fs naming refl
completes fs shifting = dot_completes fs shifting refl
completes fs housing = dot_completes fs housing refl
completes fs colon = by (live fs colon) (live fs shifting) 49 refl (dot_completes fs shifting refl)
completes fs negating = by (live fs negating) (live fs shifting) 49 refl (dot_completes fs shifting refl)
completes fs at = by (live fs at) (live fs housing) 49 refl (dot_completes fs housing refl)

-- the machine lives on just the texts that go on
pub lives_goes_on : (t : List ℕ) (fs : List Frame) (m : Mode) → run (live [] fresh) t ≡ live fs m → GoesOn t
lives_goes_on t fs m e =
    let c = completes fs m in
    (c.0, accepted (t ++ c.0) (ap accepts (run_++ (live [] fresh) t c.0 ∙ ap (λ s. run s c.0) e) ∙ c.1))

pub goes_on_lives : (t : List ℕ) → GoesOn t → run (live [] fresh) t ≡ dead → ⊥
goes_on_lives t (u, f) e =
    never (ap accepts (sym (run_dead u) ∙ (ap (λ s. run s u) (sym e) ∙ sym (run_++ (live [] fresh) t u))) ∙ accepts_form f)
