-- Every text of the form runs through the machine.
use Rattle.std.proofs.Common.{◌≡◌, ℕ, suc, Bool, true, false, eqb, ltb, leb, List, [], ◌∷◌, ◌++◌, sym, refl, ap, ◌∙◌, subst, arith}
use Rattle.std.proofs.lemmas.Bool.Decides.{nat_tests}
use Rattle.text.specs.Bytes.{digit, name_byte}
use Rattle.meaning.specs.Shape.{Sort, lock, choice, interleave}
use Rattle.grammar.specs.Written.{sign_of}
use Rattle.grammar.specs.Form.{least, most, BytesOf, last_byte, more_bytes, Digits, NameRun, Correction, unsigned, negative, Bay, in_bay, Marks, no_mark, correction_only, bay_only, both_marks, Leaf, blank_leaf, name_leaf, Phrase, an_item, a_plan, some_plans, Form, whole_leaf, whole_bracket, one_item, more_items, last_plan, more_plans}
use Rattle.grammar.specs.Machine.{Mode, fresh, opening, naming, colon, negating, shifting, at, housing, ended, Frame, State, dead, live, ends, step, run, ending}

pub run_++ : (s : State) (t u : List ℕ) → run s (t ++ u) ≡ run (run s t) u
run_++ s [] u = refl
run_++ s (b ∷ t) u = run_++ (step s b) t u

pub run_dead : (t : List ℕ) → run dead t ≡ dead
run_dead [] = refl
run_dead (b ∷ t) = run_dead t

-- a run of one kind, by a mode that keeps
pub enters : {kind : ℕ → Bool} {w : List ℕ} (s r : State) → ((b : ℕ) → kind b ≡ true → step s b ≡ r) → ((b : ℕ) → kind b ≡ true → step r b ≡ r) → BytesOf kind w → run s w ≡ r
enters s r f g (last_byte k) = f _ k
enters s r f g (more_bytes {b} {w} k h) = subst (λ x. run x w ≡ r) (sym (f b k)) (enters r r g g h)

-- the stack is as it was, and an item has ended
abbrev pub Done : List Frame → State → Type 0
Done fs s = (m : Mode) × (ending m ≡ true) × (s ≡ live fs m)

pub from_colon : {w : List ℕ} (fs : List Frame) → Digits w → run (live fs colon) w ≡ live fs shifting
from_colon fs h = enters (live fs colon) (live fs shifting) (λ b k. rw k) (λ b k. rw k) h

pub from_negating : {w : List ℕ} (fs : List Frame) → Digits w → run (live fs negating) w ≡ live fs shifting
from_negating fs h = enters (live fs negating) (live fs shifting) (λ b k. rw k) (λ b k. rw k) h

pub from_at : {w : List ℕ} (fs : List Frame) → Digits w → run (live fs at) w ≡ live fs housing
from_at fs h = enters (live fs at) (live fs housing) (λ b k. rw k) (λ b k. rw k) h

pub from_fresh : {w : List ℕ} (fs : List Frame) → NameRun w → run (live fs fresh) w ≡ live fs naming
from_fresh fs h = enters (live fs fresh) (live fs naming) (λ b k. rw k) (λ b k. rw k) h

pub correction_runs : {w : List ℕ} (fs : List Frame) → Correction w → run (live fs naming) w ≡ live fs shifting
correction_runs fs (unsigned r) = from_colon fs r
correction_runs fs (negative r) = from_negating fs r

pub bay_runs : {w : List ℕ} (fs : List Frame) → Bay w → run (live fs naming) w ≡ live fs housing
bay_runs fs (in_bay r) = from_at fs r

pub bay_runs_on : {w : List ℕ} (fs : List Frame) → Bay w → run (live fs shifting) w ≡ live fs housing
bay_runs_on fs (in_bay r) = from_at fs r

pub marks_run : {w : List ℕ} (fs : List Frame) → Marks w → Done fs (run (live fs naming) w)
marks_run fs no_mark = (naming, refl, refl)
marks_run fs (correction_only c) = (shifting, refl, correction_runs fs c)
marks_run fs (bay_only b) = (housing, refl, bay_runs fs b)
marks_run fs (both_marks {w} {v} c b) =
    (housing, refl, run_++ (live fs naming) w v ∙ (ap (λ s. run s v) (correction_runs fs c) ∙ bay_runs_on fs b))

pub leaf_runs : {w : List ℕ} (fs : List Frame) → Leaf w → Done fs (run (live fs fresh) w)
leaf_runs fs blank_leaf = (ended, refl, refl)
leaf_runs fs (name_leaf {w} {v} r m) =
    subst (Done fs) (sym (run_++ (live fs fresh) w v ∙ ap (λ s. run s v) (from_fresh fs r))) (marks_run fs m)

pub never : false ≡ true → ⊥
never e = let z : ◌≡◌ {A = ℕ} 0 1 = cc in omega arith

-- after an item that has ended, a byte that is neither of a name nor of a mark
pub stop : (m : Mode) → ending m ≡ true → (fs : List Frame) (b : ℕ) → name_byte b ≡ false → eqb b 58 ≡ false → eqb b 64 ≡ false → digit b ≡ false → step (live fs m) b ≡ ends fs b
stop naming e fs b n c a d = rw (n, c, a)
stop shifting e fs b n c a d = rw (d, a)
stop housing e fs b n c a d = rw d
stop ended e fs b n c a d = refl
stop fresh e fs b n c a d = absurd (never e)
stop (opening s) e fs b n c a d = absurd (never e)
stop colon e fs b n c a d = absurd (never e)
stop negating e fs b n c a d = absurd (never e)
stop at e fs b n c a d = absurd (never e)

pub dot_step : (fs : List Frame) → ends fs 46 ≡ live fs fresh
dot_step [] = refl
dot_step (f ∷ fs) = refl

pub sign_step : (s : Sort) (fs : List Frame) → step (live fs fresh) (sign_of s) ≡ live fs (opening s)
sign_step lock fs = refl
sign_step choice fs = refl
sign_step interleave fs = refl

abbrev pub Through : Phrase → List ℕ → Type 0
Through an_item w = (fs : List Frame) → Done fs (run (live fs fresh) w)
Through a_plan w = (fs : List Frame) → Done fs (run (live fs fresh) w)
Through (some_plans s k) w = (fs : List Frame) → run (live (record { sort = s; count = k } ∷ fs) fresh) w ≡ live fs ended

-- from an ended item over one byte more
pub over : {fs : List Frame} {s : State} (b : ℕ) (v : List ℕ) → Done fs s → name_byte b ≡ false → eqb b 58 ≡ false → eqb b 64 ≡ false → digit b ≡ false → run s (b ∷ v) ≡ run (ends fs b) v
over {fs} b v (m, e, i) n c a d = ap (λ s. run s (b ∷ v)) i ∙ ap (λ s. run s v) (stop m e fs b n c a d)

pub through : {p : Phrase} {w : List ℕ} → Form p w → Through p w
through (whole_leaf l) = λ fs. leaf_runs fs l
through (whole_bracket {s} {w} h) = λ fs. (ended, refl, ap (λ x. run x (40 ∷ w)) (sign_step s fs) ∙ through h fs)
through (one_item h) = λ fs. through h fs
through (more_items {w} {v} h k) = λ fs.
    subst (Done fs) (sym (run_++ (live fs fresh) w (46 ∷ v) ∙ (over 46 v (through h fs) refl refl refl refl ∙ ap (λ s. run s v) (dot_step fs)))) (through k fs)
through (last_plan {s} {k} {w} l h) = λ fs.
    let gs : List Frame = record { sort = s; count = k } ∷ fs in
    let t : leb (least s) k ≡ true = grind (arith, nat_tests) in
    run_++ (live gs fresh) w (41 ∷ []) ∙ (over 41 [] (through h gs) refl refl refl refl ∙ rw t)
through (more_plans {s} {k} {w} {v} l h i) = λ fs.
    let gs : List Frame = record { sort = s; count = k } ∷ fs in
    let t : ltb k (most s) ≡ true = grind (arith, nat_tests) in
    let e : ends gs 44 ≡ live (record { sort = s; count = suc k } ∷ fs) fresh = rw t in
    run_++ (live gs fresh) w (44 ∷ v) ∙ (over 44 v (through h gs) refl refl refl refl ∙ (ap (λ s. run s v) e ∙ through i fs))
