-- One byte more: the state, the counts, and what is refused there.
use Rattle.std.proofs.Common.{◌≡◌, ℕ, ◌+◌, ◌<◌, Bool, true, ◌≢◌, List, [], ◌∷◌, ◌++◌, length, get_or, take, drop, sym, refl, ap, ◌∙◌, subst, inl, inr, add-zero, add_assoc, zero-add, arith}
use Rattle.std.proofs.lemmas.List.{take_more}
use Rattle.meaning.specs.Shape.{Sort, lock, choice, interleave}
use Rattle.grammar.specs.Written.{sign_of}
use Rattle.grammar.specs.Machine.{Mode, fresh, opening, Frame, State, dead, live, ends, step, run}
use Rattle.grammar.specs.Faults.{before, leaf_byte, sign_byte, begun, count_from, count, Wrong, Refuses, place}
use Rattle.reader.specs.Reading.{Spot, next, any, Clean, Here}
use Rattle.grammar.specs.declared.refusal.Refusal.{Refusal}
use Rattle.grammar.specs.declared.refusal.Refusal.TheVariants.{Short, Length, Form, NoName, Mark, Depth, Many, Width, Cuts, Twice}
use Rattle.reader.proofs.ReadingParts.{never}

pub run_++ : (s : State) (t u : List ℕ) → run s (t ++ u) ≡ run (run s t) u
run_++ s [] u = refl
run_++ s (b ∷ t) u = run_++ (step s b) t u

pub dot_step : (fs : List Frame) → ends fs 46 ≡ live fs fresh
dot_step [] = refl
dot_step (f ∷ fs) = refl

pub sign_step : (s : Sort) (fs : List Frame) → step (live fs fresh) (sign_of s) ≡ live fs (opening s)
sign_step lock fs = refl
sign_step choice fs = refl
sign_step interleave fs = refl

pub advance : (t : List ℕ) (p : ℕ) → p < length t → before t (p + 1) ≡ step (before t p) (get_or t p 0)
advance t p h = ap (run (live [] fresh)) (take_more t p 0 h) ∙ run_++ (live [] fresh) (take p t) (get_or t p 0 ∷ [])

count_++ : (kind : ℕ → Bool) (s : State) (t u : List ℕ) → count_from kind s (t ++ u) ≡ count_from kind s t + count_from kind (run s t) u
count_++ kind s [] u = sym (zero-add _)
count_++ kind s (b ∷ t) u = ap (λ n. begun kind s b + n) (count_++ kind (step s b) t u) ∙ sym (add_assoc _ _ _)

pub count_more : (kind : ℕ → Bool) (t : List ℕ) (p : ℕ) → p < length t → count kind t (p + 1) ≡ count kind t p + begun kind (before t p) (get_or t p 0)
count_more kind t p h =
    ap (count_from kind (live [] fresh)) (take_more t p 0 h)
    ∙ (count_++ kind (live [] fresh) (take p t) (get_or t p 0 ∷ []) ∙ ap (λ n. count kind t p + n) (add-zero _))

-- nothing is refused at p
abbrev pub Quiet : List ℕ → ℕ → Type 0
Quiet t p = (g : Refusal) → Refuses any t g → place g ≡ p → ⊥

pub clean_more : (t : List ℕ) (p : ℕ) → Clean t p → Quiet t p → Clean t (p + 1)
clean_more t p c q g h = let l = c g h in let n : place g ≢ p = q g h in omega arith

pub same_mode : {fs gs : List Frame} {m k : Mode} {s : State} → s ≡ live fs m → s ≡ live gs k → m ≡ k
same_mode p q = cc

pub same_frames : {fs gs : List Frame} {m k : Mode} {s : State} → s ≡ live fs m → s ≡ live gs k → fs ≡ gs
same_frames p q = cc

-- what is known of the byte at p, before it is read
pub record Fine (t : List ℕ) (p : ℕ) (fs : List Frame) (m : Mode) : Type 0 where
  pub within : p < length t
  pub state : before t p ≡ live fs m
  pub alive : step (live fs m) (get_or t p 0) ≡ dead → ⊥
  pub right : Wrong m (drop p t) → ⊥
  pub shallow : m ≡ fresh → sign_byte (get_or t p 0) ≡ true → length fs < 16
  pub few_leaves : m ≡ fresh → leaf_byte (get_or t p 0) ≡ true → count leaf_byte t p < 128
  pub few_brackets : m ≡ fresh → sign_byte (get_or t p 0) ≡ true → count sign_byte t p < 64

module _ {t : List ℕ} {p : ℕ} {fs : List Frame} {m : Mode} (f : Fine t p fs m) where
  no_form : Refuses any t (Form p) → ⊥
  no_form h = f.alive (subst (λ s. step s (get_or t p 0) ≡ dead) (sym h.3 ∙ f.state) (h.4 f.within))

  no_value : Refuses any t (Mark p) → ⊥
  no_value h = f.right (subst (λ k. Wrong k (drop p t)) (same_mode h.2 f.state) h.3)

  no_deep : Refuses any t (Depth p) → ⊥
  no_deep h =
      let b = h.1 in
      let l = f.shallow (same_mode f.state b.due) b.first in
      omega (arith, ap length (same_frames b.due f.state), l, h.2)

  no_many : Refuses any t (Many p) → ⊥
  no_many h =
      elim h.1 [
        | inl x ↦ omega (arith, f.few_leaves (same_mode f.state x.0.due) x.0.first, x.1)
        | inr x ↦ omega (arith, f.few_brackets (same_mode f.state x.0.due) x.0.first, x.1)
      ]

pub quiet : {t : List ℕ} {p : ℕ} {fs : List Frame} {m : Mode} → Fine t p fs m → Quiet t p
quiet {t} f (Form q) h e = no_form f (subst (λ x. Refuses any t (Form x)) e h)
quiet {t} f (Mark q) h e = no_value f (subst (λ x. Refuses any t (Mark x)) e h)
quiet {t} f (Depth q) h e = no_deep f (subst (λ x. Refuses any t (Depth x)) e h)
quiet {t} f (Many q) h e = no_many f (subst (λ x. Refuses any t (Many x)) e h)
quiet {t} f (Short n) h e = h
quiet {t} f Length h e = h
quiet {t} f (NoName q) h e = never (sym h.2)
quiet {t} f (Width w) h e = h
quiet {t} f Cuts h e = h
quiet {t} f (Twice n) h e = h

-- one byte on
pub onward : {r s : Spot} {fs gs : List Frame} {m k : Mode} → Here r fs m → Fine r.text r.at fs m → step (live fs m) (next r) ≡ live gs k
    → s.text ≡ r.text → s.at ≡ r.at + 1 → s.leaves ≡ r.leaves + begun leaf_byte (live fs m) (next r) → s.brackets ≡ r.brackets + begun sign_byte (live fs m) (next r) → Here s gs k
onward {r} {s} {fs} {gs} {m} {k} h f e t a l b =
    let u = r.text in
    let p = r.at in
    let same : s.text ≡ u = t in
    let go : before u (p + 1) ≡ live gs k = advance u p f.within ∙ (ap (λ x. step x (get_or u p 0)) h.state ∙ e) in
    let cl : Clean u (p + 1) = clean_more u p h.clean (quiet f) in
    record {
      within = omega (arith, ap length same, f.within, a);
      state = subst (λ x. before s.text x ≡ live gs k) (sym a) (subst (λ x. before x (p + 1) ≡ live gs k) (sym same) go);
      leaves = l ∙ (ap (λ n. n + begun leaf_byte (live fs m) (next r)) h.leaves ∙ (ap (λ x. count leaf_byte u p + begun leaf_byte x (next r)) (sym h.state) ∙ (sym (count_more leaf_byte u p f.within) ∙ (ap (λ x. count leaf_byte x (p + 1)) (sym same) ∙ ap (count leaf_byte s.text) (sym a)))));
      brackets = b ∙ (ap (λ n. n + begun sign_byte (live fs m) (next r)) h.brackets ∙ (ap (λ x. count sign_byte u p + begun sign_byte x (next r)) (sym h.state) ∙ (sym (count_more sign_byte u p f.within) ∙ (ap (λ x. count sign_byte x (p + 1)) (sym same) ∙ ap (count sign_byte s.text) (sym a)))));
      clean = subst (λ x. Clean s.text x) (sym a) (subst (λ x. Clean x (p + 1)) (sym same) cl);
    }
