-- What each step of the reader comes to.
use Rattle.std.proofs.Common.{◌≡◌, ℕ, suc, ◌+◌, ◌<◌, ◌≤◌, Bool, true, false, cond, ◌&&◌, eqb, ltb, leb, List, [], ◌∷◌, length, get_or, drop, sym, refl, ap, ◌∙◌, inl, inr, add-zero, add-one, arith, eqb-true}
use Rattle.std.proofs.lemmas.List.{get_or_past}
use Rattle.std.proofs.lemmas.Bool.{cases_lt}
use Rattle.std.proofs.lemmas.Bool.Decides.{nat_tests}
use Rattle.meaning.specs.Shape.{Sort, lock, choice, interleave}
use Rattle.grammar.specs.Written.{sign_of}
use Rattle.grammar.specs.Form.{least, most}
use Rattle.grammar.specs.Machine.{Mode, fresh, opening, naming, colon, negating, shifting, at, housing, ended, Frame, dead, live, ends, step, ending, accepts}
use Rattle.grammar.specs.Faults.{before, leaf_byte, sign_byte, begun, BeginsAt, First}
use Rattle.reader.specs.Reading.{Spot, next, any, Here, Whole, frame}
use Rattle.grammar.specs.declared.refusal.Refusal.TheVariants.{Form, Many}
use Rattle.reader.proofs.ReadingParts.{never, ne_eqb}
use Rattle.reader.proofs.ReadingSteps.{Fine, onward, sign_step, dot_step}
use Rattle.reader.proofs.ReadingFirst.{marking, wrong_mode, alive_clash, sign_alive, first_form, first_brackets}

-- a byte above 0 stands within the text
pub stands_within : (r : Spot) → 0 < next r → r.at < length r.text
stands_within r h =
    elim (cases_lt r.at (length r.text)) [ inl l ↦ l | inr l ↦ absurd (omega (arith, get_or_past r.text r.at 0 l, h)) ]

-- in a mode that is neither before an item nor before a number, a live byte is fine
pub fine_plain : {t : List ℕ} {p : ℕ} {fs gs : List Frame} {m k : Mode} → p < length t → before t p ≡ live fs m → marking m ≡ false → (m ≡ fresh → ⊥) → step (live fs m) (get_or t p 0) ≡ live gs k → Fine t p fs m
fine_plain {t = t} {p = p} {m = m} w s n f e = record {
  within = w;
  state = s;
  alive = λ d. alive_clash (sym e ∙ d);
  right = λ x. never (sym n ∙ wrong_mode (drop p t) m x);
  shallow = λ q. absurd (f q);
  few_leaves = λ q. absurd (f q);
  few_brackets = λ q. absurd (f q);
}

sign_is : (s : Sort) → sign_byte (sign_of s) ≡ true
sign_is lock = refl
sign_is choice = refl
sign_is interleave = refl

sign_no_leaf : (s : Sort) → leaf_byte (sign_of s) ≡ false
sign_no_leaf lock = refl
sign_no_leaf choice = refl
sign_no_leaf interleave = refl

-- the reader moved by a byte, with so many more brackets
abbrev pub by_byte : Spot → Spot
by_byte r = record { text = r.text; at = r.at + 1; leaves = r.leaves; brackets = r.brackets }

abbrev pub by_sign : Spot → Spot
by_sign r = record { text = r.text; at = r.at + 1; leaves = r.leaves; brackets = r.brackets + 1 }

pub sign_begins : {r : Spot} {fs : List Frame} (s : Sort) → Here r fs fresh → r.at < length r.text → next r ≡ sign_of s → BeginsAt sign_byte r.text r.at fs
sign_begins s h w e = record { within = w; due = h.state; first = ap sign_byte e ∙ sign_is s }

pub open_sign : {r : Spot} {fs : List Frame} (s : Sort) → Here r fs fresh → r.at < length r.text → next r ≡ sign_of s → length fs < 16 → r.brackets < 64 → Here (by_sign r) fs (opening s)
open_sign {r} {fs} s h w e d b =
    onward h
    (record {
      within = w;
      state = h.state;
      alive = sign_alive fs (next r) (ap sign_byte e ∙ sign_is s);
      right = λ x. x;
      shallow = λ _ _. d;
      few_leaves = λ _ l. absurd (never (sym (ap leaf_byte e ∙ sign_no_leaf s) ∙ l));
      few_brackets = λ _ _. omega (arith, h.brackets);
    })
    (ap (step (live fs fresh)) e ∙ sign_step s fs)
    refl refl
    (sym (ap (λ x. r.leaves + cond x 1 0) (ap leaf_byte e ∙ sign_no_leaf s) ∙ add-zero _))
    (sym (ap (λ x. r.brackets + cond x 1 0) (ap sign_byte e ∙ sign_is s)))

open_clash : {s : Sort} → opening s ≡ fresh → ⊥
open_clash p = let z : ◌≡◌ {A = ℕ} 0 1 = cc in omega arith

pub open_paren : {r : Spot} {fs : List Frame} {s : Sort} → Here r fs (opening s) → next r ≡ 40 → Here (by_byte r) (record { sort = s; count = 1 } ∷ fs) fresh
open_paren {r} {fs} {s} h e =
    let go : step (live fs (opening s)) (next r) ≡ live (record { sort = s; count = 1 } ∷ fs) fresh = ap (step (live fs (opening s))) e in
    onward h (fine_plain (stands_within r (omega arith)) h.state refl open_clash go) go refl refl (sym (add-zero _)) (sym (add-zero _))

pub too_many : {r : Spot} {fs : List Frame} (s : Sort) → Here r fs fresh → r.at < length r.text → next r ≡ sign_of s → length fs < 16 → 64 ≤ r.brackets → First any r.text (Many r.at)
too_many {r} {fs} s h w e d b = first_brackets r.text r.at fs h.clean (sign_begins s h w e) d (omega (arith, h.brackets))

pub unfinished : (fs : List Frame) (m : Mode) → ending m ≡ false → accepts (live fs m) ≡ false
unfinished [] m e = e
unfinished (f ∷ fs) m e = refl

pub stops_here : {r : Spot} {fs : List Frame} {m : Mode} → Here r fs m → (r.at < length r.text → step (live fs m) (next r) ≡ dead) → (r.at ≡ length r.text → accepts (live fs m) ≡ false) → First any r.text (Form r.at)
stops_here {r} {fs} {m} h d a = first_form r.text r.at h.clean (fs, m, h.within, h.state, d, a)

pub no_paren : {r : Spot} {fs : List Frame} {s : Sort} → Here r fs (opening s) → (next r ≡ 40 → ⊥) → First any r.text (Form r.at)
no_paren {r} {fs} {s} h n =
    stops_here h (λ _. let e = ne_eqb (next r) 40 n in rw e) (λ _. unfinished fs (opening s) refl)

pub ending_plain : (m : Mode) → ending m ≡ true → marking m ≡ false
ending_plain fresh e = refl
ending_plain (opening s) e = refl
ending_plain naming e = refl
ending_plain colon e = absurd (never e)
ending_plain negating e = refl
ending_plain shifting e = refl
ending_plain at e = absurd (never e)
ending_plain housing e = refl
ending_plain ended e = refl

pub ending_begun : (kind : ℕ → Bool) (fs : List Frame) (b : ℕ) (m : Mode) → ending m ≡ true → begun kind (live fs m) b ≡ 0
ending_begun kind fs b fresh e = absurd (never e)
ending_begun kind fs b (opening s) e = refl
ending_begun kind fs b naming e = refl
ending_begun kind fs b colon e = refl
ending_begun kind fs b negating e = refl
ending_begun kind fs b shifting e = refl
ending_begun kind fs b at e = refl
ending_begun kind fs b housing e = refl
ending_begun kind fs b ended e = refl

-- after a whole item, a byte that goes on
pub goes : {r : Spot} {fs gs : List Frame} {k : Mode} → Whole r fs → 0 < next r → ends fs (next r) ≡ live gs k → Here (by_byte r) gs k
goes {r} {fs} {gs} {k} w z e =
    let l = stands_within r z in
    let m = w.mode in
    let go : step (live fs m) (next r) ≡ live gs k = w.settled l ∙ e in
    onward w.here (fine_plain l w.here.state (ending_plain m w.whole) (λ q. never (sym (ap ending q) ∙ w.whole)) go) go refl refl
    (sym (ap (λ n. r.leaves + n) (ending_begun leaf_byte fs (next r) m w.whole) ∙ add-zero _))
    (sym (ap (λ n. r.brackets + n) (ending_begun sign_byte fs (next r) m w.whole) ∙ add-zero _))

pub dot : {r : Spot} {fs : List Frame} → Whole r fs → next r ≡ 46 → Here (by_byte r) fs fresh
dot {r} {fs} w e = goes w (omega arith) (ap (ends fs) e ∙ dot_step fs)

pub close : {r : Spot} {fs : List Frame} (s : Sort) (k : ℕ) → Whole r (frame s k ∷ fs) → next r ≡ 41 → least s ≤ k → Here (by_byte r) fs ended
close {r} {fs} s k w e l =
    let t : leb (least s) k ≡ true = grind (arith, nat_tests) in
    let go : ends (frame s k ∷ fs) 41 ≡ live fs ended = rw t in
    goes w (omega arith) (ap (ends (frame s k ∷ fs)) e ∙ go)

pub comma : {r : Spot} {fs : List Frame} (s : Sort) (k : ℕ) → Whole r (frame s k ∷ fs) → next r ≡ 44 → k < most s → Here (by_byte r) (frame s (k + 1) ∷ fs) fresh
comma {r} {fs} s k w e l =
    let t : ltb k (most s) ≡ true = grind (arith, nat_tests) in
    let go : ends (frame s k ∷ fs) 44 ≡ live (frame s (suc k) ∷ fs) fresh = rw t in
    goes w (omega arith) (ap (ends (frame s k ∷ fs)) e ∙ (go ∙ ap (λ n. live (frame s n ∷ fs) fresh) (sym (add-one k))))

and_false : (x y : Bool) → (x ≡ true → y ≡ true → ⊥) → (x && y) ≡ false
and_false true true f = absurd (f refl refl)
and_false true false f = refl
and_false false y f = refl

pub neither : {r : Spot} {fs : List Frame} (s : Sort) (k : ℕ) → Whole r (frame s k ∷ fs) → (next r ≡ 46 → ⊥) → (next r ≡ 41 → k < least s) → (next r ≡ 44 → most s ≤ k) → First any r.text (Form r.at)
neither {r} {fs} s k w a b c =
    let n = next r in
    let x : eqb n 46 ≡ false = ne_eqb n 46 a in
    let y : (eqb n 44 && ltb k (most s)) ≡ false = and_false _ _ (λ p q. let l = c (eqb-true n 44 p) in grind (arith, nat_tests)) in
    let z : (eqb n 41 && leb (least s) k) ≡ false = and_false _ _ (λ p q. let l = b (eqb-true n 41 p) in grind (arith, nat_tests)) in
    let e : ends (frame s k ∷ fs) n ≡ dead = rw (x, y, z) in
    stops_here w.here (λ l. w.settled l ∙ e) (λ _. refl)

pub after_bracket : {r : Spot} {fs : List Frame} → Here r fs ended → Whole r fs
after_bracket h = record { mode = ended; whole = refl; here = h; settled = λ _. refl }
