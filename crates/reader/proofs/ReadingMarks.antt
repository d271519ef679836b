-- Names and numbers: runs of bytes.
use Rattle.std.proofs.Common.{◌≡◌, ℕ, zero, suc, ◌+◌, ◌-◌, ◌<◌, ◌≤◌, Bool, true, false, cond, List, [], ◌∷◌, length, get_or, take, drop, sym, refl, ap, ◌∙◌, subst, inl, inr, add-zero, arith, length-drop, length-take, eq-eqb}
use Rattle.std.proofs.lemmas.List.{get_or_past, get_or-drop, drop_more}
use Rattle.std.proofs.lemmas.Bool.{cases_lt, cases_Bool}
use Rattle.std.proofs.lemmas.Bool.Decides.{nat_tests}
use Rattle.text.specs.Bytes.{digit, name_byte, Longest}
use Rattle.text.specs.Decimal.{says, farthest}
use Rattle.grammar.specs.Form.{least, most}
use Rattle.grammar.specs.Machine.{Mode, fresh, naming, colon, negating, shifting, at, housing, ended, Frame, live, step, ending}
use Rattle.grammar.specs.Faults.{leaf_byte, sign_byte, begun, front, minus, body, Bad, Wrong, BeginsAt, First}
use Rattle.reader.specs.Reading.{Spot, next, any, Here, Whole, Marked}
use Rattle.grammar.specs.declared.refusal.Refusal.TheVariants.{Form, Mark, Many}
use Rattle.reader.proofs.ReadingParts.{never, ne_eqb}
use Rattle.reader.proofs.ReadingSteps.{onward}
use Rattle.reader.proofs.ReadingFirst.{marking, wrong_mode, alive_clash, not_both, first_value, first_leaves}
use Rattle.reader.proofs.ReadingMoves.{fine_plain, by_byte, stands_within, ending_begun, ending_plain, stops_here, unfinished}

front_take : (test : ℕ → Bool) (n : ℕ) (w : List ℕ) → n ≤ length w → ((k : ℕ) → k < n → test (get_or w k 0) ≡ true) → (n < length w → test (get_or w n 0) ≡ false) → front test w ≡ take n w
front_take test zero [] l a s = refl
front_take test zero (b ∷ w) l a s = let e = s (omega arith) in rw e
front_take test (suc n) [] l a s = absurd (omega arith)
front_take test (suc n) (b ∷ w) l a s =
    let e = a 0 (omega arith) in
    rw e (ap (λ x. b ∷ x) (front_take test n w (omega arith) (λ k h. a (suc k) (omega arith)) (λ h. s (omega arith))))

-- the digits in front are those up to the run's end
pub longest_front : (test : ℕ → Bool) (t : List ℕ) (p to : ℕ) → Longest test t p to → front test (drop p t) ≡ take (to - p) (drop p t)
longest_front test t p to h =
    let f = h.forward in
    let w = h.within in
    let n = length-drop p t in
    front_take test (to - p) (drop p t) (omega arith)
    (λ k l. ap test (get_or-drop p t k 0) ∙ h.all (p + k) (omega arith) (omega arith))
    (λ l. ap test (get_or-drop p t (to - p) 0 ∙ ap (λ x. get_or t x 0) (same f)) ∙ h.stops (omega arith))
  where
    same : p ≤ to → p + (to - p) ≡ to
    same f = omega arith

abbrev pub at_place : Spot → ℕ → Spot
at_place r p = record { text = r.text; at = p; leaves = r.leaves; brackets = r.brackets }

-- a mode that stays through bytes of a kind
pub record Stays (kind : ℕ → Bool) (fs : List Frame) (m : Mode) : Type 0 where
  pub keeps : (b : ℕ) → kind b ≡ true → step (live fs m) b ≡ live fs m
  pub unmarked : marking m ≡ false
  pub not_fresh : m ≡ fresh → ⊥
  pub counts : (k : ℕ → Bool) (b : ℕ) → begun k (live fs m) b ≡ 0

pub along : (n : ℕ) (kind : ℕ → Bool) {fs : List Frame} {m : Mode} (r : Spot) → Stays kind fs m → Here r fs m → r.at + n ≤ length r.text → ((k : ℕ) → r.at ≤ k → k < r.at + n → kind (get_or r.text k 0) ≡ true) → Here (at_place r (r.at + n)) fs m
along zero kind {fs} {m} r s h l a = subst (λ p. Here (at_place r p) fs m) (sym (add-zero r.at)) h
along (suc n) kind {fs} {m} r s h l a =
    let go = s.keeps (next r) (a r.at (omega arith) (omega arith)) in
    let f = fine_plain {t = r.text} {p = r.at} {fs = fs} {gs = fs} {m = m} {k = m} (omega arith) h.state s.unmarked s.not_fresh go in
    let one = onward {r = r} {s = by_byte r} {fs = fs} {gs = fs} {m = m} {k = m} h f go refl refl (sym (ap (λ x. r.leaves + x) (s.counts leaf_byte (next r)) ∙ add-zero _)) (sym (ap (λ x. r.brackets + x) (s.counts sign_byte (next r)) ∙ add-zero _)) in
    let e : r.at + 1 + n ≡ r.at + suc n = omega arith in
    subst (λ p. Here (at_place r p) fs m) e (along n kind (by_byte r) s one (omega arith) (λ k p q. a k (omega arith) (omega arith)))

-- the whole run, of which the first byte leads to the mode
pub to_end : {kind : ℕ → Bool} {fs : List Frame} {m : Mode} (r : Spot) (from to : ℕ) → Stays kind fs m → Here r fs m → r.at ≡ from + 1 → from < to → Longest kind r.text from to → Here (at_place r to) fs m
to_end {kind} {fs} {m} r from to s h e l g =
    let w = g.within in
    let x : r.at + (to - (from + 1)) ≡ to = omega arith in
    subst (λ p. Here (at_place r p) fs m) x (along (to - (from + 1)) kind r s h (omega arith) (λ k p q. g.all k (omega arith) (omega arith)))

clash : {m k : Mode} → ending m ≡ true → ending k ≡ false → m ≡ k → ⊥
clash a b e = never (sym b ∙ (sym (ap ending e) ∙ a))

pub shifting_stays : (fs : List Frame) → Stays digit fs shifting
shifting_stays fs = record { keeps = λ b k. rw k; unmarked = refl; not_fresh = clash refl refl; counts = λ k b. refl }

pub housing_stays : (fs : List Frame) → Stays digit fs housing
housing_stays fs = record { keeps = λ b k. rw k; unmarked = refl; not_fresh = clash refl refl; counts = λ k b. refl }

pub naming_stays : (fs : List Frame) → Stays name_byte fs naming
naming_stays fs = record { keeps = λ b k. rw k; unmarked = refl; not_fresh = clash refl refl; counts = λ k b. refl }

-- a byte in a mode that is not before an item
pub over_byte : {r : Spot} {fs gs : List Frame} {m k : Mode} → Here r fs m → r.at < length r.text → (m ≡ fresh → ⊥) → ((k : ℕ → Bool) (b : ℕ) → begun k (live fs m) b ≡ 0) → (Wrong m (drop r.at r.text) → ⊥) → step (live fs m) (next r) ≡ live gs k → Here (by_byte r) gs k
over_byte {r} {fs} {gs} {m} {k} h w n c g go =
    onward h
    (record { within = w; state = h.state; alive = λ d. alive_clash (sym go ∙ d); right = g; shallow = λ q. absurd (n q); few_leaves = λ q. absurd (n q); few_brackets = λ q. absurd (n q) })
    go refl refl
    (sym (ap (λ x. r.leaves + x) (c leaf_byte (next r)) ∙ add-zero _))
    (sym (ap (λ x. r.brackets + x) (c sign_byte (next r)) ∙ add-zero _))

-- the digits of a number
pub run_number : {fs : List Frame} {m k : Mode} (r : Spot) (to : ℕ) → Here r fs m → Longest digit r.text r.at to → r.at < to → (m ≡ fresh → ⊥) → ((k : ℕ → Bool) (b : ℕ) → begun k (live fs m) b ≡ 0) → (Wrong m (drop r.at r.text) → ⊥) → ((b : ℕ) → digit b ≡ true → step (live fs m) b ≡ live fs k) → Stays digit fs k → Here (at_place r to) fs k
run_number r to h g l n c w go s =
    let d = g.all r.at (omega arith) l in
    let i = g.within in
    to_end (by_byte r) r.at to s (over_byte h (omega arith) n c w (go (next r) d)) refl l g

length_run : (t : List ℕ) (p to : ℕ) → Longest digit t p to → length (front digit (drop p t)) ≡ to - p
length_run t p to g =
    let i = g.within in
    let j = length-drop p t in
    ap length (longest_front digit t p to g) ∙ (length-take (to - p) (drop p t) ∙ omega arith)

-- what the number function said, of the digits
pub bad_run : (t : List ℕ) (p to least most : ℕ) → Longest digit t p to → p < to → says (take (to - p) (drop p t)) least most ≡ false → Bad least most (front digit (drop p t))
bad_run t p to least most g l n =
    (omega (arith, length_run t p to g), subst (λ w. says w least most ≡ false) (sym (longest_front digit t p to g)) n)

pub good_run : (t : List ℕ) (p to least most : ℕ) → Longest digit t p to → says (take (to - p) (drop p t)) least most ≡ true → Bad least most (front digit (drop p t)) → ⊥
good_run t p to least most g s b = never (sym b.1 ∙ subst (λ w. says w least most ≡ true) (sym (longest_front digit t p to g)) s)

pub no_run : (t : List ℕ) (p least most : ℕ) → Longest digit t p p → Bad least most (front digit (drop p t)) → ⊥
no_run t p least most g b = let z = b.0 in omega (arith, length_run t p p g)

-- where no digit stands
pub no_digit : (t : List ℕ) (p : ℕ) → Longest digit t p p → p < length t → digit (get_or t p 0) ≡ false
no_digit t p g l = g.stops l

-- bays
pub bay_opens : {r : Spot} {fs : List Frame} → Marked r fs → next r ≡ 64 → Here (by_byte r) fs at
bay_opens {r} {fs} m e =
    let k = m.mode in
    over_byte m.here (stands_within r (omega arith)) (clash m.whole refl) (λ x b. ending_begun x fs b k m.whole) (λ w. never (sym (ending_plain k m.whole) ∙ wrong_mode (drop r.at r.text) k w)) (ap (step (live fs k)) e ∙ m.opens)

pub bay_none : {r : Spot} {fs : List Frame} → Here r fs at → Longest digit r.text r.at r.at → First any r.text (Form r.at)
bay_none {r} {fs} h g = stops_here h (λ l. let d = no_digit r.text r.at g l in rw d) (λ _. unfinished fs at refl)

at_clash : at ≡ fresh → ⊥
at_clash e = let z : ◌≡◌ {A = ℕ} 0 1 = cc in omega arith

colon_clash : colon ≡ fresh → ⊥
colon_clash e = let z : ◌≡◌ {A = ℕ} 0 1 = cc in omega arith

negating_clash : negating ≡ fresh → ⊥
negating_clash e = let z : ◌≡◌ {A = ℕ} 0 1 = cc in omega arith

pub bay_wrong : {r : Spot} {fs : List Frame} (to : ℕ) → Here r fs at → Longest digit r.text r.at to → r.at < to → says (take (to - r.at) (drop r.at r.text)) 0 63 ≡ false → First any r.text (Mark r.at)
bay_wrong {r} {fs} to h g l n =
    let i = g.within in
    let d = g.all r.at (omega arith) l in
    let go : step (live fs at) (next r) ≡ live fs housing = rw d in
    first_value r.text r.at fs at h.clean (omega arith) h.state (λ x. alive_clash (sym go ∙ x)) (bad_run r.text r.at to 0 63 g l n)

pub bay_right : {r : Spot} {fs : List Frame} (to : ℕ) → Here r fs at → Longest digit r.text r.at to → r.at < to → says (take (to - r.at) (drop r.at r.text)) 0 63 ≡ true → Whole (at_place r to) fs
bay_right {r} {fs} to h g l s = record {
  mode = housing;
  whole = refl;
  here = run_number r to h g l at_clash (λ x b. refl) (good_run r.text r.at to 0 63 g s) (λ b k. rw k) (housing_stays fs);
  settled = λ i. let d = g.stops i in rw d;
}

-- corrections
pub shift_opens : {r : Spot} {fs : List Frame} → Here r fs naming → next r ≡ 58 → Here (by_byte r) fs colon
shift_opens {r} {fs} h e = over_byte h (stands_within r (omega arith)) (clash refl refl) (λ x b. refl) (λ w. w) (ap (step (live fs naming)) e)

pub shift_none : {r : Spot} {fs : List Frame} → Here r fs colon → (next r ≡ 45 → ⊥) → Longest digit r.text r.at r.at → First any r.text (Form r.at)
shift_none {r} {fs} h n g =
    stops_here h (λ l. let d = no_digit r.text r.at g l in let e = ne_eqb (next r) 45 n in rw (d, e)) (λ _. unfinished fs colon refl)

module _ (t : List ℕ) (p : ℕ) (w : p < length t) where
  whole_mark : drop p t ≡ get_or t p 0 ∷ drop (p + 1) t
  whole_mark = drop_more t p 0 w

  body_plus : (get_or t p 0 ≡ 45 → ⊥) → body (drop p t) ≡ drop p t
  body_plus n = let e = ne_eqb (get_or t p 0) 45 n in ap body whole_mark ∙ rw e (sym whole_mark)

  minus_plus : (get_or t p 0 ≡ 45 → ⊥) → minus (drop p t) ≡ false
  minus_plus n = ap minus whole_mark ∙ ne_eqb (get_or t p 0) 45 n

  body_minus : get_or t p 0 ≡ 45 → body (drop p t) ≡ drop (p + 1) t
  body_minus q = let e = eq-eqb (get_or t p 0) 45 q in ap body whole_mark ∙ rw e

  minus_minus : get_or t p 0 ≡ 45 → minus (drop p t) ≡ true
  minus_minus q = ap minus whole_mark ∙ eq-eqb (get_or t p 0) 45 q

  from_plus : (get_or t p 0 ≡ 45 → ⊥) → Wrong colon (drop p t) → Bad 1 32767 (front digit (drop p t))
  from_plus n h = subst (λ x. Bad 1 32767 (front digit x)) (body_plus n) (subst (λ b. Bad 1 (farthest b) (front digit (body (drop p t)))) (minus_plus n) h)

  to_plus : (get_or t p 0 ≡ 45 → ⊥) → Bad 1 32767 (front digit (drop p t)) → Wrong colon (drop p t)
  to_plus n h = subst (λ b. Bad 1 (farthest b) (front digit (body (drop p t)))) (sym (minus_plus n)) (subst (λ x. Bad 1 32767 (front digit x)) (sym (body_plus n)) h)

  from_minus : get_or t p 0 ≡ 45 → Wrong colon (drop p t) → Bad 1 32768 (front digit (drop (p + 1) t))
  from_minus n h = subst (λ x. Bad 1 32768 (front digit x)) (body_minus n) (subst (λ b. Bad 1 (farthest b) (front digit (body (drop p t)))) (minus_minus n) h)

  to_minus : get_or t p 0 ≡ 45 → Bad 1 32768 (front digit (drop (p + 1) t)) → Wrong colon (drop p t)
  to_minus n h = subst (λ b. Bad 1 (farthest b) (front digit (body (drop p t)))) (sym (minus_minus n)) (subst (λ x. Bad 1 32768 (front digit x)) (sym (body_minus n)) h)

pub shift_wrong : {r : Spot} {fs : List Frame} (to : ℕ) → Here r fs colon → (next r ≡ 45 → ⊥) → Longest digit r.text r.at to → r.at < to → says (take (to - r.at) (drop r.at r.text)) 1 32767 ≡ false → First any r.text (Mark r.at)
shift_wrong {r} {fs} to h q g l n =
    let i = g.within in
    let d = g.all r.at (omega arith) l in
    let go : step (live fs colon) (next r) ≡ live fs shifting = rw d in
    let w : r.at < length r.text = omega arith in
    first_value r.text r.at fs colon h.clean w h.state (λ x. alive_clash (sym go ∙ x)) (to_plus r.text r.at w q (bad_run r.text r.at to 1 32767 g l n))

after_shift : (r : Spot) {fs : List Frame} (from to : ℕ) → Here (at_place r to) fs shifting → Longest digit r.text from to → Marked (at_place r to) fs
after_shift r from to h g = record {
  mode = shifting;
  whole = refl;
  here = h;
  opens = refl;
  settled = λ i n. let d = g.stops i in let e = ne_eqb _ 64 n in rw (d, e);
}

pub shift_right : {r : Spot} {fs : List Frame} (to : ℕ) → Here r fs colon → (next r ≡ 45 → ⊥) → Longest digit r.text r.at to → r.at < to → says (take (to - r.at) (drop r.at r.text)) 1 32767 ≡ true → Marked (at_place r to) fs
shift_right {r} {fs} to h q g l s =
    let i = g.within in
    let w : r.at < length r.text = omega arith in
    after_shift r r.at to (run_number r to h g l colon_clash (λ x b. refl) (λ x. good_run r.text r.at to 1 32767 g s (from_plus r.text r.at w q x)) (λ b k. rw k) (shifting_stays fs)) g

-- behind a `-`
pub minus_opens : {r : Spot} {fs : List Frame} → Here r fs colon → next r ≡ 45 → (Bad 1 32768 (front digit (drop (r.at + 1) r.text)) → ⊥) → Here (by_byte r) fs negating
minus_opens {r} {fs} h q n =
    let w = stands_within r (omega arith) in
    over_byte h w colon_clash (λ x b. refl) (λ x. n (from_minus r.text r.at w q x)) (ap (step (live fs colon)) q)

pub minus_none : {r : Spot} {fs : List Frame} → Here r fs colon → next r ≡ 45 → Longest digit r.text (r.at + 1) (r.at + 1) → First any r.text (Form (r.at + 1))
minus_none {r} {fs} h q g =
    stops_here {r = by_byte r} (minus_opens h q (no_run r.text (r.at + 1) 1 32768 g)) (λ l. let d = no_digit r.text (r.at + 1) g l in rw d) (λ _. unfinished fs negating refl)

pub minus_wrong : {r : Spot} {fs : List Frame} (to : ℕ) → Here r fs colon → next r ≡ 45 → Longest digit r.text (r.at + 1) to → r.at + 1 < to → says (take (to - (r.at + 1)) (drop (r.at + 1) r.text)) 1 32768 ≡ false → First any r.text (Mark r.at)
minus_wrong {r} {fs} to h q g l n =
    let w = stands_within r (omega arith) in
    let go : step (live fs colon) (next r) ≡ live fs negating = ap (step (live fs colon)) q in
    first_value r.text r.at fs colon h.clean w h.state (λ x. alive_clash (sym go ∙ x)) (to_minus r.text r.at w q (bad_run r.text (r.at + 1) to 1 32768 g l n))

pub minus_right : {r : Spot} {fs : List Frame} (to : ℕ) → Here r fs colon → next r ≡ 45 → Longest digit r.text (r.at + 1) to → r.at + 1 < to → says (take (to - (r.at + 1)) (drop (r.at + 1) r.text)) 1 32768 ≡ true → Marked (at_place r to) fs
minus_right {r} {fs} to h q g l s =
    after_shift r (r.at + 1) to (run_number (by_byte r) to (minus_opens h q (good_run r.text (r.at + 1) to 1 32768 g s)) g l negating_clash (λ x b. refl) (λ x. x) (λ b k. rw k) (shifting_stays fs)) g

-- a name
abbrev pub by_leaf : Spot → ℕ → Spot
by_leaf r p = record { text = r.text; at = p; leaves = r.leaves + 1; brackets = r.brackets }

pub leaf_begins : {r : Spot} {fs : List Frame} → Here r fs fresh → r.at < length r.text → leaf_byte (next r) ≡ true → BeginsAt leaf_byte r.text r.at fs
leaf_begins h w e = record { within = w; due = h.state; first = e }

pub open_leaf : {r : Spot} {fs : List Frame} {k : Mode} → Here r fs fresh → r.at < length r.text → leaf_byte (next r) ≡ true → r.leaves < 128 → step (live fs fresh) (next r) ≡ live fs k → Here (by_leaf r (r.at + 1)) fs k
open_leaf {r} {fs} {k} h w e l go =
    let n : sign_byte (next r) ≡ false = elim (cases_Bool (sign_byte (next r))) [ inl s ↦ absurd (not_both (next r) e s) | inr s ↦ s ] in
    onward h
    (record {
      within = w;
      state = h.state;
      alive = λ d. alive_clash (sym go ∙ d);
      right = λ x. x;
      shallow = λ _ s. absurd (never (sym n ∙ s));
      few_leaves = λ _ _. omega (arith, h.leaves);
      few_brackets = λ _ s. absurd (never (sym n ∙ s));
    })
    go refl refl
    (sym (ap (λ x. r.leaves + cond x 1 0) e))
    (sym (ap (λ x. r.brackets + cond x 1 0) n ∙ add-zero _))

pub too_many_leaves : {r : Spot} {fs : List Frame} → Here r fs fresh → r.at < length r.text → leaf_byte (next r) ≡ true → 128 ≤ r.leaves → First any r.text (Many r.at)
too_many_leaves {r} {fs} h w e l = first_leaves r.text r.at fs h.clean (leaf_begins h w e) (omega (arith, h.leaves))

pub name_leaf : (b : ℕ) → name_byte b ≡ true → leaf_byte b ≡ true
name_leaf b e = rw e

pub blank_leaf : {r : Spot} {fs : List Frame} → Here r fs fresh → next r ≡ 95 → r.leaves < 128 → Whole (by_leaf r (r.at + 1)) fs
blank_leaf {r} {fs} h e l = record {
  mode = ended;
  whole = refl;
  here = open_leaf h (stands_within r (omega arith)) (ap leaf_byte e) l (ap (step (live fs fresh)) e);
  settled = λ _. refl;
}

-- a byte of a name is above 0
pub name_above : (b : ℕ) → name_byte b ≡ true → 0 < b
name_above b e = grind (arith, nat_tests, e)

pub name_run : {r : Spot} {fs : List Frame} (to : ℕ) → Here r fs fresh → name_byte (next r) ≡ true → r.leaves < 128 → Longest name_byte r.text r.at to → Here (by_leaf r to) fs naming
name_run {r} {fs} to h e l g =
    let w = stands_within r (name_above (next r) e) in
    let f = g.forward in
    let b = g.stops in
    let go : step (live fs fresh) (next r) ≡ live fs naming = rw e in
    let some : r.at < to = elim (cases_lt r.at to) [ inl x ↦ x | inr x ↦ absurd (never (sym (stuck x) ∙ e)) ] in
    to_end (by_leaf r (r.at + 1)) r.at to (naming_stays fs) (open_leaf h w (name_leaf (next r) e) l go) refl some g
  where
    stuck : to ≤ r.at → name_byte (next r) ≡ false
    stuck x =
        let f = g.forward in
        let q : to ≡ r.at = omega arith in
        let w = stands_within r (name_above (next r) e) in
        subst (λ p. name_byte (get_or r.text p 0) ≡ false) q (g.stops (omega arith))

pub name_stops : (t : List ℕ) (p to : ℕ) → Longest name_byte t p to → name_byte (get_or t to 0) ≡ false
name_stops t p to g =
    elim (cases_lt to (length t)) [ inl l ↦ g.stops l | inr l ↦ ap name_byte (get_or_past t to 0 l) ]
