-- The start and the end of a text.
use Rattle.std.proofs.Common.{◌≡◌, ℕ, zero, suc, ◌+◌, ◌<◌, ◌≤◌, true, List, [], length, get_or, drop, sym, refl, ap, ◌∙◌, subst, inl, inr, add-one, arith}
use Rattle.std.proofs.lemmas.List.{take_all}
use Rattle.std.proofs.lemmas.Bool.{cases_Bool, cases_lt}
use Rattle.meaning.specs.Limits.{sequence}
use Rattle.grammar.specs.Machine.{fresh, opening, naming, colon, negating, shifting, at, housing, ended, State, dead, live, ends, run, accepts}
use Rattle.grammar.specs.Faults.{before, begun, count, leaf_byte, sign_byte, Refuses, First}
use Rattle.reader.specs.Judged.{ReadWhole}
use Rattle.reader.specs.Reading.{Spot, spot_at, next, any, Here, Whole, Drawn}
use Rattle.reader.specs.declared.branch.Branch.{Branch}
use Rattle.reader.specs.declared.draft.Draft.{Draft}
use Rattle.grammar.specs.declared.refusal.Refusal.{Refusal}
use Rattle.grammar.specs.declared.refusal.Refusal.TheVariants.{Short, Length, Form, NoName, Mark, Depth, Many, Width, Cuts, Twice}
use Rattle.reader.proofs.ReadingParts.{never, ne_eqb}
use Rattle.reader.proofs.ReadingSteps.{count_more, same_mode}
use Rattle.reader.proofs.ReadingFirst.{marking, wrong_mode}
use Rattle.reader.proofs.ReadingMoves.{stops_here, ending_plain}

pub start : (t : List ℕ) (p n k : ℕ) → p ≡ 0 → n ≡ 0 → k ≡ 0 → Here (spot_at t p n k) [] fresh
start t p n k a l b = record {
  within = omega (arith, a);
  state = ap (before t) a;
  leaves = l ∙ sym (ap (count leaf_byte t) a);
  brackets = b ∙ sym (ap (count sign_byte t) a);
  clean = λ g h. omega (arith, a);
}

-- bytes are left over
pub left_over : {r : Spot} → Whole r [] → (next r ≡ 46 → ⊥) → r.at < length r.text → First any r.text (Form r.at)
left_over {r} w n l =
    let x = ne_eqb (next r) 46 n in
    let e : ends [] (next r) ≡ dead = rw x in
    stops_here w.here (λ i. w.settled i ∙ e) (λ q. absurd (omega arith))

module _ {r : Spot} (w : Whole r []) (e : r.at ≡ length r.text) where
  at_end : (p : ℕ) → length r.text ≤ p → before r.text p ≡ live [] w.mode
  at_end p l =
      ap (run (live [] fresh)) (take_all p r.text l ∙ sym (take_all r.at r.text (omega (arith, e)))) ∙ w.here.state

  pub all_accepted : accepts (run (live [] fresh) r.text) ≡ true
  all_accepted =
      ap accepts (ap (run (live [] fresh)) (sym (take_all (length r.text) r.text (omega arith))) ∙ at_end (length r.text) (omega arith)) ∙ w.whole

  pub none_refused : (f : Refusal) → Refuses any r.text f → ⊥
  none_refused (Form p) h =
      let c = w.here.clean (Form p) h in
      let i = h.2 in
      let q : p ≡ length r.text = omega arith in
      never (sym (h.5 q) ∙ (ap accepts (sym h.3 ∙ at_end p (omega arith)) ∙ w.whole))
  none_refused (Mark p) h =
      let c = w.here.clean (Mark p) h in
      never (sym (ap marking (same_mode h.2 (at_end p (omega arith))) ∙ ending_plain w.mode w.whole) ∙ wrong_mode (drop p r.text) h.1 h.3)
  none_refused (Depth p) h = let c = w.here.clean (Depth p) h in let i = h.1.within in omega arith
  none_refused (Many p) h =
      let c = w.here.clean (Many p) h in
      elim h.1 [ inl x ↦ (let i = x.0.within in omega arith) | inr x ↦ (let i = x.0.within in omega arith) ]
  none_refused (NoName p) h = never (sym h.2)
  none_refused (Short n) h = h
  none_refused Length h = h
  none_refused (Width n) h = h
  none_refused Cuts h = h
  none_refused (Twice n) h = h

-- one bracket begins at a byte, or none
begun_bracket : (t : List ℕ) (p : ℕ) (s : State) → before t p ≡ s → p < length t → ((f : Refusal) → Refuses any t f → ⊥) → count sign_byte t p ≤ 64 → count sign_byte t p + begun sign_byte s (get_or t p 0) ≤ 64
begun_bracket t p dead e l n h = omega arith
begun_bracket t p (live fs fresh) e l n h =
    elim (cases_Bool (sign_byte (get_or t p 0))) [
      | inl k ↦ elim (cases_lt (count sign_byte t p) 64) [
        | inl below ↦ rw k (omega arith)
        | inr over ↦ absurd (n (Many p) (fs, inr (record { within = l; due = e; first = k }, over)))
      ]
      | inr k ↦ rw k (omega arith)
    ]
begun_bracket t p (live fs (opening s)) e l n h = omega arith
begun_bracket t p (live fs naming) e l n h = omega arith
begun_bracket t p (live fs colon) e l n h = omega arith
begun_bracket t p (live fs negating) e l n h = omega arith
begun_bracket t p (live fs shifting) e l n h = omega arith
begun_bracket t p (live fs at) e l n h = omega arith
begun_bracket t p (live fs housing) e l n h = omega arith
begun_bracket t p (live fs ended) e l n h = omega arith

-- where nothing is refused, few brackets begin
pub few_brackets : (t : List ℕ) → ((f : Refusal) → Refuses any t f → ⊥) → (p : ℕ) → p ≤ length t → count sign_byte t p ≤ 64
few_brackets t n zero l = omega arith
few_brackets t n (suc p) l =
    let h = few_brackets t n p (omega arith) in
    subst (λ q. count sign_byte t q ≤ 64) (add-one p)
    (subst (λ x. x ≤ 64) (sym (count_more sign_byte t p (omega arith))) (begun_bracket t p (before t p) refl (omega arith) n h))

-- all is read
pub read_all : (t : List ℕ) (p n k : ℕ) (ds : List Draft) (b : Branch) → Whole (spot_at t p n k) [] → p ≡ length t → Drawn sequence 16 t 0 0 p k [] ds b → length ds ≤ 128 → ReadWhole t ds b
read_all t p n k ds b w e d l = record {
  accepted = all_accepted w e;
  nothing = none_refused w e;
  number = k;
  drawn = subst (λ x. Drawn sequence 16 t 0 0 x k [] ds b) e d;
  lean = subst (λ x. x ≤ 64) (sym w.here.brackets) (few_brackets t (none_refused w e) p (omega arith));
  few = l;
}
