-- What the machine refuses is what the grammar refuses.
use Rattle.std.proofs.Common.{◌≡◌, ℕ, ◌+◌, ◌<◌, ◌≤◌, Bool, true, false, eqb, ◌↔◌, List, [], ◌∷◌, length, get_or, take, drop, sym, refl, ap, ◌∙◌, subst, inl, inr, arith, length-drop, eq-eqb, eqb-true}
use Rattle.std.proofs.lemmas.List.{take_all, drop_more}
use Rattle.std.proofs.lemmas.Bool.{cases_lt, cases_Bool}
use Rattle.std.proofs.lemmas.Bool.Decides.{nat_tests}
use Rattle.text.specs.Bytes.{digit, name_byte}
use Rattle.text.specs.Decimal.{farthest}
use Rattle.meaning.specs.Shape.{Sort, lock, choice, interleave}
use Rattle.grammar.specs.Written.{sign_of}
use Rattle.grammar.specs.Machine.{Mode, fresh, opening, naming, colon, negating, shifting, at, housing, ended, Frame, live, step, run, accepts}
use Rattle.grammar.specs.Faults.{before, leaf_byte, sign_byte, digits, minus, body, Bad, Wrong, BeginsAt, Refuses}
use Rattle.grammar.specs.Readings.{Stops, HasNoName, WrongMark, wrong_correction, wrong_negative, wrong_bay, BadMark, BracketAt, LeafAt, TooDeep, TooMany, too_many_leaves, too_many_brackets}
use Rattle.grammar.specs.Agreements.{FormsAreAccepted, BeginningsLive, RefusalsAgree, FirstsAgree, TakingsAgree}
use Rattle.grammar.specs.declared.refusal.Refusal.TheVariants as refusal
use Rattle.grammar.proofs.MachineRuns.{never}
use Rattle.grammar.proofs.MachineBridge.{accepted, accepts_form, lives_goes_on, goes_on_lives}
use Rattle.grammar.proofs.MachineSteps.{advance, alive, perhaps}
use Rattle.grammar.proofs.MachineCounts.{leaves_at, depth_at, brackets_at, item_fresh, fresh_item, stands_inside, colon_behind, at_behind, behind_colon, behind_at}
use Rattle.grammar.proofs.MachineFronts.{longest_front, some_longest, bad_number, number_bad}

pub forms_are_accepted : FormsAreAccepted
forms_are_accepted t = (accepts_form, accepted t)

pub beginnings_live : BeginningsLive
beginnings_live t = (λ g. alive (run (live [] fresh) t) (goes_on_lives t g), λ s. lives_goes_on t s.0 s.1 s.2)

not_true : {b : Bool} → (b ≡ true → ⊥) → b ≡ false
not_true {b} n = elim (cases_Bool b) [ inl e ↦ absurd (n e) | inr e ↦ e ]

pub not_equal : (a b : ℕ) → (a ≡ b → ⊥) → eqb a b ≡ false
not_equal a b n = not_true (λ e. n (eqb-true a b e))

-- the form
module _ (has : List ℕ → Bool) (t : List ℕ) (p : ℕ) where
  whole : p ≡ length t → run (live [] fresh) t ≡ before t p
  whole e = ap (run (live [] fresh)) (sym (take_all p t (omega arith)))

  form_stops : Refuses has t (refusal.Form p) → Stops t p
  form_stops h = record {
    within = h.2;
    so_far = lives_goes_on (take p t) h.0 h.1 h.3;
    no_further = λ l g. goes_on_lives (take (p + 1) t) g (advance t p l ∙ (ap (λ s. step s (get_or t p 0)) h.3 ∙ h.4 l));
    early = λ e f. never (sym (h.5 e) ∙ (ap accepts (sym (whole e ∙ h.3)) ∙ accepts_form f));
  }

  stops_form : Stops t p → Refuses has t (refusal.Form p)
  stops_form s =
      let a = alive (before t p) (goes_on_lives (take p t) s.so_far) in (
        a.0,
        a.1,
        s.within,
        a.2,
        (λ l. elim (perhaps (step (live a.0 a.1) (get_or t p 0))) [
          | inl d ↦ d
          | inr x ↦ absurd (s.no_further l (lives_goes_on (take (p + 1) t) x.0 x.1 (advance t p l ∙ (ap (λ s. step s (get_or t p 0)) a.2 ∙ x.2))))
        ]),
        (λ e. not_true (λ q. s.early e (accepted t (ap accepts (whole e ∙ a.2) ∙ q)))),
      )

-- names
module _ (has : List ℕ → Bool) (t : List ℕ) (p : ℕ) where
  name_refused : Refuses has t (refusal.NoName p) → HasNoName has t p
  name_refused h =
      let b = h.1 in
      let w = b.within in
      let r = some_longest name_byte t p (omega arith) in
      record {
        item_here = fresh_item t p h.0 w b.due;
        name_here = b.first;
        to = r.0;
        longest = r.1;
        no_such = subst (λ v. has v ≡ false) (longest_front name_byte t p r.0 r.1) h.2;
      }

  refused_name : HasNoName has t p → Refuses has t (refusal.NoName p)
  refused_name n =
      let i = item_fresh t p n.item_here in (
        i.0,
        record { within = n.item_here.inside; due = i.1; first = n.name_here },
        subst (λ v. has v ≡ false) (sym (longest_front name_byte t p n.to n.longest)) n.no_such,
      )

-- marks
module _ (t : List ℕ) (p : ℕ) (w : p < length t) where
  whole_mark : drop p t ≡ get_or t p 0 ∷ drop (p + 1) t
  whole_mark = drop_more t p 0 w

  from_plus : (get_or t p 0 ≡ 45 → ⊥) → Wrong colon (drop p t) ↔ Bad 1 32767 (digits (drop p t))
  from_plus n =
      let e = not_equal (get_or t p 0) 45 n in
      let b : body (drop p t) ≡ drop p t = ap body whole_mark ∙ rw e (sym whole_mark) in
      let m : minus (drop p t) ≡ false = ap minus whole_mark ∙ e in (
        (λ h. subst (λ x. Bad 1 32767 (digits x)) b (subst (λ y. Bad 1 (farthest y) (digits (body (drop p t)))) m h)),
        (λ h. subst (λ y. Bad 1 (farthest y) (digits (body (drop p t)))) (sym m) (subst (λ x. Bad 1 32767 (digits x)) (sym b) h)),
      )

  from_minus : get_or t p 0 ≡ 45 → Wrong colon (drop p t) ↔ Bad 1 32768 (digits (drop (p + 1) t))
  from_minus q =
      let e = eq-eqb (get_or t p 0) 45 q in
      let b : body (drop p t) ≡ drop (p + 1) t = ap body whole_mark ∙ rw e in
      let m : minus (drop p t) ≡ true = ap minus whole_mark ∙ e in (
        (λ h. subst (λ x. Bad 1 32768 (digits x)) b (subst (λ y. Bad 1 (farthest y) (digits (body (drop p t)))) m h)),
        (λ h. subst (λ y. Bad 1 (farthest y) (digits (body (drop p t)))) (sym m) (subst (λ x. Bad 1 32768 (digits x)) (sym b) h)),
      )

-- a wrong mark stands within the text
nothing_wrong : (m : Mode) → Wrong m [] → ⊥
nothing_wrong fresh h = h
nothing_wrong (opening s) h = h
nothing_wrong naming h = h
nothing_wrong colon h = omega (arith, h.0)
nothing_wrong negating h = h
nothing_wrong shifting h = h
nothing_wrong at h = omega (arith, h.0)
nothing_wrong housing h = h
nothing_wrong ended h = h

no_bytes : (w : List ℕ) → length w ≡ 0 → w ≡ []
no_bytes [] e = refl
no_bytes (b ∷ w) e = absurd (omega arith)

pub wrong_inside : (t : List ℕ) (p : ℕ) (m : Mode) → Wrong m (drop p t) → p < length t
wrong_inside t p m h =
    elim (cases_lt p (length t)) [
      | inl l ↦ l
      | inr l ↦ absurd (nothing_wrong m (subst (Wrong m) (no_bytes (drop p t) (length-drop p t ∙ omega arith)) h))
    ]

digit_no_minus : (b : ℕ) → digit b ≡ true → b ≡ 45 → ⊥
digit_no_minus b d e = grind (arith, nat_tests, d)

module _ (t : List ℕ) (p : ℕ) where
  correction_wrong : (fs : List Frame) → p < length t → before t p ≡ live fs colon → Wrong colon (drop p t) → BadMark t p
  correction_wrong fs w s h =
      let c = colon_behind t p fs w s in
      record {
        behind = c.0;
        goes_on = lives_goes_on (take p t) fs colon s;
        wrong = elim (cases_Bool (eqb (get_or t p 0) 45)) [
          | inl e ↦ (let q = eqb-true (get_or t p 0) 45 e in wrong_negative c.1 q (bad_number t (p + 1) 1 32768 (omega arith) ((from_minus t p w q).0 h)))
          | inr e ↦ wrong_correction c.1 (bad_number t p 1 32767 (omega arith) ((from_plus t p w (λ q. never (sym e ∙ eq-eqb (get_or t p 0) 45 q))).0 h))
        ];
      }

  bay_wrong : (fs : List Frame) → p < length t → before t p ≡ live fs at → Wrong at (drop p t) → BadMark t p
  bay_wrong fs w s h =
      let c = at_behind t p fs w s in
      record {
        behind = c.0;
        goes_on = lives_goes_on (take p t) fs at s;
        wrong = wrong_bay c.1 (bad_number t p 0 63 (omega arith) h);
      }

  mark_refused : (fs : List Frame) (m : Mode) → p < length t → before t p ≡ live fs m → Wrong m (drop p t) → BadMark t p
  mark_refused fs fresh w s h = absurd h
  mark_refused fs (opening x) w s h = absurd h
  mark_refused fs naming w s h = absurd h
  mark_refused fs colon w s h = correction_wrong fs w s h
  mark_refused fs negating w s h = absurd h
  mark_refused fs shifting w s h = absurd h
  mark_refused fs at w s h = bay_wrong fs w s h
  mark_refused fs housing w s h = absurd h
  mark_refused fs ended w s h = absurd h

  refused_mark : (has : List ℕ → Bool) → BadMark t p → Refuses has t (refusal.Mark p)
  refused_mark has b = go b.wrong
    where
      a : (fs : List Frame) × (m : Mode) × (before t p ≡ live fs m)
      a = alive (before t p) (goes_on_lives (take p t) b.goes_on)

      in_mode : (m : Mode) → a.1 ≡ m → Wrong m (drop p t) → Refuses has t (refusal.Mark p)
      in_mode m e h = (a.0, m, a.2 ∙ ap (live a.0) e, h)

      go : WrongMark t p → Refuses has t (refusal.Mark p)
      go (wrong_correction c n) =
          let l = n.longest.within in
          let s = n.some in
          let d = n.longest.all p (omega arith) s in
          in_mode colon (behind_colon t p a.0 a.1 b.behind c a.2)
          ((from_plus t p (omega arith) (digit_no_minus (get_or t p 0) d)).1 (number_bad t p 1 32767 n))
      go (wrong_negative c q n) =
          in_mode colon (behind_colon t p a.0 a.1 b.behind c a.2)
          ((from_minus t p (stands_inside t p (omega arith)) q).1 (number_bad t (p + 1) 1 32768 n))
      go (wrong_bay c n) = in_mode at (behind_at t p a.0 a.1 b.behind c a.2) (number_bad t p 0 63 n)

-- brackets and leaves
sign_sort : (b : ℕ) → sign_byte b ≡ true → (s : Sort) × (b ≡ sign_of s)
sign_sort b e =
    elim (cases_Bool (eqb b 33)) [
      | inl x ↦ (lock, eqb-true b 33 x)
      | inr x ↦ elim (cases_Bool (eqb b 43)) [ inl y ↦ (choice, eqb-true b 43 y) | inr y ↦ (interleave, eqb-true b 124 (grind (arith, nat_tests, e, x, y))) ]
    ]

sign_is : (s : Sort) → sign_byte (sign_of s) ≡ true
sign_is lock = refl
sign_is choice = refl
sign_is interleave = refl

module _ (t : List ℕ) (p : ℕ) where
  bracket_here : (fs : List Frame) → BeginsAt sign_byte t p fs → BracketAt t p
  bracket_here fs b =
      let s = sign_sort (get_or t p 0) b.first in
      record { item_here = fresh_item t p fs b.within b.due; of_sort = s.0; sign_here = s.1 }

  here_bracket : BracketAt t p → (fs : List Frame) × BeginsAt sign_byte t p fs
  here_bracket b =
      let i = item_fresh t p b.item_here in
      (i.0, record { within = b.item_here.inside; due = i.1; first = ap sign_byte b.sign_here ∙ sign_is b.of_sort })

  leaf_here : (fs : List Frame) → BeginsAt leaf_byte t p fs → LeafAt t p
  leaf_here fs b = record { item_here = fresh_item t p fs b.within b.due; leaf_here = b.first }

  here_leaf : LeafAt t p → (fs : List Frame) × BeginsAt leaf_byte t p fs
  here_leaf b =
      let i = item_fresh t p b.item_here in
      (i.0, record { within = b.item_here.inside; due = i.1; first = b.leaf_here })

module _ (has : List ℕ → Bool) (t : List ℕ) (p : ℕ) where
  depth_refused : Refuses has t (refusal.Depth p) → TooDeep t p
  depth_refused h =
      let d = depth_at t p h.0 fresh h.1.due in
      let n = h.2 in
      record { bracket_here = bracket_here t p h.0 h.1; sixteen_open = omega arith }

  refused_depth : TooDeep t p → Refuses has t (refusal.Depth p)
  refused_depth h =
      let b = here_bracket t p h.bracket_here in
      let d = depth_at t p b.0 fresh b.1.due in
      let n = h.sixteen_open in
      (b.0, b.1, omega arith)

  many_refused : Refuses has t (refusal.Many p) → TooMany t p
  many_refused (fs, h) = elim h [
    | inl x ↦ too_many_leaves (leaf_here t p fs x.0) (subst (λ n. 128 ≤ n) (leaves_at t p fs fresh x.0.due) x.1)
    | inr x ↦ too_many_brackets (bracket_here t p fs x.0) (subst (λ n. 64 ≤ n) (brackets_at t p fs x.0.due) x.1)
  ]

  refused_many : TooMany t p → Refuses has t (refusal.Many p)
  refused_many (too_many_leaves l n) =
      let b = here_leaf t p l in
      (b.0, inl (b.1, subst (λ n. 128 ≤ n) (sym (leaves_at t p b.0 fresh b.1.due)) n))
  refused_many (too_many_brackets l n) =
      let b = here_bracket t p l in
      (b.0, inr (b.1, subst (λ n. 64 ≤ n) (sym (brackets_at t p b.0 b.1.due)) n))

pub refusals_agree : RefusalsAgree
refusals_agree has t (refusal.Form p) = (form_stops has t p, stops_form has t p)
refusals_agree has t (refusal.NoName p) = (name_refused has t p, refused_name has t p)
refusals_agree has t (refusal.Mark p) =
    (λ h. mark_refused t p h.0 h.1 (wrong_inside t p h.1 h.3) h.2 h.3, refused_mark t p has)
refusals_agree has t (refusal.Depth p) = (depth_refused has t p, refused_depth has t p)
refusals_agree has t (refusal.Many p) = (many_refused has t p, refused_many has t p)
refusals_agree has t (refusal.Short n) = (λ h. h, λ h. h)
refusals_agree has t refusal.Length = (λ h. h, λ h. h)
refusals_agree has t (refusal.Width w) = (λ h. h, λ h. h)
refusals_agree has t refusal.Cuts = (λ h. h, λ h. h)
refusals_agree has t (refusal.Twice n) = (λ h. h, λ h. h)

pub firsts_agree : FirstsAgree
firsts_agree has t f = (
  (λ h. record { refused = (refusals_agree has t f).0 h.0; foremost = λ g r. h.1 g ((refusals_agree has t g).1 r) }),
  (λ h. ((refusals_agree has t f).1 h.refused, λ g r. h.foremost g ((refusals_agree has t g).0 r))),
)

pub takings_agree : TakingsAgree
takings_agree has t = (
  (λ h. record { form = accepted t h.0; nothing = λ f r. h.1 f ((refusals_agree has t f).1 r) }),
  (λ u. (accepts_form u.form, λ f r. u.nothing f ((refusals_agree has t f).0 r))),
)
