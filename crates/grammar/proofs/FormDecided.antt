-- Every text is refused for nothing, or has one first refusal. It is found by going through the places of the text, in
-- a way that computes, so that worked texts are answered by it too.
use Rattle.std.proofs.Common.{◌≡◌, ℕ, zero, suc, ◌+◌, ◌<◌, ◌≤◌, Bool, true, false, cond, eqb, ltb, ◌⊎◌, List, [], length, get_or, drop, Some, None, Option, sym, refl, ap, ◌∙◌, subst, inl, inr, eq-or-lt_of_le, arith, ltb-false, ltb-true}
use Rattle.std.proofs.lemmas.List.{take_all}
use Rattle.text.specs.Bytes.{name_byte}
use Rattle.text.specs.Decimal.{says, farthest}
use Rattle.grammar.specs.Machine.{Mode, fresh, opening, naming, colon, negating, shifting, at, housing, ended, Frame, live, step, run, accepts}
use Rattle.grammar.specs.Faults.{before, leaf_byte, sign_byte, count, front, digits, minus, body, Bad, Wrong, BeginsAt, Refuses, number, place, Clean, First}
use Rattle.grammar.specs.Readings.{FirstRefused, Unrefused, AlwaysDecided}
use Rattle.grammar.specs.Agreements.{Takes}
use Rattle.grammar.specs.declared.refusal.Refusal.{Refusal}
use Rattle.grammar.specs.declared.refusal.Refusal.TheVariants as refusal
use Rattle.grammar.proofs.MachineRuns.{never}
use Rattle.grammar.proofs.MachineSteps.{advance, same_mode, same_frames, alive_clash, perhaps, is_fresh}
use Rattle.grammar.proofs.FormAgrees.{firsts_agree, takings_agree, wrong_inside}

-- a refusal is known by its number and its place
abbrev of_code : ℕ → ℕ → Refusal
of_code n p = cond (eqb n 2) (refusal.Form p) (cond (eqb n 3) (refusal.NoName p) (cond (eqb n 4) (refusal.Mark p) (cond (eqb n 5) (refusal.Depth p) (
    cond (eqb n 6) (refusal.Many p) (cond (eqb n 7) (refusal.Width p) (cond (eqb n 8) refusal.Cuts (cond (eqb n 9) (refusal.Short p) (
    cond (eqb n 1) refusal.Length (refusal.Twice p)))))))))

coded : (f : Refusal) → of_code (number f) (place f) ≡ f
coded (refusal.Form p) = refl
coded (refusal.NoName p) = refl
coded (refusal.Mark p) = refl
coded (refusal.Depth p) = refl
coded (refusal.Many p) = refl
coded (refusal.Short n) = refl
coded refusal.Length = refl
coded (refusal.Width w) = refl
coded refusal.Cuts = refl
coded (refusal.Twice n) = refl

same_refusal : (f g : Refusal) → number f ≡ number g → place f ≡ place g → f ≡ g
same_refusal f g n p = sym (coded f) ∙ (ap (λ k. of_code k (place f)) n ∙ (ap (of_code (number g)) p ∙ coded g))

-- it holds, or not
abbrev pub EitherWay : Type 0 → Type 0
EitherWay A = A ⊎ (A → ⊥)

abbrev pub which : (b : Bool) → (b ≡ true) ⊎ (b ≡ false)
which true = inl refl
which false = inr refl

abbrev pub less : (a b : ℕ) → (a < b) ⊎ (b ≤ a)
less a b = elim (which (ltb a b)) [ inl e ↦ inl (ltb-true a b e) | inr e ↦ inr (ltb-false a b e) ]

abbrev pub two : {A B : Type 0} → EitherWay A → EitherWay B → EitherWay (A × B)
two (inl a) (inl b) = inl (a, b)
two (inl a) (inr n) = inr (λ x. n x.1)
two (inr n) b = inr (λ x. n x.0)

abbrev pub is_false : (b : Bool) → EitherWay (b ≡ false)
is_false true = inr (λ e. never (sym e))
is_false false = inl refl

abbrev pub reaches : (a b : ℕ) → EitherWay (a ≤ b)
reaches a b = elim (less b a) [ inl l ↦ inr (λ h. omega arith) | inr l ↦ inl l ]

abbrev pub bad : (least most : ℕ) (w : List ℕ) → EitherWay (Bad least most w)
bad least most w = two (elim (less 0 (length w)) [ inl l ↦ inl l | inr l ↦ inr (λ h. omega arith) ]) (is_false (says w least most))

abbrev pub wrong : (m : Mode) (w : List ℕ) → EitherWay (Wrong m w)
wrong fresh w = inr (λ h. h)
wrong (opening s) w = inr (λ h. h)
wrong naming w = inr (λ h. h)
wrong colon w = bad 1 (farthest (minus w)) (digits (body w))
wrong negating w = inr (λ h. h)
wrong shifting w = inr (λ h. h)
wrong at w = bad 0 63 (digits w)
wrong housing w = inr (λ h. h)
wrong ended w = inr (λ h. h)

abbrev pub is_item : (fs : List Frame) (m : Mode) → (m ≡ fresh) ⊎ (is_fresh (live fs m) ≡ false)
is_item fs fresh = inl refl
is_item fs (opening s) = inr refl
is_item fs naming = inr refl
is_item fs colon = inr refl
is_item fs negating = inr refl
is_item fs shifting = inr refl
is_item fs at = inr refl
is_item fs housing = inr refl
is_item fs ended = inr refl

-- what is refused at p, where the machine stands so
module _ (has : List ℕ → Bool) (t : List ℕ) (p : ℕ) (fs : List Frame) (m : Mode) (l : p ≤ length t) (s : before t p ≡ live fs m) where
  abbrev pub begins : (kind : ℕ → Bool) → BeginsAt kind t p fs ⊎ ((gs : List Frame) → BeginsAt kind t p gs → ⊥)
  begins kind = elim (is_item fs m) [
    | inl e ↦ elim (less p (length t)) [
      | inl w ↦ elim (which (kind (get_or t p 0))) [
        | inl k ↦ inl (record { within = w; due = s ∙ ap (live fs) e; first = k })
        | inr k ↦ inr (λ gs b. never (sym k ∙ b.first))
      ]
      | inr w ↦ inr (λ gs b. (let v = b.within in omega arith))
    ]
    | inr n ↦ inr (λ gs b. never (sym n ∙ ap is_fresh (sym s ∙ b.due)))
  ]

  abbrev pub by_form : EitherWay (Refuses has t (refusal.Form p))
  by_form = elim (less p (length t)) [
    | inr e ↦ elim (is_false (accepts (live fs m))) [
      | inl a ↦ inl (fs, m, l, s, (λ w. absurd (omega arith)), (λ _. a))
      | inr n ↦ inr (λ h. n (ap accepts (sym s ∙ h.3) ∙ h.5 (omega arith)))
    ]
    | inl w ↦ elim (perhaps (step (live fs m) (get_or t p 0))) [
      | inl d ↦ inl (fs, m, l, s, (λ _. d), (λ e. absurd (omega arith)))
      | inr x ↦ inr (λ h. alive_clash (sym x.2 ∙ (ap (λ r. step r (get_or t p 0)) (sym s ∙ h.3) ∙ h.4 w)))
    ]
  ]

  abbrev pub by_name : EitherWay (Refuses has t (refusal.NoName p))
  by_name = elim (begins name_byte) [
    | inl b ↦ elim (is_false (has (front name_byte (drop p t)))) [ inl e ↦ inl (fs, b, e) | inr n ↦ inr (λ h. n h.2) ]
    | inr n ↦ inr (λ h. n h.0 h.1)
  ]

  abbrev pub by_mark : EitherWay (Refuses has t (refusal.Mark p))
  by_mark = elim (wrong m (drop p t)) [
    | inl w ↦ inl (fs, m, s, w)
    | inr n ↦ inr (λ h. n (subst (λ k. Wrong k (drop p t)) (same_mode h.2 s) h.3))
  ]

  abbrev pub by_depth : EitherWay (Refuses has t (refusal.Depth p))
  by_depth = elim (begins sign_byte) [
    | inl b ↦ elim (reaches 16 (length fs)) [
      | inl d ↦ inl (fs, b, d)
      | inr n ↦ inr (λ h. n (subst (λ gs. 16 ≤ length gs) (same_frames h.1.due s) h.2))
    ]
    | inr n ↦ inr (λ h. n h.0 h.1)
  ]

  abbrev pub by_number : (kind : ℕ → Bool) (most : ℕ) → (BeginsAt kind t p fs × (most ≤ count kind t p)) ⊎ ((gs : List Frame) → BeginsAt kind t p gs × (most ≤ count kind t p) → ⊥)
  by_number kind most = elim (begins kind) [
    | inl b ↦ elim (reaches most (count kind t p)) [ inl d ↦ inl (b, d) | inr n ↦ inr (λ gs h. n h.1) ]
    | inr n ↦ inr (λ gs h. n gs h.0)
  ]

  abbrev pub by_many : EitherWay (Refuses has t (refusal.Many p))
  by_many = elim (by_number leaf_byte 128) [
    | inl x ↦ inl (fs, inl x)
    | inr n ↦ elim (by_number sign_byte 64) [
      | inl x ↦ inl (fs, inr x)
      | inr k ↦ inr (λ h. elim h.1 [ inl x ↦ n h.0 x | inr x ↦ k h.0 x ])
    ]
  ]

-- what is refused at p has this number at least
abbrev pub AtLeast : (List ℕ → Bool) → List ℕ → ℕ → ℕ → Type 0
AtLeast has t p n = (g : Refusal) → Refuses has t g → place g ≡ p → n ≤ number g

module _ (has : List ℕ → Bool) (t : List ℕ) where
  pub from_two : (g : Refusal) → Refuses has t g → (2 ≤ number g) × (number g ≤ 6) × (place g ≤ length t)
  from_two (refusal.Form p) h = (omega arith, omega arith, h.2)
  from_two (refusal.NoName p) h = (omega arith, omega arith, omega (arith, h.1.within))
  from_two (refusal.Mark p) h = (omega arith, omega arith, omega (arith, wrong_inside t p h.1 h.3))
  from_two (refusal.Depth p) h = (omega arith, omega arith, omega (arith, h.1.within))
  from_two (refusal.Many p) h =
      (omega arith, omega arith, elim h.1 [ inl x ↦ omega (arith, x.0.within) | inr x ↦ omega (arith, x.0.within) ])
  from_two (refusal.Short n) h = absurd h
  from_two refusal.Length h = absurd h
  from_two (refusal.Width w) h = absurd h
  from_two refusal.Cuts h = absurd h
  from_two (refusal.Twice n) h = absurd h

  pub raise : (f : Refusal) → (Refuses has t f → ⊥) → AtLeast has t (place f) (number f) → AtLeast has t (place f) (suc (number f))
  raise f n a g h e = elim (eq-or-lt_of_le (a g h e)) [
    | inl k ↦ absurd (n (subst (Refuses has t) (sym (same_refusal f g k (sym e))) h))
    | inr k ↦ k
  ]

  -- the least of what is refused at p
  abbrev pub Found : ℕ → Type 0
  Found p = (f : Refusal) × Refuses has t f × (place f ≡ p) × AtLeast has t p (number f)

  abbrev pub Quiet : ℕ → Type 0
  Quiet p = (g : Refusal) → Refuses has t g → place g ≡ p → ⊥

  abbrev pub at_place : (p : ℕ) (fs : List Frame) (m : Mode) → p ≤ length t → before t p ≡ live fs m → Found p ⊎ Quiet p
  at_place p fs m l s =
      let a : AtLeast has t p 2 = λ g h e. (from_two g h).0 in
      elim (by_form has t p fs m l s) [
        | inl h ↦ inl (refusal.Form p, h, refl, a)
        | inr n ↦ (let b = raise (refusal.Form p) n a in elim (by_name has t p fs m l s) [
          | inl h ↦ inl (refusal.NoName p, h, refl, b)
          | inr n ↦ (let c = raise (refusal.NoName p) n b in elim (by_mark has t p fs m l s) [
            | inl h ↦ inl (refusal.Mark p, h, refl, c)
            | inr n ↦ (let d = raise (refusal.Mark p) n c in elim (by_depth has t p fs m l s) [
              | inl h ↦ inl (refusal.Depth p, h, refl, d)
              | inr n ↦ (let e = raise (refusal.Depth p) n d in elim (by_many has t p fs m l s) [
                | inl h ↦ inl (refusal.Many p, h, refl, e)
                | inr n ↦ inr (λ g h q. omega (arith, raise (refusal.Many p) n e g h q, (from_two g h).1))
              ])
            ])
          ])
        ])
      ]

  abbrev pub first_found : (p : ℕ) → Clean has t p → Found p → (f : Refusal) × First has t f
  first_found p c (f, h, e, a) = (
    f,
    (
      h,
      λ g r. elim (eq-or-lt_of_le (c g r)) [
        | inl q ↦ inr (e ∙ q, a g r (sym q))
        | inr q ↦ inl (omega arith)
      ],
    ),
  )

  pub no_form : (p : ℕ) (fs : List Frame) (m : Mode) → p ≤ length t → before t p ≡ live fs m → Quiet p → p ≡ length t → accepts (live fs m) ≡ true
  no_form p fs m l s q e = elim (which (accepts (live fs m))) [
    | inl a ↦ a
    | inr a ↦ absurd (q (refusal.Form p) (fs, m, l, s, (λ w. absurd (omega arith)), (λ _. a)) refl)
  ]

  abbrev pub quiet_step : (p : ℕ) (fs : List Frame) (m : Mode) → p < length t → before t p ≡ live fs m → Quiet p → (gs : List Frame) × (k : Mode) × (before t (p + 1) ≡ live gs k)
  quiet_step p fs m w s q = elim (perhaps (step (live fs m) (get_or t p 0))) [
    | inl d ↦ absurd (q (refusal.Form p) (fs, m, omega arith, s, (λ _. d), (λ e. absurd (omega arith))) refl)
    | inr x ↦ (x.0, x.1, advance t p w ∙ (ap (λ r. step r (get_or t p 0)) s ∙ x.2))
  ]

  abbrev pub Decided : Type 0
  Decided = Takes has t ⊎ ((f : Refusal) × First has t f)

  pub cleaner : (p : ℕ) → Clean has t p → Quiet p → Clean has t (p + 1)
  cleaner p c q g h = elim (eq-or-lt_of_le (c g h)) [ inl e ↦ absurd (q g h (sym e)) | inr l ↦ omega arith ]

  abbrev pub walk : (n p : ℕ) (fs : List Frame) (m : Mode) → p + n ≡ length t → before t p ≡ live fs m → Clean has t p → Decided
  walk zero p fs m e s c =
      let z : p ≡ length t = omega arith in
      elim (at_place p fs m (omega arith) s) [
        | inl f ↦ inr (first_found p c f)
        | inr q ↦ inl (
          ap accepts (ap (run (live [] fresh)) (sym (take_all p t (omega arith))) ∙ s) ∙ no_form p fs m (omega arith) s q z,
          (λ f h. omega (arith, cleaner p c q f h, (from_two f h).2)),
        )
      ]
  walk (suc n) p fs m e s c =
      elim (at_place p fs m (omega arith) s) [
        | inl f ↦ inr (first_found p c f)
        | inr q ↦ (let x = quiet_step p fs m (omega arith) s q in walk n (p + 1) x.0 x.1 (omega arith) x.2 (cleaner p c q))
      ]

  abbrev pub decided : Decided
  decided = walk (length t) 0 [] fresh (omega arith) refl (λ g h. omega arith)

one_first : (has : List ℕ → Bool) (t : List ℕ) (f g : Refusal) → FirstRefused has t f → FirstRefused has t g → f ≡ g
one_first has t f g a b =
    elim (a.foremost g b.refused) [
      | inl l ↦ absurd (elim (b.foremost f a.refused) [ inl k ↦ omega arith | inr k ↦ (let e = k.0 in omega arith) ])
      | inr l ↦ elim (b.foremost f a.refused) [
        | inl k ↦ absurd (let e = l.0 in omega arith)
        | inr k ↦ (let x = l.1 in let y = k.1 in same_refusal f g (omega arith) l.0)
      ]
    ]

pub always_decided : AlwaysDecided
always_decided = record {
  either = λ has t. elim (decided has t) [
    | inl x ↦ inl ((takings_agree has t).0 x)
    | inr x ↦ inr (x.0, (firsts_agree has t x.0).0 x.1)
  ];
  not_both = λ has t f u r. u.nothing f r.refused;
  only_one = one_first;
}

-- the first refusal of a text, if there is one
abbrev pub answer : (has : List ℕ → Bool) (t : List ℕ) → Decided has t → Option Refusal
answer has t (inl x) = None
answer has t (inr (f, x)) = Some f

abbrev pub answered : (List ℕ → Bool) → List ℕ → Option Refusal
answered has t = answer has t (decided has t)

found_first : (has : List ℕ → Bool) (t : List ℕ) (f : Refusal) (d : Decided has t) → answer has t d ≡ Some f → FirstRefused has t f
found_first has t f (inl x) e = let z : ◌≡◌ {A = ℕ} 0 1 = cc in absurd (omega arith)
found_first has t f (inr (g, x)) e = let z : g ≡ f = cc in subst (FirstRefused has t) z ((firsts_agree has t g).0 x)

found_none : (has : List ℕ → Bool) (t : List ℕ) (d : Decided has t) → answer has t d ≡ None → Unrefused has t
found_none has t (inl x) e = (takings_agree has t).0 x
found_none has t (inr (g, x)) e = let z : ◌≡◌ {A = ℕ} 0 1 = cc in absurd (omega arith)

pub first_answered : (has : List ℕ → Bool) (t : List ℕ) (f : Refusal) → answered has t ≡ Some f → FirstRefused has t f
first_answered has t f e = found_first has t f (decided has t) e

pub none_answered : (has : List ℕ → Bool) (t : List ℕ) → answered has t ≡ None → Unrefused has t
none_answered has t e = found_none has t (decided has t) e
