-- The first refusal of all: of those whatever the kind, and of names that the kind does not have.
use Rattle.std.proofs.Common.{◌≡◌, ℕ, ◌+◌, ◌-◌, ◌<◌, ◌≤◌, min, Bool, true, false, not, ◌&&◌, eqb, ltb, leb, ◌⊎◌, List, [], ◌∷◌, length, get_or, take, drop, Option, Some, None, MatchOption, sym, refl, ap, ◌∙◌, subst, inl, inr, arith, take-add}
use Rattle.std.proofs.lemmas.Bool.{cases_lt}
use Rattle.std.proofs.lemmas.Bool.Decides.{nat_tests}
use Rattle.std.proofs.lemmas.List.{take_all}
use Rattle.text.specs.Bytes.{digit, name_byte}
use Rattle.text.specs.Parts.{number_may_begin}
use Rattle.grammar.specs.Form.{least, most}
use Rattle.grammar.specs.Machine.{Mode, fresh, opening, naming, colon, negating, shifting, at, housing, ended, Frame, State, dead, live, ends, step, run, accepts}
use Rattle.grammar.specs.Faults.{before, BeginsAt, Refuses, First, Wrong, front, place, number}
use Rattle.reader.specs.Judged.{starts, lacks, Unnamed, reach}
use Rattle.reader.specs.Reading.{any}
use Rattle.grammar.specs.declared.refusal.Refusal.{Refusal}
use Rattle.grammar.specs.declared.refusal.Refusal.TheVariants.{Short, Length, Form, NoName, Mark, Depth, Many, Width, Cuts, Twice}
use Rattle.reader.proofs.ReadingParts.{never, ne_eqb}
use Rattle.reader.proofs.ReadingSteps.{advance, run_++, same_mode}
use Rattle.reader.proofs.ReadingFirst.{alive_clash}
use Rattle.reader.proofs.ReadingNames.{marks_number, Led, led_to, may_at, split_place, fresh_no_number}
use Rattle.reader.proofs.ReadingUnnamed.{clear, clear_first, clear_behind, and_yes, and_no_left}

-- a name that begins stands at such a place
pub begins_starts : (t : List ℕ) (p : ℕ) (fs : List Frame) → BeginsAt name_byte t p fs → starts t p ≡ true
begins_starts t p fs b =
    let w = b.within in
    let n = b.first in
    let m = fresh_no_number t p fs (omega arith) b.due in
    let c : clear t p ≡ true = elim (split_place p) [
      | inl z ↦ clear_first t p (omega arith)
      | inr (q, z) ↦
          let i : p - 1 ≡ q = omega arith in
          clear_behind t p (ap (λ x. name_byte (get_or t x 0)) i ∙ (led_to t q (live fs fresh) (ap (before t) (sym z) ∙ b.due) (omega arith)).0)
    ] in
    ap (λ x. (x && name_byte (get_or t p 0)) && not (number_may_begin t p && digit (get_or t p 0))) c
    ∙ (ap (λ x. x && not (number_may_begin t p && digit (get_or t p 0))) n ∙ ap (λ x. not (x && digit (get_or t p 0))) m)

name_ne : (b n : ℕ) → name_byte b ≡ true → name_byte n ≡ false → eqb b n ≡ false
name_ne b n h k = ne_eqb b n (λ e. never (sym (ap name_byte e ∙ k) ∙ h))

-- after a whole item no name goes on
ends_dead : (fs : List Frame) (b : ℕ) → name_byte b ≡ true → ends fs b ≡ dead
ends_dead [] b h = let x = name_ne b 46 h refl in rw x
ends_dead (f ∷ fs) b h =
    let x = name_ne b 46 h refl in
    let y : (eqb b 44 && ltb f.count (most f.sort)) ≡ false = and_no_left _ _ (name_ne b 44 h refl) in
    let z : (eqb b 41 && leb (least f.sort) f.count) ≡ false = and_no_left _ _ (name_ne b 41 h refl) in
    rw (x, y, z)

starts_parts : (t : List ℕ) (p : ℕ) → starts t p ≡ true → (clear t p ≡ true) × (name_byte (get_or t p 0) ≡ true) × ((number_may_begin t p && digit (get_or t p 0)) ≡ false)
starts_parts t p h =
    let x = and_yes (clear t p && name_byte (get_or t p 0)) _ h in
    let y = and_yes (clear t p) _ x.0 in
    (y.0, y.1, turned _ x.1)
  where
    turned : (x : Bool) → not x ≡ true → x ≡ false
    turned true e = absurd (never e)
    turned false e = refl

-- behind a byte of a name no name begins
not_clear : (t : List ℕ) (q : ℕ) → name_byte (get_or t q 0) ≡ true → clear t (q + 1) ≡ true → ⊥
not_clear t q h c =
    let z : ltb 0 (q + 1) ≡ true = grind (arith, nat_tests) in
    let f : q + 1 - 1 ≡ q = omega arith in
    let e : clear t (q + 1) ≡ false = rw (z, f, h) in
    never (sym e ∙ c)

module _ (t : List ℕ) (p : ℕ) (h : starts t p ≡ true) (w : p < length t) where
  byte_named : name_byte (get_or t p 0) ≡ true
  byte_named = (starts_parts t p h).1

  -- the place is not the first
  not_first : (fs : List Frame) (m : Mode) → before t p ≡ live fs m → (m ≡ fresh → ⊥) → (q : ℕ) × (p ≡ q + 1)
  not_first fs m e n = elim (split_place p) [
    | inl z ↦ (let y : before t p ≡ live [] fresh = ap (before t) z in absurd (n (same_mode e y)))
    | inr x ↦ x
  ]

  behind : (fs : List Frame) (m : Mode) → before t p ≡ live fs m → (x : (q : ℕ) × (p ≡ q + 1)) → Led (get_or t x.0 0) (live fs m)
  behind fs m e x = led_to t x.0 (live fs m) (ap (before t) (sym x.1) ∙ e) (omega (arith, x.1))

  after_name : (fs : List Frame) (m : Mode) → before t p ≡ live fs m → (x : (q : ℕ) × (p ≡ q + 1)) → name_byte (get_or t x.0 0) ≡ true → ⊥
  after_name fs m e x k = not_clear t x.0 k (subst (λ z. clear t z ≡ true) x.1 (starts_parts t p h).0)

  after_mark : (x : (q : ℕ) × (p ≡ q + 1)) → marks_number (get_or t x.0 0) ≡ true → digit (get_or t p 0) ≡ false
  after_mark x k =
      let m : number_may_begin t p ≡ true = ap (number_may_begin t) x.1 ∙ (may_at t x.0 ∙ k) in
      sym (ap (λ z. z && digit (get_or t p 0)) m) ∙ (starts_parts t p h).2

  by_state : (s : State) → before t p ≡ s → (step s (get_or t p 0) ≡ dead → ⊥) → (fs : List Frame) × BeginsAt name_byte t p fs
  by_state dead e a = absurd (a refl)
  by_state (live fs fresh) e a = (fs, record { within = w; due = e; first = byte_named })
  by_state (live fs (opening s)) e a = let x = name_ne (get_or t p 0) 40 byte_named refl in absurd (a (rw x))
  by_state (live fs naming) e a =
      let x = not_first fs naming e (λ q. let z : ◌≡◌ {A = ℕ} 0 1 = cc in omega arith) in
      absurd (after_name fs naming e x (behind fs naming e x))
  by_state (live fs colon) e a =
      let x = not_first fs colon e (λ q. let z : ◌≡◌ {A = ℕ} 0 1 = cc in omega arith) in
      let d = after_mark x (behind fs colon e x) in
      let n = name_ne (get_or t p 0) 45 byte_named refl in
      absurd (a (rw (d, n)))
  by_state (live fs negating) e a =
      let x = not_first fs negating e (λ q. let z : ◌≡◌ {A = ℕ} 0 1 = cc in omega arith) in
      let d = after_mark x (behind fs negating e x) in
      absurd (a (rw d))
  by_state (live fs shifting) e a =
      let x = not_first fs shifting e (λ q. let z : ◌≡◌ {A = ℕ} 0 1 = cc in omega arith) in
      absurd (after_name fs shifting e x (behind fs shifting e x))
  by_state (live fs at) e a =
      let x = not_first fs at e (λ q. let z : ◌≡◌ {A = ℕ} 0 1 = cc in omega arith) in
      let d = after_mark x (behind fs at e x) in
      absurd (a (rw d))
  by_state (live fs housing) e a =
      let x = not_first fs housing e (λ q. let z : ◌≡◌ {A = ℕ} 0 1 = cc in omega arith) in
      absurd (after_name fs housing e x (behind fs housing e x))
  by_state (live fs ended) e a = absurd (a (ends_dead fs (get_or t p 0) byte_named))

  -- and where the machine lives on, a name begins at such a place
  pub starts_begins : (gs : List Frame) (k : Mode) → before t (p + 1) ≡ live gs k → (fs : List Frame) × BeginsAt name_byte t p fs
  starts_begins gs k e = by_state (before t p) refl (λ d. alive_clash (sym e ∙ (advance t p w ∙ d)))

run_dead : (t : List ℕ) → run dead t ≡ dead
run_dead [] = refl
run_dead (b ∷ t) = run_dead t

-- what is alive was so before
pub lives_before : (t : List ℕ) (p q : ℕ) (fs : List Frame) (m : Mode) → q ≤ p → before t p ≡ live fs m → (gs : List Frame) × (k : Mode) × (before t q ≡ live gs k)
lives_before t p q fs m l e = go (before t q) refl
  where
    whole : run (before t q) (take (p - q) (drop q t)) ≡ live fs m
    whole =
        let i : q + (p - q) ≡ p = omega arith in
        sym (run_++ (live [] fresh) (take q t) (take (p - q) (drop q t))) ∙ (ap (run (live [] fresh)) (sym (take-add q (p - q) t) ∙ ap (λ n. take n t) i) ∙ e)

    go : (s : State) → before t q ≡ s → (gs : List Frame) × (k : Mode) × (before t q ≡ live gs k)
    go dead d = absurd (alive_clash (sym whole ∙ (ap (λ s. run s (take (p - q) (drop q t))) d ∙ run_dead (take (p - q) (drop q t)))))
    go (live gs k) d = (gs, k, d)

-- the machine lives up to the place of a refusal
state_at : (t : List ℕ) (f : Refusal) → Refuses any t f → (fs : List Frame) × (m : Mode) × (before t (place f) ≡ live fs m)
state_at t (Short n) h = absurd h
state_at t Length h = absurd h
state_at t (Form p) h = (h.0, h.1, h.3)
state_at t (NoName p) h = absurd (never (sym h.2))
state_at t (Mark p) h = (h.0, h.1, h.2)
state_at t (Depth p) h = (h.0, fresh, h.1.due)
state_at t (Many p) h = (h.0, fresh, elim h.1 [ inl x ↦ x.0.due | inr x ↦ x.0.due ])
state_at t (Width n) h = absurd h
state_at t Cuts h = absurd h
state_at t (Twice n) h = absurd h

-- up to the reach of a refusal, or at its place where an item is due there
within_reach : (t : List ℕ) (f : Refusal) (p : ℕ) → Refuses any t f → p < reach f → (p < place f) ⊎ ((p ≡ place f) × (5 ≤ number f) × ((fs : List Frame) × (before t p ≡ live fs fresh)))
unfolding state_at
within_reach t (Short n) p h l = absurd h
within_reach t Length p h l = absurd h
within_reach t (Form q) p h l = inl l
within_reach t (NoName q) p h l = absurd (omega arith)
within_reach t (Mark q) p h l = inl l
within_reach t (Depth q) p h l =
    elim (cases_lt p q) [ inl x ↦ inl x | inr x ↦ (let e : p ≡ q = omega arith in inr (e, omega arith, (h.0, ap (before t) e ∙ h.1.due))) ]
within_reach t (Many q) p h l =
    elim (cases_lt p q) [ inl x ↦ inl x | inr x ↦ (let e : p ≡ q = omega arith in inr (e, omega arith, (h.0, ap (before t) e ∙ (state_at t (Many q) h).2))) ]
within_reach t (Width n) p h l = absurd h
within_reach t Cuts p h l = absurd h
within_reach t (Twice n) p h l = absurd h

lacks_parts : (has : List ℕ → Bool) (t : List ℕ) (p : ℕ) → lacks has t p ≡ true → (starts t p ≡ true) × (has (front name_byte (drop p t)) ≡ false)
lacks_parts has t p h = let x = and_yes (starts t p) _ h in (x.0, turned _ x.1)
  where
    turned : (x : Bool) → not x ≡ true → x ≡ false
    turned true e = absurd (never e)
    turned false e = refl

-- a name that is refused is lacking
pub refused_lacks : (has : List ℕ → Bool) (t : List ℕ) (p : ℕ) → Refuses has t (NoName p) → lacks has t p ≡ true
refused_lacks has t p h =
    ap (λ x. x && not (has (front name_byte (drop p t)))) (begins_starts t p h.0 h.1) ∙ ap not h.2

-- and what is lacking within reach is refused
lacking_refused : (has : List ℕ → Bool) (t : List ℕ) (f : Refusal) (p : ℕ) → Refuses any t f → p < reach f → p < length t → lacks has t p ≡ true → Refuses has t (NoName p)
lacking_refused has t f p h l w k =
    let x = lacks_parts has t p k in
    elim (within_reach t f p h l) [
      | inl y ↦
          (let s = state_at t f h in
          let v = lives_before t (place f) (p + 1) s.0 s.1 (omega arith) s.2 in
          let b = starts_begins t p x.0 w v.0 v.1 v.2 in
          (b.0, b.1, x.1))
      | inr y ↦ (y.2.0, record { within = w; due = y.2.1; first = (starts_parts t p x.0).1 }, x.1)
    ]

-- a refusal of another sort is so whatever the kind
abbrev pub Elsewise : (List ℕ → Bool) → List ℕ → Refusal → Type 0
Elsewise has t g = Refuses any t g ⊎ ((p : ℕ) × (g ≡ NoName p) × Refuses has t (NoName p))

pub elsewise : (has : List ℕ → Bool) (t : List ℕ) (g : Refusal) → Refuses has t g → Elsewise has t g
elsewise has t (Short n) h = inl h
elsewise has t Length h = inl h
elsewise has t (Form p) h = inl h
elsewise has t (NoName p) h = inr (p, refl, h)
elsewise has t (Mark p) h = inl h
elsewise has t (Depth p) h = inl h
elsewise has t (Many p) h = inl h
elsewise has t (Width n) h = inl h
elsewise has t Cuts h = inl h
elsewise has t (Twice n) h = inl h

pub refuses_too : (has : List ℕ → Bool) (t : List ℕ) (g : Refusal) → Refuses any t g → Refuses has t g
refuses_too has t (Short n) h = h
refuses_too has t Length h = h
refuses_too has t (Form p) h = h
refuses_too has t (NoName p) h = absurd (never (sym h.2))
refuses_too has t (Mark p) h = h
refuses_too has t (Depth p) h = h
refuses_too has t (Many p) h = h
refuses_too has t (Width n) h = h
refuses_too has t Cuts h = h
refuses_too has t (Twice n) h = h

-- the first name that is lacking is the first refusal
pub merged_some : (has : List ℕ → Bool) (t : List ℕ) (f : Refusal) (limit p : ℕ) → First any t f → limit ≤ reach f → limit ≤ length t → Unnamed has t limit (Some p) → First has t (NoName p)
merged_some has t f limit p (h, least-one) l w u =
    (lacking_refused has t f p h (omega (arith, u.0)) (omega (arith, u.0)) u.1, go)
  where
    other : (g : Refusal) → Refuses any t g → (p < place g) ⊎ ((p ≡ place g) × (3 ≤ number g))
    other g r = elim (least-one g r) [
      | inl x ↦ elim (within_reach t f p h (omega (arith, u.0))) [ inl y ↦ inl (omega arith) | inr y ↦ (let e = y.0 in inl (omega arith)) ]
      | inr x ↦ elim (within_reach t f p h (omega (arith, u.0))) [
        | inl y ↦ (let e = x.0 in inl (omega arith))
        | inr y ↦ (let e = x.0 in let d = x.1 in let i = y.0 in let j = y.1 in inr (omega arith, omega arith))
      ]
    ]

    go : (g : Refusal) → Refuses has t g → (p < place g) ⊎ ((p ≡ place g) × (3 ≤ number g))
    go g r = elim (elsewise has t g r) [
      | inl x ↦ other g x
      | inr (q, e, x) ↦ subst (λ g. (p < place g) ⊎ ((p ≡ place g) × (3 ≤ number g))) (sym e)
          (elim (cases_lt p q) [
            | inl y ↦ inl y
            | inr y ↦ elim (cases_lt q p) [ inl z ↦ absurd (never (sym (u.2 q z) ∙ refused_lacks has t q x)) | inr z ↦ inr (omega arith, omega arith) ]
          ])
    ]

-- where no name is lacking, the refusal stands
behind_reach : (has : List ℕ → Bool) (t : List ℕ) (f : Refusal) (p : ℕ) → Refuses any t f → Refuses has t (NoName p) → reach f ≤ p → (place f < p) ⊎ ((place f ≡ p) × (number f ≤ 3))
behind_reach has t (Short n) p h r l = absurd h
behind_reach has t Length p h r l = absurd h
behind_reach has t (Form q) p h r l = elim (cases_lt q p) [ inl x ↦ inl x | inr x ↦ inr (omega arith, omega arith) ]
behind_reach has t (NoName q) p h r l = absurd (never (sym h.2))
behind_reach has t (Mark q) p h r l =
    elim (cases_lt q p) [
      | inl x ↦ inl x
      | inr x ↦
          (let e : p ≡ q = omega arith in
          absurd (subst (λ m. Wrong m (drop q t)) (same_mode h.2 (ap (before t) (sym e) ∙ r.1.due)) h.3))
    ]
behind_reach has t (Depth q) p h r l = inl (omega arith)
behind_reach has t (Many q) p h r l = inl (omega arith)
behind_reach has t (Width n) p h r l = absurd h
behind_reach has t Cuts p h r l = absurd h
behind_reach has t (Twice n) p h r l = absurd h

pub merged_none : (has : List ℕ → Bool) (t : List ℕ) (f : Refusal) (limit : ℕ) → First any t f → limit ≡ min (reach f) (length t) → Unnamed has t limit None → First has t f
merged_none has t f limit (h, least-one) l u = (refuses_too has t f h, go)
  where
    go : (g : Refusal) → Refuses has t g → (place f < place g) ⊎ ((place f ≡ place g) × (number f ≤ number g))
    go g r = elim (elsewise has t g r) [
      | inl x ↦ least-one g x
      | inr (q, e, x) ↦ subst (λ g. (place f < place g) ⊎ ((place f ≡ place g) × (number f ≤ number g))) (sym e)
          (elim (cases_lt q (reach f)) [
            | inl y ↦ (let w = x.1.within in absurd (never (sym (u q (omega (arith, l))) ∙ refused_lacks has t q x)))
            | inr y ↦ behind_reach has t f q h x y
          ])
    ]

-- the first refusal of all: the first name that is lacking, or else what is refused whatever the kind
pub merged : (has : List ℕ → Bool) (t : List ℕ) (f r : Refusal) (limit : ℕ) (o : Option ℕ) → First any t f → limit ≡ min (reach f) (length t) → Unnamed has t limit o
    → MatchOption o (r ≡ f) (λ p. r ≡ NoName p) → First has t r
merged has t f r limit None h l u e = rw e (merged_none has t f limit h l u)
merged has t f r limit (Some p) h l u e = rw e (merged_some has t f limit p h (omega (arith, l)) (omega (arith, l)) u)

-- a text that is accepted
accepted_live : (s : State) → accepts s ≡ true → (fs : List Frame) × (m : Mode) × (s ≡ live fs m)
accepted_live dead e = absurd (never e)
accepted_live (live fs m) e = (fs, m, refl)

pub accepted_some : (has : List ℕ → Bool) (t : List ℕ) (p : ℕ) → accepts (run (live [] fresh) t) ≡ true → ((f : Refusal) → Refuses any t f → ⊥) → Unnamed has t (length t) (Some p) → First has t (NoName p)
accepted_some has t p a n u = ((b.0, b.1, x.1), go)
  where
    x : (starts t p ≡ true) × (has (front name_byte (drop p t)) ≡ false)
    x = lacks_parts has t p u.1

    v : (fs : List Frame) × (m : Mode) × (before t (p + 1) ≡ live fs m)
    v =
        let s = accepted_live (run (live [] fresh) t) a in
        lives_before t (length t) (p + 1) s.0 s.1 (omega (arith, u.0)) (ap (run (live [] fresh)) (take_all (length t) t (omega arith)) ∙ s.2)

    b : (fs : List Frame) × BeginsAt name_byte t p fs
    b = starts_begins t p x.0 u.0 v.0 v.1 v.2

    go : (g : Refusal) → Refuses has t g → (p < place g) ⊎ ((p ≡ place g) × (3 ≤ number g))
    go g r = elim (elsewise has t g r) [
      | inl y ↦ absurd (n g y)
      | inr (q, e, y) ↦ subst (λ g. (p < place g) ⊎ ((p ≡ place g) × (3 ≤ number g))) (sym e)
          (elim (cases_lt p q) [
            | inl z ↦ inl z
            | inr z ↦ elim (cases_lt q p) [ inl k ↦ absurd (never (sym (u.2 q k) ∙ refused_lacks has t q y)) | inr k ↦ inr (omega arith, omega arith) ]
          ])
    ]

pub accepted_none : (has : List ℕ → Bool) (t : List ℕ) → ((f : Refusal) → Refuses any t f → ⊥) → Unnamed has t (length t) None → (f : Refusal) → Refuses has t f → ⊥
accepted_none has t n u f r = elim (elsewise has t f r) [
  | inl y ↦ n f y
  | inr (q, e, y) ↦ never (sym (u q y.1.within) ∙ refused_lacks has t q y)
]
