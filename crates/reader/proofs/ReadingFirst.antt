-- What is refused first.
use Rattle.std.proofs.Common.{◌≡◌, ℕ, ◌<◌, ◌≤◌, Bool, true, false, ◌||◌, eqb, ◌⊎◌, List, length, get_or, drop, sym, refl, ap, ◌∙◌, subst, inl, inr, eq-or-lt_of_le, arith, eqb-true}
use Rattle.std.proofs.lemmas.Bool.Decides.{nat_tests}
use Rattle.text.specs.Bytes.{name_byte}
use Rattle.grammar.specs.Machine.{Mode, fresh, opening, naming, colon, negating, shifting, at, housing, ended, Frame, dead, live, begins, step}
use Rattle.grammar.specs.Faults.{before, leaf_byte, sign_byte, count, Wrong, BeginsAt, Refuses, number, place, First}
use Rattle.reader.specs.Reading.{any, Clean}
use Rattle.grammar.specs.declared.refusal.Refusal.{Refusal}
use Rattle.grammar.specs.declared.refusal.Refusal.TheVariants.{Short, Length, Form, NoName, Mark, Depth, Many, Width, Cuts, Twice}
use Rattle.reader.proofs.ReadingParts.{never}
use Rattle.reader.proofs.ReadingSteps.{same_mode, same_frames}

pub first : (t : List ℕ) (f : Refusal) → Clean t (place f) → Refuses any t f → ((g : Refusal) → Refuses any t g → place g ≡ place f → number f ≤ number g) → First any t f
first t f c h k =
    (h, λ g r. elim (eq-or-lt_of_le (c g r)) [ inl e ↦ inr (e, k g r (sym e)) | inr l ↦ inl l ])

at_least_two : (t : List ℕ) (g : Refusal) → Refuses any t g → 2 ≤ number g
at_least_two t (Form p) h = omega arith
at_least_two t (Mark p) h = omega arith
at_least_two t (Depth p) h = omega arith
at_least_two t (Many p) h = omega arith
at_least_two t (Short n) h = absurd h
at_least_two t Length h = absurd h
at_least_two t (NoName p) h = omega arith
at_least_two t (Width w) h = absurd h
at_least_two t Cuts h = absurd h
at_least_two t (Twice n) h = absurd h

pub first_form : (t : List ℕ) (p : ℕ) → Clean t p → Refuses any t (Form p) → First any t (Form p)
first_form t p c h = first t (Form p) c h (λ g r e. at_least_two t g r)

abbrev pub marking : Mode → Bool
marking fresh = false
marking (opening s) = false
marking naming = false
marking colon = true
marking negating = false
marking shifting = false
marking at = true
marking housing = false
marking ended = false

pub wrong_mode : (w : List ℕ) (m : Mode) → Wrong m w → marking m ≡ true
wrong_mode w fresh h = absurd h
wrong_mode w (opening s) h = absurd h
wrong_mode w naming h = absurd h
wrong_mode w colon h = refl
wrong_mode w negating h = absurd h
wrong_mode w shifting h = absurd h
wrong_mode w at h = refl
wrong_mode w housing h = absurd h
wrong_mode w ended h = absurd h

or_either : (x y : Bool) → (x || y) ≡ true → (x ≡ true) ⊎ (y ≡ true)
or_either true y e = inl refl
or_either false y e = inr e

pub alive_clash : {gs : List Frame} {m : Mode} → live gs m ≡ dead → ⊥
alive_clash p = let z : ◌≡◌ {A = ℕ} 0 1 = cc in omega arith

pub sign_alive : (fs : List Frame) (b : ℕ) → sign_byte b ≡ true → step (live fs fresh) b ≡ dead → ⊥
sign_alive fs b e d =
    elim (or_either (eqb b 33 || eqb b 43) (eqb b 124) e) [
      | inl f ↦ elim (or_either (eqb b 33) (eqb b 43) f) [ inl g ↦ alive_clash (subst (λ y. step (live fs fresh) y ≡ dead) (eqb-true b 33 g) d) | inr g ↦ alive_clash (subst (λ y. step (live fs fresh) y ≡ dead) (eqb-true b 43 g) d) ]
      | inr g ↦ alive_clash (subst (λ y. step (live fs fresh) y ≡ dead) (eqb-true b 124 g) d)
    ]

pub leaf_alive : (fs : List Frame) (b : ℕ) → leaf_byte b ≡ true → step (live fs fresh) b ≡ dead → ⊥
leaf_alive fs b e d =
    elim (or_either (name_byte b) (eqb b 95) e) [
      | inl f ↦ (let z : begins fs b ≡ live fs naming = rw f in alive_clash (sym z ∙ d))
      | inr g ↦ alive_clash (subst (λ y. step (live fs fresh) y ≡ dead) (eqb-true b 95 g) d)
    ]

-- a byte is not both
pub not_both : (b : ℕ) → leaf_byte b ≡ true → sign_byte b ≡ true → ⊥
not_both b l s = grind (arith, nat_tests, l, s)

-- no refusal of the form or of a value where an item begins
pub begins_form : {kind : ℕ → Bool} (t : List ℕ) (p : ℕ) (fs : List Frame) → BeginsAt kind t p fs → (step (live fs fresh) (get_or t p 0) ≡ dead → ⊥) → Refuses any t (Form p) → ⊥
begins_form t p fs b alive h = alive (subst (λ s. step s (get_or t p 0) ≡ dead) (sym h.3 ∙ b.due) (h.4 b.within))

pub begins_value : {kind : ℕ → Bool} (t : List ℕ) (p : ℕ) (fs : List Frame) → BeginsAt kind t p fs → Refuses any t (Mark p) → ⊥
begins_value t p fs b h = never (ap marking (same_mode b.due h.2) ∙ wrong_mode (drop p t) h.1 h.3)

pub first_brackets : (t : List ℕ) (p : ℕ) (fs : List Frame) → Clean t p → BeginsAt sign_byte t p fs → length fs < 16 → 64 ≤ count sign_byte t p → First any t (Many p)
first_brackets t p fs c b s l = first t (Many p) c (fs, inr (b, l)) go
  where
    go : (g : Refusal) → Refuses any t g → place g ≡ p → 6 ≤ number g
    go (Form q) h e = absurd (begins_form t p fs b (sign_alive fs (get_or t p 0) b.first) (subst (λ x. Refuses any t (Form x)) e h))
    go (Mark q) h e = absurd (begins_value t p fs b (subst (λ x. Refuses any t (Mark x)) e h))
    go (Depth q) h e =
        let d : Refuses any t (Depth p) = subst (λ x. Refuses any t (Depth x)) e h in
        absurd (omega (arith, ap length (same_frames d.1.due b.due), d.2))
    go (Many q) h e = omega arith
    go (Short n) h e = absurd h
    go Length h e = absurd h
    go (NoName q) h e = absurd (never (sym h.2))
    go (Width w) h e = absurd h
    go Cuts h e = absurd h
    go (Twice n) h e = absurd h

pub first_leaves : (t : List ℕ) (p : ℕ) (fs : List Frame) → Clean t p → BeginsAt leaf_byte t p fs → 128 ≤ count leaf_byte t p → First any t (Many p)
first_leaves t p fs c b l = first t (Many p) c (fs, inl (b, l)) go
  where
    go : (g : Refusal) → Refuses any t g → place g ≡ p → 6 ≤ number g
    go (Form q) h e = absurd (begins_form t p fs b (leaf_alive fs (get_or t p 0) b.first) (subst (λ x. Refuses any t (Form x)) e h))
    go (Mark q) h e = absurd (begins_value t p fs b (subst (λ x. Refuses any t (Mark x)) e h))
    go (Depth q) h e =
        let d : Refuses any t (Depth p) = subst (λ x. Refuses any t (Depth x)) e h in
        absurd (not_both (get_or t p 0) b.first d.1.first)
    go (Many q) h e = omega arith
    go (Short n) h e = absurd h
    go Length h e = absurd h
    go (NoName q) h e = absurd (never (sym h.2))
    go (Width w) h e = absurd h
    go Cuts h e = absurd h
    go (Twice n) h e = absurd h

pub first_value : (t : List ℕ) (p : ℕ) (fs : List Frame) (m : Mode) → Clean t p → p < length t → before t p ≡ live fs m → (step (live fs m) (get_or t p 0) ≡ dead → ⊥) → Wrong m (drop p t) → First any t (Mark p)
first_value t p fs m c w s a b = first t (Mark p) c (fs, m, s, b) go
  where
    go : (g : Refusal) → Refuses any t g → place g ≡ p → 4 ≤ number g
    go (Form q) h e =
        let d : Refuses any t (Form p) = subst (λ x. Refuses any t (Form x)) e h in
        absurd (a (subst (λ x. step x (get_or t p 0) ≡ dead) (sym d.3 ∙ s) (d.4 w)))
    go (Mark q) h e = omega arith
    go (Depth q) h e = omega arith
    go (Many q) h e = omega arith
    go (Short n) h e = absurd h
    go Length h e = absurd h
    go (NoName q) h e = absurd (never (sym h.2))
    go (Width w) h e = absurd h
    go Cuts h e = absurd h
    go (Twice n) h e = absurd h
