-- The machine before each place of a text, and what the bytes tell of it.
use Rattle.std.proofs.Common.{◌≡◌, ℕ, ◌+◌, ◌<◌, Bool, true, false, cond, ◌&&◌, eqb, ltb, leb, ◌⊎◌, List, [], ◌∷◌, length, get_or, take, sym, refl, ap, ◌∙◌, subst, inl, inr, arith, eqb-true}
use Rattle.std.proofs.lemmas.List.{take_more}
use Rattle.std.proofs.lemmas.Bool.Decides.{nat_tests}
use Rattle.text.specs.Bytes.{digit, name_byte}
use Rattle.grammar.specs.Form.{least, most}
use Rattle.grammar.specs.Machine.{Mode, fresh, opening, naming, colon, negating, shifting, at, housing, ended, Frame, State, dead, live, ends, begins, step, run}
use Rattle.grammar.specs.Faults.{before, sign_byte, begun}
use Rattle.grammar.specs.Readings.{item_follows}
use Rattle.grammar.proofs.MachineRuns.{run_++}

pub advance : (t : List ℕ) (p : ℕ) → p < length t → before t (p + 1) ≡ step (before t p) (get_or t p 0)
advance t p h = ap (run (live [] fresh)) (take_more t p 0 h) ∙ run_++ (live [] fresh) (take p t) (get_or t p 0 ∷ [])

pub same_mode : {fs gs : List Frame} {m k : Mode} {s : State} → s ≡ live fs m → s ≡ live gs k → m ≡ k
same_mode p q = cc

pub same_frames : {fs gs : List Frame} {m k : Mode} {s : State} → s ≡ live fs m → s ≡ live gs k → fs ≡ gs
same_frames p q = cc

pub alive_clash : {gs : List Frame} {m : Mode} → live gs m ≡ dead → ⊥
alive_clash p = let z : ◌≡◌ {A = ℕ} 0 1 = cc in omega arith

-- a state that is not dead
pub alive : (s : State) → (s ≡ dead → ⊥) → (fs : List Frame) × (m : Mode) × (s ≡ live fs m)
alive dead n = absurd (n refl)
alive (live fs m) n = (fs, m, refl)

abbrev pub perhaps : (s : State) → (s ≡ dead) ⊎ ((fs : List Frame) × (m : Mode) × (s ≡ live fs m))
perhaps dead = inl refl
perhaps (live fs m) = inr (fs, m, refl)

-- whether the machine stands before an item, behind `:`, behind `@`
abbrev pub is_fresh : State → Bool
is_fresh dead = false
is_fresh (live fs fresh) = true
is_fresh (live fs (opening s)) = false
is_fresh (live fs naming) = false
is_fresh (live fs colon) = false
is_fresh (live fs negating) = false
is_fresh (live fs shifting) = false
is_fresh (live fs at) = false
is_fresh (live fs housing) = false
is_fresh (live fs ended) = false

abbrev pub is_colon : State → Bool
is_colon dead = false
is_colon (live fs fresh) = false
is_colon (live fs (opening s)) = false
is_colon (live fs naming) = false
is_colon (live fs colon) = true
is_colon (live fs negating) = false
is_colon (live fs shifting) = false
is_colon (live fs at) = false
is_colon (live fs housing) = false
is_colon (live fs ended) = false

abbrev pub is_at : State → Bool
is_at dead = false
is_at (live fs fresh) = false
is_at (live fs (opening s)) = false
is_at (live fs naming) = false
is_at (live fs colon) = false
is_at (live fs negating) = false
is_at (live fs shifting) = false
is_at (live fs at) = true
is_at (live fs housing) = false
is_at (live fs ended) = false

-- 1 behind a bracket's sign, whose `(` is still to come
abbrev pub pending : State → ℕ
pending dead = 0
pending (live fs fresh) = 0
pending (live fs (opening s)) = 1
pending (live fs naming) = 0
pending (live fs colon) = 0
pending (live fs negating) = 0
pending (live fs shifting) = 0
pending (live fs at) = 0
pending (live fs housing) = 0
pending (live fs ended) = 0

-- how many brackets are open
abbrev pub open_in : State → ℕ
open_in dead = 0
open_in (live fs m) = length fs

-- what a byte tells of the state behind it
pub record Told (s : State) (b : ℕ) (r : State) : Type 0 where
  pub item : is_fresh r ≡ item_follows b
  pub correction : is_colon r ≡ eqb b 58
  pub bay : is_at r ≡ eqb b 64
  pub depth : open_in r + cond (eqb b 41) 1 0 ≡ open_in s + cond (eqb b 40) 1 0
  pub signs : begun sign_byte s b + pending s ≡ cond (eqb b 40) 1 0 + pending r

-- a byte of a name is none of the others
record Ordinary (b : ℕ) : Type 0 where
  no_item : item_follows b ≡ false
  no_colon : eqb b 58 ≡ false
  no_at : eqb b 64 ≡ false
  no_close : eqb b 41 ≡ false
  no_open : eqb b 40 ≡ false
  no_sign : sign_byte b ≡ false

ordinary : (b : ℕ) → name_byte b ≡ true → Ordinary b
ordinary b h = record {
  no_item = grind (arith, nat_tests, h);
  no_colon = grind (arith, nat_tests, h);
  no_at = grind (arith, nat_tests, h);
  no_close = grind (arith, nat_tests, h);
  no_open = grind (arith, nat_tests, h);
  no_sign = grind (arith, nat_tests, h);
}

digit_name : (b : ℕ) → digit b ≡ true → name_byte b ≡ true
digit_name b h = grind (arith, nat_tests, h)

by_ordinary : (s r : State) (b : ℕ) → Ordinary b → is_fresh r ≡ false → is_colon r ≡ false → is_at r ≡ false → open_in r ≡ open_in s → begun sign_byte s b + pending s ≡ 0 → pending r ≡ 0 → Told s b r
by_ordinary s r b o f c a d g h = record {
  item = f ∙ sym o.no_item;
  correction = c ∙ sym o.no_colon;
  bay = a ∙ sym o.no_at;
  depth = let x = o.no_close in let y = o.no_open in rw (x, y, d);
  signs = let y = o.no_open in rw (y, g, h);
}

-- one of two states by a test
pick : (P : State → Type 0) (x : Bool) (s r : State) → (x ≡ true → P s) → (x ≡ false → P r) → P (cond x s r)
pick P true s r f g = f refl
pick P false s r f g = g refl

and_first : (x y : Bool) → (x && y) ≡ true → x ≡ true
and_first true y e = refl
and_first false y e = e

-- the byte is this one
is : (s r : State) (b c : ℕ) → eqb b c ≡ true → Told s c r → Told s b r
is s r b c e h = subst (λ x. Told s x r) (sym (eqb-true b c e)) h

abbrev Alive : State → ℕ → State → Type 0
Alive s b r = (r ≡ dead → ⊥) → Told s b r

gone : (s : State) (b : ℕ) → Alive s b dead
gone s b n = absurd (n refl)

told_ends : (m : Mode) (fs : List Frame) (b : ℕ) → ((c : ℕ) → begun sign_byte (live fs m) c + pending (live fs m) ≡ 0) → Alive (live fs m) b (ends fs b)
told_ends m [] b z =
    pick (Alive (live [] m) b) (eqb b 46) _ _
    (λ e _. is _ _ b 46 e (record { item = refl; correction = refl; bay = refl; depth = refl; signs = z 46 }))
    (λ _. gone _ b)
told_ends m (f ∷ fs) b z =
    pick (Alive (live (f ∷ fs) m) b) (eqb b 46) _ _
    (λ e _. is _ _ b 46 e (record { item = refl; correction = refl; bay = refl; depth = refl; signs = z 46 }))
    (λ _. pick (Alive (live (f ∷ fs) m) b) (eqb b 44 && ltb f.count (most f.sort)) _ _
    (λ e _. is _ _ b 44 (and_first _ _ e) (record { item = refl; correction = refl; bay = refl; depth = refl; signs = z 44 }))
    (λ _. pick (Alive (live (f ∷ fs) m) b) (eqb b 41 && leb (least f.sort) f.count) _ _
    (λ e _. is _ _ b 41 (and_first _ _ e) (record { item = refl; correction = refl; bay = refl; depth = omega arith; signs = z 41 }))
    (λ _. gone _ b)))

told_fresh : (fs : List Frame) (b : ℕ) → Alive (live fs fresh) b (begins fs b)
told_fresh fs b =
    pick (Alive (live fs fresh) b) (name_byte b) _ _
    (λ e _. let o = ordinary b e in let n = o.no_sign in by_ordinary (live fs fresh) (live fs naming) b o refl refl refl refl (rw n) refl)
    (λ _. pick (Alive (live fs fresh) b) (eqb b 95) _ _
    (λ e _. is _ _ b 95 e (record { item = refl; correction = refl; bay = refl; depth = refl; signs = refl }))
    (λ _. pick (Alive (live fs fresh) b) (eqb b 33) _ _
    (λ e _. is _ _ b 33 e (record { item = refl; correction = refl; bay = refl; depth = refl; signs = refl }))
    (λ _. pick (Alive (live fs fresh) b) (eqb b 43) _ _
    (λ e _. is _ _ b 43 e (record { item = refl; correction = refl; bay = refl; depth = refl; signs = refl }))
    (λ _. pick (Alive (live fs fresh) b) (eqb b 124) _ _
    (λ e _. is _ _ b 124 e (record { item = refl; correction = refl; bay = refl; depth = refl; signs = refl }))
    (λ _. gone _ b)))))

-- digits, in a mode that is neither before an item nor behind a sign
told_digit : (m k : Mode) (fs : List Frame) (b : ℕ) → begun sign_byte (live fs m) b + pending (live fs m) ≡ 0 → is_fresh (live fs k) ≡ false → is_colon (live fs k) ≡ false → is_at (live fs k) ≡ false → pending (live fs k) ≡ 0 → digit b ≡ true → Told (live fs m) b (live fs k)
told_digit m k fs b z f c a n e = by_ordinary (live fs m) (live fs k) b (ordinary b (digit_name b e)) f c a refl z n

pub told : (s : State) (b : ℕ) → Alive s b (step s b)
told dead b = gone dead b
told (live fs fresh) b = told_fresh fs b
told (live fs (opening s)) b =
    pick (Alive (live fs (opening s)) b) (eqb b 40) _ _
    (λ e _. is _ _ b 40 e (record { item = refl; correction = refl; bay = refl; depth = omega arith; signs = refl }))
    (λ _. gone _ b)
told (live fs naming) b =
    pick (Alive (live fs naming) b) (name_byte b) _ _
    (λ e _. by_ordinary (live fs naming) (live fs naming) b (ordinary b e) refl refl refl refl refl refl)
    (λ _. pick (Alive (live fs naming) b) (eqb b 58) _ _
    (λ e _. is _ _ b 58 e (record { item = refl; correction = refl; bay = refl; depth = refl; signs = refl }))
    (λ _. pick (Alive (live fs naming) b) (eqb b 64) _ _
    (λ e _. is _ _ b 64 e (record { item = refl; correction = refl; bay = refl; depth = refl; signs = refl }))
    (λ _. told_ends naming fs b (λ c. refl))))
told (live fs colon) b =
    pick (Alive (live fs colon) b) (digit b) _ _ (λ e _. told_digit colon shifting fs b refl refl refl refl refl e)
    (λ _. pick (Alive (live fs colon) b) (eqb b 45) _ _
    (λ e _. is _ _ b 45 e (record { item = refl; correction = refl; bay = refl; depth = refl; signs = refl }))
    (λ _. gone _ b))
told (live fs negating) b =
    pick (Alive (live fs negating) b) (digit b) _ _ (λ e _. told_digit negating shifting fs b refl refl refl refl refl e) (λ _. gone _ b)
told (live fs shifting) b =
    pick (Alive (live fs shifting) b) (digit b) _ _ (λ e _. told_digit shifting shifting fs b refl refl refl refl refl e)
    (λ _. pick (Alive (live fs shifting) b) (eqb b 64) _ _
    (λ e _. is _ _ b 64 e (record { item = refl; correction = refl; bay = refl; depth = refl; signs = refl }))
    (λ _. told_ends shifting fs b (λ c. refl)))
told (live fs at) b =
    pick (Alive (live fs at) b) (digit b) _ _ (λ e _. told_digit at housing fs b refl refl refl refl refl e) (λ _. gone _ b)
told (live fs housing) b =
    pick (Alive (live fs housing) b) (digit b) _ _ (λ e _. told_digit housing housing fs b refl refl refl refl refl e)
    (λ _. told_ends housing fs b (λ c. refl))
told (live fs ended) b = told_ends ended fs b (λ c. refl)
