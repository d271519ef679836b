-- What the machine counts, counted in bytes; and the bytes that tell where it stands.
use Rattle.std.proofs.Common.{◌≡◌, ℕ, zero, suc, ◌+◌, ◌-◌, ◌<◌, true, false, cond, ◌&&◌, eqb, List, [], ◌∷◌, ◌++◌, length, get_or, take, sym, refl, ap, ◌∙◌, subst, inl, inr, arith, eq-eqb, eqb-true}
use Rattle.std.proofs.lemmas.List.{get_or_past}
use Rattle.std.proofs.lemmas.Bool.{cases_lt}
use Rattle.grammar.specs.Machine.{Mode, fresh, opening, naming, colon, negating, shifting, at, housing, ended, Frame, State, dead, live, ends, step, run}
use Rattle.grammar.specs.Faults.{before, leaf_byte, sign_byte, begun, count_from, count}
use Rattle.grammar.specs.Readings.{occurrences, brackets_before, closed_before, leaf_begins, leaves_in, leaves_before, ItemAt}
use Rattle.grammar.proofs.MachineRuns.{run_++, run_dead, never}
use Rattle.grammar.proofs.MachineBridge.{lives_goes_on, goes_on_lives}
use Rattle.grammar.proofs.MachineSteps.{advance, alive_clash, is_fresh, is_colon, is_at, pending, open_in, Told, told}

lives : (s : State) (b : ℕ) (u : List ℕ) → (run s (b ∷ u) ≡ dead → ⊥) → step s b ≡ dead → ⊥
lives s b u n e = n (ap (λ x. run x u) e ∙ run_dead u)

leaf_first : (s : State) (b : ℕ) → begun leaf_byte s b ≡ cond (is_fresh s && leaf_begins b) 1 0
leaf_first dead b = refl
leaf_first (live fs fresh) b = refl
leaf_first (live fs (opening s)) b = refl
leaf_first (live fs naming) b = refl
leaf_first (live fs colon) b = refl
leaf_first (live fs negating) b = refl
leaf_first (live fs shifting) b = refl
leaf_first (live fs at) b = refl
leaf_first (live fs housing) b = refl
leaf_first (live fs ended) b = refl

leaves_agree : (s : State) (u : List ℕ) → (run s u ≡ dead → ⊥) → count_from leaf_byte s u ≡ leaves_in (is_fresh s) u
leaves_agree s [] n = refl
leaves_agree s (b ∷ u) n =
    let h = told s b (lives s b u n) in
    ap (λ x. x + count_from leaf_byte (step s b) u) (leaf_first s b)
    ∙ ap (λ x. cond (is_fresh s && leaf_begins b) 1 0 + x) (leaves_agree (step s b) u n ∙ ap (λ d. leaves_in d u) h.item)

brackets_agree : (s : State) (u : List ℕ) → (run s u ≡ dead → ⊥) → count_from sign_byte s u + pending s ≡ occurrences 40 u + pending (run s u)
brackets_agree s [] n = refl
brackets_agree s (b ∷ u) n =
    let h = (told s b (lives s b u n)).signs in
    let i = brackets_agree (step s b) u n in
    sums (begun sign_byte s b) (count_from sign_byte (step s b) u) (pending s) (cond (eqb b 40) 1 0) (pending (step s b)) (occurrences 40 u) (pending (run (step s b) u)) h i
  where
    sums : (a c p o q w r : ℕ) → a + p ≡ o + q → c + q ≡ w + r → a + c + p ≡ o + w + r
    sums a c p o q w r e f = omega arith

depth_agree : (s : State) (u : List ℕ) → (run s u ≡ dead → ⊥) → open_in (run s u) + occurrences 41 u ≡ open_in s + occurrences 40 u
depth_agree s [] n = refl
depth_agree s (b ∷ u) n =
    let h = (told s b (lives s b u n)).depth in
    let i = depth_agree (step s b) u n in
    sums (open_in (run (step s b) u)) (cond (eqb b 41) 1 0) (occurrences 41 u) (open_in s) (cond (eqb b 40) 1 0) (occurrences 40 u) (open_in (step s b)) h i
  where
    sums : (e c x s o y m : ℕ) → m + c ≡ s + o → e + x ≡ m + y → e + (c + x) ≡ s + (o + y)
    sums e c x s o y m p q = omega arith

module _ (t : List ℕ) (p : ℕ) (fs : List Frame) (m : Mode) (h : before t p ≡ live fs m) where
  pub lives_at : before t p ≡ dead → ⊥
  lives_at e = alive_clash (sym h ∙ e)

  pub leaves_at : count leaf_byte t p ≡ leaves_before t p
  leaves_at = leaves_agree (live [] fresh) (take p t) lives_at

  pub depth_at : length fs + closed_before t p ≡ brackets_before t p
  depth_at = omega (arith, ap open_in h, depth_agree (live [] fresh) (take p t) lives_at)

pub brackets_at : (t : List ℕ) (p : ℕ) (fs : List Frame) → before t p ≡ live fs fresh → count sign_byte t p ≡ brackets_before t p
brackets_at t p fs h = omega (arith, ap pending h, brackets_agree (live [] fresh) (take p t) (lives_at t p fs fresh h))

-- `_` stands only before an item
no_blank : (fs : List Frame) → ends fs 95 ≡ dead
no_blank [] = refl
no_blank (f ∷ fs) = refl

blank_fresh : (s : State) → (step s 95 ≡ dead → ⊥) → (fs : List Frame) × (s ≡ live fs fresh)
blank_fresh dead n = absurd (n refl)
blank_fresh (live fs fresh) n = (fs, refl)
blank_fresh (live fs (opening s)) n = absurd (n refl)
blank_fresh (live fs naming) n = absurd (n (no_blank fs))
blank_fresh (live fs colon) n = absurd (n refl)
blank_fresh (live fs negating) n = absurd (n refl)
blank_fresh (live fs shifting) n = absurd (n (no_blank fs))
blank_fresh (live fs at) n = absurd (n refl)
blank_fresh (live fs housing) n = absurd (n (no_blank fs))
blank_fresh (live fs ended) n = absurd (n (no_blank fs))

pub item_fresh : (t : List ℕ) (p : ℕ) → ItemAt t p → (fs : List Frame) × (before t p ≡ live fs fresh)
item_fresh t p i =
    blank_fresh (before t p) (λ e. goes_on_lives (take p t ++ (95 ∷ [])) i.item_next (run_++ (live [] fresh) (take p t) (95 ∷ []) ∙ e))

pub fresh_item : (t : List ℕ) (p : ℕ) (fs : List Frame) → p < length t → before t p ≡ live fs fresh → ItemAt t p
fresh_item t p fs w h = record {
  inside = w;
  item_next = lives_goes_on (take p t ++ (95 ∷ [])) fs ended (run_++ (live [] fresh) (take p t) (95 ∷ []) ∙ ap (λ s. step s 95) h);
}

-- the last byte tells the state
pub last_told : (t : List ℕ) (p : ℕ) (fs : List Frame) (m : Mode) → 0 < p → p - 1 < length t → before t p ≡ live fs m → Told (before t (p - 1)) (get_or t (p - 1) 0) (before t p)
last_told t p fs m z w h =
    let e : p - 1 + 1 ≡ p = omega arith in
    let a : before t p ≡ step (before t (p - 1)) (get_or t (p - 1) 0) = ap (before t) (sym e) ∙ advance t (p - 1) w in
    subst (Told (before t (p - 1)) (get_or t (p - 1) 0)) (sym a) (told (before t (p - 1)) (get_or t (p - 1) 0) (λ d. alive_clash (sym h ∙ (a ∙ d))))

-- a byte above 0 stands within
pub stands_inside : (t : List ℕ) (p : ℕ) → 0 < get_or t p 0 → p < length t
stands_inside t p h = elim (cases_lt p (length t)) [ inl l ↦ l | inr l ↦ absurd (omega (arith, get_or_past t p 0 l, h)) ]

not_start : (t : List ℕ) (p : ℕ) (fs : List Frame) (m : Mode) → before t p ≡ live fs m → is_fresh (live fs m) ≡ false → 0 < p
not_start t zero fs m h n = absurd (never (sym n ∙ ap is_fresh (sym h)))
not_start t (suc p) fs m h n = omega arith

pub colon_behind : (t : List ℕ) (p : ℕ) (fs : List Frame) → p < length t → before t p ≡ live fs colon → (0 < p) × (get_or t (p - 1) 0 ≡ 58)
colon_behind t p fs w h =
    let z = not_start t p fs colon h refl in
    let l = last_told t p fs colon z (omega arith) h in
    (z, eqb-true (get_or t (p - 1) 0) 58 (sym l.correction ∙ ap is_colon h))

pub at_behind : (t : List ℕ) (p : ℕ) (fs : List Frame) → p < length t → before t p ≡ live fs at → (0 < p) × (get_or t (p - 1) 0 ≡ 64)
at_behind t p fs w h =
    let z = not_start t p fs at h refl in
    let l = last_told t p fs at z (omega arith) h in
    (z, eqb-true (get_or t (p - 1) 0) 64 (sym l.bay ∙ ap is_at h))

colon_mode : (fs : List Frame) (m : Mode) → is_colon (live fs m) ≡ true → m ≡ colon
colon_mode fs fresh e = absurd (never e)
colon_mode fs (opening s) e = absurd (never e)
colon_mode fs naming e = absurd (never e)
colon_mode fs colon e = refl
colon_mode fs negating e = absurd (never e)
colon_mode fs shifting e = absurd (never e)
colon_mode fs at e = absurd (never e)
colon_mode fs housing e = absurd (never e)
colon_mode fs ended e = absurd (never e)

at_mode : (fs : List Frame) (m : Mode) → is_at (live fs m) ≡ true → m ≡ at
at_mode fs fresh e = absurd (never e)
at_mode fs (opening s) e = absurd (never e)
at_mode fs naming e = absurd (never e)
at_mode fs colon e = absurd (never e)
at_mode fs negating e = absurd (never e)
at_mode fs shifting e = absurd (never e)
at_mode fs at e = refl
at_mode fs housing e = absurd (never e)
at_mode fs ended e = absurd (never e)

pub behind_colon : (t : List ℕ) (p : ℕ) (fs : List Frame) (m : Mode) → 0 < p → get_or t (p - 1) 0 ≡ 58 → before t p ≡ live fs m → m ≡ colon
behind_colon t p fs m z e h =
    let l = last_told t p fs m z (stands_inside t (p - 1) (omega arith)) h in
    colon_mode fs m (ap is_colon (sym h) ∙ (l.correction ∙ eq-eqb (get_or t (p - 1) 0) 58 e))

pub behind_at : (t : List ℕ) (p : ℕ) (fs : List Frame) (m : Mode) → 0 < p → get_or t (p - 1) 0 ≡ 64 → before t p ≡ live fs m → m ≡ at
behind_at t p fs m z e h =
    let l = last_told t p fs m z (stands_inside t (p - 1) (omega arith)) h in
    at_mode fs m (ap is_at (sym h) ∙ (l.bay ∙ eq-eqb (get_or t (p - 1) 0) 64 e))
