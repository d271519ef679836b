-- What is known once a leaf has been read.
use Rattle.std.proofs.Common.{◌≡◌, ℕ, ◌+◌, ◌<◌, ◌≤◌, Bool, true, false, ◌||◌, eqb, List, ◌∷◌, ◌++◌, length, Some, None, sym, refl, ap, ◌∙◌, subst, arith}
use Rattle.std.proofs.lemmas.Bool.{eqb-true, eqb-false}
use Rattle.text.specs.Bytes.{name_byte, between, Longest}
use Rattle.meaning.specs.Shape.{leaf}
use Rattle.meaning.specs.Limits.{item}
use Rattle.grammar.specs.Written.{marks_text}
use Rattle.grammar.specs.Machine.{Frame, fresh, naming}
use Rattle.grammar.specs.Faults.{sign_byte, First}
use Rattle.reader.specs.Branches.{Means}
use Rattle.reader.specs.Reading.{Spot, spot_at, spot, drafts_of, next, any, Here, Whole, Drawn, Noted}
use Rattle.reader.specs.declared.branch.Branch.{Branch}
use Rattle.reader.specs.declared.draft.Draft.{Draft}
use Rattle.grammar.specs.declared.leaf.Marks.{Marks}
use Rattle.reader.specs.declared.reader.Reader.{Reader}
use Rattle.grammar.specs.declared.refusal.Refusal.TheVariants.{Form}
use Rattle.reader.proofs.ReadingText.{between_none, between_cons, between_append}
use Rattle.reader.proofs.ReadingMoves.{stands_within, stops_here, unfinished}
use Rattle.reader.proofs.ReadingMarks.{blank_leaf, name_run}
use Rattle.reader.proofs.ReadingTrees.{leaf_drawn}

three : (x y z : Bool) → ((x || y) || z) ≡ false → (x ≡ false) × (y ≡ false) × (z ≡ false)
three false false z e = (refl, refl, e)
three false true z e = absurd (let n : ◌≡◌ {A = ℕ} 0 1 = cc in omega arith)
three true y z e = absurd (let n : ◌≡◌ {A = ℕ} 0 1 = cc in omega arith)

-- no item begins with this byte
pub no_item : {r : Spot} {fs : List Frame} → Here r fs fresh → name_byte (next r) ≡ false → eqb (next r) 95 ≡ false → sign_byte (next r) ≡ false → First any r.text (Form r.at)
no_item {r} {fs} h n b s =
    let x = three (eqb (next r) 33) (eqb (next r) 43) (eqb (next r) 124) s in
    let p = x.0 in
    let q = x.1 in
    let o = x.2 in
    stops_here h (λ _. rw (n, b, p, q, o)) (λ _. unfinished fs fresh refl)

-- the place after a leaf was noted
pub noted_spot : {d : Draft} {r s : Reader} → Noted d r s → (q : ℕ) → spot_at s.text.now q (length s.drafts.items) s.brackets ≡ spot_at r.text.now q (length r.drafts.items + 1) r.brackets
noted_spot {d} {r} {s} n q =
    ap (λ x. spot_at x.now q (length s.drafts.items) s.brackets) n.text
    ∙ (ap (λ x. spot_at r.text.now q x s.brackets) n.leaves ∙ ap (λ x. spot_at r.text.now q (length r.drafts.items + 1) x) n.brackets)

abbrev pub LeafRead : ℕ → List Frame → Reader → Reader → ℕ → Branch → Type 0
LeafRead room fs r s q b =
    Whole (spot_at s.text.now q (length s.drafts.items) s.brackets) fs
    × Drawn item room r.text.now r.at r.brackets q s.brackets (drafts_of r) (drafts_of s) b

back : {d : Draft} {r s : Reader} (room q : ℕ) (fs : List Frame) (b : Branch) → Noted d r s → Whole (spot_at r.text.now q (length r.drafts.items + 1) r.brackets) fs
    → Drawn item room r.text.now r.at r.brackets q r.brackets (drafts_of r) (drafts_of s) b → LeafRead room fs r s q b
back {d} {r} {s} room q fs b n w e =
    subst (λ x. Whole x fs × Drawn item room r.text.now r.at r.brackets q x.brackets (drafts_of r) (drafts_of s) b) (sym (noted_spot n q)) (w, e)

pub blank_read : {r s : Reader} (m : Marks) (room : ℕ) (fs : List Frame) (b : Branch) → Noted (record { at = r.at; end = None; marks = m }) r s → Here (spot r) fs fresh → next (spot r) ≡ 95
    → length r.drafts.items < 128 → Means (leaf false) b → LeafRead room fs r s (r.at + 1) b
blank_read {r} {s} m room fs b n h e l i =
    let t = r.text.now in
    let p = r.at in
    let w = stands_within (spot r) (omega (arith, e)) in
    back room (p + 1) fs b n (blank_leaf h e l)
    (leaf_drawn t p (p + 1) r.brackets room (drafts_of r) (drafts_of s) (record { at = p; end = None; marks = m }) b (omega arith) n.drafts
    (between_cons t p (p + 1) (omega arith) w ∙ (ap (λ x. x ∷ between t (p + 1) (p + 1)) e ∙ ap (λ x. 95 ∷ x) (between_none t (p + 1)))) tt i)

-- a name whose bytes end at a place, before its marks
-- whether as many leaves were read as there may be
pub all_noted : {n : ℕ} → true ≡ eqb n 128 → 128 ≤ n
all_noted {n} e = omega (arith, eqb-true n 128 (sym e))

pub room_left : {n : ℕ} → false ≡ eqb n 128 → n ≤ 128 → n < 128
room_left {n} e l = omega (arith, eqb-false n 128 (sym e))

pub named_here : (r : Reader) {fs : List Frame} (q : ℕ) → Here (spot r) fs fresh → length r.drafts.items < 128 → Longest name_byte r.text.now r.at q → r.at < q
    → Here (spot_at r.text.now q (length r.drafts.items + 1) r.brackets) fs naming
named_here r q h l g w = name_run q h (g.all r.at (omega arith) w) l g

pub named_read : {r s : Reader} (m : Marks) (q u room : ℕ) (fs : List Frame) (b : Branch) → Noted (record { at = r.at; end = Some q; marks = m }) r s → Here (spot r) fs fresh
    → Longest name_byte r.text.now r.at q → r.at < q → q ≤ u → Whole (spot_at r.text.now u (length r.drafts.items + 1) r.brackets) fs → between r.text.now q u ≡ marks_text m
    → Means (leaf true) b → LeafRead room fs r s u b
named_read {r} {s} m q u room fs b n h g w v x y i =
    let t = r.text.now in
    let p = r.at in
    back room u fs b n x
    (leaf_drawn t p u r.brackets room (drafts_of r) (drafts_of s) (record { at = p; end = Some q; marks = m }) b (omega arith) n.drafts
    (between_append t p q u (omega arith) v ∙ ap (λ z. between t p q ++ z) y) (fs, h.state, g, w) i)
