-- The tests for a plan and its limits say what they should.
use Rattle.std.proofs.Common.{◌≡◌, ℕ, suc, ◌+◌, ◌<◌, ◌≤◌, max, Bool, true, false, cond, ◌&&◌, eqb, ltb, leb, ◌⊎◌, sym, refl, ap, ◌∙◌, inl, inr, true≢false, arith, leb-true}
use Rattle.meaning.specs.Shape.{Sort, lock, choice, interleave, Link, then, or, beside, Shape, leaf, bracket, join, leaves, items}
use Rattle.meaning.specs.Counts.{free_cuts, locked_cuts, width}
use Rattle.meaning.specs.Limits.{Phrase, item, sequence, options, lines, plans, FormedAs, a_leaf, a_lock, a_choice, an_interleave}
use Rattle.meaning.specs.Limits.{last_of_sequence, more_in_sequence, last_option, more_options, last_line, more_lines, depth, brackets}
use Rattle.meaning.specs.Limits.{Limited, right_number, formed_as, within_limits, LimitsAreTested, around, DepthIsGreatest}
use Rattle.meaning.specs.Limits.{ItemsAreCounted}
use Rattle.meaning.proofs.Testing.{leb_yes, ltb_yes, ltb_no, eqb_no, either, and_true, and_left, and_right}

-- an item is a sequence, and a sequence is options and lines
item_sequence : (e : Shape) → formed_as item e ≡ true → formed_as sequence e ≡ true
item_sequence (leaf b) h = refl
item_sequence (bracket s e) h = h
item_sequence (join l e f) h = absurd (true≢false (sym h))

sequence_options : (e : Shape) → formed_as sequence e ≡ true → formed_as options e ≡ true
sequence_options (leaf b) h = refl
sequence_options (bracket s e) h = h
sequence_options (join then e f) h = h
sequence_options (join or e f) h = absurd (true≢false (sym h))
sequence_options (join beside e f) h = absurd (true≢false (sym h))

sequence_lines : (e : Shape) → formed_as sequence e ≡ true → formed_as lines e ≡ true
sequence_lines (leaf b) h = refl
sequence_lines (bracket s e) h = h
sequence_lines (join then e f) h = h
sequence_lines (join or e f) h = absurd (true≢false (sym h))
sequence_lines (join beside e f) h = absurd (true≢false (sym h))

pub formed_tested : {p : Phrase} {e : Shape} → FormedAs p e → formed_as p e ≡ true
formed_tested a_leaf = refl
formed_tested (a_lock h) = and_true (formed_tested h) refl
formed_tested (a_choice {e = e} h a b) = and_true (formed_tested h) (and_true (leb_yes 2 (plans e) a) (leb_yes (plans e) 8 b))
formed_tested (an_interleave {e = e} h a b) = and_true (formed_tested h) (and_true (leb_yes 2 (plans e) a) (leb_yes (plans e) 8 b))
formed_tested (last_of_sequence {e = e} h) = item_sequence e (formed_tested h)
formed_tested (more_in_sequence h k) = and_true (formed_tested h) (formed_tested k)
formed_tested (last_option {e = e} h) = sequence_options e (formed_tested h)
formed_tested (more_options h k) = and_true (formed_tested h) (formed_tested k)
formed_tested (last_line {e = e} h) = sequence_lines e (formed_tested h)
formed_tested (more_lines h k) = and_true (formed_tested h) (formed_tested k)

-- an item is every phrase
item_as : (p : Phrase) (e : Shape) → FormedAs item e → FormedAs p e
item_as item e h = h
item_as sequence e h = last_of_sequence h
item_as options e h = last_option (last_of_sequence h)
item_as lines e h = last_line (last_of_sequence h)

number_least : (n : ℕ) → leb 2 n && leb n 8 ≡ true → 2 ≤ n
number_least n h = leb-true 2 n (and_left (leb 2 n) (leb n 8) h)

number_most : (n : ℕ) → leb 2 n && leb n 8 ≡ true → n ≤ 8
number_most n h = leb-true n 8 (and_right (leb 2 n) (leb n 8) h)

pub tested_formed : (p : Phrase) (e : Shape) → formed_as p e ≡ true → FormedAs p e
tested_formed p (leaf b) h = item_as p (leaf b) a_leaf
tested_formed p (bracket lock e) h = item_as p (bracket lock e) (a_lock (tested_formed sequence e (and_left (formed_as sequence e) true h)))
tested_formed p (bracket choice e) h =
    let n = and_right (formed_as options e) (right_number choice (plans e)) h in
    let i = tested_formed options e (and_left (formed_as options e) (right_number choice (plans e)) h) in
    item_as p (bracket choice e) (a_choice i (number_least (plans e) n) (number_most (plans e) n))
tested_formed p (bracket interleave e) h =
    let n = and_right (formed_as lines e) (right_number interleave (plans e)) h in
    let i = tested_formed lines e (and_left (formed_as lines e) (right_number interleave (plans e)) h) in
    item_as p (bracket interleave e) (an_interleave i (number_least (plans e) n) (number_most (plans e) n))
tested_formed item (join l e f) h = absurd (true≢false (sym h))
tested_formed sequence (join then e f) h =
    more_in_sequence (tested_formed item e (and_left (formed_as item e) (formed_as sequence f) h))
    (tested_formed sequence f (and_right (formed_as item e) (formed_as sequence f) h))
tested_formed sequence (join or e f) h = absurd (true≢false (sym h))
tested_formed sequence (join beside e f) h = absurd (true≢false (sym h))
tested_formed options (join then e f) h =
    last_option
    (more_in_sequence (tested_formed item e (and_left (formed_as item e) (formed_as sequence f) h))
    (tested_formed sequence f (and_right (formed_as item e) (formed_as sequence f) h)))
tested_formed options (join or e f) h =
    more_options (tested_formed sequence e (and_left (formed_as sequence e) (formed_as options f) h))
    (tested_formed options f (and_right (formed_as sequence e) (formed_as options f) h))
tested_formed options (join beside e f) h = absurd (true≢false (sym h))
tested_formed lines (join then e f) h =
    last_line
    (more_in_sequence (tested_formed item e (and_left (formed_as item e) (formed_as sequence f) h))
    (tested_formed sequence f (and_right (formed_as item e) (formed_as sequence f) h)))
tested_formed lines (join or e f) h = absurd (true≢false (sym h))
tested_formed lines (join beside e f) h =
    more_lines (tested_formed sequence e (and_left (formed_as sequence e) (formed_as lines f) h))
    (tested_formed lines f (and_right (formed_as sequence e) (formed_as lines f) h))

-- the last of several tests
last_test : {b : Bool} (m n : ℕ) → b && leb m n ≡ true → (b ≡ true) × (m ≤ n)
last_test {b} m n h = (and_left b (leb m n) h, leb-true m n (and_right b (leb m n) h))

pub limits_tested : (e : Shape) → within_limits e ≡ true → Limited e
limits_tested e h =
    let c = last_test (free_cuts e + locked_cuts e) 4096 h in
    let w = last_test (width e) 8 c.0 in
    let b = last_test (brackets e) 64 w.0 in
    let l = last_test (leaves e) 128 b.0 in
    let d = last_test (depth e) 16 l.0 in
    record {
      plan = tested_formed sequence e d.0;
      deep = d.1;
      leaf_number = l.1;
      bracket_number = b.1;
      wide = w.1;
      cut_number = c.1;
    }

pub limits_pass : (e : Shape) → Limited e → within_limits e ≡ true
limits_pass e h =
    let d = and_true (formed_tested h.plan) (leb_yes (depth e) 16 h.deep) in
    let l = and_true d (leb_yes (leaves e) 128 h.leaf_number) in
    let b = and_true l (leb_yes (brackets e) 64 h.bracket_number) in
    let w = and_true b (leb_yes (width e) 8 h.wide) in
    and_true w (leb_yes (free_cuts e + locked_cuts e) 4096 h.cut_number)

pub limits_are_tested : LimitsAreTested
limits_are_tested e = ((formed_tested, tested_formed sequence e), (limits_pass e, limits_tested e))

pub items_are_counted : ItemsAreCounted
items_are_counted (leaf b) = refl
items_are_counted (bracket s e) = omega (arith, items_are_counted e)
items_are_counted (join l e f) = omega (arith, items_are_counted e, items_are_counted f)

-- the brackets around an item, by the part that it is of
around_inner : (i : ℕ) (s : Sort) (e : Shape) (j : ℕ) → i < j → around i (bracket s e) j ≡ suc (around (suc i) e j)
around_inner i s e j h = ap (λ t. cond t 0 (suc (around (suc i) e j))) (eqb_no j i (λ p. omega arith))

around_left : (i : ℕ) (l : Link) (e f : Shape) (j : ℕ) → j < i + items e → around i (join l e f) j ≡ around i e j
around_left i l e f j h = ap (λ t. cond t (around i e j) (around (i + items e) f j)) (ltb_yes j (i + items e) h)

around_right : (i : ℕ) (l : Link) (e f : Shape) (j : ℕ) → i + items e ≤ j → around i (join l e f) j ≡ around (i + items e) f j
around_right i l e f j h = ap (λ t. cond t (around i e j) (around (i + items e) f j)) (ltb_no j (i + items e) h)

around_most : (i : ℕ) (e : Shape) (j : ℕ) → around i e j ≤ depth e
around_most i (leaf b) j = omega arith
around_most i (bracket s e) j = go (eqb j i) (around_most (suc i) e j)
  where
    go : (b : Bool) → around (suc i) e j ≤ depth e → cond b 0 (suc (around (suc i) e j)) ≤ 1 + depth e
    go true h = omega arith
    go false h = omega arith
around_most i (join l e f) j = go (ltb j (i + items e)) (around_most i e j) (around_most (i + items e) f j)
  where
    go : (b : Bool) → around i e j ≤ depth e → around (i + items e) f j ≤ depth f
        → cond b (around i e j) (around (i + items e) f j) ≤ max (depth e) (depth f)
    go true h k = omega arith
    go false h k = omega arith

-- an item with the most brackets around it
pub record Deepest (i : ℕ) (e : Shape) : Type 0 where
  pub place : ℕ
  pub least : i ≤ place
  pub most : place < i + items e
  pub attains : around i e place ≡ depth e

deepest_join : (i : ℕ) (l : Link) (e f : Shape) → Deepest i e → Deepest (i + items e) f → (depth f ≤ depth e) ⊎ (depth e ≤ depth f)
    → Deepest i (join l e f)
deepest_join i l e f w x (inl p) = record {
  place = w.place;
  least = w.least;
  most = omega arith;
  attains = around_left i l e f w.place w.most ∙ omega (arith, w.attains);
}
deepest_join i l e f w x (inr p) = record {
  place = x.place;
  least = omega arith;
  most = omega arith;
  attains = around_right i l e f x.place x.least ∙ omega (arith, x.attains);
}

deepest : (i : ℕ) (e : Shape) → Deepest i e
deepest i (leaf b) = record { place = i; least = omega arith; most = omega arith; attains = refl }
deepest i (bracket s e) =
    let w = deepest (suc i) e in
    let p : i < w.place = omega (arith, w.least) in
    record {
      place = w.place;
      least = omega arith;
      most = omega (arith, w.most);
      attains = around_inner i s e w.place p ∙ omega (arith, w.attains);
    }
deepest i (join l e f) = deepest_join i l e f (deepest i e) (deepest (i + items e) f) (either (depth f) (depth e))

pub depth_is_greatest : DepthIsGreatest
depth_is_greatest e = let w = deepest 0 e in ((λ j h. around_most 0 e j), (w.place, omega (arith, w.most), w.attains))
