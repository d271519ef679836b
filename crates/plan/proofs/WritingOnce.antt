-- A text has one reading.
use Rattle.std.proofs.Common.{◌≡◌, ℕ, ◌+◌, ◌-◌, ◌<◌, ◌≤◌, Bool, true, ◌⊎◌, List, [], ◌∷◌, ◌++◌, get_or, sym, refl, ap, ◌∙◌, inl, inr, append_assoc, arith}
use Rattle.std.proofs.lemmas.Bool.{cases_lt}
use Rattle.meaning.specs.Shape.{Sort, lock, choice, interleave, Link, then, or, beside, Shape, leaf, bracket, join, leaves}
use Rattle.meaning.specs.Limits.{Phrase, item, sequence, options, lines, FormedAs, a_leaf, a_lock, a_choice, an_interleave}
use Rattle.meaning.specs.Limits.{last_of_sequence, more_in_sequence, last_option, more_options, last_line, more_lines}
use Rattle.grammar.specs.Written.{marks_text, leaf_text, no_leaf, written_from}
use Rattle.plan.specs.WrittenLaws.{SuitsFrom, OneReading}
use Rattle.grammar.specs.declared.leaf.Leaf.{Leaf}
use Rattle.meaning.proofs.Limited.{tested_formed}
use Rattle.plan.proofs.WritingBytes.{heads, tails, inner, leaf_inner, leaf_is_no_bracket, same_sort, told_apart, stops, item_outside, sequence_item, options_sequence, lines_sequence, goes_on}

-- brackets and joins with what stands behind them
inside : (s c : ℕ) (t u r q : List ℕ) → (s ∷ 40 ∷ (t ++ (41 ∷ []))) ++ r ≡ (c ∷ 40 ∷ (u ++ (41 ∷ []))) ++ q → t ++ (41 ∷ r) ≡ u ++ (41 ∷ q)
inside s c t u r q is = sym (append_assoc t (41 ∷ []) r) ∙ (tails (tails is) ∙ append_assoc u (41 ∷ []) q)

behind : (t u r : List ℕ) (s : ℕ) → (t ++ (s ∷ u)) ++ r ≡ t ++ (s ∷ (u ++ r))
behind t u r s = append_assoc t (s ∷ u) r

module _ (ls ms : List Leaf) (texts others : List (List ℕ)) where
  -- shapes read alike, and what stands behind them
  record Alike (k j : ℕ) (e f : Shape) (r q : List ℕ) : Type 0 where
    pub shape : e ≡ f
    pub each : (i : ℕ) → i < leaves e → leaf_text texts (get_or ls (k + i) no_leaf) ≡ leaf_text others (get_or ms (j + i) no_leaf)
    pub rest : r ≡ q

  -- leaves
  leaf_alike : (b c : Bool) (k j : ℕ) (r q : List ℕ) → SuitsFrom k (leaf b) ls texts → SuitsFrom j (leaf c) ms others → stops item r ≡ true → stops item q ≡ true
      → leaf_text texts (get_or ls k no_leaf) ++ r ≡ leaf_text others (get_or ms j no_leaf) ++ q → Alike k j (leaf b) (leaf c) r q
  leaf_alike b c k j r q a d h g is =
      let x = get_or ls k no_leaf in
      let y = get_or ms j no_leaf in
      let w = told_apart inner (leaf_text texts x) (leaf_text others y) r q (leaf_inner b x.name texts x.marks a.0 a.1) (leaf_inner c y.name others y.marks d.0 d.1)
      (item_outside r h) (item_outside q g) is in
      record {
        shape = ap leaf (same_sort b c x.name y.name texts others (marks_text x.marks) (marks_text y.marks) a.0 d.0 w.0);
        each = λ i l. only i l w.0;
        rest = w.1;
      }
    where
      only : (i : ℕ) → i < 1 → leaf_text texts (get_or ls k no_leaf) ≡ leaf_text others (get_or ms j no_leaf) → leaf_text texts (get_or ls (k + i) no_leaf) ≡ leaf_text others (get_or ms (j + i) no_leaf)
      only i l e =
          let p : k + i ≡ k = omega arith in
          let q' : j + i ≡ j = omega arith in
          ap (λ n. leaf_text texts (get_or ls n no_leaf)) p ∙ (e ∙ sym (ap (λ n. leaf_text others (get_or ms n no_leaf)) q'))

  bracket_alike : (s : Sort) (k j : ℕ) (e f : Shape) (r q : List ℕ) → Alike k j e f (41 ∷ r) (41 ∷ q) → Alike k j (bracket s e) (bracket s f) r q
  bracket_alike s k j e f r q a = record { shape = ap (bracket s) a.shape; each = a.each; rest = tails a.rest }

  join_alike : (l : Link) (k j : ℕ) (e f g h : Shape) (r q u v : List ℕ) → Alike k j e f u v → Alike (k + leaves e) (j + leaves f) g h r q → Alike k j (join l e g) (join l f h) r q
  join_alike l k j e f g h r q u v a b = record {
    shape = ap (λ x. join l x g) a.shape ∙ ap (λ x. join l f x) b.shape;
    each = λ i lt. part i lt (cases_lt i (leaves e));
    rest = b.rest;
  }
    where
      same : leaves e ≡ leaves f
      same = ap leaves a.shape

      part : (i : ℕ) → i < leaves e + leaves g → (i < leaves e) ⊎ (leaves e ≤ i) → leaf_text texts (get_or ls (k + i) no_leaf) ≡ leaf_text others (get_or ms (j + i) no_leaf)
      part i lt (inl m) = a.each i m
      part i lt (inr m) =
          let p : k + i ≡ (k + leaves e) + (i - leaves e) = omega arith in
          let n : (j + leaves f) + (i - leaves e) ≡ j + i = omega (arith, same) in
          ap (λ x. leaf_text texts (get_or ls x no_leaf)) p ∙ (b.each (i - leaves e) (omega arith) ∙ ap (λ x. leaf_text others (get_or ms x no_leaf)) n)

  -- the same under a wider phrase, whose texts are the same
  alike : {p : Phrase} {e f : Shape} → FormedAs p e → FormedAs p f → (k j : ℕ) (r q : List ℕ) → SuitsFrom k e ls texts → SuitsFrom j f ms others
      → stops p r ≡ true → stops p q ≡ true → written_from k e ls texts ++ r ≡ written_from j f ms others ++ q → Alike k j e f r q
  alike (a_leaf {b = b}) (a_leaf {b = c}) k j r q a d h g is = leaf_alike b c k j r q a d h g is
  alike (a_leaf {b = b}) (a_lock y) k j r q a d h g is =
      absurd (leaf_is_no_bracket b (get_or ls k no_leaf).name texts (get_or ls k no_leaf).marks r _ 33 a.0 a.1 refl is)
  alike (a_leaf {b = b}) (a_choice y m n) k j r q a d h g is =
      absurd (leaf_is_no_bracket b (get_or ls k no_leaf).name texts (get_or ls k no_leaf).marks r _ 43 a.0 a.1 refl is)
  alike (a_leaf {b = b}) (an_interleave y m n) k j r q a d h g is =
      absurd (leaf_is_no_bracket b (get_or ls k no_leaf).name texts (get_or ls k no_leaf).marks r _ 124 a.0 a.1 refl is)
  alike (a_lock x) (a_leaf {b = c}) k j r q a d h g is =
      absurd (leaf_is_no_bracket c (get_or ms j no_leaf).name others (get_or ms j no_leaf).marks q _ 33 d.0 d.1 refl (sym is))
  alike (a_choice x m n) (a_leaf {b = c}) k j r q a d h g is =
      absurd (leaf_is_no_bracket c (get_or ms j no_leaf).name others (get_or ms j no_leaf).marks q _ 43 d.0 d.1 refl (sym is))
  alike (an_interleave x m n) (a_leaf {b = c}) k j r q a d h g is =
      absurd (leaf_is_no_bracket c (get_or ms j no_leaf).name others (get_or ms j no_leaf).marks q _ 124 d.0 d.1 refl (sym is))
  alike (a_lock {e = e} x) (a_lock {e = f} y) k j r q a d h g is =
      bracket_alike lock k j e f r q (alike x y k j (41 ∷ r) (41 ∷ q) a d refl refl (inside 33 33 (written_from k e ls texts) (written_from j f ms others) r q is))
  alike (a_choice {e = e} x m n) (a_choice {e = f} y m' n') k j r q a d h g is =
      bracket_alike choice k j e f r q (alike x y k j (41 ∷ r) (41 ∷ q) a d refl refl (inside 43 43 (written_from k e ls texts) (written_from j f ms others) r q is))
  alike (an_interleave {e = e} x m n) (an_interleave {e = f} y m' n') k j r q a d h g is =
      bracket_alike interleave k j e f r q (alike x y k j (41 ∷ r) (41 ∷ q) a d refl refl (inside 124 124 (written_from k e ls texts) (written_from j f ms others) r q is))
  alike (a_lock x) (a_choice y m n) k j r q a d h g is = absurd (let z : ◌≡◌ {A = ℕ} 33 43 = heads is in omega arith)
  alike (a_lock x) (an_interleave y m n) k j r q a d h g is = absurd (let z : ◌≡◌ {A = ℕ} 33 124 = heads is in omega arith)
  alike (a_choice x m n) (a_lock y) k j r q a d h g is = absurd (let z : ◌≡◌ {A = ℕ} 43 33 = heads is in omega arith)
  alike (a_choice x m n) (an_interleave y m' n') k j r q a d h g is = absurd (let z : ◌≡◌ {A = ℕ} 43 124 = heads is in omega arith)
  alike (an_interleave x m n) (a_lock y) k j r q a d h g is = absurd (let z : ◌≡◌ {A = ℕ} 124 33 = heads is in omega arith)
  alike (an_interleave x m n) (a_choice y m' n') k j r q a d h g is = absurd (let z : ◌≡◌ {A = ℕ} 124 43 = heads is in omega arith)
  alike (last_of_sequence x) (last_of_sequence y) k j r q a d h g is = alike x y k j r q a d (sequence_item r h) (sequence_item q g) is
  alike (last_of_sequence x) (more_in_sequence {e = e} {f = f} y z) k j r q a d h g is =
      let u = written_from (j + leaves e) f ms others ++ q in
      let w = alike x y k j r (46 ∷ u) a d.0 (sequence_item r h) refl (is ∙ behind (written_from j e ms others) (written_from (j + leaves e) f ms others) q 46) in
      absurd (goes_on sequence r u 46 h refl w.rest)
  alike (more_in_sequence {e = e} {f = f} x z) (last_of_sequence y) k j r q a d h g is =
      let u = written_from (k + leaves e) f ls texts ++ r in
      let w = alike x y k j (46 ∷ u) q a.0 d refl (sequence_item q g) (sym (behind (written_from k e ls texts) (written_from (k + leaves e) f ls texts) r 46) ∙ is) in
      absurd (goes_on sequence q u 46 g refl (sym w.rest))
  alike (more_in_sequence {e = e} {f = f} x z) (more_in_sequence {e = c} {f = i} y t) k j r q a d h g is =
      let u = written_from (k + leaves e) f ls texts ++ r in
      let v = written_from (j + leaves c) i ms others ++ q in
      let w = alike x y k j (46 ∷ u) (46 ∷ v) a.0 d.0 refl refl
      (sym (behind (written_from k e ls texts) (written_from (k + leaves e) f ls texts) r 46) ∙ (is ∙ behind (written_from j c ms others) (written_from (j + leaves c) i ms others) q 46)) in
      join_alike then k j e c f i r q (46 ∷ u) (46 ∷ v) w (alike z t (k + leaves e) (j + leaves c) r q a.1 d.1 h g (tails w.rest))
  alike (last_option x) (last_option y) k j r q a d h g is = alike x y k j r q a d (options_sequence r h) (options_sequence q g) is
  alike (last_option x) (more_options {e = e} {f = f} y z) k j r q a d h g is =
      let u = written_from (j + leaves e) f ms others ++ q in
      let w = alike x y k j r (44 ∷ u) a d.0 (options_sequence r h) refl (is ∙ behind (written_from j e ms others) (written_from (j + leaves e) f ms others) q 44) in
      absurd (goes_on options r u 44 h refl w.rest)
  alike (more_options {e = e} {f = f} x z) (last_option y) k j r q a d h g is =
      let u = written_from (k + leaves e) f ls texts ++ r in
      let w = alike x y k j (44 ∷ u) q a.0 d refl (options_sequence q g) (sym (behind (written_from k e ls texts) (written_from (k + leaves e) f ls texts) r 44) ∙ is) in
      absurd (goes_on options q u 44 g refl (sym w.rest))
  alike (more_options {e = e} {f = f} x z) (more_options {e = c} {f = i} y t) k j r q a d h g is =
      let u = written_from (k + leaves e) f ls texts ++ r in
      let v = written_from (j + leaves c) i ms others ++ q in
      let w = alike x y k j (44 ∷ u) (44 ∷ v) a.0 d.0 refl refl
      (sym (behind (written_from k e ls texts) (written_from (k + leaves e) f ls texts) r 44) ∙ (is ∙ behind (written_from j c ms others) (written_from (j + leaves c) i ms others) q 44)) in
      join_alike or k j e c f i r q (44 ∷ u) (44 ∷ v) w (alike z t (k + leaves e) (j + leaves c) r q a.1 d.1 h g (tails w.rest))
  alike (last_line x) (last_line y) k j r q a d h g is = alike x y k j r q a d (lines_sequence r h) (lines_sequence q g) is
  alike (last_line x) (more_lines {e = e} {f = f} y z) k j r q a d h g is =
      let u = written_from (j + leaves e) f ms others ++ q in
      let w = alike x y k j r (44 ∷ u) a d.0 (lines_sequence r h) refl (is ∙ behind (written_from j e ms others) (written_from (j + leaves e) f ms others) q 44) in
      absurd (goes_on lines r u 44 h refl w.rest)
  alike (more_lines {e = e} {f = f} x z) (last_line y) k j r q a d h g is =
      let u = written_from (k + leaves e) f ls texts ++ r in
      let w = alike x y k j (44 ∷ u) q a.0 d refl (lines_sequence q g) (sym (behind (written_from k e ls texts) (written_from (k + leaves e) f ls texts) r 44) ∙ is) in
      absurd (goes_on lines q u 44 g refl (sym w.rest))
  alike (more_lines {e = e} {f = f} x z) (more_lines {e = c} {f = i} y t) k j r q a d h g is =
      let u = written_from (k + leaves e) f ls texts ++ r in
      let v = written_from (j + leaves c) i ms others ++ q in
      let w = alike x y k j (44 ∷ u) (44 ∷ v) a.0 d.0 refl refl
      (sym (behind (written_from k e ls texts) (written_from (k + leaves e) f ls texts) r 44) ∙ (is ∙ behind (written_from j c ms others) (written_from (j + leaves c) i ms others) q 44)) in
      join_alike beside k j e c f i r q (44 ∷ u) (44 ∷ v) w (alike z t (k + leaves e) (j + leaves c) r q a.1 d.1 h g (tails w.rest))

pub one_reading : OneReading
one_reading e f ls ms texts others a b s t is =
    let w = alike ls ms texts others (tested_formed sequence e a) (tested_formed sequence f b) 0 0 [] [] s t refl refl (ap (λ x. x ++ []) is) in (
      w.shape,
      λ k l. let z : 0 + k ≡ k = omega arith in
          sym (ap (λ n. leaf_text texts (get_or ls n no_leaf)) z) ∙ (w.each k l ∙ ap (λ n. leaf_text others (get_or ms n no_leaf)) z),
    )
