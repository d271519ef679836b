-- The texts of shapes, part by part.
use Rattle.std.proofs.Common.{◌≡◌, ℕ, ◌+◌, ◌-◌, ◌*◌, ◌≤◌, List, [], ◌∷◌, ◌++◌, length, take, drop, set, sum_by, Box, sym, ap, ◌∙◌, subst, append_assoc, add_assoc, arith}
use borrow.Rule.Slice.PartMut.{put_mid}
use Rattle.std.proofs.Math.Seq.{take-add}
use Rattle.std.proofs.lemmas.List.{length-append, length-drop, length-set, get_or-drop, take_all}
use Rattle.std.proofs.lemmas.List.Sums.{sum_by-append}
use Rattle.meaning.specs.Shape.{Sort, Link, Shape, leaf, bracket, join, leaves, items}
use Rattle.meaning.specs.Limits.{brackets}
use Rattle.meaning.proofs.Limited.{items_are_counted}
use Rattle.grammar.specs.Written.{sign_of, link_sign, leaf_text, no_leaf, written_from, written}
use Rattle.plan.specs.Writes.{Laid, Numbered, AllNumbered}
use Rattle.plan.proofs.Writing.{laid_both, laid_as, laid_byte, laid_sub, laid_length}
use Rattle.layout.specs.Tree.{sort_of, link_of, shape_of}
use Rattle.grammar.specs.declared.leaf.Leaf.{Leaf}
use Rattle.layout.specs.declared.tree.Sort as S
use Rattle.layout.specs.declared.tree.Link as L
use Rattle.layout.specs.declared.tree.Tree.{Tree, Bracket, Join}
use Rattle.std.specs.declared.alloc.Global.{Global}

-- the text of a shape whose first leaf has number n + k is that under the leaves from number n on
pub written_rest : (n k : ℕ) (e : Shape) (ls : List Leaf) (texts : List (List ℕ)) → written_from k e (drop n ls) texts ≡ written_from (n + k) e ls texts
written_rest n k (leaf b) ls texts = ap (leaf_text texts) (get_or-drop n ls k no_leaf)
written_rest n k (bracket s e) ls texts = ap (λ t. sign_of s ∷ 40 ∷ (t ++ (41 ∷ []))) (written_rest n k e ls texts)
written_rest n k (join l e f) ls texts =
    ap (λ t. t ++ (link_sign l ∷ written_from (k + leaves e) f (drop n ls) texts)) (written_rest n k e ls texts)
    ∙ ap (λ t. written_from (n + k) e ls texts ++ (link_sign l ∷ t))
    (written_rest n (k + leaves e) f ls texts ∙ ap (λ m. written_from m f ls texts) (sym (add_assoc n k (leaves e))))

-- the names of the leaves from number n on have numbers
pub numbered_rest : (count n : ℕ) (ls : List Leaf) → AllNumbered count ls → AllNumbered count (drop n ls)
numbered_rest count n ls h k l = subst (λ x. Numbered count x.name) (sym (get_or-drop n ls k no_leaf)) (h (n + k) (omega (arith, length-drop n ls)))

-- how many bytes leaves have, with a sign behind each
abbrev pub spaced : List (List ℕ) → List Leaf → ℕ
spaced texts ls = sum_by (λ l. length (leaf_text texts l) + 1) ls

counted : (texts : List (List ℕ)) (e : Shape) (ls : List Leaf) → leaves e ≤ length ls → length (written e ls texts) + 1 ≡ spaced texts (take (leaves e) ls) + 3 * brackets e
counted texts (leaf b) [] h = absurd (omega arith)
counted texts (leaf b) (l ∷ []) h = omega arith
counted texts (leaf b) (l ∷ m ∷ ls) h = omega arith
counted texts (bracket s e) ls h = omega (arith, counted texts e ls h, length-append (written e ls texts) (41 ∷ []))
counted texts (join l e f) ls h =
    let n = leaves e in
    let start : n + 0 ≡ 0 + n = omega arith in
    let rest : written f (drop n ls) texts ≡ written_from (0 + n) f ls texts = written_rest n 0 f ls texts ∙ ap (λ k. written_from k f ls texts) start in
    let parts : spaced texts (take (n + leaves f) ls) ≡ spaced texts (take n ls) + spaced texts (take (leaves f) (drop n ls)) =
    ap (spaced texts) (take-add n (leaves f) ls) ∙ sum_by-append (λ l. length (leaf_text texts l) + 1) (take n ls) (take (leaves f) (drop n ls)) in
    omega (
      arith,
      counted texts e ls (omega arith),
      counted texts f (drop n ls) (omega (arith, length-drop n ls)),
      ap length rest,
      parts,
      length-append (written e ls texts) (link_sign l ∷ written_from (0 + n) f ls texts),
    )

-- the length of the text of a whole plan
pub whole_length : (texts : List (List ℕ)) (e : Shape) (ls : List Leaf) → length ls ≡ leaves e → length (written e ls texts) + 1 ≡ 3 * (items e - length ls) + spaced texts ls
whole_length texts e ls h =
    let all : spaced texts (take (leaves e) ls) ≡ spaced texts ls = ap (spaced texts) (take_all (leaves e) ls (omega arith)) in
    omega (arith, counted texts e ls (omega arith), all, items_are_counted e)

-- a bracket and a join of a tree, from what their parts are
module _ (ls : List Leaf) (texts : List (List ℕ)) (whole : Shape) where
  pub bracket_length : (s : Sort) (e : Shape) → whole ≡ bracket s e → length (written whole ls texts) ≡ length (written e ls texts) + 3
  bracket_length s e is = ap (λ w. length (written w ls texts)) is ∙ omega (arith, length-append (written e ls texts) (41 ∷ []))

  -- the text of the right part of a join, under the leaves that are left for it
  right : (e f : Shape) (rest : List Leaf) → rest ≡ drop (leaves e) ls → written f rest texts ≡ written_from (0 + leaves e) f ls texts
  right e f rest r =
      let start : leaves e + 0 ≡ 0 + leaves e = omega arith in
      ap (λ z. written f z texts) r ∙ (written_rest (leaves e) 0 f ls texts ∙ ap (λ k. written_from k f ls texts) start)

  pub join_length : (l : Link) (e f : Shape) (rest : List Leaf) → whole ≡ join l e f → rest ≡ drop (leaves e) ls
      → length (written whole ls texts) ≡ length (written e ls texts) + (1 + length (written f rest texts))
  join_length l e f rest is r =
      ap (λ w. length (written w ls texts)) is
      ∙ omega (arith, length-append (written e ls texts) (link_sign l ∷ written_from (0 + leaves e) f ls texts), ap length (right e f rest r))

  -- the parts are written one behind another
  module _ (xs : List ℕ) (room : length (written whole ls texts) ≤ length xs) where
    pub laid_bracket : (s : Sort) (e : Shape) (sign m : ℕ) (zs : List ℕ) → whole ≡ bracket s e → sign ≡ sign_of s
        → (let ys = set (set xs 0 sign) 1 40 in Laid 0 (written e ls texts) (take (length ys - 2) (drop 2 ys)) zs m)
        → (let ys = set (set xs 0 sign) 1 40 in Laid 0 (written whole ls texts) xs (set (put_mid 2 (length ys - 2) ys zs) (2 + m) 41) (2 + m + 1))
    laid_bracket s e sign m zs is sort inner =
        let ws = set xs 0 sign in
        let ys = set ws 1 40 in
        let us = put_mid 2 (length ys - 2) ys zs in
        let size = bracket_length s e is in
        let one : length ws ≡ length xs = length-set xs 0 sign in
        let two : length ys ≡ length xs = length-set ws 1 40 ∙ one in
        let third = laid_sub 2 m (written e ls texts) ys zs (omega (arith, two, size)) inner in
        let three : length us ≡ length ys = laid_length (omega (arith, two, size, third.ends)) third in
        let begun = laid_both 0 1 2 (sign ∷ []) (40 ∷ []) xs ws ys (omega arith) (laid_byte 0 sign xs (omega (arith, size))) (laid_byte 1 40 ws (omega (arith, one, size))) in
        let most = laid_both 0 2 (2 + m) (sign ∷ 40 ∷ []) (written e ls texts) xs ys us (omega arith) begun third in
        let all = laid_both 0 (2 + m) (2 + m + 1) (sign ∷ 40 ∷ written e ls texts) (41 ∷ []) xs us (set us (2 + m) 41) (omega arith) most (laid_byte (2 + m) 41 us (omega (arith, three, two, size, third.ends))) in
        laid_as _ _ all (ap (λ n. n ∷ 40 ∷ (written e ls texts ++ (41 ∷ []))) sort ∙ sym (ap (λ w. written w ls texts) is))

    pub laid_join : (l : Link) (e f : Shape) (rest : List Leaf) (sign m r : ℕ) (ws zs : List ℕ) → whole ≡ join l e f → rest ≡ drop (leaves e) ls → sign ≡ link_sign l
        → Laid 0 (written e ls texts) xs ws m
        → (let ys = set ws m sign in Laid 0 (written f rest texts) (take (length ys - (m + 1)) (drop (m + 1) ys)) zs r)
        → (let ys = set ws m sign in Laid 0 (written whole ls texts) xs (put_mid (m + 1) (length ys - (m + 1)) ys zs) (m + 1 + r))
    laid_join l e f rest sign m r ws zs is left link first second =
        let ys = set ws m sign in
        let us = put_mid (m + 1) (length ys - (m + 1)) ys zs in
        let size = join_length l e f rest is left in
        let one : length ws ≡ length xs = laid_length (omega (arith, size, first.ends)) first in
        let two : length ys ≡ length ws = length-set ws m sign in
        let third = laid_sub (m + 1) r (written f rest texts) ys zs (omega (arith, one, two, size, first.ends)) second in
        let begun = laid_both 0 m (m + 1) (written e ls texts) (sign ∷ []) xs ws ys (omega arith) first (laid_byte m sign ws (omega (arith, one, size, first.ends))) in
        let all = laid_both 0 (m + 1) (m + 1 + r) (written e ls texts ++ (sign ∷ [])) (written f rest texts) xs ys us (omega arith) begun third in
        laid_as _ _ all (append_assoc (written e ls texts) (sign ∷ []) (written f rest texts)
        ∙ (ap (λ n. written e ls texts ++ (n ∷ written f rest texts)) link
        ∙ (ap (λ t. written e ls texts ++ (link_sign l ∷ t)) (right e f rest left) ∙ sym (ap (λ w. written w ls texts) is))))

-- the shape of a tree in memory, from what its parts hold
pub bracket_shape : (whole e : Tree) (s : S.Sort) (b : Box Tree Global) → whole ≡ Bracket s b → e ≡ b.value → shape_of whole ≡ bracket (sort_of s) (shape_of e)
bracket_shape whole e s b is val = ap shape_of is ∙ ap (λ x. bracket (sort_of s) (shape_of x)) (sym val)

pub join_shape : (whole e f : Tree) (l : L.Link) (p q : Box Tree Global) → whole ≡ Join l p q → e ≡ p.value → f ≡ q.value
    → shape_of whole ≡ join (link_of l) (shape_of e) (shape_of f)
join_shape whole e f l p q is left right =
    ap shape_of is
    ∙ (ap (λ x. join (link_of l) (shape_of x) (shape_of q.value)) (sym left) ∙ ap (λ x. join (link_of l) (shape_of e) (shape_of x)) (sym right))
