-- What a plan that stands in memory gives a search, and what its logs look like.
use Rattle.std.proofs.Common.{◌≡◌, ℕ, suc, ◌+◌, ◌<◌, ◌≤◌, Bool, true, false, leb, List, [], ◌∷◌, ◌++◌, length, get_or, IfSome, Some, None, vec_items, Option, refl, ap, ◌∙◌, subst, inl, inr, arith, length-append, ltb-true, leb-true}
use Rattle.std.specs.List.{AllByRecursion}
use Rattle.std.proofs.ByRecursion.{All-get_or, All-weaker}
use Rattle.text.specs.Directory.{Text}
use Rattle.meaning.specs.Shape.{lock, choice, interleave, then, or, beside, Shape, leaf, bracket, join, leaves}
use Rattle.meaning.specs.Strands.{Piece, flat, Shuffle, none, fromˡ, fromʳ, Strand, Permitted}
use Rattle.grammar.specs.Written.{no_leaf}
use Rattle.meaning.specs.Limits.{Limited, well_formed}
use Rattle.meaning.specs.Plans.{last_cut, WalkedWhole}
use Rattle.spots.specs.Rows.{LaidOut}
use Rattle.meaning.specs.Walks.{Walk}
use Rattle.meaning.specs.CutOrder.{cut_list}
use Rattle.plan.specs.LeafFit.{leaf_kinds, name_fits, leaf_fits, all_fit}
use Rattle.spots.specs.MoveList.{move_list}
use Rattle.layout.specs.Tree.{shape_of}
use Rattle.grammar.specs.declared.leaf.Leaf.{Leaf}
use Rattle.spots.specs.declared.moves.RowMove.{RowMove}
use Rattle.plan.specs.declared.plan.Plan.{Plan}
use Rattle.meaning.proofs.Limited.{limits_are_tested}
use Rattle.meaning.proofs.Testing.{and_left, and_right}
use Rattle.layout.proofs.LayingOut.{plans_are_laid}
use Rattle.meaning.proofs.Single.{plans_are_walked}
use Rattle.engine.specs.Answers.{LogBegins}
use Rattle.engine.specs.Ways.{Searchable}
use Rattle.engine.proofs.OverRows.{some_row, cut_at}
use Rattle.engine.proofs.Onward.{searchable}

-- the names of leaves that fit a shape are among so many
name_below : (names : ℕ) (b : Bool) (o : Option ℕ) → name_fits names b o ≡ true → IfSome o (λ n. n < names)
name_below names true None f = tt
name_below names true (Some n) f = ltb-true n names f
name_below names false None f = tt
name_below names false (Some n) f = let z : ◌≡◌ {A = ℕ} 0 1 = cc in absurd (omega arith)

names_below : (names : ℕ) (bs : List Bool) (ls : List Leaf) → all_fit names bs ls ≡ true → AllByRecursion (λ l. IfSome l.name (λ n. n < names)) ls × (length ls ≡ length bs)
names_below names [] [] f = (tt, refl)
names_below names [] (l ∷ ls) f = let z : ◌≡◌ {A = ℕ} 0 1 = cc in absurd (omega arith)
names_below names (b ∷ bs) [] f = let z : ◌≡◌ {A = ℕ} 0 1 = cc in absurd (omega arith)
names_below names (b ∷ bs) (l ∷ ls) f =
    let rest = names_below names bs ls (and_right (leaf_fits names b l) (all_fit names bs ls) f) in
    let here = and_left (leaf_fits names b l) (all_fit names bs ls) f in
    ((name_below names b l.name here, rest.0), ap suc rest.1)

kinds_number : (e : Shape) → length (leaf_kinds e) ≡ leaves e
kinds_number (leaf b) = refl
kinds_number (bracket s e) = kinds_number e
kinds_number (join l e f) = simp length-append (omega (arith, kinds_number e, kinds_number f))

-- what a plan in memory gives
module _ (p : Plan) where
  abbrev pub shape : Shape
  shape = shape_of p.tree

  abbrev pub plan_leaves : List Leaf
  plan_leaves = vec_items p.leaves

  abbrev pub plan_moves : List RowMove
  plan_moves = move_list shape

  pub limits : Limited shape
  limits = (limits_are_tested shape).1.1 p.limited

  pub formed : well_formed shape ≡ true
  formed = (limits_are_tested shape).0.0 limits.plan

  pub whole : WalkedWhole shape
  whole = plans_are_walked shape formed

  pub laid_out : LaidOut shape (cut_list shape) plan_moves
  laid_out = plans_are_laid shape formed

  pub name_number : p.names ≤ 128
  name_number = leb-true p.names 128 (and_left (leb p.names 128) (all_fit p.names (leaf_kinds shape) plan_leaves) p.fitting)

  fitted : AllByRecursion (λ l. IfSome l.name (λ n. n < p.names)) plan_leaves × (length plan_leaves ≡ length (leaf_kinds shape))
  fitted = names_below p.names (leaf_kinds shape) plan_leaves (and_right (leb p.names 128) (all_fit p.names (leaf_kinds shape) plan_leaves) p.fitting)

  pub leaf_number : length plan_leaves ≡ leaves shape
  leaf_number = fitted.1 ∙ kinds_number shape

  pub named : (i : ℕ) → i < length plan_leaves → IfSome (get_or plan_leaves i no_leaf).name (λ n. n < p.names)
  named i h = All-get_or (λ (l : Leaf). IfSome l.name (λ n. n < p.names)) plan_leaves i no_leaf h fitted.0

  wider : (n : ℕ) → p.names ≤ n → (o : Option ℕ) → IfSome o (λ m. m < p.names) → IfSome o (λ m. m < n)
  wider n h None c = tt
  wider n h (Some m) c = omega arith

  pub ready : (n : ℕ) → 128 ≤ n → Searchable (length (cut_list shape)) n plan_leaves plan_moves
  ready n h =
      let all = All-weaker (λ (l : Leaf). IfSome l.name (λ m. m < p.names)) (λ (l : Leaf). IfSome l.name (λ m. m < n)) (λ l c. wider n (omega (arith, name_number)) l.name c) plan_leaves fitted.0 in
      searchable shape (cut_list shape) plan_moves laid_out whole plan_leaves n (omega (arith, laid_out.number, limits.cut_number)) leaf_number (omega (arith, leaf_number, limits.leaf_number)) all

  -- some log begins with no stamps
  pub begun_empty : (texts : List Text) → LogBegins shape plan_leaves texts []
  begun_empty texts =
      let c = first_permitted in
      (c.0, ([], c.1, refl))
    where
      first_permitted : (w : List ℕ) × Permitted shape w
      first_permitted =
          let cut = cut_at shape (cut_list shape) plan_moves laid_out whole 0 (some_row shape (cut_list shape) plan_moves laid_out whole) in
          let f = whole.finish (get_or (cut_list shape) 0 []) cut in
          (f.0, (whole.permitted f.0).1 (subst (λ x. Walk shape x f.0 (last_cut shape)) laid_out.first f.1))

-- each leaf is read at most once
flat_append : (s t : List Piece) → length (flat (s ++ t)) ≡ length (flat s) + length (flat t)
flat_append [] t = omega arith
flat_append (p ∷ s) t = simp length-append (omega (arith, flat_append s t))

flat_shuffle : {s t u : List Piece} → Shuffle s t u → length (flat u) ≡ length (flat s) + length (flat t)
flat_shuffle none = refl
flat_shuffle (fromˡ {p = p} h) = simp length-append (omega (arith, flat_shuffle h))
flat_shuffle (fromʳ {p = p} h) = simp length-append (omega (arith, flat_shuffle h))

strand_short : (k : ℕ) (e : Shape) (s : List Piece) → Strand k e s → length (flat s) ≤ leaves e
strand_short k (leaf true) s h = rw h (omega arith)
strand_short k (leaf false) s h = rw h (omega arith)
strand_short k (bracket lock e) s (t, h, r) = rw r (simp length-append (omega (arith, strand_short k e t h)))
strand_short k (bracket choice e) s h = strand_short k e s h
strand_short k (bracket interleave e) s h = strand_short k e s h
strand_short k (join then e f) s (t, u, g, h, r) = rw r (omega (arith, flat_append t u, strand_short k e t g, strand_short (k + leaves e) f u h))
strand_short k (join or e f) s (inl h) = omega (arith, strand_short k e s h)
strand_short k (join or e f) s (inr h) = omega (arith, strand_short (k + leaves e) f s h)
strand_short k (join beside e f) s (t, u, g, h, r) = omega (arith, flat_shuffle r, strand_short k e t g, strand_short (k + leaves e) f u h)

pub permitted_short : (e : Shape) (w : List ℕ) → Permitted e w → length w ≤ leaves e
permitted_short e w (s, h, r) = rw r (strand_short 0 e s h)
