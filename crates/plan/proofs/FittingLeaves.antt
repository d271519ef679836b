-- What the leaves of a plan keep to.
use Rattle.std.proofs.Common.{◌≡◌, ℕ, zero, suc, ◌+◌, ◌≤◌, Bool, true, false, leb, List, [], ◌∷◌, length, get_or, Some, None, vec_items, Option, refl, ap, ◌∙◌, ap₂, arith, length-append, leb-true}
use Rattle.std.proofs.lemmas.Bool.{ltb-true, and_parts}
use Rattle.plan.specs.LeafFit.{leaf_kinds, name_fits, leaf_fits, all_fit}
use Rattle.meaning.specs.Shape.{Shape, leaf, bracket, join, leaves, items}
use Rattle.layout.specs.Tree.{shape_of}
use Rattle.plan.specs.Writes.{Numbered, AllNumbered}
use Rattle.grammar.specs.Written.{no_leaf}
use Rattle.grammar.specs.declared.leaf.Leaf.{Leaf}
use Rattle.plan.specs.declared.plan.Plan.{Plan}
use Rattle.meaning.proofs.Limited.{items_are_counted}
use Rattle.plan.proofs.PlanFacts.{plan_limited}

never : {A : Type 0} → false ≡ true → A
never e = let z : ◌≡◌ {A = ℕ} 0 1 = cc in absurd (omega arith)

name_numbered : (n : ℕ) (b : Bool) (x : Option ℕ) → name_fits n b x ≡ true → Numbered n x
name_numbered n true (Some k) h = ltb-true k n h
name_numbered n true None h = tt
name_numbered n false (Some k) h = never h
name_numbered n false None h = tt

fit_numbered : (n : ℕ) (bs : List Bool) (ls : List Leaf) → all_fit n bs ls ≡ true → AllNumbered n ls
fit_numbered n [] [] h k lt = absurd (omega (arith, lt))
fit_numbered n [] (l ∷ ls) h k lt = never h
fit_numbered n (b ∷ bs) [] h k lt = never h
fit_numbered n (b ∷ bs) (l ∷ ls) h zero lt = name_numbered n b l.name (and_parts (leaf_fits n b l) (all_fit n bs ls) h).0
fit_numbered n (b ∷ bs) (l ∷ ls) h (suc k) lt = fit_numbered n bs ls (and_parts (leaf_fits n b l) (all_fit n bs ls) h).1 k (omega (arith, lt))

fit_long : (n : ℕ) (bs : List Bool) (ls : List Leaf) → all_fit n bs ls ≡ true → length ls ≡ length bs
fit_long n [] [] h = refl
fit_long n [] (l ∷ ls) h = never h
fit_long n (b ∷ bs) [] h = never h
fit_long n (b ∷ bs) (l ∷ ls) h = ap suc (fit_long n bs ls (and_parts (leaf_fits n b l) (all_fit n bs ls) h).1)

kinds_counted : (e : Shape) → length (leaf_kinds e) ≡ leaves e
kinds_counted (leaf b) = refl
kinds_counted (bracket s e) = kinds_counted e
kinds_counted (join l e f) = length-append (leaf_kinds e) (leaf_kinds f) ∙ ap₂ ◌+◌ (kinds_counted e) (kinds_counted f)

-- of a plan: its leaves are as many as its shape has, their names' numbers are below the number of names, which is at most
-- 128, and its items are at most 192
pub plan_leaves : (p : Plan) → length (vec_items p.leaves) ≡ leaves (shape_of p.tree)
plan_leaves p =
    let h = and_parts (leb p.names 128) (all_fit p.names (leaf_kinds (shape_of p.tree)) (vec_items p.leaves)) p.fitting in
    fit_long p.names (leaf_kinds (shape_of p.tree)) (vec_items p.leaves) h.1 ∙ kinds_counted (shape_of p.tree)

pub plan_numbered : (p : Plan) → AllNumbered p.names (vec_items p.leaves)
plan_numbered p =
    let h = and_parts (leb p.names 128) (all_fit p.names (leaf_kinds (shape_of p.tree)) (vec_items p.leaves)) p.fitting in
    fit_numbered p.names (leaf_kinds (shape_of p.tree)) (vec_items p.leaves) h.1

-- so they are below any greater number
pub numbered_below : (m n : ℕ) (ls : List Leaf) → m ≤ n → AllNumbered m ls → AllNumbered n ls
numbered_below m n ls l h k i = go (get_or ls k no_leaf).name (h k i)
  where
    go : (o : Option ℕ) → Numbered m o → Numbered n o
    go None b = tt
    go (Some j) b = omega (arith, b)

pub plan_names : (p : Plan) → p.names ≤ 128
plan_names p =
    let h = and_parts (leb p.names 128) (all_fit p.names (leaf_kinds (shape_of p.tree)) (vec_items p.leaves)) p.fitting in
    leb-true p.names 128 h.0

pub plan_items : (p : Plan) → items (shape_of p.tree) ≤ 192
plan_items p =
    let w = plan_limited p in
    omega (arith, items_are_counted (shape_of p.tree), w.leaf_number, w.bracket_number)
