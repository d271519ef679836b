use Rattle.std.proofs.Common.{◌≡◌, ◌<◌, length, map, take, vec_items, vec_len, ap, arith, rules}
use Rattle.std.proofs.lemmas.List.{take_all}
use Rattle.layout.specs.Tree.{shape_of}
use Rattle.plan.proofs.FittingLeaves.{plan_leaves, plan_numbered, plan_items, numbered_below}
use Rattle.plan.proofs.WritingTrees.{spaced, whole_length}
use Rattle.meaning.proofs.Limited.{items_are_counted}
use Rattle.plan.proofs.plan.Plan.text_length.Goals as goal

pub item_count-requires : goal.item_count-requires
item_count-requires g c = omega (arith, plan_items c.args.self.now)

pub overflow_sub-brackets : goal.overflow_sub-brackets
overflow_sub-brackets g c =
    let p = c.args.self.now in
    let n : vec_len p.leaves ≡ length (vec_items p.leaves) = search rules in
    omega (arith, c.item_count.ensures, c.len.ensures, n, plan_leaves p, items_are_counted (shape_of p.tree))

pub overflow_mul-length : goal.overflow_mul-length
overflow_mul-length g c = omega (arith, c.item_count.ensures, plan_items c.args.self.now)

pub leaf_length-requires : goal.leaf_length-requires
leaf_length-requires g c =
    let p = c.args.self.now in
    let v = c.deref-leaf-items.ensures.value in
    let w : c.loop-leaf.leaf-index < length (vec_items p.leaves) = omega (arith, ap length v, c.loop-leaf-test.true) in
    rw v (numbered_below p.names (length c.args.names.now) (vec_items p.leaves) c.requires (plan_numbered p) c.loop-leaf.leaf-index w)

pub overflow_add-length-in-loop-leaf : goal.overflow_add-length-in-loop-leaf
overflow_add-length-in-loop-leaf g c =
    let p = c.args.self.now in
    omega (
      arith,
      c.item_count.ensures,
      c.loop-leaf.invariant.1,
      c.loop-leaf-test.true,
      c.leaf_length.ensures.small,
      ap length c.deref-leaf-items.ensures.value,
      plan_leaves p,
      plan_items p,
      items_are_counted (shape_of p.tree),
    )

pub overflow_sub-result : goal.overflow_sub-result
overflow_sub-result g c =
    let p = c.args.self.now in
    let texts = map g.K.Kind.text c.args.names.now in
    let ls = vec_items p.leaves in
    let n : vec_len p.leaves ≡ length ls = search rules in
    let all : spaced texts (take c.loop-leaf.leaf-index ls) ≡ spaced texts ls = ap (spaced texts) (take_all c.loop-leaf.leaf-index ls (omega (arith, ap length c.deref-leaf-items.ensures.value, c.loop-leaf-test.false))) in
    omega (arith, c.loop-leaf.invariant.0, all, whole_length texts (shape_of p.tree) ls (plan_leaves p), c.item_count.ensures, c.len.ensures, n)

pub returns : goal.returns
returns g c =
    let p = c.args.self.now in
    let texts = map g.K.Kind.text c.args.names.now in
    let ls = vec_items p.leaves in
    let n : vec_len p.leaves ≡ length ls = search rules in
    let all : spaced texts (take c.loop-leaf.leaf-index ls) ≡ spaced texts ls = ap (spaced texts) (take_all c.loop-leaf.leaf-index ls (omega (arith, ap length c.deref-leaf-items.ensures.value, c.loop-leaf-test.false))) in
    omega (arith, c.loop-leaf.invariant.0, all, whole_length texts (shape_of p.tree) ls (plan_leaves p), c.item_count.ensures, c.len.ensures, n)
