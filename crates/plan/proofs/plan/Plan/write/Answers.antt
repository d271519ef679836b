use Rattle.std.proofs.Common.{length, vec_items, sym, ap, ◌∙◌, subst, arith}
use Rattle.plan.specs.Writes.{AllNumbered}
use Rattle.plan.proofs.FittingLeaves.{plan_leaves, plan_numbered, plan_names, numbered_below}
use Rattle.plan.proofs.plan.Plan.write.Goals as goal

pub write_tree-requires-clause-enough : goal.write_tree-requires-clause-enough
write_tree-requires-clause-enough g c = omega (arith, c.iter.ensures.len, ap length c.deref.ensures.value, plan_leaves c.args.self.now)

pub write_tree-requires-clause-named : goal.write_tree-requires-clause-named
write_tree-requires-clause-named g c =
    let p = c.args.self.now in
    subst (AllNumbered (length c.args.names.now)) (sym (c.iter.ensures.rest ∙ c.deref.ensures.value))
    (numbered_below p.names (length c.args.names.now) (vec_items p.leaves) (omega (arith, plan_names p, c.if-names-lt-NAMES.false)) (plan_numbered p))
