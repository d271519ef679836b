use Rattle.std.proofs.Common.{arith}
use Rattle.plan.proofs.FittingLeaves.{plan_items}
use Rattle.plan.proofs.plan.Plan.counts.Goals as goal

pub item_count-items-requires : goal.item_count-items-requires
item_count-items-requires c = omega (arith, plan_items c.args.self.now)

pub overflow_mul-result : goal.overflow_mul-result
overflow_mul-result c = omega (arith, plan_items c.args.self.now, c.item_count-items.ensures)
