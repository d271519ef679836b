use Rattle.std.proofs.Common.{◌≡◌, ◌+◌, ◌*◌, ◌≤◌, map, take, vec_items}
use Rattle.plan.proofs.WritingTrees.{spaced}
use Rattle.plan.proofs.plan.Plan.text_length.Given as goal

abbrev pub invariant-loop-leaf : goal.invariant-loop-leaf
invariant-loop-leaf g l =
    (l.length ≡ l.initial.length + spaced (map g.K.Kind.text l.names) (take l.leaf-index (vec_items l.self.leaves))) × (l.length ≤ l.initial.length + 24 * l.leaf-index)
