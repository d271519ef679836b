use Rattle.std.proofs.Common.{◌+◌, vec_items, ap, arith}
use Rattle.text.proofs.Runs.{inside, parting_more, parting_all}
use Rattle.text.proofs.part.parts.Goals as goal

pub loop-at-preserved : goal.loop-at-preserved
loop-at-preserved c =
    parting_more c.args.text.now (vec_items c.loop-at.list) (vec_items c.push.new.self) c.loop-at.at _ c.part_at-part.result
    c.loop-at-test.true c.part_at-part.ensures (ap (λ n. c.loop-at.at + n) c.size-at.ensures)
    c.in_ok-push.ensures.items c.loop-at.invariant
