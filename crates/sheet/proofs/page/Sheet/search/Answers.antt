use Rattle.std.proofs.Common.{length}
use Rattle.sheet.proofs.Answering.{ready_at}
use Rattle.sheet.proofs.Stamping.{all_below}
use Rattle.sheet.proofs.page.Sheet.search.Goals as goal

pub invariant_of-result : goal.invariant_of-result
invariant_of-result g c =
    let s = c.args.self.now in
    record {
      ready = ready_at s.plan.now c.rows.result c.leaves.result.now c.moves.result.now c.rows.ensures c.leaves.ensures c.moves.ensures (length s.names.now) c.requires.room;
      among = all_below (length s.names.now) c.args.stamps.now c.requires.among;
    }
