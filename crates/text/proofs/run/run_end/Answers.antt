use Rattle.std.proofs.Common.{arith}
use Rattle.std.proofs.lemmas.Grind.{common_steps}
use Rattle.text.proofs.run.run_end.Goals as goal

pub loop-n-preserved : goal.loop-n-preserved
loop-n-preserved g c test by =
    let p = c.loop-n.invariant test by in
    let e = by _ _ c.passes.ensures in record {
      forward = omega arith;
      within = grind (arith, common_steps, p.within);
      all = λ k a b. grind (arith, common_steps, p.all k a, e);
    }
