use Rattle.std.proofs.Common.{length, take, sym, ◌∙◌, ap, ap₂, arith, rules}
use Rattle.engine.specs.Scales.{bays_of}
use Rattle.load.proofs.Members.{no_member, list_member, list_other}
use Rattle.load.proofs.printing.list_bays.Goals as goal
use Rattle.load.proofs.printing.list_bays.Goals.{then-holds, else-holds}

pub loop-bay-init : goal.loop-bay-init
loop-bay-init c = record { long = search rules; few = omega arith; listed = no_member (bays_of c.args.bays.now) }

pub loop-bay-preserved : goal.loop-bay-preserved
loop-bay-preserved c =
    let s = bays_of c.args.bays.now in
    elim c.if-holds.branch [
      | then-holds w ↦ record {
        long = search rules;
        few = omega (arith, w.count-is, c.loop-bay.invariant.few);
        listed = ap₂ take w.count-is w.list-is
            ∙ list_member s c.loop-bay.bay _ c.loop-bay.list c.loop-bay.count (sym c.holds.ensures ∙ w.if-holds.true) w.from.ensures (omega (arith, c.loop-bay.invariant.few, c.loop-bay.invariant.long, c.loop-bay-test.true)) c.loop-bay.invariant.listed;
      }
      | else-holds w ↦ record {
        long = ap length w.list-is ∙ c.loop-bay.invariant.long;
        few = omega (arith, w.count-is, c.loop-bay.invariant.few);
        listed = ap₂ take w.count-is w.list-is ∙ list_other s c.loop-bay.bay c.loop-bay.list c.loop-bay.count (sym c.holds.ensures ∙ w.if-holds.false) c.loop-bay.invariant.listed;
      }
    ]
