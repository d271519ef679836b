use Rattle.std.proofs.Common.{subst, sym}
use Rattle.text.specs.Directory.{Gathers}
use Rattle.text.proofs.Entries.{known_step, new_step, full_step, all_steps}
use Rattle.text.proofs.directory.gather.Goals.{in-New, in_default}
use Rattle.text.proofs.directory.gather.Goals as goal

pub returns-in_err-n : goal.returns-in_err-n
returns-in_err-n g c =
    subst (Gathers g.K.Kind.text c.args.list.now c.args.names.now c.add.new.names) (sym c.from_residual.ensures)
    (full_step g.K.Kind.text c.args.list.now c.args.names.now c.loop-x.names c.loop-x.len c.loop-x.x-index c.loop-x.invariant
    c.add.new.names c.x-item.result c.loop-x-test.true c.x-item.is c.loop-x.auto.names c.in_err-n.ensures)

pub loop-x-preserved : goal.loop-x-preserved
loop-x-preserved g c =
    elim c.match-branch-2.branch [
      | in-New w ↦
          new_step g.K.Kind.text c.args.list.now c.args.names.now c.loop-x.names c.loop-x.len c.loop-x.x-index c.loop-x.invariant
          c.add.new.names c.x-item.result c.in_ok-n.field-0 w.in-New.n c.match-branch-2.len
          c.loop-x-test.true c.x-item.is c.in_ok-n.ensures w.in-New.is w.len-is
      | in_default w ↦
          known_step g.K.Kind.text c.args.list.now c.args.names.now c.loop-x.names c.loop-x.len c.loop-x.x-index c.loop-x.invariant
          c.add.new.names c.x-item.result c.in_ok-n.field-0 w.in_default.field-0 c.match-branch-2.len
          c.loop-x-test.true c.x-item.is c.in_ok-n.ensures w.in_default.is w.len-is
    ]
