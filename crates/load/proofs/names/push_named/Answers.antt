use Rattle.std.proofs.Common.{map}
use Rattle.std.proofs.lemmas.Result.{err_from_is_err_and}
use Rattle.load.specs.Printed.{named}
use Rattle.load.proofs.Appending.{stopped_all}
use Rattle.load.proofs.names.push_named.Goals as goal

pub returns-in_err-push_numbered : goal.returns-in_err-push_numbered
returns-in_err-push_numbered g c =
    let p = err_from_is_err_and c.from_residual.result c.from_residual.ensures.1 in
    stopped_all (named (map g.K.Kind.text c.args.names.now)) 0 c.args.out.now c.loop-n.out c.push_numbered.new.out c.args.list.now c.loop-n.n-index c.from_residual.result p.0 p.1
    c.loop-n-test.true c.loop-n.invariant c.in_err-push_numbered.ensures
