use Rattle.std.proofs.Common.{subst}
use Rattle.load.specs.Printed.{Appends, refusal_line}
use Rattle.load.proofs.report.write_refusal.Goals as goal

pub returns : goal.returns
returns c =
    subst (λ n. Appends (refusal_line n c.args.place) c.args.out.now c.number_line.new.out c.number_line.result) c.from.ensures
    (c.number_line.ensures (λ n. n) (λ x n e. e))
