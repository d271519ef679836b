use Rattle.std.proofs.Common.{◌++◌, codes}
use Rattle.std.proofs.lemmas.Result.{err_from_is_err_and}
use Rattle.load.specs.Printed.{span_line, list_line}
use Rattle.load.proofs.Appending.{then_more, lacks_more, lacks_later, stop}
use Rattle.load.proofs.report.write_finished.Goals as goal

pub returns-in_err-number_line : goal.returns-in_err-number_line
returns-in_err-number_line c =
    let f = c.args.finished.now in
    let p = err_from_is_err_and c.from_residual-in_err-number_line.result c.from_residual-in_err-number_line.ensures.1 in
    stop _ c.args.out.now c.number_line.new.out c.from_residual-in_err-number_line.result p.0 p.1
    (lacks_later (span_line f.low f.high) (list_line (codes "bays") f.bays.now ++ list_line (codes "reading") f.reading.now) c.args.out.now c.write_span.new.out c.in_ok-write_span.ensures
    (lacks_more (list_line (codes "bays") f.bays.now) (list_line (codes "reading") f.reading.now) c.write_span.new.out (c.in_err-number_line.ensures (λ n. n) (λ x n e. e))))

pub returns : goal.returns
returns c =
    let f = c.args.finished.now in
    then_more (span_line f.low f.high) (list_line (codes "bays") f.bays.now ++ list_line (codes "reading") f.reading.now) c.args.out.now c.write_span.new.out c.number_line-2.new.out c.number_line-2.result
    c.in_ok-write_span.ensures
    (then_more (list_line (codes "bays") f.bays.now) (list_line (codes "reading") f.reading.now) c.write_span.new.out c.number_line.new.out c.number_line-2.new.out c.number_line-2.result
    (c.in_ok-number_line.ensures (λ n. n) (λ x n e. e)) (c.number_line-2.ensures (λ n. n) (λ x n e. e)))
