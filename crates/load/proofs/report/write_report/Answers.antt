use Rattle.std.proofs.Common.{◌++◌, ap}
use Rattle.std.proofs.lemmas.Result.{err_from_is_err_and}
use Rattle.load.specs.Printed.{plan_line, stamps_line, finished_lines}
use Rattle.load.proofs.Appending.{then_more, lacks_more, lacks_later, stop, retold}
use Rattle.load.proofs.report.write_report.Goals as goal

pub returns-in_err-number_line : goal.returns-in_err-number_line
returns-in_err-number_line c =
    let r = c.args.report.now in
    let p = err_from_is_err_and c.from_residual.result c.from_residual.ensures.1 in
    stop _ c.args.out.now c.number_line.new.out c.from_residual.result p.0 p.1
    (lacks_more (plan_line r) (stamps_line r ++ finished_lines r.finished) c.args.out.now (c.in_err-number_line.ensures (λ n. n) (λ x n e. e)))

pub returns-in_err-number_line-2 : goal.returns-in_err-number_line-2
returns-in_err-number_line-2 c =
    let r = c.args.report.now in
    let p = err_from_is_err_and c.from_residual-in_err-number_line-2.result c.from_residual-in_err-number_line-2.ensures.1 in
    stop _ c.args.out.now c.number_line-2.new.out c.from_residual-in_err-number_line-2.result p.0 p.1
    (lacks_later (plan_line r) (stamps_line r ++ finished_lines r.finished) c.args.out.now c.number_line.new.out (c.in_ok-number_line.ensures (λ n. n) (λ x n e. e))
    (lacks_more (stamps_line r) (finished_lines r.finished) c.number_line.new.out (c.in_err-number_line-2.ensures (λ n. n) (λ x n e. e))))

pub returns-in-Some : goal.returns-in-Some
returns-in-Some c =
    let r = c.args.report.now in
    then_more (plan_line r) (stamps_line r ++ finished_lines r.finished) c.args.out.now c.number_line.new.out c.write_finished.new.out c.write_finished.result
    (c.in_ok-number_line.ensures (λ n. n) (λ x n e. e))
    (then_more (stamps_line r) (finished_lines r.finished) c.number_line.new.out c.number_line-2.new.out c.write_finished.new.out c.write_finished.result
    (c.in_ok-number_line-2.ensures (λ n. n) (λ x n e. e))
    (retold (finished_lines r.finished) _ c.number_line-2.new.out c.write_finished.new.out c.write_finished.result (ap finished_lines c.in-Some.is) c.write_finished.ensures))

pub returns-in-None : goal.returns-in-None
returns-in-None c =
    let r = c.args.report.now in
    then_more (plan_line r) (stamps_line r ++ finished_lines r.finished) c.args.out.now c.number_line.new.out c.push_text.new.out c.push_text.result
    (c.in_ok-number_line.ensures (λ n. n) (λ x n e. e))
    (then_more (stamps_line r) (finished_lines r.finished) c.number_line.new.out c.number_line-2.new.out c.push_text.new.out c.push_text.result
    (c.in_ok-number_line-2.ensures (λ n. n) (λ x n e. e))
    (retold (finished_lines r.finished) _ c.number_line-2.new.out c.push_text.new.out c.push_text.result (ap finished_lines c.in-None.is) c.push_text.ensures))
