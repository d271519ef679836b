use Rattle.std.proofs.Common.{ap, ◌∙◌, subst}
use Rattle.std.proofs.lemmas.Result.{err_from_is_err_and}
use Rattle.load.specs.Printed.{Put, Lacks, field}
use Rattle.load.proofs.Appending.{put_more, put_all, stopped_all}
use Rattle.load.proofs.print.push_numbers.Goals as goal

pub returns-in_err-push_field : goal.returns-in_err-push_field
returns-in_err-push_field g c worth h =
    let p = err_from_is_err_and c.from_residual.result c.from_residual.ensures.1 in
    let e = h c.n-item.result c.into.result c.into.ensures ∙ ap worth c.n-item.is in
    stopped_all (λ x. field (worth x)) c.n-item.result c.args.out.now c.loop-n.out c.push_field.new.out c.args.numbers.now c.loop-n.n-index c.from_residual.result p.0 p.1
    c.loop-n-test.true (c.loop-n.invariant worth h) (subst (λ n. Lacks (field n) c.loop-n.out) e c.in_err-push_field.ensures)

pub loop-n-preserved : goal.loop-n-preserved
loop-n-preserved g c worth h =
    let e = h c.n-item.result c.into.result c.into.ensures ∙ ap worth c.n-item.is in
    put_more (λ x. field (worth x)) c.n-item.result c.args.out.now c.loop-n.out c.push_field.new.out c.args.numbers.now c.loop-n.n-index
    c.loop-n-test.true (c.loop-n.invariant worth h) (subst (λ n. Put (field n) c.loop-n.out c.push_field.new.out) e c.in_ok-push_field.ensures)

pub returns : goal.returns
returns g c worth h =
    put_all (λ x. field (worth x)) c.args.out.now c.loop-n.out c.args.numbers.now c.loop-n.n-index c.loop-n-test.false (c.loop-n.invariant worth h)
