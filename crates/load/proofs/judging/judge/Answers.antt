use Rattle.std.proofs.Common.{length, Err, sym, ap, ◌∙◌, subst}
use Rattle.std.proofs.lemmas.Result.{err_from_is_err_and}
use Rattle.load.specs.Judged.{Judging, lent_short}
use Rattle.load.proofs.Verdicts.{judged, none_short, some_short}
use Rattle.load.proofs.judging.judge.Goals as goal

pub judge_stamps-requires : goal.judge_stamps-requires
judge_stamps-requires g c =
    ap (λ n. lent_short n (length c.args.reading.now) (length c.args.next.now) (length c.args.numbers.now) (length c.args.amounts.now)) c.open_file.auto.names
    ∙ none_short (lent_short (length c.args.names.now) (length c.args.reading.now) (length c.args.next.now) (length c.args.numbers.now) (length c.args.amounts.now)) c.in_ok-long_enough.ensures

pub returns-in_err-long_enough-clause-answer : goal.returns-in_err-long_enough-clause-answer
returns-in_err-long_enough-clause-answer g c =
    let p = err_from_is_err_and c.from_residual.result c.from_residual.ensures.1 in
    subst (Judging _ _ _ _ _ _ _ _ _ _ _) (sym (p.1 ∙ ap Err p.2))
    (some_short g.K.Kind.text g.K.Kind.has c.args.file.now c.args.names.now c.args.names.now c.args.plan.now _ _ _ _ _ c.in_err-long_enough.field-0.0 c.in_err-long_enough.ensures)

pub returns-clause-answer : goal.returns-clause-answer
returns-clause-answer g c =
    judged g.K.Kind.text g.K.Kind.has c.args.file.now c.args.names.now c.open_file.new.names c.open_file.new.plan
    _ _ _ _ _ c.in_ok-opening.opening c.judge_stamps.result (none_short _ c.in_ok-long_enough.ensures) c.in_ok-opening.ensures c.judge_stamps.ensures
