use Rattle.std.proofs.Common.{map, Ok, refl}
use Rattle.load.specs.JudgementLines.{judgement_bytes}
use Rattle.load.proofs.Verdicts.{prints, prints_refused}
use Rattle.load.proofs.gate.print_judged.Goals as goal

pub returns-in-Ok : goal.returns-in-Ok
returns-in-Ok g c =
    let j = c.in-Ok.judgement in
    prints g.K.Kind.text g.K.Kind.has _ _ c.judge.new.names c.judge.new.plan _ c.judge.new.reading _ c.judge.new.next _ (Ok j)
    (judgement_bytes c.judge.new.reading (map g.K.Kind.text c.judge.new.names) c.judge.new.next j)
    c.in-Ok.ensures.answer refl c.args.out.now c.write_judgement.new.out c.write_judgement.result c.write_judgement.ensures

pub returns-in-Err-Refused : goal.returns-in-Err-Refused
returns-in-Err-Refused g c =
    prints_refused g.K.Kind.text g.K.Kind.has _ _ c.judge.new.names c.judge.new.plan _ c.judge.new.reading _ c.judge.new.next _ c.in-Err-Refused.field-0 c.in-Err-Refused.refusal
    c.in-Err-Refused.field-0-is c.in-Err-Refused.ensures.answer c.args.out.now c.write_refused.new.out c.write_refused.result c.write_refused.ensures
