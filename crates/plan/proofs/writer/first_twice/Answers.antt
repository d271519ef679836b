use Rattle.std.proofs.Common.{true, false, map, Decides, rules}
use Rattle.std.proofs.lemmas.Iterator.{first_from_Range}
use Rattle.plan.specs.Writes.{StandsTwice}
use Rattle.plan.proofs.WritingNames.{first_decides}
use Rattle.plan.proofs.writer.first_twice.Goals as goal

pub returns : goal.returns
returns g c =
    let texts = map g.K.Kind.text c.args.names.now in
    first_decides texts c.args.count c.find.result
    (first_from_Range _ _ _ c.find.result (λ n. Decides true (StandsTwice texts n)) (λ n. Decides false (StandsTwice texts n)) c.find.ensures.ran
    (λ x q k. search rules) (λ x q k. search rules))
