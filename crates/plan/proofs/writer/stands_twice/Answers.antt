use Rattle.plan.proofs.WritingNames.{twice_decides}
use Rattle.plan.proofs.writer.stands_twice.Goals as goal

pub returns : goal.returns
returns g c =
    twice_decides g.K.Kind.text c.args.names.now c.args.n c.index-names-n.result c.requires c.index-names-n.is c.find.result c.is_some.result c.is_some.ensures c.find.ensures
