use Rattle.reader.proofs.ReadingMerged.{merged}
use Rattle.reader.proofs.judgement.first_refusal.Goals as goal

pub returns : goal.returns
returns g c =
    merged g.K.Kind.has c.args.text.now c.args.found c.map_or.result c.limit.result c.first_unnamed.result c.requires c.limit.ensures c.first_unnamed.ensures c.map_or.ensures
