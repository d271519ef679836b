use Rattle.plan.proofs.WritingBack.{written_back}
use Rattle.plan.proofs.writing_laws.texts_are_written_back.Goals as goal

pub returns : goal.returns
returns g c = written_back g.K.Kind.text g.K.Kind.has
