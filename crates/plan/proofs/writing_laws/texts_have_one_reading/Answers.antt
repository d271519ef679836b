use Rattle.plan.proofs.WritingOnce.{one_reading}
use Rattle.plan.proofs.writing_laws.texts_have_one_reading.Goals as goal

pub returns : goal.returns
returns c = one_reading
