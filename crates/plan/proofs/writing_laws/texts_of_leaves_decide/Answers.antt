use Rattle.plan.proofs.WritingTexts.{leaves_decide}
use Rattle.plan.proofs.writing_laws.texts_of_leaves_decide.Goals as goal

pub returns : goal.returns
returns c = leaves_decide
