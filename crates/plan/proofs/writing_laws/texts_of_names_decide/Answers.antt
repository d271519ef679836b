use Rattle.plan.proofs.WritingTexts.{names_decide}
use Rattle.plan.proofs.writing_laws.texts_of_names_decide.Goals as goal

pub returns : goal.returns
returns c = names_decide
