use Rattle.plan.proofs.WritingTexts.{lengths_are_bounded}
use Rattle.plan.proofs.writing_laws.lengths_are_bounded.Goals as goal

pub returns : goal.returns
returns c = lengths_are_bounded
