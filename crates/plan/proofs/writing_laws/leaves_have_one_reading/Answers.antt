use Rattle.plan.proofs.WritingLeaves.{one_leaf_reading}
use Rattle.plan.proofs.writing_laws.leaves_have_one_reading.Goals as goal

pub returns : goal.returns
returns c = one_leaf_reading
