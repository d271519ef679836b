use Rattle.layout.proofs.Outlining.{outlines_are_whole}
use Rattle.layout.proofs.outline.outlines_are_whole.Goals as goal

pub returns : goal.returns
returns c = outlines_are_whole
