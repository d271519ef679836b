use Rattle.load.proofs.Feeds.{lines_walked}
use Rattle.load.proofs.trailer.lines_walked.Goals as goal

pub returns : goal.returns
returns c = lines_walked
