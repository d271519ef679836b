use Rattle.load.proofs.Feeds.{lines_told}
use Rattle.load.proofs.lines.lines_told.Goals as goal

pub returns : goal.returns
returns c = lines_told
