use Rattle.load.proofs.Endings.{one_trailer}
use Rattle.load.proofs.trailer.one_trailer.Goals as goal

pub returns : goal.returns
returns c = one_trailer
