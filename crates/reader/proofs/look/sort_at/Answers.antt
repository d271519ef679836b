use Rattle.reader.proofs.ReadingParts.{no_bracket}
use Rattle.reader.proofs.look.sort_at.Goals as goal

pub returns-in_default : goal.returns-in_default
returns-in_default c = no_bracket c.args.text.now c.args.at c.part_at.result c.part_at.ensures c.in_default.not-Mark
