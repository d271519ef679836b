use Rattle.std.proofs.Common.{◌+◌, ◌-◌, ◌*◌, length}
use Rattle.reader.proofs.reader.Reader.+reading.Given as goal

abbrev pub decreases-read_bracket : goal.decreases-read_bracket
decreases-read_bracket l = 8 * (length l.self.now.text.now - l.self.now.at) + 1

abbrev pub decreases-read_item : goal.decreases-read_item
decreases-read_item l = 8 * (length l.self.now.text.now - l.self.now.at) + 2

abbrev pub decreases-read_plan : goal.decreases-read_plan
decreases-read_plan l = 8 * (length l.self.now.text.now - l.self.now.at) + 3

abbrev pub decreases-read_plans : goal.decreases-read_plans
decreases-read_plans l = 8 * (length l.self.now.text.now - l.self.now.at) + 4
