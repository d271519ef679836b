use Rattle.std.proofs.Common.{◌-◌, length}
use Rattle.load.specs.Files.{no_feed}
use Rattle.text.proofs.Runs.{Running}
use Rattle.load.proofs.lines.feed_from.Given as goal

abbrev pub invariant-loop-end : goal.invariant-loop-end
invariant-loop-end l = Running no_feed l.body l.at l.end

abbrev pub decreases-loop-end : goal.decreases-loop-end
decreases-loop-end l = length l.body - l.end
