use Rattle.std.proofs.Common.{◌-◌, length}
use Rattle.show.specs.Lines.{in_line}
use Rattle.text.proofs.Runs.{Running}
use Rattle.show.proofs.lines.line_end.Given as goal

abbrev pub invariant-loop-end : goal.invariant-loop-end
invariant-loop-end l = Running in_line l.text l.from l.end

abbrev pub decreases-loop-end : goal.decreases-loop-end
decreases-loop-end l = length l.text - l.end
