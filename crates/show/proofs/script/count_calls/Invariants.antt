use Rattle.std.proofs.Common.{◌≡◌, ◌+◌, ◌≤◌}
use Rattle.show.proofs.Told.{Counting}
use Rattle.show.proofs.script.count_calls.Given as goal

abbrev pub invariant-loop-line : goal.invariant-loop-line
invariant-loop-line g l =
    (l.line-iterator.text.now ≡ l.text)
    × (l.count + l.from ≤ l.line-iterator.at)
    × Counting g.K.Kind.text g.K.Kind.has l.text l.from l.line-iterator.at l.count
