use Rattle.text.proofs.Entries.{Gathered}
use Rattle.text.proofs.directory.gather.Given as goal

abbrev pub invariant-loop-x : goal.invariant-loop-x
invariant-loop-x g l = Gathered g.K.Kind.text l.list l.initial.names l.names l.len l.x-index
