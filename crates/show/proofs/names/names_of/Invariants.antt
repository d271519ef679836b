use Rattle.std.proofs.Common.{◌≡◌, replicate}
use Rattle.show.proofs.names.names_of.Given as goal

abbrev pub invariant-loop : goal.invariant-loop
invariant-loop g l = l.names.items ≡ replicate l.counter l.name
