use Rattle.std.proofs.Common.{map, take}
use Rattle.std.specs.List.{flat_map}
use Rattle.load.specs.Printed.{Put, named}
use Rattle.load.proofs.names.push_named.Given as goal

abbrev pub invariant-loop-n : goal.invariant-loop-n
invariant-loop-n g l = Put (flat_map (named (map g.K.Kind.text l.names)) (take l.n-index l.list)) l.initial.out l.out
