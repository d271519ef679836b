use Rattle.std.proofs.Common.{◌≡◌, map, reverse, length, take}
use Rattle.engine.specs.Finish.{HasRows}
use Rattle.engine.specs.Fits.{stamped}
use Rattle.engine.specs.Searches.{texts_of}
use Rattle.sheet.proofs.check.is_way.Given as goal

abbrev pub invariant-loop-stamp : goal.invariant-loop-stamp
invariant-loop-stamp g l =
    (length l.here ≡ 256)
    × HasRows l.search.moves.now (stamped (texts_of g.K.Kind.text l.search) l.search.leaves.now (map g.K.Kind.text l.stamps)) l.search.rows (length l.yielded) (reverse (take (length l.yielded) l.list)) l.here
