use Rattle.std.proofs.Common.{◌≡◌, length, vec_items}
use Rattle.reader.specs.Entering.{Entered}
use Rattle.reader.specs.Reading.{drafts_of}
use Rattle.reader.proofs.entering.enter_all.Given as goal

abbrev pub invariant-loop-i : goal.invariant-loop-i
invariant-loop-i g l = (length (vec_items l.leaves) ≡ length (drafts_of l.reader)) × Entered g.K.Kind.text l.reader.text.now (drafts_of l.reader) l.initial.names l.names (vec_items l.leaves) l.count l.i
