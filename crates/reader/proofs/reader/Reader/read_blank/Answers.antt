use Rattle.std.proofs.Common.{ap, arith}
use Rattle.grammar.specs.Faults.{leaf_byte}
use Rattle.reader.specs.Reading.{spot}
use Rattle.reader.proofs.ReadingMoves.{stands_within}
use Rattle.reader.proofs.ReadingMarks.{too_many_leaves}
use Rattle.reader.proofs.ReadingLeaves.{all_noted, room_left, blank_read}
use Rattle.reader.proofs.reader.Reader.read_blank.Goals as goal

pub returns-then-is_full-clause-read : goal.returns-then-is_full-clause-read
returns-then-is_full-clause-read c room fs h =
    let w = stands_within (spot c.args.self.now) (omega (arith, c.requires)) in
    too_many_leaves h w (ap leaf_byte c.requires) (all_noted c.if-is_full.ensures.value)

pub returns-clause-read : goal.returns-clause-read
returns-clause-read c room fs h =
    let w = stands_within (spot c.args.self.now) (omega (arith, c.requires)) in
    blank_read _ room fs c.of_leaf.result c.note.ensures h c.requires (room_left c.if-is_full.ensures.value c.if-is_full.ensures.fits) c.of_leaf.ensures
