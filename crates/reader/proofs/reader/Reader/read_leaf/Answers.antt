use Rattle.std.proofs.Common.{◌≡◌, ◌+◌, true, length, sym, arith}
use Rattle.std.proofs.lemmas.Result.{err_from_is_err_and}
use Rattle.text.specs.Bytes.{name_byte}
use Rattle.reader.specs.Reading.{spot, next}
use Rattle.reader.proofs.Handing.{err_of_none}
use Rattle.reader.proofs.ReadingMarks.{too_many_leaves, name_leaf, name_stops}
use Rattle.reader.proofs.ReadingNames.{fresh_no_number}
use Rattle.reader.proofs.ReadingLeaves.{all_noted, room_left, no_item, named_here, named_read}
use Rattle.reader.proofs.reader.Reader.read_leaf.Goals as goal

pub returns-in_err-end-clause-read : goal.returns-in_err-end-clause-read
returns-in_err-end-clause-read c room fs h =
    let p = err_from_is_err_and c.from_residual.result c.from_residual.ensures.1 in
    let o = c.in_err-end.ensures in
    let d = rw o.ok_part at c.name_at.ensures in
    rw (p.1, p.2, err_of_none o.value o.ok_part)
    (no_item h (d (fresh_no_number c.args.self.now.text.now c.args.self.now.at fs c.requires.within h.state)) (sym c.if-stands.ensures.value) c.requires.item)

pub returns-then-is_full-clause-read : goal.returns-then-is_full-clause-read
returns-then-is_full-clause-read c room fs h =
    let n = rw c.in_ok-end.ensures.ok_part at c.name_at.ensures in
    let g = n.0 in
    let w = n.1 in
    let b : name_byte (next (spot c.args.self.now)) ≡ true = g.all c.args.self.now.at (omega arith) w in
    let i = g.within in
    too_many_leaves h (omega arith) (name_leaf (next (spot c.args.self.now)) b) (all_noted c.if-is_full.ensures.value)

pub returns-in_err-marks-clause-read : goal.returns-in_err-marks-clause-read
returns-in_err-marks-clause-read c room fs h =
    let n = rw c.in_ok-end.ensures.ok_part at c.name_at.ensures in
    let g = n.0 in
    let w = n.1 in
    let p = err_from_is_err_and c.from_residual-in_err-marks.result c.from_residual-in_err-marks.ensures.1 in
    rw (p.1, p.2) (c.in_err-marks.ensures.read (length c.args.self.now.drafts.items + 1) c.args.self.now.brackets fs (named_here c.args.self.now c.in_ok-end.end h (room_left c.if-is_full.ensures.value c.if-is_full.ensures.fits) g w) (name_stops _ _ _ g))

pub returns-clause-read : goal.returns-clause-read
returns-clause-read c room fs h =
    let n = rw c.in_ok-end.ensures.ok_part at c.name_at.ensures in
    let g = n.0 in
    let w = n.1 in
    let e = c.in_ok-marks.ensures in
    let x = e.read (length c.args.self.now.drafts.items + 1) c.args.self.now.brackets fs (named_here c.args.self.now c.in_ok-end.end h (room_left c.if-is_full.ensures.value c.if-is_full.ensures.fits) g w) (name_stops _ _ _ g) in
    named_read _ c.in_ok-end.end c.in_ok-marks.to room fs c.of_leaf.result c.note.ensures h g w e.onward.0 x.0 x.1 c.of_leaf.ensures
