use Rattle.std.proofs.Common.{sym, ◌∙◌, arith}
use Rattle.load.proofs.Endings.{no_trailer_plan, no_trailer_stamps, no_trailer_count, trailer_from}
use Rattle.load.proofs.trailer.trailer_of.Goals as goal

pub returns-in_err-four_digits : goal.returns-in_err-four_digits
returns-in_err-four_digits c = rw c.from_residual.ensures (no_trailer_plan c.args.tail.now c.in_err-four_digits.ensures)

pub returns-in_err-four_digits-2 : goal.returns-in_err-four_digits-2
returns-in_err-four_digits-2 c = rw c.from_residual-in_err-four_digits-2.ensures (no_trailer_stamps c.args.tail.now c.in_err-four_digits-2.ensures)

pub returns-in_err-four_digits-3 : goal.returns-in_err-four_digits-3
returns-in_err-four_digits-3 c = rw c.from_residual-in_err-four_digits-3.ensures (no_trailer_count c.args.tail.now c.in_err-four_digits-3.ensures)

pub returns : goal.returns
returns c =
    trailer_from c.args.tail.now c.in_ok-four_digits.field-0 c.in_ok-four_digits-2.field-0 c.in_ok-four_digits-3.field-0 (omega arith)
    (sym c.is_ruled.ensures ∙ c.if-not-is_ruled.false) c.in_ok-four_digits.ensures c.in_ok-four_digits-2.ensures c.in_ok-four_digits-3.ensures
