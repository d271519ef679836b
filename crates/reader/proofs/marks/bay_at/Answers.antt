use Rattle.std.proofs.Common.{◌+◌, sym, refl, arith, eqb-true}
use Rattle.std.proofs.lemmas.Result.{err_from_is_err_and}
use Rattle.text.specs.Bytes.{digit}
use Rattle.reader.proofs.ReadingParts.{run_longest}
use Rattle.reader.proofs.ReadingText.{bay_text_of, may_begin}
use Rattle.reader.proofs.ReadingMarks.{bay_opens, bay_none}
use Rattle.reader.proofs.ReadingNumbers.{byte_within, bay_wrong_there, bay_right_there}
use Rattle.reader.proofs.Handing.{err_of_none}
use Rattle.reader.proofs.marks.bay_at.Goals as goal

pub returns-in_err-run-clause-read : goal.returns-in_err-run-clause-read
returns-in_err-run-clause-read c n k fs h =
    let t = c.args.text.now in
    let p = c.args.at in
    let e = eqb-true _ _ (sym c.if-not-stands.ensures.value) in
    let l = byte_within t p (omega arith) in
    let r = err_from_is_err_and c.from_residual.result c.from_residual.ensures.1 in
    let o = c.in_err-run.ensures in
    let d = rw o.ok_part at c.digits_at.ensures in
    rw (r.1, r.2, err_of_none o.value o.ok_part) (bay_none (bay_opens h e) (d (omega arith) (may_begin t p 64 e refl)))

pub returns-in_err-number-clause-read : goal.returns-in_err-number-clause-read
returns-in_err-number-clause-read c n k fs h =
    let e = eqb-true _ _ (sym c.if-not-stands.ensures.value) in
    let r = err_from_is_err_and c.from_residual-in_err-number.result c.from_residual-in_err-number.ensures.1 in
    let o = c.in_err-number.ensures in
    let d = rw c.in_ok-run.ensures.ok_part at c.digits_at.ensures in
    let s = rw o.ok_part at c.bay.ensures in
    rw (r.1, r.2, err_of_none o.value o.ok_part) (bay_wrong_there c.args.text.now c.args.at n k fs h e c.in_ok-run.run'.now d s)

pub returns-clause-read : goal.returns-clause-read
returns-clause-read c n k fs h =
    let t = c.args.text.now in
    let p = c.args.at in
    let w = c.in_ok-run.run'.now in
    let e = eqb-true _ _ (sym c.if-not-stands.ensures.value) in
    let r = rw c.in_ok-run.ensures.ok_part at c.digits_at.ensures in
    let s = rw c.in_ok-number.ensures.ok_part at c.bay.ensures in
    let i = run_longest digit t (p + 1) w r in
    let l = byte_within t p (omega arith) in
    (bay_right_there t p n k fs h e w r s.0, bay_text_of t p w _ l e r s.0 s.1)
