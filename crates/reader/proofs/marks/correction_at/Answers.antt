use Rattle.std.proofs.Common.{◌+◌, ◌<◌, length, get_or, sym, ap, ◌∙◌, arith, to_z-of_z, w16, SFits, rules, eqb-true}
use Rattle.std.proofs.lemmas.Result.{err_from_is_err_and}
use Rattle.text.specs.Bytes.{digit}
use Rattle.grammar.specs.Written.{correction_text}
use Rattle.reader.proofs.Handing.{err_of_none}
use Rattle.reader.proofs.ReadingParts.{run_longest}
use Rattle.reader.proofs.ReadingText.{correction_text_of}
use Rattle.reader.proofs.ReadingNumbers.{correction_from, correction_none, correction_wrong, correction_right}
use Rattle.reader.proofs.marks.correction_at.Goals as goal

pub returns-in_err-run-clause-read : goal.returns-in_err-run-clause-read
returns-in_err-run-clause-read c n k fs h _ =
    let e = eqb-true _ _ (sym c.if-not-stands.ensures.value) in
    let f = sym c.stands-minus.ensures.value in
    let g = ap (λ x. c.args.at + 1 + x) c.from.ensures in
    let l = correction_from c.args.text.now c.args.at _ e c.stands-minus.result f g in
    let r = err_from_is_err_and c.from_residual.result c.from_residual.ensures.1 in
    let o = c.in_err-run.ensures in
    let d = rw o.ok_part at c.digits_at.ensures in
    rw (r.1, r.2, err_of_none o.value o.ok_part) (correction_none c.args.text.now c.args.at _ e n k fs h c.stands-minus.result f g (d l.0 l.1))

pub returns-in_err-kilograms-clause-read : goal.returns-in_err-kilograms-clause-read
returns-in_err-kilograms-clause-read c n k fs h _ =
    let e = eqb-true _ _ (sym c.if-not-stands.ensures.value) in
    let f = sym c.stands-minus.ensures.value in
    let g = ap (λ x. c.args.at + 1 + x) c.from.ensures in
    let r = err_from_is_err_and c.from_residual-in_err-kilograms.result c.from_residual-in_err-kilograms.ensures.1 in
    let o = c.in_err-kilograms.ensures in
    let d = rw c.in_ok-run.ensures.ok_part at c.digits_at.ensures in
    let s = rw o.ok_part at c.correction.ensures in
    rw (r.1, r.2, err_of_none o.value o.ok_part) (correction_wrong c.args.text.now c.args.at _ e n k fs h c.stands-minus.result c.in_ok-run.run'.now f g d s)

pub returns-clause-read : goal.returns-clause-read
returns-clause-read c n k fs h _ =
    let t = c.args.text.now in
    let p = c.args.at in
    let w = c.in_ok-run.run'.now in
    let e = eqb-true (get_or t p 0) 58 (sym c.if-not-stands.ensures.value) in
    let f = sym c.stands-minus.ensures.value in
    let g = ap (λ x. p + 1 + x) c.from.ensures in
    let r = rw c.in_ok-run.ensures.ok_part at c.digits_at.ensures in
    let s = rw c.in_ok-kilograms.ensures.ok_part at c.correction.ensures in
    let i = run_longest digit t (p + 1 + c.from.result) w r in
    let j = i.0.within in
    let fits : SFits w16 c.in_ok-kilograms.kilograms = search rules in
    let l : p + 1 < length t = omega arith in (
      correction_right t p _ e n k fs h c.stands-minus.result w f g r s.0,
      correction_text_of c.stands-minus.result t p _ w c.in_ok-kilograms.kilograms l e f g r s.0 s.1 ∙ ap correction_text (sym (to_z-of_z fits)),
    )
