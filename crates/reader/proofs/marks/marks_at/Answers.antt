use Rattle.std.proofs.Common.{◌++◌, sym, ap, ◌∙◌, to_z-of_z, w16, SFits, rules}
use Rattle.std.proofs.lemmas.Result.{err_from_is_err_and}
use Rattle.text.specs.Bytes.{between}
use Rattle.grammar.specs.Written.{correction_text, bay_text}
use Rattle.reader.proofs.ReadingText.{between_append}
use Rattle.reader.proofs.marks.marks_at.Goals as goal

pub returns-in_err-correction-clause-read : goal.returns-in_err-correction-clause-read
returns-in_err-correction-clause-read c n k fs h s =
    let p = err_from_is_err_and c.from_residual.result c.from_residual.ensures.1 in
    rw (p.1, p.2) (c.in_err-correction.ensures.read n k fs h s)

pub returns-in_err-bay-clause-read : goal.returns-in_err-bay-clause-read
returns-in_err-bay-clause-read c n k fs h s =
    let p = err_from_is_err_and c.from_residual-in_err-bay.result c.from_residual-in_err-bay.ensures.1 in
    rw (p.1, p.2) (c.in_err-bay.ensures.read n k fs (c.in_ok-correction.ensures.read n k fs h s).0)

pub returns-clause-read : goal.returns-clause-read
returns-clause-read c n k fs h s =
    let t = c.args.text.now in
    let p = c.args.at in
    let a = c.in_ok-correction.ensures in
    let b = c.in_ok-bay.ensures in
    let fits : SFits w16 c.in_ok-correction.correction = search rules in
    let x = a.read n k fs h s in
    let y = b.read n k fs x.0 in (
      y.0,
      between_append t p c.in_ok-correction.to c.in_ok-bay.to a.onward.0 b.onward.0
          ∙ (ap (λ u. u ++ between t c.in_ok-correction.to c.in_ok-bay.to) x.1
          ∙ (ap (λ u. correction_text c.in_ok-correction.correction ++ u) y.1
          ∙ ap (λ z. correction_text z ++ bay_text c.in_ok-bay.bay) (sym (to_z-of_z fits)))),
    )
