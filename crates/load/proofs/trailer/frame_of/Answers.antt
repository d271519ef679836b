use Rattle.std.proofs.Common.{Err, MatchOption, sym, ap, ◌∙◌, subst, arith}
use Rattle.std.specs.Option.{ok_or}
use Rattle.std.proofs.lemmas.Result.{err_from_is_err_and}
use Rattle.text.specs.Bools.{clash}
use Rattle.load.specs.Files.{Trailer, Framed}
use Rattle.load.specs.declared.trailer.Frame.{Frame}
use Rattle.load.specs.declared.trailer.FileRefusal.TheVariants.{Malformed}
use Rattle.load.proofs.Endings.{last_bytes, ends_from, last_trailer}
use Rattle.load.proofs.trailer.frame_of.Goals as goal

pub returns-in_err-frame : goal.returns-in_err-frame
returns-in_err-frame c =
    let file = c.args.file.now in
    let tail = last_bytes file in
    let p = err_from_is_err_and c.from_residual.result c.from_residual.ensures.1 in
    let none = subst (λ o. MatchOption o ((t : Frame) → Trailer tail t → ⊥) (λ t. Trailer tail t)) c.in_err-frame.ensures.ok_part c.trailer_of.ensures in
    let e = c.in_err-frame.ensures.value ∙ ap (λ o. ok_or o Malformed) c.in_err-frame.ensures.ok_part in
    subst (Framed file) (sym (p.1 ∙ (ap Err p.2 ∙ e))) (λ t d. none t (last_trailer file t d))

pub returns-then-fits : goal.returns-then-fits
returns-then-fits c =
    let tail = last_bytes c.args.file.now in
    let t = subst (λ o. MatchOption o ((t : Frame) → Trailer tail t → ⊥) (λ t. Trailer tail t)) c.in_ok-frame.ensures.ok_part c.trailer_of.ensures in
    (ends_from c.args.file.now c.in_ok-frame.frame (omega arith) t, c.fits.ensures.0 c.if-fits.true)

pub returns-else-fits : goal.returns-else-fits
returns-else-fits c =
    let tail = last_bytes c.args.file.now in
    let t = subst (λ o. MatchOption o ((t : Frame) → Trailer tail t → ⊥) (λ t. Trailer tail t)) c.in_ok-frame.ensures.ok_part c.trailer_of.ensures in
    (c.in_ok-frame.frame, ends_from c.args.file.now c.in_ok-frame.frame (omega arith) t, λ f. clash (c.fits.ensures.1 f) c.if-fits.false)
