use Rattle.std.proofs.Common.{◌≡◌, ◌+◌, ◌-◌, true, false, [], map, reverse, length, get_or, take, ◌∷◌, sym, ap, ◌∙◌, subst, add-one, arith}
use lib.ListN.{length-map}
use Rattle.std.proofs.lemmas.Grind.{common_steps}
use Rattle.std.proofs.lemmas.List.{length_push}
use Rattle.std.proofs.lemmas.Slice.Zip.{zip_turn}
use Rattle.engine.specs.Finish.{HasRows}
use Rattle.engine.specs.Fits.{fits, stamped}
use Rattle.engine.specs.Searches.{texts_of}
use Rattle.engine.specs.Ways.{Way}
use Rattle.engine.proofs.Fitted.{nothing_fits, stamped_from}
use Rattle.sheet.proofs.Checking.{read_more, not_read, stamp_here}
use Rattle.sheet.proofs.check.is_way.Goals as goal

pub returns-then-not-fits_leaf : goal.returns-then-not-fits_leaf
returns-then-not-fits_leaf g c =
    let text = g.K.Kind.text in
    let x = c.args.search.now in
    let texts = texts_of text x in
    let leaves = x.leaves.now in
    let stamps = c.args.stamps.now in
    let list = c.args.list.now in
    let i = length c.loop-stamp.yielded in
    let turn = zip_turn stamps list c.loop-stamp.yielded c.into_iter-stamp-iterator.result c.loop-stamp.stamp-iterator c.next.new.self c.next.result (grind (arith, common_steps)) (grind (arith, common_steps)) c.loop-stamp.yielded_by (c.in-Some.stamp, c.in-Some.l) c.in-Some.is c.next.ensures.steps in
    let size : length (map text stamps) ≡ length stamps = length-map stamps text in
    let stamp = stamp_here text stamps i c.in-Some.stamp.now turn.0 (turn.2 c.in-Some.stamp.now) in
    let unfit : fits texts leaves (get_or (map text stamps) i []) (get_or list i 0) ≡ false = ap (λ t. fits texts leaves t (get_or list i 0)) stamp ∙ ap (fits texts leaves (text c.in-Some.stamp.now)) (sym (turn.3 0)) ∙ sym c.if-not-fits_leaf.ensures in (
      (λ e. nothing_fits texts leaves e),
      (λ way. absurd (not_read texts leaves (map text stamps) list (x.rows - 1) i turn.1 (c.requires ∙ sym size) unfit
          (subst (λ n. Way x.moves.now (stamped texts leaves (map text stamps)) n (x.rows - 1) (reverse list)) (sym size) way))),
    )

pub loop-stamp-preserved : goal.loop-stamp-preserved
loop-stamp-preserved g c =
    let text = g.K.Kind.text in
    let x = c.args.search.now in
    let texts = texts_of text x in
    let leaves = x.leaves.now in
    let stamps = c.args.stamps.now in
    let list = c.args.list.now in
    let i = length c.loop-stamp.yielded in
    let turn = zip_turn stamps list c.loop-stamp.yielded c.into_iter-stamp-iterator.result c.loop-stamp.stamp-iterator c.next.new.self c.next.result (grind (arith, common_steps)) (grind (arith, common_steps)) c.loop-stamp.yielded_by (c.in-Some.stamp, c.in-Some.l) c.in-Some.is c.next.ensures.steps in
    let fit = stamped texts leaves (map text stamps) in
    let read = turn.3 0 in
    let stamp = stamp_here text stamps i c.in-Some.stamp.now turn.0 (turn.2 c.in-Some.stamp.now) in
    let ok : fit i c.in-Some.l.now ≡ true = stamped_from texts leaves (map text stamps) i c.in-Some.l.now (omega (arith, length-map stamps text, turn.0)) (ap (λ t. fits texts leaves t c.in-Some.l.now) stamp ∙ sym c.if-not-fits_leaf.ensures) in
    let come = c.rows_after-here.ensures.come fit i (reverse (take i list)) ok c.loop-stamp.invariant.1 in
    let rows = subst (λ l. HasRows x.moves.now fit x.rows (i + 1) (l ∷ reverse (take i list)) c.rows_after-here.result) read (subst (λ n. HasRows x.moves.now fit x.rows n (c.in-Some.l.now ∷ reverse (take i list)) c.rows_after-here.result) (sym (add-one i)) come) in
    let more : HasRows x.moves.now fit x.rows (i + 1) (reverse (take (i + 1) list)) c.rows_after-here.result = read_more x.moves.now fit x.rows list i c.rows_after-here.result turn.1 (subst (λ n. HasRows x.moves.now fit x.rows n (get_or list i 0 ∷ reverse (take i list)) c.rows_after-here.result) (add-one i) rows) in
    (c.rows_after-here.ensures.long, subst (λ n. HasRows x.moves.now fit x.rows n (reverse (take n list)) c.rows_after-here.result) (sym (length_push c.loop-stamp.yielded (c.in-Some.stamp, c.in-Some.l))) more)
