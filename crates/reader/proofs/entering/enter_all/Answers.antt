use Rattle.std.proofs.Common.{◌<◌, length, get_or, vec_items, sym, refl, ap, ◌∙◌, arith}
use Rattle.std.proofs.lemmas.List.{length-set, get_or_default}
use Rattle.reader.specs.Drafts.{no_draft}
use Rattle.reader.specs.Reading.{drafts_of}
use Rattle.reader.proofs.ReadingEntered.{entered_more, named_at}
use Rattle.reader.proofs.entering.enter_all.Goals as goal

pub enter-more-requires-clause-named : goal.enter-more-requires-clause-named
enter-more-requires-clause-named g c =
    let r = c.args.reader.now in
    let v = c.as_slice-drafts.ensures.value in
    let w : c.loop-i.i < length (drafts_of r) = omega (arith, ap length v, c.loop-i-test.true) in
    rw v (named_at g.K.Kind.has r.text.now (drafts_of r) c.loop-i.i no_draft c.requires.named w)

pub loop-i-preserved : goal.loop-i-preserved
loop-i-preserved g c =
    let r = c.args.reader.now in
    let i = c.loop-i.i in
    let ls = vec_items c.loop-i.leaves in
    let v = c.as_slice-drafts.ensures.value in
    let d = get_or c.as_slice-drafts.result.now i no_draft in
    let w : i < length (drafts_of r) = omega (arith, ap length v, c.loop-i-test.true) in
    let u : i < length ls = omega (arith, c.loop-i.invariant.0, w) in (
      length-set ls i c.enter-more.result.0 ∙ c.loop-i.invariant.0,
      entered_more g.K.Kind.text r.text.now (drafts_of r) c.args.names.now c.loop-i.names c.enter-more.new.names ls _ c.loop-i.count c.enter-more.result.1 i d c.enter-more.result.0 w u
          (get_or_default (drafts_of r) i d no_draft w ∙ ap (λ z. get_or z i no_draft) (sym v)) refl c.loop-i.invariant.1 c.enter-more.ensures,
    )
