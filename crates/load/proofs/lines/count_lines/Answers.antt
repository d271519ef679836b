use Rattle.std.proofs.Common.{[], ◌∷◌, length, drop, inl, ap, arith, length-drop}
use Rattle.std.proofs.lemmas.Bool.Decides.{Decides-eqb}
use Rattle.std.proofs.lemmas.Iterator.Consumers.{YieldsList-from_first, count_from_yields_List}
use Rattle.std.proofs.lemmas.Slice.Eq.{ends_is}
use Rattle.text.specs.Bools.{clash}
use Rattle.load.specs.LinesLeft.{placed, lines_left}
use Rattle.load.proofs.Feeds.{few_lines, all_lines, not_lines}
use Rattle.load.proofs.lines.count_lines.Goals as goal
use Rattle.load.proofs.lines.count_lines.Goals.{else-from-body-via-then-from-body+else-not-ends_with, else-from-body-via-else-from-body}

pub returns-then-not-ends_with : goal.returns-then-not-ends_with
returns-then-not-ends_with c =
    not_lines c.args.body.now c.args.from _ c.if-from-body.true
    (λ front e. clash ((ends_is Decides-eqb c.args.body.now (10 ∷ []) c.ends_with.result c.ends_with.ensures.value).1 front e) c.if-not-ends_with.true)

pub count-requires-clause-fits : goal.count-requires-clause-fits
count-requires-clause-fits c =
    inl (omega (arith, few_lines c.args.from (drop c.args.from c.args.body.now), length-drop c.args.from c.args.body.now, ap length c.new.ensures, c.well_formed))

pub returns : goal.returns
returns c = (
  all_lines c.args.body.now c.args.from (λ h.
      elim c.else-from-body.branch [
        | else-from-body-via-then-from-body+else-not-ends_with w ↦ (ends_is Decides-eqb c.args.body.now (10 ∷ []) w.ends_with.result w.ends_with.ensures.value).0 w.if-not-ends_with.false
        | else-from-body-via-else-from-body w ↦ absurd (omega (arith, h, w.if-from-body.false))
      ]),
  count_from_yields_List c.new.result c.count.result c.count.ensures.ran (YieldsList-from_first placed lines_left _ c.new.ensures),
)
