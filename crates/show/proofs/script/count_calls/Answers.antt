use Rattle.std.proofs.Common.{◌+◌, ◌≤◌, length, sym, ◌∙◌, subst, arith}
use Rattle.show.specs.Asking.{over}
use Rattle.show.proofs.Told.{HasLine, Counting, count_up, count_stays, counted}
use Rattle.show.proofs.script.count_calls.Goals as goal

pub loop-line-preserved-then-is_some : goal.loop-line-preserved-then-is_some
loop-line-preserved-then-is_some g c =
    let i = c.loop-line.invariant in
    let s = c.in-Some.ensures.steps in
    let at = c.loop-line.line-iterator.at in
    let n = c.loop-line.count in
    let x = c.in-Some.line in
    let t = c.args.text.now in
    let l = subst (λ u. HasLine g.K.Kind.text g.K.Kind.has u at x.next x.text.now) i.0 s.0.1 in (
      s.1 ∙ i.0,
      omega (arith, i.1, s.2, l.1.1.forward, l.3),
      subst (λ k. Counting g.K.Kind.text g.K.Kind.has t c.args.from k (n + 1)) (sym s.2)
          (count_up g.K.Kind.text g.K.Kind.has t c.args.from at x.next n x.text.now c.call_of.result (sym c.is_some.ensures ∙ c.if-is_some.true) l c.call_of.ensures i.2),
    )

pub loop-line-preserved : goal.loop-line-preserved
loop-line-preserved g c =
    let i = c.loop-line.invariant in
    let s = c.in-Some.ensures.steps in
    let at = c.loop-line.line-iterator.at in
    let n = c.loop-line.count in
    let x = c.in-Some.line in
    let t = c.args.text.now in
    let l = subst (λ u. HasLine g.K.Kind.text g.K.Kind.has u at x.next x.text.now) i.0 s.0.1 in (
      s.1 ∙ i.0,
      omega (arith, i.1, s.2, l.1.1.forward, l.3),
      subst (λ k. Counting g.K.Kind.text g.K.Kind.has t c.args.from k n) (sym s.2)
          (count_stays g.K.Kind.text g.K.Kind.has t c.args.from at x.next n x.text.now c.call_of.result (sym c.is_some.ensures ∙ c.if-is_some.false) l c.call_of.ensures i.2),
    )

pub returns : goal.returns
returns g c =
    let i = c.loop-line.invariant in
    counted g.K.Kind.text g.K.Kind.has c.args.text.now c.args.from c.loop-line.line-iterator.at c.loop-line.count
    (over (subst (λ u. length u ≤ c.loop-line.line-iterator.at) i.0 c.in-None.ensures.steps.0)) i.2
