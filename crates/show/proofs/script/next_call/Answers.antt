use Rattle.std.proofs.Common.{◌≤◌, length, ◌∙◌, subst}
use Rattle.show.specs.Asking.{Finds, over}
use Rattle.show.proofs.Told.{HasLine, found, passed}
use Rattle.show.proofs.script.next_call.Goals as goal

pub returns-in-Some-call_of : goal.returns-in-Some-call_of
returns-in-Some-call_of g c =
    let i = c.loop-line.invariant in
    let at = c.loop-line.line-iterator.at in
    let x = c.in-Some.line in
    let l = subst (λ u. HasLine g.K.Kind.text g.K.Kind.has u at x.next x.text.now) i.0 c.in-Some.ensures.steps.0.1 in
    i.1 _ (found g.K.Kind.text g.K.Kind.has c.args.text.now at x.next x.text.now c.in-Some-call_of.call l c.in-Some-call_of.ensures)

pub loop-line-preserved : goal.loop-line-preserved
loop-line-preserved g c =
    let i = c.loop-line.invariant in
    let s = c.in-Some.ensures.steps in
    let at = c.loop-line.line-iterator.at in
    let x = c.in-Some.line in
    let l = subst (λ u. HasLine g.K.Kind.text g.K.Kind.has u at x.next x.text.now) i.0 s.0.1 in
    (s.1 ∙ i.0, λ r f. i.1 r (passed g.K.Kind.text g.K.Kind.has c.args.text.now at x.next x.text.now l c.in_default.ensures r (subst (λ k. Finds g.K.Kind.text g.K.Kind.has c.args.text.now k r) s.2 f)))

pub returns : goal.returns
returns g c =
    let i = c.loop-line.invariant in
    i.1 _ (over (subst (λ u. length u ≤ c.loop-line.line-iterator.at) i.0 c.in-None.ensures.steps.0))
