use Rattle.std.proofs.Common.{◌≡◌, ◌≤◌, true, false, [], ◌∷◌, ◌++◌, map, vec_items, is_ok, refl, ap, ◌∙◌, subst, arith, rules}
use Rattle.std.proofs.lemmas.Bool.{both_ways}
use Rattle.sheet.specs.Calls.{Ground}
use Rattle.sheet.specs.Runs.{desk, Right, After}
use Rattle.sheet.specs.Views.{ground_over, stands_on}
use Rattle.sheet.proofs.Grounds.{begun_empty}
use Rattle.sheet.proofs.Transcripts.{going_more, fitted_same, served}
use Rattle.sheet.proofs.service.serve.Goals as goal

pub loop-preserved : goal.loop-preserved
loop-preserved g c =
    let i = c.loop.invariant in
    let p = c.put-turn.ensures in
    let t = c.put-turn.result in
    let s = c.loop.sheet in
    let text = g.K.Kind.text in
    let σ = stands_on text s in
    let same : ground_over text s.plan.now s.names.now ≡ ground_over text c.args.plan.now c.args.names.now = ap (λ x. ground_over text x s.names.now) i.0 ∙ ap (λ x. ground_over text c.args.plan.now x) i.1 in
    let right = subst (λ (x : Ground). Right (desk text g.S.Scale.value g.S.Scale.join g.S.Scale.start g.S.Scale.extend x) σ t.call t.answer) same p.right in
    let after = subst (λ (x : Ground). After (desk text g.S.Scale.value g.S.Scale.join g.S.Scale.start g.S.Scale.extend x) σ t.call (stands_on text c.put-turn.new.sheet)) same p.after in
    let kept = c.loop.auto in
    let called = p.called ∙ fitted_same c.ask-call.result kept.list kept.numbers kept.amounts in
    let pushed : vec_items c.push.new.self ≡ vec_items c.loop.log ++ (t ∷ []) = search rules in
    (ap (λ x. x.now) p.plan ∙ i.0, ap (λ x. x.now) p.names ∙ i.1, going_more i.2 t c.ask-call.result _ _ _ c.ask-call.ensures called right after pushed, search rules, search rules)

pub returns-in_err-push-clause-served : goal.returns-in_err-push-clause-served
returns-in_err-push-clause-served g c =
    let i = c.loop.invariant in
    let same : vec_items c.push.new.self ≡ vec_items c.loop.log = search rules in
    let few : c.loop.counter ≤ c.args.turns = search rules in
    let cut : is_ok c.from_residual.result ≡ false = search rules in
    served i.2 c.args.turns few (begun_empty c.args.plan.now (map g.K.Kind.text c.args.names.now)) _ same (is_ok c.from_residual.result) (λ w. absurd (both_ways _ cut w))

pub returns-clause-served : goal.returns-clause-served
returns-clause-served g c =
    let end : c.loop.counter ≡ c.args.turns = search rules in
    served c.loop.invariant.2 c.args.turns (omega arith) (begun_empty c.args.plan.now (map g.K.Kind.text c.args.names.now)) _ refl true (λ w. end)
