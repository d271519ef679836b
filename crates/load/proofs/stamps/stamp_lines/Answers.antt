use Rattle.std.proofs.Common.{◌≡◌, true, false, [], ◌∷◌, ◌++◌, map, MatchOption, Err, sym, refl, ap, ◌∙◌, subst, append_assoc, arith, rules}
use Rattle.std.proofs.lemmas.List.{length_push}
use Rattle.std.proofs.lemmas.Result.{err_from_is_err_and}
use Rattle.sheet.proofs.Grounds.{begun_empty}
use Rattle.load.specs.LinesLeft.{lines_left}
use Rattle.load.specs.Judged.{LinesStamped}
use Rattle.load.specs.declared.refusal.LoadRefusal.TheVariants.{Untaken}
use Rattle.load.proofs.Takings.{put_to, follows_so, follows_not, stands_so, taken_more, ok_before, err_before}
use Rattle.load.proofs.stamps.stamp_lines.Goals as goal

pub loop-line-init : goal.loop-line-init
loop-line-init g c =
    let s = c.args.sheet.now in
    let b = begun_empty s.plan.now (map g.K.Kind.text s.names.now) in
    (refl, refl, ([], sym (ap lines_left c.into_iter-line-iterator.ensures.into_iter_gives ∙ c.new-line-items.ensures), record { named = tt; begun = b }, c.requires.empty, refl))

pub loop-line-preserved : goal.loop-line-preserved
loop-line-preserved g c =
    let i = c.loop-line.invariant in
    let u = c.in-Some.line.text.now in
    let at = c.in-Some.line.at in
    let done = i.2.0 in
    let is = subst (λ o. MatchOption o (g.K.Kind.has u ≡ false) (λ x. g.K.Kind.text x ≡ u)) c.in_ok-name.ensures.ok_part c.of_text.ensures in
    let known : g.K.Kind.has u ≡ true = subst (λ t. g.K.Kind.has t ≡ true) is (g.met.K.Kind.named c.in_ok-name.name) in
    let p = put_to g.K.Kind.text c.loop-line.sheet c.args.sheet.now c.in_ok-name.name u _ _ _ _ done i.0 i.1 c.loop-line.auto.numbers c.loop-line.auto.amounts c.requires.enough i.2.3 is in
    let a = rw (ok_before _ c.stamp.result c.map_err.result c.in_ok-map_err.field-0 c.map_err.ensures.cases c.in_ok-map_err.was) at c.stamp.ensures.answer in (
      c.stamp.ensures.plan ∙ i.0,
      c.stamp.ensures.names ∙ i.1,
      (
        done ++ ((at, u) ∷ []),
        i.2.1 ∙ (ap (λ r. done ++ r) c.in-Some.ensures.steps ∙ sym (append_assoc done ((at, u) ∷ []) (lines_left c.next.new.self))),
        taken_more g.K.Kind.has _ done at u i.2.2 known (follows_so _ _ _ _ _ _ done p a),
        stands_so _ _ _ _ _ _ _ done at p a c.stamp.ensures.after,
        omega (arith, i.2.4, length_push done (at, u)),
      ),
    )

pub returns-in_err-map_err-clause-answer : goal.returns-in_err-map_err-clause-answer
returns-in_err-map_err-clause-answer g c =
    let i = c.loop-line.invariant in
    let u = c.in-Some.line.text.now in
    let at = c.in-Some.line.at in
    let done = i.2.0 in
    let is = subst (λ o. MatchOption o (g.K.Kind.has u ≡ false) (λ x. g.K.Kind.text x ≡ u)) c.in_ok-name.ensures.ok_part c.of_text.ensures in
    let known : g.K.Kind.has u ≡ true = subst (λ t. g.K.Kind.has t ≡ true) is (g.met.K.Kind.named c.in_ok-name.name) in
    let p = put_to g.K.Kind.text c.loop-line.sheet c.args.sheet.now c.in_ok-name.name u _ _ _ _ done i.0 i.1 c.loop-line.auto.numbers c.loop-line.auto.amounts c.requires.enough i.2.3 is in
    let o = err_before _ c.stamp.result c.map_err.result c.in_err-map_err.field-0.0 c.map_err.ensures.cases c.in_err-map_err.was in
    let e : c.in_err-map_err.field-0.0 ≡ Untaken at = search (rules, o) in
    let a = rw o.1 at c.stamp.ensures.answer in
    let r = err_from_is_err_and c.from_residual-in_err-map_err.result c.from_residual-in_err-map_err.ensures.1 in
    subst (LinesStamped g.K.Kind.has _ _ _) (sym (r.1 ∙ ap Err (r.2 ∙ e)))
    (done, (at, u), record { after = lines_left c.next.new.self; split = i.2.1 ∙ ap (λ r. done ++ r) c.in-Some.ensures.steps; taken = i.2.2 }, refl, known, follows_not _ _ _ _ _ _ done o.0 p a)
