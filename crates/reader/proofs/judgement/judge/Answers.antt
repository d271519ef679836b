use Rattle.std.proofs.Common.{length, Some, None, ap, ◌∙◌, subst, arith, rules}
use Rattle.std.proofs.lemmas.Result.{err_from_is_err_and}
use Rattle.grammar.specs.Faults.{First}
use Rattle.reader.specs.Judged.{Unnamed}
use Rattle.reader.specs.Reading.{drafts_of}
use Rattle.reader.proofs.Handing.{ok_kept, err_mapped}
use Rattle.reader.proofs.ReadingMerged.{accepted_some}
use Rattle.reader.proofs.ReadingJudged.{read_spells, exact_width, nothing_refused, first_judges}
use Rattle.reader.proofs.judgement.judge.Goals as goal

pub returns-in_err-plan-clause-judged : goal.returns-in_err-plan-clause-judged
returns-in_err-plan-clause-judged g c =
    let same = ap (λ x. x.now) c.read.ensures.same in
    let m = err_mapped _ _ _ c.read.result c.in_err-plan.field-0.0 c.read.ensures.read c.in_err-plan.ensures.cases in
    let p = err_from_is_err_and c.from_residual.result c.from_residual.ensures.1 in
    let n = m.2 in
    let first : First g.K.Kind.has c.read.new.self.text.now c.in_err-plan.field-0.0 = search rules in
    rw (p.1, p.2) (first_judges g.K.Kind.has c.args.reader.now.text.now c.in_err-plan.field-0.0 (subst (λ t. First g.K.Kind.has t c.in_err-plan.field-0.0) same first))

pub returns-in-Some-clause-judged : goal.returns-in-Some-clause-judged
returns-in-Some-clause-judged g c =
    let has = g.K.Kind.has in
    let t = c.args.reader.now.text.now in
    let same = ap (λ x. x.now) c.read.ensures.same in
    let w = ok_kept _ _ _ c.read.result c.in_ok-plan.plan c.read.ensures.read c.in_ok-plan.ensures.cases in
    let u = subst (λ t. Unnamed has t (length t) (Some c.in-Some.at)) same c.in-Some.ensures in
    accepted_some has t c.in-Some.at w.accepted w.nothing u

pub returns-then-width-gt-WIDTH-clause-judged : goal.returns-then-width-gt-WIDTH-clause-judged
returns-then-width-gt-WIDTH-clause-judged g c =
    let has = g.K.Kind.has in
    let t = c.args.reader.now.text.now in
    let same = ap (λ x. x.now) c.read.ensures.same in
    let w = ok_kept _ _ _ c.read.result c.in_ok-plan.plan c.read.ensures.read c.in_ok-plan.ensures.cases in
    let u = subst (λ t. Unnamed has t (length t) None) same c.in_default.ensures in (
      nothing_refused has w u,
      (w.drawn.shape, drafts_of c.read.new.self, read_spells w, c.width-width.ensures w.drawn.shape w.drawn.meant.sized ∙ exact_width w, c.if-width-gt-WIDTH.true),
    )

pub returns-then-cuts-gt-CUTS-clause-judged : goal.returns-then-cuts-gt-CUTS-clause-judged
returns-then-cuts-gt-CUTS-clause-judged g c =
    let has = g.K.Kind.has in
    let t = c.args.reader.now.text.now in
    let same = ap (λ x. x.now) c.read.ensures.same in
    let w = ok_kept _ _ _ c.read.result c.in_ok-plan.plan c.read.ensures.read c.in_ok-plan.ensures.cases in
    let u = subst (λ t. Unnamed has t (length t) None) same c.in_default.ensures in
    let a = c.width-width.ensures w.drawn.shape w.drawn.meant.sized in
    let b = c.cuts.ensures w.drawn.shape w.drawn.meant.sized in
    let i = c.if-width-gt-WIDTH.false in
    let j = c.if-cuts-gt-CUTS.true in (
      nothing_refused has w u,
      (w.drawn.shape, drafts_of c.read.new.self, read_spells w, omega (arith, exact_width w, a, i), omega (arith, b, j)),
    )

pub returns-clause-judged : goal.returns-clause-judged
returns-clause-judged g c =
    let has = g.K.Kind.has in
    let t = c.args.reader.now.text.now in
    let same = ap (λ x. x.now) c.read.ensures.same in
    let w = ok_kept _ _ _ c.read.result c.in_ok-plan.plan c.read.ensures.read c.in_ok-plan.ensures.cases in
    let u = subst (λ t. Unnamed has t (length t) None) same c.in_default.ensures in
    let a = c.width-width.ensures w.drawn.shape w.drawn.meant.sized in
    let b = c.cuts.ensures w.drawn.shape w.drawn.meant.sized in
    let i = c.if-width-gt-WIDTH.false in
    let j = c.if-cuts-gt-CUTS.false in
    record {
      nothing = nothing_refused has w u;
      whole = w;
      wide = omega (arith, exact_width w, a, i);
      cuts = omega (arith, b, j);
    }
