use Rattle.std.proofs.Common.{[], length, refl, ap, subst, arith}
use Rattle.std.proofs.lemmas.Result.{err_from_is_err_and}
use Rattle.grammar.specs.Faults.{First}
use Rattle.meaning.specs.Limits.{sequence}
use Rattle.reader.specs.Reading.{any, drafts_of, spot_at, Whole, Drawn}
use Rattle.grammar.specs.declared.refusal.Refusal.TheVariants.{Form}
use Rattle.reader.proofs.ReadingEnds.{start, left_over, read_all}
use Rattle.reader.proofs.reader.Reader.read.Goals as goal

pub returns-in_err-plan-clause-read : goal.returns-in_err-plan-clause-read
returns-in_err-plan-clause-read c =
    let r = c.args.self.now in
    let same = ap (λ x. x.now) c.read_plan.ensures.steady.text in
    let h = start r.text.now r.at (length r.drafts.items) r.brackets c.requires.0 (ap length c.requires.1) c.requires.2 in
    let p = err_from_is_err_and c.from_residual.result c.from_residual.ensures.1 in
    rw (p.1, p.2) (subst (λ t. First any t c.in_err-plan.field-0.0) same (c.in_err-plan.ensures.read [] h refl))

pub returns-then-self-clause-read : goal.returns-then-self-clause-read
returns-then-self-clause-read c =
    let r = c.args.self.now in
    let s = c.read_plan.new.self in
    let same = ap (λ x. x.now) c.read_plan.ensures.steady.text in
    let h = start r.text.now r.at (length r.drafts.items) r.brackets c.requires.0 (ap length c.requires.1) c.requires.2 in
    let w = c.in_ok-plan.ensures.read [] h refl in
    subst (λ t. First any t (Form s.at)) same (left_over w.0 w.1 c.if-self.true)

pub returns-clause-read : goal.returns-clause-read
returns-clause-read c =
    let r = c.args.self.now in
    let s = c.read_plan.new.self in
    let steady = c.read_plan.ensures.steady in
    let same = ap (λ x. x.now) steady.text in
    let h = start r.text.now r.at (length r.drafts.items) r.brackets c.requires.0 (ap length c.requires.1) c.requires.2 in
    let w = c.in_ok-plan.ensures.read [] h refl in
    let d = subst (λ x. Drawn sequence 16 r.text.now r.at r.brackets s.at s.brackets x (drafts_of s) c.in_ok-plan.plan) c.requires.1 w.2 in
    let e = subst (λ x. Drawn sequence 16 r.text.now x r.brackets s.at s.brackets [] (drafts_of s) c.in_ok-plan.plan) c.requires.0 d in
    let f = subst (λ x. Drawn sequence 16 r.text.now 0 x s.at s.brackets [] (drafts_of s) c.in_ok-plan.plan) c.requires.2 e in
    read_all r.text.now s.at (length s.drafts.items) s.brackets (drafts_of s) c.in_ok-plan.plan
    (subst (λ t. Whole (spot_at t s.at (length s.drafts.items) s.brackets) []) same w.0) (omega (arith, steady.within, c.if-self.false, ap length same)) f steady.few
