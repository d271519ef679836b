use Rattle.std.proofs.Common.{length, vec_items, sym, refl, ap, ◌∙◌, subst, arith}
use Rattle.std.proofs.lemmas.Result.{err_from_is_err_and}
use Rattle.reader.specs.Branches.{OfShape}
use Rattle.reader.specs.Entering.{AllNamed, Entered}
use Rattle.reader.specs.Judging.{Judges, Granted}
use Rattle.reader.specs.Reading.{drafts_of}
use Rattle.plan.proofs.ReadingParsed.{sized, granted_accepts, no_memory, granted_named, entered_fit, reads_plan, judged_refused}
use Rattle.plan.proofs.parsing.parse.Goals as goal

pub returns-in_err-plan : goal.returns-in_err-plan
returns-in_err-plan g c =
    let p = err_from_is_err_and c.from_residual.result c.from_residual.ensures.1 in
    let f = c.in_err-plan.field-0.0 in
    let s = sized (length c.args.names.now) c.args.text.now c.if-names-lt-NAMES.false (sym c.is_empty.ensures ∙ c.if-is_empty.false) c.if-text-gt-BYTES.false in
    rw (p.1, p.2) (judged_refused g.K.Kind.has _ _ f s (subst (λ t. Judges g.K.Kind.has t f) c.new-reader.ensures.text c.in_err-plan.ensures.judged), refl)

pub returns-in_err-tree : goal.returns-in_err-tree
returns-in_err-tree g c =
    let p = err_from_is_err_and c.from_residual-in_err-tree.result c.from_residual-in_err-tree.ensures.1 in
    let s = sized (length c.args.names.now) c.args.text.now c.if-names-lt-NAMES.false (sym c.is_empty.ensures ∙ c.if-is_empty.false) c.if-text-gt-BYTES.false in
    let y = subst (λ t. Granted g.K.Kind.has t (drafts_of c.judge.new.reader) c.in_ok-plan.plan) c.new-reader.ensures.text c.in_ok-plan.ensures.judged in
    rw (p.1, p.2) (no_memory _ s y, refl)

pub lay_out-requires : goal.lay_out-requires
lay_out-requires g c =
    let s = sized (length c.args.names.now) c.args.text.now c.if-names-lt-NAMES.false (sym c.is_empty.ensures ∙ c.if-is_empty.false) c.if-text-gt-BYTES.false in
    let y = subst (λ t. Granted g.K.Kind.has t (drafts_of c.judge.new.reader) c.in_ok-plan.plan) c.new-reader.ensures.text c.in_ok-plan.ensures.judged in
    let shaped = subst (OfShape y.whole.drawn.shape) c.in_ok-tree.was y.whole.drawn.meant.tree in
    (granted_accepts (length c.args.names.now) _ y s shaped).limits

pub returns-in_err-layout : goal.returns-in_err-layout
returns-in_err-layout g c =
    let p = err_from_is_err_and c.from_residual-in_err-layout.result c.from_residual-in_err-layout.ensures.1 in
    let s = sized (length c.args.names.now) c.args.text.now c.if-names-lt-NAMES.false (sym c.is_empty.ensures ∙ c.if-is_empty.false) c.if-text-gt-BYTES.false in
    let y = subst (λ t. Granted g.K.Kind.has t (drafts_of c.judge.new.reader) c.in_ok-plan.plan) c.new-reader.ensures.text c.in_ok-plan.ensures.judged in
    rw (p.1, p.2) (no_memory _ s y, refl)

pub returns-in_err-leaves : goal.returns-in_err-leaves
returns-in_err-leaves g c =
    let p = err_from_is_err_and c.from_residual-in_err-leaves.result c.from_residual-in_err-leaves.ensures.1 in
    let s = sized (length c.args.names.now) c.args.text.now c.if-names-lt-NAMES.false (sym c.is_empty.ensures ∙ c.if-is_empty.false) c.if-text-gt-BYTES.false in
    let y = subst (λ t. Granted g.K.Kind.has t (drafts_of c.judge.new.reader) c.in_ok-plan.plan) c.new-reader.ensures.text c.in_ok-plan.ensures.judged in
    rw (p.1, p.2) (no_memory _ s y, refl)

pub enter_all-count-requires-clause-named : goal.enter_all-count-requires-clause-named
enter_all-count-requires-clause-named g c =
    let same = ap (λ x. x.now) c.in_ok-plan.ensures.same in
    subst (λ t. AllNamed g.K.Kind.has t (drafts_of c.judge.new.reader)) (sym same) (granted_named c.in_ok-plan.ensures.judged)

pub returns : goal.returns
returns g c =
    let r = c.judge.new.reader in
    let s = sized (length c.args.names.now) c.args.text.now c.if-names-lt-NAMES.false (sym c.is_empty.ensures ∙ c.if-is_empty.false) c.if-text-gt-BYTES.false in
    let y = subst (λ t. Granted g.K.Kind.has t (drafts_of c.judge.new.reader) c.in_ok-plan.plan) c.new-reader.ensures.text c.in_ok-plan.ensures.judged in
    let same = ap (λ x. x.now) c.in_ok-plan.ensures.same ∙ c.new-reader.ensures.text in
    let shaped = subst (OfShape y.whole.drawn.shape) c.in_ok-tree.was y.whole.drawn.meant.tree in
    let h = subst (λ t. Entered g.K.Kind.text t (drafts_of r) c.args.names.now c.enter_all-count.new.names (vec_items c.enter_all-count.new.leaves) c.enter_all-count.result (length (drafts_of r))) same c.enter_all-count.ensures.entered in
    reads_plan g.K.Kind.text g.K.Kind.has c.args.text.now c.args.names.now c.enter_all-count.new.names (drafts_of r) c.in_ok-plan.plan _ (length (drafts_of r)) s y
    shaped (omega arith) c.enter_all-count.ensures.long h

pub invariant_of-result : goal.invariant_of-result
invariant_of-result g c =
    let r = c.judge.new.reader in
    let s = sized (length c.args.names.now) c.args.text.now c.if-names-lt-NAMES.false (sym c.is_empty.ensures ∙ c.if-is_empty.false) c.if-text-gt-BYTES.false in
    let y = subst (λ t. Granted g.K.Kind.has t (drafts_of c.judge.new.reader) c.in_ok-plan.plan) c.new-reader.ensures.text c.in_ok-plan.ensures.judged in
    let same = ap (λ x. x.now) c.in_ok-plan.ensures.same ∙ c.new-reader.ensures.text in
    let shaped = subst (OfShape y.whole.drawn.shape) c.in_ok-tree.was y.whole.drawn.meant.tree in
    let h = subst (λ t. Entered g.K.Kind.text t (drafts_of r) c.args.names.now c.enter_all-count.new.names (vec_items c.enter_all-count.new.leaves) c.enter_all-count.result (length (drafts_of r))) same c.enter_all-count.ensures.entered in
    record {
      limited = (granted_accepts (length c.args.names.now) _ y s shaped).limits;
      fitting =
          entered_fit g.K.Kind.text g.K.Kind.has c.args.text.now c.args.names.now c.enter_all-count.new.names (drafts_of r) c.in_ok-plan.plan _ _ _ (length (drafts_of r)) s y shaped (omega arith) r.few c.enter_all-count.ensures.long h;
      laid = c.in_ok-layout.ensures.0;
      moving = c.in_ok-layout.ensures.1;
    }
