use Rattle.std.proofs.Common.{◌≡◌, ◌+◌, ◌<◌, ◌≤◌, ◌∷◌, length, get_or, sym, refl, ap, subst, arith, eqb-true}
use Rattle.std.proofs.lemmas.Result.{err_from_is_err_and}
use Rattle.meaning.specs.Limits.{sequence}
use Rattle.reader.specs.Reading.{frame, drafts_of, Drawn, Inside}
use Rattle.layout.specs.Tree.{sort_of}
use Rattle.grammar.specs.Form.{least, most}
use Rattle.reader.proofs.ReadingParts.{apart}
use Rattle.reader.proofs.ReadingMoves.{open_sign, open_paren, too_many, no_paren, dot, close, comma, neither, after_bracket}
use Rattle.reader.proofs.ReadingTrees.{bracket_drawn, one_drawn, then_drawn, last_inside, next_inside}
use Rattle.reader.proofs.reader.Reader.+reading.Goals.{read_plans-else-stands-via-then-stands+else-count-least, read_plans-else-stands-via-else-stands, read_plans-else-stands-2-via-then-stands-2+else-count-most, read_plans-else-stands-2-via-else-stands-2}
use Rattle.reader.proofs.reader.Reader.+reading.Goals as goal

pub read_item-returns-in-None-clause-read : goal.read_item-returns-in-None-clause-read
read_item-returns-in-None-clause-read t c fs h e =
    c.read_leaf.ensures.read c.args.room fs h

pub read_bracket-returns-then-self-ge-BRACKETS-clause-read : goal.read_bracket-returns-then-self-ge-BRACKETS-clause-read
read_bracket-returns-then-self-ge-BRACKETS-clause-read t c fs h e =
    let n = c.if-room-eq0.false in too_many (sort_of c.args.sort) h c.requires.within c.requires.sign (omega arith) c.if-self-ge-BRACKETS.true

pub read_bracket-returns-then-not-stands-clause-read : goal.read_bracket-returns-then-not-stands-clause-read
read_bracket-returns-then-not-stands-clause-read t c fs h e =
    let n = c.if-room-eq0.false in
    no_paren (open_sign (sort_of c.args.sort) h c.requires.within c.requires.sign (omega arith) c.if-self-ge-BRACKETS.false) (apart (sym c.if-not-stands.ensures.value))

pub read_bracket-returns-in_err-inner-clause-read : goal.read_bracket-returns-in_err-inner-clause-read
read_bracket-returns-in_err-inner-clause-read t c fs h e =
    let n = c.if-room-eq0.false in
    let o = open_paren (open_sign (sort_of c.args.sort) h c.requires.within c.requires.sign (omega arith) c.if-self-ge-BRACKETS.false) (eqb-true _ 40 (sym c.if-not-stands.ensures.value)) in
    let p = err_from_is_err_and c.from_residual.result c.from_residual.ensures.1 in
    rw (p.1, p.2) (c.in_err-inner.ensures.read fs o (omega arith))

pub read_bracket-returns-clause-read : goal.read_bracket-returns-clause-read
read_bracket-returns-clause-read t c fs h e =
    let n = c.if-room-eq0.false in
    let y = eqb-true (get_or c.args.self.now.text.now (c.args.self.now.at + 1) 0) 40 (sym c.if-not-stands.ensures.value) in
    let o = open_paren (open_sign (sort_of c.args.sort) h c.requires.within c.requires.sign (omega arith) c.if-self-ge-BRACKETS.false) y in
    let x = c.in_ok-inner.ensures.read fs o (omega arith) in
    let w = c.if-not-stands.ensures.within refl in (
      after_bracket x.0,
      bracket_drawn (sort_of c.args.sort) _ _ _ _ c.args.room _ _ _ _ c.in_ok-inner.inner _ w c.requires.sign y (omega arith) x.1 c.within.ensures,
    )

pub read_plan-returns-in_err-rest-clause-read : goal.read_plan-returns-in_err-rest-clause-read
read_plan-returns-in_err-rest-clause-read t c fs h e =
    let d = dot (c.in_ok-first.ensures.read fs h e).0 (eqb-true _ 46 (sym c.if-stands.ensures.value)) in
    let p = err_from_is_err_and c.from_residual-in_err-rest.result c.from_residual-in_err-rest.ensures.1 in
    rw (p.1, p.2) (c.in_err-rest.ensures.read fs d e)

pub read_plan-returns-then-stands-clause-read : goal.read_plan-returns-then-stands-clause-read
read_plan-returns-then-stands-clause-read t c fs h e =
    let s = c.read_item.new.self in
    let u = c.read_plan.new.self in
    let x = c.in_ok-first.ensures.read fs h e in
    let k = eqb-true (get_or s.text.now s.at 0) 46 (sym c.if-stands.ensures.value) in
    let y = c.in_ok-rest.ensures.read fs (dot x.0 k) e in
    let same = ap (λ z. z.now) c.read_item.ensures.steady.text in
    let w = c.if-stands.ensures.within refl in (
      y.0,
      y.1,
      then_drawn c.args.room c.args.self.now.text.now c.args.self.now.at s.at u.at c.args.self.now.brackets s.brackets u.brackets (drafts_of c.args.self.now) (drafts_of s) (drafts_of u) c.in_ok-first.first c.in_ok-rest.rest c.joined.result
          (subst (λ z. s.at < length z) same w) (subst (λ z. get_or z s.at 0 ≡ 46) same k) c.joined.ensures x.1
          (subst (λ z. Drawn sequence c.args.room z (s.at + 1) s.brackets u.at u.brackets (drafts_of s) (drafts_of u) c.in_ok-rest.rest) same y.2),
    )

pub read_plan-returns-clause-read : goal.read_plan-returns-clause-read
read_plan-returns-clause-read t c fs h e =
    let x = c.in_ok-first.ensures.read fs h e in
    (x.0, apart (sym c.if-stands.ensures.value), one_drawn x.1)

pub read_plans-returns-in_err-first-clause-read : goal.read_plans-returns-in_err-first-clause-read
read_plans-returns-in_err-first-clause-read t c fs h e =
    let p = err_from_is_err_and c.from_residual.result c.from_residual.ensures.1 in
    rw (p.1, p.2) (c.in_err-first.ensures.read (frame (sort_of c.args.sort) c.args.count ∷ fs) h (omega arith))

pub read_plans-returns-then-count-least-clause-read : goal.read_plans-returns-then-count-least-clause-read
read_plans-returns-then-count-least-clause-read t c fs h e =
    let r = c.args.self.now in
    let s = c.read_plan.new.self in
    let w = c.if-stands.ensures.within refl in
    let x = c.in_ok-first.ensures.read (frame (sort_of c.args.sort) c.args.count ∷ fs) h (omega arith) in
    let k = eqb-true (get_or s.text.now s.at 0) 41 (sym c.if-stands.ensures.value) in
    let l : least (sort_of c.args.sort) ≤ c.args.count = omega (arith, c.least.ensures, c.if-count-least.true) in
    let same = ap (λ z. z.now) c.read_plan.ensures.steady.text in (
      close (sort_of c.args.sort) c.args.count x.0 k l,
      last_inside (sort_of c.args.sort) c.args.count c.args.room r.text.now r.at s.at r.brackets s.brackets (drafts_of r) (drafts_of s) c.in_ok-first.first
          (subst (λ z. s.at < length z) same w) (subst (λ z. get_or z s.at 0 ≡ 41) same k) l c.requires.below x.2,
    )

pub read_plans-returns-in_err-rest-clause-read : goal.read_plans-returns-in_err-rest-clause-read
read_plans-returns-in_err-rest-clause-read t c fs h e =
    let s = c.read_plan.new.self in
    let w = c.if-stands-2.ensures.within refl in
    let x = c.in_ok-first.ensures.read (frame (sort_of c.args.sort) c.args.count ∷ fs) h (omega arith) in
    let k = eqb-true (get_or s.text.now s.at 0) 44 (sym c.if-stands-2.ensures.value) in
    let d = comma (sort_of c.args.sort) c.args.count x.0 k (omega (arith, c.most.ensures, c.if-count-most.true)) in
    let p = err_from_is_err_and c.from_residual-in_err-rest.result c.from_residual-in_err-rest.ensures.1 in
    rw (p.1, p.2) (c.in_err-rest.ensures.read fs d e)

pub read_plans-returns-then-count-most-clause-read : goal.read_plans-returns-then-count-most-clause-read
read_plans-returns-then-count-most-clause-read t c fs h e =
    let r = c.args.self.now in
    let s = c.read_plan.new.self in
    let u = c.read_plans.new.self in
    let w = c.if-stands-2.ensures.within refl in
    let x = c.in_ok-first.ensures.read (frame (sort_of c.args.sort) c.args.count ∷ fs) h (omega arith) in
    let k = eqb-true (get_or s.text.now s.at 0) 44 (sym c.if-stands-2.ensures.value) in
    let l : c.args.count < most (sort_of c.args.sort) = omega (arith, c.most.ensures, c.if-count-most.true) in
    let y = c.in_ok-rest.ensures.read fs (comma (sort_of c.args.sort) c.args.count x.0 k l) e in
    let same = ap (λ z. z.now) c.read_plan.ensures.steady.text in (
      y.0,
      next_inside c.args.sort c.link_in.result c.args.count c.args.room r.text.now r.at s.at u.at r.brackets s.brackets u.brackets (drafts_of r) (drafts_of s) (drafts_of u)
          c.in_ok-first.first c.in_ok-rest.rest c.joined.result c.link_in.ensures
          (subst (λ z. s.at < length z) same w) (subst (λ z. get_or z s.at 0 ≡ 44) same k) c.requires.some l c.joined.ensures x.2
          (subst (λ z. Inside (sort_of c.args.sort) (c.args.count + 1) c.args.room z (s.at + 1) s.brackets u.at u.brackets (drafts_of s) (drafts_of u) c.in_ok-rest.rest) same y.1),
    )

pub read_plans-returns-clause-read : goal.read_plans-returns-clause-read
read_plans-returns-clause-read t c fs h e =
    let x = c.in_ok-first.ensures.read (frame (sort_of c.args.sort) c.args.count ∷ fs) h (omega arith) in
    let text : c.else-stands-2.self.text ≡ c.read_plan.new.self.text = elim c.else-stands-2.branch [ read_plans-else-stands-2-via-then-stands-2+else-count-most z ↦ ap (λ r. r.text) z.self-is | read_plans-else-stands-2-via-else-stands-2 z ↦ ap (λ r. r.text) z.self-is ] in
    let at : c.else-stands-2.self.at ≡ c.read_plan.new.self.at = elim c.else-stands-2.branch [ read_plans-else-stands-2-via-then-stands-2+else-count-most z ↦ ap (λ r. r.at) z.self-is | read_plans-else-stands-2-via-else-stands-2 z ↦ ap (λ r. r.at) z.self-is ] in
    rw (text, at)
    (neither (sort_of c.args.sort) c.args.count x.0 x.1
    (λ q. elim c.else-stands.branch [ read_plans-else-stands-via-then-stands+else-count-least z ↦ omega (arith, z.least.ensures, z.if-count-least.false) | read_plans-else-stands-via-else-stands z ↦ absurd (apart (sym z.if-stands.ensures.value) q) ])
    (λ q. elim c.else-stands-2.branch [ read_plans-else-stands-2-via-then-stands-2+else-count-most z ↦ omega (arith, z.most.ensures, z.if-count-most.false) | read_plans-else-stands-2-via-else-stands-2 z ↦ absurd (apart (sym z.if-stands-2.ensures.value) q) ]))
