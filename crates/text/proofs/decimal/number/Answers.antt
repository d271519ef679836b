use Rattle.std.proofs.Common.{◌+◌, ◌*◌, sym, ap, ◌∙◌, arith}
use Rattle.text.specs.Numbers.{no_digit, too_much, too_little, read_more, read_all}
use Rattle.text.proofs.decimal.number.Goals as goal

pub returns-then-n-limit : goal.returns-then-n-limit
returns-then-n-limit c =
    too_much c.args.run.now c.args.least c.args.most c.loop-b.n _ c.loop-b.b-index c.loop-b-test.true
    (ap (λ d. 10 * c.loop-b.n + d) c.from.ensures) (omega (arith, c.if-n-limit.true)) c.loop-b.invariant.worth

pub loop-b-preserved : goal.loop-b-preserved
loop-b-preserved c =
    read_more c.args.run.now c.args.most c.loop-b.n _ c.loop-b.b-index c.loop-b-test.true
    (sym c.is_digit.ensures ∙ c.if-not-is_digit.false) (ap (λ d. 10 * c.loop-b.n + d) c.from.ensures) (omega (arith, c.if-n-limit.false)) c.loop-b.invariant
