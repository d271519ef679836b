use Rattle.std.proofs.Common.{refl, arith}
use Rattle.load.proofs.Feeds.{none_left, stands_line}
use Rattle.load.proofs.lines.next_line.Goals as goal

pub returns-then-end-body : goal.returns-then-end-body
returns-then-end-body c = none_left c.args.body.now c.args.at c.feed_from-end.result c.feed_from-end.ensures c.if-end-body.true

pub returns : goal.returns
returns c =
    let s = stands_line c.args.body.now c.args.at c.feed_from-end.result c.feed_from-end.ensures c.if-end-body.false in
    (refl, s.bytes, s.long, omega (arith, c.if-end-body.false), s.first)
