use Rattle.std.proofs.Common.{length, take, subst}
use Rattle.sheet.specs.Views.{GoesOver}
use Rattle.sheet.proofs.Answering.{enough_there}
use Rattle.sheet.proofs.Checking.{checks_uneven, checks_long, checks_way}
use Rattle.sheet.proofs.page.Sheet.check.Goals.{then-leaves-stamps-via-then-leaves-stamps, then-leaves-stamps-via-else-leaves-stamps+then-leaves-search}
use Rattle.sheet.proofs.page.Sheet.check.Goals as goal

pub returns : goal.returns
returns g c =
    let s = c.args.self.now in
    let stamps = take s.count s.stamps in
    let over = subst (λ xs. GoesOver s.plan.now s.names.now xs c.search-search.result) c.standing.ensures c.search-search.ensures in
    let none = enough_there _ tt c.in_ok-room.ensures in
    checks_way g.K.Kind.text s.plan.now s.names.now c.args.stamps.now c.args.leaves.now (length c.args.numbers.now) (length c.args.amounts.now) none c.search-search.result stamps over c.is_way.result c.is_way.ensures

pub returns-then-leaves-stamps : goal.returns-then-leaves-stamps
returns-then-leaves-stamps g c =
    let s = c.args.self.now in
    let stamps = take s.count s.stamps in
    let over = subst (λ xs. GoesOver s.plan.now s.names.now xs c.search-search.result) c.standing.ensures c.search-search.ensures in
    let none = enough_there _ tt c.in_ok-room.ensures in
    elim c.then-leaves-stamps.branch [
      | then-leaves-stamps-via-then-leaves-stamps w ↦ checks_uneven g.K.Kind.text s.plan.now s.names.now c.args.stamps.now c.args.leaves.now (length c.args.numbers.now) (length c.args.amounts.now) none w.if-leaves-stamps.true
      | then-leaves-stamps-via-else-leaves-stamps+then-leaves-search w ↦ checks_long g.K.Kind.text s.plan.now s.names.now c.args.stamps.now c.args.leaves.now (length c.args.numbers.now) (length c.args.amounts.now) none c.search-search.result stamps over w.if-leaves-search.true
    ]
