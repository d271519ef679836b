use Rattle.std.proofs.Common.{◌≡◌, length, take, subst, rules}
use Rattle.std.specs.Option.{ok_or}
use Rattle.sheet.specs.declared.refusal.Refusal.TheVariants.{NoReading}
use Rattle.sheet.specs.Views.{GoesOver}
use Rattle.sheet.proofs.Answering.{enough_there, tells_at}
use Rattle.sheet.proofs.page.Sheet.distance.Goals as goal

pub returns : goal.returns
returns g c =
    let same : c.ok_or.result ≡ ok_or c.distances-range.result NoReading = search rules in
    let s = c.args.self.now in
    let stamps = take s.count s.stamps in
    let over = subst (λ xs. GoesOver s.plan.now s.names.now xs c.search.result) c.standing.ensures c.search.ensures in
    let none = enough_there _ tt c.in_ok-room.ensures in
    rw same (tells_at g.K.Kind.text s.plan.now s.names.now stamps c.search.result over (length c.args.numbers.now) (length c.args.amounts.now) none c.distances-range.result c.distances-range.ensures)
