use Rattle.std.proofs.Common.{◌≡◌, length, take, subst, rules}
use Rattle.std.specs.Option.{ok_or}
use Rattle.sheet.specs.declared.refusal.Refusal.TheVariants.{NoReading}
use Rattle.sheet.specs.Views.{GoesOver}
use Rattle.sheet.proofs.Answering.{enough_there, weighs_at}
use Rattle.sheet.proofs.page.Sheet.amount.Goals as goal

pub returns : goal.returns
returns g c =
    let same : c.ok_or.result ≡ ok_or c.amount_at_last-sum.result NoReading = search rules in
    let s = c.args.self.now in
    let stamps = take s.count s.stamps in
    let over = subst (λ xs. GoesOver s.plan.now s.names.now xs c.search.result) c.standing.ensures c.search.ensures in
    let none = enough_there _ tt c.in_ok-room.ensures in
    let d = g.S.Scale in
    rw same (weighs_at g.K.Kind.text s.plan.now s.names.now stamps c.search.result over (length c.args.numbers.now) (length c.args.amounts.now) none d.value d.join d.start d.extend c.amount_at_last-sum.result c.amount_at_last-sum.ensures)
