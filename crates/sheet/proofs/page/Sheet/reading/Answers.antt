use Rattle.std.proofs.Common.{◌≤◌, length, take, sym, subst, arith, length-take-le, rules}
use Rattle.sheet.specs.Views.{GoesOver}
use Rattle.sheet.proofs.Answering.{enough_there, room_list}
use Rattle.sheet.proofs.FirstReadings.{gives_at}
use Rattle.sheet.proofs.page.Sheet.reading.Goals as goal

pub returns-clause-answer : goal.returns-clause-answer
returns-clause-answer g c =
    let s = c.args.self.now in
    let stamps = take s.count s.stamps in
    let over = subst (λ xs. GoesOver s.plan.now s.names.now xs c.search.result) c.standing.ensures c.search.ensures in
    let none = enough_there _ tt c.in_ok-room_for_list.ensures in
    let h = room_list _ (length c.args.list.now) (length c.args.numbers.now) (length c.args.amounts.now) (sym none) in
    let fits : s.count ≤ length s.stamps = search rules in
    let size = length-take-le s.count s.stamps fits in
    let few : s.count ≤ 128 = s.few in
    rw c.ok_or.ensures.value
    (gives_at g.K.Kind.text s.plan.now s.names.now stamps (length c.args.list.now) (length c.args.numbers.now) (length c.args.amounts.now) c.search.result over none c.args.list.now c.first_way-way.new.list
    (omega (arith, size)) (omega (arith, size, h.1)) c.first_way-way.result c.first_way-way.ensures.leaves c.first_way-way.ensures.count).0
