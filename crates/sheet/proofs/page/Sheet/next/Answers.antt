use Rattle.std.proofs.Common.{◌≡◌, length, take, sym, subst, arith}
use Rattle.sheet.specs.Views.{GoesOver}
use Rattle.engine.proofs.Tails.{same_from}
use Rattle.sheet.proofs.Answering.{enough_there, room_list}
use Rattle.sheet.proofs.Grounds.{name_number}
use Rattle.sheet.proofs.Listings.{nexts_at}
use Rattle.sheet.proofs.page.Sheet.next.Goals as goal

pub returns-clause-answer : goal.returns-clause-answer
returns-clause-answer g c =
    let s = c.args.self.now in
    let stamps = take s.count s.stamps in
    let over = subst (λ xs. GoesOver s.plan.now s.names.now xs c.search-search.result) c.standing.ensures c.search-search.ensures in
    let none = enough_there _ tt c.in_ok-room_for_list.ensures in
    let h = room_list _ (length c.args.list.now) (length c.args.numbers.now) (length c.args.amounts.now) (sym none) in
    let few = name_number s.plan.now in
    let long : length c.following.new.list ≡ length c.args.list.now = c.following.auto.list in
    nexts_at g.K.Kind.text s.plan.now s.names.now stamps (length c.args.list.now) (length c.args.numbers.now) (length c.args.amounts.now) c.search-search.result over
    c.args.list.now c.following.new.list c.names.result c.following.result none c.names.ensures (omega (arith, h.1, few, c.names.ensures)) c.following.ensures

pub returns-clause-kept : goal.returns-clause-kept
returns-clause-kept g c =
    let none = enough_there _ tt c.in_ok-room_for_list.ensures in
    let h = room_list _ (length c.args.list.now) (length c.args.numbers.now) (length c.args.amounts.now) (sym none) in
    let few = name_number c.args.self.now.plan.now in
    let is = c.names.ensures in
    let f = c.following.ensures in
    (omega (arith, f.short), omega (arith, f.short, h.1), same_from c.following.result c.following.new.list c.args.list.now c.following.auto.list f.kept)
