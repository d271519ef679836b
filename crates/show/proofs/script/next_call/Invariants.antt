use Rattle.std.proofs.Common.{◌≡◌, ℕ, Option}
use Rattle.sheet.specs.declared.words.Call.{Call}
use Rattle.show.specs.Asking.{Finds}
use Rattle.show.proofs.script.next_call.Given as goal

abbrev pub invariant-loop-line : goal.invariant-loop-line
invariant-loop-line g l =
    (l.line-iterator.text.now ≡ l.text)
    × ((r : Option (Call _ × ℕ)) → Finds g.K.Kind.text g.K.Kind.has l.text l.line-iterator.at r → Finds g.K.Kind.text g.K.Kind.has l.text l.from r)
