use Rattle.std.proofs.Common.{◌≡◌, true, false, rules}
use Rattle.std.proofs.lemmas.Iterator.{first_from_Range}
use Rattle.reader.specs.Judged.{lacks}
use Rattle.reader.proofs.ReadingUnnamed.{unnamed_first}
use Rattle.reader.proofs.names.first_unnamed.Goals as goal

pub returns : goal.returns
returns g c =
    let has = g.K.Kind.has in
    let t = c.args.text.now in
    unnamed_first has t c.args.limit c.find.result
    (first_from_Range _ _ _ c.find.result (λ i. lacks has t i ≡ true) (λ i. lacks has t i ≡ false) c.find.ensures.ran (λ x q k. search rules) (λ x q k. search rules))
