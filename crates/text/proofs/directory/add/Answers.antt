use Rattle.std.proofs.Common.{Some, None, refl}
use Rattle.text.proofs.Entries.{finds_first}
use Rattle.text.proofs.directory.add.Goals as goal

pub returns-in-Some : goal.returns-in-Some
returns-in-Some g c =
    (finds_first g.K.Kind.text c.args.names.now (g.K.Kind.text c.args.name) c.args.len c.min-count.result (Some c.in-Some.i) c.min-count.ensures c.in-Some.ensures, refl)

pub returns-then-len-names : goal.returns-then-len-names
returns-then-len-names g c =
    (finds_first g.K.Kind.text c.args.names.now (g.K.Kind.text c.args.name) c.args.len c.min-count.result None c.min-count.ensures c.in_default.ensures, c.if-len-names.true, refl)

pub returns : goal.returns
returns g c =
    (finds_first g.K.Kind.text c.args.names.now (g.K.Kind.text c.args.name) c.args.len c.min-count.result None c.min-count.ensures c.in_default.ensures, refl, c.if-len-names.false, refl)
