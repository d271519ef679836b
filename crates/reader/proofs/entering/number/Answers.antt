use Rattle.reader.proofs.ReadingEntered.{known_numbered, new_numbered}
use Rattle.reader.proofs.entering.number.Goals as goal

pub returns-in-Known : goal.returns-in-Known
returns-in-Known g c =
    let a = rw c.unwrap.ensures at c.add.ensures in
    known_numbered g.K.Kind.text c.args.names.now c.add.new.names c.args.count c.args.name c.unwrap.result c.requires.room c.in-Known.number c.in-Known.is a

pub returns-in-New : goal.returns-in-New
returns-in-New g c =
    let a = rw c.unwrap.ensures at c.add.ensures in
    new_numbered g.K.Kind.text c.args.names.now c.add.new.names c.args.count c.args.name c.unwrap.result c.requires.room c.in-New.number c.in-New.is a
