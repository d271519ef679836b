use Rattle.std.proofs.Common.{◌≡◌, true, sym, ◌∙◌}
use Rattle.reader.specs.Judged.{lacks}
use Rattle.reader.proofs.ReadingUnnamed.{clear, clear_first, clear_behind, none_lacks}
use Rattle.reader.proofs.names.lacks_name.Goals.{else-at-gt0-via-then-at-gt0+else-is_name_byte, else-at-gt0-via-else-at-gt0}
use Rattle.reader.proofs.names.lacks_name.Goals as goal

pub returns-in-Name : goal.returns-in-Name
returns-in-Name g c =
    let free : clear c.args.text.now c.args.at ≡ true = elim c.else-at-gt0.branch [
      | else-at-gt0-via-then-at-gt0+else-is_name_byte w ↦ clear_behind c.args.text.now c.args.at (sym w.is_name_byte.ensures ∙ w.if-is_name_byte.false)
      | else-at-gt0-via-else-at-gt0 w ↦ clear_first c.args.text.now c.args.at w.if-at-gt0.false
    ] in
    let s = c.in-Name.ensures in
    let e : c.is_none.result ≡ lacks g.K.Kind.has c.args.text.now c.args.at =
    none_lacks g.K.Kind.text g.K.Kind.has g.met.K.Kind.named c.args.text.now c.args.at c.in-Name.run'.now c.of_text.result c.of_text.ensures c.is_none.result c.is_none.ensures free s.1 s.2 in
    cc

pub returns-in_default : goal.returns-in_default
returns-in_default g c =
    let free : clear c.args.text.now c.args.at ≡ true = elim c.else-at-gt0.branch [
      | else-at-gt0-via-then-at-gt0+else-is_name_byte w ↦ clear_behind c.args.text.now c.args.at (sym w.is_name_byte.ensures ∙ w.if-is_name_byte.false)
      | else-at-gt0-via-else-at-gt0 w ↦ clear_first c.args.text.now c.args.at w.if-at-gt0.false
    ] in
    let s = c.in-Name.ensures in
    let e : c.is_none.result ≡ lacks g.K.Kind.has c.args.text.now c.args.at =
    none_lacks g.K.Kind.text g.K.Kind.has g.met.K.Kind.named c.args.text.now c.args.at c.in-Name.run'.now c.of_text.result c.of_text.ensures c.is_none.result c.is_none.ensures free s.1 s.2 in
    cc
