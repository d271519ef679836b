use Rattle.std.proofs.Common.{◌≡◌, ℕ, ◌<◌, map, Some, w16, SFits, rules}
use Rattle.plan.proofs.WritingMarks.{texts_short, leaf_short}
use Rattle.plan.proofs.writer.leaf_length.Goals as goal

pub write_leaf-requires-clause-room : goal.write_leaf-requires-clause-room
write_leaf-requires-clause-room g c =
    let f : SFits w16 c.args.leaf.marks.correction = search rules in
    let b : (n : ℕ) → c.args.leaf.marks.bay ≡ Some n → n < 256 = search rules in
    let laws = g.met.K.Kind in
    let short = texts_short g.K.Kind.text c.args.names.now 12 (λ x. (laws.shaped _ (laws.named x)).short) in
    leaf_short (map g.K.Kind.text c.args.names.now) c.args.leaf short f b
