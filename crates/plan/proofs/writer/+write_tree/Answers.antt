use Rattle.std.proofs.Common.{◌+◌, length, map, set, sym, ap, subst, arith, rules}
use Rattle.std.proofs.lemmas.List.{length-drop, length-set}
use Rattle.std.specs.Slice.Iter.{iter_rest}
use Rattle.meaning.specs.Shape.{leaves}
use Rattle.layout.specs.Tree.{sort_of, link_of, shape_of}
use Rattle.layout.specs.declared.tree.Tree.TheFolds.{the_lemmas}
use Rattle.plan.specs.Writes.{AllNumbered}
use Rattle.plan.proofs.Writing.{part_length}
use Rattle.plan.proofs.WritingTrees.{bracket_shape, join_shape, join_length, numbered_rest, laid_bracket, laid_join}
use Rattle.plan.proofs.writer.+write_tree.Goals as goal

pub returns-in-Bracket-clause-laid : goal.returns-in-Bracket-clause-laid
returns-in-Bracket-clause-laid g t c =
    let s = bracket_shape c.args.tree.now c.deref.result.now c.in-Bracket.sort c.in-Bracket.e c.in-Bracket.is c.deref.ensures in
    laid_bracket (iter_rest c.args.leaves.now) (map g.K.Kind.text c.args.names.now) (shape_of c.args.tree.now) c.args.buffer.now c.requires.room
    (sort_of c.in-Bracket.sort) (shape_of c.deref.result.now) c.bracket_sign.result c.write_tree-end.result c.write_tree-end.new.buffer s c.bracket_sign.ensures c.write_tree-end.ensures.laid

pub write_tree-requires : goal.write_tree-requires
write_tree-requires g t c κs within =
    let s = join_shape c.args.tree.now c.deref-in-Join.result.now c.deref-in-Join-2.result.now c.in-Join.link c.in-Join.e c.in-Join.f c.in-Join.is c.deref-in-Join.ensures c.deref-in-Join-2.ensures in
    let q = c.write_tree-end-in-Join.ensures in
    let ls = iter_rest c.args.leaves.now in
    let e = shape_of c.deref-in-Join.result.now in
    let ys = set c.write_tree-end-in-Join.new.buffer c.write_tree-end-in-Join.result c.separator.result in
    let size = join_length ls (map g.K.Kind.text c.args.names.now) (shape_of c.args.tree.now) (link_of c.in-Join.link) e (shape_of c.deref-in-Join-2.result.now) (iter_rest c.write_tree-end-in-Join.new.leaves) s q.rest in (
      search (rules, the_lemmas),
      (
        search rules,
        (
          omega (arith, c.requires.enough, ap leaves s, ap length q.rest, length-drop (leaves e) ls),
          (
            subst (AllNumbered (length c.args.names.now)) (sym q.rest) (numbered_rest (length c.args.names.now) (leaves e) ls c.requires.named),
            omega (arith, c.requires.room, size, q.laid.ends, c.write_tree-end-in-Join.auto.buffer, length-set c.write_tree-end-in-Join.new.buffer c.write_tree-end-in-Join.result c.separator.result, part_length (c.write_tree-end-in-Join.result + 1) ys),
          ),
        ),
      ),
    )

pub returns-in-Join-clause-laid : goal.returns-in-Join-clause-laid
returns-in-Join-clause-laid g t c =
    let s = join_shape c.args.tree.now c.deref-in-Join.result.now c.deref-in-Join-2.result.now c.in-Join.link c.in-Join.e c.in-Join.f c.in-Join.is c.deref-in-Join.ensures c.deref-in-Join-2.ensures in
    let q = c.write_tree-end-in-Join.ensures in
    laid_join (iter_rest c.args.leaves.now) (map g.K.Kind.text c.args.names.now) (shape_of c.args.tree.now) c.args.buffer.now c.requires.room
    (link_of c.in-Join.link) (shape_of c.deref-in-Join.result.now) (shape_of c.deref-in-Join-2.result.now) (iter_rest c.write_tree-end-in-Join.new.leaves) c.separator.result
    c.write_tree-end-in-Join.result c.write_tree.result c.write_tree-end-in-Join.new.buffer c.write_tree.new.buffer
    s q.rest c.separator.ensures q.laid c.write_tree.ensures.laid
