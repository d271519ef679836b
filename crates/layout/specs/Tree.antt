-- The shape that a tree in memory stands for: its boxes forgotten.
use Rattle.meaning.specs.Shape as S
use Rattle.meaning.specs.Shape.{Shape, leaf, bracket, join}
use Rattle.layout.specs.declared.tree.Sort.{Sort}
use Rattle.layout.specs.declared.tree.Sort.TheVariants.{Lock, Choice, Interleave}
use Rattle.layout.specs.declared.tree.Link.{Link}
use Rattle.layout.specs.declared.tree.Link.TheVariants.{Then, Or, Beside}
use Rattle.layout.specs.declared.tree.Tree.{Tree}
use Rattle.layout.specs.declared.tree.Tree.TheVariants.{Leaf, Bracket', Join'}

abbrev pub sort_of : Sort → S.Sort
sort_of Lock = S.lock
sort_of Choice = S.choice
sort_of Interleave = S.interleave

abbrev pub link_of : Link → S.Link
link_of Then = S.then
link_of Or = S.or
link_of Beside = S.beside

abbrev pub shape_of : Tree → Shape
shape_of (Leaf b) = leaf b
shape_of (Bracket' s p e) = bracket (sort_of s) (shape_of e)
shape_of (Join' l p e q f) = join (link_of l) (shape_of e) (shape_of f)
