-- Which shape stands for what a reader holds of an expression.
use Rattle.std.specs.Prelude.{◌≡◌, Ok, Err, Result}
use Rattle.meaning.specs.Shape.{Shape}
use Rattle.layout.specs.Sizes.{Sizes}
use Rattle.layout.specs.Tree.{shape_of}
use Rattle.reader.specs.declared.branch.Branch.{Branch}
use Rattle.layout.specs.declared.tree.Tree.{Tree}

-- the tree, where there is one, is of this shape
abbrev pub OfShape : {E : Type 0} → Shape → Result Tree E → Type 0
OfShape e (Err x) = Unit {0}
OfShape e (Ok t) = shape_of t ≡ e

pub record Means (e : Shape) (b : Branch) : Type 0 where
  pub sized : Sizes e b.size
  pub tree : OfShape e b.tree
