-- An outline has a line for each item.
use Rattle.std.proofs.Common.{◌≡◌, ℕ, suc, ◌+◌, length, refl, ap, ◌∙◌, ap₂}
use Rattle.std.proofs.lemmas.List.{length-append}
use Rattle.meaning.specs.Shape.{Shape, leaf, bracket, join, leaves, items}
use Rattle.layout.specs.Outlines.{outline_from, OutlinesAreWhole}

whole_from : (d k : ℕ) (e : Shape) → length (outline_from d k e) ≡ items e
whole_from d k (leaf b) = refl
whole_from d k (bracket s e) = ap suc (whole_from (d + 1) k e)
whole_from d k (join l e f) =
    length-append (outline_from d k e) (outline_from d (k + leaves e) f) ∙ ap₂ (λ x y. x + y) (whole_from d k e) (whole_from d (k + leaves e) f)

pub outlines_are_whole : OutlinesAreWhole
outlines_are_whole e = whole_from 0 0 e
