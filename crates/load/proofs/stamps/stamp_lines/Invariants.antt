use Rattle.std.proofs.Common.{◌≡◌, ◌++◌, List, length, drop}
use Rattle.sheet.specs.Views.{ground_of, stands_on}
use Rattle.load.specs.Files.{Placed, lines_at}
use Rattle.load.specs.Judged.{Taken, texts_of}
use Rattle.load.specs.LinesLeft.{lines_left}
use Rattle.load.proofs.stamps.stamp_lines.Given as goal

abbrev pub invariant-loop-line : goal.invariant-loop-line
invariant-loop-line g l =
    (l.sheet.plan ≡ l.initial.sheet.plan)
    × (l.sheet.names ≡ l.initial.sheet.names)
    × ((done : List Placed)
    × (lines_at l.from (drop l.from l.body) ≡ done ++ lines_left l.line-iterator)
    × Taken g.K.Kind.has (ground_of g.K.Kind.text l.initial.sheet) done
    × (stands_on g.K.Kind.text l.sheet ≡ texts_of done)
    × (l.count ≡ length done))
