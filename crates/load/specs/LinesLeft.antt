-- What the lines of a load file's body give.
use Rattle.std.specs.Prelude.{List, drop}
use Rattle.load.specs.Files.{Placed, lines_at}
use Rattle.load.specs.declared.lines.Line.{Line}
use Rattle.load.specs.declared.lines.Lines.{Lines}

-- a line's place and its bytes
abbrev pub placed : Line → Placed
placed l = (l.at, l.text.now)

-- the lines to come
abbrev pub lines_left : Lines → List Placed
lines_left s = lines_at s.at (drop s.at s.body.now)
