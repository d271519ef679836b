-- Going from line to line of a text.
use Rattle.std.specs.Prelude.{◌≡◌, ℕ, ◌-◌, List, length, Some, None, Option}
use Rattle.std.specs.Iterator.{Count, at_most}
use Rattle.load.specs.declared.lines.Line.{Line}
use Rattle.show.specs.Lines.{LineAt}
use Rattle.show.specs.declared.lines.Lines.{Lines}

-- the lines of a text from a place on
abbrev pub Begins : List ℕ → ℕ → Lines → Type 0
Begins t from s = (s.text.now ≡ t) × (s.at ≡ from)

-- where the next line is looked for
abbrev pub Moves : Option Line → ℕ → ℕ → Type 0
Moves (Some l) at to = to ≡ l.next
Moves None at to = to ≡ at

-- one line of the text, if there is one more
abbrev pub Steps : Lines → Option Line → Lines → Type 0
Steps s r t = LineAt s.text.now s.at r × (t.text.now ≡ s.text.now) × Moves r s.at t.at

-- at most so many lines are left
abbrev pub bytes_left : Lines → Count
bytes_left s = at_most (length s.text.now - s.at)
