-- Lines of a text.
use Rattle.std.specs.Prelude.{◌≡◌, ℕ, ◌+◌, ◌<◌, ◌≤◌, Bool, not, List, length, Some, None, Option, ◌==◌}
use Rattle.text.specs.Bytes.{between, Longest}
use Rattle.load.specs.declared.lines.Line.{Line}

-- a byte of a line: no line feed
abbrev pub in_line : ℕ → Bool
in_line b = not (b == 10)

-- a line stands at a place: its bytes go up to a line feed, or to the text's end
abbrev pub Lies : List ℕ → ℕ → ℕ → Type 0
Lies t at end = (at < length t) × Longest in_line t at end

-- the line at a place, and that the next one begins behind its end; or the text ends before the place
abbrev pub LineAt : List ℕ → ℕ → Option Line → Type 0
LineAt t at (Some l) = (l.at ≡ at) × ((end : ℕ) × Lies t at end × (l.text.now ≡ between t at end) × (l.next ≡ end + 1))
LineAt t at None = length t ≤ at
