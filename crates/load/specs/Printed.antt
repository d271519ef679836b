-- The printed lines, as bytes.
use Rattle.std.specs.Prelude.{◌≡◌, ℕ, ◌+◌, ◌<◌, ◌≤◌, List, [], ◌∷◌, ◌++◌, length, ℤ, Some, None, Ok, Err, vec_items, vec_capacity, codes, decimal, Option, Result, Vec, slice_index_or}
use Rattle.std.specs.List.{flat_map}
use Rattle.std.specs.Fmt.{signed_decimal}
use Rattle.load.specs.declared.report.Report.{Report}
use Rattle.load.specs.declared.report.Finished.{Finished}

-- a text is put behind the bytes of a vector, whose room does not shrink
abbrev pub Put : {Z : Type 0} → List ℕ → Vec ℕ Z → Vec ℕ Z → Type 0
Put text before after = (vec_items after ≡ vec_items before ++ text) × (vec_capacity before ≤ vec_capacity after)

-- a vector has not room for a text
abbrev pub Lacks : {Z : Type 0} → List ℕ → Vec ℕ Z → Type 0
Lacks text before = vec_capacity before < length (vec_items before) + length text

-- a text is put behind the bytes of a vector; or memory was wanting, which is so only where there was not room for all of it
abbrev pub Appends : {Z E : Type 0} → List ℕ → Vec ℕ Z → Vec ℕ Z → Result (Unit {0}) E → Type 0
Appends text before after (Ok _) = Put text before after
Appends text before after (Err _) = Lacks text before

-- a space and a text
abbrev pub spaced : List ℕ → List ℕ
spaced t = 32 ∷ t

-- a space and a number
abbrev pub field : ℕ → List ℕ
field n = spaced (decimal n)

-- a line: a label, what follows it, and a line feed
abbrev pub line : List ℕ → List ℕ → List ℕ
line label rest = label ++ (rest ++ (10 ∷ []))

-- a label and numbers; with none, the bare label
abbrev pub list_line : List ℕ → List ℕ → List ℕ
list_line label ns = line label (flat_map field ns)

-- a label and texts; with none, the bare label
abbrev pub text_line : List ℕ → List (List ℕ) → List ℕ
text_line label ts = line label (flat_map spaced ts)

-- the first line: a plan's items, vertices, width and cuts
abbrev pub plan_line : Report → List ℕ
plan_line r = list_line (codes "plan") (r.items ∷ r.vertices ∷ r.width ∷ r.cuts ∷ [])

-- the second: the stamps that stand, and the fewest and the most to come
abbrev pub stamps_line : Report → List ℕ
stamps_line r = list_line (codes "stamps") (r.stamps ∷ r.fewest ∷ r.most ∷ [])

-- the third: the least and the greatest correction
abbrev pub span_line : ℤ → ℤ → List ℕ
span_line low high = text_line (codes "span") (signed_decimal low ∷ signed_decimal high ∷ [])

-- a line in place of what a sheet that is not finished does not have
abbrev pub absent_line : List ℕ → List ℕ
absent_line label = line label (codes " -")

-- the third to the fifth line
abbrev pub finished_lines : Option Finished → List ℕ
finished_lines (Some f) = span_line f.low f.high ++ (list_line (codes "bays") f.bays.now ++ list_line (codes "reading") f.reading.now)
finished_lines None = absent_line (codes "span") ++ (absent_line (codes "bays") ++ absent_line (codes "reading"))

-- the first five lines
abbrev pub report_bytes : Report → List ℕ
report_bytes r = plan_line r ++ (stamps_line r ++ finished_lines r.finished)

-- a space and the text of a name, which is given by its number among the names
abbrev pub named : List (List ℕ) → ℕ → List ℕ
named texts i = spaced (slice_index_or texts i [])

-- the sixth: the texts of the names that may follow
abbrev pub next_line : List (List ℕ) → List ℕ → List ℕ
next_line texts numbers = line (codes "next") (flat_map (named texts) numbers)

-- the one line of a file that is refused
abbrev pub refusal_line : ℕ → ℕ → List ℕ
refusal_line number place = list_line (codes "refused") (number ∷ place ∷ [])
