-- The lines that a load file's judgement, or its refusal, is printed in.
use Rattle.std.specs.Prelude.{ℕ, zero, suc, Bool, cond, List, [], ◌∷◌, ◌++◌, take, Some, None, codes, Option}
use Rattle.engine.specs.Scales.{bays_of}
use Rattle.load.specs.LoadRefusals.{load_code}
use Rattle.load.specs.Printed.{list_line, span_line, absent_line, next_line, refusal_line}
use Rattle.plan.specs.declared.reading.Counts.{Counts}
use Rattle.load.specs.declared.judgement.Completed.{Completed}
use Rattle.load.specs.declared.judgement.Judgement.{Judgement}
use Rattle.load.specs.declared.refusal.LoadRefusal.{LoadRefusal}

-- the first line: items, vertices, width and cuts
abbrev pub counts_line : Counts → List ℕ
counts_line c = list_line (codes "plan") (c.items ∷ c.vertices ∷ c.width ∷ c.cuts ∷ [])

-- the second: how many stamps stand, and the fewest and the most to come
abbrev pub standing_line : Judgement → List ℕ
standing_line j = list_line (codes "stamps") (j.stamps ∷ j.fewest ∷ j.most ∷ [])

-- the numbers of a set below a bound, rising
unfoldable pub members : (ℕ → Bool) → ℕ → List ℕ
members set zero = []
members set (suc n) = members set n ++ cond (set n) (n ∷ []) []

-- the fourth: the bays, of 0 to 63
abbrev pub bays_line : (ℕ → Bool) → List ℕ
bays_line set = list_line (codes "bays") (members set 64)

-- the third to the fifth line; the first reading stands at the front of a buffer
abbrev pub completed_lines : List ℕ → Option Completed → List ℕ
completed_lines reading (Some f) =
    span_line f.amount.first.low f.amount.first.high
    ++ (bays_line (bays_of f.amount.second) ++ list_line (codes "reading") (take f.leaves reading))
completed_lines reading None = absent_line (codes "span") ++ (absent_line (codes "bays") ++ absent_line (codes "reading"))

-- the first five lines
abbrev pub judged_bytes : List ℕ → Judgement → List ℕ
judged_bytes reading j = counts_line j.counts ++ (standing_line j ++ completed_lines reading j.finished)

-- all six lines: the first reading and the names that may follow stand at the front of their buffers
abbrev pub judgement_bytes : List ℕ → List (List ℕ) → List ℕ → Judgement → List ℕ
judgement_bytes reading texts next j = judged_bytes reading j ++ next_line texts (take j.next next)

-- what is printed of a load file that is refused: its number and place
abbrev pub refused_bytes : LoadRefusal → List ℕ
refused_bytes f = refusal_line (load_code f).0 (load_code f).1
