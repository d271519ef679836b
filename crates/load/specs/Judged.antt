-- What a load file is judged to be, and what it is refused for.
use Rattle.std.specs.Prelude.{◌≡◌, ℕ, ◌≤◌, Bool, true, false, List, [], ◌∷◌, ◌++◌, map, length, take, drop, ℤ, Some, None, Ok, Err, Option, Result, slice_index_or}
use Rattle.std.specs.List.{AllByRecursion}
use Rattle.text.specs.Directory.{Text}
use Rattle.plan.specs.Parses.{Accepts, ReadsPlan, RefusedFor}
use Rattle.meaning.specs.Shape.{Shape}
use Rattle.layout.specs.Tree.{shape_of}
use Rattle.reader.specs.declared.draft.Draft.{Draft}
use Rattle.grammar.specs.declared.leaf.Marks.{Marks}
use Rattle.plan.specs.declared.plan.Plan.{Plan}
use Rattle.grammar.specs.declared.refusal.Refusal.{Refusal}
use Rattle.engine.specs.declared.bays.Bays.{Bays}
use Rattle.engine.specs.declared.pair.Pair.{Pair}
use Rattle.engine.specs.declared.span.Span.{Span}
use Rattle.engine.specs.Scales.{no_span, wider, moved_by, no_bay, both, with_bay, bays_of}
use Rattle.engine.specs.Answers.{Distance, Amount, FirstReading}
use Rattle.sheet.specs.Calls.{Ground, Begins, Follows, Reads, RisingList, shortage}
use Rattle.sheet.specs.Views.{ground_over}
use Rattle.load.specs.Files.{Placed, Framed, plan_text, stamp_lines}
use Rattle.load.specs.LoadRefusals.{counted_from}
use Rattle.plan.specs.Reads.{counts_of}
use Rattle.plan.specs.declared.reading.Counts.{Counts}
use Rattle.load.specs.declared.judgement.Completed.{Completed}
use Rattle.load.specs.declared.judgement.Judgement.{Judgement}
use Rattle.load.specs.declared.opening.Opening.{Opening}
use Rattle.load.specs.declared.trailer.Frame.{Frame}
use Rattle.load.specs.declared.refusal.LoadError.{LoadError}
use Rattle.load.specs.declared.refusal.LoadError.TheVariants as load-error
use Rattle.load.specs.declared.refusal.LoadRefusal.{LoadRefusal}
use Rattle.load.specs.declared.refusal.LoadRefusal.TheVariants as load-refusal

-- the texts of lines
abbrev pub texts_of : List Placed → List Text
texts_of lines = map (λ x. x.1) lines

-- each line is a name of the kind
abbrev pub AllNamed : (Text → Bool) → List Placed → Type 0
AllNamed has lines = AllByRecursion (λ x. has x.1 ≡ true) lines

-- lines that are taken: each is a name of the kind, and some log begins with them all
pub record Taken (has : Text → Bool) (g : Ground) (lines : List Placed) : Type 0 where
  pub named : AllNamed has lines
  pub begun : Begins g (texts_of lines)

-- a line of a list, with the lines before it taken
pub record Reached (has : Text → Bool) (g : Ground) (lines before : List Placed) (x : Placed) : Type 0 where
  pub after : List Placed
  pub split : lines ≡ before ++ (x ∷ after)
  pub taken : Taken has g before

-- why one of these stamp lines is refused: the lines before it are taken, and it is no name, or may not follow
abbrev pub RefusedLine : (Text → Bool) → Ground → List Placed → LoadRefusal → Type 0
RefusedLine has g lines (load-refusal.Short n) = ⊥
RefusedLine has g lines (load-refusal.File f) = ⊥
RefusedLine has g lines (load-refusal.Plan f) = ⊥
RefusedLine has g lines (load-refusal.Unnamed place) =
    (before : List Placed) × (x : Placed) × Reached has g lines before x × (place ≡ x.0) × (has x.1 ≡ false)
RefusedLine has g lines (load-refusal.Untaken place) =
    (before : List Placed) × (x : Placed) × Reached has g lines before x × (place ≡ x.0) × (has x.1 ≡ true) × (Follows g (texts_of before) x.1 → ⊥)

-- all lines stand as stamps; or one is refused
abbrev pub LinesStamped : (Text → Bool) → Ground → List Placed → List Text → Result ℕ LoadRefusal → Type 0
LinesStamped has g lines stands (Ok n) = Taken has g lines × (stands ≡ texts_of lines) × (n ≡ length lines)
LinesStamped has g lines stands (Err f) = RefusedLine has g lines f

-- what an amount of span and bays means, and its scale: part by part
abbrev pub amount_of : Pair Span Bays → (ℤ × ℤ) × (ℕ → Bool)
amount_of s = ((s.first.low, s.first.high), bays_of s.second)

abbrev pub amounts_joined : (ℤ × ℤ) × (ℕ → Bool) → (ℤ × ℤ) × (ℕ → Bool) → (ℤ × ℤ) × (ℕ → Bool)
amounts_joined x y = (wider x.0 y.0, both x.1 y.1)

abbrev pub start_amount : (ℤ × ℤ) × (ℕ → Bool)
start_amount = (no_span, no_bay)

abbrev pub amount_extended : (ℤ × ℤ) × (ℕ → Bool) → Marks → (ℤ × ℤ) × (ℕ → Bool)
amount_extended x m = (moved_by x.0 m, with_bay x.1 m)

-- the fewest and the most stamps to come behind σ
abbrev pub ToCome : Ground → List Text → ℕ → ℕ → Type 0
ToCome g σ fewest most = Distance g.shape g.leaves g.texts σ fewest most

-- a list of so many stands in front of a buffer, and the entries behind it are as before
abbrev pub InFront : ℕ → List ℕ → List ℕ → Type 0
InFront n before after = (n ≤ length after) × (drop n after ≡ drop n before)

-- σ is finished exactly if it has a reading: then the amount is the join over all readings, and the first of them is listed
abbrev pub Finishes : Ground → List Text → List ℕ → List ℕ → Option Completed → Type 0
Finishes g σ before after (Some f) =
    Amount amounts_joined start_amount amount_extended g.shape g.leaves g.texts σ (amount_of f.amount)
    × FirstReading g.shape g.leaves g.texts σ (take f.leaves after)
    × InFront f.leaves before after
Finishes g σ before after None = ((w : List ℕ) → Reads g σ w → ⊥) × (after ≡ before)

-- the numbers of the plan's names that may follow σ, rising, are listed
abbrev pub Lists : Ground → List Text → List ℕ → List ℕ → ℕ → Type 0
Lists g σ before after n = RisingList (λ k. Follows g σ (slice_index_or g.texts k [])) g.names (take n after) × InFront n before after

-- the answers of a sheet with the stamps σ, with the buffers for the first reading and for the names that may follow
pub record AnswersOf (g : Ground) (σ : List Text) (reading reading_after next next_after : List ℕ) (j : Judgement) : Type 0 where
  pub stamps : j.stamps ≡ length σ
  pub to_come : ToCome g σ j.fewest j.most
  pub finished : Finishes g σ reading reading_after j.finished
  pub follow : Lists g σ next next_after j.next

-- the stamp lines are judged over a ground: all are taken, and the sheet answers; or one is refused, and the buffers stay
abbrev pub StampsJudged : (Text → Bool) → Ground → List Placed → Counts → List ℕ → List ℕ → List ℕ → List ℕ → Result Judgement LoadError → Type 0
StampsJudged has g lines counts reading reading_after next next_after (Ok j) =
    Taken has g lines × AnswersOf g (texts_of lines) reading reading_after next next_after j × (j.counts ≡ counts)
StampsJudged has g lines counts reading reading_after next next_after (Err (load-error.Refused f)) =
    RefusedLine has g lines f × (reading_after ≡ reading) × (next_after ≡ next)
StampsJudged has g lines counts reading reading_after next next_after (Err (load-error.Memory x)) = ⊥

-- the first length that is too short, of the buffers for names, the first reading, the names that may follow, numbers and amounts
abbrev pub lent_short : ℕ → ℕ → ℕ → ℕ → ℕ → Option ℕ
lent_short names reading next numbers amounts =
    shortage ((names, 128) ∷ ((reading, 128) ∷ ((next, 128) ∷ ((numbers, 32768) ∷ ((amounts, 8192) ∷ [])))))

-- neither a file's frame nor its plan is refused: the plan is p, with its names at the front of the names buffer
pub record Opened {K : Type 0} (text : K → Text) (has : Text → Bool) (file : List ℕ) (before after : List K) (p : Plan) : Type 0 where
  pub frame : Frame
  pub framed : Framed file (Ok frame)
  pub reads : ReadsPlan text has (plan_text file frame) before after p

-- a load file is judged: all its stamp lines are taken, and the answers are those of its plan's sheet with these stamps
pub record Judged {K : Type 0} (text : K → Text) (has : Text → Bool) (file : List ℕ) (before after : List K) (p : Plan)
    (reading reading_after next next_after : List ℕ) (j : Judgement) : Type 0 where
  pub opened : Opened text has file before after p
  pub counts : j.counts ≡ counts_of (shape_of p.tree)
  pub taken : Taken has (ground_over text p after) (stamp_lines file opened.frame)
  pub answers : AnswersOf (ground_over text p after) (texts_of (stamp_lines file opened.frame)) reading reading_after next next_after j

-- one of the stamp lines of a file is refused, over its plan
abbrev pub RefusedStamp : {K : Type 0} → (K → Text) → (Text → Bool) → List ℕ → List K → LoadRefusal → Type 0
RefusedStamp {K} text has file before f =
    (p : Plan) × (after : List K) × (o : Opened text has file before after p) × RefusedLine has (ground_over text p after) (stamp_lines file o.frame) f

-- what a load file is refused for, where no buffer is too short: its frame; its plan, with places counted from the file's
-- start; or a stamp line
abbrev pub RefusedFile : {K : Type 0} → (K → Text) → (Text → Bool) → List ℕ → List K → LoadRefusal → Type 0
RefusedFile text has file before (load-refusal.Short n) = ⊥
RefusedFile text has file before (load-refusal.File f) = Framed file (Err f)
RefusedFile text has file before (load-refusal.Plan f) =
    (t : Frame) × Framed file (Ok t) × ((r : Refusal) × RefusedFor has (length before) (plan_text file t) r × (f ≡ counted_from t.plan r))
RefusedFile text has file before (load-refusal.Unnamed place) = RefusedStamp text has file before (load-refusal.Unnamed place)
RefusedFile text has file before (load-refusal.Untaken place) = RefusedStamp text has file before (load-refusal.Untaken place)

-- neither the frame nor the plan of a file is refused; so memory may be found wanting
abbrev pub UnrefusedFile : {K : Type 0} → (Text → Bool) → List ℕ → List K → Type 0
UnrefusedFile has file before =
    (t : Frame) × Framed file (Ok t) × ((e : Shape) × (ds : List Draft) × Accepts has (length before) (plan_text file t) e ds)

-- what is found before the stamp lines: where the parts stand and what is told of the plan; or why that is refused
abbrev pub OpeningAnswer : {K : Type 0} → (K → Text) → (Text → Bool) → List ℕ → List K → List K → Plan → Result Opening LoadError → Type 0
OpeningAnswer text has file before after p (Ok o) =
    Framed file (Ok o.frame) × ReadsPlan text has (plan_text file o.frame) before after p × (o.counts ≡ counts_of (shape_of p.tree))
OpeningAnswer text has file before after p (Err (load-error.Refused f)) = RefusedFile text has file before f
OpeningAnswer text has file before after p (Err (load-error.Memory x)) = UnrefusedFile has file before

-- what judging a file answers: where a buffer is too short, that; else the judgement, or the refusal; and memory is wanting
-- only where neither the frame nor the plan is refused
abbrev pub Judging : {K : Type 0} → (K → Text) → (Text → Bool) → List ℕ → List K → List K → Plan → List ℕ → List ℕ → List ℕ → List ℕ
    → Option ℕ → Result Judgement LoadError → Type 0
Judging text has file before after p reading reading_after next next_after (Some n) r = r ≡ Err (load-error.Refused (load-refusal.Short n))
Judging text has file before after p reading reading_after next next_after None (Ok j) = Judged text has file before after p reading reading_after next next_after j
Judging text has file before after p reading reading_after next next_after None (Err (load-error.Refused f)) = RefusedFile text has file before f
Judging text has file before after p reading reading_after next next_after None (Err (load-error.Memory x)) = UnrefusedFile has file before

-- where a file is not judged, the buffers for results stay as they were
abbrev pub LeftAlone : Result Judgement LoadError → List ℕ → List ℕ → List ℕ → List ℕ → Type 0
LeftAlone (Ok j) reading reading_after next next_after = Unit {0}
LeftAlone (Err e) reading reading_after next next_after = (reading_after ≡ reading) × (next_after ≡ next)
