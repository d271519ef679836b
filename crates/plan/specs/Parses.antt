-- What reading a text answers: the plan that it is, or the refusal of it.
use Rattle.std.specs.Prelude.{◌≡◌, ℕ, ◌+◌, ◌<◌, ◌≤◌, Bool, true, ◌⊎◌, List, [], ◌∷◌, map, length, take, drop, Ok, Err, vec_items, Result}
use Rattle.meaning.specs.Shape.{Shape, leaves}
use Rattle.meaning.specs.Counts.{free_cuts, locked_cuts, width}
use Rattle.meaning.specs.Limits.{within_limits}
use Rattle.grammar.specs.Readings.{FirstRefused, Unrefused}
use Rattle.reader.specs.Drafts.{named_to, kinds}
use Rattle.reader.specs.Entering.{Below, name_runs}
use Rattle.layout.specs.Tree.{shape_of}
use Rattle.grammar.specs.Written.{written}
use Rattle.text.specs.Directory.{directory}
use Rattle.grammar.specs.declared.leaf.Leaf.{Leaf}
use Rattle.plan.specs.declared.plan.Plan.{Plan}
use Rattle.grammar.specs.declared.refusal.PlanError.{PlanError}
use Rattle.grammar.specs.declared.refusal.PlanError.TheVariants.{Refused, Memory}
use Rattle.reader.specs.declared.draft.Draft.{Draft}
use Rattle.grammar.specs.declared.refusal.Refusal.{Refusal}
use Rattle.grammar.specs.declared.refusal.Refusal.TheVariants.{Short, Length, Form, NoName, Mark, Depth, Many, Width, Cuts, Twice}
use Rattle.reader.specs.Judging.{Spells}

-- the names buffer has 128 entries at least, and the text 1 to 2,048 bytes
pub record SizedWell (n : ℕ) (t : List ℕ) : Type 0 where
  pub room : 128 ≤ n
  pub some : 1 ≤ length t
  pub short : length t ≤ 2048

-- whether a leaf has a name, and that its number is below a limit
abbrev pub leaf_named : Leaf → Bool
leaf_named l = named_to l.name

abbrev pub AllBelow : ℕ → List Leaf → Type 0
AllBelow n [] = Unit {0}
AllBelow n (l ∷ ls) = Below n l.name × AllBelow n ls

-- the text is that of a plan, refused for none of 2 to 6, whose shape is e
abbrev pub Spelled : (List ℕ → Bool) → List ℕ → Shape → Type 0
Spelled has t e = Unrefused has t × ((ds : List Draft) × Spells t e ds)

-- the refusals of a text, where a names buffer has so many entries: 9, then 1, then the first of 2 to 6 in the grammar's
-- terms, then 7, then 8
abbrev pub RefusedFor : (List ℕ → Bool) → ℕ → List ℕ → Refusal → Type 0
RefusedFor has n t (Short k) = (n < 128) × (k ≡ 128)
RefusedFor has n t Length = (128 ≤ n) × ((length t ≡ 0) ⊎ (2048 < length t))
RefusedFor has n t (Form p) = SizedWell n t × FirstRefused has t (Form p)
RefusedFor has n t (NoName p) = SizedWell n t × FirstRefused has t (NoName p)
RefusedFor has n t (Mark p) = SizedWell n t × FirstRefused has t (Mark p)
RefusedFor has n t (Depth p) = SizedWell n t × FirstRefused has t (Depth p)
RefusedFor has n t (Many p) = SizedWell n t × FirstRefused has t (Many p)
RefusedFor has n t (Width w) = SizedWell n t × ((e : Shape) × Spelled has t e × (w ≡ width e) × (8 < w))
RefusedFor has n t Cuts = SizedWell n t × ((e : Shape) × Spelled has t e × (width e ≤ 8) × (4096 < free_cuts e + locked_cuts e))
RefusedFor has n t (Twice k) = ⊥

-- nothing is refused: the text is that of a plan within the limits
pub record Accepts (has : List ℕ → Bool) (n : ℕ) (t : List ℕ) (e : Shape) (ds : List Draft) : Type 0 where
  pub room : SizedWell n t
  pub nothing : Unrefused has t
  pub spells : Spells t e ds
  pub limits : within_limits e ≡ true

-- what reading answers, the names buffer before it and after it
pub record ReadsPlan {K : Type 0} (text : K → List ℕ) (has : List ℕ → Bool) (t : List ℕ) (before after : List K) (p : Plan) : Type 0 where
  pub drafts : List Draft
  pub accepts : Accepts has (length before) t (shape_of p.tree) drafts
  -- the text is the one that the plan is written as, under the names in the buffer
  pub written_so : t ≡ written (shape_of p.tree) (vec_items p.leaves) (map text (take p.names after))
  -- the leaves, which of them are `_`, and that their numbers are those of names
  pub number : leaves (shape_of p.tree) ≡ length (vec_items p.leaves)
  pub kind : kinds (shape_of p.tree) ≡ map leaf_named (vec_items p.leaves)
  pub below : AllBelow p.names (vec_items p.leaves)
  -- the names are distinct, in the order in which they come first, no more than leaves, and the entries behind them stay
  pub fits : p.names ≤ length (vec_items p.leaves)
  pub texts : map text (take p.names after) ≡ directory (name_runs t drafts)
  pub behind : drop p.names after ≡ drop p.names before

abbrev pub ParseAnswer : {K : Type 0} → (K → List ℕ) → (List ℕ → Bool) → List ℕ → List K → List K → Result Plan PlanError → Type 0
ParseAnswer text has t before after (Ok p) = ReadsPlan text has t before after p
ParseAnswer text has t before after (Err (Refused f)) = RefusedFor has (length before) t f × (after ≡ before)
ParseAnswer text has t before after (Err (Memory x)) = ((e : Shape) × (ds : List Draft) × Accepts has (length before) t e ds) × (after ≡ before)
