-- What a text is judged by, as the machine sees it.
use Rattle.std.specs.Prelude.{◌≡◌, ℕ, ◌+◌, ◌<◌, ◌≤◌, Bool, true, List, [], map}
use Rattle.meaning.specs.Shape.{Shape}
use Rattle.meaning.specs.Counts.{free_cuts, locked_cuts, width}
use Rattle.meaning.specs.Limits.{well_formed}
use Rattle.grammar.specs.Machine.{fresh, live, run, accepts}
use Rattle.grammar.specs.Faults.{Refuses, First}
use Rattle.reader.specs.Drafts.{draft_text, is_named, Placed, kinds, spelled}
use Rattle.reader.specs.Judged.{ReadWhole}
use Rattle.reader.specs.declared.branch.Branch.{Branch}
use Rattle.reader.specs.declared.draft.Draft.{Draft}
use Rattle.grammar.specs.declared.refusal.Refusal.{Refusal}
use Rattle.grammar.specs.declared.refusal.Refusal.TheVariants.{Short, Length, Form, NoName, Mark, Depth, Many, Width, Cuts, Twice}

-- the text is that of a plan of this shape, with these leaves in order
pub record Spells (t : List ℕ) (e : Shape) (ds : List Draft) : Type 0 where
  pub text : t ≡ spelled e (map (draft_text t) ds)
  pub kind : kinds e ≡ map is_named ds
  pub placed : Placed t ds
  pub formed : well_formed e ≡ true

-- as the machine sees it: of the refusals 2 to 6 there is none, where `has` says which texts have a name
pub record Nothing (has : List ℕ → Bool) (t : List ℕ) : Type 0 where
  pub accepted : accepts (run (live [] fresh) t) ≡ true
  pub none : (f : Refusal) → Refuses has t f → ⊥

-- as the machine sees it: the refusal of a text of 1 to 2,048 bytes: the first of 2 to 6; and where there is none, 7 and then 8
abbrev pub Judges : (List ℕ → Bool) → List ℕ → Refusal → Type 0
Judges has t (Short n) = ⊥
Judges has t Length = ⊥
Judges has t (Form p) = First has t (Form p)
Judges has t (NoName p) = First has t (NoName p)
Judges has t (Mark p) = First has t (Mark p)
Judges has t (Depth p) = First has t (Depth p)
Judges has t (Many p) = First has t (Many p)
Judges has t (Width w) = Nothing has t × ((e : Shape) × (ds : List Draft) × Spells t e ds × (w ≡ width e) × (8 < w))
Judges has t Cuts = Nothing has t × ((e : Shape) × (ds : List Draft) × Spells t e ds × (width e ≤ 8) × (4096 < free_cuts e + locked_cuts e))
Judges has t (Twice n) = ⊥

-- nothing is refused
pub record Granted (has : List ℕ → Bool) (t : List ℕ) (ds : List Draft) (b : Branch) : Type 0 where
  pub nothing : Nothing has t
  pub whole : ReadWhole t ds b
  pub wide : width whole.drawn.shape ≤ 8
  pub cuts : free_cuts whole.drawn.shape + locked_cuts whole.drawn.shape ≤ 4096
