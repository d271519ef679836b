-- What a sheet stands on, and what stands on it.
use Rattle.std.specs.Prelude.{◌≡◌, ℕ, List, map, length, take, vec_items}
use Rattle.text.specs.Directory.{Text}
use Rattle.text.specs.declared.kind.Kind.{Ghosts}
use Rattle.layout.specs.Tree.{shape_of}
use Rattle.plan.specs.declared.plan.Plan.{Plan}
use Rattle.sheet.specs.declared.page.Sheet.{Sheet}
use Rattle.sheet.specs.Calls.{Ground}
use Rattle.engine.specs.Fits.{standing}
use Rattle.engine.specs.declared.searching.Search.{Search}
use Rattle.meaning.specs.CutOrder.{cut_list}
use Rattle.spots.specs.MoveList.{move_list}

-- a plan and the names handed over
abbrev pub ground_over : {K : Type 0} → (K → Text) → Plan → List K → Ground
ground_over text plan names = record { shape = shape_of plan.tree; leaves = vec_items plan.leaves; names = plan.names; texts = map text names }

abbrev pub ground_of : {K : Type 0} {G : Ghosts K} → (K → Text) → Sheet K G → Ground
ground_of text s = ground_over text s.plan.now s.names.now

-- the texts of the standing stamps
abbrev pub stands_on : {K : Type 0} {G : Ghosts K} → (K → Text) → Sheet K G → List Text
stands_on text s = standing (map text s.names.now) (take s.count s.stamps)

-- a search that goes over a plan, the names handed over, and stamps that are kept as numbers of names
pub record GoesOver {K : Type 0} (p : Plan) (handed : List K) (stood : List ℕ) (s : Search K) : Type 0 where
  pub rows : s.rows ≡ length (cut_list (shape_of p.tree))
  pub moves : s.moves.now ≡ move_list (shape_of p.tree)
  pub leaves : s.leaves.now ≡ vec_items p.leaves
  pub names : s.names.now ≡ handed
  pub stamps : s.stamps.now ≡ stood
