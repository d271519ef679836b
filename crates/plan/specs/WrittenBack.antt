-- What was read is written back: the text of a plan under the names that were read with it.
use Rattle.std.specs.Prelude.{◌≡◌, ℕ, ◌<◌, ◌≤◌, Bool, List, ◌++◌, map, length, drop, Ok, Err, vec_items, Result}
use Rattle.plan.specs.Parses.{ReadsPlan}
use Rattle.layout.specs.Tree.{shape_of}
use Rattle.plan.specs.Writes.{Renders}
use Rattle.grammar.specs.Written.{written}
use Rattle.plan.specs.declared.plan.Plan.{Plan}
use Rattle.grammar.specs.declared.refusal.Refusal.{Refusal}
use Rattle.grammar.specs.declared.refusal.Refusal.TheVariants.{Short}

-- a text t that was read as the plan p, its names into a buffer that is `after` then; whatever writing p under these names
-- answers, it is t where there is room for t, and refused with the length of t where there is not
abbrev pub WrittenBack : {K : Type 0} → (K → List ℕ) → (List ℕ → Bool) → Type 0
WrittenBack {K} text has =
    (t : List ℕ) (before after : List K) (p : Plan) → ReadsPlan text has t before after p → length after ≡ length before
    → (room kept : List ℕ) (r : Result ℕ Refusal)
    → Renders (written (shape_of p.tree) (vec_items p.leaves) (map text after)) (map text after) p.names room kept r
    → (length t ≤ length room → (r ≡ Ok (length t)) × (kept ≡ t ++ drop (length t) room))
    × (length room < length t → (r ≡ Err (Short (length t))) × (kept ≡ room))
