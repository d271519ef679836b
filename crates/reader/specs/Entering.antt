-- Names taken up into a directory, and the leaves that they number.
use Rattle.std.specs.Prelude.{◌≡◌, ℕ, ◌+◌, ◌<◌, ◌≤◌, Bool, true, List, [], ◌∷◌, map, length, take, drop, Some, None, Option, slice_index_or}
use Rattle.text.specs.Bytes.{between}
use Rattle.text.specs.Directory.{Text, added, directory}
use Rattle.grammar.specs.Written.{leaf_text}
use Rattle.reader.specs.Drafts.{draft_text, is_named, named_to}
use Rattle.reader.specs.declared.draft.Draft.{Draft}
use Rattle.grammar.specs.declared.leaf.Leaf.{Leaf}

-- the bytes of a name stand in the text, and the kind has them
abbrev pub HasName : (List ℕ → Bool) → List ℕ → ℕ → Option ℕ → Type 0
HasName has t p None = Unit {0}
HasName has t p (Some q) = (p ≤ q) × (q ≤ length t) × (has (between t p q) ≡ true)

abbrev pub AllNamed : (List ℕ → Bool) → List ℕ → List Draft → Type 0
AllNamed has t [] = Unit {0}
AllNamed has t (d ∷ ds) = HasName has t d.at d.end × AllNamed has t ds

-- the texts of the names, in order
abbrev pub with_run : List ℕ → ℕ → Option ℕ → List Text → List Text
with_run t p None ts = ts
with_run t p (Some q) ts = between t p q ∷ ts

abbrev pub name_runs : List ℕ → List Draft → List Text
name_runs t [] = []
name_runs t (d ∷ ds) = with_run t d.at d.end (name_runs t ds)

-- a directory with the name of a leaf added, if it has one
abbrev pub added_run : List Text → List ℕ → ℕ → Option ℕ → List Text
added_run us t p None = us
added_run us t p (Some q) = added us (between t p q)

-- a number below a limit
abbrev pub Below : ℕ → Option ℕ → Type 0
Below n None = Unit {0}
Below n (Some k) = k < n

-- a leaf is written as it was read, under these texts of names
pub record Match (texts : List Text) (t : List ℕ) (d : Draft) (l : Leaf) : Type 0 where
  pub text : leaf_text texts l ≡ draft_text t d
  pub kind : named_to l.name ≡ is_named d
  pub below : Below (length texts) l.name

abbrev pub Matches : List Text → List ℕ → List Draft → List Leaf → Type 0
Matches texts t [] [] = Unit {0}
Matches texts t [] (l ∷ ls) = ⊥
Matches texts t (d ∷ ds) [] = ⊥
Matches texts t (d ∷ ds) (l ∷ ls) = Match texts t d l × Matches texts t ds ls

-- a name is numbered in the directory that the first `count` names are, which then are n
pub record Numbered {K : Type 0} (text : K → Text) (before after : List K) (count : ℕ) (x : Text) (k n : ℕ) : Type 0 where
  pub texts : map text (take n after) ≡ added (map text (take count before)) x
  pub found : slice_index_or (map text (take n after)) k [] ≡ x
  pub low : k < length (map text (take n after))
  pub behind : drop n after ≡ drop n before
  pub least : count ≤ n
  pub most : n ≤ count + 1

-- a leaf is taken up so
pub record Enters {K : Type 0} (text : K → Text) (t : List ℕ) (d : Draft) (before after : List K) (count : ℕ) (l : Leaf) (n : ℕ) : Type 0 where
  pub texts : map text (take n after) ≡ added_run (map text (take count before)) t d.at d.end
  pub match : Match (map text (take n after)) t d l
  pub behind : drop n after ≡ drop n before
  pub least : count ≤ n
  pub most : n ≤ count + 1

-- the leaves of a text are taken up, as many as i
pub record Entered {K : Type 0} (text : K → Text) (t : List ℕ) (ds : List Draft) (before after : List K) (ls : List Leaf) (n i : ℕ) : Type 0 where
  pub texts : map text (take n after) ≡ directory (name_runs t (take i ds))
  pub done : Matches (map text (take n after)) t (take i ds) (take i ls)
  pub behind : drop n after ≡ drop n before
  pub fits : n ≤ i
