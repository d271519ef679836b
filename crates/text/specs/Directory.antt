-- A directory: distinct texts, in the order in which they came first, numbered from 0.
use Rattle.std.specs.Prelude.{◌≡◌, ℕ, ◌<◌, ◌≤◌, Bool, false, cond, ◌||◌, List, [], ◌∷◌, ◌++◌, map, length, take, drop, Some, None, Option, ◌≢◌, slice_index_or, slice_set}
use Rattle.std.specs.Str.{bytes_eq}
use Rattle.text.specs.declared.directory.Entry.{Entry}
use Rattle.text.specs.declared.directory.Entry.TheVariants.{Known, New}

abbrev pub Text : Type 0
Text = List ℕ

-- whether a text is among these
abbrev pub holds : List Text → Text → Bool
holds [] t = false
holds (u ∷ us) t = bytes_eq u t || holds us t

-- one text more, behind the others, if it is new
abbrev pub added : List Text → Text → List Text
added us t = cond (holds us t) us (us ++ (t ∷ []))

-- a directory, and then the texts of a list, each added if it is new
abbrev pub added_all : List Text → List Text → List Text
added_all us [] = us
added_all us (t ∷ ts) = added_all (added us t) ts

-- the directory of a list of texts
abbrev pub directory : List Text → List Text
directory ts = added_all [] ts

-- the number of a text: where it stands first
abbrev pub Finds : List Text → Text → Option ℕ → Type 0
Finds us t None = (k : ℕ) → k < length us → slice_index_or us k [] ≢ t
Finds us t (Some i) = (i < length us) × (slice_index_or us i [] ≡ t) × ((k : ℕ) → k < i → slice_index_or us k [] ≢ t)

-- a name is put to a directory, the first `len` of the names of a buffer: it is known there, under its number;
-- or new, and written behind the others under the next number, no other entry changed;
-- or new with no room for it, and nothing is changed
abbrev pub Adds : {K : Type 0} → (K → Text) → List K → List K → ℕ → K → Option Entry → Type 0
Adds text before after len x None = Finds (map text (take len before)) (text x) None × (length before ≤ len) × (after ≡ before)
Adds text before after len x (Some (Known i)) = Finds (map text (take len before)) (text x) (Some i) × (after ≡ before)
Adds text before after len x (Some (New n)) = Finds (map text (take len before)) (text x) None × (n ≡ len) × (len < length before) × (after ≡ slice_set before len x)

-- the names of a list are gathered into a buffer: its first entries have the directory of the list, and the others stay;
-- or there is no room for all, and every entry has a name of the directory, from its first on
abbrev pub Gathers : {K : Type 0} → (K → Text) → List K → List K → List K → Option ℕ → Type 0
Gathers text names before after (Some n) = (n ≤ length before) × (map text (take n after) ≡ directory (map text names)) × (drop n after ≡ drop n before)
Gathers text names before after None = (length before < length (directory (map text names))) × (map text after ≡ take (length before) (directory (map text names)))
