-- Room for the names of any plan.
use Rattle.std.specs.Prelude.{◌≡◌, Bool, true, false, List, [], map, replicate}
use Rattle.text.specs.Directory.{Text}

-- all 128 entries are names of a text; there are none, if the kind has no name of it
abbrev pub FilledWith : {K : Type 0} → (K → Text) → (Text → Bool) → Text → List K → Type 0
FilledWith text has filler names =
    (has filler ≡ true → map text names ≡ replicate 128 filler) × (has filler ≡ false → names ≡ [])
