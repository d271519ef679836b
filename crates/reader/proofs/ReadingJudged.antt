-- What a text that was read whole is judged by.
use Rattle.std.proofs.Common.{◌≡◌, ℕ, ◌-◌, Bool, List, map, length, take, None, sym, ap, ◌∙◌, subst, arith}
use Rattle.text.specs.Bytes.{between}
use Rattle.std.proofs.lemmas.List.{length-map, take_all}
use Rattle.meaning.specs.Shape.{leaves}
use Rattle.meaning.specs.Counts.{width}
use Rattle.reader.specs.Drafts.{is_named, draft_text, spelled, Placed}
use Rattle.grammar.specs.Faults.{First}
use Rattle.reader.specs.Judged.{ReadWhole, Unnamed}
use Rattle.reader.specs.Judging.{Spells, Nothing, Judges}
use Rattle.layout.specs.Sizes.{capped}
use Rattle.reader.specs.declared.branch.Branch.{Branch}
use Rattle.reader.specs.declared.draft.Draft.{Draft}
use Rattle.grammar.specs.declared.refusal.Refusal.{Refusal}
use Rattle.grammar.specs.declared.refusal.Refusal.TheVariants.{Short, Length, Form, NoName, Mark, Depth, Many, Width, Cuts, Twice}
use Rattle.layout.proofs.Counting.{width_below}
use Rattle.reader.proofs.ReadingMerged.{accepted_none}
use Rattle.reader.proofs.ReadingTrees.{kinds_length}

whole : (t : List ℕ) → t ≡ between t 0 (length t)
whole t = let e : length t - 0 ≡ length t = omega arith in sym (ap (λ n. take n t) e ∙ take_all (length t) t (omega arith))

pub read_spells : {t : List ℕ} {ds : List Draft} {b : Branch} (w : ReadWhole t ds b) → Spells t w.drawn.shape ds
read_spells {t} {ds} w = let d = w.drawn in record {
  text = whole t ∙ (d.text ∙ ap (λ x. spelled d.shape (map (draft_text t) x)) (sym d.grown));
  kind = d.kind ∙ ap (map is_named) (sym d.grown);
  placed = subst (Placed t) (sym d.grown) d.placed;
  formed = d.formed;
}

-- the leaves of the shape are those that were read
pub leaves_read : {t : List ℕ} {ds : List Draft} {b : Branch} (w : ReadWhole t ds b) → leaves w.drawn.shape ≡ length ds
leaves_read {t} {ds} w =
    let d = w.drawn in
    sym (kinds_length d.shape) ∙ (ap length d.kind ∙ (length-map d.added is_named ∙ ap length (sym d.grown)))

-- the width is exact
pub exact_width : {t : List ℕ} {ds : List Draft} {b : Branch} (w : ReadWhole t ds b) → capped (width w.drawn.shape) ≡ width w.drawn.shape
exact_width w = omega (arith, width_below w.drawn.shape, leaves_read w, w.few)

-- a text that was read whole and lacks no name is refused for none of 2 to 6
pub nothing_refused : {t : List ℕ} {ds : List Draft} {b : Branch} (has : List ℕ → Bool) (w : ReadWhole t ds b) → Unnamed has t (length t) None → Nothing has t
nothing_refused {t} has w u = record { accepted = w.accepted; none = accepted_none has t w.nothing u }

-- the first refusal of 2 to 6 is what a text is judged by
pub first_judges : (has : List ℕ → Bool) (t : List ℕ) (f : Refusal) → First has t f → Judges has t f
first_judges has t (Short n) h = h.0
first_judges has t Length h = h.0
first_judges has t (Form p) h = h
first_judges has t (NoName p) h = h
first_judges has t (Mark p) h = h
first_judges has t (Depth p) h = h
first_judges has t (Many p) h = h
first_judges has t (Width n) h = absurd h.0
first_judges has t Cuts h = absurd h.0
first_judges has t (Twice n) h = h.0
