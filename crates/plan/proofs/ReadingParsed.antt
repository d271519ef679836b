-- A whole text read, with its names numbered.
use Rattle.std.proofs.Common.{◌≡◌, ℕ, zero, suc, ◌+◌, ◌<◌, ◌≤◌, Bool, true, false, eqb, leb, List, [], ◌∷◌, ◌++◌, map, length, get_or, take, drop, Some, None, vec_items, Option, sym, refl, ap, ◌∙◌, subst, ap₂, inl, inr, arith, drop-drop}
use Rattle.std.proofs.lemmas.List.{length-map, length-take, take_all}
use Rattle.std.proofs.lemmas.Bool.{cases_Bool, eqb-false, lt-ltb, and_from, le-leb}
use Rattle.text.specs.Bytes.{between, name_byte}
use Rattle.text.specs.Directory.{Text, directory}
use Rattle.meaning.specs.Shape.{Shape, leaf, bracket, join, leaves}
use Rattle.meaning.specs.Limits.{sequence}
use Rattle.grammar.specs.Written.{leaf_text, sign_of, link_sign, no_leaf, written_from}
use Rattle.layout.specs.Tree.{shape_of}
use Rattle.reader.specs.Drafts.{draft_text, is_named, named_to, NamedAt, Placed, kinds, spelled}
use Rattle.reader.specs.Entering.{HasName, AllNamed, Below, Matches, Entered, name_runs}
use Rattle.grammar.specs.Faults.{Refuses}
use Rattle.grammar.specs.Readings.{Unrefused}
use Rattle.grammar.proofs.FormAgrees.{firsts_agree, takings_agree}
use Rattle.plan.specs.Parses.{RefusedFor, SizedWell, Accepts, leaf_named, AllBelow, ReadsPlan}
use Rattle.reader.specs.Judging.{Nothing, Granted, Judges}
use Rattle.reader.specs.declared.branch.Branch.{Branch}
use Rattle.reader.specs.declared.draft.Draft.{Draft}
use Rattle.grammar.specs.declared.leaf.Leaf.{Leaf}
use Rattle.plan.specs.declared.plan.Plan.{Plan}
use Rattle.plan.specs.LeafFit.{leaf_kinds, name_fits, leaf_fits, all_fit, leaves_fit}
use Rattle.grammar.specs.declared.refusal.Refusal.{Refusal}
use Rattle.grammar.specs.declared.refusal.Refusal.TheVariants.{Short, Length, Form, NoName, Mark, Depth, Many, Width, Cuts, Twice}
use Rattle.meaning.proofs.Limited.{limits_pass, tested_formed}
use Rattle.reader.proofs.ReadingMarks.{longest_front}
use Rattle.reader.proofs.ReadingTrees.{kinds_length}
use Rattle.reader.proofs.ReadingJudged.{read_spells, leaves_read}

-- of the length of a text and of a names buffer, from what is tested
pub sized : (n : ℕ) (t : List ℕ) → 128 ≤ n → eqb (length t) 0 ≡ false → length t ≤ 2048 → SizedWell n t
sized n t room some short = record { room = room; some = omega (arith, eqb-false (length t) 0 some); short = short }

-- what is granted is within the limits
-- what the machine takes, the grammar takes
unrefused : (has : List ℕ → Bool) (t : List ℕ) → Nothing has t → Unrefused has t
unrefused has t h = (takings_agree has t).0 (h.accepted, h.none)

pub granted_accepts : {has : List ℕ → Bool} {t : List ℕ} {ds : List Draft} {b : Branch} (n : ℕ) (e : Shape) (g : Granted has t ds b) → SizedWell n t → e ≡ g.whole.drawn.shape → Accepts has n t e ds
granted_accepts {has} {t} {ds} n e g s q =
    subst (λ x. Accepts has n t x ds) (sym q) (record {
      room = s;
      nothing = unrefused has t g.nothing;
      spells = read_spells g.whole;
      limits =
          let d = g.whole.drawn in
          limits_pass d.shape (record {
            plan = tested_formed sequence d.shape d.formed;
            deep = d.deep;
            leaf_number = omega (arith, leaves_read g.whole, g.whole.few);
            bracket_number = omega (arith, d.number, g.whole.lean);
            wide = g.wide;
            cut_number = g.cuts;
          });
    })

-- what is known of a text where memory is wanting
pub no_memory : {has : List ℕ → Bool} {t : List ℕ} {ds : List Draft} {b : Branch} (n : ℕ) → SizedWell n t → Granted has t ds b → (e : Shape) × (fs : List Draft) × Accepts has n t e fs
no_memory {ds = ds} n s g = (g.whole.drawn.shape, ds, granted_accepts n g.whole.drawn.shape g s refl)

-- every name that was read is one of the kind
named_of : (has : List ℕ → Bool) (t : List ℕ) → ((f : Refusal) → Refuses has t f → ⊥) → (p : ℕ) (o : Option ℕ) → NamedAt t p o → HasName has t p o
named_of has t n p None h = tt
named_of has t n p (Some q) h =
    let g = h.2 in
    let w = h.3 in
    let i = g.within in (
      omega arith,
      i,
      elim (cases_Bool (has (between t p q))) [
        | inl y ↦ y
        | inr y ↦ absurd (n (NoName p) (h.0, record { within = omega arith; due = h.1; first = g.all p (omega arith) w }, ap has (longest_front name_byte t p q g) ∙ y))
      ],
    )

pub all_named : (has : List ℕ → Bool) (t : List ℕ) → ((f : Refusal) → Refuses has t f → ⊥) → (ds : List Draft) → Placed t ds → AllNamed has t ds
all_named has t n [] h = tt
all_named has t n (d ∷ ds) h = (named_of has t n d.at d.end h.0, all_named has t n ds h.1)

pub granted_named : {has : List ℕ → Bool} {t : List ℕ} {ds : List Draft} {b : Branch} → Granted has t ds b → AllNamed has t ds
granted_named {has} {t} {ds} g = all_named has t g.nothing.none ds (read_spells g.whole).placed

-- the leaf at a place
leaf_at : (f : Leaf → List ℕ) (ls : List Leaf) (k : ℕ) → k < length ls → get_or (drop k (map f ls)) 0 [] ≡ f (get_or ls k no_leaf)
leaf_at f [] k h = absurd (omega arith)
leaf_at f (l ∷ ls) zero h = refl
leaf_at f (l ∷ ls) (suc k) h = leaf_at f ls k (omega arith)

-- a text from the texts of its leaves is the one that is written
written_spelled : (texts : List Text) (ls : List Leaf) (k : ℕ) (e : Shape) → k + leaves e ≤ length ls → spelled e (drop k (map (leaf_text texts) ls)) ≡ written_from k e ls texts
written_spelled texts ls k (leaf b) h = leaf_at (leaf_text texts) ls k (omega arith)
written_spelled texts ls k (bracket s e) h = ap (λ z. sign_of s ∷ 40 ∷ (z ++ (41 ∷ []))) (written_spelled texts ls k e h)
written_spelled texts ls k (join l e f) h =
    let m = map (leaf_text texts) ls in
    ap (λ z. z ++ (link_sign l ∷ spelled f (drop (leaves e) (drop k m)))) (written_spelled texts ls k e (omega arith))
    ∙ ap (λ z. written_from k e ls texts ++ (link_sign l ∷ z)) (ap (spelled f) (drop-drop (leaves e) k m) ∙ written_spelled texts ls (k + leaves e) f (omega arith))

matched_texts : (texts : List Text) (t : List ℕ) (ds : List Draft) (ls : List Leaf) → Matches texts t ds ls → map (draft_text t) ds ≡ map (leaf_text texts) ls
matched_texts texts t [] [] h = refl
matched_texts texts t [] (l ∷ ls) h = absurd h
matched_texts texts t (d ∷ ds) [] h = absurd h
matched_texts texts t (d ∷ ds) (l ∷ ls) h = ap (λ z. z ∷ map (draft_text t) ds) (sym h.0.text) ∙ ap (λ z. leaf_text texts l ∷ z) (matched_texts texts t ds ls h.1)

matched_kinds : (texts : List Text) (t : List ℕ) (ds : List Draft) (ls : List Leaf) → Matches texts t ds ls → map is_named ds ≡ map leaf_named ls
matched_kinds texts t [] [] h = refl
matched_kinds texts t [] (l ∷ ls) h = absurd h
matched_kinds texts t (d ∷ ds) [] h = absurd h
matched_kinds texts t (d ∷ ds) (l ∷ ls) h = ap (λ z. z ∷ map is_named ds) (sym h.0.kind) ∙ ap (λ z. leaf_named l ∷ z) (matched_kinds texts t ds ls h.1)

below_more : (m n : ℕ) (o : Option ℕ) → m ≤ n → Below m o → Below n o
below_more m n None h b = tt
below_more m n (Some k) h b = omega (arith, b)

matched_below : (texts : List Text) (t : List ℕ) (ds : List Draft) (ls : List Leaf) (n : ℕ) → length texts ≤ n → Matches texts t ds ls → AllBelow n ls
matched_below texts t [] [] n b h = tt
matched_below texts t [] (l ∷ ls) n b h = absurd h
matched_below texts t (d ∷ ds) [] n b h = absurd h
matched_below texts t (d ∷ ds) (l ∷ ls) n b h = (below_more (length texts) n l.name b h.0.below, matched_below texts t ds ls n b h.1)

-- leaves of the shape's kinds, with numbers of names, fit the shape
name_fit : (n : ℕ) (o : Option ℕ) → Below n o → name_fits n (named_to o) o ≡ true
name_fit n None b = refl
name_fit n (Some k) b = lt-ltb k n b

all_fitting : (n : ℕ) (bs : List Bool) (ls : List Leaf) → bs ≡ map leaf_named ls → AllBelow n ls → all_fit n bs ls ≡ true
all_fitting n bs ls e b = subst (λ z. all_fit n z ls ≡ true) (sym e) (go ls b)
  where
    go : (ms : List Leaf) → AllBelow n ms → all_fit n (map leaf_named ms) ms ≡ true
    go [] h = refl
    go (l ∷ ms) h = and_from (leaf_fits n (leaf_named l) l) (all_fit n (map leaf_named ms) ms) (name_fit n l.name h.0) (go ms h.1)

same_kinds : (e : Shape) → leaf_kinds e ≡ kinds e
same_kinds (leaf b) = refl
same_kinds (bracket s e) = same_kinds e
same_kinds (join l e f) = ap₂ (λ x y. x ++ y) (same_kinds e) (same_kinds f)

pub entered_fit : {K : Type 0} (text : K → Text) (has : List ℕ → Bool) (t : List ℕ) (before after : List K) (ds : List Draft) (b : Branch) (e : Shape) (ls : List Leaf) (n i : ℕ)
    → SizedWell (length before) t → (g : Granted has t ds b) → e ≡ g.whole.drawn.shape → length ds ≤ i → i ≤ 128 → length ls ≡ i
    → Entered text t ds before after ls n i → leaves_fit e ls n ≡ true
entered_fit text has t before after ds b e ls n i s g q l few m h =
    let texts = map text (take n after) in
    let a = granted_accepts (length before) e g s q in
    let all : take i ds ≡ ds = take_all i ds l in
    let done : Matches texts t ds ls = subst (λ z. Matches texts t ds z) (take_all i ls (omega arith)) (subst (λ z. Matches texts t z (take i ls)) all h.done) in
    let kind : leaf_kinds e ≡ map leaf_named ls = same_kinds e ∙ (a.spells.kind ∙ matched_kinds texts t ds ls done) in
    let below = matched_below texts t ds ls n (omega (arith, length-map (take n after) text, length-take n after)) done in
    and_from (leb n 128) (all_fit n (leaf_kinds e) ls) (le-leb n 128 (omega (arith, h.fits))) (all_fitting n (leaf_kinds e) ls kind below)

pub reads_plan : {K : Type 0} (text : K → Text) (has : List ℕ → Bool) (t : List ℕ) (before after : List K) (ds : List Draft) (b : Branch) (p : Plan) (i : ℕ)
    → SizedWell (length before) t → (g : Granted has t ds b) → shape_of p.tree ≡ g.whole.drawn.shape → length ds ≤ i → length (vec_items p.leaves) ≡ i
    → Entered text t ds before after (vec_items p.leaves) p.names i → ReadsPlan text has t before after p
reads_plan text has t before after ds b p i s g q l m h =
    let e = shape_of p.tree in
    let ls = vec_items p.leaves in
    let texts = map text (take p.names after) in
    let a = granted_accepts (length before) e g s q in
    let all : take i ds ≡ ds = take_all i ds l in
    let done : Matches texts t ds ls = subst (λ z. Matches texts t ds z) (take_all i ls (omega arith)) (subst (λ z. Matches texts t z (take i ls)) all h.done) in
    let kind : kinds e ≡ map leaf_named ls = a.spells.kind ∙ matched_kinds texts t ds ls done in
    let count : leaves e ≡ length ls = sym (kinds_length e) ∙ (ap length kind ∙ length-map ls leaf_named) in
    record {
      drafts = ds;
      accepts = a;
      written_so = a.spells.text ∙ (ap (spelled e) (matched_texts texts t ds ls done) ∙ written_spelled texts ls 0 e (omega arith));
      number = count;
      kind = kind;
      below = matched_below texts t ds ls p.names (omega (arith, length-map (take p.names after) text, length-take p.names after)) done;
      texts = h.texts ∙ ap (λ z. directory (name_runs t z)) all;
      fits = omega (arith, h.fits, m);
      behind = h.behind;
    }

-- what a text is judged by is the refusal of it
pub judged_refused : (has : List ℕ → Bool) (n : ℕ) (t : List ℕ) (f : Refusal) → SizedWell n t → Judges has t f → RefusedFor has n t f
judged_refused has n t (Short k) s h = absurd h
judged_refused has n t Length s h = absurd h
judged_refused has n t (Form p) s h = (s, (firsts_agree has t (Form p)).0 h)
judged_refused has n t (NoName p) s h = (s, (firsts_agree has t (NoName p)).0 h)
judged_refused has n t (Mark p) s h = (s, (firsts_agree has t (Mark p)).0 h)
judged_refused has n t (Depth p) s h = (s, (firsts_agree has t (Depth p)).0 h)
judged_refused has n t (Many p) s h = (s, (firsts_agree has t (Many p)).0 h)
judged_refused has n t (Width w) s h = let x = h.1 in (s, (x.0, (unrefused has t h.0, (x.1, x.2)), x.3, x.4))
judged_refused has n t Cuts s h = let x = h.1 in (s, (x.0, (unrefused has t h.0, (x.1, x.2)), x.3, x.4))
judged_refused has n t (Twice k) s h = h
