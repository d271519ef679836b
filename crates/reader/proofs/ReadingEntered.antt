-- Names numbered, leaf by leaf.
use Rattle.std.proofs.Common.{◌≡◌, ℕ, zero, suc, ◌+◌, ◌-◌, ◌<◌, Bool, List, [], ◌∷◌, ◌++◌, map, length, get_or, take, drop, set, Some, None, Option, sym, refl, ap, ◌∙◌, subst, append-nil, arith}
use Rattle.std.proofs.lemmas.List.{length-map, length-append, length-take-le, map-append, take_more_set, take_more, drop-set-lt, drop-drop, get_or_append_left, get_or_push}
use Rattle.text.specs.Bytes.{between}
use Rattle.text.specs.Directory.{Text, added, added_all, directory, Adds}
use Rattle.text.specs.declared.directory.Entry.{Entry}
use Rattle.text.specs.declared.directory.Entry.TheVariants.{Known, New}
use Rattle.text.proofs.Entries.{added_known, added_new, grown_all}
use Rattle.reader.specs.Entering.{with_run, name_runs, added_run, HasName, AllNamed, Below, Match, Matches, Numbered, Enters, Entered}
use Rattle.grammar.specs.Written.{marks_text, name_text}
use Rattle.reader.specs.declared.draft.Draft.{Draft}
use Rattle.grammar.specs.declared.leaf.Leaf.{Leaf}

module _ {K : Type 0} (text : K → Text) (before after : List K) (count : ℕ) (x : K) (entry : Entry) (w : count < length before) where
  pub known_numbered : (i : ℕ) → entry ≡ Known i → Adds text before after count x (Some entry) → Numbered text before after count (text x) i count
  known_numbered i e a =
      let b : Adds text before after count x (Some (Known i)) = subst (λ y. Adds text before after count x (Some y)) e a in
      subst (λ z. Numbered text before z count (text x) i count) (sym b.1) (record {
        texts = sym (added_known (map text (take count before)) (text x) i b.0);
        found = b.0.1;
        low = b.0.0;
        behind = refl;
        least = omega arith;
        most = omega arith;
      })

  pub new_numbered : (n : ℕ) → entry ≡ New n → Adds text before after count x (Some entry) → Numbered text before after count (text x) n (n + 1)
  new_numbered n e a =
      let b : Adds text before after count x (Some (New n)) = subst (λ y. Adds text before after count x (Some y)) e a in
      let us = map text (take count before) in
      let long : length us ≡ count = length-map (take count before) text ∙ length-take-le count before (omega arith) in
      let more : map text (take (count + 1) (set before count x)) ≡ us ++ (text x ∷ []) = ap (map text) (take_more_set before count x w) ∙ map-append text (take count before) (x ∷ []) in
      subst (λ z. Numbered text before z count (text x) n (n + 1)) (sym b.3) (subst (λ m. Numbered text before (set before count x) count (text x) m (m + 1)) (sym b.1) (record {
        texts = more ∙ sym (added_new us (text x) b.0);
        found = ap (λ z. get_or z count []) more ∙ get_or_push us (text x) [] count long;
        low = omega (arith, ap length more, length-append us (text x ∷ []), long);
        behind = drop-set-lt (count + 1) before count x (omega arith);
        least = omega arith;
        most = omega arith;
      }))

with_append : (t : List ℕ) (p : ℕ) (e : Option ℕ) (a b : List Text) → with_run t p e (a ++ b) ≡ with_run t p e a ++ b
with_append t p None a b = refl
with_append t p (Some q) a b = refl

runs_append : (t : List ℕ) (ds es : List Draft) → name_runs t (ds ++ es) ≡ name_runs t ds ++ name_runs t es
runs_append t [] es = refl
runs_append t (d ∷ ds) es = ap (with_run t d.at d.end) (runs_append t ds es) ∙ with_append t d.at d.end (name_runs t ds) (name_runs t es)

all_append : (us ts vs : List Text) → added_all us (ts ++ vs) ≡ added_all (added_all us ts) vs
all_append us [] vs = refl
all_append us (x ∷ ts) vs = all_append (added us x) ts vs

one_run : (us : List Text) (t : List ℕ) (p : ℕ) (e : Option ℕ) → added_all us (with_run t p e []) ≡ added_run us t p e
one_run us t p None = refl
one_run us t p (Some q) = refl

directory_more : (t : List ℕ) (ds : List Draft) (d : Draft) → directory (name_runs t (ds ++ (d ∷ []))) ≡ added_run (directory (name_runs t ds)) t d.at d.end
directory_more t ds d =
    ap directory (runs_append t ds (d ∷ []))
    ∙ (all_append [] (name_runs t ds) (name_runs t (d ∷ [])) ∙ one_run (directory (name_runs t ds)) t d.at d.end)

grows : (us : List Text) (t : List ℕ) (p : ℕ) (e : Option ℕ) → (vs : List Text) × (added_run us t p e ≡ us ++ vs)
grows us t p None = ([], sym (append-nil us))
grows us t p (Some q) = grown_all us (between t p q ∷ [])

match_grow : (us vs : List Text) (t : List ℕ) (d : Draft) (l : Leaf) → Match us t d l → Match (us ++ vs) t d l
match_grow us vs t d l h = record { text = same l.name h.below ∙ h.text; kind = h.kind; below = still l.name h.below }
  where
    same : (o : Option ℕ) → Below (length us) o → name_text (us ++ vs) o (marks_text l.marks) ≡ name_text us o (marks_text l.marks)
    same None b = refl
    same (Some k) b = ap (λ z. z ++ marks_text l.marks) (get_or_append_left us vs [] k b)

    still : (o : Option ℕ) → Below (length us) o → Below (length (us ++ vs)) o
    still None b = tt
    still (Some k) b = omega (arith, length-append us vs, b)

matches_grow : (us vs : List Text) (t : List ℕ) (ds : List Draft) (ls : List Leaf) → Matches us t ds ls → Matches (us ++ vs) t ds ls
matches_grow us vs t [] [] h = tt
matches_grow us vs t [] (l ∷ ls) h = h
matches_grow us vs t (d ∷ ds) [] h = h
matches_grow us vs t (d ∷ ds) (l ∷ ls) h = (match_grow us vs t d l h.0, matches_grow us vs t ds ls h.1)

matches_push : (us : List Text) (t : List ℕ) (ds : List Draft) (ls : List Leaf) (d : Draft) (l : Leaf) → Matches us t ds ls → Match us t d l → Matches us t (ds ++ (d ∷ [])) (ls ++ (l ∷ []))
matches_push us t [] [] d l h m = (m, tt)
matches_push us t [] (k ∷ ls) d l h m = absurd h
matches_push us t (c ∷ ds) [] d l h m = absurd h
matches_push us t (c ∷ ds) (k ∷ ls) d l h m = (h.0, matches_push us t ds ls d l h.1 m)

-- one leaf more
pub entered_more : {K : Type 0} (text : K → Text) (t : List ℕ) (ds : List Draft) (before names after : List K) (ls ms : List Leaf) (n m i : ℕ) (d : Draft) (l : Leaf)
    → i < length ds → i < length ls → get_or ds i d ≡ d → ms ≡ set ls i l → Entered text t ds before names ls n i → Enters text t d names after n l m → Entered text t ds before after ms m (i + 1)
entered_more text t ds before names after ls ms n m i d l w v e f h r =
    let us = map text (take n names) in
    let g = grows us t d.at d.end in
    let more : take (i + 1) ds ≡ take i ds ++ (d ∷ []) = take_more ds i d w ∙ ap (λ z. take i ds ++ (z ∷ [])) e in
    let less : take (i + 1) ms ≡ take i ls ++ (l ∷ []) = ap (take (i + 1)) f ∙ take_more_set ls i l v in
    let new : map text (take m after) ≡ us ++ g.0 = r.texts ∙ g.1 in
    record {
      texts = r.texts ∙ (ap (λ z. added_run z t d.at d.end) h.texts ∙ (sym (directory_more t (take i ds) d) ∙ ap (λ z. directory (name_runs t z)) (sym more)));
      done =
          subst (λ z. Matches (map text (take m after)) t z (take (i + 1) ms)) (sym more)
          (subst (λ z. Matches (map text (take m after)) t (take i ds ++ (d ∷ [])) z) (sym less)
          (matches_push (map text (take m after)) t (take i ds) (take i ls) d l
          (subst (λ z. Matches z t (take i ds) (take i ls)) (sym new) (matches_grow us g.0 t (take i ds) (take i ls) h.done)) r.match));
      behind =
          let j : n + (m - n) ≡ m = omega (arith, r.least) in
          r.behind ∙ (sym (drop-drop (m - n) n names ∙ ap (λ z. drop z names) j) ∙ (ap (drop (m - n)) h.behind ∙ (drop-drop (m - n) n before ∙ ap (λ z. drop z before) j)));
      fits = omega (arith, h.fits, r.most);
    }

pub named_at : (has : List ℕ → Bool) (t : List ℕ) (ds : List Draft) (i : ℕ) (d : Draft) → AllNamed has t ds → i < length ds → HasName has t (get_or ds i d).at (get_or ds i d).end
named_at has t [] i d h w = absurd (omega arith)
named_at has t (c ∷ ds) zero d h w = h.0
named_at has t (c ∷ ds) (suc i) d h w = named_at has t ds i d h.1 (omega arith)
