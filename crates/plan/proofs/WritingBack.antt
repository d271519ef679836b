-- What was read is written back.
use Rattle.std.proofs.Common.{◌≡◌, ℕ, zero, suc, ◌<◌, ◌≤◌, Bool, true, false, List, [], ◌∷◌, ◌++◌, map, length, get_or, take, drop, Some, None, Ok, Err, vec_items, Option, Result, sym, refl, ap, ◌∙◌, subst, inl, inr, arith}
use Rattle.std.proofs.lemmas.List.{length-map, length_push, get_or_append_left, get_or_push, get_or_default}
use Rattle.std.proofs.lemmas.Bool.{cond-true, cond-false, cases_lt}
use Rattle.text.specs.Directory.{Text, holds, added, added_all, directory}
use Rattle.text.proofs.Entries.{is_held}
use Rattle.reader.specs.Entering.{name_runs}
use Rattle.plan.specs.Parses.{ReadsPlan}
use Rattle.layout.specs.Tree.{shape_of}
use Rattle.plan.specs.Writes.{Numbered, StandsTwice, Renders}
use Rattle.grammar.specs.Written.{no_leaf, written}
use Rattle.plan.specs.WrittenBack.{WrittenBack}
use Rattle.plan.specs.declared.plan.Plan.{Plan}
use Rattle.grammar.specs.declared.refusal.Refusal.{Refusal}
use Rattle.grammar.specs.declared.refusal.Refusal.TheVariants.{Short, Length, Form, NoName, Mark, Depth, Many, Width, Cuts, Twice}
use Rattle.plan.proofs.FittingLeaves.{plan_leaves, plan_numbered, plan_names}
use Rattle.plan.proofs.WritingTexts.{names_decide}

-- no text stands at two places
abbrev Distinct : List Text → Type 0
Distinct us = (i j : ℕ) → i < j → j < length us → get_or us i [] ≡ get_or us j [] → ⊥

added_distinct : (us : List Text) (t : Text) → Distinct us → Distinct (added us t)
added_distinct us t h = go (holds us t) refl
  where
    go : (b : Bool) → holds us t ≡ b → Distinct (added us t)
    go true e = subst Distinct (sym (cond-true (holds us t) us (us ++ (t ∷ [])) e)) h
    go false e = subst Distinct (sym (cond-false (holds us t) us (us ++ (t ∷ [])) e)) one_more
      where
        one_more : Distinct (us ++ (t ∷ []))
        one_more i j lt within same = elim (cases_lt j (length us)) [
          | inl inside ↦
              h i j lt inside (sym (get_or_append_left us (t ∷ []) [] i (omega (arith, lt, inside))) ∙ (same ∙ get_or_append_left us (t ∷ []) [] j inside))
          | inr last ↦
              let at : j ≡ length us = omega (arith, last, within, length_push us t) in
              let i-in : i < length us = omega (arith, lt, at) in
              let is : get_or us i [] ≡ t =
              sym (get_or_append_left us (t ∷ []) [] i i-in) ∙ (same ∙ (ap (λ n. get_or (us ++ (t ∷ [])) n []) at ∙ get_or_push us t [] (length us) refl)) in
              let no : true ≡ false = sym ((is_held us t).1 (i, i-in, λ d. get_or_default us i d [] i-in ∙ is)) ∙ e in
              let z : ◌≡◌ {A = ℕ} 0 1 = cc in
              omega arith
        ]

all_distinct : (us ts : List Text) → Distinct us → Distinct (added_all us ts)
all_distinct us [] h = h
all_distinct us (t ∷ ts) h = all_distinct (added us t) ts (added_distinct us t h)

directory_distinct : (ts : List Text) → Distinct (directory ts)
directory_distinct ts = all_distinct [] ts (λ i j lt within same. omega (arith, lt, within))

-- the first of some names, among these and among all
front_at : {K : Type 0} (f : K → Text) (xs : List K) (m n : ℕ) → n < m → get_or (map f (take m xs)) n [] ≡ get_or (map f xs) n []
front_at f xs zero n lt = absurd (omega (arith, lt))
front_at f [] (suc m) n lt = refl
front_at f (x ∷ xs) (suc m) zero lt = refl
front_at f (x ∷ xs) (suc m) (suc n) lt = front_at f xs m n (omega (arith, lt))

front_long : {K : Type 0} (f : K → Text) (xs : List K) (m n : ℕ) → n < m → m ≤ length xs → n < length (map f (take m xs))
front_long f xs zero n lt h = absurd (omega (arith, lt))
front_long f [] (suc m) n lt h = absurd (omega (arith, h))
front_long f (x ∷ xs) (suc m) zero lt h = omega arith
front_long f (x ∷ xs) (suc m) (suc n) lt h = let r = front_long f xs m n (omega (arith, lt)) (omega (arith, h)) in omega (arith, r)

module _ {K : Type 0} (text : K → List ℕ) (has : List ℕ → Bool) (t : List ℕ) (before after : List K) (p : Plan)
    (reads : ReadsPlan text has t before after p) (long : length after ≡ length before) where
  abbrev texts : List Text
  texts = map text after

  number_in : (n : ℕ) (x : Option ℕ) → Numbered p.names x → x ≡ Some n → n < p.names
  number_in n (Some k) h e = let same : k ≡ n = cc in omega (arith, h, same)
  number_in n None h e = let z : ◌≡◌ {A = ℕ} 0 1 = cc in absurd (omega arith)

  -- the text that was read is the one that is to be written
  same_text : t ≡ written (shape_of p.tree) (vec_items p.leaves) texts
  same_text =
      reads.written_so
      ∙ names_decide (shape_of p.tree) (vec_items p.leaves) (map text (take p.names after)) texts (λ k n within named.
      front_at text after p.names n (number_in n (get_or (vec_items p.leaves) k no_leaf).name (plan_numbered p k (omega (arith, within, plan_leaves p))) named))

  enough : 128 ≤ length texts
  enough = omega (arith, length-map after text, long, reads.accepts.room.room)

  -- none of the names stands twice
  single : (n : ℕ) → n < p.names → StandsTwice texts n → ⊥
  single n lt (k, less, same) =
      let in-front : p.names ≤ length after = omega (arith, plan_names p, long, reads.accepts.room.room) in
      let n-in = subst (λ us. n < length us) reads.texts (front_long text after p.names n lt in-front) in
      let at = λ (i : ℕ) (h : i < p.names). sym (front_at text after p.names i h) ∙ ap (λ us. get_or us i []) reads.texts in
      directory_distinct (name_runs t reads.drafts) k n less n-in
      (sym (at k (omega (arith, less, lt))) ∙ (same ∙ at n lt))

  module _ (room kept : List ℕ) where
    abbrev Answer : Result ℕ Refusal → Type 0
    Answer r = (length t ≤ length room → (r ≡ Ok (length t)) × (kept ≡ t ++ drop (length t) room)) × (length room < length t → (r ≡ Err (Short (length t))) × (kept ≡ room))

    back : (r : Result ℕ Refusal) → Renders t texts p.names room kept r → Answer r
    back (Ok n) (a, b, c, d, e) =
        (λ _. (ap Ok d, e ∙ ap (λ m. t ++ drop m room) d), λ less. absurd (omega (arith, b, less)))
    back (Err (Short n)) (inl (few, is), same) = absurd (omega (arith, few, enough))
    back (Err (Short n)) (inr (some, less, is), same) = (λ fits. absurd (omega (arith, fits, less)), λ _. (ap (λ m. Err (Short m)) is, same))
    back (Err (Twice n)) ((some, fits, (lt, twice, first)), same) = absurd (single n lt twice)
    back (Err Length) (z, same) = absurd z
    back (Err (Form q)) (z, same) = absurd z
    back (Err (NoName q)) (z, same) = absurd z
    back (Err (Mark q)) (z, same) = absurd z
    back (Err (Depth q)) (z, same) = absurd z
    back (Err (Many q)) (z, same) = absurd z
    back (Err (Width q)) (z, same) = absurd z
    back (Err Cuts) (z, same) = absurd z

pub written_back : {K : Type 0} (text : K → List ℕ) (has : List ℕ → Bool) → WrittenBack text has
written_back text has t before after p reads long room kept r h =
    back text has t before after p reads long room kept r
    (subst (λ x. Renders x (map text after) p.names room kept r) (sym (same_text text has t before after p reads long)) h)
