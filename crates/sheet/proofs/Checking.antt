-- Reading the leaves of a list one by one, beside the stamps, tells whether it is a reading.
use Rattle.std.proofs.Common.{◌≡◌, ℕ, zero, suc, ◌+◌, ◌-◌, ◌<◌, ◌≤◌, Bool, true, false, List, [], ◌∷◌, map, reverse, length, get_or, take, None, Ok, Err, Decides, Option, Result, sym, refl, ap, ◌∙◌, subst, inl, inr, add-one, arith}
use lib.ListN.{length-map}
use Rattle.std.proofs.lemmas.List.{take_more, take_all, reverse-append, reverse-reverse, get_or_past}
use Rattle.std.proofs.lemmas.Bool.{cases_lt, and_parts, both_ways}
use Rattle.text.specs.Directory.{Text}
use Rattle.meaning.specs.CutOrder.{cut_list}
use Rattle.meaning.specs.Shape.{leaves as leaf_count}
use Rattle.grammar.specs.Written.{no_leaf}
use Rattle.grammar.specs.declared.leaf.Leaf.{Leaf}
use Rattle.spots.specs.declared.moves.RowMove.{RowMove}
use Rattle.plan.specs.declared.plan.Plan.{Plan}
use Rattle.sheet.specs.declared.refusal.Refusal.{Refusal}
use Rattle.engine.specs.Answers.{fit_all}
use Rattle.sheet.specs.Calls.{Ground, short, Reads, Checks}
use Rattle.engine.specs.Finish.{HasRows}
use Rattle.engine.specs.Fits.{fits_name, fits, stamped}
use Rattle.sheet.specs.Views.{ground_over, GoesOver}
use Rattle.engine.specs.Ways.{Way}
use Rattle.engine.specs.declared.searching.Search.{Search}
use Rattle.engine.specs.Searches.{texts_of}
use Rattle.sheet.proofs.Answering.{moved}
use Rattle.engine.proofs.Fitted.{nothing_fits, fit_length, way_fits}
use Rattle.sheet.proofs.Grounds.{shape, plan_leaves, plan_moves, whole, laid_out, leaf_number, permitted_short}
use Rattle.engine.proofs.Meaning.{reading_is_way, way_is_reading}
use Rattle.engine.proofs.Tested.{text_at}

module _ (moves : List RowMove) (fit : ℕ → ℕ → Bool) (rows : ℕ) (list : List ℕ) where
  -- one leaf more of the list
  pub read_more : (i : ℕ) (next : List ℕ) → i < length list → HasRows moves fit rows (suc i) (get_or list i 0 ∷ reverse (take i list)) next → HasRows moves fit rows (i + 1) (reverse (take (i + 1) list)) next
  read_more i next h has =
      let turned : reverse (take (i + 1) list) ≡ get_or list i 0 ∷ reverse (take i list) = ap reverse (take_more list i 0 h) ∙ reverse-append (take i list) (get_or list i 0 ∷ []) in
      subst (λ w. HasRows moves fit rows (i + 1) w next) (sym turned) (subst (λ k. HasRows moves fit rows k (get_or list i 0 ∷ reverse (take i list)) next) (sym (add-one i)) has)

module _ (texts : List Text) (leaves : List Leaf) where
  -- each leaf that is read fits its stamp
  fit_at : (σ : List Text) (w : List ℕ) (i : ℕ) → i < length w → fit_all texts leaves σ w ≡ true → fits texts leaves (get_or σ i []) (get_or w i 0) ≡ true
  fit_at [] [] i h f = absurd (omega arith)
  fit_at [] (l ∷ w) i h f = nothing_fits texts leaves f
  fit_at (t ∷ σ) [] i h f = absurd (omega arith)
  fit_at (t ∷ σ) (l ∷ w) zero h f = (and_parts (fits texts leaves t l) (fit_all texts leaves σ w) f).0
  fit_at (t ∷ σ) (l ∷ w) (suc i) h f = fit_at σ w i (omega arith) (and_parts (fits texts leaves t l) (fit_all texts leaves σ w) f).1

  -- no leaf behind the last fits
  pub none_fits : (t : Text) (l : ℕ) → length leaves ≤ l → fits texts leaves t l ≡ false
  none_fits t l h = ap (λ (x : Leaf). fits_name texts t x.name) (get_or_past leaves l no_leaf h)

  -- so what fits is a leaf
  pub fits_below : (t : Text) (l : ℕ) → fits texts leaves t l ≡ true → l < length leaves
  fits_below t l f = elim (cases_lt l (length leaves)) [ inl h ↦ h | inr h ↦ absurd (both_ways _ (none_fits t l h) f) ]

  module _ {moves : List RowMove} (σ : List Text) (list : List ℕ) (q : ℕ) where
    pub not_read : (i : ℕ) → i < length list → length list ≡ length σ → fits texts leaves (get_or σ i []) (get_or list i 0) ≡ false → Way moves (stamped texts leaves σ) (length σ) q (reverse list) → ⊥
    not_read i h size unfit way =
        let f : fit_all texts leaves (take (length σ) σ) (reverse (reverse list)) ≡ true = (way_fits texts leaves σ way).fitted in
        let g : fit_all texts leaves σ list ≡ true = subst (λ w. fit_all texts leaves σ w ≡ true) (reverse-reverse list) (subst (λ τ. fit_all texts leaves τ (reverse (reverse list)) ≡ true) (take_all (length σ) σ (omega arith)) f) in
        both_ways _ unfit (fit_at σ list i h g)

-- the text of the stamp that is read
pub stamp_here : {K : Type 0} (text : K → Text) (stamps : List K) (i : ℕ) (x : K) → i < length stamps → x ≡ get_or stamps i x → get_or (map text stamps) i [] ≡ text x
stamp_here text stamps i x h e = text_at text stamps i x h ∙ ap text (sym e)

-- what follows from an answer
module _ (g : Ground) (σ : List Text) (w : List ℕ) where
  pub answers_no : (r : Result Bool Refusal) → Checks g σ w None r → (Reads g σ w → ⊥) → r ≡ Ok false
  answers_no (Ok true) d h = absurd (h (d.0 refl))
  answers_no (Ok false) d h = refl
  answers_no (Err e) d h = absurd d

  pub reads_length : Reads g σ w → length w ≡ length σ
  reads_length r = fit_length g.texts g.leaves σ w r.1

  pub reads_few : Reads g σ w → length σ ≤ leaf_count g.shape
  reads_few r = omega (arith, reads_length r, permitted_short g.shape w r.0)

  pub reads_known : (i : ℕ) → i < length w → Reads g σ w → get_or w i 0 < length g.leaves
  reads_known i h r = fits_below g.texts g.leaves (get_or σ i []) (get_or w i 0) (fit_at g.texts g.leaves σ w i h r.1)

-- what a call answers
module _ {K : Type 0} (text : K → Text) (p : Plan) (names stamps : List K) (list : List ℕ) (m a : ℕ) where
  abbrev lack : Option ℕ
  lack = short (length (map text names)) m a

  abbrev σ : List Text
  σ = map text stamps

  module _ (e : None ≡ lack) where
    checks : (b : Bool) → Decides b (Reads (ground_over text p names) σ list) → Checks (ground_over text p names) σ list lack (Ok b)
    checks b d = subst (λ o. Checks (ground_over text p names) σ list o (Ok b)) e d

    checks_no : (Reads (ground_over text p names) σ list → ⊥) → Checks (ground_over text p names) σ list lack (Ok false)
    checks_no h = checks false ((λ f. nothing_fits (map text names) (plan_leaves p) f), (λ r. absurd (h r)))

    pub checks_uneven : (length list ≡ length stamps → ⊥) → Checks (ground_over text p names) σ list lack (Ok false)
    checks_uneven h = checks_no (λ r. h (reads_length (ground_over text p names) σ list r ∙ length-map stamps text))

    module _ (x : Search K) (stood : List ℕ) (over : GoesOver p names stood x) where
      pub checks_long : length x.leaves.now < length list → Checks (ground_over text p names) σ list lack (Ok false)
      checks_long h = checks_no (λ r. omega (arith, permitted_short (shape p) list r.0, leaf_number p, ap length over.leaves))

      pub checks_way : (b : Bool) → Decides b (Way x.moves.now (stamped (texts_of text x) x.leaves.now σ) (length stamps) (x.rows - 1) (reverse list)) → Checks (ground_over text p names) σ list lack (Ok b)
      checks_way b d =
          let there : Decides b (Way (plan_moves p) (stamped (map text names) (plan_leaves p) σ) (length stamps) (length (cut_list (shape p)) - 1) (reverse list)) = moved text p names stood x over (λ n ls ms ns xs. Decides b (Way ms (stamped (map text ns) ls σ) (length stamps) (n - 1) (reverse list))) d in
          let size : length σ ≡ length stamps = length-map stamps text in
          checks b (
            (λ t. subst (Reads (ground_over text p names) σ) (reverse-reverse list) (way_is_reading (shape p) (cut_list (shape p)) (plan_moves p) (laid_out p) (whole p) (plan_leaves p) (map text names) σ (reverse list) (subst (λ n. Way (plan_moves p) (stamped (map text names) (plan_leaves p) σ) n (length (cut_list (shape p)) - 1) (reverse list)) (sym size) (there.0 t)))),
            (λ r. there.1 (subst (λ n. Way (plan_moves p) (stamped (map text names) (plan_leaves p) σ) n (length (cut_list (shape p)) - 1) (reverse list)) size (reading_is_way (shape p) (cut_list (shape p)) (plan_moves p) (laid_out p) (whole p) (plan_leaves p) (map text names) σ list r))),
          )
