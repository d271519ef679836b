-- The first way that finishes is what `reading` gives.
use Rattle.std.proofs.Common.{◌≡◌, ℕ, ◌-◌, ◌≤◌, IfSome, ap, arith, Result, Bool, true, false, List, [], map, length, get_or, take, drop, Some, None, Ok, Err, Option, sym, refl, ◌∙◌, subst}
use lib.ListN.{length-map}
use Rattle.text.specs.Directory.{Text}
use Rattle.meaning.specs.CutOrder.{cut_list}
use Rattle.plan.specs.declared.plan.Plan.{Plan}
use Rattle.std.specs.Option.{ok_or, is_some}
use Rattle.sheet.specs.declared.refusal.Refusal.{Refusal}
use Rattle.sheet.specs.declared.refusal.Refusal.TheVariants.{NoReading}
use Rattle.engine.specs.declared.searching.Search.{Search}
use Rattle.engine.specs.Searches.{fit_of}
use Rattle.engine.specs.Fits.{standing, stamped}
use Rattle.engine.specs.Finish.{FirstWay, LeavesFirst}
use Rattle.engine.specs.Ways.{Completes}
use Rattle.engine.specs.Answers.{FirstReading}
use Rattle.sheet.specs.Calls.{short_list, Reads, GivesFirst, listed, Keeps}
use Rattle.sheet.specs.Views.{ground_over, GoesOver}
use Rattle.sheet.proofs.Grounds.{shape, plan_leaves, plan_moves, whole, laid_out}
use Rattle.sheet.proofs.Answering.{moved}
use Rattle.engine.proofs.Firsts.{reading_finishes, reading_is_first}

module _ {K : Type 0} (text : K → Text) (p : Plan) (names : List K) (stamps : List ℕ) (l m a : ℕ) where
  abbrev lack : Option ℕ
  lack = short_list (length (map text names)) l m a

  abbrev stood : List Text
  stood = standing (map text names) stamps

  abbrev fit : ℕ → ℕ → Bool
  fit = stamped (map text names) (plan_leaves p) stood

  size : length stamps ≡ length stood
  size = sym (length-map stamps (λ n. get_or (map text names) n []))

  first_is : (w : List ℕ) → FirstWay (plan_moves p) fit (length (cut_list (shape p))) (length stamps) w → FirstReading (shape p) (plan_leaves p) (map text names) stood w
  first_is w f = reading_is_first (shape p) (cut_list (shape p)) (plan_moves p) (laid_out p) (whole p) (plan_leaves p) (map text names) stood w (subst (λ n. FirstWay (plan_moves p) fit (length (cut_list (shape p))) n w) size f)

  none_is : ((w : List ℕ) → Completes (plan_moves p) fit (length (cut_list (shape p)) - 1) (length stamps) 0 0 w → ⊥) → (w : List ℕ) → Reads (ground_over text p names) stood w → ⊥
  none_is h w r = h w (subst (λ n. Completes (plan_moves p) fit (length (cut_list (shape p)) - 1) n 0 0 w) (sym size) ((reading_finishes (shape p) (cut_list (shape p)) (plan_moves p) (laid_out p) (whole p) (plan_leaves p) (map text names) stood w).0 r))

  module _ (s : Search K) (over : GoesOver p names stamps s) (e : None ≡ lack) (before after : List ℕ) (few : length stamps ≤ 128) (room : length stamps ≤ length before) where
    abbrev Given : Result ℕ Refusal → Type 0
    Given r = GivesFirst (ground_over text p names) stood lack (listed r after) × Keeps r before after

    pub gives_at : (o : Option ℕ) → LeavesFirst s.moves.now (fit_of text s) s.rows (length s.stamps.now) before after (is_some o) → IfSome o (λ n. n ≡ length s.stamps.now) → Given (ok_or o NoReading)
    gives_at None h is =
        let t = moved text p names stamps s over (λ rc lv mv ns li. LeavesFirst mv (stamped (map text ns) lv (standing (map text ns) li)) rc (length li) before after false) h in
        (subst (λ k. GivesFirst (ground_over text p names) stood k (Err NoReading)) e (refl, none_is t.0), t.1)
    gives_at (Some n) h is =
        let t = moved text p names stamps s over (λ rc lv mv ns li. LeavesFirst mv (stamped (map text ns) lv (standing (map text ns) li)) rc (length li) before after true) h in
        let size : n ≡ length stamps = is ∙ ap length over.stamps in
        let first : FirstReading (shape p) (plan_leaves p) (map text names) stood (take n after) = subst (λ k. FirstReading (shape p) (plan_leaves p) (map text names) stood (take k after)) (sym size) (first_is (take (length stamps) after) t.0) in (
          subst (λ k. GivesFirst (ground_over text p names) stood k (Ok (take n after))) e first,
          (omega arith, omega arith, subst (λ k. drop k after ≡ drop k before) (sym size) t.1),
        )
