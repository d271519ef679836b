-- Lists of numbers in a buffer.
use Rattle.std.proofs.Common.{◌≡◌, ℕ, ◌<◌, ◌≤◌, List, [], map, length, get_or, take, None, Ok, Option, sym, ◌∙◌, subst, arith, length-take-le}
use Rattle.std.proofs.lemmas.List.{get_or-take}
use Rattle.text.specs.Directory.{Text}
use Rattle.plan.specs.declared.plan.Plan.{Plan}
use Rattle.engine.specs.Fits.{standing, stamped}
use Rattle.engine.specs.Next.{ReadsNext, Lists}
use Rattle.sheet.specs.Calls.{short_list, Follows, RisingList, ListsNext}
use Rattle.sheet.specs.Views.{ground_over, GoesOver}
use Rattle.engine.specs.declared.searching.Search.{Search}
use Rattle.engine.specs.Searches.{texts_of, fit_of}
use Rattle.sheet.proofs.Grounds.{plan_leaves, plan_moves}
use Rattle.sheet.proofs.Answering.{next_follows, moved}

-- what is listed at the front of a buffer
module _ (P Q : ℕ → Type 0) (to : (k : ℕ) → P k → Q k) (back : (k : ℕ) → Q k → P k) (bound : ℕ) (before after : List ℕ) (n : ℕ) (long : bound ≤ length after) (h : Lists P bound before after n) where
  size : length (take n after) ≡ n
  size = length-take-le n after (omega (arith, h.short))

  at : (i : ℕ) → i < n → get_or (take n after) i 0 ≡ get_or after i 0
  at i l = get_or-take n after i 0 l

  pub rising_front : RisingList Q bound (take n after)
  rising_front = record {
    rising = λ i j a b. let lj : j < n = omega (arith, size) in let li : i < n = omega arith in omega (arith, at i li, at j lj, h.rising i j a lj);
    sound = λ i a. let li : i < n = omega (arith, size) in let s = h.sound i li in subst (λ k. (k < bound) × Q k) (sym (at i li)) (s.0, to (get_or after i 0) s.1);
    full = λ k a q. let f = h.full k a (back k q) in (f.0, omega (arith, size, f.1), at f.0 f.1 ∙ f.2);
  }

-- what `next` answers
module _ {K : Type 0} (text : K → Text) (p : Plan) (names : List K) (stamps : List ℕ) (l m a : ℕ) where
  abbrev lack : Option ℕ
  lack = short_list (length (map text names)) l m a

  module _ (s : Search K) (over : GoesOver p names stamps s) where
    pub nexts_at : (before after : List ℕ) (count n : ℕ) → None ≡ lack → count ≡ p.names → count ≤ length after
        → Lists (λ k. ReadsNext s.moves.now s.leaves.now (texts_of text s) (fit_of text s) (length s.stamps.now) (get_or (texts_of text s) k [])) count before after n
        → ListsNext (ground_over text p names) (standing (map text names) stamps) lack (Ok (take n after))
    nexts_at before after count n e same long h =
        let h1 = moved text p names stamps s over (λ rc lv mv ns li. Lists (λ k. ReadsNext mv lv (map text ns) (stamped (map text ns) lv (standing (map text ns) li)) (length li) (get_or (map text ns) k [])) count before after n) h in
        let all : RisingList (λ k. Follows (ground_over text p names) (standing (map text names) stamps) (get_or (map text names) k [])) count (take n after) =
        rising_front (λ k. ReadsNext (plan_moves p) (plan_leaves p) (map text names) (stamped (map text names) (plan_leaves p) (standing (map text names) stamps)) (length stamps) (get_or (map text names) k []))
        (λ k. Follows (ground_over text p names) (standing (map text names) stamps) (get_or (map text names) k []))
        (λ k x. (next_follows text p names stamps (get_or (map text names) k [])).1 x) (λ k x. (next_follows text p names stamps (get_or (map text names) k [])).0 x) count before after n long h1 in
        subst (λ o. ListsNext (ground_over text p names) (standing (map text names) stamps) o (Ok (take n after))) e
        (subst (λ b. RisingList (λ k. Follows (ground_over text p names) (standing (map text names) stamps) (get_or (map text names) k [])) b (take n after)) same all)
