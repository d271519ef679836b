-- A name that is looked up among the plan's names, and the stamps with it.
use Rattle.std.proofs.Common.{◌≡◌, ℕ, ◌+◌, ◌<◌, ◌≤◌, Bool, true, ltb, List, [], ◌∷◌, ◌++◌, map, length, get_or, take, set, Some, None, Decides, sym, ap, ◌∙◌, subst, arith}
use lib.ListN.{length-map}
use Rattle.std.proofs.lemmas.Bool.{lt-ltb}
use Rattle.text.specs.Bytes.{every}
use Rattle.text.specs.Directory.{Text, Finds}
use Rattle.plan.specs.declared.plan.Plan.{Plan}
use Rattle.engine.specs.Fits.{standing}
use Rattle.sheet.specs.Calls.{Begins, Follows, short}
use Rattle.sheet.specs.Views.{ground_over}
use Rattle.sheet.proofs.Answering.{room}
use Rattle.sheet.proofs.Grounds.{name_number}
use Rattle.sheet.proofs.Stamping.{every_stamped, standing_push, unknown, not_found, found_at}

module _ {K : Type 0} (text : K → Text) (p : Plan) (names : List K) (k : ℕ) (t : Text) (m a : ℕ) (e : None ≡ short (length (map text names)) m a) (is : k ≡ p.names) where
  long : p.names ≤ length names
  long = let h = room (length (map text names)) m a (sym e) in omega (arith, h.0, length-map names text, name_number p)

  same : take k names ≡ take p.names names
  same = ap (λ n. take n names) is

  pub no_number : (σ : List Text) → Finds (map text (take k names)) t None → Follows (ground_over text p names) σ t → ⊥
  no_number σ f = unknown p (map text names) σ t (not_found text names p.names t long (subst (λ x. Finds (map text x) t None) same f))

  module _ (n : ℕ) (f : Finds (map text (take k names)) t (Some n)) where
    pub number_is : (n < p.names) × (get_or (map text names) n [] ≡ t)
    number_is = found_at text names p.names n t long (subst (λ x. Finds (map text x) t (Some n)) same f)

    module _ (stamps : List ℕ) (count : ℕ) (room_for : count < length stamps) where
      pub among_more : every (λ x. ltb x (length names)) (take count stamps) ≡ true → every (λ x. ltb x (length names)) (take (count + 1) (set stamps count n)) ≡ true
      among_more h = every_stamped (λ x. ltb x (length names)) stamps count n room_for h (lt-ltb n (length names) (omega (arith, number_is.0, long)))

      pub stands_more : standing (map text names) (take (count + 1) (set stamps count n)) ≡ standing (map text names) (take count stamps) ++ (t ∷ [])
      stands_more = standing_push (map text names) stamps count n room_for ∙ ap (λ x. standing (map text names) (take count stamps) ++ (x ∷ [])) number_is.1

      -- the stamp is taken exactly if a way fits
      pub follows_more : (b : Bool) → Decides b (Begins (ground_over text p names) (standing (map text names) (take (count + 1) (set stamps count n)))) → Decides b (Follows (ground_over text p names) (standing (map text names) (take count stamps)) t)
      follows_more b d = subst (λ τ. Decides b (Begins (ground_over text p names) τ)) stands_more d
