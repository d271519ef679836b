-- Names that stand twice.
use Rattle.std.proofs.Common.{◌≡◌, ℕ, ◌<◌, ◌≤◌, Bool, true, false, List, [], map, length, get_or, take, is_some, Some, None, Option, MatchOption, Decides, sym, refl, ap, ◌∙◌, arith}
use Rattle.std.proofs.lemmas.Bool.{false≢true}
use Rattle.std.proofs.lemmas.List.{take-map, get_or-take, length-take-le}
use Rattle.text.specs.Directory.{Finds}
use Rattle.text.proofs.Entries.{text_at, length_texts}
use Rattle.plan.specs.Writes.{StandsTwice, FirstTwice}

-- what stands among the first names of a list is what stands in it
module _ {K : Type 0} (text : K → List ℕ) (names : List K) (n : ℕ) (x : K) (h : n < length names) (is : x ≡ get_or names n x) where
  before : (k : ℕ) → k < n → get_or (map text (take n names)) k [] ≡ get_or (map text names) k []
  before k l = ap (λ us. get_or us k []) (sym (take-map text n names)) ∙ get_or-take n (map text names) k [] l

  number : length (map text (take n names)) ≡ n
  number = length_texts text (take n names) ∙ length-take-le n names (omega arith)

  twice_from : (i : ℕ) → Finds (map text (take n names)) (text x) (Some i) → StandsTwice (map text names) n
  twice_from i f =
      let l : i < n = omega (arith, f.0, number) in
      (i, l, sym (before i l) ∙ (f.1 ∙ sym (text_at text names n x h is)))

  once_from : Finds (map text (take n names)) (text x) None → StandsTwice (map text names) n → ⊥
  once_from f s = f s.0 (omega (arith, s.1, number)) (before s.0 s.1 ∙ (s.2 ∙ text_at text names n x h is))

  -- so an answer tells it by whether it is there
  pub twice_decides : (o : Option ℕ) (b : Bool) → b ≡ is_some o → Finds (map text (take n names)) (text x) o → Decides b (StandsTwice (map text names) n)
  twice_decides (Some i) b e f = (λ t. twice_from i f, λ s. e)
  twice_decides None b e f = (λ t. cc, λ s. absurd (once_from f s))

-- the first name that stands twice
pub first_decides : (texts : List (List ℕ)) (count : ℕ) (o : Option ℕ)
    → MatchOption o ((k : ℕ) → 0 ≤ k → k < count → Decides false (StandsTwice texts k))
    (λ n. (0 ≤ n) × (n < count) × Decides true (StandsTwice texts n) × ((k : ℕ) → 0 ≤ k → k < n → Decides false (StandsTwice texts k)))
    → FirstTwice texts count o
first_decides texts count None h = λ k l s. false≢true ((h k (omega arith) l).1 s)
first_decides texts count (Some n) h = (h.1, h.2.0 refl, λ k l s. false≢true ((h.3 k (omega arith) l).1 s))
