-- The numbers of a set below a bound, listed in a buffer.
use Rattle.std.proofs.Common.{◌≡◌, ℕ, ◌+◌, ◌<◌, Bool, true, false, cond, List, [], ◌∷◌, ◌++◌, length, set, take, sym, refl, ap, ◌∙◌, append-nil, add-one}
use Rattle.std.proofs.lemmas.List.{take_more_set}
use Rattle.load.specs.JudgementLines.{members}

one_more : (s : ℕ → Bool) (n : ℕ) (b : Bool) → s n ≡ b → members s (n + 1) ≡ members s n ++ cond b (n ∷ []) []
unfolding members
one_more s n b h = rw add-one (ap (λ c. members s n ++ cond c (n ∷ []) []) h)

-- below 0 there is none
pub no_member : (s : ℕ → Bool) → ◌≡◌ {A = List ℕ} [] (members s 0)
unfolding members
no_member s = refl

-- a number of the set
pub list_member : (s : ℕ → Bool) (n m : ℕ) (list : List ℕ) (count : ℕ) → s n ≡ true → m ≡ n → count < length list → take count list ≡ members s n
    → take (count + 1) (set list count m) ≡ members s (n + 1)
list_member s n m list count h e l is =
    take_more_set list count m l ∙ (ap (λ t. t ++ (m ∷ [])) is ∙ (ap (λ k. members s n ++ (k ∷ [])) e ∙ sym (one_more s n true h)))

-- a number that is not of the set
pub list_other : (s : ℕ → Bool) (n : ℕ) (list : List ℕ) (count : ℕ) → s n ≡ false → take count list ≡ members s n → take count list ≡ members s (n + 1)
list_other s n list count h is = is ∙ sym (one_more s n false h ∙ append-nil (members s n))
