-- Two lists that agree from a place on.
use Rattle.std.proofs.Common.{◌≡◌, ℕ, zero, suc, ◌≤◌, List, [], ◌∷◌, length, get_or, drop, refl, arith}

-- two lists that agree from a place on
same_all : (xs ys : List ℕ) → length xs ≡ length ys → ((i : ℕ) → get_or xs i 0 ≡ get_or ys i 0) → xs ≡ ys
same_all [] [] n h = refl
same_all [] (y ∷ ys) n h = absurd (omega arith)
same_all (x ∷ xs) [] n h = absurd (omega arith)
same_all (x ∷ xs) (y ∷ ys) n h = let t = same_all xs ys (omega arith) (λ i. h (suc i)) in let e : x ≡ y = h 0 in cc

pub same_from : (n : ℕ) (xs ys : List ℕ) → length xs ≡ length ys → ((i : ℕ) → n ≤ i → get_or xs i 0 ≡ get_or ys i 0) → drop n xs ≡ drop n ys
same_from zero xs ys l h = same_all xs ys l (λ i. h i (omega arith))
same_from (suc n) [] [] l h = refl
same_from (suc n) [] (y ∷ ys) l h = absurd (omega arith)
same_from (suc n) (x ∷ xs) [] l h = absurd (omega arith)
same_from (suc n) (x ∷ xs) (y ∷ ys) l h = same_from n xs ys (omega arith) (λ i k. h (suc i) (omega arith))
