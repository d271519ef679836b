-- Tests on bytes and lists of bytes.
use Rattle.std.specs.Prelude.{◌≡◌, ℕ, ◌+◌, ◌<◌, Bool, true, false, List, length, take, Decides, ◌≢◌, slice_index, refl}
use Rattle.std.proofs.Common.{arith}
use Rattle.std.specs.List.{AllByRecursion}
use Rattle.std.proofs.ByRecursion.{All-get_or, All-more, Decides-by_and}
use Rattle.text.specs.Bytes.{every}

pub refute : (b : Bool) → (b ≢ true) → b ≡ false
refute true h = absurd (h refl)
refute false h = refl

pub clash : {b : Bool} → b ≡ true → b ≢ false
clash p q = let z : ◌≡◌ {A = ℕ} 0 1 = cc in omega arith

bool_decides : (b : Bool) → Decides b (b ≡ true)
bool_decides b = (λ e. e, λ e. e)

-- `every test` holds of just the lists of bytes that all pass
pub every_all : (test : ℕ → Bool) (t : List ℕ) → Decides (every test t) (AllByRecursion (λ b. test b ≡ true) t)
every_all test = Decides-by_and test (λ b. test b ≡ true) (every test) (λ b. bool_decides (test b)) refl (λ _ _. refl)

pub every_at : (test : ℕ → Bool) (t : List ℕ) (i : ℕ) → i < length t → every test t ≡ true → test (slice_index t i) ≡ true
every_at test t i h e = All-get_or (λ b. test b ≡ true) t i 0 h ((every_all test t).0 e)

pub every_more : (test : ℕ → Bool) (t : List ℕ) (i : ℕ) → i < length t → every test (take i t) ≡ true → test (slice_index t i) ≡ true → every test (take (i + 1) t) ≡ true
every_more test t i h e l = (every_all test (take (i + 1) t)).1 (All-more (λ b. test b ≡ true) t i 0 h ((every_all test (take i t)).0 e) l)
