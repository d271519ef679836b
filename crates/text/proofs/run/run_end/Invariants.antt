use Rattle.std.proofs.Common.{◌≡◌, ℕ, ◌+◌, Bool}
use Rattle.text.proofs.Runs.{Running}
use Rattle.text.proofs.run.run_end.Given as goal

-- the bytes passed so far pass each test that the closure computes
abbrev pub invariant-loop-n : goal.invariant-loop-n
invariant-loop-n g l = (test : ℕ → Bool) → ((b : ℕ) (r : Bool) → goal.F-post g l.passes b r → r ≡ test b) → Running test l.text l.at (l.at + l.n)
