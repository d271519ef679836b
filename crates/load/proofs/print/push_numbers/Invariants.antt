use Rattle.std.proofs.Common.{◌≡◌, ℕ, take}
use Rattle.std.specs.List.{flat_map}
use Rattle.load.specs.Printed.{Put, field}
use Rattle.load.proofs.print.push_numbers.Given as goal

abbrev pub invariant-loop-n : goal.invariant-loop-n
invariant-loop-n g l =
    (worth : g.row.T.Denot → ℕ) → ((x : g.row.T.Denot) (n : ℕ) → g.T.Into.converts x n → n ≡ worth x)
    → Put (flat_map (λ x. field (worth x)) (take l.n-index l.numbers)) l.initial.out l.out
