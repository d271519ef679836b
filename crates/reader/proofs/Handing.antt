-- What `ok_or(..)?` and `map_err(..)?` hand on.
use Rattle.std.proofs.Common.{◌≡◌, None, Ok, Err, Option, Result, subst}
use Rattle.std.specs.Option.{ok_or}
use Rattle.std.specs.Result.{MatchResult}

-- the error, where there is no value
pub err_of_none : {T E : Type 0} {o : Option T} {d e : E} → ◌≡◌ {A = Result T E} (Err d) (ok_or o e) → o ≡ None → d ≡ e
err_of_none {T} {E} {o} {d} {e} h n = let k : ◌≡◌ {A = Result T E} (Err d) (Err e) = rw n at h in cc

-- what a value or an error was before `map_err`
pub ok_kept : {T E : Type 0} (D : Type 0) (P : T → Type 0) (Q : E → Type 0) (r : Result T E) (x : T) → MatchResult r P Q → MatchResult r (λ y. ◌≡◌ {A = Result T D} (Ok x) (Ok y)) (λ e. ⊥) → P x
ok_kept D P Q (Ok y) x h e = subst P (cc) h
ok_kept D P Q (Err z) x h e = absurd e

pub err_mapped : {T E D : Type 0} (P : T → Type 0) (Q N : E → Type 0) (r : Result T E) (d : D) → MatchResult r P Q → MatchResult r (λ y. ◌≡◌ {A = Result T D} (Err d) (Ok y)) N → (e : E) × Q e × N e
err_mapped P Q N (Ok y) d h e = cc
err_mapped P Q N (Err z) d h e = (z, h, e)
