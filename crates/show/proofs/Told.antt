-- What lines ask, and what the first call is.
use Rattle.std.proofs.Common.{◌≡◌, ℕ, ◌+◌, Bool, true, false, List, [], ◌∷◌, length, Some, None, Ok, is_some, Option, sym, subst, true≢false, arith}
use Rattle.text.specs.Bytes.{between}
use Rattle.sheet.specs.declared.words.Call.{Call}
use Rattle.show.specs.Lines.{Lies}
use Rattle.show.specs.Asking.{Asks, AsksFor, Finds, here, later, Called, all, more, Counted}

module _ {K : Type 0} (text : K → List ℕ) (has : List ℕ → Bool) (t : List ℕ) where
  -- the bytes of the line at a place, and where the next one begins
  abbrev pub HasLine : ℕ → ℕ → List ℕ → Type 0
  HasLine at next line = (end : ℕ) × Lies t at end × (line ≡ between t at end) × (next ≡ end + 1)

  -- the line at a place asks for a call
  pub found : (at next : ℕ) (line : List ℕ) (call : Call K) → HasLine at next line → AsksFor text has line (Some call) → Finds text has t at (Some (call, next))
  found at next line call (end, l, e, n) a = here end l (subst (λ b. Asks text has b (Ok (Some call))) e a) n

  -- the line at a place asks for none
  pub passed : (at next : ℕ) (line : List ℕ) → HasLine at next line → AsksFor text has line None → (r : Option (Call K × ℕ)) → Finds text has t next r → Finds text has t at r
  passed at next line (end, l, e, n) (a, q, i) r f = later end a l (subst (λ b. Asks text has b a) e q) i (subst (λ k. Finds text has t k r) n f)

  -- the calls that are asked for behind a line that asks for none
  called_later : (at next : ℕ) (calls : List (Call K)) → ((r : Option (Call K × ℕ)) → Finds text has t next r → Finds text has t at r) → Called text has t next calls → Called text has t at calls
  called_later at next [] f (all g) = all (f None g)
  called_later at next (call ∷ calls) f (more {next = n} g d) = more (f (Some (call, n)) g) d

  -- calls so far, and those to come
  abbrev pub Counting : ℕ → ℕ → ℕ → Type 0
  Counting from at count = (calls : List (Call K)) → Called text has t at calls → (all : List (Call K)) × Called text has t from all × (length all ≡ count + length calls)

  -- a line that asks for a call
  pub counting_more : (from at count next : ℕ) (call : Call K) → Finds text has t at (Some (call, next)) → Counting from at count → Counting from next (count + 1)
  counting_more from at count next call f i calls d =
      let w = i (call ∷ calls) (more f d) in (w.0, w.1, omega (arith, w.2))

  -- one that asks for none
  pub counting_passed : (from at count next : ℕ) → ((r : Option (Call K × ℕ)) → Finds text has t next r → Finds text has t at r) → Counting from at count → Counting from next count
  counting_passed from at count next f i calls d = i calls (called_later at next calls f d)

  pub counted : (from at count : ℕ) → Finds text has t at None → Counting from at count → Counted text has t from count
  counted from at count f i = let w = i [] (all f) in (w.0, w.1, omega (arith, w.2))

  -- the count goes up by one at a line that asks for a call, and stays at another
  pub count_up : (from at next count : ℕ) (line : List ℕ) (o : Option (Call K)) → is_some o ≡ true → HasLine at next line → AsksFor text has line o → Counting from at count → Counting from next (count + 1)
  count_up from at next count line None h l a i = absurd (true≢false (sym h))
  count_up from at next count line (Some call) h l a i = counting_more from at count next call (found at next line call l a) i

  pub count_stays : (from at next count : ℕ) (line : List ℕ) (o : Option (Call K)) → is_some o ≡ false → HasLine at next line → AsksFor text has line o → Counting from at count → Counting from next count
  count_stays from at next count line None h l a i = counting_passed from at count next (passed at next line l a) i
  count_stays from at next count line (Some call) h l a i = absurd (true≢false h)
