-- Directories, entry by entry.
use Rattle.std.proofs.Common.{◌≡◌, ℕ, zero, suc, ◌+◌, ◌-◌, ◌<◌, ◌≤◌, min, Bool, true, false, ◌⊎◌, List, [], ◌∷◌, ◌++◌, map, length, get_or, take, drop, set, Some, None, ◌≢◌, Decides, Option, sym, refl, ap, ◌∙◌, subst, inl, inr, append_assoc, append-nil, le_of_suc-le-suc, arith}
use native.Mathlib.Nat.{sub-zero}
use Rattle.std.specs.List.{AllWithin, HoldsAt}
use Rattle.std.specs.Option.{MatchOption}
use Rattle.std.specs.Str.{bytes_eq}
use Rattle.std.proofs.lemmas.Slice.Eq.{bytes_eq-Decides}
use Rattle.std.proofs.lemmas.Bool.Decides.{Decides-by_or}
use Rattle.std.proofs.lemmas.Bool.{cond-true, cond-false, cases_lt}
use Rattle.std.proofs.lemmas.List.{get_or-map, length-map, length-append, length-set, get_or_default, map-append, take_at, take_more_set, take_all, drop-drop, drop-set-lt, drop_more, drop_all}
use Rattle.text.specs.Directory.{Text, holds, added, added_all, directory, Finds, Adds, Gathers}
use Rattle.text.specs.declared.directory.Entry.{Entry}
use Rattle.text.specs.declared.directory.Entry.TheVariants.{Known, New}
use Rattle.text.specs.Bools.{refute}

-- an entry of a list, by its place
entry : {X : Type 0} (xs : List X) (i : ℕ) → i < length xs → X
entry [] i h = absurd (omega arith)
entry (x ∷ xs) zero h = x
entry (x ∷ xs) (suc i) h = entry xs i (le_of_suc-le-suc h)

-- the text of the name that is read at a place
pub text_at : {K : Type 0} (text : K → Text) (names : List K) (i : ℕ) (x : K) → i < length names → x ≡ get_or names i x → get_or (map text names) i [] ≡ text x
text_at text names i x h e = get_or-map text names i x [] h ∙ ap text (sym e)

-- the first name that has a text is where the text is found
pub found : {K : Type 0} (text : K → Text) (names : List K) (t : Text) (r : Option ℕ) → MatchOption r (AllWithin (λ x. text x ≢ t) names 0 (length names)) (λ i. (i < length names) × HoldsAt (λ x. text x ≡ t) names i × AllWithin (λ x. text x ≢ t) names 0 i) → Finds (map text names) t r
found text names t None a = λ k h e.
    let i : k < length names = omega (arith, length-map names text, h) in
    let x = entry names k i in
    a k x (omega arith) i (sym (get_or-map text names k x [] i) ∙ e)
found text names t (Some i) a =
    let x = entry names i a.0 in (
      omega (arith, length-map names text, a.0),
      get_or-map text names i x [] a.0 ∙ a.1 x,
      λ k h e. let j : k < length names = omega (arith, a.0) in let y = entry names k j in a.2 k y (omega arith) h (sym (get_or-map text names k y [] j) ∙ e),
    )

pub length_texts : {K : Type 0} (text : K → Text) (names : List K) → length (map text names) ≡ length names
length_texts text names = length-map names text

-- `holds` holds of just the texts that are found
pub is_held : (us : List Text) (t : Text) → Decides (holds us t) ((k : ℕ) × (k < length us) × HoldsAt (λ u. u ≡ t) us k)
is_held us t = Decides-by_or (λ u. bytes_eq u t) (λ u. u ≡ t) (λ vs. holds vs t) (λ u. bytes_eq-Decides u t) refl (λ _ _. refl) us

held : (us : List Text) (t : Text) (i : ℕ) → Finds us t (Some i) → holds us t ≡ true
held us t i f = (is_held us t).1 (i, f.0, λ d. get_or_default us i d [] f.0 ∙ f.1)

unheld : (us : List Text) (t : Text) → Finds us t None → holds us t ≡ false
unheld us t f = refute (holds us t) (λ e. let p = (is_held us t).0 e in f p.0 p.1 (p.2 []))

pub added_known : (us : List Text) (t : Text) (i : ℕ) → Finds us t (Some i) → added us t ≡ us
added_known us t i f = cond-true (holds us t) us (us ++ (t ∷ [])) (held us t i f)

pub added_new : (us : List Text) (t : Text) → Finds us t None → added us t ≡ us ++ (t ∷ [])
added_new us t f = cond-false (holds us t) us (us ++ (t ∷ [])) (unheld us t f)

-- the first names of a buffer, however many are asked for
pub take_min : {X : Type 0} (n : ℕ) (xs : List X) → take (min n (length xs)) xs ≡ take n xs
take_min n xs = go (cases_lt n (length xs))
  where
    go : (n < length xs) ⊎ (length xs ≤ n) → take (min n (length xs)) xs ≡ take n xs
    go (inl h) = let e : min n (length xs) ≡ n = omega arith in ap (λ k. take k xs) e
    go (inr h) = let e : min n (length xs) ≡ length xs = omega arith in ap (λ k. take k xs) e ∙ take_all (length xs) xs (omega arith) ∙ sym (take_all n xs h)

pub finds_first : {K : Type 0} (text : K → Text) (names : List K) (t : Text) (len count : ℕ) (r : Option ℕ) → count ≡ min len (length names) → Finds (map text (take (count - 0) names)) t r → Finds (map text (take len names)) t r
finds_first text names t len count r e f =
    let p : take (count - 0) names ≡ take len names = rw sub-zero (ap (λ k. take k names) e ∙ take_min len names) in
    subst (λ us. Finds (map text us) t r) p f

drop_one_more : {X : Type 0} (xs ys : List X) (n : ℕ) → drop n xs ≡ drop n ys → drop (n + 1) xs ≡ drop (n + 1) ys
drop_one_more xs ys n e = sym (drop-drop 1 n xs) ∙ (ap (drop 1) e ∙ drop-drop 1 n ys)

-- a directory only grows at its end
grown : (us : List Text) (t : Text) → (vs : List Text) × (added us t ≡ us ++ vs)
grown us t = go (holds us t) refl
  where
    go : (b : Bool) → holds us t ≡ b → (vs : List Text) × (added us t ≡ us ++ vs)
    go true e = ([], cond-true (holds us t) us (us ++ (t ∷ [])) e ∙ sym (append-nil us))
    go false e = (t ∷ [], cond-false (holds us t) us (us ++ (t ∷ [])) e)

pub grown_all : (us ts : List Text) → (vs : List Text) × (added_all us ts ≡ us ++ vs)
grown_all us [] = ([], sym (append-nil us))
grown_all us (t ∷ ts) =
    let a = grown us t in
    let b = grown_all (added us t) ts in
    (a.0 ++ b.0, b.1 ∙ (ap (λ w. w ++ b.0) a.1 ∙ append_assoc us a.0 b.0))

-- the steps of `gather`: the first `len` names are a directory that the names of the list from i on make that of the list,
-- and the entries behind them are as they were
pub record Gathered {K : Type 0} (text : K → Text) (list before names : List K) (len i : ℕ) : Type 0 where
  pub fits : len ≤ length names
  pub sofar : added_all (map text (take len names)) (map text (drop i list)) ≡ directory (map text list)
  pub behind : drop len names ≡ drop len before

module _ {K : Type 0} (text : K → Text) (list before names : List K) (len i : ℕ) (g : Gathered text list before names len i) where
  -- the next name of the list
  next : (x : K) → i < length list → x ≡ get_or list i x → added_all (map text (take len names)) (text x ∷ map text (drop (i + 1) list)) ≡ directory (map text list)
  next x h e =
      ap (λ t. added_all (map text (take len names)) (text t ∷ map text (drop (i + 1) list))) e
      ∙ (ap (λ ys. added_all (map text (take len names)) (map text ys)) (sym (drop_more list i x h)) ∙ g.sofar)

  known : (after : List K) (x : K) (j : ℕ) → i < length list → x ≡ get_or list i x → Adds text names after len x (Some (Known j)) → Gathered text list before after len (i + 1)
  known after x j h e a =
      subst (λ ns. Gathered text list before ns len (i + 1)) (sym a.1) (record {
        fits = g.fits;
        sofar = ap (λ u. added_all u (map text (drop (i + 1) list))) (sym (added_known (map text (take len names)) (text x) j a.0)) ∙ next x h e;
        behind = g.behind;
      })

  new : (after : List K) (x : K) (n : ℕ) → i < length list → x ≡ get_or list i x → Adds text names after len x (Some (New n)) → Gathered text list before after (n + 1) (i + 1)
  new after x n h e a =
      subst (λ ns. Gathered text list before ns (n + 1) (i + 1)) (sym a.3) (subst (λ m. Gathered text list before (set names len x) (m + 1) (i + 1)) (sym a.1) (record {
        fits = omega (arith, a.2, length-set names len x);
        sofar =
            ap (λ u. added_all u (map text (drop (i + 1) list))) (ap (map text) (take_more_set names len x a.2) ∙ (map-append text (take len names) (x ∷ []) ∙ sym (added_new (map text (take len names)) (text x) a.0)))
            ∙ next x h e;
        behind = drop-set-lt (len + 1) names len x (omega arith) ∙ drop_one_more names before len g.behind;
      }))

  pub known_step : (after : List K) (x : K) (entry : Entry) (j m : ℕ) → i < length list → x ≡ get_or list i x → Adds text names after len x (Some entry) → entry ≡ Known j → m ≡ len → Gathered text list before after m (i + 1)
  known_step after x entry j m h e a is count =
      subst (λ n. Gathered text list before after n (i + 1)) (sym count) (known after x j h e (subst (λ y. Adds text names after len x (Some y)) is a))

  pub new_step : (after : List K) (x : K) (entry : Entry) (n m : ℕ) → i < length list → x ≡ get_or list i x → Adds text names after len x (Some entry) → entry ≡ New n → m ≡ n + 1 → Gathered text list before after m (i + 1)
  new_step after x entry n m h e a is count =
      subst (λ k. Gathered text list before after k (i + 1)) (sym count) (new after x n h e (subst (λ y. Adds text names after len x (Some y)) is a))

  -- a new name finds no room: the names are the first ones of the directory, which has more
  pub full_step : (after : List K) (x : K) → i < length list → x ≡ get_or list i x → length names ≡ length before → Adds text names after len x None → Gathers text list before after None
  full_step after x h e size a = (longer, ap (map text) a.2 ∙ first)
    where
      us : List Text
      us = map text (take len names)

      whole : us ≡ map text names
      whole = ap (map text) (take_all len names a.1)

      long : length us ≡ length before
      long = ap length whole ∙ (length-map names text ∙ size)

      rest : (vs : List Text) × (added_all (added us (text x)) (map text (drop (i + 1) list)) ≡ added us (text x) ++ vs)
      rest = grown_all (added us (text x)) (map text (drop (i + 1) list))

      split : directory (map text list) ≡ us ++ ((text x ∷ []) ++ rest.0)
      split = sym (next x h e) ∙ (rest.1 ∙ (ap (λ w. w ++ rest.0) (added_new us (text x) a.0) ∙ append_assoc us (text x ∷ []) rest.0))

      longer : length before < length (directory (map text list))
      longer = omega (arith, long, ap length split, length-append us ((text x ∷ []) ++ rest.0))

      first : map text names ≡ take (length before) (directory (map text list))
      first = sym whole ∙ (sym (take_at us ((text x ∷ []) ++ rest.0) (length us) refl) ∙ (ap (λ n. take n (us ++ ((text x ∷ []) ++ rest.0))) long ∙ ap (take (length before)) (sym split)))

  pub all_steps : length list ≤ i → length names ≡ length before → Gathers text list before names (Some len)
  all_steps h size =
      (omega (arith, g.fits), sym (ap (λ ys. added_all (map text (take len names)) (map text ys)) (drop_all i list h)) ∙ g.sofar, g.behind)
