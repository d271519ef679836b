-- The bytes of leaf texts, and where such a text ends.
use Rattle.std.proofs.Common.{◌≡◌, ℕ, zero, suc, ◌^◌, ◌<◌, ◌≤◌, Bool, true, false, not, ◌||◌, eqb, List, [], ◌∷◌, ◌++◌, length, get_or, ℤ, pos, negsuc, Some, None, decimal, Option, sym, refl, ap, ◌∙◌, subst, arith}
use Rattle.std.proofs.lemmas.Bool.Decides.{nat_tests}
use Rattle.text.specs.Bytes.{digit, name_byte, every}
use Rattle.text.specs.Names.{Shaped}
use Rattle.text.specs.Bools.{clash}
use Rattle.text.specs.Numbers.{said}
use Rattle.text.specs.Texts.{number_said}
use Rattle.meaning.specs.Limits.{Phrase, item, sequence, options, lines}
use Rattle.grammar.specs.Written.{correction_text, bay_text, marks_text, name_text}
use Rattle.grammar.specs.Ranges.{CorrectionInRange, BayInRange, InRange}
use Rattle.plan.specs.WrittenLaws.{LeafSuits}
use Rattle.grammar.specs.declared.leaf.Marks.{Marks}
use Rattle.meaning.proofs.Testing.{and_true, and_left, and_right}

-- the bytes of a leaf's text: those of names, `:`, `-`, `@` and `_`
abbrev pub inner : ℕ → Bool
inner b = name_byte b || (eqb b 58 || (eqb b 45 || (eqb b 64 || eqb b 95)))

pub heads : {x y : ℕ} {xs ys : List ℕ} → x ∷ xs ≡ y ∷ ys → x ≡ y
heads e = cc

pub tails : {x y : ℕ} {xs ys : List ℕ} → x ∷ xs ≡ y ∷ ys → xs ≡ ys
tails e = cc

every_both : (test : ℕ → Bool) (s t : List ℕ) → every test s ≡ true → every test t ≡ true → every test (s ++ t) ≡ true
every_both test [] t a b = b
every_both test (x ∷ s) t a b = and_true (and_left (test x) (every test s) a) (every_both test s t (and_right (test x) (every test s) a) b)

pub every_in : (f g : ℕ → Bool) → ((b : ℕ) → f b ≡ true → g b ≡ true) → (t : List ℕ) → every f t ≡ true → every g t ≡ true
every_in f g w [] e = refl
every_in f g w (x ∷ t) e = and_true (w x (and_left (f x) (every f t) e)) (every_in f g w t (and_right (f x) (every f t) e))

name_inner : (b : ℕ) → name_byte b ≡ true → inner b ≡ true
name_inner b e = rw e

digit_inner : (b : ℕ) → digit b ≡ true → inner b ≡ true
digit_inner b e = grind (arith, nat_tests)

pub decimal_digits : (n : ℕ) → n < 2 ^ 32 → every digit (decimal n) ≡ true
decimal_digits n h = (said (decimal n) n n (number_said n n n h (omega arith) (omega arith))).digits

decimal_inner : (n : ℕ) → n < 2 ^ 32 → every inner (decimal n) ≡ true
decimal_inner n h = every_in digit inner digit_inner (decimal n) (decimal_digits n h)

correction_inner : (z : ℤ) → CorrectionInRange z → every inner (correction_text z) ≡ true
correction_inner (pos zero) h = refl
correction_inner (pos (suc n)) h = decimal_inner (suc n) (omega arith)
correction_inner (negsuc n) h = decimal_inner (suc n) (omega arith)

bay_inner : (o : Option ℕ) → BayInRange o → every inner (bay_text o) ≡ true
bay_inner None h = refl
bay_inner (Some b) h = decimal_inner b (omega arith)

marks_inner : (m : Marks) → InRange m → every inner (marks_text m) ≡ true
marks_inner m h = every_both inner (correction_text m.correction) (bay_text m.bay) (correction_inner m.correction h.0) (bay_inner m.bay h.1)

pub leaf_inner : (b : Bool) (o : Option ℕ) (texts : List (List ℕ)) (m : Marks) → LeafSuits b o texts → InRange m → every inner (name_text texts o (marks_text m)) ≡ true
leaf_inner true (Some n) texts m s h = every_both inner (get_or texts n []) (marks_text m) (every_in name_byte inner name_inner (get_or texts n []) s.bytes) (marks_inner m h)
leaf_inner true None texts m s h = absurd s
leaf_inner false (Some n) texts m s h = absurd s
leaf_inner false None texts m s h = refl

-- a text of such bytes does not begin with another byte
pub not_begun : (test : ℕ → Bool) (t r u : List ℕ) (s : ℕ) → 1 ≤ length t → every test t ≡ true → test s ≡ false → t ++ r ≡ s ∷ u → ⊥
not_begun test [] r u s l e n is = omega arith
not_begun test (x ∷ t) r u s l e n is = clash (subst (λ b. test b ≡ true) (heads is) (and_left (test x) (every test t) e)) n

leaf_some : (b : Bool) (o : Option ℕ) (texts : List (List ℕ)) (m : List ℕ) → LeafSuits b o texts → 1 ≤ length (name_text texts o m)
leaf_some true (Some n) texts m s = longer (get_or texts n []) m s.some
  where
    longer : (t u : List ℕ) → 1 ≤ length t → 1 ≤ length (t ++ u)
    longer [] u h = absurd (omega arith)
    longer (x ∷ t) u h = omega arith
leaf_some true None texts m s = absurd s
leaf_some false (Some n) texts m s = absurd s
leaf_some false None texts m s = omega arith

pub leaf_is_no_bracket : (b : Bool) (o : Option ℕ) (texts : List (List ℕ)) (m : Marks) (r u : List ℕ) (s : ℕ) → LeafSuits b o texts → InRange m → inner s ≡ false
    → name_text texts o (marks_text m) ++ r ≡ s ∷ u → ⊥
leaf_is_no_bracket b o texts m r u s a h n is =
    not_begun inner (name_text texts o (marks_text m)) r u s (leaf_some b o texts (marks_text m) a) (leaf_inner b o texts m a h) n is

-- a name is told from `_` by its text
name_is_not_blank : (t m : List ℕ) → Shaped t → t ++ m ≡ 95 ∷ [] → ⊥
name_is_not_blank t m s is = not_begun name_byte t m [] 95 s.some s.bytes refl is

pub same_sort : (b c : Bool) (o u : Option ℕ) (texts others : List (List ℕ)) (m n : List ℕ) → LeafSuits b o texts → LeafSuits c u others
    → name_text texts o m ≡ name_text others u n → b ≡ c
same_sort true true o u texts others m n a h is = refl
same_sort false false o u texts others m n a h is = refl
same_sort true false (Some i) None texts others m n a h is = absurd (name_is_not_blank (get_or texts i []) m a is)
same_sort true false (Some i) (Some j) texts others m n a h is = absurd h
same_sort true false None u texts others m n a h is = absurd a
same_sort false true None (Some j) texts others m n a h is = absurd (name_is_not_blank (get_or others j []) n h (sym is))
same_sort false true None None texts others m n a h is = absurd h
same_sort false true (Some i) u texts others m n a h is = absurd a

-- two texts of bytes that pass a test, each with what stands behind it, where that begins with a byte that does not
abbrev pub outside : (ℕ → Bool) → List ℕ → Bool
outside test [] = true
outside test (b ∷ r) = not (test b)

not_outside : (test : ℕ → Bool) (b : ℕ) (r u : List ℕ) → test b ≡ true → r ≡ b ∷ u → outside test r ≡ true → ⊥
not_outside test b r u i is o = clash (subst (λ x. outside test x ≡ true) is o) (ap not i)

pub told_apart : (test : ℕ → Bool) (t u r q : List ℕ) → every test t ≡ true → every test u ≡ true → outside test r ≡ true → outside test q ≡ true → t ++ r ≡ u ++ q → (t ≡ u) × (r ≡ q)
told_apart test [] [] r q a b o p is = (refl, is)
told_apart test [] (y ∷ u) r q a b o p is = absurd (not_outside test y r (u ++ q) (and_left (test y) (every test u) b) is o)
told_apart test (x ∷ t) [] r q a b o p is = absurd (not_outside test x q (t ++ r) (and_left (test x) (every test t) a) (sym is) p)
told_apart test (x ∷ t) (y ∷ u) r q a b o p is =
    let w = told_apart test t u r q (and_right (test x) (every test t) a) (and_right (test y) (every test u) b) o p (tails is) in
    (ap (λ n. n ∷ t) (heads is) ∙ ap (λ z. y ∷ z) w.0, w.1)

-- what may stand behind a phrase
abbrev pub stops : Phrase → List ℕ → Bool
stops p [] = true
stops item (b ∷ r) = eqb b 46 || (eqb b 44 || eqb b 41)
stops sequence (b ∷ r) = eqb b 44 || eqb b 41
stops options (b ∷ r) = eqb b 41
stops lines (b ∷ r) = eqb b 41

pub item_outside : (r : List ℕ) → stops item r ≡ true → outside inner r ≡ true
item_outside [] h = refl
item_outside (b ∷ r) h = grind (arith, nat_tests)

pub sequence_item : (r : List ℕ) → stops sequence r ≡ true → stops item r ≡ true
sequence_item [] h = refl
sequence_item (b ∷ r) h = grind (arith, nat_tests)

pub options_sequence : (r : List ℕ) → stops options r ≡ true → stops sequence r ≡ true
options_sequence [] h = refl
options_sequence (b ∷ r) h = grind (arith, nat_tests)

pub lines_sequence : (r : List ℕ) → stops lines r ≡ true → stops sequence r ≡ true
lines_sequence [] h = refl
lines_sequence (b ∷ r) h = grind (arith, nat_tests)

-- a longer phrase goes on with a sign that may not stand behind the shorter one
pub goes_on : (p : Phrase) (r u : List ℕ) (s : ℕ) → stops p r ≡ true → stops p (s ∷ u) ≡ false → r ≡ s ∷ u → ⊥
goes_on p r u s h n is = clash (subst (λ x. stops p x ≡ true) is h) n
