-- The places where names begin.
use Rattle.std.proofs.Common.{◌≡◌, ℕ, ◌-◌, ◌<◌, ◌≤◌, Bool, true, false, not, ◌&&◌, ltb, List, get_or, drop, Option, Some, None, MatchOption, sym, refl, ap, ◌∙◌, arith}
use Rattle.std.proofs.lemmas.Bool.Decides.{nat_tests}
use Rattle.std.specs.Option.{is_some}
use Rattle.text.specs.Bytes.{digit, name_byte}
use Rattle.text.specs.Parts.{Run, number_may_begin}
use Rattle.grammar.specs.Faults.{front}
use Rattle.reader.specs.Judged.{lacks, Unnamed}
use Rattle.reader.proofs.ReadingParts.{never}
use Rattle.reader.proofs.ReadingMarks.{longest_front}

pub and_no_right : (x y : Bool) → y ≡ false → (x && y) ≡ false
and_no_right true y e = e
and_no_right false y e = refl

pub and_no_left : (x y : Bool) → x ≡ false → (x && y) ≡ false
and_no_left true y e = absurd (never (sym e))
and_no_left false y e = refl

pub and_yes : (x y : Bool) → (x && y) ≡ true → (x ≡ true) × (y ≡ true)
and_yes true y e = (refl, e)
and_yes false y e = absurd (never e)

-- no byte of a name stands before a place
abbrev pub clear : List ℕ → ℕ → Bool
clear t p = not (ltb 0 p && name_byte (get_or t (p - 1) 0))

pub clear_first : (t : List ℕ) (p : ℕ) → p ≤ 0 → clear t p ≡ true
clear_first t p h = let z : ltb 0 p ≡ false = grind (arith, nat_tests) in rw z

pub clear_behind : (t : List ℕ) (p : ℕ) → name_byte (get_or t (p - 1) 0) ≡ false → clear t p ≡ true
clear_behind t p h = ap not (and_no_right (ltb 0 p) _ h)

-- a name stands there
pub name_lacks : (has : List ℕ → Bool) (t : List ℕ) (p : ℕ) (w : List ℕ) → clear t p ≡ true → Run name_byte t p w → (number_may_begin t p && digit (get_or t p 0)) ≡ false → lacks has t p ≡ not (has w)
name_lacks has t p w c r d =
    let n : name_byte (get_or t p 0) ≡ true = r.1.all p (omega arith) r.2 in
    let f : front name_byte (drop p t) ≡ w = longest_front name_byte t p r.0 r.1 ∙ sym r.3 in
    ap (λ x. ((x && name_byte (get_or t p 0)) && not (number_may_begin t p && digit (get_or t p 0))) && not (has (front name_byte (drop p t)))) c
    ∙ (ap (λ x. (x && not (number_may_begin t p && digit (get_or t p 0))) && not (has (front name_byte (drop p t)))) n
    ∙ (ap (λ x. not x && not (has (front name_byte (drop p t)))) d ∙ ap (λ x. not (has x)) f))

-- a kind answers no name of a text exactly if it has none
pub none_has : {K : Type 0} (text : K → List ℕ) (has : List ℕ → Bool) → ((x : K) → has (text x) ≡ true) → (w : List ℕ) (o : Option K)
    → MatchOption o (has w ≡ false) (λ x. text x ≡ w) → (none : Bool) → is_some o ≡ not none → none ≡ not (has w)
none_has text has named w None h true e = sym (ap not h)
none_has text has named w None h false e = cc
none_has text has named w (Some x) h true e = cc
none_has text has named w (Some x) h false e = sym (ap not (ap has (sym h) ∙ named x))

-- it answers none exactly if a name that it lacks begins there
pub none_lacks : {K : Type 0} (text : K → List ℕ) (has : List ℕ → Bool) → ((x : K) → has (text x) ≡ true) → (t : List ℕ) (p : ℕ) (w : List ℕ) (o : Option K)
    → MatchOption o (has w ≡ false) (λ x. text x ≡ w) → (none : Bool) → is_some o ≡ not none
    → clear t p ≡ true → Run name_byte t p w → (number_may_begin t p && digit (get_or t p 0)) ≡ false → none ≡ lacks has t p
none_lacks text has named t p w o h none e c r d = none_has text has named w o h none e ∙ sym (name_lacks has t p w c r d)

-- the first place where a name is lacking
pub unnamed_first : (has : List ℕ → Bool) (t : List ℕ) (limit : ℕ) (o : Option ℕ)
    → MatchOption o ((k : ℕ) → 0 ≤ k → k < limit → lacks has t k ≡ false) (λ p. (0 ≤ p) × (p < limit) × (lacks has t p ≡ true) × ((k : ℕ) → 0 ≤ k → k < p → lacks has t k ≡ false))
    → Unnamed has t limit o
unnamed_first has t limit None h = λ q l. h q (omega arith) l
unnamed_first has t limit (Some p) h = (h.1, h.2, λ q l. h.3 q (omega arith) l)
