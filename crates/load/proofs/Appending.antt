-- One text put behind another.
use Rattle.std.proofs.Common.{◌≡◌, ℕ, ◌+◌, ◌<◌, ◌≤◌, List, [], ◌∷◌, ◌++◌, length, get_or, take, drop, Ok, Err, vec_items, Result, Vec, sym, refl, ap, ◌∙◌, subst, append_assoc, arith}
use Rattle.std.specs.List.{flat_map}
use Rattle.std.proofs.lemmas.List.{length-append, take_more, take_all, take-append-drop, flat_map_more}
use Rattle.load.specs.Printed.{Put, Lacks, Appends}

-- a text is put there, and then another
pub then_more : {Z E : Type 0} (a b : List ℕ) (x y z : Vec ℕ Z) (r : Result (Unit {0}) E) → Put a x y → Appends b y z r → Appends (a ++ b) x z r
then_more a b x y z (Ok v) p q = (q.0 ∙ (ap (λ w. w ++ b) p.0 ∙ append_assoc (vec_items x) a b), omega (arith, p.1, q.1))
then_more a b x y z (Err e) p q =
    omega (arith, p.1, q, ap length p.0, length-append (vec_items x) a, length-append a b)

-- there is not room for the first text, and so not for both
pub lacks_more : {Z : Type 0} (a b : List ℕ) (x : Vec ℕ Z) → Lacks a x → Lacks (a ++ b) x
lacks_more a b x p = omega (arith, p, length-append a b)

-- a text is put there, and there is not room for the next
pub lacks_later : {Z : Type 0} (a b : List ℕ) (x y : Vec ℕ Z) → Put a x y → Lacks b y → Lacks (a ++ b) x
lacks_later a b x y p q = omega (arith, p.1, q, ap length p.0, length-append (vec_items x) a, length-append a b)

pub joined_append : {A : Type 0} (f : A → List ℕ) (ms ns : List A) → flat_map f (ms ++ ns) ≡ flat_map f ms ++ flat_map f ns
joined_append f [] ns = refl
joined_append f (m ∷ ms) ns = ap (λ t. f m ++ t) (joined_append f ms ns) ∙ sym (append_assoc (f m) (flat_map f ms) (flat_map f ns))

-- items of a list, each put there in turn
module _ {A : Type 0} (f : A → List ℕ) (d : A) where
  joined_push : (ns : List A) (i : ℕ) → i < length ns → flat_map f (take i ns) ++ f (get_or ns i d) ≡ flat_map f (take (i + 1) ns)
  joined_push ns i h = flat_map_more f [] (take i ns) (get_or ns i d) ∙ ap (flat_map f) (sym (take_more ns i d h))

  pub put_more : {Z : Type 0} (x y z : Vec ℕ Z) (ns : List A) (i : ℕ) → i < length ns → Put (flat_map f (take i ns)) x y → Put (f (get_or ns i d)) y z → Put (flat_map f (take (i + 1) ns)) x z
  put_more x y z ns i h p q =
      (q.0 ∙ (ap (λ w. w ++ f (get_or ns i d)) p.0 ∙ (append_assoc (vec_items x) (flat_map f (take i ns)) (f (get_or ns i d)) ∙ ap (λ w. vec_items x ++ w) (joined_push ns i h))), omega (arith, p.1, q.1))

  -- there is not room for one of the items, and so not for all
  lacks_all : {Z : Type 0} (x y : Vec ℕ Z) (ns : List A) (i : ℕ) → i < length ns → Put (flat_map f (take i ns)) x y → Lacks (f (get_or ns i d)) y → Lacks (flat_map f ns) x
  lacks_all x y ns i h p q =
      let l = lacks_later (flat_map f (take i ns)) (f (get_or ns i d)) x y p q in
      let e : flat_map f ns ≡ flat_map f (take (i + 1) ns) ++ flat_map f (drop (i + 1) ns) = ap (flat_map f) (sym (take-append-drop (i + 1) ns)) ∙ joined_append f (take (i + 1) ns) (drop (i + 1) ns) in
      omega (arith, l, ap length (joined_push ns i h), ap length e, length-append (flat_map f (take (i + 1) ns)) (flat_map f (drop (i + 1) ns)))

  pub stopped_all : {Z E : Type 0} (x y z : Vec ℕ Z) (ns : List A) (i : ℕ) (r : Result (Unit {0}) E) (e : E) → r ≡ Err e → i < length ns → Put (flat_map f (take i ns)) x y → Lacks (f (get_or ns i d)) y → Appends (flat_map f ns) x z r
  stopped_all x y z ns i r e k h p q = rw k (lacks_all x y ns i h p q)

pub put_all : {A Z : Type 0} (f : A → List ℕ) (x y : Vec ℕ Z) (ns : List A) (i : ℕ) → length ns ≤ i → Put (flat_map f (take i ns)) x y → Put (flat_map f ns) x y
put_all f x y ns i h p = (p.0 ∙ ap (λ w. vec_items x ++ flat_map f w) (take_all i ns h), p.1)

-- the same text, written otherwise
pub retold : {Z E : Type 0} (a b : List ℕ) (x z : Vec ℕ Z) (r : Result (Unit {0}) E) → a ≡ b → Appends b x z r → Appends a x z r
retold a b x z r e p = subst (λ t. Appends t x z r) (sym e) p

-- a call ends with want of memory
pub stop : {Z E : Type 0} (a : List ℕ) (x z : Vec ℕ Z) (r : Result (Unit {0}) E) (e : E) → r ≡ Err e → Lacks a x → Appends a x z r
stop a x z r e h p = rw h p
