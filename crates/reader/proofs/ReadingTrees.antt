-- Expressions put together from what was read.
use Rattle.std.proofs.Common.{◌≡◌, ℕ, zero, suc, ◌+◌, ◌<◌, ◌≤◌, Bool, true, false, ◌&&◌, leb, List, [], ◌∷◌, ◌++◌, map, length, get_or, drop, sym, refl, ap, ◌∙◌, subst, append_assoc, add-zero, arith}
use Rattle.std.proofs.lemmas.List.{length-append, length-map, length-drop, drop-append-le, map-append}
use Rattle.std.proofs.lemmas.Bool.Decides.{nat_tests}
use Rattle.text.specs.Bytes.{between}
use Rattle.meaning.specs.Shape.{Sort, lock, choice, interleave, Link, then, or, beside, Shape, leaf, bracket, join, leaves}
use Rattle.meaning.specs.Limits.{Phrase, item, sequence, options, lines, held, plans, right_number, formed_as}
use Rattle.grammar.specs.Written.{sign_of, link_sign}
use Rattle.grammar.specs.Form.{least, most}
use Rattle.reader.specs.Branches.{Means}
use Rattle.reader.specs.Drafts.{draft_text, is_named, NamedAt, Placed, kinds, spelled}
use Rattle.reader.specs.Reading.{Drawn, Enough, Inside, inner_link}
use Rattle.layout.specs.Tree.{sort_of, link_of}
use Rattle.layout.specs.declared.tree.Sort as code
use Rattle.layout.specs.declared.tree.Sort.TheVariants.{Lock, Choice, Interleave}
use Rattle.layout.specs.declared.tree.Link as code-link
use Rattle.reader.specs.declared.branch.Branch.{Branch}
use Rattle.reader.specs.declared.draft.Draft.{Draft}
use Rattle.reader.proofs.ReadingParts.{never}
use Rattle.reader.proofs.ReadingText.{between_none, between_cons, between_append}

pub kinds_length : (e : Shape) → length (kinds e) ≡ leaves e
kinds_length (leaf b) = refl
kinds_length (bracket s e) = kinds_length e
kinds_length (join l e f) = simp length-append (omega (arith, kinds_length e, kinds_length f))

front_text : (ws vs : List (List ℕ)) → 1 ≤ length ws → get_or (ws ++ vs) 0 [] ≡ get_or ws 0 []
front_text [] vs h = absurd (omega arith)
front_text (w ∷ ws) vs h = refl

-- only the texts of its own leaves count
pub spelled_front : (e : Shape) (ws vs : List (List ℕ)) → leaves e ≤ length ws → spelled e (ws ++ vs) ≡ spelled e ws
spelled_front (leaf b) ws vs h = front_text ws vs h
spelled_front (bracket s e) ws vs h = ap (λ x. sign_of s ∷ 40 ∷ (x ++ (41 ∷ []))) (spelled_front e ws vs h)
spelled_front (join l e f) ws vs h =
    let a = spelled_front e ws vs (omega arith) in
    let b = drop-append-le (leaves e) ws vs (omega arith) in
    let c = spelled_front f (drop (leaves e) ws) vs (omega (arith, length-drop (leaves e) ws)) in
    ap (λ x. x ++ (link_sign l ∷ spelled f (drop (leaves e) (ws ++ vs)))) a
    ∙ ap (λ x. spelled e ws ++ (link_sign l ∷ x)) (ap (spelled f) b ∙ c)

drop_front : {A : Type 0} (xs ys : List A) (n : ℕ) → length xs ≡ n → drop n (xs ++ ys) ≡ ys
drop_front [] ys zero e = refl
drop_front [] ys (suc n) e = absurd (omega arith)
drop_front (x ∷ xs) ys zero e = absurd (omega arith)
drop_front (x ∷ xs) ys (suc n) e = drop_front xs ys n (omega arith)

pub spelled_join : (l : Link) (e f : Shape) (ws vs : List (List ℕ)) → length ws ≡ leaves e
    → spelled (join l e f) (ws ++ vs) ≡ spelled e ws ++ (link_sign l ∷ spelled f vs)
spelled_join l e f ws vs h =
    ap (λ x. x ++ (link_sign l ∷ spelled f (drop (leaves e) (ws ++ vs)))) (spelled_front e ws vs (omega arith))
    ∙ ap (λ x. spelled e ws ++ (link_sign l ∷ spelled f x)) (drop_front ws vs (leaves e) h)

pub placed_append : (t : List ℕ) (ds es : List Draft) → Placed t ds → Placed t es → Placed t (ds ++ es)
placed_append t [] es p q = q
placed_append t (d ∷ ds) es p q = (p.0, placed_append t ds es p.1 q)

pub as_sequence : (e : Shape) → formed_as item e ≡ true → formed_as sequence e ≡ true
as_sequence (leaf b) h = refl
as_sequence (bracket s e) h = h
as_sequence (join l e f) h = absurd (never h)

-- a plan stands as one of the plans of a bracket
pub as_held : (s : Sort) (e : Shape) → formed_as sequence e ≡ true → formed_as (held s) e ≡ true
as_held s (leaf b) h = refl
as_held s (bracket u e) h = h
as_held lock (join then e f) h = h
as_held choice (join then e f) h = h
as_held interleave (join then e f) h = h
as_held s (join or e f) h = absurd (never h)
as_held s (join beside e f) h = absurd (never h)

one_plan : (e : Shape) → formed_as sequence e ≡ true → plans e ≡ 1
one_plan (leaf b) h = refl
one_plan (bracket s e) h = refl
one_plan (join then e f) h = refl
one_plan (join or e f) h = absurd (never h)
one_plan (join beside e f) h = absurd (never h)

both : (x y : Bool) → x ≡ true → y ≡ true → (x && y) ≡ true
both true true p q = refl
both true false p q = q
both false y p q = p

right_count : (s : Sort) (e : Shape) → Enough s 1 e → right_number s (plans e) ≡ true
right_count lock e h = refl
right_count choice e h = let a = h.low in let b = h.high in both (leb 2 (plans e)) (leb (plans e) 8) (grind (arith, nat_tests)) (grind (arith, nat_tests))
right_count interleave e h = let a = h.low in let b = h.high in both (leb 2 (plans e)) (leb (plans e) 8) (grind (arith, nat_tests)) (grind (arith, nat_tests))

-- one leaf
pub leaf_drawn : (t : List ℕ) (p q k room : ℕ) (ds es : List Draft) (d : Draft) (b : Branch) → p ≤ q → es ≡ ds ++ (d ∷ []) → between t p q ≡ draft_text t d
    → NamedAt t d.at d.end → Means (leaf (is_named d)) b → Drawn item room t p k q k ds es b
leaf_drawn t p q k room ds es d b l g x a i = record {
  forward = l;
  shape = leaf (is_named d);
  added = d ∷ [];
  grown = g;
  text = x;
  kind = refl;
  placed = (a, tt);
  formed = refl;
  deep = omega arith;
  number = sym (add-zero k);
  meant = i;
}

between_snoc : (t : List ℕ) (p q : ℕ) → p ≤ q → q < length t → between t p (q + 1) ≡ between t p q ++ (get_or t q 0 ∷ [])
between_snoc t p q l w =
    between_append t p q (q + 1) l (omega arith)
    ∙ ap (λ x. between t p q ++ x) (between_cons t q (q + 1) (omega arith) w ∙ ap (λ x. get_or t q 0 ∷ x) (between_none t (q + 1)))

-- a bracket around plans
pub bracket_drawn : (s : Sort) (t : List ℕ) (p k deep room u v : ℕ) (ds es : List Draft) (a b : Branch) → p + 1 < length t → get_or t p 0 ≡ sign_of s → get_or t (p + 1) 0 ≡ 40
    → deep + 1 ≡ room → Inside s 1 deep t (p + 1 + 1) (k + 1) u v ds es a → ((e : Shape) → Means e a → Means (bracket s e) b)
    → Drawn item room t p k u v ds es b
bracket_drawn s t p k deep room u v ds es a b w x y l i m =
    let d = i.drawn in
    let c = i.closes in
    let g = d.forward in
    record {
      forward = omega arith;
      shape = bracket s d.shape;
      added = d.added;
      grown = d.grown;
      text =
          ap (between t p) c.2
          ∙ (between_cons t p (i.to + 1) (omega arith) (omega arith)
          ∙ (ap (λ z. z ∷ between t (p + 1) (i.to + 1)) x
          ∙ ap (λ z. sign_of s ∷ z) (between_cons t (p + 1) (i.to + 1) (omega arith) w
          ∙ (ap (λ z. z ∷ between t (p + 1 + 1) (i.to + 1)) y
          ∙ ap (λ z. 40 ∷ z) (between_snoc t (p + 1 + 1) i.to g c.0
          ∙ (ap (λ z. between t (p + 1 + 1) i.to ++ (z ∷ [])) c.1 ∙ ap (λ z. z ++ (41 ∷ [])) d.text))))));
      kind = d.kind;
      placed = d.placed;
      formed = both _ _ d.formed (right_count s d.shape i.enough);
      deep = omega (arith, d.deep, l);
      number = omega (arith, d.number);
      meant = m d.shape d.meant;
    }

-- an item is a plan
pub one_drawn : {room : ℕ} {t : List ℕ} {p i q j : ℕ} {ds es : List Draft} {b : Branch} → Drawn item room t p i q j ds es b → Drawn sequence room t p i q j ds es b
one_drawn d = record {
  forward = d.forward;
  shape = d.shape;
  added = d.added;
  grown = d.grown;
  text = d.text;
  kind = d.kind;
  placed = d.placed;
  formed = as_sequence d.shape d.formed;
  deep = d.deep;
  number = d.number;
  meant = d.meant;
}

-- two neighbours with their link between them
unfoldable pub join_drawn : (l : Link) (ph pg po : Phrase) (room : ℕ) (t : List ℕ) (p q u i j k : ℕ) (ds es gs : List Draft) (a b c : Branch)
    → q < length t → get_or t q 0 ≡ link_sign l → ((e f : Shape) → formed_as ph e ≡ true → formed_as pg f ≡ true → formed_as po (join l e f) ≡ true)
    → ((e f : Shape) → Means e a → Means f b → Means (join l e f) c)
    → Drawn ph room t p i q j ds es a → Drawn pg room t (q + 1) j u k es gs b
    → Drawn po room t p i u k ds gs c
join_drawn l ph pg po room t p q u i j k ds es gs a b c w x form mean d e =
    let long : length d.added ≡ leaves d.shape = sym (length-map d.added is_named) ∙ (sym (ap length d.kind) ∙ kinds_length d.shape) in
    let forth = d.forward in
    let on = e.forward in
    let text_of = draft_text t in
    record {
      forward = omega arith;
      shape = join l d.shape e.shape;
      added = d.added ++ e.added;
      grown = e.grown ∙ (ap (λ z. z ++ e.added) d.grown ∙ append_assoc ds d.added e.added);
      text =
          between_append t p q u forth (omega arith)
          ∙ (ap (λ z. between t p q ++ z) (between_cons t q u (omega arith) w ∙ ap (λ z. z ∷ between t (q + 1) u) x)
          ∙ (ap (λ z. z ++ (link_sign l ∷ between t (q + 1) u)) d.text
          ∙ (ap (λ z. spelled d.shape (map text_of d.added) ++ (link_sign l ∷ z)) e.text
          ∙ (sym (spelled_join l d.shape e.shape (map text_of d.added) (map text_of e.added) (length-map d.added text_of ∙ long))
          ∙ ap (spelled (join l d.shape e.shape)) (sym (map-append text_of d.added e.added))))));
      kind = ap (λ z. z ++ kinds e.shape) d.kind ∙ (ap (λ z. map is_named d.added ++ z) e.kind ∙ sym (map-append is_named d.added e.added));
      placed = placed_append t d.added e.added d.placed e.placed;
      formed = form d.shape e.shape d.formed e.formed;
      deep = omega (arith, d.deep, e.deep);
      number = omega (arith, d.number, e.number);
      meant = mean d.shape e.shape d.meant e.meant;
    }

-- the last plan of a bracket, before its `)`
pub last_inside : (s : Sort) (count room : ℕ) (t : List ℕ) (p q i j : ℕ) (ds es : List Draft) (b : Branch) → q < length t → get_or t q 0 ≡ 41
    → least s ≤ count → count ≤ most s → Drawn sequence room t p i q j ds es b
    → Inside s count room t p i (q + 1) j ds es b
last_inside s count room t p q i j ds es b w x l h d = record {
  to = q;
  drawn = record {
    forward = d.forward;
    shape = d.shape;
    added = d.added;
    grown = d.grown;
    text = d.text;
    kind = d.kind;
    placed = d.placed;
    formed = as_held s d.shape d.formed;
    deep = d.deep;
    number = d.number;
    meant = d.meant;
  };
  closes = (w, x, refl);
  enough = let one = one_plan d.shape d.formed in record { low = omega arith; high = omega arith };
}

-- a plan, a `,` and the plans behind it
pub next_inside : (s : code.Sort) (l : code-link.Link) (count room : ℕ) (t : List ℕ) (p q u i j k : ℕ) (ds es gs : List Draft) (a b c : Branch) → l ≡ inner_link s → q < length t → get_or t q 0 ≡ 44
    → 1 ≤ count → count < most (sort_of s) → ((e f : Shape) → Means e a → Means f b → Means (join (link_of l) e f) c)
    → Drawn sequence room t p i q j ds es a → Inside (sort_of s) (count + 1) room t (q + 1) j u k es gs b
    → Inside (sort_of s) count room t p i u k ds gs c
unfolding join_drawn
next_inside Lock l count room t p q u i j k ds es gs a b c g w x some below mean d e = absurd (omega arith)
next_inside Choice l count room t p q u i j k ds es gs a b c g w x some below mean d e = record {
  to = e.to;
  drawn = join_drawn or sequence options options room t p q e.to i j k ds es gs a b c w x (λ _ _ y z. both _ _ y z) (subst (λ v. (e f : Shape) → Means e a → Means f b → Means (join (link_of v) e f) c) g mean) d e.drawn;
  closes = e.closes;
  enough = let y = e.enough.low in let z = e.enough.high in record { low = omega arith; high = omega arith };
}
next_inside Interleave l count room t p q u i j k ds es gs a b c g w x some below mean d e = record {
  to = e.to;
  drawn = join_drawn beside sequence lines lines room t p q e.to i j k ds es gs a b c w x (λ _ _ y z. both _ _ y z) (subst (λ v. (e f : Shape) → Means e a → Means f b → Means (join (link_of v) e f) c) g mean) d e.drawn;
  closes = e.closes;
  enough = let y = e.enough.low in let z = e.enough.high in record { low = omega arith; high = omega arith };
}

-- an item, a `.` and the plan behind it
pub then_drawn : (room : ℕ) (t : List ℕ) (p q u i j k : ℕ) (ds es gs : List Draft) (a b c : Branch)
    → q < length t → get_or t q 0 ≡ 46 → ((e f : Shape) → Means e a → Means f b → Means (join then e f) c)
    → Drawn item room t p i q j ds es a → Drawn sequence room t (q + 1) j u k es gs b
    → Drawn sequence room t p i u k ds gs c
then_drawn room t p q u i j k ds es gs a b c w x mean d e =
    join_drawn then item sequence sequence room t p q u i j k ds es gs a b c w x (λ _ _ y z. both _ _ y z) mean d e
