-- Trailers and their fields.
use Rattle.std.proofs.Common.{◌≡◌, ℕ, ◌+◌, ◌-◌, ◌<◌, ◌≤◌, Bool, true, ◌&&◌, eqb, List, [], ◌∷◌, ◌++◌, length, get_or, take, drop, sym, refl, ap, ◌∙◌, subst, arith, eqb-true}
use Rattle.std.proofs.lemmas.Bool.Decides.{nat_tests}
use Rattle.std.proofs.lemmas.List.{take_all, drop_all, drop_more, drop_at, drop-drop, take-append-drop, length-append, length-drop}
use Rattle.text.specs.Bytes.{digit, every}
use Rattle.text.specs.Decimal.{value}
use Rattle.load.specs.Files.{Four, Trailer, EndsIn, OneTrailer, trailer_bytes, ruled}
use Rattle.load.specs.declared.trailer.Frame.{Frame}

-- the digits of a field, one by one
pub record DigitsSoFar (w : List ℕ) (n i : ℕ) : Type 0 where
  pub worth : n ≡ value (take i w)
  pub digits : every digit (take i w) ≡ true
  pub small : (i ≤ 0 → n ≤ 0) × (i ≤ 1 → n ≤ 9) × (i ≤ 2 → n ≤ 99) × (i ≤ 3 → n ≤ 999)

record Quad (w : List ℕ) : Type 0 where
  a : ℕ
  b : ℕ
  c : ℕ
  d : ℕ
  is : w ≡ a ∷ b ∷ c ∷ d ∷ []

quad : (w : List ℕ) → length w ≡ 4 → Quad w
quad [] h = absurd (omega arith)
quad (a ∷ []) h = absurd (omega arith)
quad (a ∷ b ∷ []) h = absurd (omega arith)
quad (a ∷ b ∷ c ∷ []) h = absurd (omega arith)
quad (a ∷ b ∷ c ∷ d ∷ []) h = record { a = a; b = b; c = c; d = d; is = refl }
quad (a ∷ b ∷ c ∷ d ∷ e ∷ w) h = absurd (omega arith)

-- where the fields of a trailer stand
pub record Fields (tail p s n : List ℕ) : Type 0 where
  pub long : length tail ≡ 19
  pub rules : ruled tail ≡ true
  pub first : take 4 (drop 4 tail) ≡ p
  pub second : take 4 (drop 9 tail) ≡ s
  pub third : take 4 (drop 14 tail) ≡ n

fields_at : (p s n : List ℕ) → length p ≡ 4 → length s ≡ 4 → length n ≡ 4 → Fields (trailer_bytes p s n) p s n
fields_at p s n h k l =
    let x = quad p h in
    let y = quad s k in
    let z = quad n l in
    rw (x.is, y.is, z.is) (record { long = refl; rules = refl; first = refl; second = refl; third = refl })

pub fields : (tail : List ℕ) (t : Frame) → (r : Trailer tail t) → Fields tail r.p r.s r.n
fields tail t r = subst (λ u. Fields u r.p r.s r.n) (sym r.written) (fields_at r.p r.s r.n r.plan_says.four r.stamps_says.four r.count_says.four)

pub no_trailer_plan : (tail : List ℕ) → ((n : ℕ) → Four (take 4 (drop 4 tail)) n → ⊥) → (t : Frame) → Trailer tail t → ⊥
no_trailer_plan tail h t r = h t.plan (subst (λ w. Four w t.plan) (sym (fields tail t r).first) r.plan_says)

pub no_trailer_stamps : (tail : List ℕ) → ((n : ℕ) → Four (take 4 (drop 9 tail)) n → ⊥) → (t : Frame) → Trailer tail t → ⊥
no_trailer_stamps tail h t r = h t.stamps (subst (λ w. Four w t.stamps) (sym (fields tail t r).second) r.stamps_says)

pub no_trailer_count : (tail : List ℕ) → ((n : ℕ) → Four (take 4 (drop 14 tail)) n → ⊥) → (t : Frame) → Trailer tail t → ⊥
no_trailer_count tail h t r = h t.count (subst (λ w. Four w t.count) (sym (fields tail t r).third) r.count_says)

record Rules (t : List ℕ) : Type 0 where
  at0 : get_or t 0 0 ≡ 101
  at1 : get_or t 1 0 ≡ 110
  at2 : get_or t 2 0 ≡ 100
  at3 : get_or t 3 0 ≡ 32
  at8 : get_or t 8 0 ≡ 32
  at13 : get_or t 13 0 ≡ 32
  at18 : get_or t 18 0 ≡ 10

split7 : (a b c d e f g : Bool) → (a && b && c && d && e && f && g) ≡ true → (a ≡ true) × (b ≡ true) × (c ≡ true) × (d ≡ true) × (e ≡ true) × (f ≡ true) × (g ≡ true)
split7 a b c d e f g h = grind (arith, nat_tests)

rules : (t : List ℕ) → ruled t ≡ true → Rules t
rules t h =
    let s = split7 (eqb (get_or t 0 0) 101) (eqb (get_or t 1 0) 110) (eqb (get_or t 2 0) 100) (eqb (get_or t 3 0) 32) (eqb (get_or t 8 0) 32) (eqb (get_or t 13 0) 32) (eqb (get_or t 18 0) 10) h in
    record {
      at0 = eqb-true (get_or t 0 0) 101 s.0;
      at1 = eqb-true (get_or t 1 0) 110 s.1;
      at2 = eqb-true (get_or t 2 0) 100 s.2;
      at3 = eqb-true (get_or t 3 0) 32 s.3;
      at8 = eqb-true (get_or t 8 0) 32 s.4;
      at13 = eqb-true (get_or t 13 0) 32 s.5;
      at18 = eqb-true (get_or t 18 0) 10 s.6;
    }

cut : (t : List ℕ) (i b : ℕ) (rest : List ℕ) → i < length t → get_or t i 0 ≡ b → drop (i + 1) t ≡ rest → drop i t ≡ b ∷ rest
cut t i b rest h e f = drop_more t i 0 h ∙ (ap (λ c. c ∷ drop (i + 1) t) e ∙ ap (λ r. b ∷ r) f)

piece : (t : List ℕ) (i : ℕ) (rest : List ℕ) → drop (i + 4) t ≡ rest → drop i t ≡ take 4 (drop i t) ++ rest
piece t i rest f = sym (take-append-drop 4 (drop i t)) ∙ ap (λ r. take 4 (drop i t) ++ r) (drop-drop 4 i t ∙ f)

written_from : (t : List ℕ) → length t ≡ 19 → Rules t → t ≡ trailer_bytes (take 4 (drop 4 t)) (take 4 (drop 9 t)) (take 4 (drop 14 t))
written_from t h r =
    cut t 0 101 _ (omega arith) r.at0 (cut t 1 110 _ (omega arith) r.at1 (cut t 2 100 _ (omega arith) r.at2 (cut t 3 32 _ (omega arith) r.at3
    (piece t 4 _ (cut t 8 32 _ (omega arith) r.at8
    (piece t 9 _ (cut t 13 32 _ (omega arith) r.at13
    (piece t 14 _ (cut t 18 10 _ (omega arith) r.at18 (drop_all 19 t (omega arith)))))))))))

pub trailer_from : (tail : List ℕ) (a b c : ℕ) → length tail ≡ 19 → ruled tail ≡ true → Four (take 4 (drop 4 tail)) a → Four (take 4 (drop 9 tail)) b → Four (take 4 (drop 14 tail)) c
    → Trailer tail (record { plan = a; stamps = b; count = c })
trailer_from tail a b c h r x y z = record {
  p = take 4 (drop 4 tail);
  s = take 4 (drop 9 tail);
  n = take 4 (drop 14 tail);
  written = written_from tail h (rules tail r);
  plan_says = x;
  stamps_says = y;
  count_says = z;
}

-- the last 19 bytes, as a slice has them
abbrev pub last_bytes : List ℕ → List ℕ
last_bytes file = take (length file - (length file - 19)) (drop (length file - 19) file)

last_is : (file : List ℕ) → last_bytes file ≡ drop (length file - 19) file
last_is file = take_all _ (drop (length file - 19) file) (omega (arith, length-drop (length file - 19) file))

pub ends_from : (file : List ℕ) (t : Frame) → length file ≤ 8192 → Trailer (last_bytes file) t → EndsIn file t
ends_from file t h r = record {
  short = h;
  front = take (length file - 19) file;
  tail = drop (length file - 19) file;
  whole = sym (take-append-drop (length file - 19) file);
  trailer = subst (λ w. Trailer w t) (last_is file) r;
}

pub last_trailer : (file : List ℕ) (t : Frame) → EndsIn file t → Trailer (last_bytes file) t
last_trailer file t e =
    let n : length e.front ≡ length file - 19 = omega (arith, ap length e.whole, length-append e.front e.tail, (fields e.tail t e.trailer).long) in
    let d : drop (length file - 19) file ≡ e.tail = ap (drop (length file - 19)) e.whole ∙ drop_at e.front e.tail (length file - 19) n in
    subst (λ w. Trailer w t) (sym (last_is file ∙ d)) e.trailer

same_four : (v w x : List ℕ) (m n : ℕ) → x ≡ v → x ≡ w → Four v m → Four w n → m ≡ n
same_four v w x m n e f a b = a.worth ∙ (ap value (sym e ∙ f) ∙ sym b.worth)

abbrev made : ℕ → ℕ → ℕ → Frame
made a b c = record { plan = a; stamps = b; count = c }

same_frame : (t u : Frame) → t.plan ≡ u.plan → t.stamps ≡ u.stamps → t.count ≡ u.count → t ≡ u
same_frame t u p q r =
    ap (λ a. made a t.stamps t.count) p ∙ (ap (λ b. made u.plan b t.count) q ∙ ap (λ c. made u.plan u.stamps c) r)

pub one_trailer : OneTrailer
one_trailer file t u d e =
    let x = last_trailer file t d in
    let y = last_trailer file u e in
    let f = fields (last_bytes file) t x in
    let g = fields (last_bytes file) u y in
    same_frame t u
    (same_four x.p y.p (take 4 (drop 4 (last_bytes file))) t.plan u.plan f.first g.first x.plan_says y.plan_says)
    (same_four x.s y.s (take 4 (drop 9 (last_bytes file))) t.stamps u.stamps f.second g.second x.stamps_says y.stamps_says)
    (same_four x.n y.n (take 4 (drop 14 (last_bytes file))) t.count u.count f.third g.third x.count_says y.count_says)
