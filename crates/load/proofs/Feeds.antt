-- Lines of a text, one by one.
use Rattle.std.proofs.Common.{◌≡◌, ℕ, suc, ◌+◌, ◌-◌, ◌<◌, ◌≤◌, Bool, true, false, cond, not, ◌&&◌, eqb, List, [], ◌∷◌, ◌++◌, length, get_or, take, drop, inl, inr, sym, refl, ap, ◌∙◌, subst, append_assoc, append-nil, add-zero, arith}
use Rattle.std.specs.List.{flat_map}
use Rattle.std.proofs.lemmas.List.{length-take, length-take-le, length-drop, length-append, length_push, drop_at, drop-append-le, take_all, drop_all, drop_more, drop-drop, take-append-drop, get_or-take, get_or-drop}
use Rattle.std.proofs.lemmas.Bool.{cases_lt}
use Rattle.std.proofs.lemmas.Bool.Decides.{nat_tests}
use Rattle.text.specs.Bytes.{every, Longest}
use Rattle.load.specs.Files.{Placed, longer, lines_at, ended, no_feed, body, stamp_lines, Lined, LinesTold, Walk, LinesWalked}

both : (a b : Bool) → (a && b) ≡ true → (a ≡ true) × (b ≡ true)
both true true h = (refl, refl)
both true false h = (refl, h)
both false b h = (h, absurd (let z : ◌≡◌ {A = ℕ} 0 1 = cc in omega arith))

joint : (a b : Bool) → a ≡ true → b ≡ true → (a && b) ≡ true
joint a b p q = rw (p, q) refl

not_true : (c : Bool) → not c ≡ true → c ≡ false
not_true true h = sym h
not_true false h = refl

-- every byte passes, from what is known byte by byte
pub every_from : (test : ℕ → Bool) (t : List ℕ) → ((k : ℕ) → k < length t → test (get_or t k 0) ≡ true) → every test t ≡ true
every_from test [] h = refl
every_from test (b ∷ t) h = joint (test b) (every test t) (h 0 (omega arith)) (every_from test t (λ k l. h (suc k) (omega arith)))

step : (p b : ℕ) (t : List ℕ) → no_feed b ≡ true → lines_at p (b ∷ t) ≡ longer p b (lines_at (p + 1) t)
step p b t h = ap (λ c. cond c ((p, []) ∷ lines_at (p + 1) t) (longer p b (lines_at (p + 1) t))) (not_true (eqb b 10) h)

-- the first line
pub lines_front : (p : ℕ) (l t : List ℕ) → every no_feed l ≡ true → lines_at p (l ++ (10 ∷ t)) ≡ (p, l) ∷ lines_at (p + length l + 1) t
lines_front p [] t h = ap (λ q. (p, []) ∷ lines_at (q + 1) t) (sym (add-zero p))
lines_front p (b ∷ l) t h =
    let s = both (no_feed b) (every no_feed l) h in
    let e : p + 1 + length l + 1 ≡ p + suc (length l) + 1 = omega arith in
    step p b (l ++ (10 ∷ t)) s.0 ∙ (ap (longer p b) (lines_front (p + 1) l t s.1) ∙ ap (λ q. (p, b ∷ l) ∷ lines_at q t) e)

-- no line feed, no line
pub lines_none : (p : ℕ) (t : List ℕ) → every no_feed t ≡ true → lines_at p t ≡ []
lines_none p [] h = refl
lines_none p (b ∷ t) h =
    let s = both (no_feed b) (every no_feed t) h in
    step p b t s.0 ∙ ap (longer p b) (lines_none (p + 1) t s.1)

-- the bytes up to the first line feed
before_feed : (body : List ℕ) (at to : ℕ) → Longest no_feed body at to → every no_feed (take (to - at) (drop at body)) ≡ true
before_feed body at to l =
    every_from no_feed (take (to - at) (drop at body)) (λ k h.
    let n = length-take (to - at) (drop at body) in
    let m : k < to - at = omega (arith, n) in
    subst (λ b. no_feed b ≡ true) (sym (get_or-take (to - at) (drop at body) k 0 m ∙ get_or-drop at body k 0)) (l.all (at + k) (omega arith) (omega arith)))

feed : (b : ℕ) → no_feed b ≡ false → b ≡ 10
feed b h = grind (arith, nat_tests)

-- from a place on, no line feed follows
pub none_left : (body : List ℕ) (at to : ℕ) → Longest no_feed body at to → length body ≤ to → lines_at at (drop at body) ≡ []
none_left body at to l h =
    let n = length-drop at body in
    lines_none at (drop at body) (subst (λ t. every no_feed t ≡ true) (take_all (to - at) (drop at body) (omega (arith, n))) (before_feed body at to l))

-- a line stands at a place
pub record StandsLine (body : List ℕ) (at to : ℕ) : Type 0 where
  pub bytes : drop at body ≡ take (to - at) (drop at body) ++ (10 ∷ drop (to + 1) body)
  pub long : to + 1 ≡ at + length (take (to - at) (drop at body)) + 1
  pub first : lines_at at (drop at body) ≡ (at, take (to - at) (drop at body)) ∷ lines_at (to + 1) (drop (to + 1) body)

pub stands_line : (body : List ℕ) (at to : ℕ) → Longest no_feed body at to → to < length body → StandsLine body at to
stands_line body at to l h = record { bytes = bytes; long = long; first = first }
  where
    text : List ℕ
    text = take (to - at) (drop at body)

    back : at + (to - at) ≡ to
    back = omega (arith, l.forward)

    rest : drop (to - at) (drop at body) ≡ 10 ∷ drop (to + 1) body
    rest = drop-drop (to - at) at body ∙ (ap (λ k. drop k body) back ∙ (drop_more body to 0 h ∙ ap (λ b. b ∷ drop (to + 1) body) (feed (get_or body to 0) (l.stops h))))

    bytes : drop at body ≡ take (to - at) (drop at body) ++ (10 ∷ drop (to + 1) body)
    bytes = sym (take-append-drop (to - at) (drop at body)) ∙ ap (λ r. take (to - at) (drop at body) ++ r) rest

    long : to + 1 ≡ at + length (take (to - at) (drop at body)) + 1
    long = omega (arith, length-take (to - at) (drop at body), length-drop at body, l.forward)

    first : lines_at at (drop at body) ≡ (at, take (to - at) (drop at body)) ∷ lines_at (to + 1) (drop (to + 1) body)
    first = ap (lines_at at) bytes
        ∙ (lines_front at (take (to - at) (drop at body)) (drop (to + 1) body) (before_feed body at to l)
        ∙ ap (λ q. (at, take (to - at) (drop at body)) ∷ lines_at q (drop (to + 1) body)) (sym long))

-- no more lines than bytes
few_step : (p b : ℕ) (t : List ℕ) (xs : List Placed) (c : Bool) → length xs ≤ length t → length (cond c ((p, []) ∷ xs) (longer p b xs)) ≤ length (b ∷ t)
few_step p b t xs true h = omega (arith, h)
few_step p b t [] false h = omega arith
few_step p b t (x ∷ xs) false h = omega (arith, h)

pub few_lines : (p : ℕ) (t : List ℕ) → length (lines_at p t) ≤ length t
few_lines p [] = omega arith
few_lines p (b ∷ t) = few_step p b t (lines_at (p + 1) t) (eqb b 10) (few_lines (p + 1) t)

-- bytes that end in a line feed are lines
whole_step : (p b : ℕ) (t : List ℕ) (xs : List Placed) (c : Bool) → eqb b 10 ≡ c → flat_map ended xs ≡ t → 0 < length t
    → flat_map ended (cond c ((p, []) ∷ xs) (longer p b xs)) ≡ b ∷ t
whole_step p b t xs true e h n = ap (λ r. 10 ∷ r) h ∙ ap (λ x. x ∷ t) (sym (feed b (ap not e)))
whole_step p b t [] false e h n = absurd (omega (arith, ap length h))
whole_step p b t (x ∷ xs) false e h n = ap (λ r. b ∷ r) h

whole_lines : (p : ℕ) (f : List ℕ) → flat_map ended (lines_at p (f ++ (10 ∷ []))) ≡ f ++ (10 ∷ [])
whole_lines p [] = refl
whole_lines p (b ∷ f) =
    whole_step p b (f ++ (10 ∷ [])) (lines_at (p + 1) (f ++ (10 ∷ []))) (eqb b 10) refl (whole_lines (p + 1) f) (omega (arith, length_push f 10))

pub all_lines : (body : List ℕ) (from : ℕ) → (from < length body → body ≡ take (length body - 1) body ++ (10 ∷ [])) → flat_map ended (lines_at from (drop from body)) ≡ drop from body
all_lines body from h =
    elim (cases_lt from (length body)) [
      | inl lt ↦
          let f = take (length body - 1) body in
          let e : drop from body ≡ drop from f ++ (10 ∷ []) = ap (drop from) (h lt) ∙ drop-append-le from f (10 ∷ []) (omega (arith, length-take-le (length body - 1) body (omega arith))) in
          ap (λ t. flat_map ended (lines_at from t)) e ∙ (whole_lines from (drop from f) ∙ sym e)
      | inr ge ↦ let e = drop_all from body ge in ap (λ t. flat_map ended (lines_at from t)) e ∙ sym e
    ]

-- lines end in a line feed
record LastFeed (t : List ℕ) : Type 0 where
  front : List ℕ
  is : t ≡ front ++ (10 ∷ [])

last_feed : (x : Placed) (xs : List Placed) → LastFeed (flat_map ended (x ∷ xs))
last_feed x [] = record { front = x.1; is = append-nil (ended x) }
last_feed x (y ∷ ys) =
    let r = last_feed y ys in
    record { front = ended x ++ r.front; is = ap (λ t. ended x ++ t) r.is ∙ sym (append_assoc (ended x) r.front (10 ∷ [])) }

pub not_lines : (body : List ℕ) (from : ℕ) (xs : List Placed) → from < length body → ((front : List ℕ) → body ≡ front ++ (10 ∷ []) → ⊥) → flat_map ended xs ≡ drop from body → ⊥
not_lines body from [] h none e = omega (arith, ap length e, length-drop from body)
not_lines body from (x ∷ xs) h none e =
    let r = last_feed x xs in
    none (take from body ++ r.front) (sym (take-append-drop from body) ∙ (ap (λ t. take from body ++ t) (sym e ∙ r.is) ∙ sym (append_assoc (take from body) r.front (10 ∷ []))))

-- what the lines of a text tell
abbrev Told : ℕ → List ℕ → List Placed → Type 0
Told p t xs = Lined p xs × ((rest : List ℕ) × (t ≡ flat_map ended xs ++ rest) × (every no_feed rest ≡ true))

told_longer : (p b : ℕ) (t : List ℕ) (xs : List Placed) → no_feed b ≡ true → Told (p + 1) t xs → Told p (b ∷ t) (longer p b xs)
told_longer p b t [] h (_, (rest, e, n)) = (tt, (b ∷ rest, ap (λ r. b ∷ r) e, joint (no_feed b) (every no_feed rest) h n))
told_longer p b t (x ∷ xs) h (l, (rest, e, n)) =
    let q : p + 1 + length x.1 + 1 ≡ p + suc (length x.1) + 1 = omega arith in
    ((refl, joint (no_feed b) (every no_feed x.1) h l.1, subst (λ k. Lined k xs) q l.2), (rest, ap (λ r. b ∷ r) e, n))

told_feed : (p : ℕ) (t : List ℕ) (xs : List Placed) → Told (p + 1) t xs → Told p (10 ∷ t) ((p, []) ∷ xs)
told_feed p t xs (l, (rest, e, n)) =
    ((refl, refl, subst (λ k. Lined (k + 1) xs) (sym (add-zero p)) l), (rest, ap (λ r. 10 ∷ r) e, n))

told_step : (p b : ℕ) (t : List ℕ) (xs : List Placed) (c : Bool) → eqb b 10 ≡ c → Told (p + 1) t xs → Told p (b ∷ t) (cond c ((p, []) ∷ xs) (longer p b xs))
told_step p b t xs true h w = let e : b ≡ 10 = feed b (ap not h) in subst (λ k. Told p (k ∷ t) ((p, []) ∷ xs)) (sym e) (told_feed p t xs w)
told_step p b t xs false h w = told_longer p b t xs (ap not h) w

told : (p : ℕ) (t : List ℕ) → Told p t (lines_at p t)
told p [] = (tt, ([], refl, refl))
told p (b ∷ t) = told_step p b t (lines_at (p + 1) t) (eqb b 10) refl (told (p + 1) t)

taken_apart : (p : ℕ) (xs : List Placed) (rest : List ℕ) → Lined p xs → every no_feed rest ≡ true → lines_at p (flat_map ended xs ++ rest) ≡ xs
taken_apart p [] rest l n = lines_none p rest n
taken_apart p (x ∷ xs) rest l n =
    let put : ℕ → List Placed = λ q. (q, x.1) ∷ xs in
    ap (lines_at p) (append_assoc (x.1 ++ (10 ∷ [])) (flat_map ended xs) rest ∙ append_assoc x.1 (10 ∷ []) (flat_map ended xs ++ rest))
    ∙ (lines_front p x.1 (flat_map ended xs ++ rest) l.1
    ∙ (ap (λ ys. (p, x.1) ∷ ys) (taken_apart (p + length x.1 + 1) xs rest l.2 n)
    ∙ ap put (sym l.0)))

pub lines_told : LinesTold
lines_told = (told, taken_apart)

-- what is left behind a line
record Behind (body : List ℕ) (p q : ℕ) (l rest : List ℕ) : Type 0 where
  within : q ≤ length body
  left : rest ≡ drop q body
  bytes : drop p body ≡ l ++ (10 ∷ drop q body)

behind : (body : List ℕ) (p q : ℕ) (l rest : List ℕ) → p ≤ length body → q ≡ p + length l + 1 → (l ++ (10 ∷ [])) ++ rest ≡ drop p body → Behind body p q l rest
behind body p q l rest h k e =
    let n : length (l ++ (10 ∷ [])) ≡ length l + 1 = length_push l 10 in
    let m : p + (length l + 1) ≡ q = omega arith in
    let left : rest ≡ drop q body = sym (drop_at (l ++ (10 ∷ [])) rest (length l + 1) n) ∙ (ap (drop (length l + 1)) e ∙ (drop-drop (length l + 1) p body ∙ ap (λ i. drop i body) m)) in
    record {
      within = omega (arith, ap length e, length-append (l ++ (10 ∷ [])) rest, length-drop p body);
      left = left;
      bytes = sym e ∙ (append_assoc l (10 ∷ []) rest ∙ ap (λ r. l ++ (10 ∷ r)) left);
    }

walk : (body : List ℕ) (p : ℕ) (xs : List Placed) → p ≤ length body → Lined p xs → flat_map ended xs ≡ drop p body → Walk body p xs (length body)
walk body p [] h l e = omega (arith, ap length e, length-drop p body)
walk body p (x ∷ xs) h l e =
    let b = behind body p (p + length x.1 + 1) x.1 (flat_map ended xs) h refl e in
    (l.0, l.1, b.bytes, walk body (p + length x.1 + 1) xs b.within l.2 b.left)

pub lines_walked : LinesWalked
lines_walked file t f =
    let n : length (body file) ≡ length file - 19 = length-take-le (length file - 19) file (omega arith) in (
      subst (Walk (body file) t.stamps (stamp_lines file t)) n
          (walk (body file) t.stamps (stamp_lines file t) (omega (arith, f.within)) (told t.stamps (drop t.stamps (body file))).0 f.filled),
      f.counted,
    )
