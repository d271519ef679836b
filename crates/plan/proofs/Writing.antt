-- Texts laid into a buffer, one behind another.
use Rattle.std.proofs.Common.{◌≡◌, ℕ, ◌+◌, ◌-◌, ◌<◌, ◌≤◌, List, [], ◌∷◌, ◌++◌, length, take, drop, set, Some, Option, sym, refl, ap, ◌∙◌, subst, append_assoc, append-nil, add-one, arith}
use borrow.Rule.Slice.PartMut.{put_mid}
use Rattle.std.proofs.lemmas.List.{length-append, length-take-le, length-drop, set_split, take_rest, take_at, drop_all, drop_at, drop-drop}
use Rattle.text.specs.Bytes.{Writes}
use Rattle.plan.specs.Writes.{Laid}

pub laid_byte : (at b : ℕ) (xs : List ℕ) → at < length xs → Laid at (b ∷ []) xs (set xs at b) (at + 1)
laid_byte at b xs h = record { ends = refl; holds = rw add-one (set_split xs at b h) }

-- a text that is written at the front of the part of a buffer from a place on
pub laid_part : (at n : ℕ) (t xs ys : List ℕ) (o : Option ℕ) → at ≤ length xs → Writes t (take (length xs - at) (drop at xs)) ys o → o ≡ Some n
    → Laid at t xs (put_mid at (length xs - at) xs ys) (at + n)
laid_part at n t xs ys o h w e = record { ends = ap (λ k. at + k) v.0; holds = ap (λ z. take at xs ++ z) joined }
  where
    v : Writes t (take (length xs - at) (drop at xs)) ys (Some n)
    v = subst (λ p. Writes t (take (length xs - at) (drop at xs)) ys p) e w

    behind : drop n (take (length xs - at) (drop at xs)) ≡ drop (at + n) xs
    behind = ap (drop n) (take_rest xs at) ∙ drop-drop n at xs

    none : drop (length xs - at) (drop at xs) ≡ []
    none = drop-drop (length xs - at) at xs ∙ drop_all (at + (length xs - at)) xs (omega arith)

    joined : ys ++ drop (length xs - at) (drop at xs) ≡ t ++ drop (at + n) xs
    joined = ap (λ z. ys ++ z) none ∙ (append-nil ys ∙ (v.1 ∙ ap (λ z. t ++ z) behind))

-- a text at the front
pub laid_front : (n : ℕ) (t xs ys : List ℕ) → Laid 0 t xs ys n → (n ≡ length t) × (ys ≡ t ++ drop n xs)
laid_front n t [] ys a = (omega (arith, a.ends), a.holds)
laid_front n t (x ∷ xs) ys a = (omega (arith, a.ends), a.holds)

-- a text that is laid at the front of that part
pub laid_sub : (at n : ℕ) (t xs ys : List ℕ) → at ≤ length xs → Laid 0 t (take (length xs - at) (drop at xs)) ys n → Laid at t xs (put_mid at (length xs - at) xs ys) (at + n)
laid_sub at n t xs ys h a = laid_part at n t xs ys (Some n) h (laid_front n t (take (length xs - at) (drop at xs)) ys a) refl

-- how long that part is
pub part_length : (at : ℕ) (xs : List ℕ) → length (take (length xs - at) (drop at xs)) ≡ length xs - at
part_length at xs = ap length (take_rest xs at) ∙ length-drop at xs

-- a buffer keeps its length
pub laid_length : {at n : ℕ} {t xs ys : List ℕ} → n ≤ length xs → Laid at t xs ys n → length ys ≡ length xs
laid_length {at} {n} {t} {xs} {ys} h a =
    omega (
      arith,
      ap length a.holds,
      length-append (take at xs) (t ++ drop n xs),
      length-append t (drop n xs),
      length-take-le at xs (omega (arith, a.ends)),
      length-drop n xs,
      a.ends,
    )

-- one text behind another
pub laid_both : (at n m : ℕ) (t u xs ys zs : List ℕ) → at ≤ length xs → Laid at t xs ys n → Laid n u ys zs m → Laid at (t ++ u) xs zs m
laid_both at n m t u xs ys zs h a b = record {
  ends = omega (arith, a.ends, b.ends, length-append t u);
  holds = b.holds ∙ (ap (λ p. p ++ (u ++ drop m ys)) front ∙ (ap (λ p. (take at xs ++ t) ++ (u ++ p)) behind ∙ regroup));
}
  where
    before : length (take at xs ++ t) ≡ n
    before = length-append (take at xs) t ∙ (ap (λ k. k + length t) (length-take-le at xs h) ∙ sym a.ends)

    parted : ys ≡ (take at xs ++ t) ++ drop n xs
    parted = a.holds ∙ sym (append_assoc (take at xs) t (drop n xs))

    front : take n ys ≡ take at xs ++ t
    front = ap (take n) parted ∙ take_at (take at xs ++ t) (drop n xs) n before

    behind : drop m ys ≡ drop m xs
    behind =
        ap (λ k. drop k ys) b.ends
        ∙ (sym (drop-drop (length u) n ys) ∙ (ap (drop (length u)) (ap (drop n) parted ∙ drop_at (take at xs ++ t) (drop n xs) n before)
        ∙ (drop-drop (length u) n xs ∙ ap (λ k. drop k xs) (sym b.ends))))

    regroup : (take at xs ++ t) ++ (u ++ drop m xs) ≡ take at xs ++ ((t ++ u) ++ drop m xs)
    regroup = append_assoc (take at xs) t (u ++ drop m xs) ∙ ap (λ z. take at xs ++ z) (sym (append_assoc t u (drop m xs)))

-- the same text in another form
pub laid_as : {at n : ℕ} {xs ys : List ℕ} (t u : List ℕ) → Laid at t xs ys n → t ≡ u → Laid at u xs ys n
laid_as {at} {n} {xs} {ys} t u a e = subst (λ v. Laid at v xs ys n) e a
