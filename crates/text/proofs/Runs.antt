-- Runs of bytes, and parts one after another.
use Rattle.std.proofs.Common.{◌≡◌, ℕ, ◌+◌, ◌-◌, ◌<◌, ◌≤◌, Bool, true, List, [], ◌∷◌, ◌++◌, length, get_or, take, sym, refl, ap, ◌∙◌, subst, append_assoc, append-nil, arith, take-add}
use Rattle.std.proofs.lemmas.List.{length-take, length-drop, take_all, drop_more}
use Rattle.text.specs.declared.part.Part.{Part}
use Rattle.text.specs.declared.part.Part.TheVariants.{Name, Digits, Mark, Other, End}
use Rattle.text.specs.Parts.{Run, Stands, part_bytes, parts_bytes, Parted, AllParts}

-- the bytes passed so far pass a test
pub record Running (test : ℕ → Bool) (t : List ℕ) (from to : ℕ) : Type 0 where
  pub forward : from ≤ to
  pub within : to ≤ length t
  pub all : (k : ℕ) → from ≤ k → k < to → test (get_or t k 0) ≡ true

-- a part that stands inside a text: its bytes are those of the text from its place on
pub record Inside (t : List ℕ) (p : ℕ) (x : Part) : Type 0 where
  pub some : 0 < length (part_bytes x)
  pub within : p + length (part_bytes x) ≤ length t
  pub front : take p t ++ part_bytes x ≡ take (p + length (part_bytes x)) t

run_inside : (test : ℕ → Bool) (t : List ℕ) (p : ℕ) (w : List ℕ) → Run test t p w → (0 < length w) × (p + length w ≤ length t) × (take p t ++ w ≡ take (p + length w) t)
run_inside test t p w r = (omega (arith, long), omega (arith, long, r.1.within), ap (λ v. take p t ++ v) r.3 ∙ (sym (take-add p (r.0 - p) t) ∙ ap (λ k. take (p + k) t) (sym long)))
  where
    long : length w ≡ r.0 - p
    long = ap length r.3 ∙ simp (length-take, length-drop) (omega (arith, r.1.within))

one_inside : (t : List ℕ) (p b : ℕ) → p < length t → get_or t p 0 ≡ b → take p t ++ (b ∷ []) ≡ take (p + 1) t
one_inside t p b h e = ap (λ c. take p t ++ (c ∷ [])) (sym e) ∙ (ap (λ v. take p t ++ v) (sym (ap (take 1) (drop_more t p 0 h))) ∙ sym (take-add p 1 t))

pub inside : (t : List ℕ) (p : ℕ) (x : Part) → p < length t → Stands t p x → Inside t p x
inside t p (Name q run) h s = let r = run_inside _ t p run.now s.1 in record { some = r.0; within = r.1; front = r.2 }
inside t p (Digits q run) h s = let r = run_inside _ t p run.now s.1 in record { some = r.0; within = r.1; front = r.2 }
inside t p (Mark q g) h s = record { some = omega arith; within = omega arith; front = one_inside t p _ h s.2 }
inside t p (Other q b) h s = record { some = omega arith; within = omega arith; front = one_inside t p b h s.2 }
inside t p (End q) h s = absurd (omega (arith, s.1))

-- the parts so far
pub record Parting (t : List ℕ) (xs : List Part) (at : ℕ) : Type 0 where
  pub within : at ≤ length t
  pub each : Parted t 0 xs at
  pub together : parts_bytes xs ≡ take at t

pub parting_none : (t : List ℕ) → Parting t [] 0
parting_none t = record { within = omega arith; each = refl; together = refl }

parted_push : (t : List ℕ) (p : ℕ) (xs : List Part) (q : ℕ) (x : Part) → q < length t → Stands t q x → Parted t p xs q → Parted t p (xs ++ (x ∷ [])) (q + length (part_bytes x))
parted_push t p [] q x h s e = subst (λ k. Parted t k (x ∷ []) (q + length (part_bytes x))) (sym e) (h, s, refl)
parted_push t p (y ∷ ys) q x h s e = (e.0, e.1, parted_push t (p + length (part_bytes y)) ys q x h s e.2)

bytes_push : (xs : List Part) (x : Part) → parts_bytes (xs ++ (x ∷ [])) ≡ parts_bytes xs ++ part_bytes x
bytes_push [] x = append-nil (part_bytes x)
bytes_push (y ∷ ys) x = ap (λ v. part_bytes y ++ v) (bytes_push ys x) ∙ sym (append_assoc (part_bytes y) (parts_bytes ys) (part_bytes x))

more : (t : List ℕ) (xs : List Part) (at : ℕ) (x : Part) → at < length t → Stands t at x → Parting t xs at → Parting t (xs ++ (x ∷ [])) (at + length (part_bytes x))
more t xs at x h s p =
    let i = inside t at x h s in
    record {
      within = i.within;
      each = parted_push t 0 xs at x h s p.each;
      together = bytes_push xs x ∙ (ap (λ v. v ++ part_bytes x) p.together ∙ i.front);
    }

-- one part more, as the list and the place are after it
pub parting_more : (t : List ℕ) (xs ys : List Part) (at to : ℕ) (x : Part) → at < length t → Stands t at x → to ≡ at + length (part_bytes x) → ys ≡ xs ++ (x ∷ []) → Parting t xs at → Parting t ys to
parting_more t xs ys at to x h s e f p =
    subst (λ zs. Parting t zs to) (sym f) (subst (Parting t (xs ++ (x ∷ []))) (sym e) (more t xs at x h s p))

pub parting_all : (t : List ℕ) (xs : List Part) (at : ℕ) → length t ≤ at → Parting t xs at → AllParts t xs
parting_all t xs at h p =
    let e : at ≡ length t = omega (arith, p.within) in
    record { each = subst (Parted t 0 xs) e p.each; together = p.together ∙ take_all at t h }
