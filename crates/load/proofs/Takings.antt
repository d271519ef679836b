-- Stamp lines that are taken one after another.
use Rattle.std.proofs.Common.{◌≡◌, ℕ, Bool, true, List, [], ◌∷◌, ◌++◌, map, length, None, Ok, Err, Option, Result, MatchResult, IsErrAnd, refl, sym, ap, ◌∙◌, subst, inl, inr, Bor, arith}
use mathlib.Core.List.{map-append}
use Rattle.std.proofs.ByRecursion.{All-push}
use Rattle.text.specs.Directory.{Text}
use Rattle.text.specs.declared.kind.Kind.{Ghosts}
use Rattle.plan.specs.declared.plan.Plan.{Plan}
use Rattle.sheet.specs.declared.page.Sheet.{Sheet}
use Rattle.sheet.specs.declared.refusal.Refusal.{Refusal}
use Rattle.sheet.specs.Calls.{Ground, Begins, Follows, Stamps, StandsThen, short}
use Rattle.sheet.specs.Views.{ground_over, ground_of, stands_on}
use Rattle.load.specs.Files.{Placed}
use Rattle.load.specs.Judged.{texts_of, Taken}

texts_push : (done : List Placed) (at : ℕ) (u : Text) → texts_of (done ++ ((at, u) ∷ [])) ≡ texts_of done ++ (u ∷ [])
texts_push done at u = map-append (λ x. x.1) done ((at, u) ∷ [])

-- what a stamp of a line does, where the lines before it stand: over the ground g, with the line's text u as the name's
pub record PutTo (g h : Ground) (σ : List Text) (t u : Text) (lack : Option ℕ) (done : List Placed) : Type 0 where
  pub basis : h ≡ g
  pub enough : lack ≡ None
  pub stands : σ ≡ texts_of done
  pub text : t ≡ u

-- a sheet with the same plan and names has the same ground
pub same_ground : {K : Type 0} {G : Ghosts K} (text : K → Text) (s t : Sheet K G) → s.plan ≡ t.plan → s.names ≡ t.names → ground_of text s ≡ ground_of text t
same_ground text s t p q = ap (λ (x : Bor Plan). ground_over text x.now s.names.now) p ∙ ap (λ x. ground_over text t.plan.now x.now) q

-- a sheet with the same plan and names, lent as much as it needs
pub put_to : {K : Type 0} {G : Ghosts K} (text : K → Text) (s t : Sheet K G) (x : K) (u : Text) (m n a b : ℕ) (done : List Placed) → s.plan ≡ t.plan → s.names ≡ t.names
    → m ≡ n → a ≡ b → short (length (ground_of text t).texts) n b ≡ None → stands_on text s ≡ texts_of done → text x ≡ u
    → PutTo (ground_of text t) (ground_of text s) (stands_on text s) (text x) u (short (length (ground_of text s).texts) m a) done
put_to text s t x u m n a b done p q d e h k same = record {
  basis = same_ground text s t p q;
  enough = ap (λ y. short (length (map text y.now)) m a) q
      ∙ (ap (λ i. short (length (map text t.names.now)) i a) d ∙ (ap (λ i. short (length (map text t.names.now)) n i) e ∙ h));
  stands = k;
  text = same;
}

-- it may follow
pub follows_so : (g h : Ground) (σ : List Text) (t u : Text) (lack : Option ℕ) (done : List Placed) → PutTo g h σ t u lack done
    → Stamps h σ t lack (Ok tt) → Follows g (texts_of done) u
follows_so g h σ t u lack done p s =
    let s1 : Follows h σ t = subst (λ l. Stamps h σ t l (Ok tt)) p.enough s in
    let s2 : Follows g σ t = subst (λ k. Follows k σ t) p.basis s1 in
    let s3 : Follows g (texts_of done) t = subst (λ ρ. Follows g ρ t) p.stands s2 in
    subst (λ v. Follows g (texts_of done) v) p.text s3

-- it may not
pub follows_not : (g h : Ground) (σ : List Text) (t u : Text) (lack : Option ℕ) (done : List Placed) (e : Refusal) → PutTo g h σ t u lack done
    → Stamps h σ t lack (Err e) → Follows g (texts_of done) u → ⊥
follows_not g h σ t u lack done e p s f =
    let f1 : Follows g (texts_of done) t = subst (λ v. Follows g (texts_of done) v) (sym p.text) f in
    let f2 : Follows g σ t = subst (λ ρ. Follows g ρ t) (sym p.stands) f1 in
    let f3 : Follows h σ t = subst (λ k. Follows k σ t) (sym p.basis) f2 in
    (subst (λ l. Stamps h σ t l (Err e)) p.enough s).1 f3

-- and then it stands behind the others
stood : (h : Ground) (σ τ : List Text) (t : Text) → StandsThen h σ t None τ → Follows h σ t → τ ≡ σ ++ (t ∷ [])
stood h σ τ t (inl x) f = x.1
stood h σ τ t (inr x) f = absurd (x.0 f)

pub stands_so : (g h : Ground) (σ τ : List Text) (t u : Text) (lack : Option ℕ) (done : List Placed) (at : ℕ) → PutTo g h σ t u lack done
    → Stamps h σ t lack (Ok tt) → StandsThen h σ t lack τ → τ ≡ texts_of (done ++ ((at, u) ∷ []))
stands_so g h σ τ t u lack done at p s a =
    let s1 : Follows h σ t = subst (λ l. Stamps h σ t l (Ok tt)) p.enough s in
    let a1 : StandsThen h σ t None τ = subst (λ l. StandsThen h σ t l τ) p.enough a in
    stood h σ τ t a1 s1 ∙ (ap (λ ρ. ρ ++ (t ∷ [])) p.stands ∙ (ap (λ v. texts_of done ++ (v ∷ [])) p.text ∙ sym (texts_push done at u)))

-- what an answer is, if another refusal stands in for its own
pub ok_before : {T D E : Type 0} (Q : D → E → Type 0) (r : Result T D) (s : Result T E) (x : T) → MatchResult r (λ y. s ≡ Ok y) (λ e. IsErrAnd s (Q e)) → s ≡ Ok x → r ≡ Ok x
ok_before Q (Ok y) s x h k = cc
ok_before Q (Err e) s x h k = absurd (rw k at h)

pub err_before : {T D E : Type 0} (Q : D → E → Type 0) (r : Result T D) (s : Result T E) (y : E) → MatchResult r (λ x. s ≡ Ok x) (λ e. IsErrAnd s (Q e)) → s ≡ Err y
    → (e : D) × (r ≡ Err e) × Q e y
err_before Q (Ok x) s y h k = let z : ◌≡◌ {A = ℕ} 0 1 = cc in absurd (omega arith)
err_before Q (Err e) s y h k = (e, refl, rw k at h)

-- one line more is taken
pub taken_more : (has : Text → Bool) (g : Ground) (done : List Placed) (at : ℕ) (u : Text) → Taken has g done → has u ≡ true
    → Follows g (texts_of done) u → Taken has g (done ++ ((at, u) ∷ []))
taken_more has g done at u k h f = record {
  named = All-push (λ x. has x.1 ≡ true) done (at, u) k.named h;
  begun = subst (Begins g) (sym (texts_push done at u)) f;
}
