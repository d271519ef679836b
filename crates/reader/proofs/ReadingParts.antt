-- What the part at a place says of the byte there.
use Rattle.std.proofs.Common.{◌≡◌, ℕ, ◌+◌, ◌-◌, ◌<◌, Bool, true, false, eqb, List, length, get_or, sym, refl, ap, ◌∙◌, subst, inl, inr, arith, eq-eqb, eqb-true}
use Rattle.std.proofs.lemmas.List.{get_or_past, length-take, length-drop}
use Rattle.std.proofs.lemmas.Bool.{cases_Bool}
use Rattle.text.specs.Bytes.{digit, name_byte, Longest}
use Rattle.text.specs.Parts.{Run, Stands, sign_byte}
use Rattle.text.specs.declared.part.Sign.{Sign}
use Rattle.text.specs.declared.part.Sign.TheVariants.{Dot, Comma, Open, Close, Lock, Choice, Interleave, Blank, Colon, At, Minus}
use Rattle.text.specs.declared.part.Part.{Part}
use Rattle.text.specs.declared.part.Part.TheVariants.{Name, Digits, Mark, Other, End}
use Rattle.grammar.specs.Faults as faults

pub never : false ≡ true → ⊥
never e = let z : ◌≡◌ {A = ℕ} 0 1 = cc in omega arith

pub ne_eqb : (a b : ℕ) → (a ≡ b → ⊥) → eqb a b ≡ false
ne_eqb a b n = elim (cases_Bool (eqb a b)) [ inl e ↦ absurd (n (eqb-true a b e)) | inr e ↦ e ]

pub no_name : (s : Sign) → name_byte (sign_byte s) ≡ false
no_name Dot = refl
no_name Comma = refl
no_name Open = refl
no_name Close = refl
no_name Lock = refl
no_name Choice = refl
no_name Interleave = refl
no_name Blank = refl
no_name Colon = refl
no_name At = refl
no_name Minus = refl

no_digit : (s : Sign) → digit (sign_byte s) ≡ false
no_digit Dot = refl
no_digit Comma = refl
no_digit Open = refl
no_digit Close = refl
no_digit Lock = refl
no_digit Choice = refl
no_digit Interleave = refl
no_digit Blank = refl
no_digit Colon = refl
no_digit At = refl
no_digit Minus = refl

some_byte : (s : Sign) → 0 < sign_byte s
some_byte Dot = omega arith
some_byte Comma = omega arith
some_byte Open = omega arith
some_byte Close = omega arith
some_byte Lock = omega arith
some_byte Choice = omega arith
some_byte Interleave = omega arith
some_byte Blank = omega arith
some_byte Colon = omega arith
some_byte At = omega arith
some_byte Minus = omega arith

-- where no sign stands
pub no_sign : (t : List ℕ) (p : ℕ) (x : Part) → Stands t p x → ((q : ℕ) (s : Sign) → x ≡ Mark q s → ⊥) → (s : Sign) → get_or t p 0 ≡ sign_byte s → ⊥
no_sign t p (Name q run) h n s e = never (sym (ap name_byte e ∙ no_name s) ∙ h.1.1.all p (omega arith) h.1.2)
no_sign t p (Digits q run) h n s e = never (sym (ap digit e ∙ no_digit s) ∙ h.1.1.all p (omega arith) h.1.2)
no_sign t p (Mark q g) h n s e = n q g refl
no_sign t p (Other q b) h n s e = h.4 s (sym h.2 ∙ e)
no_sign t p (End q) h n s e = omega (arith, get_or_past t p 0 h.1, e, some_byte s)

pub no_sign_test : (t : List ℕ) (p : ℕ) (x : Part) → Stands t p x → ((q : ℕ) (s : Sign) → x ≡ Mark q s → ⊥) → (s : Sign) → eqb (get_or t p 0) (sign_byte s) ≡ false
no_sign_test t p x h n s = ne_eqb _ _ (no_sign t p x h n s)

pub no_bracket : (t : List ℕ) (p : ℕ) (x : Part) → Stands t p x → ((q : ℕ) (s : Sign) → x ≡ Mark q s → ⊥) → faults.sign_byte (get_or t p 0) ≡ false
no_bracket t p x h n =
    let a = no_sign_test t p x h n Lock in
    let b = no_sign_test t p x h n Choice in
    let c = no_sign_test t p x h n Interleave in
    rw (a, b, c)

-- the run ends as many bytes on as it has
pub run_end : (test : ℕ → Bool) (t : List ℕ) (p : ℕ) (w : List ℕ) (r : Run test t p w) → r.0 ≡ p + length w
run_end test t p w r =
    let long : length w ≡ r.0 - p = ap length r.3 ∙ simp (length-take, length-drop) (omega (arith, r.1.within)) in
    omega (arith, long, r.2)

pub run_longest : (test : ℕ → Bool) (t : List ℕ) (p : ℕ) (w : List ℕ) → Run test t p w → Longest test t p (p + length w) × (p < p + length w)
run_longest test t p w r =
    let e = run_end test t p w r in
    (subst (Longest test t p) e r.1, omega (arith, e, r.2))

-- bytes that a test tells apart
pub apart : {a b : ℕ} → eqb a b ≡ false → a ≡ b → ⊥
apart {a} {b} e q = never (sym e ∙ eq-eqb a b q)
