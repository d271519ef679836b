-- Turns of the calls that lines ask for.
use Rattle.std.proofs.Common.{◌≡◌, ℕ, ◌+◌, ◌<◌, Bool, true, false, List, [], ◌∷◌, map, length, get_or, drop, Some, None, Ok, Err, Option, sym, refl, ap, ◌∙◌, subst, inl, inr, true≢false, arith}
use Rattle.std.proofs.lemmas.Bool.{cases_lt}
use Rattle.text.specs.Bytes.{between}
use Rattle.sheet.specs.declared.words.Answer.{Answer}
use Rattle.sheet.specs.declared.words.Call.{Call}
use Rattle.sheet.specs.declared.words.Call.TheVariants.{Stamp, Strike, Next, Distance, Amount, Reading}
use Rattle.sheet.specs.declared.words.Turn.{Turn}
use Rattle.sheet.specs.Played.{calls_of}
use Rattle.sheet.specs.Runs.{Asked}
use Rattle.show.specs.Lines.{Lies}
use Rattle.show.specs.Asking.{stamp_line, call_line, Request, Asks, Idle, Finds, over, here, later, Called, more}
use Rattle.show.specs.Scripts.{Goes, Takes}
use Rattle.show.specs.declared.requests.LineError.TheVariants.{NoName, NoCall}
use Rattle.show.specs.declared.script.Script.{Script}

-- a line has one end
not_before : (t : List ℕ) (at e f : ℕ) → Lies t at e → Lies t at f → e < f → ⊥
not_before t at e f l m h = true≢false (sym (m.1.all e l.1.forward h) ∙ l.1.stops (omega (arith, h, m.1.within)))

one_end : (t : List ℕ) (at e f : ℕ) → Lies t at e → Lies t at f → e ≡ f
one_end t at e f l m =
    elim (cases_lt e f) [
      | inl h ↦ absurd (not_before t at e f l m h)
      | inr h ↦ elim (cases_lt f e) [ inl k ↦ absurd (not_before t at f e m l k) | inr k ↦ omega (arith, h, k) ]
    ]

module _ {K : Type 0} (text : K → List ℕ) (has : List ℕ → Bool) (named : (x : K) → has (text x) ≡ true) where
  not_empty : (call : Call K) → call_line text has call ≡ [] → ⊥
  not_empty (Stamp name x) e = omega (arith, ap length e)
  not_empty Strike e = omega (arith, ap length e)
  not_empty (Next x) e = omega (arith, ap length e)
  not_empty (Distance x) e = omega (arith, ap length e)
  not_empty (Amount x) e = omega (arith, ap length e)
  not_empty (Reading x) e = omega (arith, ap length e)

  not_unnamed : (call : Call K) (s : List ℕ) → call_line text has call ≡ stamp_line s → has s ≡ false → ⊥
  not_unnamed (Stamp name x) s e h = true≢false (sym (named name) ∙ (ap has (ap (drop 6) e) ∙ h))
  not_unnamed Strike s e h = omega (arith, ap (λ (l : List ℕ). get_or l 2 0) e)
  not_unnamed (Next x) s e h = omega (arith, ap (λ (l : List ℕ). get_or l 0 0) e)
  not_unnamed (Distance x) s e h = omega (arith, ap (λ (l : List ℕ). get_or l 0 0) e)
  not_unnamed (Amount x) s e h = omega (arith, ap (λ (l : List ℕ). get_or l 0 0) e)
  not_unnamed (Reading x) s e h = omega (arith, ap (λ (l : List ℕ). get_or l 0 0) e)

  -- a line that asks for a call asks for nothing else
  busy : (line : List ℕ) (call : Call K) (a : Request K) → Asks text has line (Ok (Some call)) → Asks text has line a → Idle a → ⊥
  busy line call (Ok None) p q i = not_empty call (sym p.0 ∙ q)
  busy line call (Ok (Some c)) p q i = i
  busy line call (Err NoName) p q i = not_unnamed call q.0 (sym p.0 ∙ q.1) q.2
  busy line call (Err NoCall) p q i = q.2 call p.0

  abbrev SameNext : Option (Call K × ℕ) → ℕ → Type 0
  SameNext None n = ⊥
  SameNext (Some p) n = p.1 ≡ n

  module _ (t : List ℕ) where
    -- where the line behind the first call begins
    one_next : (at : ℕ) (r : Option (Call K × ℕ)) (call : Call K) (n : ℕ) → Finds text has t at r → Finds text has t at (Some (call, n)) → SameNext r n
    one_next at None call n (over h) (here e l a k) = omega (arith, h, l.0)
    one_next at None call n (over h) (later e q l a i f) = omega (arith, h, l.0)
    one_next at (Some p) call n (here e l a k) (here f m b j) = k ∙ (ap (λ (x : ℕ). x + 1) (one_end t at e f l m) ∙ sym j)
    one_next at (Some p) call n (here e l a k) (later f q m b i g) = absurd (busy (between t at e) p.0 q a (subst (λ (x : ℕ). Asks text has (between t at x) q) (one_end t at f e m l) b) i)
    one_next at r call n (later e q l a i g) (here f m b j) = absurd (busy (between t at e) call q (subst (λ (x : ℕ). Asks text has (between t at x) (Ok (Some call))) (one_end t at f e m l) b) a i)
    one_next at r call n (later e q l a i g) (later f s m b j h) = one_next (e + 1) r call n g (subst (λ (x : ℕ). Finds text has t (x + 1) (Some (call, n))) (one_end t at f e m l) h)

    -- one turn, and those behind it
    turned : (fit : Call K → Call K) (at to n : ℕ) (k x : Call K) (calls : List (Call K)) (r : Option (Call K × ℕ)) → Finds text has t at r → Goes r at k to → Finds text has t at (Some (x, n))
        → (to ≡ n → (more : List (Call K)) × Called text has t to more × (calls ≡ map fit more)) → (whole : List (Call K)) × Called text has t at whole × (fit k ∷ calls ≡ map fit whole)
    turned fit at to n k x calls None f g h rest = absurd (one_next at None x n f h)
    turned fit at to n k x calls (Some p) f g h rest =
        let w = rest (g.1 ∙ one_next at (Some p) x n f h) in
        let here : Finds text has t at (Some (k, to)) = subst (λ (c : Call K). Finds text has t at (Some (c, to))) (sym g.0) (subst (λ (m : ℕ). Finds text has t at (Some (p.0, m))) (sym g.1) f) in
        (k ∷ w.0, more here w.1, ap (λ (cs : List (Call K)). fit k ∷ cs) w.2)

    -- a script asks for the calls of its lines, if there are as many turns as calls
    pub chained : {S : Type 0} (fit : Call K → Call K) (c : Script) (last : Answer S) (ts : List (Turn K S)) (e : Script) (calls : List (Call K))
        → Asked (λ c a k m. Takes text has c k m) fit c last ts e → c.lines.now ≡ t → Called text has t c.at calls → length ts ≡ length calls
        → (whole : List (Call K)) × Called text has t c.at whole × (calls_of ts ≡ map fit whole)
    chained fit c last [] e [] h is d n = ([], d, refl)
    chained fit c last [] e (x ∷ xs) h is d n = absurd (omega (arith, n))
    chained fit c last (u ∷ us) e [] h is d n = absurd (omega (arith, n))
    chained fit c last (u ∷ us) e (x ∷ xs) (k, m, (same, (r, f, g)), fits, rest) is (more {next = next} h d) n =
        let tail = λ (q : m.at ≡ next). chained fit m u.answer us e xs rest (same ∙ is) (subst (λ (p : ℕ). Called text has t p xs) (sym q) d) (omega (arith, n)) in
        let w = turned fit c.at m.at next k x (calls_of us) r (subst (λ (l : List ℕ). Finds text has l c.at r) is f) g h tail in
        (w.0, w.1, ap (λ (y : Call K). y ∷ calls_of us) fits ∙ w.2)
