-- What is known of a file's frame, plan and stamp lines, put together.
use Rattle.std.proofs.Common.{◌≡◌, ℕ, Bool, List, map, IfOk, MatchOption, Some, None, Ok, Err, vec_items, Option, Result, Vec, sym, refl, ◌∙◌, subst, arith}
use Rattle.std.specs.Result.{IsOk}
use Rattle.text.specs.Directory.{Text}
use Rattle.plan.specs.declared.plan.Plan.{Plan}
use Rattle.sheet.specs.Views.{ground_over}
use Rattle.load.specs.Files.{stamp_lines}
use Rattle.load.specs.Judged.{Opened, RefusedLine, RefusedFile, Judging, OpeningAnswer, StampsJudged}
use Rattle.load.specs.Gates.{StandsFor, Prints}
use Rattle.load.specs.Printed.{Appends}
use Rattle.load.specs.JudgementLines.{refused_bytes}
use Rattle.load.specs.declared.judgement.Judgement.{Judgement}
use Rattle.load.specs.declared.refusal.LoadRefusal.{LoadRefusal}
use Rattle.load.specs.declared.refusal.LoadRefusal.TheVariants as load-refusal
use Rattle.load.specs.declared.refusal.LoadError.{LoadError}
use Rattle.load.specs.declared.refusal.LoadError.TheVariants as load-error
use Rattle.load.specs.declared.opening.Opening.{Opening}

module _ {K : Type 0} (text : K → Text) (has : Text → Bool) (file : List ℕ) (before after : List K) (p : Plan) where
  -- a stamp line that is refused, over frame and plan
  refused_so : (f : LoadRefusal) (o : Opened text has file before after p) → RefusedLine has (ground_over text p after) (stamp_lines file o.frame) f → RefusedFile text has file before f
  refused_so (load-refusal.Short n) o r = r
  refused_so (load-refusal.File f) o r = absurd r
  refused_so (load-refusal.Plan f) o r = absurd r
  refused_so (load-refusal.Unnamed place) o r = (p, after, o, r)
  refused_so (load-refusal.Untaken place) o r = (p, after, o, r)

  module _ (reading reading_after next next_after : List ℕ) where
    verdict : (o : Opening) (r : Result Judgement LoadError) → OpeningAnswer text has file before after p (Ok o)
        → StampsJudged has (ground_over text p after) (stamp_lines file o.frame) o.counts reading reading_after next next_after r
        → Judging text has file before after p reading reading_after next next_after None r
    verdict o (Ok j) a s = record {
      opened = record { frame = o.frame; framed = a.0; reads = a.1 };
      counts = s.2 ∙ a.2;
      taken = s.0;
      answers = s.1;
    }
    verdict o (Err (load-error.Refused f)) a s = refused_so f (record { frame = o.frame; framed = a.0; reads = a.1 }) s.0
    verdict o (Err (load-error.Memory x)) a s = absurd s

    -- the stamp lines are judged behind frame and plan
    pub judged : (lack : Option ℕ) (o : Opening) (r : Result Judgement LoadError) → lack ≡ None → OpeningAnswer text has file before after p (Ok o)
        → StampsJudged has (ground_over text p after) (stamp_lines file o.frame) o.counts reading reading_after next next_after r
        → Judging text has file before after p reading reading_after next next_after lack r
    judged lack o r h a s = subst (λ l. Judging text has file before after p reading reading_after next next_after l r) (sym h) (verdict o r a s)

-- what is said of the first buffer that is too short, if one is
abbrev Lent : Option ℕ → Result (Unit {0}) LoadRefusal → Type 0
Lent lack r = MatchOption lack (IsOk r) (λ n. r ≡ Err (load-refusal.Short n))

pub none_short : (lack : Option ℕ) → Lent lack (Ok tt) → lack ≡ None
none_short None h = refl
none_short (Some n) h = cc

pub some_short : {K : Type 0} (text : K → Text) (has : Text → Bool) (file : List ℕ) (before after : List K) (p : Plan)
    (reading reading_after next next_after : List ℕ) (lack : Option ℕ) (f : LoadRefusal) → Lent lack (Err f)
    → Judging text has file before after p reading reading_after next next_after lack (Err (load-error.Refused f))
some_short text has file before after p reading reading_after next next_after None f h = absurd (let z : ◌≡◌ {A = ℕ} 0 1 = cc h in omega arith)
some_short text has file before after p reading reading_after next next_after (Some n) f h = cc h

-- the bytes of an answer are put behind what is there, or memory was wanting
pub prints : {K Z E : Type 0} (text : K → Text) (has : Text → Bool) (file : List ℕ) (names names_after : List K) (p : Plan)
    (reading reading_after next next_after : List ℕ) (lack : Option ℕ) (a : Result Judgement LoadError) (bytes : List ℕ)
    → Judging text has file names names_after p reading reading_after next next_after lack a → StandsFor bytes (map text names_after) reading_after next_after a
    → (x z : Vec ℕ Z) (r : Result (Unit {0}) E) → Appends bytes x z r → IfOk r (λ _. Prints text has file names lack (vec_items x) (vec_items z))
prints text has file names names_after p reading reading_after next next_after lack a bytes j s x z (Ok v) put =
    record {
      plan = p;
      names_after = names_after;
      reading = reading;
      reading_after = reading_after;
      next = next;
      next_after = next_after;
      answer = a;
      judged = j;
      bytes = bytes;
      printed = s;
      behind = put.0;
    }
prints text has file names names_after p reading reading_after next next_after lack a bytes j s x z (Err e) put = tt

pub prints_refused : {K Z E : Type 0} (text : K → Text) (has : Text → Bool) (file : List ℕ) (names names_after : List K) (p : Plan)
    (reading reading_after next next_after : List ℕ) (lack : Option ℕ) (e : LoadError) (f : LoadRefusal) → e ≡ load-error.Refused f
    → Judging text has file names names_after p reading reading_after next next_after lack (Err e)
    → (x z : Vec ℕ Z) (r : Result (Unit {0}) E) → Appends (refused_bytes f) x z r → IfOk r (λ _. Prints text has file names lack (vec_items x) (vec_items z))
prints_refused text has file names names_after p reading reading_after next next_after lack e f is j x z r put =
    let k = subst (λ y. Judging text has file names names_after p reading reading_after next next_after lack (Err y)) is j in
    prints text has file names names_after p reading reading_after next next_after lack (Err (load-error.Refused f)) (refused_bytes f) k refl x z r put
