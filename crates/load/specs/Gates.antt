-- What a gate program prints.
use Rattle.std.specs.Prelude.{◌≡◌, ℕ, Bool, List, ◌++◌, map, Ok, Err, Option, Result}
use Rattle.text.specs.Directory.{Text}
use Rattle.plan.specs.declared.plan.Plan.{Plan}
use Rattle.load.specs.Judged.{Judging}
use Rattle.load.specs.JudgementLines.{judgement_bytes, refused_bytes}
use Rattle.load.specs.declared.judgement.Judgement.{Judgement}
use Rattle.load.specs.declared.refusal.LoadError.{LoadError}
use Rattle.load.specs.declared.refusal.LoadError.TheVariants.{Refused, Memory}

-- the bytes that stand for an answer, with the texts of the names, the first reading and the names that may follow
abbrev pub StandsFor : List ℕ → List Text → List ℕ → List ℕ → Result Judgement LoadError → Type 0
StandsFor bytes texts reading next (Ok j) = bytes ≡ judgement_bytes reading texts next j
StandsFor bytes texts reading next (Err (Refused f)) = bytes ≡ refused_bytes f
StandsFor bytes texts reading next (Err (Memory x)) = ⊥

-- behind what was there, the answer of judging the file is printed, where this length, if any, is lacking of the buffers
pub record Prints {K : Type 0} (text : K → Text) (has : Text → Bool) (file : List ℕ) (names : List K) (lack : Option ℕ) (before after : List ℕ) : Type 0 where
  pub plan : Plan
  pub names_after : List K
  pub reading : List ℕ
  pub reading_after : List ℕ
  pub next : List ℕ
  pub next_after : List ℕ
  pub answer : Result Judgement LoadError
  pub judged : Judging text has file names names_after plan reading reading_after next next_after lack answer
  pub bytes : List ℕ
  pub printed : StandsFor bytes (map text names_after) reading_after next_after answer
  pub behind : after ≡ before ++ bytes
