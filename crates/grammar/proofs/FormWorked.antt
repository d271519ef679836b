-- The worked answers, found by going through the places of each text.
use Prim.Native.String.{String}
use Rattle.std.proofs.Common.{◌≡◌, List, [], ◌∷◌, ◌++◌, map, Some, None, codes, Option, refl}
use Rattle.text.specs.Names.{word}
use Rattle.grammar.specs.FormExamples.{taken_texts, refused_texts, AllTaken, AllRefused, times, AnswersWorked}
use Rattle.grammar.specs.declared.refusal.Refusal.{Refusal}
use Rattle.grammar.specs.declared.refusal.Refusal.TheVariants.{Depth, Many}
use Rattle.grammar.proofs.FormDecided.{answered, first_answered, none_answered}

abbrev said : String → Option Refusal
said t = answered word (codes t)

all_taken : (ts : List String) → map said ts ≡ map (λ t. None) ts → AllTaken ts
all_taken [] e = tt
all_taken (t ∷ ts) e =
    let a : said t ≡ None = cc in
    let b : map said ts ≡ map (λ t. None) ts = cc in
    (none_answered word (codes t) a, all_taken ts b)

all_refused : (xs : List (String × Refusal)) → map (λ x. said x.0) xs ≡ map (λ x. Some x.1) xs → AllRefused xs
all_refused [] e = tt
all_refused (x ∷ xs) e =
    let a : said x.0 ≡ Some x.1 = cc in
    let b : map (λ x. said x.0) xs ≡ map (λ x. Some x.1) xs = cc in
    (first_answered word (codes x.0) x.1 a, all_refused xs b)

pub answers_worked : AnswersWorked
answers_worked = record {
  taken = all_taken taken_texts refl;
  refused = all_refused refused_texts refl;
  deep = first_answered word (times 17 (codes "!(") ++ codes "a") (Depth 32) refl;
  leaves = first_answered word (times 128 (codes "a.") ++ codes "a") (Many 256) refl;
  brackets = first_answered word (times 64 (codes "!(a).") ++ codes "!(a)") (Many 320) refl;
}
