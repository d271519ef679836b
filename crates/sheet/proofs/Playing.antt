-- The calls that a player asks for are those of its list.
use Rattle.std.proofs.Common.{◌≡◌, ℕ, suc, ◌+◌, ◌<◌, ◌≤◌, List, [], ◌∷◌, map, length, get_or, take, drop, refl, ap, ◌∙◌, add-one, arith, drop-cons}
use Rattle.sheet.specs.declared.words.Answer.{Answer}
use Rattle.sheet.specs.declared.words.Call.{Call}
use Rattle.sheet.specs.declared.words.Call.TheVariants.{Strike}
use Rattle.sheet.specs.declared.words.Turn.{Turn}
use Rattle.sheet.specs.declared.player.Player.{Player}
use Rattle.sheet.specs.Runs.{Asked}
use Rattle.sheet.specs.Played.{NextCall, calls_of}

module _ {K S : Type 0} (fit : Call K → Call K) (calls : List (Call K)) where
  pub played : (c : Player K) (last : Answer S) (ts : List (Turn K S)) (e : Player K) → Asked (λ c a k m. NextCall c k m) fit c last ts e → c.calls.now ≡ calls → c.at + length ts ≤ length calls → calls_of ts ≡ map fit (take (length ts) (drop c.at calls))
  played c last [] e h is room = refl
  played c last (t ∷ ts) e (k, m, (kis, same, up), f, rest) is room =
      let h : c.at < length calls = omega arith in
      let next : m.at ≡ c.at + 1 = up (rw is h) in
      let ih = played m t.answer ts e rest (same ∙ is) (omega arith) in
      let here : t.call ≡ fit (get_or calls c.at Strike) = f ∙ ap fit (kis ∙ ap (λ (l : List (Call K)). get_or l c.at Strike) is) in
      let there : calls_of ts ≡ map fit (take (length ts) (drop (suc c.at) calls)) = ih ∙ ap (λ (n : ℕ). map fit (take (length ts) (drop n calls))) (next ∙ add-one c.at) in
      rw (drop-cons calls c.at Strike h) (ap (λ (x : Call K). x ∷ calls_of ts) here ∙ ap (λ (l : List (Call K)). fit (get_or calls c.at Strike) ∷ l) there)
