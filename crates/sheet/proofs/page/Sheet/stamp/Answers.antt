use Rattle.std.proofs.Common.{◌≡◌, ℕ, ◌+◌, ◌<◌, ◌≤◌, Bool, true, false, map, length, take, set, None, Some, Err, sym, refl, ◌∙◌, subst, arith, rules}
use Rattle.std.proofs.lemmas.Grind.{merely}
use Rattle.text.specs.Directory.{Finds}
use Rattle.engine.specs.Fits.{standing}
use Rattle.sheet.specs.Calls.{Begins}
use Rattle.sheet.specs.Views.{ground_over}
use Rattle.sheet.specs.declared.refusal.Refusal.TheVariants.{NotTaken}
use Rattle.sheet.proofs.Answering.{enough_there, live_at, stamps_not, stamps_taken}
use Rattle.sheet.proofs.Known.{no_number, among_more, stands_more, follows_more}
use Rattle.sheet.proofs.Stamping.{standing_length, no_more}
use Rattle.sheet.proofs.page.Sheet.stamp.Goals as goal

pub returns-in_err-number : goal.returns-in_err-number
returns-in_err-number g c =
    let s = c.args.self.now in
    let text = g.K.Kind.text in
    let t = text c.args.name in
    let m = length c.args.numbers.now in
    let a = length c.args.amounts.now in
    let σ = standing (map text s.names.now) (take s.count s.stamps) in
    let enough = enough_there _ tt c.in_ok-room.ensures in
    let missing : Finds (map text (take c.names.result s.names.now)) t None = subst (Finds (map text (take c.names.result s.names.now)) t) c.in_err-number.ensures.ok_part c.find.ensures in
    let none = no_number text s.plan.now s.names.now c.names.result t m a enough c.names.ensures σ missing in
    let r = stamps_not text s.plan.now s.names.now (take s.count s.stamps) m a t enough none in
    let is : c.from_residual-in_err-number.result ≡ Err NotTaken = search rules in
    record { plan = refl; names = refl; answer = rw is r.0; after = r.1; begun = λ b. b }

pub returns-then-count-ge-MOST_STAMPS : goal.returns-then-count-ge-MOST_STAMPS
returns-then-count-ge-MOST_STAMPS g c =
    let s = c.args.self.now in
    let text = g.K.Kind.text in
    let t = text c.args.name in
    let m = length c.args.numbers.now in
    let a = length c.args.amounts.now in
    let σ = standing (map text s.names.now) (take s.count s.stamps) in
    let enough = enough_there _ tt c.in_ok-room.ensures in
    let fits : s.count ≤ length s.stamps = search rules in
    let many : 128 ≤ length σ = omega (arith, standing_length (map text s.names.now) s.stamps s.count fits, c.if-count-ge-MOST_STAMPS.true) in
    let r = stamps_not text s.plan.now s.names.now (take s.count s.stamps) m a t enough (no_more s.plan.now (map text s.names.now) σ t many) in
    record { plan = refl; names = refl; answer = r.0; after = r.1; begun = λ b. b }

pub returns-then-not-live : goal.returns-then-not-live
returns-then-not-live g c =
    let s = c.args.self.now in
    let text = g.K.Kind.text in
    let t = text c.args.name in
    let m = length c.args.numbers.now in
    let a = length c.args.amounts.now in
    let σ = standing (map text s.names.now) (take s.count s.stamps) in
    let enough = enough_there _ tt c.in_ok-room.ensures in
    let number = c.in_ok-number.number in
    let found : Finds (map text (take c.names.result s.names.now)) t (Some number) = subst (Finds (map text (take c.names.result s.names.now)) t) c.in_ok-number.ensures.ok_part c.find.ensures in
    let fits : s.count < length s.stamps = search rules in
    let more = take (s.count + 1) (set s.stamps s.count number) in
    let begins = live_at text s.plan.now s.names.now more c.search.result c.search.ensures c.live.result c.live.ensures in
    let d = follows_more text s.plan.now s.names.now c.names.result t m a enough c.names.ensures number found s.stamps s.count fits c.live.result begins in
    let not : ◌≡◌ {A = Bool} c.live.result false = c.if-not-live.true in
    let r = stamps_not text s.plan.now s.names.now (take s.count s.stamps) m a t enough (λ b. let e : ◌≡◌ {A = Bool} false true = sym not ∙ d.1 b in let z : ◌≡◌ {A = ℕ} 0 1 = cc in omega arith) in
    record { plan = refl; names = refl; answer = r.0; after = r.1; begun = λ b. b }

pub invariant_of-self : goal.invariant_of-self
invariant_of-self g c =
    let s = c.args.self.now in
    let text = g.K.Kind.text in
    let t = text c.args.name in
    let m = length c.args.numbers.now in
    let a = length c.args.amounts.now in
    let σ = standing (map text s.names.now) (take s.count s.stamps) in
    let enough = enough_there _ tt c.in_ok-room.ensures in
    let number = c.in_ok-number.number in
    let found : Finds (map text (take c.names.result s.names.now)) t (Some number) = subst (Finds (map text (take c.names.result s.names.now)) t) c.in_ok-number.ensures.ok_part c.find.ensures in
    let fits : s.count < length s.stamps = search rules in
    let more = take (s.count + 1) (set s.stamps s.count number) in
    let begins = live_at text s.plan.now s.names.now more c.search.result c.search.ensures c.live.result c.live.ensures in
    let yes : ◌≡◌ {A = Bool} c.live.result true = c.if-not-live.false in
    record {
      few = omega (arith, c.if-count-ge-MOST_STAMPS.false);
      among = among_more text s.plan.now s.names.now c.names.result t m a enough c.names.ensures number found s.stamps s.count fits s.among;
      begun = merely (begins.0 yes);
    }

pub returns : goal.returns
returns g c =
    let s = c.args.self.now in
    let text = g.K.Kind.text in
    let t = text c.args.name in
    let m = length c.args.numbers.now in
    let a = length c.args.amounts.now in
    let σ = standing (map text s.names.now) (take s.count s.stamps) in
    let enough = enough_there _ tt c.in_ok-room.ensures in
    let number = c.in_ok-number.number in
    let found : Finds (map text (take c.names.result s.names.now)) t (Some number) = subst (Finds (map text (take c.names.result s.names.now)) t) c.in_ok-number.ensures.ok_part c.find.ensures in
    let fits : s.count < length s.stamps = search rules in
    let more = take (s.count + 1) (set s.stamps s.count number) in
    let begins = live_at text s.plan.now s.names.now more c.search.result c.search.ensures c.live.result c.live.ensures in
    let d = follows_more text s.plan.now s.names.now c.names.result t m a enough c.names.ensures number found s.stamps s.count fits c.live.result begins in
    let yes : ◌≡◌ {A = Bool} c.live.result true = c.if-not-live.false in
    let is = stands_more text s.plan.now s.names.now c.names.result t m a enough c.names.ensures number found s.stamps s.count fits in
    let r = stamps_taken text s.plan.now s.names.now (take s.count s.stamps) m a t enough (d.0 yes) (standing (map text s.names.now) more) is in
    record { plan = refl; names = refl; answer = r.0; after = r.1; begun = λ b. subst (Begins (ground_over text s.plan.now s.names.now)) (sym is) (d.0 yes) }
