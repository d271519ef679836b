use Rattle.std.proofs.Common.{◌-◌, ◌≤◌, map, length, take, sym, subst, arith, rules}
use mathlib.Core.Logic.{∥∥₁_map}
use Rattle.engine.specs.Fits.{standing}
use Rattle.sheet.specs.Calls.{Begins}
use Rattle.sheet.specs.Views.{ground_over}
use Rattle.sheet.proofs.Grounds.{shape, plan_leaves}
use Rattle.sheet.proofs.Stamping.{every_fewer, standing_take, begun_take}
use Rattle.sheet.proofs.page.Sheet.strike.Goals as goal

pub invariant_of-self : goal.invariant_of-self
invariant_of-self g c =
    let s = c.args.self.now in
    let texts = map g.K.Kind.text s.names.now in
    let σ = standing texts (take s.count s.stamps) in
    let fits : s.count ≤ length s.stamps = search rules in
    record {
      few = omega (arith, s.few);
      among = every_fewer _ _ s.count s.stamps (omega arith) s.among;
      begun = ∥∥₁_map s.begun (λ b. subst (Begins (ground_over g.K.Kind.text s.plan.now s.names.now)) (sym (standing_take texts s.stamps s.count fits)) (begun_take (shape s.plan.now) (plan_leaves s.plan.now) texts (length σ - 1) σ b));
    }

pub returns-clause-after : goal.returns-clause-after
returns-clause-after g c =
    let s = c.args.self.now in
    let fits : s.count ≤ length s.stamps = search rules in
    standing_take (map g.K.Kind.text s.names.now) s.stamps s.count fits

pub returns-clause-begun : goal.returns-clause-begun
returns-clause-begun g c =
    let s = c.args.self.now in
    let texts = map g.K.Kind.text s.names.now in
    let σ = standing texts (take s.count s.stamps) in
    let fits : s.count ≤ length s.stamps = search rules in
    λ b. subst (Begins (ground_over g.K.Kind.text s.plan.now s.names.now)) (sym (standing_take texts s.stamps s.count fits)) (begun_take (shape s.plan.now) (plan_leaves s.plan.now) texts (length σ - 1) σ b)
