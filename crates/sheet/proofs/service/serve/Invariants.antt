use Rattle.std.proofs.Common.{◌≡◌, ◌+◌, ◌≤◌, length, vec_items, vec_len, vec_capacity}
use Rattle.sheet.specs.Runs.{desk, fitted}
use Rattle.sheet.specs.Views.{ground_over, stands_on}
use Rattle.sheet.proofs.Transcripts.{Going}
use Rattle.sheet.proofs.service.serve.Given as goal

abbrev pub invariant-loop : goal.invariant-loop
invariant-loop g l =
    let d = desk g.K.Kind.text g.S.Scale.value g.S.Scale.join g.S.Scale.start g.S.Scale.extend (ground_over g.K.Kind.text l.plan l.names) in
    let fit = fitted (length l.initial.list) (length l.initial.numbers) (length l.initial.amounts) in
    (l.sheet.plan.now ≡ l.plan)
    × (l.sheet.names.now ≡ l.names)
    × Going d g.C.Clerk.asks fit l.initial.clerk l.clerk l.last (stands_on g.K.Kind.text l.sheet) l.counter (vec_items l.initial.log) (vec_items l.log)
    × (vec_capacity l.initial.log ≤ vec_capacity l.log)
    × (vec_len l.log ≡ vec_len l.initial.log + l.counter)
