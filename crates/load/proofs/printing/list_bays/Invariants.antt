use Rattle.std.proofs.Common.{◌≡◌, ◌≤◌, length, take}
use Rattle.engine.specs.Scales.{bays_of}
use Rattle.load.specs.JudgementLines.{members}
use Rattle.load.proofs.printing.list_bays.Given as goal

abbrev pub invariant-loop-bay : goal.invariant-loop-bay
invariant-loop-bay l = record {
  long : length l.list ≡ 64;
  few : l.count ≤ l.bay;
  listed : take l.count l.list ≡ members (bays_of l.bays) l.bay;
}
