use Rattle.std.proofs.Common.{refl, arith}
use Rattle.sheet.proofs.Playing.{played}
use Rattle.sheet.proofs.player.play.Goals as goal

pub returns : goal.returns
returns g c =
    let s = c.serve.ensures.served in
    record {
      turned = s.turned;
      added = s.added;
      stands = s.stands;
      lawful = s.lawful;
      amounts = s.amounts;
      distances = s.distances;
      ordered = played _ c.args.calls.now _ _ s.turned s.then s.asked refl (omega (arith, s.few));
      all = s.all;
    }
