use Rattle.std.proofs.Common.{decimal, ap, ◌∙◌}
use Rattle.text.specs.Texts.{badge_text}
use Rattle.text.proofs.badge.BadgeKind.of_text.Goals as goal

pub returns : goal.returns
returns c = let s = c.in_ok-n.ensures in ap decimal s.1 ∙ badge_text c.args.bytes.now s.0
