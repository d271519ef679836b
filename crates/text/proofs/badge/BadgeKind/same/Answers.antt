use Rattle.std.proofs.Common.{decimal, ap, arith}
use Rattle.std.proofs.lemmas.Bool.{eq-eqb, eqb-true}
use Rattle.std.proofs.lemmas.Fmt.{decimal_injective}
use Rattle.text.proofs.badge.BadgeKind.same.Goals as goal

pub returns : goal.returns
returns c =
    let a = c.args.self.now in
    let b = c.args.other.now in (
      λ e. ap decimal (eqb-true a.number b.number e),
      λ e. eq-eqb a.number b.number (decimal_injective a.number b.number (omega (arith, a.fits)) (omega (arith, b.fits)) e),
    )
