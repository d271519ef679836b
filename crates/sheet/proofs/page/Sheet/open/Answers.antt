use Rattle.std.proofs.Common.{map}
use Rattle.std.proofs.lemmas.Grind.{merely}
use Rattle.sheet.proofs.Grounds.{begun_empty}
use Rattle.sheet.proofs.page.Sheet.open.Goals as goal

pub invariant_of-result-clause-begun : goal.invariant_of-result-clause-begun
invariant_of-result-clause-begun g c = merely (begun_empty c.args.plan.now (map g.K.Kind.text c.args.names.now))

pub returns-clause-begun : goal.returns-clause-begun
returns-clause-begun g c = begun_empty c.args.plan.now (map g.K.Kind.text c.args.names.now)
