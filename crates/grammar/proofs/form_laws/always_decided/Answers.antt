use Rattle.grammar.proofs.FormDecided.{always_decided}
use Rattle.grammar.proofs.form_laws.always_decided.Goals as goal

pub returns : goal.returns
returns c = always_decided
