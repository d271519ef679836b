use Rattle.grammar.proofs.FormAgrees.{takings_agree}
use Rattle.grammar.proofs.form_laws.takings_agree.Goals as goal

pub returns : goal.returns
returns c = takings_agree
