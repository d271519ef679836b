use Rattle.grammar.proofs.FormAgrees.{refusals_agree}
use Rattle.grammar.proofs.form_laws.refusals_agree.Goals as goal

pub returns : goal.returns
returns c = refusals_agree
