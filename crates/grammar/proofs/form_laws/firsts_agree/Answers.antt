use Rattle.grammar.proofs.FormAgrees.{firsts_agree}
use Rattle.grammar.proofs.form_laws.firsts_agree.Goals as goal

pub returns : goal.returns
returns c = firsts_agree
