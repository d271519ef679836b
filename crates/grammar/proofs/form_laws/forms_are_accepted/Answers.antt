use Rattle.grammar.proofs.FormAgrees.{forms_are_accepted}
use Rattle.grammar.proofs.form_laws.forms_are_accepted.Goals as goal

pub returns : goal.returns
returns c = forms_are_accepted
