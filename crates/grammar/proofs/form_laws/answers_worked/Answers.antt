use Rattle.grammar.proofs.FormWorked.{answers_worked}
use Rattle.grammar.proofs.form_laws.answers_worked.Goals as goal

pub returns : goal.returns
returns c = answers_worked
