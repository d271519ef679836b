use Rattle.grammar.proofs.FormAgrees.{beginnings_live}
use Rattle.grammar.proofs.form_laws.beginnings_live.Goals as goal

pub returns : goal.returns
returns c = beginnings_live
