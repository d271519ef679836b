use Rattle.text.specs.Texts.{decimals_agree}
use Rattle.text.proofs.decimal.decimals_agree.Goals as goal

pub returns : goal.returns
returns c = decimals_agree
