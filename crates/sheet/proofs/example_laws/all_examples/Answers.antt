use Rattle.sheet.proofs.Working.{all_examples}
use Rattle.sheet.proofs.example_laws.all_examples.Goals as goal

pub returns : goal.returns
returns c = all_examples
