use Rattle.sheet.proofs.Mistaken.{keeping_is_mistaken}
use Rattle.sheet.proofs.example_laws.keeping_is_mistaken.Goals as goal

pub returns : goal.returns
returns c = keeping_is_mistaken
