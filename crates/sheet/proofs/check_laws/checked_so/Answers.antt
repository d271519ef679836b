use Rattle.std.proofs.Common.{arith}
use Rattle.sheet.proofs.Checking.{answers_no, reads_length, reads_few, reads_known}
use Rattle.sheet.proofs.check_laws.checked_so.Goals as goal

pub returns-clause-uneven : goal.returns-clause-uneven
returns-clause-uneven c g σ w r d h = answers_no g σ w r d (λ x. h (reads_length g σ w x))

pub returns-clause-more : goal.returns-clause-more
returns-clause-more c g σ w r d h = answers_no g σ w r d (λ x. omega (arith, h, reads_few g σ w x))

pub returns-clause-unknown : goal.returns-clause-unknown
returns-clause-unknown c g σ w r d i h past = answers_no g σ w r d (λ x. omega (arith, past, reads_known g σ w i h x))
