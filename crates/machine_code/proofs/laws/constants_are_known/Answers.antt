use Rattle.machine_code.proofs.Reading.{constant_known}
use Rattle.machine_code.proofs.laws.constants_are_known.Goals as goal

pub returns : goal.returns
returns c = λ chunk texts n p f k v at is e. constant_known chunk texts p f is k v n at e
