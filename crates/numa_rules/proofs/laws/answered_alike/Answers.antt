use Rattle.numa_rules.proofs.Alike.{same-answer}
use Rattle.numa_rules.proofs.laws.answered_alike.Goals as goal

pub returns : goal.returns
returns c = λ space after command documents alike. same-answer space after command documents alike
