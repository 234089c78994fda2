use Rattle.std.proofs.Common.{ap, codes, ◌++◌, arith}
use Rattle.std.proofs.lemmas.Fmt.{decimal_digit}
use Rattle.pynguin_job.proofs.examples.said_examples.Goals as goal

pub returns-clause-refused : goal.returns-clause-refused
returns-clause-refused c = ap (λ line. codes "a/box.py" ++ codes ":" ++ line ++ codes ": " ++ codes "lambda" ++ codes "\n") (decimal_digit 3 (omega arith))
