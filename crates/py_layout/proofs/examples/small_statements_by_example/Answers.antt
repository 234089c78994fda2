use Rattle.std.proofs.Common.{refl}
use Rattle.py_layout.proofs.examples.small_statements_by_example.Goals as goal

pub returns : goal.returns
returns c annotated = (λ value. refl, (λ of value. refl, (λ type value. refl, (λ value. refl, (λ of at. refl, (λ test message. refl, refl))))))
