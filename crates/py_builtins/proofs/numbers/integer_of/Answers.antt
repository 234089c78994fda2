use Rattle.std.proofs.Common.{refl, ap, ◌∙◌}
use Rattle.py_meaning.specs.declared.value.Value.{out-Value}
use Rattle.py_meaning.specs.declared.value.Value.TheVariants.{outs-Bool, outs-Int}
use Rattle.py_builtins.proofs.Integers.{by_number}
use Rattle.py_builtins.proofs.numbers.integer_of.Goals as goal

pub returns-in-Bool-clause-meant : goal.returns-in-Bool-clause-meant
returns-in-Bool-clause-meant c = by_number _ _ _ _ _ (ap out-Value c.in-Bool.is ∙ outs-Bool _) refl c.number.ensures (c.integer_or_type_error.ensures _)

pub returns-in-Int-clause-meant : goal.returns-in-Int-clause-meant
returns-in-Int-clause-meant c = by_number _ _ _ _ _ (ap out-Value c.in-Int.is ∙ outs-Int _) refl c.number-in-Int.ensures (c.integer_or_type_error-in-Int.ensures _)
