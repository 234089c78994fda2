use Rattle.std.proofs.Common.{◌≡◌, take, map}
use Rattle.py_meaning.specs.declared.value.Value.TheVariants as value
use Rattle.py_methods.proofs.texts.as_values.Given as goal

abbrev pub invariant-loop-text : goal.invariant-loop-text
invariant-loop-text l = l.values.items ≡ map value.Str (take l.text-index l.texts)
