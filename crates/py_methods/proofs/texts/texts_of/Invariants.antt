use Rattle.std.proofs.Common.{◌≡◌, ◌++◌, drop}
use Rattle.std.specs.Option.{option_map}
use Rattle.py_meaning.specs.TextMethods.{texts_of}
use Rattle.py_methods.proofs.texts.texts_of.Given as goal

abbrev pub invariant-loop-value : goal.invariant-loop-value
invariant-loop-value l = option_map (λ rest. l.texts.items ++ rest) (texts_of (drop l.value-index l.values)) ≡ texts_of l.values
