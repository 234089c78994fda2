-- Which of two values is put in the other's place.
use Rattle.std.specs.Prelude.{Bool}
use Rattle.py_meaning.specs.declared.value.Value.{Value}
use Rattle.py_meaning.specs.Steps.{Costing}
use Rattle.py_meaning.specs.Worlds.{World}
use Rattle.py_meaning.specs.Builtins.{is_less_than, is_more_than}
use Rattle.py_builtins.specs.declared.extremes.Extreme.{Extreme}
use Rattle.py_builtins.specs.declared.extremes.Extreme.TheVariants.{Least, Greatest}

abbrev pub better : Extreme → World → Value → Value → Costing Bool
better Least = is_less_than
better Greatest = is_more_than
