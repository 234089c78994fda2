use Rattle.std.proofs.Common.{◌≡◌, drop, map}
use Rattle.std.specs.List.{list_any}
use Rattle.pyn_base.specs.declared.class.ClassId.TheVariants.{Built}
use Rattle.py_meaning.specs.Values.{same_class}
use Rattle.py_tables.proofs.classes.is_among_built.Given as goal

abbrev pub invariant-loop-class : goal.invariant-loop-class
invariant-loop-class l = list_any (same_class l.above) (map Built (drop l.class-index l.classes)) ≡ list_any (same_class l.above) (map Built l.classes)
