use Rattle.std.proofs.Common.{◌≡◌, ◌++◌}
use Rattle.std.specs.Vec.Iter.{into_iter_items}
use Rattle.py_language.specs.FirstForm.{items_from}
use Rattle.py_first_form.proofs.tree.module_of.Given as goal

abbrev pub invariant-loop-function : goal.invariant-loop-function
invariant-loop-function l = record {
  items : l.items ≡ items_from 0 l.yielded;
  whole : l.yielded ++ into_iter_items l.function-iterator ≡ l.fn.functions.items;
}
