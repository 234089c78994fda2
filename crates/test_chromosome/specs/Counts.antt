-- The callables of one item, and how many functions and classes come before the next.
use Rattle.std.specs.Prelude.{ℕ, ◌+◌, List, [], ◌∷◌}
use Rattle.py_syntax.specs.declared.module.Item.{Item}
use Rattle.py_syntax.specs.declared.module.Item.TheVariants as item
use Rattle.py_syntax.specs.declared.module.Member.{Member}
use Rattle.py_syntax.specs.declared.module.Member.TheVariants as member
use Rattle.suite_model.specs.declared.callable.Callable.{Callable}
use Rattle.suite_model.specs.declared.callable.Callable.TheVariants.{Constructor}
use Rattle.suite_model.specs.declared.callable.Callable.TheVariants as callable
use Rattle.suite_model.specs.Callables.{where_public, methods_called}

abbrev pub method_count : List Member → ℕ
method_count [] = 0
method_count (member.Func f ∷ members) = 1 + method_count members
method_count (member.Other stmt ∷ members) = method_count members

abbrev pub functions_after : ℕ → Item → ℕ
functions_after functions (item.Func f) = functions + 1
functions_after functions (item.Class c) = functions + method_count c.members
functions_after functions (item.Import line names) = functions
functions_after functions (item.Other stmt) = functions

abbrev pub classes_after : ℕ → Item → ℕ
classes_after classes (item.Func f) = classes
classes_after classes (item.Class c) = classes + 1
classes_after classes (item.Import line names) = classes
classes_after classes (item.Other stmt) = classes

abbrev pub item_callables : ℕ → ℕ → Item → List Callable
item_callables functions classes (item.Func f) = where_public f.name (callable.Function record { 0 = functions } ∷ [])
item_callables functions classes (item.Class c) = where_public c.name (Constructor classes ∷ methods_called classes functions c.members)
item_callables functions classes (item.Import line names) = []
item_callables functions classes (item.Other stmt) = []
