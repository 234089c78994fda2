use Rattle.std.specs.Prelude.{List, Option, Some, None}
use Rattle.std.specs.List.{filter_map}
use Rattle.py_syntax.specs.declared.module.Func.{Func}
use Rattle.py_syntax.specs.declared.module.Item.{Item}
use Rattle.py_syntax.specs.declared.module.Item.TheVariants as item
use Rattle.py_syntax.specs.declared.module.Module.{Module}

-- the function that an item is
abbrev pub function_in : Item → Option Func
function_in (item.Func f) = Some f
function_in (item.Class c) = None
function_in (item.Import line names) = None
function_in (item.Other stmt) = None

-- the functions at a module's level, in order
abbrev pub functions_in : List Item → List Func
functions_in items = filter_map function_in items

abbrev pub functions_of : Module → List Func
functions_of module' = functions_in module'.items
