-- The rows of a class.
use Rattle.std.specs.Prelude.{ℕ, List, [], ◌∷◌, ◌++◌, None}
use Rattle.std.specs.Borrow.{Bor}
use Rattle.std.specs.List.{filter_map}
use Rattle.py_syntax.specs.declared.expr.Expr.{Expr}
use Rattle.py_syntax.specs.declared.module.Item.{Item}
use Rattle.py_syntax.specs.declared.module.Item.TheVariants as item
use Rattle.py_syntax.specs.declared.module.Member.{Member}
use Rattle.py_meaning.specs.Methods.{Names}
use Rattle.py_plain.specs.Program.{Function, ClassInfo, constant_in, function, methods_in, class_info}

-- the names and trees of the constants of a class
abbrev pub constants_in : List Member → Names Expr
constants_in members = filter_map constant_in members

abbrev pub assigned_now : Bor (List ℕ) × Bor Expr → List ℕ × Expr
assigned_now row = (row.0.now, row.1.now)

-- the functions of an item, where so many classes came before
abbrev pub item_functions : ℕ → Item → List Function
item_functions classes (item.Func f) = function None f ∷ []
item_functions classes (item.Class c) = methods_in classes c.members
item_functions classes (item.Import line names) = []
item_functions classes (item.Other stmt) = []

-- the classes after an item, where these and so many functions came before
abbrev pub item_classes : List ClassInfo → ℕ → Item → List ClassInfo
item_classes infos functions (item.Class c) = infos ++ class_info infos functions c ∷ []
item_classes infos functions (item.Func f) = infos
item_classes infos functions (item.Import line names) = infos
item_classes infos functions (item.Other stmt) = infos
