-- What the meaning needs of an accepted module: its functions, its classes and what it binds (Language Reference 4.2.1, 8.7
-- and 8.8). Functions and classes are numbered from 0 in the order of their lines.
use Rattle.std.specs.Prelude.{ℕ, ◌+◌, List, [], ◌∷◌, ◌++◌, length, Option, Some, None}
use Rattle.std.specs.List.{filter_map}
use Rattle.std.specs.Option.{option_map, option_or}
use Rattle.pyn_base.specs.declared.class.BuiltClass.TheVariants.{Object}
use Rattle.pyn_base.specs.declared.class.ClassId.{ClassId}
use Rattle.pyn_base.specs.declared.class.ClassId.TheVariants.{Built, Own}
use Rattle.pyn_base.specs.declared.ids.FuncId.{FuncId}
use Rattle.py_syntax.specs.declared.expr.Expr.{Expr}
use Rattle.py_syntax.specs.declared.module.Class.{Class}
use Rattle.py_syntax.specs.declared.module.Func.{Func}
use Rattle.py_syntax.specs.declared.module.Item.{Item}
use Rattle.py_syntax.specs.declared.module.Item.TheVariants as item
use Rattle.py_syntax.specs.declared.module.Member.{Member}
use Rattle.py_syntax.specs.declared.module.Member.TheVariants as member
use Rattle.py_syntax.specs.declared.module.Module.{Module}
use Rattle.py_syntax.specs.declared.stmt.Clause.{Clause}
use Rattle.py_syntax.specs.declared.stmt.Stmt.{Stmt}
use Rattle.py_syntax.specs.declared.stmt.StmtKind.{StmtKind, StmtKind-F, out-StmtKind}
use Rattle.py_syntax.specs.declared.stmt.Target.TheVariants as target
use Rattle.py_meaning.specs.Methods.{Names, named}
use Rattle.py_names.specs.Bound.{Spellings, locals}
use Rattle.py_plain.specs.BuiltNames.{built_classes}

-- ---- functions

pub record Function : Type 0 where
  pub tree : Func
  -- the class in which it is written
  pub owner : Option ℕ
  -- every name that it binds anywhere, its parameters too
  pub locals : Spellings

abbrev pub function : Option ℕ → Func → Function
function owner f = record { tree = f; owner = owner; locals = locals f }

abbrev pub methods_in : ℕ → List Member → List Function
methods_in class [] = []
methods_in class (member.Func f ∷ members) = function (Some class) f ∷ methods_in class members
methods_in class (member.Other stmt ∷ members) = methods_in class members

-- all functions, where so many classes came before
abbrev pub functions_from : ℕ → List Item → List Function
functions_from classes [] = []
functions_from classes (item.Func f ∷ items) = function None f ∷ functions_from classes items
functions_from classes (item.Class c ∷ items) = methods_in classes c.members ++ functions_from (classes + 1) items
functions_from classes (item.Import line names ∷ items) = functions_from classes items
functions_from classes (item.Other stmt ∷ items) = functions_from classes items

-- ---- classes

pub record ClassInfo : Type 0 where
  pub name : List ℕ
  pub base : ClassId
  pub methods : Names FuncId
  pub constants : Names Expr

-- the name and the value of an assignment to one name
abbrev pub assigned_by : StmtKind-F StmtKind Clause Stmt → Option (List ℕ × Expr)
assigned_by (StmtKind-F.Assign (target.Name name ∷ []) is_tuple annotation e) = Some (name, e)
assigned_by _ = None

abbrev pub assigned : Stmt → Option (List ℕ × Expr)
assigned stmt = assigned_by (out-StmtKind stmt.kind)

abbrev pub constant_in : Member → Option (List ℕ × Expr)
constant_in (member.Func f) = None
constant_in (member.Other stmt) = assigned stmt

-- the methods, whose numbers follow one another
abbrev pub methods_from : ℕ → List Member → Names FuncId
methods_from number [] = []
methods_from number (member.Func f ∷ members) = (f.name, record { 0 = number }) ∷ methods_from (number + 1) members
methods_from number (member.Other stmt ∷ members) = methods_from number members

-- classes by their names
abbrev pub numbered : ℕ → List ClassInfo → Names ClassId
numbered number [] = []
numbered number (info ∷ infos) = (info.name, Own number) ∷ numbered (number + 1) infos

abbrev pub base_or_object : Option ClassId → ClassId
base_or_object None = Built Object
base_or_object (Some class) = class

-- The base is an earlier class of the module, or a built-in one; `object` where none is named.
abbrev pub base_of : List ClassInfo → Option (List ℕ) → ClassId
base_of infos None = Built Object
base_of infos (Some name) = base_or_object (option_or (named (numbered 0 infos) name) (option_map Built (named built_classes name)))

-- a class, where these classes and so many functions came before
abbrev pub class_info : List ClassInfo → ℕ → Class → ClassInfo
class_info infos functions c = record { name = c.name; base = base_of infos c.base; methods = methods_from functions c.members; constants = filter_map constant_in c.members }

abbrev pub classes_from : List ClassInfo → ℕ → List Item → List ClassInfo
classes_from infos functions [] = infos
classes_from infos functions (item.Func f ∷ items) = classes_from infos (functions + 1) items
classes_from infos functions (item.Class c ∷ items) = classes_from (infos ++ class_info infos functions c ∷ []) (functions + length (methods_from 0 c.members)) items
classes_from infos functions (item.Import line names ∷ items) = classes_from infos functions items
classes_from infos functions (item.Other stmt ∷ items) = classes_from infos functions items

-- ---- what the module binds, in order

pub data Binding : Type 0 where
  OfConstant : Expr → Binding
  OfFunction : FuncId → Binding
  OfClass : ClassId → Binding

abbrev pub constant_binding : Option (List ℕ × Expr) → Names Binding
constant_binding None = []
constant_binding (Some constant) = (constant.0, OfConstant constant.1) ∷ []

-- the bindings of the items, where so many functions and classes came before
abbrev pub bindings_from : ℕ → ℕ → List Item → Names Binding
bindings_from functions classes [] = []
bindings_from functions classes (item.Func f ∷ items) = (f.name, OfFunction record { 0 = functions }) ∷ bindings_from (functions + 1) classes items
bindings_from functions classes (item.Class c ∷ items) = (c.name, OfClass (Own classes)) ∷ bindings_from (functions + length (methods_from 0 c.members)) (classes + 1) items
bindings_from functions classes (item.Import line names ∷ items) = bindings_from functions classes items
bindings_from functions classes (item.Other stmt ∷ items) = constant_binding (assigned stmt) ++ bindings_from functions classes items

pub record Program : Type 0 where
  pub functions : List Function
  pub classes : List ClassInfo
  pub bindings : Names Binding

abbrev pub program_of : Module → Program
program_of module' = record { functions = functions_from 0 module'.items; classes = classes_from [] 0 module'.items; bindings = bindings_from 0 0 module'.items }
