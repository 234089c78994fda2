-- What a test may call of a module, with parameters and results (Language Reference 8.7 and 8.8).
use Rattle.std.specs.Prelude.{ℕ, ◌+◌, Bool, true, false, not, ◌==◌, if◌then◌else◌, List, [], ◌∷◌, ◌++◌, length, drop, map, Option, Some, None}
use Rattle.pyn_base.specs.declared.class.ClassId.TheVariants.{Own}
use Rattle.pyn_base.specs.declared.ids.FuncId.{FuncId}
use Rattle.py_syntax.specs.declared.module.Item.{Item}
use Rattle.py_syntax.specs.declared.module.Item.TheVariants as item
use Rattle.py_syntax.specs.declared.module.Member.{Member}
use Rattle.py_syntax.specs.declared.module.Member.TheVariants as member
use Rattle.py_syntax.specs.declared.module.Module.{Module}
use Rattle.py_syntax.specs.declared.module.Param.{Param}
use Rattle.py_plain.specs.Classes.{initializer}
use Rattle.py_plain.specs.Names.{function_at}
use Rattle.py_plain.specs.Program.{Function, Program, methods_from}
use Rattle.suite_model.specs.declared.callable.Callable.{Callable}
use Rattle.suite_model.specs.declared.callable.Callable.TheVariants.{Constructor, Method}
use Rattle.suite_model.specs.declared.callable.Callable.TheVariants as callable
use Rattle.suite_model.specs.declared.ty.Ty.{Ty}
use Rattle.suite_model.specs.declared.ty.Ty.TheVariants as ty
use Rattle.suite_model.specs.Types.{type_of_annotation}

abbrev pub underscore : ℕ
underscore = 95

-- A name that begins with an underscore isn't called; so `__init__` is called by its class alone.
abbrev pub is_public : List ℕ → Bool
is_public [] = true
is_public (c ∷ name) = not (c == underscore)

abbrev pub where_public : List ℕ → List Callable → List Callable
where_public name callables = if is_public name then callables else []

-- the methods of a class, where so many functions came before
abbrev pub methods_called : ℕ → ℕ → List Member → List Callable
methods_called class number [] = []
methods_called class number (member.Func f ∷ members) = where_public f.name (Method class record { 0 = number } ∷ []) ++ methods_called class (number + 1) members
methods_called class number (member.Other stmt ∷ members) = methods_called class number members

-- those of items, where so many functions and classes came before
abbrev pub callables_from : ℕ → ℕ → List Item → List Callable
callables_from functions classes [] = []
callables_from functions classes (item.Func f ∷ items) = where_public f.name (callable.Function record { 0 = functions } ∷ []) ++ callables_from (functions + 1) classes items
callables_from functions classes (item.Class c ∷ items) =
    where_public c.name (Constructor classes ∷ methods_called classes functions c.members) ++ callables_from (functions + length (methods_from 0 c.members)) (classes + 1) items
callables_from functions classes (item.Import line names ∷ items) = callables_from functions classes items
callables_from functions classes (item.Other stmt ∷ items) = callables_from functions classes items

-- Classes, methods and functions in the order of the text.
abbrev pub callables_of : Module → List Callable
callables_of module' = callables_from 0 0 module'.items

abbrev pub is_callable : Callable → Callable → Bool
is_callable (Constructor a) (Constructor b) = a == b
is_callable (Method c f) (Method d g) = if c == d then f.0 == g.0 else false
is_callable (callable.Function f) (callable.Function g) = f.0 == g.0
is_callable _ _ = false

-- ---- parameters and results

-- what a call takes and gives
pub record Signature : Type 0 where
  pub takes : List Ty
  pub gives : Ty

module _ (program : Program) where
  abbrev pub param_type : Param → Ty
  param_type param = type_of_annotation program.classes param.annotation

  -- of a function, from a parameter on
  abbrev pub signature_from : ℕ → Option Function → Signature
  signature_from first None = record { takes = []; gives = ty.Any }
  signature_from first (Some f) = record { takes = drop first (map param_type f.tree.params); gives = type_of_annotation program.classes f.tree.returns }

  abbrev pub function_signature : FuncId → Signature
  function_signature f = signature_from 0 (function_at program (Some f))

  -- a method gets its instance besides
  abbrev pub method_signature : Option FuncId → Signature
  method_signature f = signature_from 1 (function_at program f)

  -- a class takes what the `__init__` found along its bases takes, and gives an instance
  abbrev pub constructor_signature : ℕ → Signature
  constructor_signature class = record { takes = (method_signature (initializer program (Own class))).takes; gives = ty.Class (Own class) }
