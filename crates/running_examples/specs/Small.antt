-- The values, the module and the states that the examples speak of.
use Rattle.std.specs.Prelude.{ℕ, Bool, pos, List, [], ◌∷◌, Option, Some, None, codes}
use Rattle.pyn_base.specs.declared.class.BuiltClass.TheVariants.{Object, ValueError}
use Rattle.pyn_base.specs.declared.class.ClassId.TheVariants.{Built, Own}
use Rattle.pyn_base.specs.declared.ids.FuncId.{FuncId}
use Rattle.py_syntax.specs.declared.module.Param.{Param}
use Rattle.py_meaning.specs.Examples.{id, int, ref}
use Rattle.py_meaning.specs.Methods.{Names}
use Rattle.py_meaning.specs.Worlds.{World, Attributes}
use Rattle.py_meaning.specs.declared.object.Object.TheVariants as object
use Rattle.py_meaning.specs.declared.value.Value.{Value}
use Rattle.py_meaning.specs.declared.value.Value.TheVariants as v
use Rattle.py_meaning.specs.declared.value.View.TheVariants as view
use Rattle.py_plain.specs.declared.state.State.{State}
use Rattle.py_plain.specs.Examples.{func, func_id, node, param, walk_at}
use Rattle.py_plain.specs.Loops.{for_element}
use Rattle.py_plain.specs.Program.{ClassInfo, Function, Program}
use Rattle.py_plain.specs.Runs.{Run, Finding, passes}
use Rattle.py_plain.specs.Tests.{Trail, recorder}

-- ---- values

-- `range(3)`
abbrev pub three : Value
three = v.View (view.Range (pos 0) (pos 3) (pos 1))

-- the view of the items of an object
abbrev pub items_of : ℕ → Value
items_of n = v.View (view.Items (id n))

-- `{1: 1, 2: 5}` and `{2: 6, 1: 1}`
abbrev pub two_dicts : World
two_dicts = object.Dict ((int 1, int 1) ∷ (int 2, int 5) ∷ []) 2 ∷ object.Dict ((int 2, int 6) ∷ (int 1, int 1) ∷ []) 2 ∷ []

-- the same, and a list of the first
abbrev pub element_first : World
element_first = object.Dict ((int 1, int 1) ∷ (int 2, int 5) ∷ []) 2 ∷ object.Dict ((int 2, int 6) ∷ (int 1, int 1) ∷ []) 2 ∷ object.List (ref 0 ∷ []) ∷ []

-- ---- a module:
--
--     class E(ValueError):
--         def __init__(self, x):
--             pass
--     class F(E):
--         pass
--     class A:
--         def m(self):
--             pass
--     class M(ValueError):
--         mro = 7

abbrev pub a_function : ℕ → List ℕ → List Param → ℕ → List (List ℕ) → Function
a_function node name params owner locals = record { tree = func node name params []; owner = Some owner; locals = locals }

abbrev pub self : Param
self = param (codes "self") None

abbrev pub initializer_of_e : Function
initializer_of_e = a_function 0 (codes "__init__") (self ∷ param (codes "x") None ∷ []) 0 (codes "self" ∷ codes "x" ∷ [])

abbrev pub method_of_a : Function
method_of_a = a_function 2 (codes "m") (self ∷ []) 2 (codes "self" ∷ [])

abbrev pub class_e : ClassInfo
class_e = record { name = codes "E"; base = Built ValueError; methods = (codes "__init__", func_id 0) ∷ []; constants = [] }

abbrev pub class_f : ClassInfo
class_f = record { name = codes "F"; base = Own 0; methods = []; constants = [] }

abbrev pub class_a : ClassInfo
class_a = record { name = codes "A"; base = Built Object; methods = (codes "m", func_id 1) ∷ []; constants = [] }

abbrev pub class_m : ClassInfo
class_m = record { name = codes "M"; base = Built ValueError; methods = []; constants = [] }

-- Functions have no statement here: what `pass` does is nothing.
abbrev pub program : Program
program = record { functions = initializer_of_e ∷ method_of_a ∷ []; classes = class_e ∷ class_f ∷ class_a ∷ class_m ∷ []; bindings = [] }

-- ---- states

abbrev pub names : Attributes
names = (codes "E", v.Class (Own 0)) ∷ (codes "F", v.Class (Own 1)) ∷ (codes "A", v.Class (Own 2)) ∷ (codes "M", v.Class (Own 3)) ∷ []

abbrev pub state_in : Option FuncId → World → ℕ → Trail → State World Trail
state_in function world left seen = record {
  frame = record { function = function; variables = []; handled = [] };
  space = record { names = names; defaults = [] ∷ [] ∷ []; constants = [] ∷ [] ∷ [] ∷ ((codes "mro", int 7) ∷ []) ∷ [] };
  objects = world;
  depth = 0;
  left = left;
  seen = seen;
}

-- in a test, and in the method of `A`
abbrev pub in_test : World → ℕ → Trail → State World Trail
in_test world left seen = state_in None world left seen

abbrev pub in_method : World → ℕ → Trail → State World Trail
in_method world left seen = state_in (Some (func_id 1)) world left seen

-- the argument `x=1`
abbrev pub named_x : Attributes
named_x = (codes "x", int 1) ∷ []

-- a turn of a `for` over this, with these names, at this element; its body does nothing
abbrev pub turn : Value → List (List ℕ) → Bool → Value → Run Trail Finding
turn of names is_tuple x = for_element recorder program (λ e. passes) (λ stmt. passes) (node 4) (λ walk. passes) names is_tuple [] (walk_at of 0 0 0) (Some x)
