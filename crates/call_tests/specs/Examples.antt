-- Worked examples of the tests that call what a module has.
use Rattle.std.specs.Prelude.{◌≡◌, ℕ, pos, false, List, [], ◌∷◌, None, Some, codes}
use Rattle.py_syntax.specs.declared.module.Item.{Item}
use Rattle.py_syntax.specs.declared.module.Item.TheVariants as item
use Rattle.py_syntax.specs.declared.module.Member.{Member}
use Rattle.py_syntax.specs.declared.module.Member.TheVariants as member
use Rattle.py_syntax.specs.declared.module.Module.{Module}
use Rattle.py_syntax.specs.declared.module.Param.{Param}
use Rattle.py_syntax.specs.declared.stmt.Annotation.{Annotation}
use Rattle.py_syntax.specs.declared.stmt.Annotation.TheVariants as a
use Rattle.suite_model.specs.declared.test.Primitive.TheVariants as prim
use Rattle.suite_model.specs.declared.test.Step.{Step}
use Rattle.suite_model.specs.declared.test.Step.TheVariants as step
use Rattle.suite_model.specs.Examples.{f, func, class, param, plain, self, test_of}
use Rattle.call_tests.specs.CallTests.{call_tests}

abbrev pub module_of : List Item → Module
module_of items = record { items = items; future = false; nodes = 9 }

abbrev pub annotated_as : List ℕ → Annotation → Param
annotated_as name annotation = param name (Some annotation)

abbrev pub init : List Param → Member
init params = member.Func (func (codes "__init__") (self ∷ params))

abbrev pub zero_step : Step
zero_step = step.Prim (prim.Int (pos 0))

abbrev pub none_step : Step
none_step = step.Prim prim.None

-- `class Full(Exception)` and `def put(n: int)`: `var_0 = module_0.Full()`, and `var_0 = 0`, `var_1 = module_0.put(var_0)`
abbrev pub Box : Type 0
Box =
    call_tests (module_of (item.Class (class (codes "Full") (Some (codes "Exception")) []) ∷ item.Func (func (codes "put") (annotated_as (codes "n") (plain (codes "int")) ∷ [])) ∷ []))
    ≡ test_of (step.Construct 0 [] ∷ []) ∷ test_of (zero_step ∷ step.Function (f 0) (0 ∷ []) ∷ []) ∷ []

abbrev pub given : List Param → List Item
given params = item.Func (func (codes "f") params) ∷ []

-- `def f(s: str, b: bool)`
abbrev pub Plain : Type 0
Plain =
    call_tests (module_of (given (annotated_as (codes "s") (plain (codes "str")) ∷ annotated_as (codes "b") (plain (codes "bool")) ∷ [])))
    ≡ test_of (step.Prim (prim.Str []) ∷ step.Prim (prim.Bool false) ∷ step.Function (f 0) (0 ∷ 1 ∷ []) ∷ []) ∷ []

-- `def f(x)`
abbrev pub Unknown : Type 0
Unknown = call_tests (module_of (given (param (codes "x") None ∷ []))) ≡ test_of (zero_step ∷ step.Function (f 0) (0 ∷ []) ∷ []) ∷ []

-- `def f(xs: list)`
abbrev pub Lists : Type 0
Lists = call_tests (module_of (given (annotated_as (codes "xs") (plain (codes "list")) ∷ []))) ≡ test_of (step.ListOf [] ∷ step.Function (f 0) (0 ∷ []) ∷ []) ∷ []

-- `def f(d: dict)`
abbrev pub Dicts : Type 0
Dicts = call_tests (module_of (given (annotated_as (codes "d") (plain (codes "dict")) ∷ []))) ≡ test_of (step.DictOf [] ∷ step.Function (f 0) (0 ∷ []) ∷ []) ∷ []

abbrev pub an_int_or_none : Annotation
an_int_or_none = a.OrNone (plain (codes "int"))

-- `def f(n: int | None)`
abbrev pub Optional : Type 0
Optional = call_tests (module_of (given (annotated_as (codes "n") an_int_or_none ∷ []))) ≡ test_of (none_step ∷ step.Function (f 0) (0 ∷ []) ∷ []) ∷ []

-- `class A` with `__init__(self, n: int)` and `m(self, n: int)`; `class B` with `__init__(self, a: A)`: an instance of `A` is made for the method, and one for `B`
abbrev pub Instances : Type 0
Instances =
    call_tests (module_of (item.Class (class (codes "A") None (init (annotated_as (codes "n") (plain (codes "int")) ∷ [])
    ∷ member.Func (func (codes "m") (self ∷ annotated_as (codes "n") (plain (codes "int")) ∷ [])) ∷ []))
    ∷ item.Class (class (codes "B") None (init (annotated_as (codes "a") (plain (codes "A")) ∷ []) ∷ [])) ∷ []))
    ≡ test_of (zero_step ∷ step.Construct 0 (0 ∷ []) ∷ [])
    ∷ test_of (zero_step ∷ step.Construct 0 (0 ∷ []) ∷ zero_step ∷ step.Method 1 (codes "m") (2 ∷ []) ∷ [])
    ∷ test_of (zero_step ∷ step.Construct 0 (0 ∷ []) ∷ step.Construct 1 (1 ∷ []) ∷ [])
    ∷ []

-- `class C` with `__init__(self, c: C)`: the instance at depth 2 has None
abbrev pub OfItself : Type 0
OfItself =
    call_tests (module_of (item.Class (class (codes "C") None (init (annotated_as (codes "c") (plain (codes "C")) ∷ []) ∷ [])) ∷ []))
    ≡ test_of (none_step ∷ step.Construct 0 (0 ∷ []) ∷ step.Construct 0 (1 ∷ []) ∷ step.Construct 0 (2 ∷ []) ∷ step.Construct 0 (3 ∷ []) ∷ []) ∷ []

-- `class _P` is no callable: `def f(p: _P)` is given None
abbrev pub Private : Type 0
Private =
    call_tests (module_of (item.Class (class (codes "_P") None []) ∷ item.Func (func (codes "f") (annotated_as (codes "p") (plain (codes "_P")) ∷ [])) ∷ []))
    ≡ test_of (none_step ∷ step.Function (f 0) (0 ∷ []) ∷ []) ∷ []
