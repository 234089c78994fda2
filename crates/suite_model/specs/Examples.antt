-- Worked examples of types, callables, well-formed tests and their statements.
use Rattle.std.specs.Prelude.{◌≡◌, ℕ, pos, negsuc, true, false, List, [], ◌∷◌, map, Option, None, Some, codes}
use Rattle.pyn_base.specs.declared.class.BuiltClass.TheVariants.{ValueError}
use Rattle.pyn_base.specs.declared.class.ClassId.TheVariants.{Built, Own}
use Rattle.pyn_base.specs.declared.ids.FuncId.{FuncId}
use Rattle.py_syntax.specs.declared.expr.Args.{roll-Args}
use Rattle.py_syntax.specs.declared.expr.Expr.{Expr}
use Rattle.py_syntax.specs.declared.expr.ExprKind.{ExprKind}
use Rattle.py_syntax.specs.declared.expr.ExprKind.TheVariants as x
use Rattle.py_syntax.specs.declared.module.Class.{Class}
use Rattle.py_syntax.specs.declared.module.Func.{Func}
use Rattle.py_syntax.specs.declared.module.Item.TheVariants as item
use Rattle.py_syntax.specs.declared.module.Member.{Member}
use Rattle.py_syntax.specs.declared.module.Member.TheVariants as member
use Rattle.py_syntax.specs.declared.module.Module.{Module}
use Rattle.py_syntax.specs.declared.module.Param.{Param}
use Rattle.py_syntax.specs.declared.operator.CmpOp.TheVariants.{Eq, Same}
use Rattle.py_syntax.specs.declared.operator.Sign.TheVariants.{Minus}
use Rattle.py_syntax.specs.declared.stmt.Annotation.{Annotation}
use Rattle.py_syntax.specs.declared.stmt.Annotation.TheVariants as a
use Rattle.py_syntax.specs.declared.stmt.Stmt.{Stmt}
use Rattle.py_syntax.specs.declared.stmt.StmtKind.TheVariants as y
use Rattle.py_syntax.specs.declared.stmt.Target.TheVariants as target
use Rattle.py_plain.specs.Program.{Program, program_of}
use Rattle.suite_model.specs.declared.callable.Callable.TheVariants as callable
use Rattle.suite_model.specs.declared.test.Primitive.TheVariants as prim
use Rattle.suite_model.specs.declared.test.Step.{Step}
use Rattle.suite_model.specs.declared.test.Step.TheVariants as step
use Rattle.suite_model.specs.declared.test.Test.{Test}
use Rattle.suite_model.specs.declared.suite.Assert.{Assert}
use Rattle.suite_model.specs.declared.suite.Shown.{Shown}
use Rattle.suite_model.specs.declared.suite.Shown.TheVariants as shown
use Rattle.suite_model.specs.declared.suite.Subject.{Subject}
use Rattle.suite_model.specs.declared.suite.Subject.TheVariants.{Whole, Attr}
use Rattle.suite_model.specs.declared.suite.Wants.{Wants}
use Rattle.suite_model.specs.declared.suite.Wants.TheVariants.{Is, Equals, Kind}
use Rattle.suite_model.specs.declared.ty.Ty.TheVariants as ty
use Rattle.suite_model.specs.Assertions.{assertion}
use Rattle.suite_model.specs.Callables.{callables_of}
use Rattle.suite_model.specs.Statements.{statements_of}
use Rattle.suite_model.specs.Types.{annotated, fits}
use Rattle.suite_model.specs.WellFormed.{types_of, is_well_formed}

-- ---- a module:
--
--     class A:
--         def __init__(self, n: int):
--             pass
--         def m(self):
--             pass
--         def _p(self):
--             pass
--     class B(A):
--         pass
--     def f(a: A, n: int = 0):
--         pass

abbrev pub param : List ℕ → Option Annotation → Param
param name annotation = record { name = name; annotation = annotation; default = None; line = 1 }

abbrev pub plain : List ℕ → Annotation
plain name = a.Named name []

abbrev pub func : List ℕ → List Param → Func
func name params = record { node = record { 0 = 0 }; name = name; line = 1; params = params; returns = None; body = [] }

abbrev pub self : Param
self = param (codes "self") None

abbrev pub an_int : Param
an_int = param (codes "n") (Some (plain (codes "int")))

abbrev pub class : List ℕ → Option (List ℕ) → List Member → Class
class name base members = record { name = name; base = base; line = 1; members = members }

abbrev pub class_a : Class
class_a = class (codes "A") None (member.Func (func (codes "__init__") (self ∷ an_int ∷ [])) ∷ member.Func (func (codes "m") (self ∷ [])) ∷ member.Func (func (codes "_p") (self ∷ [])) ∷ [])

abbrev pub sample : Module
sample = record {
  items = item.Class class_a ∷ item.Class (class (codes "B") (Some (codes "A")) []) ∷ item.Func (func (codes "f") (param (codes "a") (Some (plain (codes "A"))) ∷ an_int ∷ [])) ∷ [];
  future = false;
  nodes = 4;
}

abbrev pub program : Program
program = program_of sample

abbrev pub f : ℕ → FuncId
f n = record { 0 = n }

-- `List[int]`, `"B" | None`, `Optional[str]`, `ValueError`, `Sequence[int]`, `dict`
abbrev pub Annotations : Type 0
Annotations =
    map (annotated program.classes) (a.Named (codes "List") (plain (codes "int") ∷ []) ∷ a.OrNone (a.Quoted (plain (codes "B")))
    ∷ a.Named (codes "Optional") (plain (codes "str") ∷ []) ∷ plain (codes "ValueError") ∷ a.Named (codes "Sequence") (plain (codes "int") ∷ []) ∷ plain (codes "dict") ∷ [])
    ≡ ty.List ty.Int ∷ ty.OrNone (ty.Class (Own 1)) ∷ ty.OrNone ty.Str ∷ ty.Class (Built ValueError) ∷ ty.Any ∷ ty.Dict ty.Any ty.Any ∷ []

-- what serves for `int`: a truth value does, a text doesn't
abbrev pub Integers : Type 0
Integers = map (λ given. fits program given ty.Int) (ty.Int ∷ ty.Bool ∷ ty.Str ∷ ty.Any ∷ []) ≡ true ∷ true ∷ false ∷ false ∷ []

-- `B` is derived from `A`, and not the other way round
abbrev pub Derived : Type 0
Derived = map (λ given. fits program given (ty.OrNone (ty.Class (Own 0)))) (ty.Class (Own 1) ∷ ty.NoneType ∷ ty.OrNone (ty.Class (Own 0)) ∷ ty.OrNone (ty.Class (Own 1)) ∷ ty.Int ∷ [])
    ≡ true ∷ true ∷ true ∷ false ∷ false ∷ []

-- the two classes, `m` and `f`; neither `__init__` nor `_p`
abbrev pub Called : Type 0
Called = callables_of sample ≡ callable.Constructor 0 ∷ callable.Method 0 (f 1) ∷ callable.Constructor 1 ∷ callable.Function (f 3) ∷ []

-- ---- a test: `var_0 = -1`, `var_1 = module_0.B(var_0)`, `var_2 = var_1.m()`, `var_3 = module_0.f(var_1, var_0)`

abbrev pub test_of : List Step → Test
test_of steps = record { steps = steps }

abbrev pub minus_one : Step
minus_one = step.Prim (prim.Int (negsuc 0))

abbrev pub a_test : Test
a_test = test_of (minus_one ∷ step.Construct 1 (0 ∷ []) ∷ step.Method 1 (codes "m") [] ∷ step.Function (f 3) (1 ∷ 0 ∷ []) ∷ [])

-- A call whose function says nothing of its result gives a value of which nothing is known.
abbrev pub TypesOfSteps : Type 0
TypesOfSteps = types_of program a_test ≡ ty.Int ∷ ty.Class (Own 1) ∷ ty.Any ∷ ty.Any ∷ []

-- that test; one with an argument of a wrong type; one with too few; one that names a later variable; None, which serves everywhere
abbrev pub WellFormed : Type 0
WellFormed =
    map (is_well_formed sample)
    (a_test ∷ test_of (minus_one ∷ step.Function (f 3) (0 ∷ 0 ∷ []) ∷ []) ∷ test_of (minus_one ∷ step.Construct 0 [] ∷ [])
    ∷ test_of (step.ListOf (0 ∷ []) ∷ []) ∷ test_of (step.Prim prim.None ∷ step.Function (f 3) (0 ∷ 0 ∷ []) ∷ []) ∷ [])
    ≡ true ∷ false ∷ false ∷ false ∷ true ∷ []

abbrev pub e : ExprKind → Expr
e kind = record { node = record { 0 = 0 }; line = 1; kind = kind }

abbrev pub assign : List ℕ → Expr → Stmt
assign name value = record { node = record { 0 = 0 }; line = 1; kind = y.Assign (target.Name name ∷ []) false None value }

abbrev pub read : List ℕ → Expr
read name = e (x.Name name)

abbrev pub call : List ℕ → List ℕ → List Expr → Expr
call of name args = e (x.Method (read of) name (roll-Args record { plain = args; named = [] }))

abbrev pub Spelled : Type 0
Spelled =
    statements_of program a_test
    ≡ assign (codes "var_0") (e (x.Unary Minus (e (x.IntLit (pos 1)))))
    ∷ assign (codes "var_1") (call (codes "module_0") (codes "B") (read (codes "var_0") ∷ []))
    ∷ assign (codes "var_2") (call (codes "var_1") (codes "m") [])
    ∷ assign (codes "var_3") (call (codes "module_0") (codes "f") (read (codes "var_1") ∷ read (codes "var_0") ∷ []))
    ∷ []

-- ---- assertions: `assert var_0 is None`, `assert var_1.size == [1, (2,)]`, `assert isinstance(var_1, module_0.B)`

abbrev pub asserts : Subject → Wants → Assert
asserts subject wants = record { after = 0; line = 1; subject = subject; wants = wants }

abbrev pub assert : Expr → Stmt
assert condition = record { node = record { 0 = 0 }; line = 1; kind = y.Assert condition None }

abbrev pub number : ℕ → Shown
number k = shown.Prim (prim.Int (pos k))

abbrev pub Asserted : Type 0
Asserted =
    map (assertion program) (asserts (Whole 0) (Is prim.None) ∷ asserts (Attr 1 (codes "size")) (Equals (shown.List (number 1 ∷ shown.Tuple (number 2 ∷ []) ∷ []))) ∷ asserts (Whole 1) (Kind (Own 1)) ∷ [])
    ≡ assert (e (x.Compare (read (codes "var_0")) ((Same, e x.NoneLit) ∷ [])))
    ∷ assert (e (x.Compare (e (x.Attr (read (codes "var_1")) (codes "size"))) ((Eq, e (x.ListLit (e (x.IntLit (pos 1)) ∷ e (x.TupleLit (e (x.IntLit (pos 2)) ∷ [])) ∷ []))) ∷ [])))
    ∷ assert (e (x.Call (read (codes "isinstance")) (roll-Args record { plain = read (codes "var_1") ∷ e (x.Attr (read (codes "module_0")) (codes "B")) ∷ []; named = [] })))
    ∷ []
