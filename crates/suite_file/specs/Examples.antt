-- Worked examples: the forms of statements, a file with the suite that it is, and files that are refused.
use Rattle.std.specs.Prelude.{◌≡◌, ℕ, ◌+◌, pos, negsuc, true, false, List, [], ◌∷◌, map, Option, None, Some, Result, Ok, Err, codes}
use Rattle.pyn_base.specs.declared.class.BuiltClass.TheVariants.{Int, ValueError}
use Rattle.pyn_base.specs.declared.class.ClassId.TheVariants.{Built, Own}
use Rattle.pyn_base.specs.declared.construct.Construct.{Construct}
use Rattle.pyn_base.specs.declared.construct.Construct.TheVariants.{Header, TestName, Form, UnknownName}
use Rattle.py_syntax.specs.declared.expr.Args.{roll-Args}
use Rattle.py_syntax.specs.declared.expr.Expr.{Expr}
use Rattle.py_syntax.specs.declared.expr.ExprKind.{ExprKind}
use Rattle.py_syntax.specs.declared.expr.ExprKind.TheVariants as x
use Rattle.py_syntax.specs.declared.module.Func.{Func}
use Rattle.py_syntax.specs.declared.module.Item.{Item}
use Rattle.py_syntax.specs.declared.module.Item.TheVariants as item
use Rattle.py_syntax.specs.declared.module.Member.{Member}
use Rattle.py_syntax.specs.declared.module.Member.TheVariants as member
use Rattle.py_syntax.specs.declared.module.Module.{Module}
use Rattle.py_syntax.specs.declared.operator.CmpOp.TheVariants.{Eq, Same}
use Rattle.py_syntax.specs.declared.operator.Sign.TheVariants.{Minus}
use Rattle.py_syntax.specs.declared.refusal.Refusal.{Refusal}
use Rattle.py_syntax.specs.declared.refusal.Refusal.TheVariants.{Refused}
use Rattle.py_syntax.specs.declared.stmt.Stmt.{Stmt}
use Rattle.py_syntax.specs.declared.stmt.StmtKind.{StmtKind}
use Rattle.py_syntax.specs.declared.stmt.StmtKind.TheVariants as y
use Rattle.py_syntax.specs.declared.stmt.Target.TheVariants as target
use Rattle.py_plain.specs.Program.{Program, program_of}
use Rattle.suite_model.specs.declared.suite.Shown.TheVariants as shown
use Rattle.suite_model.specs.declared.suite.Subject.TheVariants.{Whole, Attr}
use Rattle.suite_model.specs.declared.suite.Suite.{Suite}
use Rattle.suite_model.specs.declared.suite.Wants.TheVariants as wants
use Rattle.suite_model.specs.declared.test.Primitive.TheVariants as prim
use Rattle.suite_model.specs.declared.test.Step.TheVariants as step
use Rattle.suite_file.specs.declared.file.FileStmt.{FileStmt}
use Rattle.suite_file.specs.declared.file.FileStmt.TheVariants.{Plain, Raises}
use Rattle.suite_file.specs.declared.file.FileTest.{FileTest}
use Rattle.suite_file.specs.declared.file.SuiteFile.{SuiteFile}
use Rattle.suite_file.specs.declared.spelled.Asked.TheVariants as asked
use Rattle.suite_file.specs.declared.spelled.Named.TheVariants as named
use Rattle.suite_file.specs.declared.spelled.Right.TheVariants as right
use Rattle.suite_file.specs.declared.spelled.Spelled.TheVariants as spelled
use Rattle.suite_file.specs.Spelled.{spelled_in}
use Rattle.suite_file.specs.SuiteOf.{suite_of}

-- ---- trees

abbrev pub e : ExprKind → Expr
e kind = record { node = record { 0 = 0 }; line = 1; kind = kind }

abbrev pub read : List ℕ → Expr
read name = e (x.Name name)

abbrev pub var_0 : Expr
var_0 = read (codes "var_0")

abbrev pub var_1 : Expr
var_1 = read (codes "var_1")

abbrev pub number : ℕ → Expr
number n = e (x.IntLit (pos n))

abbrev pub minus : Expr → Expr
minus of = e (x.Unary Minus of)

abbrev pub call : Expr → List ℕ → List Expr → Expr
call of name args = e (x.Method of name (roll-Args record { plain = args; named = [] }))

abbrev pub of_module : List ℕ → List Expr → Expr
of_module name args = call (read (codes "module_0")) name args

abbrev pub module_class : List ℕ → Expr
module_class name = e (x.Attr (read (codes "module_0")) name)

abbrev pub is_instance : Expr → Expr → Expr
is_instance subject class = e (x.Call (read (codes "isinstance")) (roll-Args record { plain = subject ∷ class ∷ []; named = [] }))

abbrev pub is : Expr → Expr → Expr
is a b = e (x.Compare a ((Same, b) ∷ []))

abbrev pub equals : Expr → Expr → Expr
equals a b = e (x.Compare a ((Eq, b) ∷ []))

abbrev pub stmt : ℕ → StmtKind → Stmt
stmt line kind = record { node = record { 0 = 0 }; line = line; kind = kind }

abbrev pub assign : List ℕ → Expr → StmtKind
assign name value = y.Assign (target.Name name ∷ []) false None value

abbrev pub assert : Expr → StmtKind
assert condition = y.Assert condition None

-- ---- the forms

-- `var_0 = -1`, `var_1 = "a"`, `var_2 = [var_0, var_1]`, `var_3 = {var_1: var_0}`, `var_4 = module_0.Box(var_0)`, `var_10 = var_0.m()`
abbrev pub Steps : Type 0
Steps =
    map (λ kind. spelled_in (stmt 1 kind))
    (assign (codes "var_0") (minus (number 1)) ∷ assign (codes "var_1") (e (x.StrLit (codes "a"))) ∷ assign (codes "var_2") (e (x.ListLit (var_0 ∷ var_1 ∷ [])))
    ∷ assign (codes "var_3") (e (x.DictLit ((var_1, var_0) ∷ []))) ∷ assign (codes "var_4") (of_module (codes "Box") (var_0 ∷ [])) ∷ assign (codes "var_10") (call var_0 (codes "m") []) ∷ [])
    ≡ Some (spelled.Assigns 0 (right.Prim (prim.Int (negsuc 0)))) ∷ Some (spelled.Assigns 1 (right.Prim (prim.Str (codes "a")))) ∷ Some (spelled.Assigns 2 (right.ListOf (0 ∷ 1 ∷ [])))
    ∷ Some (spelled.Assigns 3 (right.DictOf ((1, 0) ∷ []))) ∷ Some (spelled.Assigns 4 (right.OfModule (codes "Box") (0 ∷ []))) ∷ Some (spelled.Assigns 10 (right.Method 0 (codes "m") [])) ∷ []

-- `assert var_0 is True`, `assert var_0.n == [-1, (1,), {"b": None}]`, `assert isinstance(var_1, module_0.Box)`, `assert isinstance(var_0, int)`
abbrev pub Assertions : Type 0
Assertions =
    map (λ condition. spelled_in (stmt 1 (assert condition)))
    (is var_0 (e (x.BoolLit true))
    ∷ equals (e (x.Attr var_0 (codes "n"))) (e (x.ListLit (minus (number 1) ∷ e (x.TupleLit (number 1 ∷ [])) ∷ e (x.DictLit ((e (x.StrLit (codes "b")), e x.NoneLit) ∷ [])) ∷ [])))
    ∷ is_instance var_1 (module_class (codes "Box")) ∷ is_instance var_0 (read (codes "int")) ∷ [])
    ≡ Some (spelled.Asserts (Whole 0) (asked.Is (prim.Bool true)))
    ∷ Some (spelled.Asserts (Attr 0 (codes "n")) (asked.Equals (shown.List (shown.Prim (prim.Int (negsuc 0)) ∷ shown.Tuple (shown.Prim (prim.Int (pos 1)) ∷ []) ∷ shown.Dict ((shown.Prim (prim.Str (codes "b")), shown.Prim prim.None) ∷ []) ∷ []))))
    ∷ Some (spelled.Asserts (Whole 1) (asked.Kind (named.OfModule (codes "Box")))) ∷ Some (spelled.Asserts (Whole 0) (asked.Kind (named.Bare (codes "int")))) ∷ []

abbrev pub with_keyword : Expr
with_keyword = e (x.Method (read (codes "module_0")) (codes "put") (roll-Args record { plain = []; named = (codes "n", var_0) ∷ [] }))

-- `var_00 = 1`, `a = 1`, `var_0 = -0`, `var_0 = --1`, `var_0 = [1]`, `var_0 = module_0.put(n=var_0)`, `var_0`, `assert var_0 is 1`, `assert var_0 == -0`,
-- `assert var_0 == 1, "m"`, `assert 1 == 1`
abbrev pub Others : Type 0
Others =
    map (λ kind. spelled_in (stmt 1 kind))
    (assign (codes "var_00") (number 1) ∷ assign (codes "a") (number 1) ∷ assign (codes "var_0") (minus (number 0)) ∷ assign (codes "var_0") (minus (minus (number 1)))
    ∷ assign (codes "var_0") (e (x.ListLit (number 1 ∷ []))) ∷ assign (codes "var_0") with_keyword ∷ y.Bare var_0 ∷ assert (is var_0 (number 1)) ∷ assert (equals var_0 (minus (number 0)))
    ∷ y.Assert (equals var_0 (number 1)) (Some (e (x.StrLit (codes "m")))) ∷ assert (equals (number 1) (number 1)) ∷ [])
    ≡ None ∷ None ∷ None ∷ None ∷ None ∷ None ∷ None ∷ None ∷ None ∷ None ∷ None ∷ []

-- ---- a module:
--
--     class Full(Exception):
--         def m(self):
--             ..
--     class Box:
--         ..
--     def put(n):
--         ..

abbrev pub func : List ℕ → Func
func name = record { node = record { 0 = 0 }; name = name; line = 1; params = []; returns = None; body = [] }

abbrev pub class : List ℕ → Option (List ℕ) → List Member → Item
class name base members = item.Class record { name = name; base = base; line = 1; members = members }

abbrev pub sample : Module
sample = record {
  items = class (codes "Full") (Some (codes "Exception")) (member.Func (func (codes "m")) ∷ []) ∷ class (codes "Box") None [] ∷ item.Func (func (codes "put")) ∷ [];
  future = false;
  nodes = 2;
}

abbrev pub program : Program
program = program_of sample

-- ---- files

-- a statement on a line
abbrev pub at : ℕ → StmtKind → FileStmt
at line kind = Plain (stmt line kind)

-- `with pytest.raises(CLASS):` on a line, and a statement on the next one
abbrev pub raises : ℕ → Expr → StmtKind → Option ℕ → FileStmt
raises line class kind more = Raises line class (stmt (line + 1) kind) more

abbrev pub test_at : ℕ → List ℕ → List FileStmt → FileTest
test_at line name body = record { name = name; line = line; is_bare = true; body = body }

abbrev pub file_of : List FileTest → SuiteFile
file_of tests = record { «module» = codes "box"; tests = tests; strays = [] }

-- one test, on line 5
abbrev pub single : List FileStmt → SuiteFile
single body = file_of (test_at 5 (codes "test_case_0") body ∷ [])

abbrev pub puts : Expr
puts = of_module (codes "put") (var_0 ∷ [])

-- `var_0 = -1`, `assert var_0 == -1`, `var_1 = module_0.Box(var_0)`, `assert isinstance(var_1, module_0.Box)`, `var_2 = module_0.put(var_0)`, `assert var_2 is None`
abbrev pub with_assertions : FileTest
with_assertions =
    test_at 5 (codes "test_case_0")
    (at 6 (assign (codes "var_0") (minus (number 1))) ∷ at 7 (assert (equals var_0 (minus (number 1)))) ∷ at 8 (assign (codes "var_1") (of_module (codes "Box") (var_0 ∷ [])))
    ∷ at 9 (assert (is_instance var_1 (module_class (codes "Box")))) ∷ at 10 (assign (codes "var_2") puts) ∷ at 11 (assert (is (read (codes "var_2")) (e x.NoneLit))) ∷ [])

-- `var_0 = True`, `with pytest.raises(ValueError):` and `module_0.put(var_0)`, `assert isinstance(var_0, int)`
abbrev pub with_block : FileTest
with_block =
    test_at 14 (codes "test_case_1")
    (at 15 (assign (codes "var_0") (e (x.BoolLit true))) ∷ raises 16 (read (codes "ValueError")) (y.Bare puts) None ∷ at 18 (assert (is_instance var_0 (read (codes "int")))) ∷ [])

abbrev pub suite : Suite
suite = record {
  «module» = codes "box";
  cases =
      record {
        line = 5;
        test = record { steps = step.Prim (prim.Int (negsuc 0)) ∷ step.Construct 1 (0 ∷ []) ∷ step.Function record { 0 = 1 } (0 ∷ []) ∷ [] };
        lines = 6 ∷ 8 ∷ 10 ∷ [];
        raises = None;
        asserts =
            record { after = 0; line = 7; subject = Whole 0; wants = wants.Equals (shown.Prim (prim.Int (negsuc 0))) }
            ∷ record { after = 1; line = 9; subject = Whole 1; wants = wants.Kind (Own 1) }
            ∷ record { after = 2; line = 11; subject = Whole 2; wants = wants.Is prim.None } ∷ [];
      }
      ∷ record {
        line = 14;
        test = record { steps = step.Prim (prim.Bool true) ∷ step.Function record { 0 = 1 } (0 ∷ []) ∷ [] };
        lines = 15 ∷ 17 ∷ [];
        raises = Some (16, Built ValueError);
        asserts = record { after = 1; line = 18; subject = Whole 0; wants = wants.Kind (Built Int) } ∷ [];
      }
      ∷ [];
}

abbrev pub Read : Type 0
Read = suite_of program (file_of (with_assertions ∷ with_block ∷ [])) ≡ Ok suite

-- ---- refusals

abbrev pub refused : ℕ → Construct → Result Suite Refusal
refused line construct = Err (Refused line construct)

abbrev pub one : StmtKind
one = assign (codes "var_0") (number 1)

abbrev pub full : Option ℕ → FileStmt
full more = raises 7 (module_class (codes "Full")) (y.Bare puts) more

-- no imports; another test's name; parameters; something else in the file; a test without a step
abbrev pub Headers : Type 0
Headers =
    map (suite_of program)
    (record { «module» = []; tests = []; strays = 3 ∷ [] } ∷ file_of (test_at 5 (codes "test_case_1") (at 6 one ∷ []) ∷ [])
    ∷ file_of (record { name = codes "test_case_0"; line = 5; is_bare = false; body = at 6 one ∷ [] } ∷ []) ∷ record { «module» = codes "box"; tests = []; strays = 3 ∷ 4 ∷ [] }
    ∷ single (at 6 y.Pass ∷ []) ∷ [])
    ≡ refused 1 Header ∷ refused 5 TestName ∷ refused 5 Form ∷ refused 3 Form ∷ refused 5 Form ∷ []

-- after `var_0 = 1`: `var_1 = -0`, `assert var_0 == 1, "m"`, `var_1 = module_0.put(n=var_0)`
abbrev pub Lines : Type 0
Lines =
    map (λ kind. suite_of program (single (at 6 one ∷ at 7 kind ∷ [])))
    (assign (codes "var_1") (minus (number 0)) ∷ y.Assert (equals var_0 (number 1)) (Some (e (x.StrLit (codes "m")))) ∷ assign (codes "var_1") with_keyword ∷ [])
    ≡ refused 7 Form ∷ refused 7 Form ∷ refused 7 Form ∷ []

-- a step of another number; a step, and a second block, after a block; a second statement in a block, and one that is no step; a class of no form
abbrev pub Forms : Type 0
Forms =
    map (λ body. suite_of program (single body))
    ((at 6 (assign (codes "var_1") (number 1)) ∷ []) ∷ (at 6 one ∷ full None ∷ at 9 (assign (codes "var_1") (number 1)) ∷ []) ∷ (at 6 one ∷ full None ∷ raises 9 (module_class (codes "Full")) (y.Bare puts) None ∷ [])
    ∷ (at 6 one ∷ full (Some 9) ∷ []) ∷ (at 6 one ∷ raises 7 (module_class (codes "Full")) y.Pass None ∷ []) ∷ (at 6 one ∷ raises 7 (number 1) (y.Bare puts) None ∷ []) ∷ [])
    ≡ refused 6 Form ∷ refused 9 Form ∷ refused 9 Form ∷ refused 9 Form ∷ refused 8 Form ∷ refused 7 Form ∷ []

-- a variable that isn't bound, and that of a block; a method, and a name that isn't there, called as a function; a function as a class; a name that no class
-- has; a class that is no exception
abbrev pub Unknown : Type 0
Unknown =
    map (λ body. suite_of program (single body))
    ((at 6 (assign (codes "var_0") (e (x.ListLit (var_0 ∷ [])))) ∷ []) ∷ (at 6 one ∷ full None ∷ at 9 (assert (is var_1 (e x.NoneLit))) ∷ [])
    ∷ (at 6 (assign (codes "var_0") (of_module (codes "m") [])) ∷ []) ∷ (at 6 (assign (codes "var_0") (of_module (codes "get") [])) ∷ [])
    ∷ (at 6 one ∷ at 7 (assert (is_instance var_0 (module_class (codes "put")))) ∷ []) ∷ (at 6 one ∷ at 7 (assert (is_instance var_0 (read (codes "Thing")))) ∷ [])
    ∷ (at 6 one ∷ raises 7 (module_class (codes "Box")) (y.Bare puts) None ∷ []) ∷ [])
    ≡ refused 6 UnknownName ∷ refused 9 UnknownName ∷ refused 6 UnknownName ∷ refused 6 UnknownName ∷ refused 7 UnknownName ∷ refused 7 UnknownName ∷ refused 7 UnknownName ∷ []

-- two faults on one line; and on two lines, of which the lesser is told though it comes later
abbrev pub Earliest : Type 0
Earliest =
    map (λ body. suite_of program (single body))
    ((at 6 (assign (codes "var_0") (of_module (codes "get") [])) ∷ at 6 (assign (codes "var_2") (number 1)) ∷ [])
    ∷ (at 7 (assign (codes "var_1") (number 1)) ∷ at 6 (assign (codes "var_1") (of_module (codes "get") [])) ∷ []) ∷ [])
    ≡ refused 6 Form ∷ refused 6 UnknownName ∷ []
