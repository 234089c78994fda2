-- Worked examples of names and scopes (Language Reference 4.2): what a statement of a test means, with its end, variables, objects, trail and steps left.
use Rattle.py_meaning.specs.Examples.{id}
use Rattle.py_meaning.specs.Tuples.{tuple}
use Rattle.py_meaning.specs.Worlds.{World, Attributes}
use Rattle.py_meaning.specs.declared.object.Object.TheVariants as object
use Rattle.py_meaning.specs.declared.value.Value.TheVariants as v
use Rattle.py_plain.specs.Examples.{e, s, node, args, param, func, func_id, began}
use Rattle.py_plain.specs.Program.{Function, Program}
use Rattle.py_plain.specs.Statements.{means}
use Rattle.py_plain.specs.Tests.{Trail, recorder, Decided}
use Rattle.py_plain.specs.declared.judged.Judged.TheVariants as j
use Rattle.py_plain.specs.declared.run.Abrupt.TheVariants.{Raised, Left}
use Rattle.py_plain.specs.declared.state.State.{State}
use Rattle.py_syntax.specs.declared.expr.Expr.{Expr}
use Rattle.py_syntax.specs.declared.expr.ExprKind.TheVariants as x
use Rattle.py_syntax.specs.declared.stmt.Stmt.{Stmt}
use Rattle.py_syntax.specs.declared.stmt.StmtKind.TheVariants as y
use Rattle.py_syntax.specs.declared.stmt.Target.TheVariants as target
use Rattle.pyn_base.specs.declared.class.BuiltClass.TheVariants as built
use Rattle.pyn_base.specs.declared.class.ClassId.TheVariants.{Built}
use Rattle.pyn_base.specs.declared.construct.Construct.TheVariants as construct
use Rattle.pyn_base.specs.declared.ids.FuncId.{FuncId}
use Rattle.pyn_base.specs.declared.ids.ObjId.{ObjId}
use Rattle.std.proofs.Common.{◌≡◌, ℕ}
use Rattle.std.specs.Prelude.{pos, false, List, [], ◌∷◌, Option, Some, None, Ok, Err, codes, negsuc}

-- test reads the module:
--
--     C = 3
--
abbrev pub test_reads_the_module_t1 : Expr
test_reads_the_module_t1 = e 0 (x.Name (codes "module_0"))

abbrev pub test_reads_the_module_t2 : Expr
test_reads_the_module_t2 = e 0 (x.Attr test_reads_the_module_t1 (codes "C"))

abbrev pub test_reads_the_module_t3 : Stmt
test_reads_the_module_t3 = s 0 (y.Assign ((target.Name (codes "var_0")) ∷ []) false None test_reads_the_module_t2)

abbrev pub test_reads_the_module_t4 : Stmt
test_reads_the_module_t4 = s 0 (y.Assign ((target.Name (codes "var_1")) ∷ []) false None test_reads_the_module_t1)

abbrev pub program_test_reads_the_module : Program
program_test_reads_the_module = record { functions = []; classes = []; bindings = [] }

abbrev pub state_test_reads_the_module : Option FuncId → Attributes → List ObjId → World → ℕ → ℕ → Trail → State World Trail
state_test_reads_the_module function variables handled objects depth left seen = record { frame = record { function = function; variables = variables; handled = handled }; space = record { names = (((codes "C"), (v.Int (pos 3))) ∷ []); defaults = []; constants = [] }; objects = objects; depth = depth; left = left; seen = seen }

-- var_0 = module_0.C
abbrev pub TestReadsTheModule0 : Type 0
TestReadsTheModule0 = means recorder program_test_reads_the_module test_reads_the_module_t3 (state_test_reads_the_module None [] [] [] 0 300 []) ≡ ((Ok (v.None, (j.Plain false))), (state_test_reads_the_module None (((codes "var_0"), (v.Int (pos 3))) ∷ []) [] [] 0 297 []))

-- var_1 = module_0
abbrev pub TestReadsTheModule1 : Type 0
TestReadsTheModule1 = means recorder program_test_reads_the_module test_reads_the_module_t4 (state_test_reads_the_module None (((codes "var_0"), (v.Int (pos 3))) ∷ []) [] [] 0 300 []) ≡ ((Ok (v.None, (j.Plain false))), (state_test_reads_the_module None (((codes "var_0"), (v.Int (pos 3))) ∷ ((codes "var_1"), v.ModuleRef) ∷ []) [] [] 0 298 []))

-- constant:
--
--     C = 5
--     D = -3
--     E = (5, -3, 'x')
--     def f():
--         return C
--
abbrev pub constant_n2 : Expr
constant_n2 = e 2 (x.Name (codes "C"))

abbrev pub constant_n1 : Stmt
constant_n1 = s 1 (y.Return (Some constant_n2))

abbrev pub constant_t1 : Expr
constant_t1 = e 0 (x.Name (codes "module_0"))

abbrev pub constant_t2 : Expr
constant_t2 = e 0 (x.Method constant_t1 (codes "f") (args [] []))

abbrev pub constant_t3 : Stmt
constant_t3 = s 0 (y.Assign ((target.Name (codes "var_8")) ∷ []) false None constant_t2)

abbrev pub function_constant_0 : Function
function_constant_0 = record { tree = (func 0 (codes "f") [] (constant_n1 ∷ [])); owner = None; locals = [] }

abbrev pub program_constant : Program
program_constant = record { functions = (function_constant_0 ∷ []); classes = []; bindings = [] }

abbrev pub state_constant : Option FuncId → Attributes → List ObjId → World → ℕ → ℕ → Trail → State World Trail
state_constant function variables handled objects depth left seen = record { frame = record { function = function; variables = variables; handled = handled }; space = record { names = (((codes "C"), (v.Int (pos 5))) ∷ ((codes "D"), (v.Int (negsuc 2))) ∷ ((codes "E"), (tuple ((v.Int (pos 5)) ∷ (v.Int (negsuc 2)) ∷ (v.Str (codes "x")) ∷ []))) ∷ ((codes "f"), (v.Func (func_id 0))) ∷ []); defaults = ([] ∷ []); constants = [] }; objects = objects; depth = depth; left = left; seen = seen }

-- var_8 = module_0.f()
abbrev pub Constant0 : Type 0
Constant0 = means recorder program_constant constant_t3 (state_constant None [] [] [] 0 300 []) ≡ ((Ok (v.None, (j.Plain false))), (state_constant None (((codes "var_8"), (v.Int (pos 5))) ∷ []) [] [] 0 294 (began 0 ∷ began 1 ∷ began 2 ∷ [])))

-- builtin value:
--
--     def f():
--         x = len
--         return x
--
abbrev pub builtin_value_n2 : Expr
builtin_value_n2 = e 2 (x.Name (codes "len"))

abbrev pub builtin_value_n1 : Stmt
builtin_value_n1 = s 1 (y.Assign ((target.Name (codes "x")) ∷ []) false None builtin_value_n2)

abbrev pub builtin_value_n4 : Expr
builtin_value_n4 = e 4 (x.Name (codes "x"))

abbrev pub builtin_value_n3 : Stmt
builtin_value_n3 = s 3 (y.Return (Some builtin_value_n4))

abbrev pub builtin_value_t1 : Expr
builtin_value_t1 = e 0 (x.Name (codes "module_0"))

abbrev pub builtin_value_t2 : Expr
builtin_value_t2 = e 0 (x.Method builtin_value_t1 (codes "f") (args [] []))

abbrev pub builtin_value_t3 : Stmt
builtin_value_t3 = s 0 (y.Assign ((target.Name (codes "var_8")) ∷ []) false None builtin_value_t2)

abbrev pub function_builtin_value_0 : Function
function_builtin_value_0 = record { tree = (func 0 (codes "f") [] (builtin_value_n1 ∷ builtin_value_n3 ∷ [])); owner = None; locals = ((codes "x") ∷ []) }

abbrev pub program_builtin_value : Program
program_builtin_value = record { functions = (function_builtin_value_0 ∷ []); classes = []; bindings = [] }

abbrev pub state_builtin_value : Option FuncId → Attributes → List ObjId → World → ℕ → ℕ → Trail → State World Trail
state_builtin_value function variables handled objects depth left seen = record { frame = record { function = function; variables = variables; handled = handled }; space = record { names = (((codes "f"), (v.Func (func_id 0))) ∷ []); defaults = ([] ∷ []); constants = [] }; objects = objects; depth = depth; left = left; seen = seen }

-- var_8 = module_0.f()
abbrev pub BuiltinValue0 : Type 0
BuiltinValue0 = means recorder program_builtin_value builtin_value_t3 (state_builtin_value None [] [] [] 0 300 []) ≡ ((Err (Left construct.BuiltinValue)), (state_builtin_value None [] [] [] 0 294 (began 0 ∷ began 1 ∷ began 2 ∷ [])))

-- function value:
--
--     def g():
--         return 1
--     def f():
--         return g
--
abbrev pub function_value_n2 : Expr
function_value_n2 = e 2 (x.IntLit (pos 1))

abbrev pub function_value_n1 : Stmt
function_value_n1 = s 1 (y.Return (Some function_value_n2))

abbrev pub function_value_n5 : Expr
function_value_n5 = e 5 (x.Name (codes "g"))

abbrev pub function_value_n4 : Stmt
function_value_n4 = s 4 (y.Return (Some function_value_n5))

abbrev pub function_value_t1 : Expr
function_value_t1 = e 0 (x.Name (codes "module_0"))

abbrev pub function_value_t2 : Expr
function_value_t2 = e 0 (x.Method function_value_t1 (codes "f") (args [] []))

abbrev pub function_value_t3 : Stmt
function_value_t3 = s 0 (y.Assign ((target.Name (codes "var_8")) ∷ []) false None function_value_t2)

abbrev pub function_function_value_0 : Function
function_function_value_0 = record { tree = (func 0 (codes "g") [] (function_value_n1 ∷ [])); owner = None; locals = [] }

abbrev pub function_function_value_1 : Function
function_function_value_1 = record { tree = (func 3 (codes "f") [] (function_value_n4 ∷ [])); owner = None; locals = [] }

abbrev pub program_function_value : Program
program_function_value = record { functions = (function_function_value_0 ∷ function_function_value_1 ∷ []); classes = []; bindings = [] }

abbrev pub state_function_value : Option FuncId → Attributes → List ObjId → World → ℕ → ℕ → Trail → State World Trail
state_function_value function variables handled objects depth left seen = record { frame = record { function = function; variables = variables; handled = handled }; space = record { names = (((codes "g"), (v.Func (func_id 0))) ∷ ((codes "f"), (v.Func (func_id 1))) ∷ []); defaults = ([] ∷ [] ∷ []); constants = [] }; objects = objects; depth = depth; left = left; seen = seen }

-- var_8 = module_0.f()
abbrev pub FunctionValue0 : Type 0
FunctionValue0 = means recorder program_function_value function_value_t3 (state_function_value None [] [] [] 0 300 []) ≡ ((Ok (v.None, (j.Plain false))), (state_function_value None (((codes "var_8"), (v.Func (func_id 0))) ∷ []) [] [] 0 294 (began 3 ∷ began 4 ∷ began 5 ∷ [])))

-- unbound local:
--
--     def f():
--         x = x
--         return x
--
abbrev pub unbound_local_n2 : Expr
unbound_local_n2 = e 2 (x.Name (codes "x"))

abbrev pub unbound_local_n1 : Stmt
unbound_local_n1 = s 1 (y.Assign ((target.Name (codes "x")) ∷ []) false None unbound_local_n2)

abbrev pub unbound_local_n4 : Expr
unbound_local_n4 = e 4 (x.Name (codes "x"))

abbrev pub unbound_local_n3 : Stmt
unbound_local_n3 = s 3 (y.Return (Some unbound_local_n4))

abbrev pub unbound_local_t1 : Expr
unbound_local_t1 = e 0 (x.Name (codes "module_0"))

abbrev pub unbound_local_t2 : Expr
unbound_local_t2 = e 0 (x.Method unbound_local_t1 (codes "f") (args [] []))

abbrev pub unbound_local_t3 : Stmt
unbound_local_t3 = s 0 (y.Assign ((target.Name (codes "var_8")) ∷ []) false None unbound_local_t2)

abbrev pub function_unbound_local_0 : Function
function_unbound_local_0 = record { tree = (func 0 (codes "f") [] (unbound_local_n1 ∷ unbound_local_n3 ∷ [])); owner = None; locals = ((codes "x") ∷ []) }

abbrev pub program_unbound_local : Program
program_unbound_local = record { functions = (function_unbound_local_0 ∷ []); classes = []; bindings = [] }

abbrev pub state_unbound_local : Option FuncId → Attributes → List ObjId → World → ℕ → ℕ → Trail → State World Trail
state_unbound_local function variables handled objects depth left seen = record { frame = record { function = function; variables = variables; handled = handled }; space = record { names = (((codes "f"), (v.Func (func_id 0))) ∷ []); defaults = ([] ∷ []); constants = [] }; objects = objects; depth = depth; left = left; seen = seen }

-- var_8 = module_0.f()
abbrev pub UnboundLocal0 : Type 0
UnboundLocal0 = means recorder program_unbound_local unbound_local_t3 (state_unbound_local None [] [] [] 0 300 []) ≡ ((Err (Raised (id 0))), (state_unbound_local None [] [] (object.Instance (Built built.UnboundLocalError) [] None ∷ []) 0 294 (began 0 ∷ began 1 ∷ began 2 ∷ [])))

-- local shadows builtin:
--
--     def f():
--         len = 3
--         return len
--
abbrev pub local_shadows_builtin_n2 : Expr
local_shadows_builtin_n2 = e 2 (x.IntLit (pos 3))

abbrev pub local_shadows_builtin_n1 : Stmt
local_shadows_builtin_n1 = s 1 (y.Assign ((target.Name (codes "len")) ∷ []) false None local_shadows_builtin_n2)

abbrev pub local_shadows_builtin_n4 : Expr
local_shadows_builtin_n4 = e 4 (x.Name (codes "len"))

abbrev pub local_shadows_builtin_n3 : Stmt
local_shadows_builtin_n3 = s 3 (y.Return (Some local_shadows_builtin_n4))

abbrev pub local_shadows_builtin_t1 : Expr
local_shadows_builtin_t1 = e 0 (x.Name (codes "module_0"))

abbrev pub local_shadows_builtin_t2 : Expr
local_shadows_builtin_t2 = e 0 (x.Method local_shadows_builtin_t1 (codes "f") (args [] []))

abbrev pub local_shadows_builtin_t3 : Stmt
local_shadows_builtin_t3 = s 0 (y.Assign ((target.Name (codes "var_8")) ∷ []) false None local_shadows_builtin_t2)

abbrev pub function_local_shadows_builtin_0 : Function
function_local_shadows_builtin_0 = record { tree = (func 0 (codes "f") [] (local_shadows_builtin_n1 ∷ local_shadows_builtin_n3 ∷ [])); owner = None; locals = ((codes "len") ∷ []) }

abbrev pub program_local_shadows_builtin : Program
program_local_shadows_builtin = record { functions = (function_local_shadows_builtin_0 ∷ []); classes = []; bindings = [] }

abbrev pub state_local_shadows_builtin : Option FuncId → Attributes → List ObjId → World → ℕ → ℕ → Trail → State World Trail
state_local_shadows_builtin function variables handled objects depth left seen = record { frame = record { function = function; variables = variables; handled = handled }; space = record { names = (((codes "f"), (v.Func (func_id 0))) ∷ []); defaults = ([] ∷ []); constants = [] }; objects = objects; depth = depth; left = left; seen = seen }

-- var_8 = module_0.f()
abbrev pub LocalShadowsBuiltin0 : Type 0
LocalShadowsBuiltin0 = means recorder program_local_shadows_builtin local_shadows_builtin_t3 (state_local_shadows_builtin None [] [] [] 0 300 []) ≡ ((Ok (v.None, (j.Plain false))), (state_local_shadows_builtin None (((codes "var_8"), (v.Int (pos 3))) ∷ []) [] [] 0 292 (began 0 ∷ began 1 ∷ began 2 ∷ began 3 ∷ began 4 ∷ [])))

-- unbound in one branch:
--
--     def f(a):
--         if a:
--             x = 1
--         return x
--
abbrev pub unbound_in_one_branch_n2 : Expr
unbound_in_one_branch_n2 = e 2 (x.Name (codes "a"))

abbrev pub unbound_in_one_branch_n4 : Expr
unbound_in_one_branch_n4 = e 4 (x.IntLit (pos 1))

abbrev pub unbound_in_one_branch_n3 : Stmt
unbound_in_one_branch_n3 = s 3 (y.Assign ((target.Name (codes "x")) ∷ []) false None unbound_in_one_branch_n4)

abbrev pub unbound_in_one_branch_n1 : Stmt
unbound_in_one_branch_n1 = s 1 (y.If ((unbound_in_one_branch_n2, (unbound_in_one_branch_n3 ∷ [])) ∷ []) None)

abbrev pub unbound_in_one_branch_n6 : Expr
unbound_in_one_branch_n6 = e 6 (x.Name (codes "x"))

abbrev pub unbound_in_one_branch_n5 : Stmt
unbound_in_one_branch_n5 = s 5 (y.Return (Some unbound_in_one_branch_n6))

abbrev pub unbound_in_one_branch_t1 : Expr
unbound_in_one_branch_t1 = e 0 (x.Name (codes "module_0"))

abbrev pub unbound_in_one_branch_t2 : Expr
unbound_in_one_branch_t2 = e 0 (x.IntLit (pos 0))

abbrev pub unbound_in_one_branch_t3 : Expr
unbound_in_one_branch_t3 = e 0 (x.Method unbound_in_one_branch_t1 (codes "f") (args (unbound_in_one_branch_t2 ∷ []) []))

abbrev pub unbound_in_one_branch_t4 : Stmt
unbound_in_one_branch_t4 = s 0 (y.Assign ((target.Name (codes "var_8")) ∷ []) false None unbound_in_one_branch_t3)

abbrev pub function_unbound_in_one_branch_0 : Function
function_unbound_in_one_branch_0 = record { tree = (func 0 (codes "f") ((param (codes "a") None) ∷ []) (unbound_in_one_branch_n1 ∷ unbound_in_one_branch_n5 ∷ [])); owner = None; locals = ((codes "a") ∷ (codes "x") ∷ []) }

abbrev pub program_unbound_in_one_branch : Program
program_unbound_in_one_branch = record { functions = (function_unbound_in_one_branch_0 ∷ []); classes = []; bindings = [] }

abbrev pub state_unbound_in_one_branch : Option FuncId → Attributes → List ObjId → World → ℕ → ℕ → Trail → State World Trail
state_unbound_in_one_branch function variables handled objects depth left seen = record { frame = record { function = function; variables = variables; handled = handled }; space = record { names = (((codes "f"), (v.Func (func_id 0))) ∷ []); defaults = ([] ∷ []); constants = [] }; objects = objects; depth = depth; left = left; seen = seen }

-- var_8 = module_0.f(0)
abbrev pub UnboundInOneBranch0 : Type 0
UnboundInOneBranch0 = means recorder program_unbound_in_one_branch unbound_in_one_branch_t4 (state_unbound_in_one_branch None [] [] [] 0 300 []) ≡ ((Err (Raised (id 0))), (state_unbound_in_one_branch None [] [] (object.Instance (Built built.UnboundLocalError) [] None ∷ []) 0 291 (began 0 ∷ began 1 ∷ began 2 ∷ Decided (node 2) (j.Plain false) false ∷ began 5 ∷ began 6 ∷ [])))
