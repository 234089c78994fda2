-- Worked examples of calls (6.3.4): what a statement of a test means, with its end, variables, objects, trail and steps left.
use Rattle.py_meaning.specs.Examples.{id}
use Rattle.py_meaning.specs.Tuples.{measured}
use Rattle.py_meaning.specs.Worlds.{World, Attributes}
use Rattle.py_meaning.specs.declared.object.Object.TheVariants as object
use Rattle.py_meaning.specs.declared.value.Value.TheVariants as v
use Rattle.py_plain.specs.Examples.{e, s, args, param, func, func_id, began}
use Rattle.py_plain.specs.Program.{Function, Program}
use Rattle.py_plain.specs.Statements.{means}
use Rattle.py_plain.specs.Tests.{Trail, recorder}
use Rattle.py_plain.specs.declared.judged.Judged.TheVariants as j
use Rattle.py_plain.specs.declared.run.Abrupt.TheVariants.{Raised, Left, OutOfSteps}
use Rattle.py_plain.specs.declared.state.State.{State}
use Rattle.py_syntax.specs.declared.expr.Expr.{Expr}
use Rattle.py_syntax.specs.declared.expr.ExprKind.TheVariants as x
use Rattle.py_syntax.specs.declared.operator.BinOp.TheVariants.{FloorDiv}
use Rattle.py_syntax.specs.declared.stmt.Stmt.{Stmt}
use Rattle.py_syntax.specs.declared.stmt.StmtKind.TheVariants as y
use Rattle.py_syntax.specs.declared.stmt.Target.TheVariants as target
use Rattle.pyn_base.specs.declared.class.BuiltClass.TheVariants as built
use Rattle.pyn_base.specs.declared.class.ClassId.TheVariants.{Built}
use Rattle.pyn_base.specs.declared.construct.Construct.TheVariants as construct
use Rattle.pyn_base.specs.declared.ids.FuncId.{FuncId}
use Rattle.pyn_base.specs.declared.ids.ObjId.{ObjId}
use Rattle.std.proofs.Common.{◌≡◌, ℕ}
use Rattle.std.specs.Prelude.{pos, false, List, [], ◌∷◌, Option, Some, None, Ok, Err, codes}

-- too many:
--
--     def g(a):
--         return a
--     def f():
--         return g(1, 2)
--
abbrev pub too_many_n2 : Expr
too_many_n2 = e 2 (x.Name (codes "a"))

abbrev pub too_many_n1 : Stmt
too_many_n1 = s 1 (y.Return (Some too_many_n2))

abbrev pub too_many_n6 : Expr
too_many_n6 = e 6 (x.Name (codes "g"))

abbrev pub too_many_n7 : Expr
too_many_n7 = e 7 (x.IntLit (pos 1))

abbrev pub too_many_n8 : Expr
too_many_n8 = e 8 (x.IntLit (pos 2))

abbrev pub too_many_n5 : Expr
too_many_n5 = e 5 (x.Call too_many_n6 (args (too_many_n7 ∷ too_many_n8 ∷ []) []))

abbrev pub too_many_n4 : Stmt
too_many_n4 = s 4 (y.Return (Some too_many_n5))

abbrev pub too_many_t1 : Expr
too_many_t1 = e 0 (x.Name (codes "module_0"))

abbrev pub too_many_t2 : Expr
too_many_t2 = e 0 (x.Method too_many_t1 (codes "f") (args [] []))

abbrev pub too_many_t3 : Stmt
too_many_t3 = s 0 (y.Assign ((target.Name (codes "var_8")) ∷ []) false None too_many_t2)

abbrev pub function_too_many_0 : Function
function_too_many_0 = record { tree = (func 0 (codes "g") ((param (codes "a") None) ∷ []) (too_many_n1 ∷ [])); owner = None; locals = ((codes "a") ∷ []) }

abbrev pub function_too_many_1 : Function
function_too_many_1 = record { tree = (func 3 (codes "f") [] (too_many_n4 ∷ [])); owner = None; locals = [] }

abbrev pub program_too_many : Program
program_too_many = record { functions = (function_too_many_0 ∷ function_too_many_1 ∷ []); classes = []; bindings = [] }

abbrev pub state_too_many : Option FuncId → Attributes → List ObjId → World → ℕ → ℕ → Trail → State World Trail
state_too_many function variables handled objects depth left seen = record { frame = record { function = function; variables = variables; handled = handled }; space = record { names = (((codes "g"), (v.Func (func_id 0))) ∷ ((codes "f"), (v.Func (func_id 1))) ∷ []); defaults = ([] ∷ [] ∷ []); constants = [] }; objects = objects; depth = depth; left = left; seen = seen }

-- var_8 = module_0.f()
abbrev pub TooMany0 : Type 0
TooMany0 = means recorder program_too_many too_many_t3 (state_too_many None [] [] [] 0 300 []) ≡ ((Err (Raised (id 0))), (state_too_many None [] [] (object.Instance (Built built.TypeError) [] None ∷ []) 0 291 (began 3 ∷ began 4 ∷ began 5 ∷ began 6 ∷ began 7 ∷ began 8 ∷ [])))

-- not callable with names:
--
--     def f(a):
--         return a(x=1)
--
abbrev pub not_callable_with_names_n3 : Expr
not_callable_with_names_n3 = e 3 (x.Name (codes "a"))

abbrev pub not_callable_with_names_n4 : Expr
not_callable_with_names_n4 = e 4 (x.IntLit (pos 1))

abbrev pub not_callable_with_names_n2 : Expr
not_callable_with_names_n2 = e 2 (x.Call not_callable_with_names_n3 (args [] (((codes "x"), not_callable_with_names_n4) ∷ [])))

abbrev pub not_callable_with_names_n1 : Stmt
not_callable_with_names_n1 = s 1 (y.Return (Some not_callable_with_names_n2))

abbrev pub not_callable_with_names_t1 : Expr
not_callable_with_names_t1 = e 0 (x.Name (codes "module_0"))

abbrev pub not_callable_with_names_t2 : Expr
not_callable_with_names_t2 = e 0 (x.IntLit (pos 5))

abbrev pub not_callable_with_names_t3 : Expr
not_callable_with_names_t3 = e 0 (x.Method not_callable_with_names_t1 (codes "f") (args (not_callable_with_names_t2 ∷ []) []))

abbrev pub not_callable_with_names_t4 : Stmt
not_callable_with_names_t4 = s 0 (y.Assign ((target.Name (codes "var_8")) ∷ []) false None not_callable_with_names_t3)

abbrev pub function_not_callable_with_names_0 : Function
function_not_callable_with_names_0 = record { tree = (func 0 (codes "f") ((param (codes "a") None) ∷ []) (not_callable_with_names_n1 ∷ [])); owner = None; locals = ((codes "a") ∷ []) }

abbrev pub program_not_callable_with_names : Program
program_not_callable_with_names = record { functions = (function_not_callable_with_names_0 ∷ []); classes = []; bindings = [] }

abbrev pub state_not_callable_with_names : Option FuncId → Attributes → List ObjId → World → ℕ → ℕ → Trail → State World Trail
state_not_callable_with_names function variables handled objects depth left seen = record { frame = record { function = function; variables = variables; handled = handled }; space = record { names = (((codes "f"), (v.Func (func_id 0))) ∷ []); defaults = ([] ∷ []); constants = [] }; objects = objects; depth = depth; left = left; seen = seen }

-- var_8 = module_0.f(5)
abbrev pub NotCallableWithNames0 : Type 0
NotCallableWithNames0 = means recorder program_not_callable_with_names not_callable_with_names_t4 (state_not_callable_with_names None [] [] [] 0 300 []) ≡ ((Err (Raised (id 0))), (state_not_callable_with_names None [] [] (object.Instance (Built built.TypeError) [] None ∷ []) 0 291 (began 0 ∷ began 1 ∷ began 2 ∷ began 3 ∷ began 4 ∷ [])))

-- callee first:
--
--     def g(a):
--         raise ValueError(a)
--     def f():
--         return g(1)(1 // 0)
--
abbrev pub callee_first_n3 : Expr
callee_first_n3 = e 3 (x.Name (codes "ValueError"))

abbrev pub callee_first_n4 : Expr
callee_first_n4 = e 4 (x.Name (codes "a"))

abbrev pub callee_first_n2 : Expr
callee_first_n2 = e 2 (x.Call callee_first_n3 (args (callee_first_n4 ∷ []) []))

abbrev pub callee_first_n1 : Stmt
callee_first_n1 = s 1 (y.Raise (Some callee_first_n2))

abbrev pub callee_first_n9 : Expr
callee_first_n9 = e 9 (x.Name (codes "g"))

abbrev pub callee_first_n10 : Expr
callee_first_n10 = e 10 (x.IntLit (pos 1))

abbrev pub callee_first_n8 : Expr
callee_first_n8 = e 8 (x.Call callee_first_n9 (args (callee_first_n10 ∷ []) []))

abbrev pub callee_first_n12 : Expr
callee_first_n12 = e 12 (x.IntLit (pos 1))

abbrev pub callee_first_n13 : Expr
callee_first_n13 = e 13 (x.IntLit (pos 0))

abbrev pub callee_first_n11 : Expr
callee_first_n11 = e 11 (x.Binary FloorDiv callee_first_n12 callee_first_n13)

abbrev pub callee_first_n7 : Expr
callee_first_n7 = e 7 (x.Call callee_first_n8 (args (callee_first_n11 ∷ []) []))

abbrev pub callee_first_n6 : Stmt
callee_first_n6 = s 6 (y.Return (Some callee_first_n7))

abbrev pub callee_first_t1 : Expr
callee_first_t1 = e 0 (x.Name (codes "module_0"))

abbrev pub callee_first_t2 : Expr
callee_first_t2 = e 0 (x.Method callee_first_t1 (codes "f") (args [] []))

abbrev pub callee_first_t3 : Stmt
callee_first_t3 = s 0 (y.Assign ((target.Name (codes "var_8")) ∷ []) false None callee_first_t2)

abbrev pub function_callee_first_0 : Function
function_callee_first_0 = record { tree = (func 0 (codes "g") ((param (codes "a") None) ∷ []) (callee_first_n1 ∷ [])); owner = None; locals = ((codes "a") ∷ []) }

abbrev pub function_callee_first_1 : Function
function_callee_first_1 = record { tree = (func 5 (codes "f") [] (callee_first_n6 ∷ [])); owner = None; locals = [] }

abbrev pub program_callee_first : Program
program_callee_first = record { functions = (function_callee_first_0 ∷ function_callee_first_1 ∷ []); classes = []; bindings = [] }

abbrev pub state_callee_first : Option FuncId → Attributes → List ObjId → World → ℕ → ℕ → Trail → State World Trail
state_callee_first function variables handled objects depth left seen = record { frame = record { function = function; variables = variables; handled = handled }; space = record { names = (((codes "g"), (v.Func (func_id 0))) ∷ ((codes "f"), (v.Func (func_id 1))) ∷ []); defaults = ([] ∷ [] ∷ []); constants = [] }; objects = objects; depth = depth; left = left; seen = seen }

-- var_8 = module_0.f()
abbrev pub CalleeFirst0 : Type 0
CalleeFirst0 = means recorder program_callee_first callee_first_t3 (state_callee_first None [] [] [] 0 300 []) ≡ ((Err (Raised (id 0))), (state_callee_first None [] [] (object.Instance (Built built.ValueError) [] (Some (measured ((v.Int (pos 1)) ∷ []))) ∷ []) 0 286 (began 5 ∷ began 6 ∷ began 7 ∷ began 8 ∷ began 9 ∷ began 10 ∷ began 0 ∷ began 1 ∷ began 2 ∷ began 3 ∷ began 4 ∷ [])))

-- keyword of builtin:
--
--     def f():
--         return len(x=[1])
--
abbrev pub keyword_of_builtin_n3 : Expr
keyword_of_builtin_n3 = e 3 (x.Name (codes "len"))

abbrev pub keyword_of_builtin_n5 : Expr
keyword_of_builtin_n5 = e 5 (x.IntLit (pos 1))

abbrev pub keyword_of_builtin_n4 : Expr
keyword_of_builtin_n4 = e 4 (x.ListLit (keyword_of_builtin_n5 ∷ []))

abbrev pub keyword_of_builtin_n2 : Expr
keyword_of_builtin_n2 = e 2 (x.Call keyword_of_builtin_n3 (args [] (((codes "x"), keyword_of_builtin_n4) ∷ [])))

abbrev pub keyword_of_builtin_n1 : Stmt
keyword_of_builtin_n1 = s 1 (y.Return (Some keyword_of_builtin_n2))

abbrev pub keyword_of_builtin_t1 : Expr
keyword_of_builtin_t1 = e 0 (x.Name (codes "module_0"))

abbrev pub keyword_of_builtin_t2 : Expr
keyword_of_builtin_t2 = e 0 (x.Method keyword_of_builtin_t1 (codes "f") (args [] []))

abbrev pub keyword_of_builtin_t3 : Stmt
keyword_of_builtin_t3 = s 0 (y.Assign ((target.Name (codes "var_8")) ∷ []) false None keyword_of_builtin_t2)

abbrev pub function_keyword_of_builtin_0 : Function
function_keyword_of_builtin_0 = record { tree = (func 0 (codes "f") [] (keyword_of_builtin_n1 ∷ [])); owner = None; locals = [] }

abbrev pub program_keyword_of_builtin : Program
program_keyword_of_builtin = record { functions = (function_keyword_of_builtin_0 ∷ []); classes = []; bindings = [] }

abbrev pub state_keyword_of_builtin : Option FuncId → Attributes → List ObjId → World → ℕ → ℕ → Trail → State World Trail
state_keyword_of_builtin function variables handled objects depth left seen = record { frame = record { function = function; variables = variables; handled = handled }; space = record { names = (((codes "f"), (v.Func (func_id 0))) ∷ []); defaults = ([] ∷ []); constants = [] }; objects = objects; depth = depth; left = left; seen = seen }

-- var_8 = module_0.f()
abbrev pub KeywordOfBuiltin0 : Type 0
KeywordOfBuiltin0 = means recorder program_keyword_of_builtin keyword_of_builtin_t3 (state_keyword_of_builtin None [] [] [] 0 300 []) ≡ ((Err (Left construct.KeywordArgument)), (state_keyword_of_builtin None [] [] (object.List ((v.Int (pos 1)) ∷ []) ∷ []) 0 290 (began 0 ∷ began 1 ∷ began 2 ∷ began 3 ∷ began 4 ∷ began 5 ∷ [])))

-- function attribute:
--
--     def g():
--         pass
--     def f():
--         return g.name
--
abbrev pub function_attribute_n1 : Stmt
function_attribute_n1 = s 1 y.Pass

abbrev pub function_attribute_n5 : Expr
function_attribute_n5 = e 5 (x.Name (codes "g"))

abbrev pub function_attribute_n4 : Expr
function_attribute_n4 = e 4 (x.Attr function_attribute_n5 (codes "name"))

abbrev pub function_attribute_n3 : Stmt
function_attribute_n3 = s 3 (y.Return (Some function_attribute_n4))

abbrev pub function_attribute_t1 : Expr
function_attribute_t1 = e 0 (x.Name (codes "module_0"))

abbrev pub function_attribute_t2 : Expr
function_attribute_t2 = e 0 (x.Method function_attribute_t1 (codes "f") (args [] []))

abbrev pub function_attribute_t3 : Stmt
function_attribute_t3 = s 0 (y.Assign ((target.Name (codes "var_8")) ∷ []) false None function_attribute_t2)

abbrev pub function_function_attribute_0 : Function
function_function_attribute_0 = record { tree = (func 0 (codes "g") [] (function_attribute_n1 ∷ [])); owner = None; locals = [] }

abbrev pub function_function_attribute_1 : Function
function_function_attribute_1 = record { tree = (func 2 (codes "f") [] (function_attribute_n3 ∷ [])); owner = None; locals = [] }

abbrev pub program_function_attribute : Program
program_function_attribute = record { functions = (function_function_attribute_0 ∷ function_function_attribute_1 ∷ []); classes = []; bindings = [] }

abbrev pub state_function_attribute : Option FuncId → Attributes → List ObjId → World → ℕ → ℕ → Trail → State World Trail
state_function_attribute function variables handled objects depth left seen = record { frame = record { function = function; variables = variables; handled = handled }; space = record { names = (((codes "g"), (v.Func (func_id 0))) ∷ ((codes "f"), (v.Func (func_id 1))) ∷ []); defaults = ([] ∷ [] ∷ []); constants = [] }; objects = objects; depth = depth; left = left; seen = seen }

-- var_8 = module_0.f()
abbrev pub FunctionAttribute0 : Type 0
FunctionAttribute0 = means recorder program_function_attribute function_attribute_t3 (state_function_attribute None [] [] [] 0 300 []) ≡ ((Err (Left construct.FunctionAttribute)), (state_function_attribute None [] [] [] 0 293 (began 2 ∷ began 3 ∷ began 4 ∷ began 5 ∷ [])))

-- raised and on:
--
--     def f(a):
--         return 1 // a
--
abbrev pub raised_and_on_n3 : Expr
raised_and_on_n3 = e 3 (x.IntLit (pos 1))

abbrev pub raised_and_on_n4 : Expr
raised_and_on_n4 = e 4 (x.Name (codes "a"))

abbrev pub raised_and_on_n2 : Expr
raised_and_on_n2 = e 2 (x.Binary FloorDiv raised_and_on_n3 raised_and_on_n4)

abbrev pub raised_and_on_n1 : Stmt
raised_and_on_n1 = s 1 (y.Return (Some raised_and_on_n2))

abbrev pub raised_and_on_t1 : Expr
raised_and_on_t1 = e 0 (x.Name (codes "module_0"))

abbrev pub raised_and_on_t2 : Expr
raised_and_on_t2 = e 0 (x.IntLit (pos 0))

abbrev pub raised_and_on_t3 : Expr
raised_and_on_t3 = e 0 (x.Method raised_and_on_t1 (codes "f") (args (raised_and_on_t2 ∷ []) []))

abbrev pub raised_and_on_t4 : Stmt
raised_and_on_t4 = s 0 (y.Bare raised_and_on_t3)

abbrev pub raised_and_on_t5 : Expr
raised_and_on_t5 = e 0 (x.IntLit (pos 1))

abbrev pub raised_and_on_t6 : Expr
raised_and_on_t6 = e 0 (x.Method raised_and_on_t1 (codes "f") (args (raised_and_on_t5 ∷ []) []))

abbrev pub raised_and_on_t7 : Stmt
raised_and_on_t7 = s 0 (y.Assign ((target.Name (codes "var_1")) ∷ []) false None raised_and_on_t6)

abbrev pub function_raised_and_on_0 : Function
function_raised_and_on_0 = record { tree = (func 0 (codes "f") ((param (codes "a") None) ∷ []) (raised_and_on_n1 ∷ [])); owner = None; locals = ((codes "a") ∷ []) }

abbrev pub program_raised_and_on : Program
program_raised_and_on = record { functions = (function_raised_and_on_0 ∷ []); classes = []; bindings = [] }

abbrev pub state_raised_and_on : Option FuncId → Attributes → List ObjId → World → ℕ → ℕ → Trail → State World Trail
state_raised_and_on function variables handled objects depth left seen = record { frame = record { function = function; variables = variables; handled = handled }; space = record { names = (((codes "f"), (v.Func (func_id 0))) ∷ []); defaults = ([] ∷ []); constants = [] }; objects = objects; depth = depth; left = left; seen = seen }

-- module_0.f(0)
abbrev pub RaisedAndOn0 : Type 0
RaisedAndOn0 = means recorder program_raised_and_on raised_and_on_t4 (state_raised_and_on None [] [] [] 0 300 []) ≡ ((Err (Raised (id 0))), (state_raised_and_on None [] [] (object.Instance (Built built.ZeroDivisionError) [] None ∷ []) 0 291 (began 0 ∷ began 1 ∷ began 2 ∷ began 3 ∷ began 4 ∷ [])))

-- var_1 = module_0.f(1)
abbrev pub RaisedAndOn1 : Type 0
RaisedAndOn1 = means recorder program_raised_and_on raised_and_on_t7 (state_raised_and_on None [] [] (object.Instance (Built built.ZeroDivisionError) [] None ∷ []) 0 300 (began 0 ∷ began 1 ∷ began 2 ∷ began 3 ∷ began 4 ∷ [])) ≡ ((Ok (v.None, (j.Plain false))), (state_raised_and_on None (((codes "var_1"), (v.Int (pos 1))) ∷ []) [] (object.Instance (Built built.ZeroDivisionError) [] None ∷ []) 0 291 (began 0 ∷ began 1 ∷ began 2 ∷ began 3 ∷ began 4 ∷ began 0 ∷ began 1 ∷ began 2 ∷ began 3 ∷ began 4 ∷ [])))

-- out of steps before function:
--
--     def f(a):
--         return a
--
abbrev pub out_of_steps_before_function_n2 : Expr
out_of_steps_before_function_n2 = e 2 (x.Name (codes "a"))

abbrev pub out_of_steps_before_function_n1 : Stmt
out_of_steps_before_function_n1 = s 1 (y.Return (Some out_of_steps_before_function_n2))

abbrev pub out_of_steps_before_function_t1 : Expr
out_of_steps_before_function_t1 = e 0 (x.Name (codes "module_0"))

abbrev pub out_of_steps_before_function_t2 : Expr
out_of_steps_before_function_t2 = e 0 (x.IntLit (pos 1))

abbrev pub out_of_steps_before_function_t3 : Expr
out_of_steps_before_function_t3 = e 0 (x.Method out_of_steps_before_function_t1 (codes "f") (args (out_of_steps_before_function_t2 ∷ []) []))

abbrev pub out_of_steps_before_function_t4 : Stmt
out_of_steps_before_function_t4 = s 0 (y.Assign ((target.Name (codes "var_0")) ∷ []) false None out_of_steps_before_function_t3)

abbrev pub function_out_of_steps_before_function_0 : Function
function_out_of_steps_before_function_0 = record { tree = (func 0 (codes "f") ((param (codes "a") None) ∷ []) (out_of_steps_before_function_n1 ∷ [])); owner = None; locals = ((codes "a") ∷ []) }

abbrev pub program_out_of_steps_before_function : Program
program_out_of_steps_before_function = record { functions = (function_out_of_steps_before_function_0 ∷ []); classes = []; bindings = [] }

abbrev pub state_out_of_steps_before_function : Option FuncId → Attributes → List ObjId → World → ℕ → ℕ → Trail → State World Trail
state_out_of_steps_before_function function variables handled objects depth left seen = record { frame = record { function = function; variables = variables; handled = handled }; space = record { names = (((codes "f"), (v.Func (func_id 0))) ∷ []); defaults = ([] ∷ []); constants = [] }; objects = objects; depth = depth; left = left; seen = seen }

-- var_0 = module_0.f(1)
abbrev pub OutOfStepsBeforeFunction0 : Type 0
OutOfStepsBeforeFunction0 = means recorder program_out_of_steps_before_function out_of_steps_before_function_t4 (state_out_of_steps_before_function None [] [] [] 0 3 []) ≡ ((Err OutOfSteps), (state_out_of_steps_before_function None [] [] [] 0 0 []))

-- out of steps in call:
--
--     def g(a):
--         return a
--     def f():
--         return g(1)
--
abbrev pub out_of_steps_in_call_n2 : Expr
out_of_steps_in_call_n2 = e 2 (x.Name (codes "a"))

abbrev pub out_of_steps_in_call_n1 : Stmt
out_of_steps_in_call_n1 = s 1 (y.Return (Some out_of_steps_in_call_n2))

abbrev pub out_of_steps_in_call_n6 : Expr
out_of_steps_in_call_n6 = e 6 (x.Name (codes "g"))

abbrev pub out_of_steps_in_call_n7 : Expr
out_of_steps_in_call_n7 = e 7 (x.IntLit (pos 1))

abbrev pub out_of_steps_in_call_n5 : Expr
out_of_steps_in_call_n5 = e 5 (x.Call out_of_steps_in_call_n6 (args (out_of_steps_in_call_n7 ∷ []) []))

abbrev pub out_of_steps_in_call_n4 : Stmt
out_of_steps_in_call_n4 = s 4 (y.Return (Some out_of_steps_in_call_n5))

abbrev pub out_of_steps_in_call_t1 : Expr
out_of_steps_in_call_t1 = e 0 (x.Name (codes "module_0"))

abbrev pub out_of_steps_in_call_t2 : Expr
out_of_steps_in_call_t2 = e 0 (x.Method out_of_steps_in_call_t1 (codes "f") (args [] []))

abbrev pub out_of_steps_in_call_t3 : Stmt
out_of_steps_in_call_t3 = s 0 (y.Assign ((target.Name (codes "var_8")) ∷ []) false None out_of_steps_in_call_t2)

abbrev pub function_out_of_steps_in_call_0 : Function
function_out_of_steps_in_call_0 = record { tree = (func 0 (codes "g") ((param (codes "a") None) ∷ []) (out_of_steps_in_call_n1 ∷ [])); owner = None; locals = ((codes "a") ∷ []) }

abbrev pub function_out_of_steps_in_call_1 : Function
function_out_of_steps_in_call_1 = record { tree = (func 3 (codes "f") [] (out_of_steps_in_call_n4 ∷ [])); owner = None; locals = [] }

abbrev pub program_out_of_steps_in_call : Program
program_out_of_steps_in_call = record { functions = (function_out_of_steps_in_call_0 ∷ function_out_of_steps_in_call_1 ∷ []); classes = []; bindings = [] }

abbrev pub state_out_of_steps_in_call : Option FuncId → Attributes → List ObjId → World → ℕ → ℕ → Trail → State World Trail
state_out_of_steps_in_call function variables handled objects depth left seen = record { frame = record { function = function; variables = variables; handled = handled }; space = record { names = (((codes "g"), (v.Func (func_id 0))) ∷ ((codes "f"), (v.Func (func_id 1))) ∷ []); defaults = ([] ∷ [] ∷ []); constants = [] }; objects = objects; depth = depth; left = left; seen = seen }

-- var_8 = module_0.f()
abbrev pub OutOfStepsInCall0 : Type 0
OutOfStepsInCall0 = means recorder program_out_of_steps_in_call out_of_steps_in_call_t3 (state_out_of_steps_in_call None [] [] [] 0 8 []) ≡ ((Err OutOfSteps), (state_out_of_steps_in_call None [] [] [] 0 0 (began 3 ∷ began 4 ∷ began 5 ∷ began 6 ∷ began 7 ∷ [])))

-- the 201st active call:
--
--     def f(a):
--         return a
--
-- var_0 = module_0.f(1)
abbrev pub CallDepth0 : Type 0
CallDepth0 = means recorder program_out_of_steps_before_function out_of_steps_before_function_t4 (state_out_of_steps_before_function None [] [] [] 200 300 []) ≡ ((Err (Left construct.CallDepth)), (state_out_of_steps_before_function None [] [] [] 200 296 []))
