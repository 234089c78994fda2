-- Worked examples of built-in functions and methods: what a statement of a test means, with its end, variables, objects, trail and steps left.
use Rattle.py_meaning.specs.Examples.{id}
use Rattle.py_meaning.specs.Tuples.{measured}
use Rattle.py_meaning.specs.Worlds.{World, Attributes}
use Rattle.py_meaning.specs.declared.object.Object.TheVariants as object
use Rattle.py_meaning.specs.declared.value.Value.TheVariants as v
use Rattle.py_plain.specs.Examples.{e, s, args, func, func_id, began}
use Rattle.py_plain.specs.Program.{Function, Program}
use Rattle.py_plain.specs.Statements.{means}
use Rattle.py_plain.specs.Tests.{Trail, recorder}
use Rattle.py_plain.specs.declared.judged.Judged.TheVariants as j
use Rattle.py_plain.specs.declared.run.Abrupt.TheVariants.{Raised, Left}
use Rattle.py_plain.specs.declared.state.State.{State}
use Rattle.py_syntax.specs.declared.expr.Expr.{Expr}
use Rattle.py_syntax.specs.declared.expr.ExprKind.TheVariants as x
use Rattle.py_syntax.specs.declared.operator.BinOp.TheVariants.{FloorDiv}
use Rattle.py_syntax.specs.declared.stmt.Stmt.{Stmt}
use Rattle.py_syntax.specs.declared.stmt.StmtKind.TheVariants as y
use Rattle.py_syntax.specs.declared.stmt.Target.TheVariants as target
use Rattle.pyn_base.specs.declared.class.BuiltClass.TheVariants as built
use Rattle.pyn_base.specs.declared.class.ClassId.TheVariants.{Built, Own}
use Rattle.pyn_base.specs.declared.construct.Construct.TheVariants as construct
use Rattle.pyn_base.specs.declared.ids.FuncId.{FuncId}
use Rattle.pyn_base.specs.declared.ids.ObjId.{ObjId}
use Rattle.std.proofs.Common.{◌≡◌, ℕ}
use Rattle.std.specs.Prelude.{pos, true, false, List, [], ◌∷◌, Option, Some, None, Ok, Err, codes}

-- isinstance count:
--
--     def f():
--         return isinstance(1)
--
abbrev pub isinstance_count_n3 : Expr
isinstance_count_n3 = e 3 (x.Name (codes "isinstance"))

abbrev pub isinstance_count_n4 : Expr
isinstance_count_n4 = e 4 (x.IntLit (pos 1))

abbrev pub isinstance_count_n2 : Expr
isinstance_count_n2 = e 2 (x.Call isinstance_count_n3 (args (isinstance_count_n4 ∷ []) []))

abbrev pub isinstance_count_n1 : Stmt
isinstance_count_n1 = s 1 (y.Return (Some isinstance_count_n2))

abbrev pub isinstance_count_t1 : Expr
isinstance_count_t1 = e 0 (x.Name (codes "module_0"))

abbrev pub isinstance_count_t2 : Expr
isinstance_count_t2 = e 0 (x.Method isinstance_count_t1 (codes "f") (args [] []))

abbrev pub isinstance_count_t3 : Stmt
isinstance_count_t3 = s 0 (y.Assign ((target.Name (codes "var_8")) ∷ []) false None isinstance_count_t2)

abbrev pub function_isinstance_count_0 : Function
function_isinstance_count_0 = record { tree = (func 0 (codes "f") [] (isinstance_count_n1 ∷ [])); owner = None; locals = [] }

abbrev pub program_isinstance_count : Program
program_isinstance_count = record { functions = (function_isinstance_count_0 ∷ []); classes = []; bindings = [] }

abbrev pub state_isinstance_count : Option FuncId → Attributes → List ObjId → World → ℕ → ℕ → Trail → State World Trail
state_isinstance_count function variables handled objects depth left seen = record { frame = record { function = function; variables = variables; handled = handled }; space = record { names = (((codes "f"), (v.Func (func_id 0))) ∷ []); defaults = ([] ∷ []); constants = [] }; objects = objects; depth = depth; left = left; seen = seen }

-- var_8 = module_0.f()
abbrev pub IsinstanceCount0 : Type 0
IsinstanceCount0 = means recorder program_isinstance_count isinstance_count_t3 (state_isinstance_count None [] [] [] 0 300 []) ≡ ((Err (Raised (id 0))), (state_isinstance_count None [] [] (object.Instance (Built built.TypeError) [] None ∷ []) 0 292 (began 0 ∷ began 1 ∷ began 2 ∷ began 3 ∷ began 4 ∷ [])))

-- isinstance nested:
--
--     def f():
--         return isinstance(1, (str, (int,)))
--
abbrev pub isinstance_nested_n3 : Expr
isinstance_nested_n3 = e 3 (x.Name (codes "isinstance"))

abbrev pub isinstance_nested_n4 : Expr
isinstance_nested_n4 = e 4 (x.IntLit (pos 1))

abbrev pub isinstance_nested_n6 : Expr
isinstance_nested_n6 = e 6 (x.Name (codes "str"))

abbrev pub isinstance_nested_n8 : Expr
isinstance_nested_n8 = e 8 (x.Name (codes "int"))

abbrev pub isinstance_nested_n7 : Expr
isinstance_nested_n7 = e 7 (x.TupleLit (isinstance_nested_n8 ∷ []))

abbrev pub isinstance_nested_n5 : Expr
isinstance_nested_n5 = e 5 (x.TupleLit (isinstance_nested_n6 ∷ isinstance_nested_n7 ∷ []))

abbrev pub isinstance_nested_n2 : Expr
isinstance_nested_n2 = e 2 (x.Call isinstance_nested_n3 (args (isinstance_nested_n4 ∷ isinstance_nested_n5 ∷ []) []))

abbrev pub isinstance_nested_n1 : Stmt
isinstance_nested_n1 = s 1 (y.Return (Some isinstance_nested_n2))

abbrev pub isinstance_nested_t1 : Expr
isinstance_nested_t1 = e 0 (x.Name (codes "module_0"))

abbrev pub isinstance_nested_t2 : Expr
isinstance_nested_t2 = e 0 (x.Method isinstance_nested_t1 (codes "f") (args [] []))

abbrev pub isinstance_nested_t3 : Stmt
isinstance_nested_t3 = s 0 (y.Assign ((target.Name (codes "var_8")) ∷ []) false None isinstance_nested_t2)

abbrev pub function_isinstance_nested_0 : Function
function_isinstance_nested_0 = record { tree = (func 0 (codes "f") [] (isinstance_nested_n1 ∷ [])); owner = None; locals = [] }

abbrev pub program_isinstance_nested : Program
program_isinstance_nested = record { functions = (function_isinstance_nested_0 ∷ []); classes = []; bindings = [] }

abbrev pub state_isinstance_nested : Option FuncId → Attributes → List ObjId → World → ℕ → ℕ → Trail → State World Trail
state_isinstance_nested function variables handled objects depth left seen = record { frame = record { function = function; variables = variables; handled = handled }; space = record { names = (((codes "f"), (v.Func (func_id 0))) ∷ []); defaults = ([] ∷ []); constants = [] }; objects = objects; depth = depth; left = left; seen = seen }

-- var_8 = module_0.f()
abbrev pub IsinstanceNested0 : Type 0
IsinstanceNested0 = means recorder program_isinstance_nested isinstance_nested_t3 (state_isinstance_nested None [] [] [] 0 300 []) ≡ ((Err (Left construct.Argument)), (state_isinstance_nested None [] [] [] 0 284 (began 0 ∷ began 1 ∷ began 2 ∷ began 3 ∷ began 4 ∷ began 5 ∷ began 6 ∷ began 7 ∷ began 8 ∷ [])))

-- isinstance nested after:
--
--     def f():
--         return isinstance(1, (int, (str,)))
--
abbrev pub isinstance_nested_after_n3 : Expr
isinstance_nested_after_n3 = e 3 (x.Name (codes "isinstance"))

abbrev pub isinstance_nested_after_n4 : Expr
isinstance_nested_after_n4 = e 4 (x.IntLit (pos 1))

abbrev pub isinstance_nested_after_n6 : Expr
isinstance_nested_after_n6 = e 6 (x.Name (codes "int"))

abbrev pub isinstance_nested_after_n8 : Expr
isinstance_nested_after_n8 = e 8 (x.Name (codes "str"))

abbrev pub isinstance_nested_after_n7 : Expr
isinstance_nested_after_n7 = e 7 (x.TupleLit (isinstance_nested_after_n8 ∷ []))

abbrev pub isinstance_nested_after_n5 : Expr
isinstance_nested_after_n5 = e 5 (x.TupleLit (isinstance_nested_after_n6 ∷ isinstance_nested_after_n7 ∷ []))

abbrev pub isinstance_nested_after_n2 : Expr
isinstance_nested_after_n2 = e 2 (x.Call isinstance_nested_after_n3 (args (isinstance_nested_after_n4 ∷ isinstance_nested_after_n5 ∷ []) []))

abbrev pub isinstance_nested_after_n1 : Stmt
isinstance_nested_after_n1 = s 1 (y.Return (Some isinstance_nested_after_n2))

abbrev pub isinstance_nested_after_t1 : Expr
isinstance_nested_after_t1 = e 0 (x.Name (codes "module_0"))

abbrev pub isinstance_nested_after_t2 : Expr
isinstance_nested_after_t2 = e 0 (x.Method isinstance_nested_after_t1 (codes "f") (args [] []))

abbrev pub isinstance_nested_after_t3 : Stmt
isinstance_nested_after_t3 = s 0 (y.Assign ((target.Name (codes "var_8")) ∷ []) false None isinstance_nested_after_t2)

abbrev pub function_isinstance_nested_after_0 : Function
function_isinstance_nested_after_0 = record { tree = (func 0 (codes "f") [] (isinstance_nested_after_n1 ∷ [])); owner = None; locals = [] }

abbrev pub program_isinstance_nested_after : Program
program_isinstance_nested_after = record { functions = (function_isinstance_nested_after_0 ∷ []); classes = []; bindings = [] }

abbrev pub state_isinstance_nested_after : Option FuncId → Attributes → List ObjId → World → ℕ → ℕ → Trail → State World Trail
state_isinstance_nested_after function variables handled objects depth left seen = record { frame = record { function = function; variables = variables; handled = handled }; space = record { names = (((codes "f"), (v.Func (func_id 0))) ∷ []); defaults = ([] ∷ []); constants = [] }; objects = objects; depth = depth; left = left; seen = seen }

-- var_8 = module_0.f()
abbrev pub IsinstanceNestedAfter0 : Type 0
IsinstanceNestedAfter0 = means recorder program_isinstance_nested_after isinstance_nested_after_t3 (state_isinstance_nested_after None [] [] [] 0 300 []) ≡ ((Ok (v.None, (j.Plain false))), (state_isinstance_nested_after None (((codes "var_8"), (v.Bool true)) ∷ []) [] [] 0 284 (began 0 ∷ began 1 ∷ began 2 ∷ began 3 ∷ began 4 ∷ began 5 ∷ began 6 ∷ began 7 ∷ began 8 ∷ [])))

-- isinstance no class:
--
--     def f():
--         return isinstance(1, (str, 5))
--
abbrev pub isinstance_no_class_n3 : Expr
isinstance_no_class_n3 = e 3 (x.Name (codes "isinstance"))

abbrev pub isinstance_no_class_n4 : Expr
isinstance_no_class_n4 = e 4 (x.IntLit (pos 1))

abbrev pub isinstance_no_class_n6 : Expr
isinstance_no_class_n6 = e 6 (x.Name (codes "str"))

abbrev pub isinstance_no_class_n7 : Expr
isinstance_no_class_n7 = e 7 (x.IntLit (pos 5))

abbrev pub isinstance_no_class_n5 : Expr
isinstance_no_class_n5 = e 5 (x.TupleLit (isinstance_no_class_n6 ∷ isinstance_no_class_n7 ∷ []))

abbrev pub isinstance_no_class_n2 : Expr
isinstance_no_class_n2 = e 2 (x.Call isinstance_no_class_n3 (args (isinstance_no_class_n4 ∷ isinstance_no_class_n5 ∷ []) []))

abbrev pub isinstance_no_class_n1 : Stmt
isinstance_no_class_n1 = s 1 (y.Return (Some isinstance_no_class_n2))

abbrev pub isinstance_no_class_t1 : Expr
isinstance_no_class_t1 = e 0 (x.Name (codes "module_0"))

abbrev pub isinstance_no_class_t2 : Expr
isinstance_no_class_t2 = e 0 (x.Method isinstance_no_class_t1 (codes "f") (args [] []))

abbrev pub isinstance_no_class_t3 : Stmt
isinstance_no_class_t3 = s 0 (y.Assign ((target.Name (codes "var_8")) ∷ []) false None isinstance_no_class_t2)

abbrev pub function_isinstance_no_class_0 : Function
function_isinstance_no_class_0 = record { tree = (func 0 (codes "f") [] (isinstance_no_class_n1 ∷ [])); owner = None; locals = [] }

abbrev pub program_isinstance_no_class : Program
program_isinstance_no_class = record { functions = (function_isinstance_no_class_0 ∷ []); classes = []; bindings = [] }

abbrev pub state_isinstance_no_class : Option FuncId → Attributes → List ObjId → World → ℕ → ℕ → Trail → State World Trail
state_isinstance_no_class function variables handled objects depth left seen = record { frame = record { function = function; variables = variables; handled = handled }; space = record { names = (((codes "f"), (v.Func (func_id 0))) ∷ []); defaults = ([] ∷ []); constants = [] }; objects = objects; depth = depth; left = left; seen = seen }

-- var_8 = module_0.f()
abbrev pub IsinstanceNoClass0 : Type 0
IsinstanceNoClass0 = means recorder program_isinstance_no_class isinstance_no_class_t3 (state_isinstance_no_class None [] [] [] 0 300 []) ≡ ((Err (Raised (id 0))), (state_isinstance_no_class None [] [] (object.Instance (Built built.TypeError) [] None ∷ []) 0 286 (began 0 ∷ began 1 ∷ began 2 ∷ began 3 ∷ began 4 ∷ began 5 ∷ began 6 ∷ began 7 ∷ [])))

-- str of instance:
--
--     class A:
--         pass
--     def f():
--         return str(A())
--
abbrev pub str_of_instance_n3 : Expr
str_of_instance_n3 = e 3 (x.Name (codes "str"))

abbrev pub str_of_instance_n5 : Expr
str_of_instance_n5 = e 5 (x.Name (codes "A"))

abbrev pub str_of_instance_n4 : Expr
str_of_instance_n4 = e 4 (x.Call str_of_instance_n5 (args [] []))

abbrev pub str_of_instance_n2 : Expr
str_of_instance_n2 = e 2 (x.Call str_of_instance_n3 (args (str_of_instance_n4 ∷ []) []))

abbrev pub str_of_instance_n1 : Stmt
str_of_instance_n1 = s 1 (y.Return (Some str_of_instance_n2))

abbrev pub str_of_instance_t1 : Expr
str_of_instance_t1 = e 0 (x.Name (codes "module_0"))

abbrev pub str_of_instance_t2 : Expr
str_of_instance_t2 = e 0 (x.Method str_of_instance_t1 (codes "f") (args [] []))

abbrev pub str_of_instance_t3 : Stmt
str_of_instance_t3 = s 0 (y.Assign ((target.Name (codes "var_8")) ∷ []) false None str_of_instance_t2)

abbrev pub function_str_of_instance_0 : Function
function_str_of_instance_0 = record { tree = (func 0 (codes "f") [] (str_of_instance_n1 ∷ [])); owner = None; locals = [] }

abbrev pub program_str_of_instance : Program
program_str_of_instance = record { functions = (function_str_of_instance_0 ∷ []); classes = (record { name = (codes "A"); base = (Built built.Object); methods = []; constants = [] } ∷ []); bindings = [] }

abbrev pub state_str_of_instance : Option FuncId → Attributes → List ObjId → World → ℕ → ℕ → Trail → State World Trail
state_str_of_instance function variables handled objects depth left seen = record { frame = record { function = function; variables = variables; handled = handled }; space = record { names = (((codes "A"), (v.Class (Own 0))) ∷ ((codes "f"), (v.Func (func_id 0))) ∷ []); defaults = ([] ∷ []); constants = ([] ∷ []) }; objects = objects; depth = depth; left = left; seen = seen }

-- var_8 = module_0.f()
abbrev pub StrOfInstance0 : Type 0
StrOfInstance0 = means recorder program_str_of_instance str_of_instance_t3 (state_str_of_instance None [] [] [] 0 300 []) ≡ ((Err (Left construct.StrOf)), (state_str_of_instance None [] [] (object.Instance (Own 0) [] None ∷ []) 0 291 (began 0 ∷ began 1 ∷ began 2 ∷ began 3 ∷ began 4 ∷ began 5 ∷ [])))

-- str of key error:
--
--     class K(KeyError):
--         pass
--     def f():
--         return str(K('a'))
--
abbrev pub str_of_key_error_n3 : Expr
str_of_key_error_n3 = e 3 (x.Name (codes "str"))

abbrev pub str_of_key_error_n5 : Expr
str_of_key_error_n5 = e 5 (x.Name (codes "K"))

abbrev pub str_of_key_error_n6 : Expr
str_of_key_error_n6 = e 6 (x.StrLit (codes "a"))

abbrev pub str_of_key_error_n4 : Expr
str_of_key_error_n4 = e 4 (x.Call str_of_key_error_n5 (args (str_of_key_error_n6 ∷ []) []))

abbrev pub str_of_key_error_n2 : Expr
str_of_key_error_n2 = e 2 (x.Call str_of_key_error_n3 (args (str_of_key_error_n4 ∷ []) []))

abbrev pub str_of_key_error_n1 : Stmt
str_of_key_error_n1 = s 1 (y.Return (Some str_of_key_error_n2))

abbrev pub str_of_key_error_t1 : Expr
str_of_key_error_t1 = e 0 (x.Name (codes "module_0"))

abbrev pub str_of_key_error_t2 : Expr
str_of_key_error_t2 = e 0 (x.Method str_of_key_error_t1 (codes "f") (args [] []))

abbrev pub str_of_key_error_t3 : Stmt
str_of_key_error_t3 = s 0 (y.Assign ((target.Name (codes "var_8")) ∷ []) false None str_of_key_error_t2)

abbrev pub function_str_of_key_error_0 : Function
function_str_of_key_error_0 = record { tree = (func 0 (codes "f") [] (str_of_key_error_n1 ∷ [])); owner = None; locals = [] }

abbrev pub program_str_of_key_error : Program
program_str_of_key_error = record { functions = (function_str_of_key_error_0 ∷ []); classes = (record { name = (codes "K"); base = (Built built.KeyError); methods = []; constants = [] } ∷ []); bindings = [] }

abbrev pub state_str_of_key_error : Option FuncId → Attributes → List ObjId → World → ℕ → ℕ → Trail → State World Trail
state_str_of_key_error function variables handled objects depth left seen = record { frame = record { function = function; variables = variables; handled = handled }; space = record { names = (((codes "K"), (v.Class (Own 0))) ∷ ((codes "f"), (v.Func (func_id 0))) ∷ []); defaults = ([] ∷ []); constants = ([] ∷ []) }; objects = objects; depth = depth; left = left; seen = seen }

-- var_8 = module_0.f()
abbrev pub StrOfKeyError0 : Type 0
StrOfKeyError0 = means recorder program_str_of_key_error str_of_key_error_t3 (state_str_of_key_error None [] [] [] 0 300 []) ≡ ((Err (Left construct.StrOf)), (state_str_of_key_error None [] [] (object.Instance (Own 0) [] (Some (measured ((v.Str (codes "a")) ∷ []))) ∷ []) 0 290 (began 0 ∷ began 1 ∷ began 2 ∷ began 3 ∷ began 4 ∷ began 5 ∷ began 6 ∷ [])))

-- object called:
--
--     def f():
--         return object()
--
abbrev pub object_called_n3 : Expr
object_called_n3 = e 3 (x.Name (codes "object"))

abbrev pub object_called_n2 : Expr
object_called_n2 = e 2 (x.Call object_called_n3 (args [] []))

abbrev pub object_called_n1 : Stmt
object_called_n1 = s 1 (y.Return (Some object_called_n2))

abbrev pub object_called_t1 : Expr
object_called_t1 = e 0 (x.Name (codes "module_0"))

abbrev pub object_called_t2 : Expr
object_called_t2 = e 0 (x.Method object_called_t1 (codes "f") (args [] []))

abbrev pub object_called_t3 : Stmt
object_called_t3 = s 0 (y.Assign ((target.Name (codes "var_8")) ∷ []) false None object_called_t2)

abbrev pub function_object_called_0 : Function
function_object_called_0 = record { tree = (func 0 (codes "f") [] (object_called_n1 ∷ [])); owner = None; locals = [] }

abbrev pub program_object_called : Program
program_object_called = record { functions = (function_object_called_0 ∷ []); classes = []; bindings = [] }

abbrev pub state_object_called : Option FuncId → Attributes → List ObjId → World → ℕ → ℕ → Trail → State World Trail
state_object_called function variables handled objects depth left seen = record { frame = record { function = function; variables = variables; handled = handled }; space = record { names = (((codes "f"), (v.Func (func_id 0))) ∷ []); defaults = ([] ∷ []); constants = [] }; objects = objects; depth = depth; left = left; seen = seen }

-- var_8 = module_0.f()
abbrev pub ObjectCalled0 : Type 0
ObjectCalled0 = means recorder program_object_called object_called_t3 (state_object_called None [] [] [] 0 300 []) ≡ ((Err (Left construct.Argument)), (state_object_called None [] [] [] 0 293 (began 0 ∷ began 1 ∷ began 2 ∷ began 3 ∷ [])))

-- method leaves:
--
--     def f():
--         return [1].sort()
--
abbrev pub method_leaves_n4 : Expr
method_leaves_n4 = e 4 (x.IntLit (pos 1))

abbrev pub method_leaves_n3 : Expr
method_leaves_n3 = e 3 (x.ListLit (method_leaves_n4 ∷ []))

abbrev pub method_leaves_n2 : Expr
method_leaves_n2 = e 2 (x.Method method_leaves_n3 (codes "sort") (args [] []))

abbrev pub method_leaves_n1 : Stmt
method_leaves_n1 = s 1 (y.Return (Some method_leaves_n2))

abbrev pub method_leaves_t1 : Expr
method_leaves_t1 = e 0 (x.Name (codes "module_0"))

abbrev pub method_leaves_t2 : Expr
method_leaves_t2 = e 0 (x.Method method_leaves_t1 (codes "f") (args [] []))

abbrev pub method_leaves_t3 : Stmt
method_leaves_t3 = s 0 (y.Assign ((target.Name (codes "var_8")) ∷ []) false None method_leaves_t2)

abbrev pub function_method_leaves_0 : Function
function_method_leaves_0 = record { tree = (func 0 (codes "f") [] (method_leaves_n1 ∷ [])); owner = None; locals = [] }

abbrev pub program_method_leaves : Program
program_method_leaves = record { functions = (function_method_leaves_0 ∷ []); classes = []; bindings = [] }

abbrev pub state_method_leaves : Option FuncId → Attributes → List ObjId → World → ℕ → ℕ → Trail → State World Trail
state_method_leaves function variables handled objects depth left seen = record { frame = record { function = function; variables = variables; handled = handled }; space = record { names = (((codes "f"), (v.Func (func_id 0))) ∷ []); defaults = ([] ∷ []); constants = [] }; objects = objects; depth = depth; left = left; seen = seen }

-- var_8 = module_0.f()
abbrev pub MethodLeaves0 : Type 0
MethodLeaves0 = means recorder program_method_leaves method_leaves_t3 (state_method_leaves None [] [] [] 0 300 []) ≡ ((Err (Left construct.Method)), (state_method_leaves None [] [] (object.List ((v.Int (pos 1)) ∷ []) ∷ []) 0 291 (began 0 ∷ began 1 ∷ began 2 ∷ began 3 ∷ began 4 ∷ [])))

-- method missing before arguments:
--
--     def f():
--         return [1].foo(1 // 0)
--
abbrev pub method_missing_before_arguments_n4 : Expr
method_missing_before_arguments_n4 = e 4 (x.IntLit (pos 1))

abbrev pub method_missing_before_arguments_n3 : Expr
method_missing_before_arguments_n3 = e 3 (x.ListLit (method_missing_before_arguments_n4 ∷ []))

abbrev pub method_missing_before_arguments_n6 : Expr
method_missing_before_arguments_n6 = e 6 (x.IntLit (pos 1))

abbrev pub method_missing_before_arguments_n7 : Expr
method_missing_before_arguments_n7 = e 7 (x.IntLit (pos 0))

abbrev pub method_missing_before_arguments_n5 : Expr
method_missing_before_arguments_n5 = e 5 (x.Binary FloorDiv method_missing_before_arguments_n6 method_missing_before_arguments_n7)

abbrev pub method_missing_before_arguments_n2 : Expr
method_missing_before_arguments_n2 = e 2 (x.Method method_missing_before_arguments_n3 (codes "foo") (args (method_missing_before_arguments_n5 ∷ []) []))

abbrev pub method_missing_before_arguments_n1 : Stmt
method_missing_before_arguments_n1 = s 1 (y.Return (Some method_missing_before_arguments_n2))

abbrev pub method_missing_before_arguments_t1 : Expr
method_missing_before_arguments_t1 = e 0 (x.Name (codes "module_0"))

abbrev pub method_missing_before_arguments_t2 : Expr
method_missing_before_arguments_t2 = e 0 (x.Method method_missing_before_arguments_t1 (codes "f") (args [] []))

abbrev pub method_missing_before_arguments_t3 : Stmt
method_missing_before_arguments_t3 = s 0 (y.Assign ((target.Name (codes "var_8")) ∷ []) false None method_missing_before_arguments_t2)

abbrev pub function_method_missing_before_arguments_0 : Function
function_method_missing_before_arguments_0 = record { tree = (func 0 (codes "f") [] (method_missing_before_arguments_n1 ∷ [])); owner = None; locals = [] }

abbrev pub program_method_missing_before_arguments : Program
program_method_missing_before_arguments = record { functions = (function_method_missing_before_arguments_0 ∷ []); classes = []; bindings = [] }

abbrev pub state_method_missing_before_arguments : Option FuncId → Attributes → List ObjId → World → ℕ → ℕ → Trail → State World Trail
state_method_missing_before_arguments function variables handled objects depth left seen = record { frame = record { function = function; variables = variables; handled = handled }; space = record { names = (((codes "f"), (v.Func (func_id 0))) ∷ []); defaults = ([] ∷ []); constants = [] }; objects = objects; depth = depth; left = left; seen = seen }

-- var_8 = module_0.f()
abbrev pub MethodMissingBeforeArguments0 : Type 0
MethodMissingBeforeArguments0 = means recorder program_method_missing_before_arguments method_missing_before_arguments_t3 (state_method_missing_before_arguments None [] [] [] 0 300 []) ≡ ((Err (Raised (id 1))), (state_method_missing_before_arguments None [] [] (object.List ((v.Int (pos 1)) ∷ []) ∷ object.Instance (Built built.AttributeError) [] None ∷ []) 0 291 (began 0 ∷ began 1 ∷ began 2 ∷ began 3 ∷ began 4 ∷ [])))

-- method not called:
--
--     def f():
--         return [1].append
--
abbrev pub method_not_called_n4 : Expr
method_not_called_n4 = e 4 (x.IntLit (pos 1))

abbrev pub method_not_called_n3 : Expr
method_not_called_n3 = e 3 (x.ListLit (method_not_called_n4 ∷ []))

abbrev pub method_not_called_n2 : Expr
method_not_called_n2 = e 2 (x.Attr method_not_called_n3 (codes "append"))

abbrev pub method_not_called_n1 : Stmt
method_not_called_n1 = s 1 (y.Return (Some method_not_called_n2))

abbrev pub method_not_called_t1 : Expr
method_not_called_t1 = e 0 (x.Name (codes "module_0"))

abbrev pub method_not_called_t2 : Expr
method_not_called_t2 = e 0 (x.Method method_not_called_t1 (codes "f") (args [] []))

abbrev pub method_not_called_t3 : Stmt
method_not_called_t3 = s 0 (y.Assign ((target.Name (codes "var_8")) ∷ []) false None method_not_called_t2)

abbrev pub function_method_not_called_0 : Function
function_method_not_called_0 = record { tree = (func 0 (codes "f") [] (method_not_called_n1 ∷ [])); owner = None; locals = [] }

abbrev pub program_method_not_called : Program
program_method_not_called = record { functions = (function_method_not_called_0 ∷ []); classes = []; bindings = [] }

abbrev pub state_method_not_called : Option FuncId → Attributes → List ObjId → World → ℕ → ℕ → Trail → State World Trail
state_method_not_called function variables handled objects depth left seen = record { frame = record { function = function; variables = variables; handled = handled }; space = record { names = (((codes "f"), (v.Func (func_id 0))) ∷ []); defaults = ([] ∷ []); constants = [] }; objects = objects; depth = depth; left = left; seen = seen }

-- var_8 = module_0.f()
abbrev pub MethodNotCalled0 : Type 0
MethodNotCalled0 = means recorder program_method_not_called method_not_called_t3 (state_method_not_called None [] [] [] 0 300 []) ≡ ((Err (Left construct.MethodValue)), (state_method_not_called None [] [] (object.List ((v.Int (pos 1)) ∷ []) ∷ []) 0 291 (began 0 ∷ began 1 ∷ began 2 ∷ began 3 ∷ began 4 ∷ [])))
