-- Worked examples of assignments (7.2): what a statement of a test means, with its end, variables, objects, trail and steps left.
use Rattle.py_meaning.specs.Examples.{id, ref}
use Rattle.py_meaning.specs.Tuples.{measured}
use Rattle.py_meaning.specs.Worlds.{World, Attributes}
use Rattle.py_meaning.specs.declared.object.Object.TheVariants as object
use Rattle.py_meaning.specs.declared.value.Value.TheVariants as v
use Rattle.py_plain.specs.Examples.{e, s, args, param, func, func_id, began}
use Rattle.py_plain.specs.Program.{Function, Program}
use Rattle.py_plain.specs.Statements.{means}
use Rattle.py_plain.specs.Tests.{Trail, recorder}
use Rattle.py_plain.specs.declared.judged.Judged.TheVariants as j
use Rattle.py_plain.specs.declared.run.Abrupt.TheVariants.{Raised}
use Rattle.py_plain.specs.declared.state.State.{State}
use Rattle.py_syntax.specs.declared.expr.Expr.{Expr}
use Rattle.py_syntax.specs.declared.expr.ExprKind.TheVariants as x
use Rattle.py_syntax.specs.declared.operator.BinOp.TheVariants.{Add, FloorDiv}
use Rattle.py_syntax.specs.declared.stmt.Stmt.{Stmt}
use Rattle.py_syntax.specs.declared.stmt.StmtKind.TheVariants as y
use Rattle.py_syntax.specs.declared.stmt.Target.TheVariants as target
use Rattle.pyn_base.specs.declared.class.BuiltClass.TheVariants as built
use Rattle.pyn_base.specs.declared.class.ClassId.TheVariants.{Built}
use Rattle.pyn_base.specs.declared.ids.FuncId.{FuncId}
use Rattle.pyn_base.specs.declared.ids.ObjId.{ObjId}
use Rattle.std.proofs.Common.{◌≡◌, ℕ}
use Rattle.std.specs.Prelude.{pos, true, false, List, [], ◌∷◌, Option, Some, None, Ok, Err, codes}

-- aliasing:
--
--     def f(a, b):
--         a += [1]
--         return len(b)
--
abbrev pub aliasing_n3 : Expr
aliasing_n3 = e 3 (x.IntLit (pos 1))

abbrev pub aliasing_n2 : Expr
aliasing_n2 = e 2 (x.ListLit (aliasing_n3 ∷ []))

abbrev pub aliasing_n1 : Stmt
aliasing_n1 = s 1 (y.Augment (target.Name (codes "a")) Add aliasing_n2)

abbrev pub aliasing_n6 : Expr
aliasing_n6 = e 6 (x.Name (codes "len"))

abbrev pub aliasing_n7 : Expr
aliasing_n7 = e 7 (x.Name (codes "b"))

abbrev pub aliasing_n5 : Expr
aliasing_n5 = e 5 (x.Call aliasing_n6 (args (aliasing_n7 ∷ []) []))

abbrev pub aliasing_n4 : Stmt
aliasing_n4 = s 4 (y.Return (Some aliasing_n5))

abbrev pub aliasing_t1 : Expr
aliasing_t1 = e 0 (x.ListLit [])

abbrev pub aliasing_t2 : Stmt
aliasing_t2 = s 0 (y.Assign ((target.Name (codes "var_0")) ∷ []) false None aliasing_t1)

abbrev pub aliasing_t3 : Expr
aliasing_t3 = e 0 (x.Name (codes "module_0"))

abbrev pub aliasing_t4 : Expr
aliasing_t4 = e 0 (x.Name (codes "var_0"))

abbrev pub aliasing_t5 : Expr
aliasing_t5 = e 0 (x.Method aliasing_t3 (codes "f") (args (aliasing_t4 ∷ aliasing_t4 ∷ []) []))

abbrev pub aliasing_t6 : Stmt
aliasing_t6 = s 0 (y.Assign ((target.Name (codes "var_8")) ∷ []) false None aliasing_t5)

abbrev pub function_aliasing_0 : Function
function_aliasing_0 = record { tree = (func 0 (codes "f") ((param (codes "a") None) ∷ (param (codes "b") None) ∷ []) (aliasing_n1 ∷ aliasing_n4 ∷ [])); owner = None; locals = ((codes "a") ∷ (codes "b") ∷ (codes "a") ∷ []) }

abbrev pub program_aliasing : Program
program_aliasing = record { functions = (function_aliasing_0 ∷ []); classes = []; bindings = [] }

abbrev pub state_aliasing : Option FuncId → Attributes → List ObjId → World → ℕ → ℕ → Trail → State World Trail
state_aliasing function variables handled objects depth left seen = record { frame = record { function = function; variables = variables; handled = handled }; space = record { names = (((codes "f"), (v.Func (func_id 0))) ∷ []); defaults = ([] ∷ []); constants = [] }; objects = objects; depth = depth; left = left; seen = seen }

-- var_0 = []
abbrev pub Aliasing0 : Type 0
Aliasing0 = means recorder program_aliasing aliasing_t2 (state_aliasing None [] [] [] 0 300 []) ≡ ((Ok (v.None, (j.Plain false))), (state_aliasing None (((codes "var_0"), (ref 0)) ∷ []) [] (object.List [] ∷ []) 0 298 []))

-- var_8 = module_0.f(var_0, var_0)
abbrev pub Aliasing1 : Type 0
Aliasing1 = means recorder program_aliasing aliasing_t6 (state_aliasing None (((codes "var_0"), (ref 0)) ∷ []) [] (object.List [] ∷ []) 0 300 []) ≡ ((Ok (v.None, (j.Plain false))), (state_aliasing None (((codes "var_0"), (ref 0)) ∷ ((codes "var_8"), (v.Int (pos 1))) ∷ []) [] (object.List ((v.Int (pos 1)) ∷ []) ∷ object.List ((v.Int (pos 1)) ∷ []) ∷ []) 0 285 (began 0 ∷ began 1 ∷ began 2 ∷ began 3 ∷ began 4 ∷ began 5 ∷ began 6 ∷ began 7 ∷ [])))

-- tuple too many:
--
--     def f():
--         a, b = [1, 2, 3]
--         return a
--
abbrev pub tuple_too_many_n3 : Expr
tuple_too_many_n3 = e 3 (x.IntLit (pos 1))

abbrev pub tuple_too_many_n4 : Expr
tuple_too_many_n4 = e 4 (x.IntLit (pos 2))

abbrev pub tuple_too_many_n5 : Expr
tuple_too_many_n5 = e 5 (x.IntLit (pos 3))

abbrev pub tuple_too_many_n2 : Expr
tuple_too_many_n2 = e 2 (x.ListLit (tuple_too_many_n3 ∷ tuple_too_many_n4 ∷ tuple_too_many_n5 ∷ []))

abbrev pub tuple_too_many_n1 : Stmt
tuple_too_many_n1 = s 1 (y.Assign ((target.Name (codes "a")) ∷ (target.Name (codes "b")) ∷ []) true None tuple_too_many_n2)

abbrev pub tuple_too_many_n7 : Expr
tuple_too_many_n7 = e 7 (x.Name (codes "a"))

abbrev pub tuple_too_many_n6 : Stmt
tuple_too_many_n6 = s 6 (y.Return (Some tuple_too_many_n7))

abbrev pub tuple_too_many_t1 : Expr
tuple_too_many_t1 = e 0 (x.Name (codes "module_0"))

abbrev pub tuple_too_many_t2 : Expr
tuple_too_many_t2 = e 0 (x.Method tuple_too_many_t1 (codes "f") (args [] []))

abbrev pub tuple_too_many_t3 : Stmt
tuple_too_many_t3 = s 0 (y.Assign ((target.Name (codes "var_8")) ∷ []) false None tuple_too_many_t2)

abbrev pub function_tuple_too_many_0 : Function
function_tuple_too_many_0 = record { tree = (func 0 (codes "f") [] (tuple_too_many_n1 ∷ tuple_too_many_n6 ∷ [])); owner = None; locals = ((codes "a") ∷ (codes "b") ∷ []) }

abbrev pub program_tuple_too_many : Program
program_tuple_too_many = record { functions = (function_tuple_too_many_0 ∷ []); classes = []; bindings = [] }

abbrev pub state_tuple_too_many : Option FuncId → Attributes → List ObjId → World → ℕ → ℕ → Trail → State World Trail
state_tuple_too_many function variables handled objects depth left seen = record { frame = record { function = function; variables = variables; handled = handled }; space = record { names = (((codes "f"), (v.Func (func_id 0))) ∷ []); defaults = ([] ∷ []); constants = [] }; objects = objects; depth = depth; left = left; seen = seen }

-- var_8 = module_0.f()
abbrev pub TupleTooMany0 : Type 0
TupleTooMany0 = means recorder program_tuple_too_many tuple_too_many_t3 (state_tuple_too_many None [] [] [] 0 300 []) ≡ ((Err (Raised (id 1))), (state_tuple_too_many None [] [] (object.List ((v.Int (pos 1)) ∷ (v.Int (pos 2)) ∷ (v.Int (pos 3)) ∷ []) ∷ object.Instance (Built built.ValueError) [] None ∷ []) 0 285 (began 0 ∷ began 1 ∷ began 2 ∷ began 3 ∷ began 4 ∷ began 5 ∷ [])))

-- tuple too few:
--
--     def f():
--         a, b, c = (1, 2)
--         return a
--
abbrev pub tuple_too_few_n3 : Expr
tuple_too_few_n3 = e 3 (x.IntLit (pos 1))

abbrev pub tuple_too_few_n4 : Expr
tuple_too_few_n4 = e 4 (x.IntLit (pos 2))

abbrev pub tuple_too_few_n2 : Expr
tuple_too_few_n2 = e 2 (x.TupleLit (tuple_too_few_n3 ∷ tuple_too_few_n4 ∷ []))

abbrev pub tuple_too_few_n1 : Stmt
tuple_too_few_n1 = s 1 (y.Assign ((target.Name (codes "a")) ∷ (target.Name (codes "b")) ∷ (target.Name (codes "c")) ∷ []) true None tuple_too_few_n2)

abbrev pub tuple_too_few_n6 : Expr
tuple_too_few_n6 = e 6 (x.Name (codes "a"))

abbrev pub tuple_too_few_n5 : Stmt
tuple_too_few_n5 = s 5 (y.Return (Some tuple_too_few_n6))

abbrev pub tuple_too_few_t1 : Expr
tuple_too_few_t1 = e 0 (x.Name (codes "module_0"))

abbrev pub tuple_too_few_t2 : Expr
tuple_too_few_t2 = e 0 (x.Method tuple_too_few_t1 (codes "f") (args [] []))

abbrev pub tuple_too_few_t3 : Stmt
tuple_too_few_t3 = s 0 (y.Assign ((target.Name (codes "var_8")) ∷ []) false None tuple_too_few_t2)

abbrev pub function_tuple_too_few_0 : Function
function_tuple_too_few_0 = record { tree = (func 0 (codes "f") [] (tuple_too_few_n1 ∷ tuple_too_few_n5 ∷ [])); owner = None; locals = ((codes "a") ∷ (codes "b") ∷ (codes "c") ∷ []) }

abbrev pub program_tuple_too_few : Program
program_tuple_too_few = record { functions = (function_tuple_too_few_0 ∷ []); classes = []; bindings = [] }

abbrev pub state_tuple_too_few : Option FuncId → Attributes → List ObjId → World → ℕ → ℕ → Trail → State World Trail
state_tuple_too_few function variables handled objects depth left seen = record { frame = record { function = function; variables = variables; handled = handled }; space = record { names = (((codes "f"), (v.Func (func_id 0))) ∷ []); defaults = ([] ∷ []); constants = [] }; objects = objects; depth = depth; left = left; seen = seen }

-- var_8 = module_0.f()
abbrev pub TupleTooFew0 : Type 0
TupleTooFew0 = means recorder program_tuple_too_few tuple_too_few_t3 (state_tuple_too_few None [] [] [] 0 300 []) ≡ ((Err (Raised (id 0))), (state_tuple_too_few None [] [] (object.Instance (Built built.ValueError) [] None ∷ []) 0 288 (began 0 ∷ began 1 ∷ began 2 ∷ began 3 ∷ began 4 ∷ [])))

-- value before target:
--
--     def g():
--         raise ValueError
--     def f(a):
--         a[1 // 0] = g()
--         return a
--
abbrev pub value_before_target_n2 : Expr
value_before_target_n2 = e 2 (x.Name (codes "ValueError"))

abbrev pub value_before_target_n1 : Stmt
value_before_target_n1 = s 1 (y.Raise (Some value_before_target_n2))

abbrev pub value_before_target_n5 : Expr
value_before_target_n5 = e 5 (x.Name (codes "a"))

abbrev pub value_before_target_n7 : Expr
value_before_target_n7 = e 7 (x.IntLit (pos 1))

abbrev pub value_before_target_n8 : Expr
value_before_target_n8 = e 8 (x.IntLit (pos 0))

abbrev pub value_before_target_n6 : Expr
value_before_target_n6 = e 6 (x.Binary FloorDiv value_before_target_n7 value_before_target_n8)

abbrev pub value_before_target_n10 : Expr
value_before_target_n10 = e 10 (x.Name (codes "g"))

abbrev pub value_before_target_n9 : Expr
value_before_target_n9 = e 9 (x.Call value_before_target_n10 (args [] []))

abbrev pub value_before_target_n4 : Stmt
value_before_target_n4 = s 4 (y.Assign ((target.Index value_before_target_n5 value_before_target_n6) ∷ []) false None value_before_target_n9)

abbrev pub value_before_target_n12 : Expr
value_before_target_n12 = e 12 (x.Name (codes "a"))

abbrev pub value_before_target_n11 : Stmt
value_before_target_n11 = s 11 (y.Return (Some value_before_target_n12))

abbrev pub value_before_target_t1 : Expr
value_before_target_t1 = e 0 (x.Name (codes "module_0"))

abbrev pub value_before_target_t2 : Expr
value_before_target_t2 = e 0 (x.IntLit (pos 1))

abbrev pub value_before_target_t3 : Expr
value_before_target_t3 = e 0 (x.ListLit (value_before_target_t2 ∷ []))

abbrev pub value_before_target_t4 : Expr
value_before_target_t4 = e 0 (x.Method value_before_target_t1 (codes "f") (args (value_before_target_t3 ∷ []) []))

abbrev pub value_before_target_t5 : Stmt
value_before_target_t5 = s 0 (y.Assign ((target.Name (codes "var_8")) ∷ []) false None value_before_target_t4)

abbrev pub function_value_before_target_0 : Function
function_value_before_target_0 = record { tree = (func 0 (codes "g") [] (value_before_target_n1 ∷ [])); owner = None; locals = [] }

abbrev pub function_value_before_target_1 : Function
function_value_before_target_1 = record { tree = (func 3 (codes "f") ((param (codes "a") None) ∷ []) (value_before_target_n4 ∷ value_before_target_n11 ∷ [])); owner = None; locals = ((codes "a") ∷ []) }

abbrev pub program_value_before_target : Program
program_value_before_target = record { functions = (function_value_before_target_0 ∷ function_value_before_target_1 ∷ []); classes = []; bindings = [] }

abbrev pub state_value_before_target : Option FuncId → Attributes → List ObjId → World → ℕ → ℕ → Trail → State World Trail
state_value_before_target function variables handled objects depth left seen = record { frame = record { function = function; variables = variables; handled = handled }; space = record { names = (((codes "g"), (v.Func (func_id 0))) ∷ ((codes "f"), (v.Func (func_id 1))) ∷ []); defaults = ([] ∷ [] ∷ []); constants = [] }; objects = objects; depth = depth; left = left; seen = seen }

-- var_8 = module_0.f([1])
abbrev pub ValueBeforeTarget0 : Type 0
ValueBeforeTarget0 = means recorder program_value_before_target value_before_target_t5 (state_value_before_target None [] [] [] 0 300 []) ≡ ((Err (Raised (id 1))), (state_value_before_target None [] [] (object.List ((v.Int (pos 1)) ∷ []) ∷ object.Instance (Built built.ValueError) [] (Some (measured [])) ∷ []) 0 287 (began 3 ∷ began 4 ∷ began 9 ∷ began 10 ∷ began 0 ∷ began 1 ∷ began 2 ∷ [])))

-- augment item once:
--
--     def g():
--         return 1
--     def f():
--         a = [1, 2]
--         a[g()] += 5
--         return a
--
abbrev pub augment_item_once_n2 : Expr
augment_item_once_n2 = e 2 (x.IntLit (pos 1))

abbrev pub augment_item_once_n1 : Stmt
augment_item_once_n1 = s 1 (y.Return (Some augment_item_once_n2))

abbrev pub augment_item_once_n6 : Expr
augment_item_once_n6 = e 6 (x.IntLit (pos 1))

abbrev pub augment_item_once_n7 : Expr
augment_item_once_n7 = e 7 (x.IntLit (pos 2))

abbrev pub augment_item_once_n5 : Expr
augment_item_once_n5 = e 5 (x.ListLit (augment_item_once_n6 ∷ augment_item_once_n7 ∷ []))

abbrev pub augment_item_once_n4 : Stmt
augment_item_once_n4 = s 4 (y.Assign ((target.Name (codes "a")) ∷ []) false None augment_item_once_n5)

abbrev pub augment_item_once_n9 : Expr
augment_item_once_n9 = e 9 (x.Name (codes "a"))

abbrev pub augment_item_once_n11 : Expr
augment_item_once_n11 = e 11 (x.Name (codes "g"))

abbrev pub augment_item_once_n10 : Expr
augment_item_once_n10 = e 10 (x.Call augment_item_once_n11 (args [] []))

abbrev pub augment_item_once_n12 : Expr
augment_item_once_n12 = e 12 (x.IntLit (pos 5))

abbrev pub augment_item_once_n8 : Stmt
augment_item_once_n8 = s 8 (y.Augment (target.Index augment_item_once_n9 augment_item_once_n10) Add augment_item_once_n12)

abbrev pub augment_item_once_n14 : Expr
augment_item_once_n14 = e 14 (x.Name (codes "a"))

abbrev pub augment_item_once_n13 : Stmt
augment_item_once_n13 = s 13 (y.Return (Some augment_item_once_n14))

abbrev pub augment_item_once_t1 : Expr
augment_item_once_t1 = e 0 (x.Name (codes "module_0"))

abbrev pub augment_item_once_t2 : Expr
augment_item_once_t2 = e 0 (x.Method augment_item_once_t1 (codes "f") (args [] []))

abbrev pub augment_item_once_t3 : Stmt
augment_item_once_t3 = s 0 (y.Assign ((target.Name (codes "var_8")) ∷ []) false None augment_item_once_t2)

abbrev pub function_augment_item_once_0 : Function
function_augment_item_once_0 = record { tree = (func 0 (codes "g") [] (augment_item_once_n1 ∷ [])); owner = None; locals = [] }

abbrev pub function_augment_item_once_1 : Function
function_augment_item_once_1 = record { tree = (func 3 (codes "f") [] (augment_item_once_n4 ∷ augment_item_once_n8 ∷ augment_item_once_n13 ∷ [])); owner = None; locals = ((codes "a") ∷ []) }

abbrev pub program_augment_item_once : Program
program_augment_item_once = record { functions = (function_augment_item_once_0 ∷ function_augment_item_once_1 ∷ []); classes = []; bindings = [] }

abbrev pub state_augment_item_once : Option FuncId → Attributes → List ObjId → World → ℕ → ℕ → Trail → State World Trail
state_augment_item_once function variables handled objects depth left seen = record { frame = record { function = function; variables = variables; handled = handled }; space = record { names = (((codes "g"), (v.Func (func_id 0))) ∷ ((codes "f"), (v.Func (func_id 1))) ∷ []); defaults = ([] ∷ [] ∷ []); constants = [] }; objects = objects; depth = depth; left = left; seen = seen }

-- var_8 = module_0.f()
abbrev pub AugmentItemOnce0 : Type 0
AugmentItemOnce0 = means recorder program_augment_item_once augment_item_once_t3 (state_augment_item_once None [] [] [] 0 300 []) ≡ ((Ok (v.None, (j.Plain false))), (state_augment_item_once None (((codes "var_8"), (ref 0)) ∷ []) [] (object.List ((v.Int (pos 1)) ∷ (v.Int (pos 7)) ∷ []) ∷ []) 0 280 (began 3 ∷ began 4 ∷ began 5 ∷ began 6 ∷ began 7 ∷ began 8 ∷ began 9 ∷ began 10 ∷ began 11 ∷ began 0 ∷ began 1 ∷ began 2 ∷ began 12 ∷ began 13 ∷ began 14 ∷ [])))

-- augment list in tuple:
--
--     def f():
--         t = ([1], 2)
--         t[0] += [5]
--         return t
--
abbrev pub augment_list_in_tuple_n4 : Expr
augment_list_in_tuple_n4 = e 4 (x.IntLit (pos 1))

abbrev pub augment_list_in_tuple_n3 : Expr
augment_list_in_tuple_n3 = e 3 (x.ListLit (augment_list_in_tuple_n4 ∷ []))

abbrev pub augment_list_in_tuple_n5 : Expr
augment_list_in_tuple_n5 = e 5 (x.IntLit (pos 2))

abbrev pub augment_list_in_tuple_n2 : Expr
augment_list_in_tuple_n2 = e 2 (x.TupleLit (augment_list_in_tuple_n3 ∷ augment_list_in_tuple_n5 ∷ []))

abbrev pub augment_list_in_tuple_n1 : Stmt
augment_list_in_tuple_n1 = s 1 (y.Assign ((target.Name (codes "t")) ∷ []) false None augment_list_in_tuple_n2)

abbrev pub augment_list_in_tuple_n7 : Expr
augment_list_in_tuple_n7 = e 7 (x.Name (codes "t"))

abbrev pub augment_list_in_tuple_n8 : Expr
augment_list_in_tuple_n8 = e 8 (x.IntLit (pos 0))

abbrev pub augment_list_in_tuple_n10 : Expr
augment_list_in_tuple_n10 = e 10 (x.IntLit (pos 5))

abbrev pub augment_list_in_tuple_n9 : Expr
augment_list_in_tuple_n9 = e 9 (x.ListLit (augment_list_in_tuple_n10 ∷ []))

abbrev pub augment_list_in_tuple_n6 : Stmt
augment_list_in_tuple_n6 = s 6 (y.Augment (target.Index augment_list_in_tuple_n7 augment_list_in_tuple_n8) Add augment_list_in_tuple_n9)

abbrev pub augment_list_in_tuple_n12 : Expr
augment_list_in_tuple_n12 = e 12 (x.Name (codes "t"))

abbrev pub augment_list_in_tuple_n11 : Stmt
augment_list_in_tuple_n11 = s 11 (y.Return (Some augment_list_in_tuple_n12))

abbrev pub augment_list_in_tuple_t1 : Expr
augment_list_in_tuple_t1 = e 0 (x.Name (codes "module_0"))

abbrev pub augment_list_in_tuple_t2 : Expr
augment_list_in_tuple_t2 = e 0 (x.Method augment_list_in_tuple_t1 (codes "f") (args [] []))

abbrev pub augment_list_in_tuple_t3 : Stmt
augment_list_in_tuple_t3 = s 0 (y.Assign ((target.Name (codes "var_8")) ∷ []) false None augment_list_in_tuple_t2)

abbrev pub function_augment_list_in_tuple_0 : Function
function_augment_list_in_tuple_0 = record { tree = (func 0 (codes "f") [] (augment_list_in_tuple_n1 ∷ augment_list_in_tuple_n6 ∷ augment_list_in_tuple_n11 ∷ [])); owner = None; locals = ((codes "t") ∷ []) }

abbrev pub program_augment_list_in_tuple : Program
program_augment_list_in_tuple = record { functions = (function_augment_list_in_tuple_0 ∷ []); classes = []; bindings = [] }

abbrev pub state_augment_list_in_tuple : Option FuncId → Attributes → List ObjId → World → ℕ → ℕ → Trail → State World Trail
state_augment_list_in_tuple function variables handled objects depth left seen = record { frame = record { function = function; variables = variables; handled = handled }; space = record { names = (((codes "f"), (v.Func (func_id 0))) ∷ []); defaults = ([] ∷ []); constants = [] }; objects = objects; depth = depth; left = left; seen = seen }

-- var_8 = module_0.f()
abbrev pub AugmentListInTuple0 : Type 0
AugmentListInTuple0 = means recorder program_augment_list_in_tuple augment_list_in_tuple_t3 (state_augment_list_in_tuple None [] [] [] 0 300 []) ≡ ((Err (Raised (id 2))), (state_augment_list_in_tuple None [] [] (object.List ((v.Int (pos 1)) ∷ (v.Int (pos 5)) ∷ []) ∷ object.List ((v.Int (pos 5)) ∷ []) ∷ object.Instance (Built built.TypeError) [] None ∷ []) 0 281 (began 0 ∷ began 1 ∷ began 2 ∷ began 3 ∷ began 4 ∷ began 5 ∷ began 6 ∷ began 7 ∷ began 8 ∷ began 9 ∷ began 10 ∷ [])))

-- augment unbound:
--
--     def f():
--         x += 1
--         return x
--
abbrev pub augment_unbound_n2 : Expr
augment_unbound_n2 = e 2 (x.IntLit (pos 1))

abbrev pub augment_unbound_n1 : Stmt
augment_unbound_n1 = s 1 (y.Augment (target.Name (codes "x")) Add augment_unbound_n2)

abbrev pub augment_unbound_n4 : Expr
augment_unbound_n4 = e 4 (x.Name (codes "x"))

abbrev pub augment_unbound_n3 : Stmt
augment_unbound_n3 = s 3 (y.Return (Some augment_unbound_n4))

abbrev pub augment_unbound_t1 : Expr
augment_unbound_t1 = e 0 (x.Name (codes "module_0"))

abbrev pub augment_unbound_t2 : Expr
augment_unbound_t2 = e 0 (x.Method augment_unbound_t1 (codes "f") (args [] []))

abbrev pub augment_unbound_t3 : Stmt
augment_unbound_t3 = s 0 (y.Assign ((target.Name (codes "var_8")) ∷ []) false None augment_unbound_t2)

abbrev pub function_augment_unbound_0 : Function
function_augment_unbound_0 = record { tree = (func 0 (codes "f") [] (augment_unbound_n1 ∷ augment_unbound_n3 ∷ [])); owner = None; locals = ((codes "x") ∷ []) }

abbrev pub program_augment_unbound : Program
program_augment_unbound = record { functions = (function_augment_unbound_0 ∷ []); classes = []; bindings = [] }

abbrev pub state_augment_unbound : Option FuncId → Attributes → List ObjId → World → ℕ → ℕ → Trail → State World Trail
state_augment_unbound function variables handled objects depth left seen = record { frame = record { function = function; variables = variables; handled = handled }; space = record { names = (((codes "f"), (v.Func (func_id 0))) ∷ []); defaults = ([] ∷ []); constants = [] }; objects = objects; depth = depth; left = left; seen = seen }

-- var_8 = module_0.f()
abbrev pub AugmentUnbound0 : Type 0
AugmentUnbound0 = means recorder program_augment_unbound augment_unbound_t3 (state_augment_unbound None [] [] [] 0 300 []) ≡ ((Err (Raised (id 0))), (state_augment_unbound None [] [] (object.Instance (Built built.UnboundLocalError) [] None ∷ []) 0 295 (began 0 ∷ began 1 ∷ [])))
