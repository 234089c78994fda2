-- Worked examples of displays and operators (6.2 and 6.7): what a statement of a test means, with its end, variables, objects, trail and steps left.
use Rattle.py_meaning.specs.Examples.{id, ref}
use Rattle.py_meaning.specs.Worlds.{World, Attributes}
use Rattle.py_meaning.specs.declared.object.Object.TheVariants as object
use Rattle.py_meaning.specs.declared.value.Value.TheVariants as v
use Rattle.py_plain.specs.Examples.{e, s, args, param, func, func_id, began}
use Rattle.py_plain.specs.Program.{Function, Program}
use Rattle.py_plain.specs.Statements.{means}
use Rattle.py_plain.specs.Tests.{Trail, recorder}
use Rattle.py_plain.specs.declared.judged.Judged.TheVariants as j
use Rattle.py_plain.specs.declared.run.Abrupt.TheVariants.{Raised, Left, OutOfSteps}
use Rattle.py_plain.specs.declared.state.State.{State}
use Rattle.py_syntax.specs.declared.expr.Expr.{Expr}
use Rattle.py_syntax.specs.declared.expr.ExprKind.TheVariants as x
use Rattle.py_syntax.specs.declared.operator.BinOp.TheVariants.{Add, FloorDiv, Mod}
use Rattle.py_syntax.specs.declared.operator.CmpOp.TheVariants.{Same}
use Rattle.py_syntax.specs.declared.stmt.Stmt.{Stmt}
use Rattle.py_syntax.specs.declared.stmt.StmtKind.TheVariants as y
use Rattle.py_syntax.specs.declared.stmt.Target.TheVariants as target
use Rattle.pyn_base.specs.declared.class.BuiltClass.TheVariants as built
use Rattle.pyn_base.specs.declared.class.ClassId.TheVariants.{Built}
use Rattle.pyn_base.specs.declared.construct.Construct.TheVariants as construct
use Rattle.pyn_base.specs.declared.ids.FuncId.{FuncId}
use Rattle.pyn_base.specs.declared.ids.ObjId.{ObjId}
use Rattle.std.proofs.Common.{◌≡◌, ℕ}
use Rattle.std.specs.Prelude.{pos, true, false, List, [], ◌∷◌, Option, Some, None, Ok, Err, codes}

-- dict keeps place:
--
--     def f():
--         d = {1: 'a', 2: 'b', True: 'c'}
--         return d
--
abbrev pub dict_keeps_place_n3 : Expr
dict_keeps_place_n3 = e 3 (x.IntLit (pos 1))

abbrev pub dict_keeps_place_n4 : Expr
dict_keeps_place_n4 = e 4 (x.StrLit (codes "a"))

abbrev pub dict_keeps_place_n5 : Expr
dict_keeps_place_n5 = e 5 (x.IntLit (pos 2))

abbrev pub dict_keeps_place_n6 : Expr
dict_keeps_place_n6 = e 6 (x.StrLit (codes "b"))

abbrev pub dict_keeps_place_n7 : Expr
dict_keeps_place_n7 = e 7 (x.BoolLit true)

abbrev pub dict_keeps_place_n8 : Expr
dict_keeps_place_n8 = e 8 (x.StrLit (codes "c"))

abbrev pub dict_keeps_place_n2 : Expr
dict_keeps_place_n2 = e 2 (x.DictLit ((dict_keeps_place_n3, dict_keeps_place_n4) ∷ (dict_keeps_place_n5, dict_keeps_place_n6) ∷ (dict_keeps_place_n7, dict_keeps_place_n8) ∷ []))

abbrev pub dict_keeps_place_n1 : Stmt
dict_keeps_place_n1 = s 1 (y.Assign ((target.Name (codes "d")) ∷ []) false None dict_keeps_place_n2)

abbrev pub dict_keeps_place_n10 : Expr
dict_keeps_place_n10 = e 10 (x.Name (codes "d"))

abbrev pub dict_keeps_place_n9 : Stmt
dict_keeps_place_n9 = s 9 (y.Return (Some dict_keeps_place_n10))

abbrev pub dict_keeps_place_t1 : Expr
dict_keeps_place_t1 = e 0 (x.Name (codes "module_0"))

abbrev pub dict_keeps_place_t2 : Expr
dict_keeps_place_t2 = e 0 (x.Method dict_keeps_place_t1 (codes "f") (args [] []))

abbrev pub dict_keeps_place_t3 : Stmt
dict_keeps_place_t3 = s 0 (y.Assign ((target.Name (codes "var_8")) ∷ []) false None dict_keeps_place_t2)

abbrev pub function_dict_keeps_place_0 : Function
function_dict_keeps_place_0 = record { tree = (func 0 (codes "f") [] (dict_keeps_place_n1 ∷ dict_keeps_place_n9 ∷ [])); owner = None; locals = ((codes "d") ∷ []) }

abbrev pub program_dict_keeps_place : Program
program_dict_keeps_place = record { functions = (function_dict_keeps_place_0 ∷ []); classes = []; bindings = [] }

abbrev pub state_dict_keeps_place : Option FuncId → Attributes → List ObjId → World → ℕ → ℕ → Trail → State World Trail
state_dict_keeps_place function variables handled objects depth left seen = record { frame = record { function = function; variables = variables; handled = handled }; space = record { names = (((codes "f"), (v.Func (func_id 0))) ∷ []); defaults = ([] ∷ []); constants = [] }; objects = objects; depth = depth; left = left; seen = seen }

-- var_8 = module_0.f()
abbrev pub DictKeepsPlace0 : Type 0
DictKeepsPlace0 = means recorder program_dict_keeps_place dict_keeps_place_t3 (state_dict_keeps_place None [] [] [] 0 300 []) ≡ ((Ok (v.None, (j.Plain false))), (state_dict_keeps_place None (((codes "var_8"), (ref 0)) ∷ []) [] (object.Dict (((v.Int (pos 1)), (v.Str (codes "c"))) ∷ ((v.Int (pos 2)), (v.Str (codes "b"))) ∷ []) 2 ∷ []) 0 283 (began 0 ∷ began 1 ∷ began 2 ∷ began 3 ∷ began 4 ∷ began 5 ∷ began 6 ∷ began 7 ∷ began 8 ∷ began 9 ∷ began 10 ∷ [])))

-- dict unhashable:
--
--     def f():
--         return {1: 2, []: 3}
--
abbrev pub dict_unhashable_n3 : Expr
dict_unhashable_n3 = e 3 (x.IntLit (pos 1))

abbrev pub dict_unhashable_n4 : Expr
dict_unhashable_n4 = e 4 (x.IntLit (pos 2))

abbrev pub dict_unhashable_n5 : Expr
dict_unhashable_n5 = e 5 (x.ListLit [])

abbrev pub dict_unhashable_n6 : Expr
dict_unhashable_n6 = e 6 (x.IntLit (pos 3))

abbrev pub dict_unhashable_n2 : Expr
dict_unhashable_n2 = e 2 (x.DictLit ((dict_unhashable_n3, dict_unhashable_n4) ∷ (dict_unhashable_n5, dict_unhashable_n6) ∷ []))

abbrev pub dict_unhashable_n1 : Stmt
dict_unhashable_n1 = s 1 (y.Return (Some dict_unhashable_n2))

abbrev pub dict_unhashable_t1 : Expr
dict_unhashable_t1 = e 0 (x.Name (codes "module_0"))

abbrev pub dict_unhashable_t2 : Expr
dict_unhashable_t2 = e 0 (x.Method dict_unhashable_t1 (codes "f") (args [] []))

abbrev pub dict_unhashable_t3 : Stmt
dict_unhashable_t3 = s 0 (y.Assign ((target.Name (codes "var_8")) ∷ []) false None dict_unhashable_t2)

abbrev pub function_dict_unhashable_0 : Function
function_dict_unhashable_0 = record { tree = (func 0 (codes "f") [] (dict_unhashable_n1 ∷ [])); owner = None; locals = [] }

abbrev pub program_dict_unhashable : Program
program_dict_unhashable = record { functions = (function_dict_unhashable_0 ∷ []); classes = []; bindings = [] }

abbrev pub state_dict_unhashable : Option FuncId → Attributes → List ObjId → World → ℕ → ℕ → Trail → State World Trail
state_dict_unhashable function variables handled objects depth left seen = record { frame = record { function = function; variables = variables; handled = handled }; space = record { names = (((codes "f"), (v.Func (func_id 0))) ∷ []); defaults = ([] ∷ []); constants = [] }; objects = objects; depth = depth; left = left; seen = seen }

-- var_8 = module_0.f()
abbrev pub DictUnhashable0 : Type 0
DictUnhashable0 = means recorder program_dict_unhashable dict_unhashable_t3 (state_dict_unhashable None [] [] [] 0 300 []) ≡ ((Err (Raised (id 1))), (state_dict_unhashable None [] [] (object.List [] ∷ object.Instance (Built built.TypeError) [] None ∷ []) 0 288 (began 0 ∷ began 1 ∷ began 2 ∷ began 3 ∷ began 4 ∷ began 5 ∷ began 6 ∷ [])))

-- list runs out:
--
--     def f():
--         return [1, 2, 3]
--
abbrev pub list_runs_out_n3 : Expr
list_runs_out_n3 = e 3 (x.IntLit (pos 1))

abbrev pub list_runs_out_n4 : Expr
list_runs_out_n4 = e 4 (x.IntLit (pos 2))

abbrev pub list_runs_out_n5 : Expr
list_runs_out_n5 = e 5 (x.IntLit (pos 3))

abbrev pub list_runs_out_n2 : Expr
list_runs_out_n2 = e 2 (x.ListLit (list_runs_out_n3 ∷ list_runs_out_n4 ∷ list_runs_out_n5 ∷ []))

abbrev pub list_runs_out_n1 : Stmt
list_runs_out_n1 = s 1 (y.Return (Some list_runs_out_n2))

abbrev pub list_runs_out_t1 : Expr
list_runs_out_t1 = e 0 (x.Name (codes "module_0"))

abbrev pub list_runs_out_t2 : Expr
list_runs_out_t2 = e 0 (x.Method list_runs_out_t1 (codes "f") (args [] []))

abbrev pub list_runs_out_t3 : Stmt
list_runs_out_t3 = s 0 (y.Assign ((target.Name (codes "var_8")) ∷ []) false None list_runs_out_t2)

abbrev pub function_list_runs_out_0 : Function
function_list_runs_out_0 = record { tree = (func 0 (codes "f") [] (list_runs_out_n1 ∷ [])); owner = None; locals = [] }

abbrev pub program_list_runs_out : Program
program_list_runs_out = record { functions = (function_list_runs_out_0 ∷ []); classes = []; bindings = [] }

abbrev pub state_list_runs_out : Option FuncId → Attributes → List ObjId → World → ℕ → ℕ → Trail → State World Trail
state_list_runs_out function variables handled objects depth left seen = record { frame = record { function = function; variables = variables; handled = handled }; space = record { names = (((codes "f"), (v.Func (func_id 0))) ∷ []); defaults = ([] ∷ []); constants = [] }; objects = objects; depth = depth; left = left; seen = seen }

-- var_8 = module_0.f()
abbrev pub ListRunsOut0 : Type 0
ListRunsOut0 = means recorder program_list_runs_out list_runs_out_t3 (state_list_runs_out None [] [] [] 0 9 []) ≡ ((Err OutOfSteps), (state_list_runs_out None [] [] [] 0 0 (began 0 ∷ began 1 ∷ began 2 ∷ began 3 ∷ began 4 ∷ began 5 ∷ [])))

-- integer range:
--
--     def f(a):
--         return a + 1
--
abbrev pub integer_range_n3 : Expr
integer_range_n3 = e 3 (x.Name (codes "a"))

abbrev pub integer_range_n4 : Expr
integer_range_n4 = e 4 (x.IntLit (pos 1))

abbrev pub integer_range_n2 : Expr
integer_range_n2 = e 2 (x.Binary Add integer_range_n3 integer_range_n4)

abbrev pub integer_range_n1 : Stmt
integer_range_n1 = s 1 (y.Return (Some integer_range_n2))

abbrev pub integer_range_t1 : Expr
integer_range_t1 = e 0 (x.Name (codes "module_0"))

abbrev pub integer_range_t2 : Expr
integer_range_t2 = e 0 (x.IntLit (pos 170141183460469231731687303715884105727))

abbrev pub integer_range_t3 : Expr
integer_range_t3 = e 0 (x.Method integer_range_t1 (codes "f") (args (integer_range_t2 ∷ []) []))

abbrev pub integer_range_t4 : Stmt
integer_range_t4 = s 0 (y.Assign ((target.Name (codes "var_8")) ∷ []) false None integer_range_t3)

abbrev pub function_integer_range_0 : Function
function_integer_range_0 = record { tree = (func 0 (codes "f") ((param (codes "a") None) ∷ []) (integer_range_n1 ∷ [])); owner = None; locals = ((codes "a") ∷ []) }

abbrev pub program_integer_range : Program
program_integer_range = record { functions = (function_integer_range_0 ∷ []); classes = []; bindings = [] }

abbrev pub state_integer_range : Option FuncId → Attributes → List ObjId → World → ℕ → ℕ → Trail → State World Trail
state_integer_range function variables handled objects depth left seen = record { frame = record { function = function; variables = variables; handled = handled }; space = record { names = (((codes "f"), (v.Func (func_id 0))) ∷ []); defaults = ([] ∷ []); constants = [] }; objects = objects; depth = depth; left = left; seen = seen }

-- var_8 = module_0.f(170141183460469231731687303715884105727)
abbrev pub IntegerRange0 : Type 0
IntegerRange0 = means recorder program_integer_range integer_range_t4 (state_integer_range None [] [] [] 0 300 []) ≡ ((Err (Left construct.IntegerRange)), (state_integer_range None [] [] [] 0 291 (began 0 ∷ began 1 ∷ began 2 ∷ began 3 ∷ began 4 ∷ [])))

-- zero division:
--
--     def f(a):
--         return 1 // a
--
abbrev pub zero_division_n3 : Expr
zero_division_n3 = e 3 (x.IntLit (pos 1))

abbrev pub zero_division_n4 : Expr
zero_division_n4 = e 4 (x.Name (codes "a"))

abbrev pub zero_division_n2 : Expr
zero_division_n2 = e 2 (x.Binary FloorDiv zero_division_n3 zero_division_n4)

abbrev pub zero_division_n1 : Stmt
zero_division_n1 = s 1 (y.Return (Some zero_division_n2))

abbrev pub zero_division_t1 : Expr
zero_division_t1 = e 0 (x.Name (codes "module_0"))

abbrev pub zero_division_t2 : Expr
zero_division_t2 = e 0 (x.IntLit (pos 0))

abbrev pub zero_division_t3 : Expr
zero_division_t3 = e 0 (x.Method zero_division_t1 (codes "f") (args (zero_division_t2 ∷ []) []))

abbrev pub zero_division_t4 : Stmt
zero_division_t4 = s 0 (y.Assign ((target.Name (codes "var_8")) ∷ []) false None zero_division_t3)

abbrev pub function_zero_division_0 : Function
function_zero_division_0 = record { tree = (func 0 (codes "f") ((param (codes "a") None) ∷ []) (zero_division_n1 ∷ [])); owner = None; locals = ((codes "a") ∷ []) }

abbrev pub program_zero_division : Program
program_zero_division = record { functions = (function_zero_division_0 ∷ []); classes = []; bindings = [] }

abbrev pub state_zero_division : Option FuncId → Attributes → List ObjId → World → ℕ → ℕ → Trail → State World Trail
state_zero_division function variables handled objects depth left seen = record { frame = record { function = function; variables = variables; handled = handled }; space = record { names = (((codes "f"), (v.Func (func_id 0))) ∷ []); defaults = ([] ∷ []); constants = [] }; objects = objects; depth = depth; left = left; seen = seen }

-- var_8 = module_0.f(0)
abbrev pub ZeroDivision0 : Type 0
ZeroDivision0 = means recorder program_zero_division zero_division_t4 (state_zero_division None [] [] [] 0 300 []) ≡ ((Err (Raised (id 0))), (state_zero_division None [] [] (object.Instance (Built built.ZeroDivisionError) [] None ∷ []) 0 291 (began 0 ∷ began 1 ∷ began 2 ∷ began 3 ∷ began 4 ∷ [])))

-- string format:
--
--     def f():
--         return 'a' % 1
--
abbrev pub string_format_n3 : Expr
string_format_n3 = e 3 (x.StrLit (codes "a"))

abbrev pub string_format_n4 : Expr
string_format_n4 = e 4 (x.IntLit (pos 1))

abbrev pub string_format_n2 : Expr
string_format_n2 = e 2 (x.Binary Mod string_format_n3 string_format_n4)

abbrev pub string_format_n1 : Stmt
string_format_n1 = s 1 (y.Return (Some string_format_n2))

abbrev pub string_format_t1 : Expr
string_format_t1 = e 0 (x.Name (codes "module_0"))

abbrev pub string_format_t2 : Expr
string_format_t2 = e 0 (x.Method string_format_t1 (codes "f") (args [] []))

abbrev pub string_format_t3 : Stmt
string_format_t3 = s 0 (y.Assign ((target.Name (codes "var_8")) ∷ []) false None string_format_t2)

abbrev pub function_string_format_0 : Function
function_string_format_0 = record { tree = (func 0 (codes "f") [] (string_format_n1 ∷ [])); owner = None; locals = [] }

abbrev pub program_string_format : Program
program_string_format = record { functions = (function_string_format_0 ∷ []); classes = []; bindings = [] }

abbrev pub state_string_format : Option FuncId → Attributes → List ObjId → World → ℕ → ℕ → Trail → State World Trail
state_string_format function variables handled objects depth left seen = record { frame = record { function = function; variables = variables; handled = handled }; space = record { names = (((codes "f"), (v.Func (func_id 0))) ∷ []); defaults = ([] ∷ []); constants = [] }; objects = objects; depth = depth; left = left; seen = seen }

-- var_8 = module_0.f()
abbrev pub StringFormat0 : Type 0
StringFormat0 = means recorder program_string_format string_format_t3 (state_string_format None [] [] [] 0 300 []) ≡ ((Err (Left construct.StringFormat)), (state_string_format None [] [] [] 0 292 (began 0 ∷ began 1 ∷ began 2 ∷ began 3 ∷ began 4 ∷ [])))

-- identity:
--
--     def f():
--         return 1 is 1
--
abbrev pub identity_n3 : Expr
identity_n3 = e 3 (x.IntLit (pos 1))

abbrev pub identity_n4 : Expr
identity_n4 = e 4 (x.IntLit (pos 1))

abbrev pub identity_n2 : Expr
identity_n2 = e 2 (x.Compare identity_n3 ((Same, identity_n4) ∷ []))

abbrev pub identity_n1 : Stmt
identity_n1 = s 1 (y.Return (Some identity_n2))

abbrev pub identity_t1 : Expr
identity_t1 = e 0 (x.Name (codes "module_0"))

abbrev pub identity_t2 : Expr
identity_t2 = e 0 (x.Method identity_t1 (codes "f") (args [] []))

abbrev pub identity_t3 : Stmt
identity_t3 = s 0 (y.Assign ((target.Name (codes "var_8")) ∷ []) false None identity_t2)

abbrev pub function_identity_0 : Function
function_identity_0 = record { tree = (func 0 (codes "f") [] (identity_n1 ∷ [])); owner = None; locals = [] }

abbrev pub program_identity : Program
program_identity = record { functions = (function_identity_0 ∷ []); classes = []; bindings = [] }

abbrev pub state_identity : Option FuncId → Attributes → List ObjId → World → ℕ → ℕ → Trail → State World Trail
state_identity function variables handled objects depth left seen = record { frame = record { function = function; variables = variables; handled = handled }; space = record { names = (((codes "f"), (v.Func (func_id 0))) ∷ []); defaults = ([] ∷ []); constants = [] }; objects = objects; depth = depth; left = left; seen = seen }

-- var_8 = module_0.f()
abbrev pub Identity0 : Type 0
Identity0 = means recorder program_identity identity_t3 (state_identity None [] [] [] 0 300 []) ≡ ((Err (Left construct.Identity)), (state_identity None [] [] [] 0 292 (began 0 ∷ began 1 ∷ began 2 ∷ began 3 ∷ began 4 ∷ [])))

-- subscript of class:
--
--     def f():
--         return int[1]
--
abbrev pub subscript_of_class_n3 : Expr
subscript_of_class_n3 = e 3 (x.Name (codes "int"))

abbrev pub subscript_of_class_n4 : Expr
subscript_of_class_n4 = e 4 (x.IntLit (pos 1))

abbrev pub subscript_of_class_n2 : Expr
subscript_of_class_n2 = e 2 (x.Index subscript_of_class_n3 subscript_of_class_n4)

abbrev pub subscript_of_class_n1 : Stmt
subscript_of_class_n1 = s 1 (y.Return (Some subscript_of_class_n2))

abbrev pub subscript_of_class_t1 : Expr
subscript_of_class_t1 = e 0 (x.Name (codes "module_0"))

abbrev pub subscript_of_class_t2 : Expr
subscript_of_class_t2 = e 0 (x.Method subscript_of_class_t1 (codes "f") (args [] []))

abbrev pub subscript_of_class_t3 : Stmt
subscript_of_class_t3 = s 0 (y.Assign ((target.Name (codes "var_8")) ∷ []) false None subscript_of_class_t2)

abbrev pub function_subscript_of_class_0 : Function
function_subscript_of_class_0 = record { tree = (func 0 (codes "f") [] (subscript_of_class_n1 ∷ [])); owner = None; locals = [] }

abbrev pub program_subscript_of_class : Program
program_subscript_of_class = record { functions = (function_subscript_of_class_0 ∷ []); classes = []; bindings = [] }

abbrev pub state_subscript_of_class : Option FuncId → Attributes → List ObjId → World → ℕ → ℕ → Trail → State World Trail
state_subscript_of_class function variables handled objects depth left seen = record { frame = record { function = function; variables = variables; handled = handled }; space = record { names = (((codes "f"), (v.Func (func_id 0))) ∷ []); defaults = ([] ∷ []); constants = [] }; objects = objects; depth = depth; left = left; seen = seen }

-- var_8 = module_0.f()
abbrev pub SubscriptOfClass0 : Type 0
SubscriptOfClass0 = means recorder program_subscript_of_class subscript_of_class_t3 (state_subscript_of_class None [] [] [] 0 300 []) ≡ ((Err (Left construct.SubscriptOfAClass)), (state_subscript_of_class None [] [] [] 0 292 (began 0 ∷ began 1 ∷ began 2 ∷ began 3 ∷ began 4 ∷ [])))

-- view operand:
--
--     def f():
--         return range(3) + 1
--
abbrev pub view_operand_n4 : Expr
view_operand_n4 = e 4 (x.Name (codes "range"))

abbrev pub view_operand_n5 : Expr
view_operand_n5 = e 5 (x.IntLit (pos 3))

abbrev pub view_operand_n3 : Expr
view_operand_n3 = e 3 (x.Call view_operand_n4 (args (view_operand_n5 ∷ []) []))

abbrev pub view_operand_n6 : Expr
view_operand_n6 = e 6 (x.IntLit (pos 1))

abbrev pub view_operand_n2 : Expr
view_operand_n2 = e 2 (x.Binary Add view_operand_n3 view_operand_n6)

abbrev pub view_operand_n1 : Stmt
view_operand_n1 = s 1 (y.Return (Some view_operand_n2))

abbrev pub view_operand_t1 : Expr
view_operand_t1 = e 0 (x.Name (codes "module_0"))

abbrev pub view_operand_t2 : Expr
view_operand_t2 = e 0 (x.Method view_operand_t1 (codes "f") (args [] []))

abbrev pub view_operand_t3 : Stmt
view_operand_t3 = s 0 (y.Assign ((target.Name (codes "var_8")) ∷ []) false None view_operand_t2)

abbrev pub function_view_operand_0 : Function
function_view_operand_0 = record { tree = (func 0 (codes "f") [] (view_operand_n1 ∷ [])); owner = None; locals = [] }

abbrev pub program_view_operand : Program
program_view_operand = record { functions = (function_view_operand_0 ∷ []); classes = []; bindings = [] }

abbrev pub state_view_operand : Option FuncId → Attributes → List ObjId → World → ℕ → ℕ → Trail → State World Trail
state_view_operand function variables handled objects depth left seen = record { frame = record { function = function; variables = variables; handled = handled }; space = record { names = (((codes "f"), (v.Func (func_id 0))) ∷ []); defaults = ([] ∷ []); constants = [] }; objects = objects; depth = depth; left = left; seen = seen }

-- var_8 = module_0.f()
abbrev pub ViewOperand0 : Type 0
ViewOperand0 = means recorder program_view_operand view_operand_t3 (state_view_operand None [] [] [] 0 300 []) ≡ ((Err (Left construct.View)), (state_view_operand None [] [] [] 0 290 (began 0 ∷ began 1 ∷ began 2 ∷ began 3 ∷ began 4 ∷ began 5 ∷ began 6 ∷ [])))
