-- Worked examples of loops (8.2 and 8.3): what a statement of a test means, with its end, variables, objects, trail and steps left.
use Rattle.py_meaning.specs.Examples.{id, ref}
use Rattle.py_meaning.specs.Worlds.{World, Attributes}
use Rattle.py_meaning.specs.declared.object.Object.TheVariants as object
use Rattle.py_meaning.specs.declared.value.Value.TheVariants as v
use Rattle.py_plain.specs.Examples.{e, s, node, args, param, func, func_id, began}
use Rattle.py_plain.specs.Program.{Function, Program}
use Rattle.py_plain.specs.Statements.{means}
use Rattle.py_plain.specs.Tests.{Trail, recorder, Decided}
use Rattle.py_plain.specs.declared.judged.Judged.TheVariants as j
use Rattle.py_plain.specs.declared.run.Abrupt.TheVariants.{Raised, Left, OutOfSteps}
use Rattle.py_plain.specs.declared.state.State.{State}
use Rattle.py_syntax.specs.declared.expr.Expr.{Expr}
use Rattle.py_syntax.specs.declared.expr.ExprKind.TheVariants as x
use Rattle.py_syntax.specs.declared.operator.BinOp.TheVariants.{Add}
use Rattle.py_syntax.specs.declared.operator.CmpOp.TheVariants.{Lt}
use Rattle.py_syntax.specs.declared.stmt.Stmt.{Stmt}
use Rattle.py_syntax.specs.declared.stmt.StmtKind.TheVariants as y
use Rattle.py_syntax.specs.declared.stmt.Target.TheVariants as target
use Rattle.pyn_base.specs.declared.class.BuiltClass.TheVariants as built
use Rattle.pyn_base.specs.declared.class.ClassId.TheVariants.{Built}
use Rattle.pyn_base.specs.declared.construct.Construct.TheVariants as construct
use Rattle.pyn_base.specs.declared.ids.FuncId.{FuncId}
use Rattle.pyn_base.specs.declared.ids.ObjId.{ObjId}
use Rattle.std.proofs.Common.{◌≡◌, ℕ}
use Rattle.std.specs.Prelude.{pos, true, false, List, [], ◌∷◌, Option, Some, None, Ok, Err, codes}

-- for grows:
--
--     def f():
--         a = [1]
--         for x in a:
--             if x < 4:
--                 a.append(x + 1)
--         return a
--
abbrev pub for_grows_n3 : Expr
for_grows_n3 = e 3 (x.IntLit (pos 1))

abbrev pub for_grows_n2 : Expr
for_grows_n2 = e 2 (x.ListLit (for_grows_n3 ∷ []))

abbrev pub for_grows_n1 : Stmt
for_grows_n1 = s 1 (y.Assign ((target.Name (codes "a")) ∷ []) false None for_grows_n2)

abbrev pub for_grows_n5 : Expr
for_grows_n5 = e 5 (x.Name (codes "a"))

abbrev pub for_grows_n8 : Expr
for_grows_n8 = e 8 (x.Name (codes "x"))

abbrev pub for_grows_n9 : Expr
for_grows_n9 = e 9 (x.IntLit (pos 4))

abbrev pub for_grows_n7 : Expr
for_grows_n7 = e 7 (x.Compare for_grows_n8 ((Lt, for_grows_n9) ∷ []))

abbrev pub for_grows_n12 : Expr
for_grows_n12 = e 12 (x.Name (codes "a"))

abbrev pub for_grows_n14 : Expr
for_grows_n14 = e 14 (x.Name (codes "x"))

abbrev pub for_grows_n15 : Expr
for_grows_n15 = e 15 (x.IntLit (pos 1))

abbrev pub for_grows_n13 : Expr
for_grows_n13 = e 13 (x.Binary Add for_grows_n14 for_grows_n15)

abbrev pub for_grows_n11 : Expr
for_grows_n11 = e 11 (x.Method for_grows_n12 (codes "append") (args (for_grows_n13 ∷ []) []))

abbrev pub for_grows_n10 : Stmt
for_grows_n10 = s 10 (y.Bare for_grows_n11)

abbrev pub for_grows_n6 : Stmt
for_grows_n6 = s 6 (y.If ((for_grows_n7, (for_grows_n10 ∷ [])) ∷ []) None)

abbrev pub for_grows_n4 : Stmt
for_grows_n4 = s 4 (y.For ((codes "x") ∷ []) false for_grows_n5 (for_grows_n6 ∷ []))

abbrev pub for_grows_n17 : Expr
for_grows_n17 = e 17 (x.Name (codes "a"))

abbrev pub for_grows_n16 : Stmt
for_grows_n16 = s 16 (y.Return (Some for_grows_n17))

abbrev pub for_grows_t1 : Expr
for_grows_t1 = e 0 (x.Name (codes "module_0"))

abbrev pub for_grows_t2 : Expr
for_grows_t2 = e 0 (x.Method for_grows_t1 (codes "f") (args [] []))

abbrev pub for_grows_t3 : Stmt
for_grows_t3 = s 0 (y.Assign ((target.Name (codes "var_8")) ∷ []) false None for_grows_t2)

abbrev pub function_for_grows_0 : Function
function_for_grows_0 = record { tree = (func 0 (codes "f") [] (for_grows_n1 ∷ for_grows_n4 ∷ for_grows_n16 ∷ [])); owner = None; locals = ((codes "a") ∷ (codes "x") ∷ []) }

abbrev pub program_for_grows : Program
program_for_grows = record { functions = (function_for_grows_0 ∷ []); classes = []; bindings = [] }

abbrev pub state_for_grows : Option FuncId → Attributes → List ObjId → World → ℕ → ℕ → Trail → State World Trail
state_for_grows function variables handled objects depth left seen = record { frame = record { function = function; variables = variables; handled = handled }; space = record { names = (((codes "f"), (v.Func (func_id 0))) ∷ []); defaults = ([] ∷ []); constants = [] }; objects = objects; depth = depth; left = left; seen = seen }

-- var_8 = module_0.f()
abbrev pub ForGrows0 : Type 0
ForGrows0 = means recorder program_for_grows for_grows_t3 (state_for_grows None [] [] [] 0 300 []) ≡ ((Ok (v.None, (j.Plain false))), (state_for_grows None (((codes "var_8"), (ref 0)) ∷ []) [] (object.List ((v.Int (pos 1)) ∷ (v.Int (pos 2)) ∷ (v.Int (pos 3)) ∷ (v.Int (pos 4)) ∷ []) ∷ []) 0 247 (began 0 ∷ began 1 ∷ began 2 ∷ began 3 ∷ began 4 ∷ began 5 ∷ Decided (node 4) (j.Plain true) true ∷ began 6 ∷ began 7 ∷ began 8 ∷ began 9 ∷ Decided (node 7) (j.Ints Lt (pos 1) (pos 4)) true ∷ began 10 ∷ began 11 ∷ began 12 ∷ began 13 ∷ began 14 ∷ began 15 ∷ Decided (node 4) (j.Plain true) true ∷ began 6 ∷ began 7 ∷ began 8 ∷ began 9 ∷ Decided (node 7) (j.Ints Lt (pos 2) (pos 4)) true ∷ began 10 ∷ began 11 ∷ began 12 ∷ began 13 ∷ began 14 ∷ began 15 ∷ Decided (node 4) (j.Plain true) true ∷ began 6 ∷ began 7 ∷ began 8 ∷ began 9 ∷ Decided (node 7) (j.Ints Lt (pos 3) (pos 4)) true ∷ began 10 ∷ began 11 ∷ began 12 ∷ began 13 ∷ began 14 ∷ began 15 ∷ Decided (node 4) (j.Plain true) true ∷ began 6 ∷ began 7 ∷ began 8 ∷ began 9 ∷ Decided (node 7) (j.Ints Lt (pos 4) (pos 4)) false ∷ Decided (node 4) (j.Plain false) false ∷ began 16 ∷ began 17 ∷ [])))

-- for dict changed:
--
--     def f():
--         d = {1: 2, 3: 4}
--         for k in d:
--             del d[k]
--             d[9] = 1
--         return d
--
abbrev pub for_dict_changed_n3 : Expr
for_dict_changed_n3 = e 3 (x.IntLit (pos 1))

abbrev pub for_dict_changed_n4 : Expr
for_dict_changed_n4 = e 4 (x.IntLit (pos 2))

abbrev pub for_dict_changed_n5 : Expr
for_dict_changed_n5 = e 5 (x.IntLit (pos 3))

abbrev pub for_dict_changed_n6 : Expr
for_dict_changed_n6 = e 6 (x.IntLit (pos 4))

abbrev pub for_dict_changed_n2 : Expr
for_dict_changed_n2 = e 2 (x.DictLit ((for_dict_changed_n3, for_dict_changed_n4) ∷ (for_dict_changed_n5, for_dict_changed_n6) ∷ []))

abbrev pub for_dict_changed_n1 : Stmt
for_dict_changed_n1 = s 1 (y.Assign ((target.Name (codes "d")) ∷ []) false None for_dict_changed_n2)

abbrev pub for_dict_changed_n8 : Expr
for_dict_changed_n8 = e 8 (x.Name (codes "d"))

abbrev pub for_dict_changed_n10 : Expr
for_dict_changed_n10 = e 10 (x.Name (codes "d"))

abbrev pub for_dict_changed_n11 : Expr
for_dict_changed_n11 = e 11 (x.Name (codes "k"))

abbrev pub for_dict_changed_n9 : Stmt
for_dict_changed_n9 = s 9 (y.Del for_dict_changed_n10 for_dict_changed_n11)

abbrev pub for_dict_changed_n13 : Expr
for_dict_changed_n13 = e 13 (x.Name (codes "d"))

abbrev pub for_dict_changed_n14 : Expr
for_dict_changed_n14 = e 14 (x.IntLit (pos 9))

abbrev pub for_dict_changed_n15 : Expr
for_dict_changed_n15 = e 15 (x.IntLit (pos 1))

abbrev pub for_dict_changed_n12 : Stmt
for_dict_changed_n12 = s 12 (y.Assign ((target.Index for_dict_changed_n13 for_dict_changed_n14) ∷ []) false None for_dict_changed_n15)

abbrev pub for_dict_changed_n7 : Stmt
for_dict_changed_n7 = s 7 (y.For ((codes "k") ∷ []) false for_dict_changed_n8 (for_dict_changed_n9 ∷ for_dict_changed_n12 ∷ []))

abbrev pub for_dict_changed_n17 : Expr
for_dict_changed_n17 = e 17 (x.Name (codes "d"))

abbrev pub for_dict_changed_n16 : Stmt
for_dict_changed_n16 = s 16 (y.Return (Some for_dict_changed_n17))

abbrev pub for_dict_changed_t1 : Expr
for_dict_changed_t1 = e 0 (x.Name (codes "module_0"))

abbrev pub for_dict_changed_t2 : Expr
for_dict_changed_t2 = e 0 (x.Method for_dict_changed_t1 (codes "f") (args [] []))

abbrev pub for_dict_changed_t3 : Stmt
for_dict_changed_t3 = s 0 (y.Assign ((target.Name (codes "var_8")) ∷ []) false None for_dict_changed_t2)

abbrev pub function_for_dict_changed_0 : Function
function_for_dict_changed_0 = record { tree = (func 0 (codes "f") [] (for_dict_changed_n1 ∷ for_dict_changed_n7 ∷ for_dict_changed_n16 ∷ [])); owner = None; locals = ((codes "d") ∷ (codes "k") ∷ []) }

abbrev pub program_for_dict_changed : Program
program_for_dict_changed = record { functions = (function_for_dict_changed_0 ∷ []); classes = []; bindings = [] }

abbrev pub state_for_dict_changed : Option FuncId → Attributes → List ObjId → World → ℕ → ℕ → Trail → State World Trail
state_for_dict_changed function variables handled objects depth left seen = record { frame = record { function = function; variables = variables; handled = handled }; space = record { names = (((codes "f"), (v.Func (func_id 0))) ∷ []); defaults = ([] ∷ []); constants = [] }; objects = objects; depth = depth; left = left; seen = seen }

-- var_8 = module_0.f()
abbrev pub ForDictChanged0 : Type 0
ForDictChanged0 = means recorder program_for_dict_changed for_dict_changed_t3 (state_for_dict_changed None [] [] [] 0 300 []) ≡ ((Err (Left construct.DictChanged)), (state_for_dict_changed None [] [] (object.Dict (((v.Int (pos 3)), (v.Int (pos 4))) ∷ ((v.Int (pos 9)), (v.Int (pos 1))) ∷ []) 4 ∷ []) 0 274 (began 0 ∷ began 1 ∷ began 2 ∷ began 3 ∷ began 4 ∷ began 5 ∷ began 6 ∷ began 7 ∷ began 8 ∷ Decided (node 7) (j.Plain true) true ∷ began 9 ∷ began 10 ∷ began 11 ∷ began 12 ∷ began 15 ∷ began 13 ∷ began 14 ∷ [])))

-- for empty:
--
--     def f():
--         for c in "":
--             pass
--         return 1
--
abbrev pub for_empty_n2 : Expr
for_empty_n2 = e 2 (x.StrLit [])

abbrev pub for_empty_n3 : Stmt
for_empty_n3 = s 3 y.Pass

abbrev pub for_empty_n1 : Stmt
for_empty_n1 = s 1 (y.For ((codes "c") ∷ []) false for_empty_n2 (for_empty_n3 ∷ []))

abbrev pub for_empty_n5 : Expr
for_empty_n5 = e 5 (x.IntLit (pos 1))

abbrev pub for_empty_n4 : Stmt
for_empty_n4 = s 4 (y.Return (Some for_empty_n5))

abbrev pub for_empty_t1 : Expr
for_empty_t1 = e 0 (x.Name (codes "module_0"))

abbrev pub for_empty_t2 : Expr
for_empty_t2 = e 0 (x.Method for_empty_t1 (codes "f") (args [] []))

abbrev pub for_empty_t3 : Stmt
for_empty_t3 = s 0 (y.Assign ((target.Name (codes "var_8")) ∷ []) false None for_empty_t2)

abbrev pub function_for_empty_0 : Function
function_for_empty_0 = record { tree = (func 0 (codes "f") [] (for_empty_n1 ∷ for_empty_n4 ∷ [])); owner = None; locals = ((codes "c") ∷ []) }

abbrev pub program_for_empty : Program
program_for_empty = record { functions = (function_for_empty_0 ∷ []); classes = []; bindings = [] }

abbrev pub state_for_empty : Option FuncId → Attributes → List ObjId → World → ℕ → ℕ → Trail → State World Trail
state_for_empty function variables handled objects depth left seen = record { frame = record { function = function; variables = variables; handled = handled }; space = record { names = (((codes "f"), (v.Func (func_id 0))) ∷ []); defaults = ([] ∷ []); constants = [] }; objects = objects; depth = depth; left = left; seen = seen }

-- var_8 = module_0.f()
abbrev pub ForEmpty0 : Type 0
ForEmpty0 = means recorder program_for_empty for_empty_t3 (state_for_empty None [] [] [] 0 300 []) ≡ ((Ok (v.None, (j.Plain false))), (state_for_empty None (((codes "var_8"), (v.Int (pos 1))) ∷ []) [] [] 0 292 (began 0 ∷ began 1 ∷ began 2 ∷ Decided (node 1) (j.Plain false) false ∷ began 4 ∷ began 5 ∷ [])))

-- while forever:
--
--     def f():
--         while True:
--             pass
--
abbrev pub while_forever_n2 : Expr
while_forever_n2 = e 2 (x.BoolLit true)

abbrev pub while_forever_n3 : Stmt
while_forever_n3 = s 3 y.Pass

abbrev pub while_forever_n1 : Stmt
while_forever_n1 = s 1 (y.While while_forever_n2 (while_forever_n3 ∷ []))

abbrev pub while_forever_t1 : Expr
while_forever_t1 = e 0 (x.Name (codes "module_0"))

abbrev pub while_forever_t2 : Expr
while_forever_t2 = e 0 (x.Method while_forever_t1 (codes "f") (args [] []))

abbrev pub while_forever_t3 : Stmt
while_forever_t3 = s 0 (y.Assign ((target.Name (codes "var_8")) ∷ []) false None while_forever_t2)

abbrev pub function_while_forever_0 : Function
function_while_forever_0 = record { tree = (func 0 (codes "f") [] (while_forever_n1 ∷ [])); owner = None; locals = [] }

abbrev pub program_while_forever : Program
program_while_forever = record { functions = (function_while_forever_0 ∷ []); classes = []; bindings = [] }

abbrev pub state_while_forever : Option FuncId → Attributes → List ObjId → World → ℕ → ℕ → Trail → State World Trail
state_while_forever function variables handled objects depth left seen = record { frame = record { function = function; variables = variables; handled = handled }; space = record { names = (((codes "f"), (v.Func (func_id 0))) ∷ []); defaults = ([] ∷ []); constants = [] }; objects = objects; depth = depth; left = left; seen = seen }

-- var_8 = module_0.f()
abbrev pub WhileForever0 : Type 0
WhileForever0 = means recorder program_while_forever while_forever_t3 (state_while_forever None [] [] [] 0 40 []) ≡ ((Err OutOfSteps), (state_while_forever None [] [] [] 0 0 (began 0 ∷ began 1 ∷ began 2 ∷ Decided (node 2) (j.Plain true) true ∷ began 3 ∷ began 2 ∷ Decided (node 2) (j.Plain true) true ∷ began 3 ∷ began 2 ∷ Decided (node 2) (j.Plain true) true ∷ began 3 ∷ began 2 ∷ Decided (node 2) (j.Plain true) true ∷ began 3 ∷ began 2 ∷ Decided (node 2) (j.Plain true) true ∷ began 3 ∷ began 2 ∷ Decided (node 2) (j.Plain true) true ∷ began 3 ∷ began 2 ∷ Decided (node 2) (j.Plain true) true ∷ began 3 ∷ began 2 ∷ Decided (node 2) (j.Plain true) true ∷ began 3 ∷ began 2 ∷ Decided (node 2) (j.Plain true) true ∷ began 3 ∷ began 2 ∷ Decided (node 2) (j.Plain true) true ∷ began 3 ∷ began 2 ∷ Decided (node 2) (j.Plain true) true ∷ began 3 ∷ began 2 ∷ Decided (node 2) (j.Plain true) true ∷ began 3 ∷ began 2 ∷ Decided (node 2) (j.Plain true) true ∷ began 3 ∷ began 2 ∷ Decided (node 2) (j.Plain true) true ∷ began 3 ∷ began 2 ∷ Decided (node 2) (j.Plain true) true ∷ began 3 ∷ began 2 ∷ Decided (node 2) (j.Plain true) true ∷ began 3 ∷ began 2 ∷ Decided (node 2) (j.Plain true) true ∷ began 3 ∷ began 2 ∷ Decided (node 2) (j.Plain true) true ∷ [])))

-- for not walked:
--
--     def f():
--         for a in 5:
--             pass
--
abbrev pub for_not_walked_n2 : Expr
for_not_walked_n2 = e 2 (x.IntLit (pos 5))

abbrev pub for_not_walked_n3 : Stmt
for_not_walked_n3 = s 3 y.Pass

abbrev pub for_not_walked_n1 : Stmt
for_not_walked_n1 = s 1 (y.For ((codes "a") ∷ []) false for_not_walked_n2 (for_not_walked_n3 ∷ []))

abbrev pub for_not_walked_t1 : Expr
for_not_walked_t1 = e 0 (x.Name (codes "module_0"))

abbrev pub for_not_walked_t2 : Expr
for_not_walked_t2 = e 0 (x.Method for_not_walked_t1 (codes "f") (args [] []))

abbrev pub for_not_walked_t3 : Stmt
for_not_walked_t3 = s 0 (y.Assign ((target.Name (codes "var_8")) ∷ []) false None for_not_walked_t2)

abbrev pub function_for_not_walked_0 : Function
function_for_not_walked_0 = record { tree = (func 0 (codes "f") [] (for_not_walked_n1 ∷ [])); owner = None; locals = ((codes "a") ∷ []) }

abbrev pub program_for_not_walked : Program
program_for_not_walked = record { functions = (function_for_not_walked_0 ∷ []); classes = []; bindings = [] }

abbrev pub state_for_not_walked : Option FuncId → Attributes → List ObjId → World → ℕ → ℕ → Trail → State World Trail
state_for_not_walked function variables handled objects depth left seen = record { frame = record { function = function; variables = variables; handled = handled }; space = record { names = (((codes "f"), (v.Func (func_id 0))) ∷ []); defaults = ([] ∷ []); constants = [] }; objects = objects; depth = depth; left = left; seen = seen }

-- var_8 = module_0.f()
abbrev pub ForNotWalked0 : Type 0
ForNotWalked0 = means recorder program_for_not_walked for_not_walked_t3 (state_for_not_walked None [] [] [] 0 300 []) ≡ ((Err (Raised (id 0))), (state_for_not_walked None [] [] (object.Instance (Built built.TypeError) [] None ∷ []) 0 294 (began 0 ∷ began 1 ∷ began 2 ∷ [])))

-- for out of steps:
--
--     def f():
--         for i in (4, 5):
--             pass
--         return 1
--
abbrev pub for_out_of_steps_n3 : Expr
for_out_of_steps_n3 = e 3 (x.IntLit (pos 4))

abbrev pub for_out_of_steps_n4 : Expr
for_out_of_steps_n4 = e 4 (x.IntLit (pos 5))

abbrev pub for_out_of_steps_n2 : Expr
for_out_of_steps_n2 = e 2 (x.TupleLit (for_out_of_steps_n3 ∷ for_out_of_steps_n4 ∷ []))

abbrev pub for_out_of_steps_n5 : Stmt
for_out_of_steps_n5 = s 5 y.Pass

abbrev pub for_out_of_steps_n1 : Stmt
for_out_of_steps_n1 = s 1 (y.For ((codes "i") ∷ []) false for_out_of_steps_n2 (for_out_of_steps_n5 ∷ []))

abbrev pub for_out_of_steps_n7 : Expr
for_out_of_steps_n7 = e 7 (x.IntLit (pos 1))

abbrev pub for_out_of_steps_n6 : Stmt
for_out_of_steps_n6 = s 6 (y.Return (Some for_out_of_steps_n7))

abbrev pub for_out_of_steps_t1 : Expr
for_out_of_steps_t1 = e 0 (x.Name (codes "module_0"))

abbrev pub for_out_of_steps_t2 : Expr
for_out_of_steps_t2 = e 0 (x.Method for_out_of_steps_t1 (codes "f") (args [] []))

abbrev pub for_out_of_steps_t3 : Stmt
for_out_of_steps_t3 = s 0 (y.Assign ((target.Name (codes "var_8")) ∷ []) false None for_out_of_steps_t2)

abbrev pub function_for_out_of_steps_0 : Function
function_for_out_of_steps_0 = record { tree = (func 0 (codes "f") [] (for_out_of_steps_n1 ∷ for_out_of_steps_n6 ∷ [])); owner = None; locals = ((codes "i") ∷ []) }

abbrev pub program_for_out_of_steps : Program
program_for_out_of_steps = record { functions = (function_for_out_of_steps_0 ∷ []); classes = []; bindings = [] }

abbrev pub state_for_out_of_steps : Option FuncId → Attributes → List ObjId → World → ℕ → ℕ → Trail → State World Trail
state_for_out_of_steps function variables handled objects depth left seen = record { frame = record { function = function; variables = variables; handled = handled }; space = record { names = (((codes "f"), (v.Func (func_id 0))) ∷ []); defaults = ([] ∷ []); constants = [] }; objects = objects; depth = depth; left = left; seen = seen }

-- var_8 = module_0.f()
abbrev pub ForOutOfSteps0 : Type 0
ForOutOfSteps0 = means recorder program_for_out_of_steps for_out_of_steps_t3 (state_for_out_of_steps None [] [] [] 0 12 []) ≡ ((Err OutOfSteps), (state_for_out_of_steps None [] [] [] 0 0 (began 0 ∷ began 1 ∷ began 2 ∷ began 3 ∷ began 4 ∷ Decided (node 1) (j.Plain true) true ∷ began 5 ∷ [])))

-- while return:
--
--     def f(n):
--         while n:
--             return n
--         return 0
--
abbrev pub while_return_n2 : Expr
while_return_n2 = e 2 (x.Name (codes "n"))

abbrev pub while_return_n4 : Expr
while_return_n4 = e 4 (x.Name (codes "n"))

abbrev pub while_return_n3 : Stmt
while_return_n3 = s 3 (y.Return (Some while_return_n4))

abbrev pub while_return_n1 : Stmt
while_return_n1 = s 1 (y.While while_return_n2 (while_return_n3 ∷ []))

abbrev pub while_return_n6 : Expr
while_return_n6 = e 6 (x.IntLit (pos 0))

abbrev pub while_return_n5 : Stmt
while_return_n5 = s 5 (y.Return (Some while_return_n6))

abbrev pub while_return_t1 : Expr
while_return_t1 = e 0 (x.Name (codes "module_0"))

abbrev pub while_return_t2 : Expr
while_return_t2 = e 0 (x.IntLit (pos 5))

abbrev pub while_return_t3 : Expr
while_return_t3 = e 0 (x.Method while_return_t1 (codes "f") (args (while_return_t2 ∷ []) []))

abbrev pub while_return_t4 : Stmt
while_return_t4 = s 0 (y.Assign ((target.Name (codes "var_8")) ∷ []) false None while_return_t3)

abbrev pub function_while_return_0 : Function
function_while_return_0 = record { tree = (func 0 (codes "f") ((param (codes "n") None) ∷ []) (while_return_n1 ∷ while_return_n5 ∷ [])); owner = None; locals = ((codes "n") ∷ []) }

abbrev pub program_while_return : Program
program_while_return = record { functions = (function_while_return_0 ∷ []); classes = []; bindings = [] }

abbrev pub state_while_return : Option FuncId → Attributes → List ObjId → World → ℕ → ℕ → Trail → State World Trail
state_while_return function variables handled objects depth left seen = record { frame = record { function = function; variables = variables; handled = handled }; space = record { names = (((codes "f"), (v.Func (func_id 0))) ∷ []); defaults = ([] ∷ []); constants = [] }; objects = objects; depth = depth; left = left; seen = seen }

-- var_8 = module_0.f(5)
abbrev pub WhileReturn0 : Type 0
WhileReturn0 = means recorder program_while_return while_return_t4 (state_while_return None [] [] [] 0 300 []) ≡ ((Ok (v.None, (j.Plain false))), (state_while_return None (((codes "var_8"), (v.Int (pos 5))) ∷ []) [] [] 0 291 (began 0 ∷ began 1 ∷ began 2 ∷ Decided (node 2) (j.Plain true) true ∷ began 3 ∷ began 4 ∷ [])))
