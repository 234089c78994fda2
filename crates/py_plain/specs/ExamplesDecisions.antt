-- Worked examples of decisions (6.10 to 6.12 and 8.1): what a statement of a test means, with its end, variables, objects, trail and steps left.
use Rattle.py_meaning.specs.Worlds.{World, Attributes}
use Rattle.py_meaning.specs.declared.value.Value.TheVariants as v
use Rattle.py_plain.specs.Examples.{e, s, node, args, param, func, func_id, began}
use Rattle.py_plain.specs.Program.{Function, Program}
use Rattle.py_plain.specs.Statements.{means}
use Rattle.py_plain.specs.Tests.{Trail, recorder, Decided}
use Rattle.py_plain.specs.declared.judged.Judged.TheVariants as j
use Rattle.py_plain.specs.declared.state.State.{State}
use Rattle.py_syntax.specs.declared.expr.Expr.{Expr}
use Rattle.py_syntax.specs.declared.expr.ExprKind.TheVariants as x
use Rattle.py_syntax.specs.declared.operator.BinOp.TheVariants.{FloorDiv}
use Rattle.py_syntax.specs.declared.operator.CmpOp.TheVariants.{Lt, Gt}
use Rattle.py_syntax.specs.declared.stmt.Stmt.{Stmt}
use Rattle.py_syntax.specs.declared.stmt.StmtKind.TheVariants as y
use Rattle.py_syntax.specs.declared.stmt.Target.TheVariants as target
use Rattle.pyn_base.specs.declared.ids.FuncId.{FuncId}
use Rattle.pyn_base.specs.declared.ids.ObjId.{ObjId}
use Rattle.std.proofs.Common.{◌≡◌, ℕ}
use Rattle.std.specs.Prelude.{pos, true, false, List, [], ◌∷◌, Option, Some, None, Ok, codes}

-- chain fails first:
--
--     def f(a):
--         if 1 < a < 5 < 9:
--             return 1
--         return 2
--
abbrev pub chain_fails_first_n3 : Expr
chain_fails_first_n3 = e 3 (x.IntLit (pos 1))

abbrev pub chain_fails_first_n4 : Expr
chain_fails_first_n4 = e 4 (x.Name (codes "a"))

abbrev pub chain_fails_first_n5 : Expr
chain_fails_first_n5 = e 5 (x.IntLit (pos 5))

abbrev pub chain_fails_first_n6 : Expr
chain_fails_first_n6 = e 6 (x.IntLit (pos 9))

abbrev pub chain_fails_first_n2 : Expr
chain_fails_first_n2 = e 2 (x.Compare chain_fails_first_n3 ((Lt, chain_fails_first_n4) ∷ (Lt, chain_fails_first_n5) ∷ (Lt, chain_fails_first_n6) ∷ []))

abbrev pub chain_fails_first_n8 : Expr
chain_fails_first_n8 = e 8 (x.IntLit (pos 1))

abbrev pub chain_fails_first_n7 : Stmt
chain_fails_first_n7 = s 7 (y.Return (Some chain_fails_first_n8))

abbrev pub chain_fails_first_n1 : Stmt
chain_fails_first_n1 = s 1 (y.If ((chain_fails_first_n2, (chain_fails_first_n7 ∷ [])) ∷ []) None)

abbrev pub chain_fails_first_n10 : Expr
chain_fails_first_n10 = e 10 (x.IntLit (pos 2))

abbrev pub chain_fails_first_n9 : Stmt
chain_fails_first_n9 = s 9 (y.Return (Some chain_fails_first_n10))

abbrev pub chain_fails_first_t1 : Expr
chain_fails_first_t1 = e 0 (x.Name (codes "module_0"))

abbrev pub chain_fails_first_t2 : Expr
chain_fails_first_t2 = e 0 (x.IntLit (pos 0))

abbrev pub chain_fails_first_t3 : Expr
chain_fails_first_t3 = e 0 (x.Method chain_fails_first_t1 (codes "f") (args (chain_fails_first_t2 ∷ []) []))

abbrev pub chain_fails_first_t4 : Stmt
chain_fails_first_t4 = s 0 (y.Assign ((target.Name (codes "var_8")) ∷ []) false None chain_fails_first_t3)

abbrev pub function_chain_fails_first_0 : Function
function_chain_fails_first_0 = record { tree = (func 0 (codes "f") ((param (codes "a") None) ∷ []) (chain_fails_first_n1 ∷ chain_fails_first_n9 ∷ [])); owner = None; locals = ((codes "a") ∷ []) }

abbrev pub program_chain_fails_first : Program
program_chain_fails_first = record { functions = (function_chain_fails_first_0 ∷ []); classes = []; bindings = [] }

abbrev pub state_chain_fails_first : Option FuncId → Attributes → List ObjId → World → ℕ → ℕ → Trail → State World Trail
state_chain_fails_first function variables handled objects depth left seen = record { frame = record { function = function; variables = variables; handled = handled }; space = record { names = (((codes "f"), (v.Func (func_id 0))) ∷ []); defaults = ([] ∷ []); constants = [] }; objects = objects; depth = depth; left = left; seen = seen }

-- var_8 = module_0.f(0)
abbrev pub ChainFailsFirst0 : Type 0
ChainFailsFirst0 = means recorder program_chain_fails_first chain_fails_first_t4 (state_chain_fails_first None [] [] [] 0 300 []) ≡ ((Ok (v.None, (j.Plain false))), (state_chain_fails_first None (((codes "var_8"), (v.Int (pos 2))) ∷ []) [] [] 0 289 (began 0 ∷ began 1 ∷ began 2 ∷ began 3 ∷ began 4 ∷ Decided (node 2) (j.All ((j.Ints Lt (pos 1) (pos 0)) ∷ []) 2) false ∷ began 9 ∷ began 10 ∷ [])))

-- conditional false:
--
--     def f(a):
--         return (1 // 0) if a else 'n'
--
abbrev pub conditional_false_n4 : Expr
conditional_false_n4 = e 4 (x.IntLit (pos 1))

abbrev pub conditional_false_n5 : Expr
conditional_false_n5 = e 5 (x.IntLit (pos 0))

abbrev pub conditional_false_n3 : Expr
conditional_false_n3 = e 3 (x.Binary FloorDiv conditional_false_n4 conditional_false_n5)

abbrev pub conditional_false_n6 : Expr
conditional_false_n6 = e 6 (x.Name (codes "a"))

abbrev pub conditional_false_n7 : Expr
conditional_false_n7 = e 7 (x.StrLit (codes "n"))

abbrev pub conditional_false_n2 : Expr
conditional_false_n2 = e 2 (x.Cond conditional_false_n3 conditional_false_n6 conditional_false_n7)

abbrev pub conditional_false_n1 : Stmt
conditional_false_n1 = s 1 (y.Return (Some conditional_false_n2))

abbrev pub conditional_false_t1 : Expr
conditional_false_t1 = e 0 (x.Name (codes "module_0"))

abbrev pub conditional_false_t2 : Expr
conditional_false_t2 = e 0 (x.IntLit (pos 0))

abbrev pub conditional_false_t3 : Expr
conditional_false_t3 = e 0 (x.Method conditional_false_t1 (codes "f") (args (conditional_false_t2 ∷ []) []))

abbrev pub conditional_false_t4 : Stmt
conditional_false_t4 = s 0 (y.Assign ((target.Name (codes "var_8")) ∷ []) false None conditional_false_t3)

abbrev pub function_conditional_false_0 : Function
function_conditional_false_0 = record { tree = (func 0 (codes "f") ((param (codes "a") None) ∷ []) (conditional_false_n1 ∷ [])); owner = None; locals = ((codes "a") ∷ []) }

abbrev pub program_conditional_false : Program
program_conditional_false = record { functions = (function_conditional_false_0 ∷ []); classes = []; bindings = [] }

abbrev pub state_conditional_false : Option FuncId → Attributes → List ObjId → World → ℕ → ℕ → Trail → State World Trail
state_conditional_false function variables handled objects depth left seen = record { frame = record { function = function; variables = variables; handled = handled }; space = record { names = (((codes "f"), (v.Func (func_id 0))) ∷ []); defaults = ([] ∷ []); constants = [] }; objects = objects; depth = depth; left = left; seen = seen }

-- var_8 = module_0.f(0)
abbrev pub ConditionalFalse0 : Type 0
ConditionalFalse0 = means recorder program_conditional_false conditional_false_t4 (state_conditional_false None [] [] [] 0 300 []) ≡ ((Ok (v.None, (j.Plain false))), (state_conditional_false None (((codes "var_8"), (v.Str (codes "n"))) ∷ []) [] [] 0 291 (began 0 ∷ began 1 ∷ began 2 ∷ began 6 ∷ began 7 ∷ [])))

-- conditional as test:
--
--     def f(a):
--         if a if (a > 1) else (not a):
--             return 1
--         return 0
--
abbrev pub conditional_as_test_n3 : Expr
conditional_as_test_n3 = e 3 (x.Name (codes "a"))

abbrev pub conditional_as_test_n5 : Expr
conditional_as_test_n5 = e 5 (x.Name (codes "a"))

abbrev pub conditional_as_test_n6 : Expr
conditional_as_test_n6 = e 6 (x.IntLit (pos 1))

abbrev pub conditional_as_test_n4 : Expr
conditional_as_test_n4 = e 4 (x.Compare conditional_as_test_n5 ((Gt, conditional_as_test_n6) ∷ []))

abbrev pub conditional_as_test_n8 : Expr
conditional_as_test_n8 = e 8 (x.Name (codes "a"))

abbrev pub conditional_as_test_n7 : Expr
conditional_as_test_n7 = e 7 (x.Not conditional_as_test_n8)

abbrev pub conditional_as_test_n2 : Expr
conditional_as_test_n2 = e 2 (x.Cond conditional_as_test_n3 conditional_as_test_n4 conditional_as_test_n7)

abbrev pub conditional_as_test_n10 : Expr
conditional_as_test_n10 = e 10 (x.IntLit (pos 1))

abbrev pub conditional_as_test_n9 : Stmt
conditional_as_test_n9 = s 9 (y.Return (Some conditional_as_test_n10))

abbrev pub conditional_as_test_n1 : Stmt
conditional_as_test_n1 = s 1 (y.If ((conditional_as_test_n2, (conditional_as_test_n9 ∷ [])) ∷ []) None)

abbrev pub conditional_as_test_n12 : Expr
conditional_as_test_n12 = e 12 (x.IntLit (pos 0))

abbrev pub conditional_as_test_n11 : Stmt
conditional_as_test_n11 = s 11 (y.Return (Some conditional_as_test_n12))

abbrev pub conditional_as_test_t1 : Expr
conditional_as_test_t1 = e 0 (x.Name (codes "module_0"))

abbrev pub conditional_as_test_t2 : Expr
conditional_as_test_t2 = e 0 (x.IntLit (pos 0))

abbrev pub conditional_as_test_t3 : Expr
conditional_as_test_t3 = e 0 (x.Method conditional_as_test_t1 (codes "f") (args (conditional_as_test_t2 ∷ []) []))

abbrev pub conditional_as_test_t4 : Stmt
conditional_as_test_t4 = s 0 (y.Assign ((target.Name (codes "var_8")) ∷ []) false None conditional_as_test_t3)

abbrev pub function_conditional_as_test_0 : Function
function_conditional_as_test_0 = record { tree = (func 0 (codes "f") ((param (codes "a") None) ∷ []) (conditional_as_test_n1 ∷ conditional_as_test_n11 ∷ [])); owner = None; locals = ((codes "a") ∷ []) }

abbrev pub program_conditional_as_test : Program
program_conditional_as_test = record { functions = (function_conditional_as_test_0 ∷ []); classes = []; bindings = [] }

abbrev pub state_conditional_as_test : Option FuncId → Attributes → List ObjId → World → ℕ → ℕ → Trail → State World Trail
state_conditional_as_test function variables handled objects depth left seen = record { frame = record { function = function; variables = variables; handled = handled }; space = record { names = (((codes "f"), (v.Func (func_id 0))) ∷ []); defaults = ([] ∷ []); constants = [] }; objects = objects; depth = depth; left = left; seen = seen }

-- var_8 = module_0.f(0)
abbrev pub ConditionalAsTest0 : Type 0
ConditionalAsTest0 = means recorder program_conditional_as_test conditional_as_test_t4 (state_conditional_as_test None [] [] [] 0 300 []) ≡ ((Ok (v.None, (j.Plain false))), (state_conditional_as_test None (((codes "var_8"), (v.Int (pos 1))) ∷ []) [] [] 0 286 (began 0 ∷ began 1 ∷ began 2 ∷ began 4 ∷ began 5 ∷ began 6 ∷ began 7 ∷ began 8 ∷ Decided (node 2) (j.Plain true) true ∷ began 9 ∷ began 10 ∷ [])))

-- and stops:
--
--     def f(a, b, c):
--         if a and b and c:
--             return 1
--         return 2
--
abbrev pub and_stops_n3 : Expr
and_stops_n3 = e 3 (x.Name (codes "a"))

abbrev pub and_stops_n4 : Expr
and_stops_n4 = e 4 (x.Name (codes "b"))

abbrev pub and_stops_n5 : Expr
and_stops_n5 = e 5 (x.Name (codes "c"))

abbrev pub and_stops_n2 : Expr
and_stops_n2 = e 2 (x.And (and_stops_n3 ∷ and_stops_n4 ∷ and_stops_n5 ∷ []))

abbrev pub and_stops_n7 : Expr
and_stops_n7 = e 7 (x.IntLit (pos 1))

abbrev pub and_stops_n6 : Stmt
and_stops_n6 = s 6 (y.Return (Some and_stops_n7))

abbrev pub and_stops_n1 : Stmt
and_stops_n1 = s 1 (y.If ((and_stops_n2, (and_stops_n6 ∷ [])) ∷ []) None)

abbrev pub and_stops_n9 : Expr
and_stops_n9 = e 9 (x.IntLit (pos 2))

abbrev pub and_stops_n8 : Stmt
and_stops_n8 = s 8 (y.Return (Some and_stops_n9))

abbrev pub and_stops_t1 : Expr
and_stops_t1 = e 0 (x.Name (codes "module_0"))

abbrev pub and_stops_t2 : Expr
and_stops_t2 = e 0 (x.IntLit (pos 1))

abbrev pub and_stops_t3 : Expr
and_stops_t3 = e 0 (x.IntLit (pos 0))

abbrev pub and_stops_t4 : Expr
and_stops_t4 = e 0 (x.IntLit (pos 5))

abbrev pub and_stops_t5 : Expr
and_stops_t5 = e 0 (x.Method and_stops_t1 (codes "f") (args (and_stops_t2 ∷ and_stops_t3 ∷ and_stops_t4 ∷ []) []))

abbrev pub and_stops_t6 : Stmt
and_stops_t6 = s 0 (y.Assign ((target.Name (codes "var_8")) ∷ []) false None and_stops_t5)

abbrev pub function_and_stops_0 : Function
function_and_stops_0 = record { tree = (func 0 (codes "f") ((param (codes "a") None) ∷ (param (codes "b") None) ∷ (param (codes "c") None) ∷ []) (and_stops_n1 ∷ and_stops_n8 ∷ [])); owner = None; locals = ((codes "a") ∷ (codes "b") ∷ (codes "c") ∷ []) }

abbrev pub program_and_stops : Program
program_and_stops = record { functions = (function_and_stops_0 ∷ []); classes = []; bindings = [] }

abbrev pub state_and_stops : Option FuncId → Attributes → List ObjId → World → ℕ → ℕ → Trail → State World Trail
state_and_stops function variables handled objects depth left seen = record { frame = record { function = function; variables = variables; handled = handled }; space = record { names = (((codes "f"), (v.Func (func_id 0))) ∷ []); defaults = ([] ∷ []); constants = [] }; objects = objects; depth = depth; left = left; seen = seen }

-- var_8 = module_0.f(1, 0, 5)
abbrev pub AndStops0 : Type 0
AndStops0 = means recorder program_and_stops and_stops_t6 (state_and_stops None [] [] [] 0 300 []) ≡ ((Ok (v.None, (j.Plain false))), (state_and_stops None (((codes "var_8"), (v.Int (pos 2))) ∷ []) [] [] 0 287 (began 0 ∷ began 1 ∷ began 2 ∷ began 3 ∷ began 4 ∷ Decided (node 2) (j.All ((j.Plain true) ∷ (j.Plain false) ∷ []) 1) false ∷ began 8 ∷ began 9 ∷ [])))

-- or stops:
--
--     def f(a, b, c):
--         if (a > 3) or b or c:
--             return 1
--         return 2
--
abbrev pub or_stops_n4 : Expr
or_stops_n4 = e 4 (x.Name (codes "a"))

abbrev pub or_stops_n5 : Expr
or_stops_n5 = e 5 (x.IntLit (pos 3))

abbrev pub or_stops_n3 : Expr
or_stops_n3 = e 3 (x.Compare or_stops_n4 ((Gt, or_stops_n5) ∷ []))

abbrev pub or_stops_n6 : Expr
or_stops_n6 = e 6 (x.Name (codes "b"))

abbrev pub or_stops_n7 : Expr
or_stops_n7 = e 7 (x.Name (codes "c"))

abbrev pub or_stops_n2 : Expr
or_stops_n2 = e 2 (x.Or (or_stops_n3 ∷ or_stops_n6 ∷ or_stops_n7 ∷ []))

abbrev pub or_stops_n9 : Expr
or_stops_n9 = e 9 (x.IntLit (pos 1))

abbrev pub or_stops_n8 : Stmt
or_stops_n8 = s 8 (y.Return (Some or_stops_n9))

abbrev pub or_stops_n1 : Stmt
or_stops_n1 = s 1 (y.If ((or_stops_n2, (or_stops_n8 ∷ [])) ∷ []) None)

abbrev pub or_stops_n11 : Expr
or_stops_n11 = e 11 (x.IntLit (pos 2))

abbrev pub or_stops_n10 : Stmt
or_stops_n10 = s 10 (y.Return (Some or_stops_n11))

abbrev pub or_stops_t1 : Expr
or_stops_t1 = e 0 (x.Name (codes "module_0"))

abbrev pub or_stops_t2 : Expr
or_stops_t2 = e 0 (x.IntLit (pos 1))

abbrev pub or_stops_t3 : Expr
or_stops_t3 = e 0 (x.IntLit (pos 7))

abbrev pub or_stops_t4 : Expr
or_stops_t4 = e 0 (x.IntLit (pos 5))

abbrev pub or_stops_t5 : Expr
or_stops_t5 = e 0 (x.Method or_stops_t1 (codes "f") (args (or_stops_t2 ∷ or_stops_t3 ∷ or_stops_t4 ∷ []) []))

abbrev pub or_stops_t6 : Stmt
or_stops_t6 = s 0 (y.Assign ((target.Name (codes "var_8")) ∷ []) false None or_stops_t5)

abbrev pub function_or_stops_0 : Function
function_or_stops_0 = record { tree = (func 0 (codes "f") ((param (codes "a") None) ∷ (param (codes "b") None) ∷ (param (codes "c") None) ∷ []) (or_stops_n1 ∷ or_stops_n10 ∷ [])); owner = None; locals = ((codes "a") ∷ (codes "b") ∷ (codes "c") ∷ []) }

abbrev pub program_or_stops : Program
program_or_stops = record { functions = (function_or_stops_0 ∷ []); classes = []; bindings = [] }

abbrev pub state_or_stops : Option FuncId → Attributes → List ObjId → World → ℕ → ℕ → Trail → State World Trail
state_or_stops function variables handled objects depth left seen = record { frame = record { function = function; variables = variables; handled = handled }; space = record { names = (((codes "f"), (v.Func (func_id 0))) ∷ []); defaults = ([] ∷ []); constants = [] }; objects = objects; depth = depth; left = left; seen = seen }

-- var_8 = module_0.f(1, 7, 5)
abbrev pub OrStops0 : Type 0
OrStops0 = means recorder program_or_stops or_stops_t6 (state_or_stops None [] [] [] 0 300 []) ≡ ((Ok (v.None, (j.Plain false))), (state_or_stops None (((codes "var_8"), (v.Int (pos 1))) ∷ []) [] [] 0 285 (began 0 ∷ began 1 ∷ began 2 ∷ began 3 ∷ began 4 ∷ began 5 ∷ began 6 ∷ Decided (node 2) (j.Any ((j.Ints Gt (pos 1) (pos 3)) ∷ (j.Plain true) ∷ []) 1) true ∷ began 8 ∷ began 9 ∷ [])))

-- not of comparison:
--
--     def f(a):
--         if not (a < 3):
--             return 1
--         return 2
--
abbrev pub not_of_comparison_n4 : Expr
not_of_comparison_n4 = e 4 (x.Name (codes "a"))

abbrev pub not_of_comparison_n5 : Expr
not_of_comparison_n5 = e 5 (x.IntLit (pos 3))

abbrev pub not_of_comparison_n3 : Expr
not_of_comparison_n3 = e 3 (x.Compare not_of_comparison_n4 ((Lt, not_of_comparison_n5) ∷ []))

abbrev pub not_of_comparison_n2 : Expr
not_of_comparison_n2 = e 2 (x.Not not_of_comparison_n3)

abbrev pub not_of_comparison_n7 : Expr
not_of_comparison_n7 = e 7 (x.IntLit (pos 1))

abbrev pub not_of_comparison_n6 : Stmt
not_of_comparison_n6 = s 6 (y.Return (Some not_of_comparison_n7))

abbrev pub not_of_comparison_n1 : Stmt
not_of_comparison_n1 = s 1 (y.If ((not_of_comparison_n2, (not_of_comparison_n6 ∷ [])) ∷ []) None)

abbrev pub not_of_comparison_n9 : Expr
not_of_comparison_n9 = e 9 (x.IntLit (pos 2))

abbrev pub not_of_comparison_n8 : Stmt
not_of_comparison_n8 = s 8 (y.Return (Some not_of_comparison_n9))

abbrev pub not_of_comparison_t1 : Expr
not_of_comparison_t1 = e 0 (x.Name (codes "module_0"))

abbrev pub not_of_comparison_t2 : Expr
not_of_comparison_t2 = e 0 (x.IntLit (pos 5))

abbrev pub not_of_comparison_t3 : Expr
not_of_comparison_t3 = e 0 (x.Method not_of_comparison_t1 (codes "f") (args (not_of_comparison_t2 ∷ []) []))

abbrev pub not_of_comparison_t4 : Stmt
not_of_comparison_t4 = s 0 (y.Assign ((target.Name (codes "var_8")) ∷ []) false None not_of_comparison_t3)

abbrev pub function_not_of_comparison_0 : Function
function_not_of_comparison_0 = record { tree = (func 0 (codes "f") ((param (codes "a") None) ∷ []) (not_of_comparison_n1 ∷ not_of_comparison_n8 ∷ [])); owner = None; locals = ((codes "a") ∷ []) }

abbrev pub program_not_of_comparison : Program
program_not_of_comparison = record { functions = (function_not_of_comparison_0 ∷ []); classes = []; bindings = [] }

abbrev pub state_not_of_comparison : Option FuncId → Attributes → List ObjId → World → ℕ → ℕ → Trail → State World Trail
state_not_of_comparison function variables handled objects depth left seen = record { frame = record { function = function; variables = variables; handled = handled }; space = record { names = (((codes "f"), (v.Func (func_id 0))) ∷ []); defaults = ([] ∷ []); constants = [] }; objects = objects; depth = depth; left = left; seen = seen }

-- var_8 = module_0.f(5)
abbrev pub NotOfComparison0 : Type 0
NotOfComparison0 = means recorder program_not_of_comparison not_of_comparison_t4 (state_not_of_comparison None [] [] [] 0 300 []) ≡ ((Ok (v.None, (j.Plain false))), (state_not_of_comparison None (((codes "var_8"), (v.Int (pos 1))) ∷ []) [] [] 0 288 (began 0 ∷ began 1 ∷ began 2 ∷ began 3 ∷ began 4 ∷ began 5 ∷ Decided (node 2) (j.Not (j.Ints Lt (pos 5) (pos 3))) true ∷ began 6 ∷ began 7 ∷ [])))
