-- Worked examples of exceptions (8.4): what a statement of a test means, with its end, variables, objects, trail and steps left.
use Rattle.py_meaning.specs.Examples.{id, ref}
use Rattle.py_meaning.specs.Tuples.{measured}
use Rattle.py_meaning.specs.Worlds.{World, Attributes}
use Rattle.py_meaning.specs.declared.object.Object.TheVariants as object
use Rattle.py_meaning.specs.declared.value.Value.TheVariants as v
use Rattle.py_plain.specs.Examples.{e, s, node, args, param, func, func_id, clause, began}
use Rattle.py_plain.specs.Program.{Function, Program}
use Rattle.py_plain.specs.Statements.{means}
use Rattle.py_plain.specs.Tests.{Trail, recorder, Decided}
use Rattle.py_plain.specs.declared.judged.Judged.TheVariants as j
use Rattle.py_plain.specs.declared.run.Abrupt.TheVariants.{Raised, Left}
use Rattle.py_plain.specs.declared.state.State.{State}
use Rattle.py_syntax.specs.declared.expr.Expr.{Expr}
use Rattle.py_syntax.specs.declared.expr.ExprKind.TheVariants as x
use Rattle.py_syntax.specs.declared.operator.BinOp.TheVariants.{FloorDiv}
use Rattle.py_syntax.specs.declared.operator.CmpOp.TheVariants.{Same, Lt, Gt}
use Rattle.py_syntax.specs.declared.stmt.Stmt.{Stmt}
use Rattle.py_syntax.specs.declared.stmt.StmtKind.TheVariants as y
use Rattle.py_syntax.specs.declared.stmt.Target.TheVariants as target
use Rattle.pyn_base.specs.declared.class.BuiltClass.TheVariants as built
use Rattle.pyn_base.specs.declared.class.ClassId.TheVariants.{Built}
use Rattle.pyn_base.specs.declared.construct.Construct.TheVariants as construct
use Rattle.pyn_base.specs.declared.ids.FuncId.{FuncId}
use Rattle.pyn_base.specs.declared.ids.ObjId.{ObjId}
use Rattle.std.proofs.Common.{◌≡◌, ℕ}
use Rattle.std.specs.Prelude.{pos, true, false, List, [], ◌∷◌, Option, Some, None, Ok, Err, codes}

-- caught:
--
--     def f():
--         try:
--             1 // 0
--         except ZeroDivisionError:
--             return 1
--         return 2
--
abbrev pub caught_n4 : Expr
caught_n4 = e 4 (x.IntLit (pos 1))

abbrev pub caught_n5 : Expr
caught_n5 = e 5 (x.IntLit (pos 0))

abbrev pub caught_n3 : Expr
caught_n3 = e 3 (x.Binary FloorDiv caught_n4 caught_n5)

abbrev pub caught_n2 : Stmt
caught_n2 = s 2 (y.Bare caught_n3)

abbrev pub caught_n8 : Expr
caught_n8 = e 8 (x.IntLit (pos 1))

abbrev pub caught_n7 : Stmt
caught_n7 = s 7 (y.Return (Some caught_n8))

abbrev pub caught_n1 : Stmt
caught_n1 = s 1 (y.Try (caught_n2 ∷ []) ((clause 6 (Some ((codes "ZeroDivisionError") ∷ [])) None (caught_n7 ∷ [])) ∷ []) None None)

abbrev pub caught_n10 : Expr
caught_n10 = e 10 (x.IntLit (pos 2))

abbrev pub caught_n9 : Stmt
caught_n9 = s 9 (y.Return (Some caught_n10))

abbrev pub caught_t1 : Expr
caught_t1 = e 0 (x.Name (codes "module_0"))

abbrev pub caught_t2 : Expr
caught_t2 = e 0 (x.Method caught_t1 (codes "f") (args [] []))

abbrev pub caught_t3 : Stmt
caught_t3 = s 0 (y.Assign ((target.Name (codes "var_8")) ∷ []) false None caught_t2)

abbrev pub function_caught_0 : Function
function_caught_0 = record { tree = (func 0 (codes "f") [] (caught_n1 ∷ caught_n9 ∷ [])); owner = None; locals = [] }

abbrev pub program_caught : Program
program_caught = record { functions = (function_caught_0 ∷ []); classes = []; bindings = [] }

abbrev pub state_caught : Option FuncId → Attributes → List ObjId → World → ℕ → ℕ → Trail → State World Trail
state_caught function variables handled objects depth left seen = record { frame = record { function = function; variables = variables; handled = handled }; space = record { names = (((codes "f"), (v.Func (func_id 0))) ∷ []); defaults = ([] ∷ []); constants = [] }; objects = objects; depth = depth; left = left; seen = seen }

-- var_8 = module_0.f()
abbrev pub Caught0 : Type 0
Caught0 = means recorder program_caught caught_t3 (state_caught None [] [] [] 0 300 []) ≡ ((Ok (v.None, (j.Plain false))), (state_caught None (((codes "var_8"), (v.Int (pos 1))) ∷ []) [] (object.Instance (Built built.ZeroDivisionError) [] None ∷ []) 0 288 (began 0 ∷ began 1 ∷ began 2 ∷ began 3 ∷ began 4 ∷ began 5 ∷ began 6 ∷ Decided (node 6) (j.Plain true) true ∷ began 7 ∷ began 8 ∷ [])))

-- bare clause:
--
--     def f():
--         try:
--             {}[1]
--         except IndexError:
--             return 1
--         except:
--             return 3
--
abbrev pub bare_clause_n4 : Expr
bare_clause_n4 = e 4 (x.DictLit [])

abbrev pub bare_clause_n5 : Expr
bare_clause_n5 = e 5 (x.IntLit (pos 1))

abbrev pub bare_clause_n3 : Expr
bare_clause_n3 = e 3 (x.Index bare_clause_n4 bare_clause_n5)

abbrev pub bare_clause_n2 : Stmt
bare_clause_n2 = s 2 (y.Bare bare_clause_n3)

abbrev pub bare_clause_n8 : Expr
bare_clause_n8 = e 8 (x.IntLit (pos 1))

abbrev pub bare_clause_n7 : Stmt
bare_clause_n7 = s 7 (y.Return (Some bare_clause_n8))

abbrev pub bare_clause_n11 : Expr
bare_clause_n11 = e 11 (x.IntLit (pos 3))

abbrev pub bare_clause_n10 : Stmt
bare_clause_n10 = s 10 (y.Return (Some bare_clause_n11))

abbrev pub bare_clause_n1 : Stmt
bare_clause_n1 = s 1 (y.Try (bare_clause_n2 ∷ []) ((clause 6 (Some ((codes "IndexError") ∷ [])) None (bare_clause_n7 ∷ [])) ∷ (clause 9 None None (bare_clause_n10 ∷ [])) ∷ []) None None)

abbrev pub bare_clause_t1 : Expr
bare_clause_t1 = e 0 (x.Name (codes "module_0"))

abbrev pub bare_clause_t2 : Expr
bare_clause_t2 = e 0 (x.Method bare_clause_t1 (codes "f") (args [] []))

abbrev pub bare_clause_t3 : Stmt
bare_clause_t3 = s 0 (y.Assign ((target.Name (codes "var_8")) ∷ []) false None bare_clause_t2)

abbrev pub function_bare_clause_0 : Function
function_bare_clause_0 = record { tree = (func 0 (codes "f") [] (bare_clause_n1 ∷ [])); owner = None; locals = [] }

abbrev pub program_bare_clause : Program
program_bare_clause = record { functions = (function_bare_clause_0 ∷ []); classes = []; bindings = [] }

abbrev pub state_bare_clause : Option FuncId → Attributes → List ObjId → World → ℕ → ℕ → Trail → State World Trail
state_bare_clause function variables handled objects depth left seen = record { frame = record { function = function; variables = variables; handled = handled }; space = record { names = (((codes "f"), (v.Func (func_id 0))) ∷ []); defaults = ([] ∷ []); constants = [] }; objects = objects; depth = depth; left = left; seen = seen }

-- var_8 = module_0.f()
abbrev pub BareClause0 : Type 0
BareClause0 = means recorder program_bare_clause bare_clause_t3 (state_bare_clause None [] [] [] 0 300 []) ≡ ((Ok (v.None, (j.Plain false))), (state_bare_clause None (((codes "var_8"), (v.Int (pos 3))) ∷ []) [] (object.Dict [] 0 ∷ object.Instance (Built built.KeyError) [] None ∷ []) 0 286 (began 0 ∷ began 1 ∷ began 2 ∷ began 3 ∷ began 4 ∷ began 5 ∷ began 6 ∷ Decided (node 6) (j.Plain false) false ∷ began 9 ∷ Decided (node 9) (j.Plain true) true ∷ began 10 ∷ began 11 ∷ [])))

-- finally replaces return:
--
--     def f():
--         try:
--             return 1
--         finally:
--             return 3
--
abbrev pub finally_replaces_return_n3 : Expr
finally_replaces_return_n3 = e 3 (x.IntLit (pos 1))

abbrev pub finally_replaces_return_n2 : Stmt
finally_replaces_return_n2 = s 2 (y.Return (Some finally_replaces_return_n3))

abbrev pub finally_replaces_return_n5 : Expr
finally_replaces_return_n5 = e 5 (x.IntLit (pos 3))

abbrev pub finally_replaces_return_n4 : Stmt
finally_replaces_return_n4 = s 4 (y.Return (Some finally_replaces_return_n5))

abbrev pub finally_replaces_return_n1 : Stmt
finally_replaces_return_n1 = s 1 (y.Try (finally_replaces_return_n2 ∷ []) [] None (Some (finally_replaces_return_n4 ∷ [])))

abbrev pub finally_replaces_return_t1 : Expr
finally_replaces_return_t1 = e 0 (x.Name (codes "module_0"))

abbrev pub finally_replaces_return_t2 : Expr
finally_replaces_return_t2 = e 0 (x.Method finally_replaces_return_t1 (codes "f") (args [] []))

abbrev pub finally_replaces_return_t3 : Stmt
finally_replaces_return_t3 = s 0 (y.Assign ((target.Name (codes "var_8")) ∷ []) false None finally_replaces_return_t2)

abbrev pub function_finally_replaces_return_0 : Function
function_finally_replaces_return_0 = record { tree = (func 0 (codes "f") [] (finally_replaces_return_n1 ∷ [])); owner = None; locals = [] }

abbrev pub program_finally_replaces_return : Program
program_finally_replaces_return = record { functions = (function_finally_replaces_return_0 ∷ []); classes = []; bindings = [] }

abbrev pub state_finally_replaces_return : Option FuncId → Attributes → List ObjId → World → ℕ → ℕ → Trail → State World Trail
state_finally_replaces_return function variables handled objects depth left seen = record { frame = record { function = function; variables = variables; handled = handled }; space = record { names = (((codes "f"), (v.Func (func_id 0))) ∷ []); defaults = ([] ∷ []); constants = [] }; objects = objects; depth = depth; left = left; seen = seen }

-- var_8 = module_0.f()
abbrev pub FinallyReplacesReturn0 : Type 0
FinallyReplacesReturn0 = means recorder program_finally_replaces_return finally_replaces_return_t3 (state_finally_replaces_return None [] [] [] 0 300 []) ≡ ((Ok (v.None, (j.Plain false))), (state_finally_replaces_return None (((codes "var_8"), (v.Int (pos 3))) ∷ []) [] [] 0 291 (began 0 ∷ began 1 ∷ began 2 ∷ began 3 ∷ began 4 ∷ began 5 ∷ [])))

-- finally breaks:
--
--     def f():
--         for i in (1, 2):
--             try:
--                 return i
--             finally:
--                 break
--         return 'out'
--
abbrev pub finally_breaks_n3 : Expr
finally_breaks_n3 = e 3 (x.IntLit (pos 1))

abbrev pub finally_breaks_n4 : Expr
finally_breaks_n4 = e 4 (x.IntLit (pos 2))

abbrev pub finally_breaks_n2 : Expr
finally_breaks_n2 = e 2 (x.TupleLit (finally_breaks_n3 ∷ finally_breaks_n4 ∷ []))

abbrev pub finally_breaks_n7 : Expr
finally_breaks_n7 = e 7 (x.Name (codes "i"))

abbrev pub finally_breaks_n6 : Stmt
finally_breaks_n6 = s 6 (y.Return (Some finally_breaks_n7))

abbrev pub finally_breaks_n8 : Stmt
finally_breaks_n8 = s 8 y.Break

abbrev pub finally_breaks_n5 : Stmt
finally_breaks_n5 = s 5 (y.Try (finally_breaks_n6 ∷ []) [] None (Some (finally_breaks_n8 ∷ [])))

abbrev pub finally_breaks_n1 : Stmt
finally_breaks_n1 = s 1 (y.For ((codes "i") ∷ []) false finally_breaks_n2 (finally_breaks_n5 ∷ []))

abbrev pub finally_breaks_n10 : Expr
finally_breaks_n10 = e 10 (x.StrLit (codes "out"))

abbrev pub finally_breaks_n9 : Stmt
finally_breaks_n9 = s 9 (y.Return (Some finally_breaks_n10))

abbrev pub finally_breaks_t1 : Expr
finally_breaks_t1 = e 0 (x.Name (codes "module_0"))

abbrev pub finally_breaks_t2 : Expr
finally_breaks_t2 = e 0 (x.Method finally_breaks_t1 (codes "f") (args [] []))

abbrev pub finally_breaks_t3 : Stmt
finally_breaks_t3 = s 0 (y.Assign ((target.Name (codes "var_8")) ∷ []) false None finally_breaks_t2)

abbrev pub function_finally_breaks_0 : Function
function_finally_breaks_0 = record { tree = (func 0 (codes "f") [] (finally_breaks_n1 ∷ finally_breaks_n9 ∷ [])); owner = None; locals = ((codes "i") ∷ []) }

abbrev pub program_finally_breaks : Program
program_finally_breaks = record { functions = (function_finally_breaks_0 ∷ []); classes = []; bindings = [] }

abbrev pub state_finally_breaks : Option FuncId → Attributes → List ObjId → World → ℕ → ℕ → Trail → State World Trail
state_finally_breaks function variables handled objects depth left seen = record { frame = record { function = function; variables = variables; handled = handled }; space = record { names = (((codes "f"), (v.Func (func_id 0))) ∷ []); defaults = ([] ∷ []); constants = [] }; objects = objects; depth = depth; left = left; seen = seen }

-- var_8 = module_0.f()
abbrev pub FinallyBreaks0 : Type 0
FinallyBreaks0 = means recorder program_finally_breaks finally_breaks_t3 (state_finally_breaks None [] [] [] 0 300 []) ≡ ((Ok (v.None, (j.Plain false))), (state_finally_breaks None (((codes "var_8"), (v.Str (codes "out"))) ∷ []) [] [] 0 283 (began 0 ∷ began 1 ∷ began 2 ∷ began 3 ∷ began 4 ∷ Decided (node 1) (j.Plain true) true ∷ began 5 ∷ began 6 ∷ began 7 ∷ began 8 ∷ began 9 ∷ began 10 ∷ [])))

-- continue through finally:
--
--     def f():
--         a = []
--         for i in (1, 2):
--             try:
--                 continue
--             finally:
--                 a.append(i)
--         return a
--
abbrev pub continue_through_finally_n2 : Expr
continue_through_finally_n2 = e 2 (x.ListLit [])

abbrev pub continue_through_finally_n1 : Stmt
continue_through_finally_n1 = s 1 (y.Assign ((target.Name (codes "a")) ∷ []) false None continue_through_finally_n2)

abbrev pub continue_through_finally_n5 : Expr
continue_through_finally_n5 = e 5 (x.IntLit (pos 1))

abbrev pub continue_through_finally_n6 : Expr
continue_through_finally_n6 = e 6 (x.IntLit (pos 2))

abbrev pub continue_through_finally_n4 : Expr
continue_through_finally_n4 = e 4 (x.TupleLit (continue_through_finally_n5 ∷ continue_through_finally_n6 ∷ []))

abbrev pub continue_through_finally_n8 : Stmt
continue_through_finally_n8 = s 8 y.Continue

abbrev pub continue_through_finally_n11 : Expr
continue_through_finally_n11 = e 11 (x.Name (codes "a"))

abbrev pub continue_through_finally_n12 : Expr
continue_through_finally_n12 = e 12 (x.Name (codes "i"))

abbrev pub continue_through_finally_n10 : Expr
continue_through_finally_n10 = e 10 (x.Method continue_through_finally_n11 (codes "append") (args (continue_through_finally_n12 ∷ []) []))

abbrev pub continue_through_finally_n9 : Stmt
continue_through_finally_n9 = s 9 (y.Bare continue_through_finally_n10)

abbrev pub continue_through_finally_n7 : Stmt
continue_through_finally_n7 = s 7 (y.Try (continue_through_finally_n8 ∷ []) [] None (Some (continue_through_finally_n9 ∷ [])))

abbrev pub continue_through_finally_n3 : Stmt
continue_through_finally_n3 = s 3 (y.For ((codes "i") ∷ []) false continue_through_finally_n4 (continue_through_finally_n7 ∷ []))

abbrev pub continue_through_finally_n14 : Expr
continue_through_finally_n14 = e 14 (x.Name (codes "a"))

abbrev pub continue_through_finally_n13 : Stmt
continue_through_finally_n13 = s 13 (y.Return (Some continue_through_finally_n14))

abbrev pub continue_through_finally_t1 : Expr
continue_through_finally_t1 = e 0 (x.Name (codes "module_0"))

abbrev pub continue_through_finally_t2 : Expr
continue_through_finally_t2 = e 0 (x.Method continue_through_finally_t1 (codes "f") (args [] []))

abbrev pub continue_through_finally_t3 : Stmt
continue_through_finally_t3 = s 0 (y.Assign ((target.Name (codes "var_8")) ∷ []) false None continue_through_finally_t2)

abbrev pub function_continue_through_finally_0 : Function
function_continue_through_finally_0 = record { tree = (func 0 (codes "f") [] (continue_through_finally_n1 ∷ continue_through_finally_n3 ∷ continue_through_finally_n13 ∷ [])); owner = None; locals = ((codes "a") ∷ (codes "i") ∷ []) }

abbrev pub program_continue_through_finally : Program
program_continue_through_finally = record { functions = (function_continue_through_finally_0 ∷ []); classes = []; bindings = [] }

abbrev pub state_continue_through_finally : Option FuncId → Attributes → List ObjId → World → ℕ → ℕ → Trail → State World Trail
state_continue_through_finally function variables handled objects depth left seen = record { frame = record { function = function; variables = variables; handled = handled }; space = record { names = (((codes "f"), (v.Func (func_id 0))) ∷ []); defaults = ([] ∷ []); constants = [] }; objects = objects; depth = depth; left = left; seen = seen }

-- var_8 = module_0.f()
abbrev pub ContinueThroughFinally0 : Type 0
ContinueThroughFinally0 = means recorder program_continue_through_finally continue_through_finally_t3 (state_continue_through_finally None [] [] [] 0 300 []) ≡ ((Ok (v.None, (j.Plain false))), (state_continue_through_finally None (((codes "var_8"), (ref 0)) ∷ []) [] (object.List ((v.Int (pos 1)) ∷ (v.Int (pos 2)) ∷ []) ∷ []) 0 270 (began 0 ∷ began 1 ∷ began 2 ∷ began 3 ∷ began 4 ∷ began 5 ∷ began 6 ∷ Decided (node 3) (j.Plain true) true ∷ began 7 ∷ began 8 ∷ began 9 ∷ began 10 ∷ began 11 ∷ began 12 ∷ Decided (node 3) (j.Plain true) true ∷ began 7 ∷ began 8 ∷ began 9 ∷ began 10 ∷ began 11 ∷ began 12 ∷ Decided (node 3) (j.Plain false) false ∷ began 13 ∷ began 14 ∷ [])))

-- name unbound after:
--
--     def f():
--         try:
--             1 // 0
--         except ZeroDivisionError as e:
--             x = 1
--         return e
--
abbrev pub name_unbound_after_n4 : Expr
name_unbound_after_n4 = e 4 (x.IntLit (pos 1))

abbrev pub name_unbound_after_n5 : Expr
name_unbound_after_n5 = e 5 (x.IntLit (pos 0))

abbrev pub name_unbound_after_n3 : Expr
name_unbound_after_n3 = e 3 (x.Binary FloorDiv name_unbound_after_n4 name_unbound_after_n5)

abbrev pub name_unbound_after_n2 : Stmt
name_unbound_after_n2 = s 2 (y.Bare name_unbound_after_n3)

abbrev pub name_unbound_after_n8 : Expr
name_unbound_after_n8 = e 8 (x.IntLit (pos 1))

abbrev pub name_unbound_after_n7 : Stmt
name_unbound_after_n7 = s 7 (y.Assign ((target.Name (codes "x")) ∷ []) false None name_unbound_after_n8)

abbrev pub name_unbound_after_n1 : Stmt
name_unbound_after_n1 = s 1 (y.Try (name_unbound_after_n2 ∷ []) ((clause 6 (Some ((codes "ZeroDivisionError") ∷ [])) (Some (codes "e")) (name_unbound_after_n7 ∷ [])) ∷ []) None None)

abbrev pub name_unbound_after_n10 : Expr
name_unbound_after_n10 = e 10 (x.Name (codes "e"))

abbrev pub name_unbound_after_n9 : Stmt
name_unbound_after_n9 = s 9 (y.Return (Some name_unbound_after_n10))

abbrev pub name_unbound_after_t1 : Expr
name_unbound_after_t1 = e 0 (x.Name (codes "module_0"))

abbrev pub name_unbound_after_t2 : Expr
name_unbound_after_t2 = e 0 (x.Method name_unbound_after_t1 (codes "f") (args [] []))

abbrev pub name_unbound_after_t3 : Stmt
name_unbound_after_t3 = s 0 (y.Assign ((target.Name (codes "var_8")) ∷ []) false None name_unbound_after_t2)

abbrev pub function_name_unbound_after_0 : Function
function_name_unbound_after_0 = record { tree = (func 0 (codes "f") [] (name_unbound_after_n1 ∷ name_unbound_after_n9 ∷ [])); owner = None; locals = ((codes "e") ∷ (codes "x") ∷ []) }

abbrev pub program_name_unbound_after : Program
program_name_unbound_after = record { functions = (function_name_unbound_after_0 ∷ []); classes = []; bindings = [] }

abbrev pub state_name_unbound_after : Option FuncId → Attributes → List ObjId → World → ℕ → ℕ → Trail → State World Trail
state_name_unbound_after function variables handled objects depth left seen = record { frame = record { function = function; variables = variables; handled = handled }; space = record { names = (((codes "f"), (v.Func (func_id 0))) ∷ []); defaults = ([] ∷ []); constants = [] }; objects = objects; depth = depth; left = left; seen = seen }

-- var_8 = module_0.f()
abbrev pub NameUnboundAfter0 : Type 0
NameUnboundAfter0 = means recorder program_name_unbound_after name_unbound_after_t3 (state_name_unbound_after None [] [] [] 0 300 []) ≡ ((Err (Raised (id 1))), (state_name_unbound_after None [] [] (object.Instance (Built built.ZeroDivisionError) [] None ∷ object.Instance (Built built.UnboundLocalError) [] None ∷ []) 0 286 (began 0 ∷ began 1 ∷ began 2 ∷ began 3 ∷ began 4 ∷ began 5 ∷ began 6 ∷ Decided (node 6) (j.Plain true) true ∷ began 7 ∷ began 8 ∷ began 9 ∷ began 10 ∷ [])))

-- assert fails:
--
--     def f(a):
--         assert (a > 1) and (a < 9)
--         return a
--
abbrev pub assert_fails_n4 : Expr
assert_fails_n4 = e 4 (x.Name (codes "a"))

abbrev pub assert_fails_n5 : Expr
assert_fails_n5 = e 5 (x.IntLit (pos 1))

abbrev pub assert_fails_n3 : Expr
assert_fails_n3 = e 3 (x.Compare assert_fails_n4 ((Gt, assert_fails_n5) ∷ []))

abbrev pub assert_fails_n7 : Expr
assert_fails_n7 = e 7 (x.Name (codes "a"))

abbrev pub assert_fails_n8 : Expr
assert_fails_n8 = e 8 (x.IntLit (pos 9))

abbrev pub assert_fails_n6 : Expr
assert_fails_n6 = e 6 (x.Compare assert_fails_n7 ((Lt, assert_fails_n8) ∷ []))

abbrev pub assert_fails_n2 : Expr
assert_fails_n2 = e 2 (x.And (assert_fails_n3 ∷ assert_fails_n6 ∷ []))

abbrev pub assert_fails_n1 : Stmt
assert_fails_n1 = s 1 (y.Assert assert_fails_n2 None)

abbrev pub assert_fails_n10 : Expr
assert_fails_n10 = e 10 (x.Name (codes "a"))

abbrev pub assert_fails_n9 : Stmt
assert_fails_n9 = s 9 (y.Return (Some assert_fails_n10))

abbrev pub assert_fails_t1 : Expr
assert_fails_t1 = e 0 (x.Name (codes "module_0"))

abbrev pub assert_fails_t2 : Expr
assert_fails_t2 = e 0 (x.IntLit (pos 0))

abbrev pub assert_fails_t3 : Expr
assert_fails_t3 = e 0 (x.Method assert_fails_t1 (codes "f") (args (assert_fails_t2 ∷ []) []))

abbrev pub assert_fails_t4 : Stmt
assert_fails_t4 = s 0 (y.Assign ((target.Name (codes "var_8")) ∷ []) false None assert_fails_t3)

abbrev pub function_assert_fails_0 : Function
function_assert_fails_0 = record { tree = (func 0 (codes "f") ((param (codes "a") None) ∷ []) (assert_fails_n1 ∷ assert_fails_n9 ∷ [])); owner = None; locals = ((codes "a") ∷ []) }

abbrev pub program_assert_fails : Program
program_assert_fails = record { functions = (function_assert_fails_0 ∷ []); classes = []; bindings = [] }

abbrev pub state_assert_fails : Option FuncId → Attributes → List ObjId → World → ℕ → ℕ → Trail → State World Trail
state_assert_fails function variables handled objects depth left seen = record { frame = record { function = function; variables = variables; handled = handled }; space = record { names = (((codes "f"), (v.Func (func_id 0))) ∷ []); defaults = ([] ∷ []); constants = [] }; objects = objects; depth = depth; left = left; seen = seen }

-- var_8 = module_0.f(0)
abbrev pub AssertFails0 : Type 0
AssertFails0 = means recorder program_assert_fails assert_fails_t4 (state_assert_fails None [] [] [] 0 300 []) ≡ ((Err (Raised (id 0))), (state_assert_fails None [] [] (object.Instance (Built built.AssertionError) [] (Some (measured [])) ∷ []) 0 290 (began 0 ∷ began 1 ∷ began 2 ∷ began 3 ∷ began 4 ∷ began 5 ∷ Decided (node 2) (j.All ((j.Ints Gt (pos 0) (pos 1)) ∷ []) 1) false ∷ [])))

-- raise no exception:
--
--     def f():
--         raise 5
--
abbrev pub raise_no_exception_n2 : Expr
raise_no_exception_n2 = e 2 (x.IntLit (pos 5))

abbrev pub raise_no_exception_n1 : Stmt
raise_no_exception_n1 = s 1 (y.Raise (Some raise_no_exception_n2))

abbrev pub raise_no_exception_t1 : Expr
raise_no_exception_t1 = e 0 (x.Name (codes "module_0"))

abbrev pub raise_no_exception_t2 : Expr
raise_no_exception_t2 = e 0 (x.Method raise_no_exception_t1 (codes "f") (args [] []))

abbrev pub raise_no_exception_t3 : Stmt
raise_no_exception_t3 = s 0 (y.Assign ((target.Name (codes "var_8")) ∷ []) false None raise_no_exception_t2)

abbrev pub function_raise_no_exception_0 : Function
function_raise_no_exception_0 = record { tree = (func 0 (codes "f") [] (raise_no_exception_n1 ∷ [])); owner = None; locals = [] }

abbrev pub program_raise_no_exception : Program
program_raise_no_exception = record { functions = (function_raise_no_exception_0 ∷ []); classes = []; bindings = [] }

abbrev pub state_raise_no_exception : Option FuncId → Attributes → List ObjId → World → ℕ → ℕ → Trail → State World Trail
state_raise_no_exception function variables handled objects depth left seen = record { frame = record { function = function; variables = variables; handled = handled }; space = record { names = (((codes "f"), (v.Func (func_id 0))) ∷ []); defaults = ([] ∷ []); constants = [] }; objects = objects; depth = depth; left = left; seen = seen }

-- var_8 = module_0.f()
abbrev pub RaiseNoException0 : Type 0
RaiseNoException0 = means recorder program_raise_no_exception raise_no_exception_t3 (state_raise_no_exception None [] [] [] 0 300 []) ≡ ((Err (Raised (id 0))), (state_raise_no_exception None [] [] (object.Instance (Built built.TypeError) [] None ∷ []) 0 294 (began 0 ∷ began 1 ∷ began 2 ∷ [])))

-- reraise innermost:
--
--     def f():
--         try:
--             1 // 0
--         except ZeroDivisionError:
--             try:
--                 {}[1]
--             except KeyError:
--                 pass
--             raise
--
abbrev pub reraise_innermost_n4 : Expr
reraise_innermost_n4 = e 4 (x.IntLit (pos 1))

abbrev pub reraise_innermost_n5 : Expr
reraise_innermost_n5 = e 5 (x.IntLit (pos 0))

abbrev pub reraise_innermost_n3 : Expr
reraise_innermost_n3 = e 3 (x.Binary FloorDiv reraise_innermost_n4 reraise_innermost_n5)

abbrev pub reraise_innermost_n2 : Stmt
reraise_innermost_n2 = s 2 (y.Bare reraise_innermost_n3)

abbrev pub reraise_innermost_n10 : Expr
reraise_innermost_n10 = e 10 (x.DictLit [])

abbrev pub reraise_innermost_n11 : Expr
reraise_innermost_n11 = e 11 (x.IntLit (pos 1))

abbrev pub reraise_innermost_n9 : Expr
reraise_innermost_n9 = e 9 (x.Index reraise_innermost_n10 reraise_innermost_n11)

abbrev pub reraise_innermost_n8 : Stmt
reraise_innermost_n8 = s 8 (y.Bare reraise_innermost_n9)

abbrev pub reraise_innermost_n13 : Stmt
reraise_innermost_n13 = s 13 y.Pass

abbrev pub reraise_innermost_n7 : Stmt
reraise_innermost_n7 = s 7 (y.Try (reraise_innermost_n8 ∷ []) ((clause 12 (Some ((codes "KeyError") ∷ [])) None (reraise_innermost_n13 ∷ [])) ∷ []) None None)

abbrev pub reraise_innermost_n14 : Stmt
reraise_innermost_n14 = s 14 (y.Raise None)

abbrev pub reraise_innermost_n1 : Stmt
reraise_innermost_n1 = s 1 (y.Try (reraise_innermost_n2 ∷ []) ((clause 6 (Some ((codes "ZeroDivisionError") ∷ [])) None (reraise_innermost_n7 ∷ reraise_innermost_n14 ∷ [])) ∷ []) None None)

abbrev pub reraise_innermost_t1 : Expr
reraise_innermost_t1 = e 0 (x.Name (codes "module_0"))

abbrev pub reraise_innermost_t2 : Expr
reraise_innermost_t2 = e 0 (x.Method reraise_innermost_t1 (codes "f") (args [] []))

abbrev pub reraise_innermost_t3 : Stmt
reraise_innermost_t3 = s 0 (y.Assign ((target.Name (codes "var_8")) ∷ []) false None reraise_innermost_t2)

abbrev pub function_reraise_innermost_0 : Function
function_reraise_innermost_0 = record { tree = (func 0 (codes "f") [] (reraise_innermost_n1 ∷ [])); owner = None; locals = [] }

abbrev pub program_reraise_innermost : Program
program_reraise_innermost = record { functions = (function_reraise_innermost_0 ∷ []); classes = []; bindings = [] }

abbrev pub state_reraise_innermost : Option FuncId → Attributes → List ObjId → World → ℕ → ℕ → Trail → State World Trail
state_reraise_innermost function variables handled objects depth left seen = record { frame = record { function = function; variables = variables; handled = handled }; space = record { names = (((codes "f"), (v.Func (func_id 0))) ∷ []); defaults = ([] ∷ []); constants = [] }; objects = objects; depth = depth; left = left; seen = seen }

-- var_8 = module_0.f()
abbrev pub ReraiseInnermost0 : Type 0
ReraiseInnermost0 = means recorder program_reraise_innermost reraise_innermost_t3 (state_reraise_innermost None [] [] [] 0 300 []) ≡ ((Err (Raised (id 0))), (state_reraise_innermost None [] [] (object.Instance (Built built.ZeroDivisionError) [] None ∷ object.Dict [] 0 ∷ object.Instance (Built built.KeyError) [] None ∷ []) 0 281 (began 0 ∷ began 1 ∷ began 2 ∷ began 3 ∷ began 4 ∷ began 5 ∷ began 6 ∷ Decided (node 6) (j.Plain true) true ∷ began 7 ∷ began 8 ∷ began 9 ∷ began 10 ∷ began 11 ∷ began 12 ∷ Decided (node 12) (j.Plain true) true ∷ began 13 ∷ began 14 ∷ [])))

-- exception attribute:
--
--     def f():
--         return ValueError(1).foo
--
abbrev pub exception_attribute_n4 : Expr
exception_attribute_n4 = e 4 (x.Name (codes "ValueError"))

abbrev pub exception_attribute_n5 : Expr
exception_attribute_n5 = e 5 (x.IntLit (pos 1))

abbrev pub exception_attribute_n3 : Expr
exception_attribute_n3 = e 3 (x.Call exception_attribute_n4 (args (exception_attribute_n5 ∷ []) []))

abbrev pub exception_attribute_n2 : Expr
exception_attribute_n2 = e 2 (x.Attr exception_attribute_n3 (codes "foo"))

abbrev pub exception_attribute_n1 : Stmt
exception_attribute_n1 = s 1 (y.Return (Some exception_attribute_n2))

abbrev pub exception_attribute_t1 : Expr
exception_attribute_t1 = e 0 (x.Name (codes "module_0"))

abbrev pub exception_attribute_t2 : Expr
exception_attribute_t2 = e 0 (x.Method exception_attribute_t1 (codes "f") (args [] []))

abbrev pub exception_attribute_t3 : Stmt
exception_attribute_t3 = s 0 (y.Assign ((target.Name (codes "var_8")) ∷ []) false None exception_attribute_t2)

abbrev pub function_exception_attribute_0 : Function
function_exception_attribute_0 = record { tree = (func 0 (codes "f") [] (exception_attribute_n1 ∷ [])); owner = None; locals = [] }

abbrev pub program_exception_attribute : Program
program_exception_attribute = record { functions = (function_exception_attribute_0 ∷ []); classes = []; bindings = [] }

abbrev pub state_exception_attribute : Option FuncId → Attributes → List ObjId → World → ℕ → ℕ → Trail → State World Trail
state_exception_attribute function variables handled objects depth left seen = record { frame = record { function = function; variables = variables; handled = handled }; space = record { names = (((codes "f"), (v.Func (func_id 0))) ∷ []); defaults = ([] ∷ []); constants = [] }; objects = objects; depth = depth; left = left; seen = seen }

-- var_8 = module_0.f()
abbrev pub ExceptionAttribute0 : Type 0
ExceptionAttribute0 = means recorder program_exception_attribute exception_attribute_t3 (state_exception_attribute None [] [] [] 0 300 []) ≡ ((Err (Left construct.ExceptionAttribute)), (state_exception_attribute None [] [] (object.Instance (Built built.ValueError) [] (Some (measured ((v.Int (pos 1)) ∷ []))) ∷ []) 0 291 (began 0 ∷ began 1 ∷ began 2 ∷ began 3 ∷ began 4 ∷ began 5 ∷ [])))

-- no finally when left:
--
--     def f():
--         a = []
--         try:
--             1 is 1
--         finally:
--             a.append(1)
--
abbrev pub no_finally_when_left_n2 : Expr
no_finally_when_left_n2 = e 2 (x.ListLit [])

abbrev pub no_finally_when_left_n1 : Stmt
no_finally_when_left_n1 = s 1 (y.Assign ((target.Name (codes "a")) ∷ []) false None no_finally_when_left_n2)

abbrev pub no_finally_when_left_n6 : Expr
no_finally_when_left_n6 = e 6 (x.IntLit (pos 1))

abbrev pub no_finally_when_left_n7 : Expr
no_finally_when_left_n7 = e 7 (x.IntLit (pos 1))

abbrev pub no_finally_when_left_n5 : Expr
no_finally_when_left_n5 = e 5 (x.Compare no_finally_when_left_n6 ((Same, no_finally_when_left_n7) ∷ []))

abbrev pub no_finally_when_left_n4 : Stmt
no_finally_when_left_n4 = s 4 (y.Bare no_finally_when_left_n5)

abbrev pub no_finally_when_left_n10 : Expr
no_finally_when_left_n10 = e 10 (x.Name (codes "a"))

abbrev pub no_finally_when_left_n11 : Expr
no_finally_when_left_n11 = e 11 (x.IntLit (pos 1))

abbrev pub no_finally_when_left_n9 : Expr
no_finally_when_left_n9 = e 9 (x.Method no_finally_when_left_n10 (codes "append") (args (no_finally_when_left_n11 ∷ []) []))

abbrev pub no_finally_when_left_n8 : Stmt
no_finally_when_left_n8 = s 8 (y.Bare no_finally_when_left_n9)

abbrev pub no_finally_when_left_n3 : Stmt
no_finally_when_left_n3 = s 3 (y.Try (no_finally_when_left_n4 ∷ []) [] None (Some (no_finally_when_left_n8 ∷ [])))

abbrev pub no_finally_when_left_t1 : Expr
no_finally_when_left_t1 = e 0 (x.Name (codes "module_0"))

abbrev pub no_finally_when_left_t2 : Expr
no_finally_when_left_t2 = e 0 (x.Method no_finally_when_left_t1 (codes "f") (args [] []))

abbrev pub no_finally_when_left_t3 : Stmt
no_finally_when_left_t3 = s 0 (y.Assign ((target.Name (codes "var_8")) ∷ []) false None no_finally_when_left_t2)

abbrev pub function_no_finally_when_left_0 : Function
function_no_finally_when_left_0 = record { tree = (func 0 (codes "f") [] (no_finally_when_left_n1 ∷ no_finally_when_left_n3 ∷ [])); owner = None; locals = ((codes "a") ∷ []) }

abbrev pub program_no_finally_when_left : Program
program_no_finally_when_left = record { functions = (function_no_finally_when_left_0 ∷ []); classes = []; bindings = [] }

abbrev pub state_no_finally_when_left : Option FuncId → Attributes → List ObjId → World → ℕ → ℕ → Trail → State World Trail
state_no_finally_when_left function variables handled objects depth left seen = record { frame = record { function = function; variables = variables; handled = handled }; space = record { names = (((codes "f"), (v.Func (func_id 0))) ∷ []); defaults = ([] ∷ []); constants = [] }; objects = objects; depth = depth; left = left; seen = seen }

-- var_8 = module_0.f()
abbrev pub NoFinallyWhenLeft0 : Type 0
NoFinallyWhenLeft0 = means recorder program_no_finally_when_left no_finally_when_left_t3 (state_no_finally_when_left None [] [] [] 0 300 []) ≡ ((Err (Left construct.Identity)), (state_no_finally_when_left None [] [] (object.List [] ∷ []) 0 289 (began 0 ∷ began 1 ∷ began 2 ∷ began 3 ∷ began 4 ∷ began 5 ∷ began 6 ∷ began 7 ∷ [])))
