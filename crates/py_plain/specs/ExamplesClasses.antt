-- Worked examples of classes (3.2 and 8.8): what a statement of a test means, with its end, variables, objects, trail and steps left.
use Rattle.py_meaning.specs.Examples.{id}
use Rattle.py_meaning.specs.Tuples.{tuple, measured}
use Rattle.py_meaning.specs.Worlds.{World, Attributes}
use Rattle.py_meaning.specs.declared.object.Object.TheVariants as object
use Rattle.py_meaning.specs.declared.value.Value.TheVariants as v
use Rattle.py_plain.specs.Examples.{e, s, args, param, func, func_id, began}
use Rattle.py_plain.specs.Program.{Function, Program}
use Rattle.py_plain.specs.Statements.{means}
use Rattle.py_plain.specs.Tests.{Trail, recorder}
use Rattle.py_plain.specs.declared.judged.Judged.TheVariants as j
use Rattle.py_plain.specs.declared.run.Abrupt.TheVariants.{Raised, Left}
use Rattle.py_plain.specs.declared.state.State.{State}
use Rattle.py_syntax.specs.declared.expr.Expr.{Expr}
use Rattle.py_syntax.specs.declared.expr.ExprKind.TheVariants as x
use Rattle.py_syntax.specs.declared.operator.BinOp.TheVariants.{Add, Mul}
use Rattle.py_syntax.specs.declared.stmt.Stmt.{Stmt}
use Rattle.py_syntax.specs.declared.stmt.StmtKind.TheVariants as y
use Rattle.py_syntax.specs.declared.stmt.Target.TheVariants as target
use Rattle.pyn_base.specs.declared.class.BuiltClass.TheVariants as built
use Rattle.pyn_base.specs.declared.class.ClassId.TheVariants.{Built, Own}
use Rattle.pyn_base.specs.declared.construct.Construct.TheVariants as construct
use Rattle.pyn_base.specs.declared.ids.FuncId.{FuncId}
use Rattle.pyn_base.specs.declared.ids.ObjId.{ObjId}
use Rattle.std.proofs.Common.{◌≡◌, ℕ}
use Rattle.std.specs.Prelude.{pos, false, List, [], ◌∷◌, Option, Some, None, Ok, Err, codes}

-- class function:
--
--     class A:
--         k = 7
--         def __init__(self, x=1):
--             self.x = x
--         def get(self, n=0):
--             return self.x + n
--     def f():
--         return A.get(A(3), 4)
--
abbrev pub class_function_t1 : Expr
class_function_t1 = e 0 (x.IntLit (pos 1))

abbrev pub class_function_n2 : Expr
class_function_n2 = e 2 (x.Name (codes "self"))

abbrev pub class_function_n3 : Expr
class_function_n3 = e 3 (x.Name (codes "x"))

abbrev pub class_function_n1 : Stmt
class_function_n1 = s 1 (y.Assign ((target.Attr class_function_n2 (codes "x")) ∷ []) false None class_function_n3)

abbrev pub class_function_t2 : Expr
class_function_t2 = e 0 (x.IntLit (pos 0))

abbrev pub class_function_n8 : Expr
class_function_n8 = e 8 (x.Name (codes "self"))

abbrev pub class_function_n7 : Expr
class_function_n7 = e 7 (x.Attr class_function_n8 (codes "x"))

abbrev pub class_function_n9 : Expr
class_function_n9 = e 9 (x.Name (codes "n"))

abbrev pub class_function_n6 : Expr
class_function_n6 = e 6 (x.Binary Add class_function_n7 class_function_n9)

abbrev pub class_function_n5 : Stmt
class_function_n5 = s 5 (y.Return (Some class_function_n6))

abbrev pub class_function_n13 : Expr
class_function_n13 = e 13 (x.Name (codes "A"))

abbrev pub class_function_n15 : Expr
class_function_n15 = e 15 (x.Name (codes "A"))

abbrev pub class_function_n16 : Expr
class_function_n16 = e 16 (x.IntLit (pos 3))

abbrev pub class_function_n14 : Expr
class_function_n14 = e 14 (x.Call class_function_n15 (args (class_function_n16 ∷ []) []))

abbrev pub class_function_n17 : Expr
class_function_n17 = e 17 (x.IntLit (pos 4))

abbrev pub class_function_n12 : Expr
class_function_n12 = e 12 (x.Method class_function_n13 (codes "get") (args (class_function_n14 ∷ class_function_n17 ∷ []) []))

abbrev pub class_function_n11 : Stmt
class_function_n11 = s 11 (y.Return (Some class_function_n12))

abbrev pub class_function_t3 : Expr
class_function_t3 = e 0 (x.Name (codes "module_0"))

abbrev pub class_function_t4 : Expr
class_function_t4 = e 0 (x.Method class_function_t3 (codes "f") (args [] []))

abbrev pub class_function_t5 : Stmt
class_function_t5 = s 0 (y.Assign ((target.Name (codes "var_8")) ∷ []) false None class_function_t4)

abbrev pub function_class_function_0 : Function
function_class_function_0 = record { tree = (func 0 (codes "__init__") ((param (codes "self") None) ∷ (param (codes "x") (Some class_function_t1)) ∷ []) (class_function_n1 ∷ [])); owner = (Some 0); locals = ((codes "self") ∷ (codes "x") ∷ []) }

abbrev pub function_class_function_1 : Function
function_class_function_1 = record { tree = (func 4 (codes "get") ((param (codes "self") None) ∷ (param (codes "n") (Some class_function_t2)) ∷ []) (class_function_n5 ∷ [])); owner = (Some 0); locals = ((codes "self") ∷ (codes "n") ∷ []) }

abbrev pub function_class_function_2 : Function
function_class_function_2 = record { tree = (func 10 (codes "f") [] (class_function_n11 ∷ [])); owner = None; locals = [] }

abbrev pub program_class_function : Program
program_class_function = record { functions = (function_class_function_0 ∷ function_class_function_1 ∷ function_class_function_2 ∷ []); classes = (record { name = (codes "A"); base = (Built built.Object); methods = (((codes "__init__"), func_id 0) ∷ ((codes "get"), func_id 1) ∷ []); constants = [] } ∷ []); bindings = [] }

abbrev pub state_class_function : Option FuncId → Attributes → List ObjId → World → ℕ → ℕ → Trail → State World Trail
state_class_function function variables handled objects depth left seen = record { frame = record { function = function; variables = variables; handled = handled }; space = record { names = (((codes "A"), (v.Class (Own 0))) ∷ ((codes "f"), (v.Func (func_id 2))) ∷ []); defaults = ((((codes "x"), (v.Int (pos 1))) ∷ []) ∷ (((codes "n"), (v.Int (pos 0))) ∷ []) ∷ [] ∷ []); constants = ((((codes "k"), (v.Int (pos 7))) ∷ []) ∷ []) }; objects = objects; depth = depth; left = left; seen = seen }

-- var_8 = module_0.f()
abbrev pub ClassFunction0 : Type 0
ClassFunction0 = means recorder program_class_function class_function_t5 (state_class_function None [] [] [] 0 300 []) ≡ ((Ok (v.None, (j.Plain false))), (state_class_function None (((codes "var_8"), (v.Int (pos 7))) ∷ []) [] (object.Instance (Own 0) (((codes "x"), (v.Int (pos 3))) ∷ []) None ∷ []) 0 279 (began 10 ∷ began 11 ∷ began 12 ∷ began 13 ∷ began 14 ∷ began 15 ∷ began 16 ∷ began 0 ∷ began 1 ∷ began 3 ∷ began 2 ∷ began 17 ∷ began 4 ∷ began 5 ∷ began 6 ∷ began 7 ∷ began 8 ∷ began 9 ∷ [])))

-- init returns:
--
--     class B:
--         def __init__(self):
--             return 1
--     def f():
--         return B()
--
abbrev pub init_returns_n2 : Expr
init_returns_n2 = e 2 (x.IntLit (pos 1))

abbrev pub init_returns_n1 : Stmt
init_returns_n1 = s 1 (y.Return (Some init_returns_n2))

abbrev pub init_returns_n6 : Expr
init_returns_n6 = e 6 (x.Name (codes "B"))

abbrev pub init_returns_n5 : Expr
init_returns_n5 = e 5 (x.Call init_returns_n6 (args [] []))

abbrev pub init_returns_n4 : Stmt
init_returns_n4 = s 4 (y.Return (Some init_returns_n5))

abbrev pub init_returns_t1 : Expr
init_returns_t1 = e 0 (x.Name (codes "module_0"))

abbrev pub init_returns_t2 : Expr
init_returns_t2 = e 0 (x.Method init_returns_t1 (codes "f") (args [] []))

abbrev pub init_returns_t3 : Stmt
init_returns_t3 = s 0 (y.Assign ((target.Name (codes "var_8")) ∷ []) false None init_returns_t2)

abbrev pub function_init_returns_0 : Function
function_init_returns_0 = record { tree = (func 0 (codes "__init__") ((param (codes "self") None) ∷ []) (init_returns_n1 ∷ [])); owner = (Some 0); locals = ((codes "self") ∷ []) }

abbrev pub function_init_returns_1 : Function
function_init_returns_1 = record { tree = (func 3 (codes "f") [] (init_returns_n4 ∷ [])); owner = None; locals = [] }

abbrev pub program_init_returns : Program
program_init_returns = record { functions = (function_init_returns_0 ∷ function_init_returns_1 ∷ []); classes = (record { name = (codes "B"); base = (Built built.Object); methods = (((codes "__init__"), func_id 0) ∷ []); constants = [] } ∷ []); bindings = [] }

abbrev pub state_init_returns : Option FuncId → Attributes → List ObjId → World → ℕ → ℕ → Trail → State World Trail
state_init_returns function variables handled objects depth left seen = record { frame = record { function = function; variables = variables; handled = handled }; space = record { names = (((codes "B"), (v.Class (Own 0))) ∷ ((codes "f"), (v.Func (func_id 1))) ∷ []); defaults = ([] ∷ [] ∷ []); constants = ([] ∷ []) }; objects = objects; depth = depth; left = left; seen = seen }

-- var_8 = module_0.f()
abbrev pub InitReturns0 : Type 0
InitReturns0 = means recorder program_init_returns init_returns_t3 (state_init_returns None [] [] [] 0 300 []) ≡ ((Err (Raised (id 1))), (state_init_returns None [] [] (object.Instance (Own 0) [] None ∷ object.Instance (Built built.TypeError) [] None ∷ []) 0 290 (began 3 ∷ began 4 ∷ began 5 ∷ began 6 ∷ began 0 ∷ began 1 ∷ began 2 ∷ [])))

-- super chain:
--
--     class A:
--         k = 7
--         def __init__(self, x=1):
--             self.x = x
--         def get(self, n=0):
--             return self.x + n
--     class B(A):
--         def get(self, n=0):
--             return super().get(n) * 10
--     class C(B):
--         def __init__(self):
--             super().__init__(4)
--         def get(self, n=0):
--             return super().get(n) + 1
--     def f():
--         return (B(3).get(1), C().get(), C().k)
--
abbrev pub super_chain_t1 : Expr
super_chain_t1 = e 0 (x.IntLit (pos 1))

abbrev pub super_chain_n2 : Expr
super_chain_n2 = e 2 (x.Name (codes "self"))

abbrev pub super_chain_n3 : Expr
super_chain_n3 = e 3 (x.Name (codes "x"))

abbrev pub super_chain_n1 : Stmt
super_chain_n1 = s 1 (y.Assign ((target.Attr super_chain_n2 (codes "x")) ∷ []) false None super_chain_n3)

abbrev pub super_chain_t2 : Expr
super_chain_t2 = e 0 (x.IntLit (pos 0))

abbrev pub super_chain_n8 : Expr
super_chain_n8 = e 8 (x.Name (codes "self"))

abbrev pub super_chain_n7 : Expr
super_chain_n7 = e 7 (x.Attr super_chain_n8 (codes "x"))

abbrev pub super_chain_n9 : Expr
super_chain_n9 = e 9 (x.Name (codes "n"))

abbrev pub super_chain_n6 : Expr
super_chain_n6 = e 6 (x.Binary Add super_chain_n7 super_chain_n9)

abbrev pub super_chain_n5 : Stmt
super_chain_n5 = s 5 (y.Return (Some super_chain_n6))

abbrev pub super_chain_n14 : Expr
super_chain_n14 = e 14 (x.Name (codes "n"))

abbrev pub super_chain_n13 : Expr
super_chain_n13 = e 13 (x.Super (codes "get") (args (super_chain_n14 ∷ []) []))

abbrev pub super_chain_n15 : Expr
super_chain_n15 = e 15 (x.IntLit (pos 10))

abbrev pub super_chain_n12 : Expr
super_chain_n12 = e 12 (x.Binary Mul super_chain_n13 super_chain_n15)

abbrev pub super_chain_n11 : Stmt
super_chain_n11 = s 11 (y.Return (Some super_chain_n12))

abbrev pub super_chain_n19 : Expr
super_chain_n19 = e 19 (x.IntLit (pos 4))

abbrev pub super_chain_n18 : Expr
super_chain_n18 = e 18 (x.Super (codes "__init__") (args (super_chain_n19 ∷ []) []))

abbrev pub super_chain_n17 : Stmt
super_chain_n17 = s 17 (y.Bare super_chain_n18)

abbrev pub super_chain_n24 : Expr
super_chain_n24 = e 24 (x.Name (codes "n"))

abbrev pub super_chain_n23 : Expr
super_chain_n23 = e 23 (x.Super (codes "get") (args (super_chain_n24 ∷ []) []))

abbrev pub super_chain_n25 : Expr
super_chain_n25 = e 25 (x.IntLit (pos 1))

abbrev pub super_chain_n22 : Expr
super_chain_n22 = e 22 (x.Binary Add super_chain_n23 super_chain_n25)

abbrev pub super_chain_n21 : Stmt
super_chain_n21 = s 21 (y.Return (Some super_chain_n22))

abbrev pub super_chain_n31 : Expr
super_chain_n31 = e 31 (x.Name (codes "B"))

abbrev pub super_chain_n32 : Expr
super_chain_n32 = e 32 (x.IntLit (pos 3))

abbrev pub super_chain_n30 : Expr
super_chain_n30 = e 30 (x.Call super_chain_n31 (args (super_chain_n32 ∷ []) []))

abbrev pub super_chain_n33 : Expr
super_chain_n33 = e 33 (x.IntLit (pos 1))

abbrev pub super_chain_n29 : Expr
super_chain_n29 = e 29 (x.Method super_chain_n30 (codes "get") (args (super_chain_n33 ∷ []) []))

abbrev pub super_chain_n36 : Expr
super_chain_n36 = e 36 (x.Name (codes "C"))

abbrev pub super_chain_n35 : Expr
super_chain_n35 = e 35 (x.Call super_chain_n36 (args [] []))

abbrev pub super_chain_n34 : Expr
super_chain_n34 = e 34 (x.Method super_chain_n35 (codes "get") (args [] []))

abbrev pub super_chain_n39 : Expr
super_chain_n39 = e 39 (x.Name (codes "C"))

abbrev pub super_chain_n38 : Expr
super_chain_n38 = e 38 (x.Call super_chain_n39 (args [] []))

abbrev pub super_chain_n37 : Expr
super_chain_n37 = e 37 (x.Attr super_chain_n38 (codes "k"))

abbrev pub super_chain_n28 : Expr
super_chain_n28 = e 28 (x.TupleLit (super_chain_n29 ∷ super_chain_n34 ∷ super_chain_n37 ∷ []))

abbrev pub super_chain_n27 : Stmt
super_chain_n27 = s 27 (y.Return (Some super_chain_n28))

abbrev pub super_chain_t3 : Expr
super_chain_t3 = e 0 (x.Name (codes "module_0"))

abbrev pub super_chain_t4 : Expr
super_chain_t4 = e 0 (x.Method super_chain_t3 (codes "f") (args [] []))

abbrev pub super_chain_t5 : Stmt
super_chain_t5 = s 0 (y.Assign ((target.Name (codes "var_8")) ∷ []) false None super_chain_t4)

abbrev pub function_super_chain_0 : Function
function_super_chain_0 = record { tree = (func 0 (codes "__init__") ((param (codes "self") None) ∷ (param (codes "x") (Some super_chain_t1)) ∷ []) (super_chain_n1 ∷ [])); owner = (Some 0); locals = ((codes "self") ∷ (codes "x") ∷ []) }

abbrev pub function_super_chain_1 : Function
function_super_chain_1 = record { tree = (func 4 (codes "get") ((param (codes "self") None) ∷ (param (codes "n") (Some super_chain_t2)) ∷ []) (super_chain_n5 ∷ [])); owner = (Some 0); locals = ((codes "self") ∷ (codes "n") ∷ []) }

abbrev pub function_super_chain_2 : Function
function_super_chain_2 = record { tree = (func 10 (codes "get") ((param (codes "self") None) ∷ (param (codes "n") (Some super_chain_t2)) ∷ []) (super_chain_n11 ∷ [])); owner = (Some 1); locals = ((codes "self") ∷ (codes "n") ∷ []) }

abbrev pub function_super_chain_3 : Function
function_super_chain_3 = record { tree = (func 16 (codes "__init__") ((param (codes "self") None) ∷ []) (super_chain_n17 ∷ [])); owner = (Some 2); locals = ((codes "self") ∷ []) }

abbrev pub function_super_chain_4 : Function
function_super_chain_4 = record { tree = (func 20 (codes "get") ((param (codes "self") None) ∷ (param (codes "n") (Some super_chain_t2)) ∷ []) (super_chain_n21 ∷ [])); owner = (Some 2); locals = ((codes "self") ∷ (codes "n") ∷ []) }

abbrev pub function_super_chain_5 : Function
function_super_chain_5 = record { tree = (func 26 (codes "f") [] (super_chain_n27 ∷ [])); owner = None; locals = [] }

abbrev pub program_super_chain : Program
program_super_chain = record { functions = (function_super_chain_0 ∷ function_super_chain_1 ∷ function_super_chain_2 ∷ function_super_chain_3 ∷ function_super_chain_4 ∷ function_super_chain_5 ∷ []); classes = (record { name = (codes "A"); base = (Built built.Object); methods = (((codes "__init__"), func_id 0) ∷ ((codes "get"), func_id 1) ∷ []); constants = [] } ∷ record { name = (codes "B"); base = (Own 0); methods = (((codes "get"), func_id 2) ∷ []); constants = [] } ∷ record { name = (codes "C"); base = (Own 1); methods = (((codes "__init__"), func_id 3) ∷ ((codes "get"), func_id 4) ∷ []); constants = [] } ∷ []); bindings = [] }

abbrev pub state_super_chain : Option FuncId → Attributes → List ObjId → World → ℕ → ℕ → Trail → State World Trail
state_super_chain function variables handled objects depth left seen = record { frame = record { function = function; variables = variables; handled = handled }; space = record { names = (((codes "A"), (v.Class (Own 0))) ∷ ((codes "B"), (v.Class (Own 1))) ∷ ((codes "C"), (v.Class (Own 2))) ∷ ((codes "f"), (v.Func (func_id 5))) ∷ []); defaults = ((((codes "x"), (v.Int (pos 1))) ∷ []) ∷ (((codes "n"), (v.Int (pos 0))) ∷ []) ∷ (((codes "n"), (v.Int (pos 0))) ∷ []) ∷ [] ∷ (((codes "n"), (v.Int (pos 0))) ∷ []) ∷ [] ∷ []); constants = ((((codes "k"), (v.Int (pos 7))) ∷ []) ∷ [] ∷ [] ∷ []) }; objects = objects; depth = depth; left = left; seen = seen }

-- var_8 = module_0.f()
abbrev pub SuperChain0 : Type 0
SuperChain0 = means recorder program_super_chain super_chain_t5 (state_super_chain None [] [] [] 0 300 []) ≡ ((Ok (v.None, (j.Plain false))), (state_super_chain None (((codes "var_8"), (tuple ((v.Int (pos 40)) ∷ (v.Int (pos 41)) ∷ (v.Int (pos 7)) ∷ []))) ∷ []) [] (object.Instance (Own 1) (((codes "x"), (v.Int (pos 3))) ∷ []) None ∷ object.Instance (Own 2) (((codes "x"), (v.Int (pos 4))) ∷ []) None ∷ object.Instance (Own 2) (((codes "x"), (v.Int (pos 4))) ∷ []) None ∷ []) 0 230 (began 26 ∷ began 27 ∷ began 28 ∷ began 29 ∷ began 30 ∷ began 31 ∷ began 32 ∷ began 0 ∷ began 1 ∷ began 3 ∷ began 2 ∷ began 33 ∷ began 10 ∷ began 11 ∷ began 12 ∷ began 13 ∷ began 14 ∷ began 4 ∷ began 5 ∷ began 6 ∷ began 7 ∷ began 8 ∷ began 9 ∷ began 15 ∷ began 34 ∷ began 35 ∷ began 36 ∷ began 16 ∷ began 17 ∷ began 18 ∷ began 19 ∷ began 0 ∷ began 1 ∷ began 3 ∷ began 2 ∷ began 20 ∷ began 21 ∷ began 22 ∷ began 23 ∷ began 24 ∷ began 10 ∷ began 11 ∷ began 12 ∷ began 13 ∷ began 14 ∷ began 4 ∷ began 5 ∷ began 6 ∷ began 7 ∷ began 8 ∷ began 9 ∷ began 15 ∷ began 25 ∷ began 37 ∷ began 38 ∷ began 39 ∷ began 16 ∷ began 17 ∷ began 18 ∷ began 19 ∷ began 0 ∷ began 1 ∷ began 3 ∷ began 2 ∷ [])))

-- super of class:
--
--     class C:
--         def m(self):
--             return super().m()
--     def f():
--         return C.m(C)
--
abbrev pub super_of_class_n2 : Expr
super_of_class_n2 = e 2 (x.Super (codes "m") (args [] []))

abbrev pub super_of_class_n1 : Stmt
super_of_class_n1 = s 1 (y.Return (Some super_of_class_n2))

abbrev pub super_of_class_n6 : Expr
super_of_class_n6 = e 6 (x.Name (codes "C"))

abbrev pub super_of_class_n7 : Expr
super_of_class_n7 = e 7 (x.Name (codes "C"))

abbrev pub super_of_class_n5 : Expr
super_of_class_n5 = e 5 (x.Method super_of_class_n6 (codes "m") (args (super_of_class_n7 ∷ []) []))

abbrev pub super_of_class_n4 : Stmt
super_of_class_n4 = s 4 (y.Return (Some super_of_class_n5))

abbrev pub super_of_class_t1 : Expr
super_of_class_t1 = e 0 (x.Name (codes "module_0"))

abbrev pub super_of_class_t2 : Expr
super_of_class_t2 = e 0 (x.Method super_of_class_t1 (codes "f") (args [] []))

abbrev pub super_of_class_t3 : Stmt
super_of_class_t3 = s 0 (y.Assign ((target.Name (codes "var_8")) ∷ []) false None super_of_class_t2)

abbrev pub function_super_of_class_0 : Function
function_super_of_class_0 = record { tree = (func 0 (codes "m") ((param (codes "self") None) ∷ []) (super_of_class_n1 ∷ [])); owner = (Some 0); locals = ((codes "self") ∷ []) }

abbrev pub function_super_of_class_1 : Function
function_super_of_class_1 = record { tree = (func 3 (codes "f") [] (super_of_class_n4 ∷ [])); owner = None; locals = [] }

abbrev pub program_super_of_class : Program
program_super_of_class = record { functions = (function_super_of_class_0 ∷ function_super_of_class_1 ∷ []); classes = (record { name = (codes "C"); base = (Built built.Object); methods = (((codes "m"), func_id 0) ∷ []); constants = [] } ∷ []); bindings = [] }

abbrev pub state_super_of_class : Option FuncId → Attributes → List ObjId → World → ℕ → ℕ → Trail → State World Trail
state_super_of_class function variables handled objects depth left seen = record { frame = record { function = function; variables = variables; handled = handled }; space = record { names = (((codes "C"), (v.Class (Own 0))) ∷ ((codes "f"), (v.Func (func_id 1))) ∷ []); defaults = ([] ∷ [] ∷ []); constants = ([] ∷ []) }; objects = objects; depth = depth; left = left; seen = seen }

-- var_8 = module_0.f()
abbrev pub SuperOfClass0 : Type 0
SuperOfClass0 = means recorder program_super_of_class super_of_class_t3 (state_super_of_class None [] [] [] 0 300 []) ≡ ((Err (Left construct.SuperOfAClass)), (state_super_of_class None [] [] [] 0 289 (began 3 ∷ began 4 ∷ began 5 ∷ began 6 ∷ began 7 ∷ began 0 ∷ began 1 ∷ began 2 ∷ [])))

-- mro:
--
--     class A:
--         k = 7
--         def __init__(self, x=1):
--             self.x = x
--         def get(self, n=0):
--             return self.x + n
--     def f():
--         return A.mro
--
abbrev pub mro_t1 : Expr
mro_t1 = e 0 (x.IntLit (pos 1))

abbrev pub mro_n2 : Expr
mro_n2 = e 2 (x.Name (codes "self"))

abbrev pub mro_n3 : Expr
mro_n3 = e 3 (x.Name (codes "x"))

abbrev pub mro_n1 : Stmt
mro_n1 = s 1 (y.Assign ((target.Attr mro_n2 (codes "x")) ∷ []) false None mro_n3)

abbrev pub mro_t2 : Expr
mro_t2 = e 0 (x.IntLit (pos 0))

abbrev pub mro_n8 : Expr
mro_n8 = e 8 (x.Name (codes "self"))

abbrev pub mro_n7 : Expr
mro_n7 = e 7 (x.Attr mro_n8 (codes "x"))

abbrev pub mro_n9 : Expr
mro_n9 = e 9 (x.Name (codes "n"))

abbrev pub mro_n6 : Expr
mro_n6 = e 6 (x.Binary Add mro_n7 mro_n9)

abbrev pub mro_n5 : Stmt
mro_n5 = s 5 (y.Return (Some mro_n6))

abbrev pub mro_n13 : Expr
mro_n13 = e 13 (x.Name (codes "A"))

abbrev pub mro_n12 : Expr
mro_n12 = e 12 (x.Attr mro_n13 (codes "mro"))

abbrev pub mro_n11 : Stmt
mro_n11 = s 11 (y.Return (Some mro_n12))

abbrev pub mro_t3 : Expr
mro_t3 = e 0 (x.Name (codes "module_0"))

abbrev pub mro_t4 : Expr
mro_t4 = e 0 (x.Method mro_t3 (codes "f") (args [] []))

abbrev pub mro_t5 : Stmt
mro_t5 = s 0 (y.Assign ((target.Name (codes "var_8")) ∷ []) false None mro_t4)

abbrev pub function_mro_0 : Function
function_mro_0 = record { tree = (func 0 (codes "__init__") ((param (codes "self") None) ∷ (param (codes "x") (Some mro_t1)) ∷ []) (mro_n1 ∷ [])); owner = (Some 0); locals = ((codes "self") ∷ (codes "x") ∷ []) }

abbrev pub function_mro_1 : Function
function_mro_1 = record { tree = (func 4 (codes "get") ((param (codes "self") None) ∷ (param (codes "n") (Some mro_t2)) ∷ []) (mro_n5 ∷ [])); owner = (Some 0); locals = ((codes "self") ∷ (codes "n") ∷ []) }

abbrev pub function_mro_2 : Function
function_mro_2 = record { tree = (func 10 (codes "f") [] (mro_n11 ∷ [])); owner = None; locals = [] }

abbrev pub program_mro : Program
program_mro = record { functions = (function_mro_0 ∷ function_mro_1 ∷ function_mro_2 ∷ []); classes = (record { name = (codes "A"); base = (Built built.Object); methods = (((codes "__init__"), func_id 0) ∷ ((codes "get"), func_id 1) ∷ []); constants = [] } ∷ []); bindings = [] }

abbrev pub state_mro : Option FuncId → Attributes → List ObjId → World → ℕ → ℕ → Trail → State World Trail
state_mro function variables handled objects depth left seen = record { frame = record { function = function; variables = variables; handled = handled }; space = record { names = (((codes "A"), (v.Class (Own 0))) ∷ ((codes "f"), (v.Func (func_id 2))) ∷ []); defaults = ((((codes "x"), (v.Int (pos 1))) ∷ []) ∷ (((codes "n"), (v.Int (pos 0))) ∷ []) ∷ [] ∷ []); constants = ((((codes "k"), (v.Int (pos 7))) ∷ []) ∷ []) }; objects = objects; depth = depth; left = left; seen = seen }

-- var_8 = module_0.f()
abbrev pub Mro0 : Type 0
Mro0 = means recorder program_mro mro_t5 (state_mro None [] [] [] 0 300 []) ≡ ((Err (Left construct.ClassAttribute)), (state_mro None [] [] [] 0 293 (began 10 ∷ began 11 ∷ began 12 ∷ began 13 ∷ [])))

-- missing of class:
--
--     class A:
--         k = 7
--         def __init__(self, x=1):
--             self.x = x
--         def get(self, n=0):
--             return self.x + n
--     def f():
--         return A.y
--
abbrev pub missing_of_class_t1 : Expr
missing_of_class_t1 = e 0 (x.IntLit (pos 1))

abbrev pub missing_of_class_n2 : Expr
missing_of_class_n2 = e 2 (x.Name (codes "self"))

abbrev pub missing_of_class_n3 : Expr
missing_of_class_n3 = e 3 (x.Name (codes "x"))

abbrev pub missing_of_class_n1 : Stmt
missing_of_class_n1 = s 1 (y.Assign ((target.Attr missing_of_class_n2 (codes "x")) ∷ []) false None missing_of_class_n3)

abbrev pub missing_of_class_t2 : Expr
missing_of_class_t2 = e 0 (x.IntLit (pos 0))

abbrev pub missing_of_class_n8 : Expr
missing_of_class_n8 = e 8 (x.Name (codes "self"))

abbrev pub missing_of_class_n7 : Expr
missing_of_class_n7 = e 7 (x.Attr missing_of_class_n8 (codes "x"))

abbrev pub missing_of_class_n9 : Expr
missing_of_class_n9 = e 9 (x.Name (codes "n"))

abbrev pub missing_of_class_n6 : Expr
missing_of_class_n6 = e 6 (x.Binary Add missing_of_class_n7 missing_of_class_n9)

abbrev pub missing_of_class_n5 : Stmt
missing_of_class_n5 = s 5 (y.Return (Some missing_of_class_n6))

abbrev pub missing_of_class_n13 : Expr
missing_of_class_n13 = e 13 (x.Name (codes "A"))

abbrev pub missing_of_class_n12 : Expr
missing_of_class_n12 = e 12 (x.Attr missing_of_class_n13 (codes "y"))

abbrev pub missing_of_class_n11 : Stmt
missing_of_class_n11 = s 11 (y.Return (Some missing_of_class_n12))

abbrev pub missing_of_class_t3 : Expr
missing_of_class_t3 = e 0 (x.Name (codes "module_0"))

abbrev pub missing_of_class_t4 : Expr
missing_of_class_t4 = e 0 (x.Method missing_of_class_t3 (codes "f") (args [] []))

abbrev pub missing_of_class_t5 : Stmt
missing_of_class_t5 = s 0 (y.Assign ((target.Name (codes "var_8")) ∷ []) false None missing_of_class_t4)

abbrev pub function_missing_of_class_0 : Function
function_missing_of_class_0 = record { tree = (func 0 (codes "__init__") ((param (codes "self") None) ∷ (param (codes "x") (Some missing_of_class_t1)) ∷ []) (missing_of_class_n1 ∷ [])); owner = (Some 0); locals = ((codes "self") ∷ (codes "x") ∷ []) }

abbrev pub function_missing_of_class_1 : Function
function_missing_of_class_1 = record { tree = (func 4 (codes "get") ((param (codes "self") None) ∷ (param (codes "n") (Some missing_of_class_t2)) ∷ []) (missing_of_class_n5 ∷ [])); owner = (Some 0); locals = ((codes "self") ∷ (codes "n") ∷ []) }

abbrev pub function_missing_of_class_2 : Function
function_missing_of_class_2 = record { tree = (func 10 (codes "f") [] (missing_of_class_n11 ∷ [])); owner = None; locals = [] }

abbrev pub program_missing_of_class : Program
program_missing_of_class = record { functions = (function_missing_of_class_0 ∷ function_missing_of_class_1 ∷ function_missing_of_class_2 ∷ []); classes = (record { name = (codes "A"); base = (Built built.Object); methods = (((codes "__init__"), func_id 0) ∷ ((codes "get"), func_id 1) ∷ []); constants = [] } ∷ []); bindings = [] }

abbrev pub state_missing_of_class : Option FuncId → Attributes → List ObjId → World → ℕ → ℕ → Trail → State World Trail
state_missing_of_class function variables handled objects depth left seen = record { frame = record { function = function; variables = variables; handled = handled }; space = record { names = (((codes "A"), (v.Class (Own 0))) ∷ ((codes "f"), (v.Func (func_id 2))) ∷ []); defaults = ((((codes "x"), (v.Int (pos 1))) ∷ []) ∷ (((codes "n"), (v.Int (pos 0))) ∷ []) ∷ [] ∷ []); constants = ((((codes "k"), (v.Int (pos 7))) ∷ []) ∷ []) }; objects = objects; depth = depth; left = left; seen = seen }

-- var_8 = module_0.f()
abbrev pub MissingOfClass0 : Type 0
MissingOfClass0 = means recorder program_missing_of_class missing_of_class_t5 (state_missing_of_class None [] [] [] 0 300 []) ≡ ((Err (Raised (id 0))), (state_missing_of_class None [] [] (object.Instance (Built built.AttributeError) [] None ∷ []) 0 293 (began 10 ∷ began 11 ∷ began 12 ∷ began 13 ∷ [])))

-- set class attribute:
--
--     class A:
--         k = 7
--         def __init__(self, x=1):
--             self.x = x
--         def get(self, n=0):
--             return self.x + n
--     def f():
--         A.k = 2
--
abbrev pub set_class_attribute_t1 : Expr
set_class_attribute_t1 = e 0 (x.IntLit (pos 1))

abbrev pub set_class_attribute_n2 : Expr
set_class_attribute_n2 = e 2 (x.Name (codes "self"))

abbrev pub set_class_attribute_n3 : Expr
set_class_attribute_n3 = e 3 (x.Name (codes "x"))

abbrev pub set_class_attribute_n1 : Stmt
set_class_attribute_n1 = s 1 (y.Assign ((target.Attr set_class_attribute_n2 (codes "x")) ∷ []) false None set_class_attribute_n3)

abbrev pub set_class_attribute_t2 : Expr
set_class_attribute_t2 = e 0 (x.IntLit (pos 0))

abbrev pub set_class_attribute_n8 : Expr
set_class_attribute_n8 = e 8 (x.Name (codes "self"))

abbrev pub set_class_attribute_n7 : Expr
set_class_attribute_n7 = e 7 (x.Attr set_class_attribute_n8 (codes "x"))

abbrev pub set_class_attribute_n9 : Expr
set_class_attribute_n9 = e 9 (x.Name (codes "n"))

abbrev pub set_class_attribute_n6 : Expr
set_class_attribute_n6 = e 6 (x.Binary Add set_class_attribute_n7 set_class_attribute_n9)

abbrev pub set_class_attribute_n5 : Stmt
set_class_attribute_n5 = s 5 (y.Return (Some set_class_attribute_n6))

abbrev pub set_class_attribute_n12 : Expr
set_class_attribute_n12 = e 12 (x.Name (codes "A"))

abbrev pub set_class_attribute_n13 : Expr
set_class_attribute_n13 = e 13 (x.IntLit (pos 2))

abbrev pub set_class_attribute_n11 : Stmt
set_class_attribute_n11 = s 11 (y.Assign ((target.Attr set_class_attribute_n12 (codes "k")) ∷ []) false None set_class_attribute_n13)

abbrev pub set_class_attribute_t3 : Expr
set_class_attribute_t3 = e 0 (x.Name (codes "module_0"))

abbrev pub set_class_attribute_t4 : Expr
set_class_attribute_t4 = e 0 (x.Method set_class_attribute_t3 (codes "f") (args [] []))

abbrev pub set_class_attribute_t5 : Stmt
set_class_attribute_t5 = s 0 (y.Assign ((target.Name (codes "var_8")) ∷ []) false None set_class_attribute_t4)

abbrev pub function_set_class_attribute_0 : Function
function_set_class_attribute_0 = record { tree = (func 0 (codes "__init__") ((param (codes "self") None) ∷ (param (codes "x") (Some set_class_attribute_t1)) ∷ []) (set_class_attribute_n1 ∷ [])); owner = (Some 0); locals = ((codes "self") ∷ (codes "x") ∷ []) }

abbrev pub function_set_class_attribute_1 : Function
function_set_class_attribute_1 = record { tree = (func 4 (codes "get") ((param (codes "self") None) ∷ (param (codes "n") (Some set_class_attribute_t2)) ∷ []) (set_class_attribute_n5 ∷ [])); owner = (Some 0); locals = ((codes "self") ∷ (codes "n") ∷ []) }

abbrev pub function_set_class_attribute_2 : Function
function_set_class_attribute_2 = record { tree = (func 10 (codes "f") [] (set_class_attribute_n11 ∷ [])); owner = None; locals = [] }

abbrev pub program_set_class_attribute : Program
program_set_class_attribute = record { functions = (function_set_class_attribute_0 ∷ function_set_class_attribute_1 ∷ function_set_class_attribute_2 ∷ []); classes = (record { name = (codes "A"); base = (Built built.Object); methods = (((codes "__init__"), func_id 0) ∷ ((codes "get"), func_id 1) ∷ []); constants = [] } ∷ []); bindings = [] }

abbrev pub state_set_class_attribute : Option FuncId → Attributes → List ObjId → World → ℕ → ℕ → Trail → State World Trail
state_set_class_attribute function variables handled objects depth left seen = record { frame = record { function = function; variables = variables; handled = handled }; space = record { names = (((codes "A"), (v.Class (Own 0))) ∷ ((codes "f"), (v.Func (func_id 2))) ∷ []); defaults = ((((codes "x"), (v.Int (pos 1))) ∷ []) ∷ (((codes "n"), (v.Int (pos 0))) ∷ []) ∷ [] ∷ []); constants = ((((codes "k"), (v.Int (pos 7))) ∷ []) ∷ []) }; objects = objects; depth = depth; left = left; seen = seen }

-- var_8 = module_0.f()
abbrev pub SetClassAttribute0 : Type 0
SetClassAttribute0 = means recorder program_set_class_attribute set_class_attribute_t5 (state_set_class_attribute None [] [] [] 0 300 []) ≡ ((Err (Left construct.ClassAttribute)), (state_set_class_attribute None [] [] [] 0 293 (began 10 ∷ began 11 ∷ began 13 ∷ began 12 ∷ [])))

-- inherited constant:
--
--     class A:
--         k = 7
--         def __init__(self, x=1):
--             self.x = x
--         def get(self, n=0):
--             return self.x + n
--     class D(A):
--         pass
--     def f():
--         return (D.k, D().k)
--
abbrev pub inherited_constant_t1 : Expr
inherited_constant_t1 = e 0 (x.IntLit (pos 1))

abbrev pub inherited_constant_n2 : Expr
inherited_constant_n2 = e 2 (x.Name (codes "self"))

abbrev pub inherited_constant_n3 : Expr
inherited_constant_n3 = e 3 (x.Name (codes "x"))

abbrev pub inherited_constant_n1 : Stmt
inherited_constant_n1 = s 1 (y.Assign ((target.Attr inherited_constant_n2 (codes "x")) ∷ []) false None inherited_constant_n3)

abbrev pub inherited_constant_t2 : Expr
inherited_constant_t2 = e 0 (x.IntLit (pos 0))

abbrev pub inherited_constant_n8 : Expr
inherited_constant_n8 = e 8 (x.Name (codes "self"))

abbrev pub inherited_constant_n7 : Expr
inherited_constant_n7 = e 7 (x.Attr inherited_constant_n8 (codes "x"))

abbrev pub inherited_constant_n9 : Expr
inherited_constant_n9 = e 9 (x.Name (codes "n"))

abbrev pub inherited_constant_n6 : Expr
inherited_constant_n6 = e 6 (x.Binary Add inherited_constant_n7 inherited_constant_n9)

abbrev pub inherited_constant_n5 : Stmt
inherited_constant_n5 = s 5 (y.Return (Some inherited_constant_n6))

abbrev pub inherited_constant_n14 : Expr
inherited_constant_n14 = e 14 (x.Name (codes "D"))

abbrev pub inherited_constant_n13 : Expr
inherited_constant_n13 = e 13 (x.Attr inherited_constant_n14 (codes "k"))

abbrev pub inherited_constant_n17 : Expr
inherited_constant_n17 = e 17 (x.Name (codes "D"))

abbrev pub inherited_constant_n16 : Expr
inherited_constant_n16 = e 16 (x.Call inherited_constant_n17 (args [] []))

abbrev pub inherited_constant_n15 : Expr
inherited_constant_n15 = e 15 (x.Attr inherited_constant_n16 (codes "k"))

abbrev pub inherited_constant_n12 : Expr
inherited_constant_n12 = e 12 (x.TupleLit (inherited_constant_n13 ∷ inherited_constant_n15 ∷ []))

abbrev pub inherited_constant_n11 : Stmt
inherited_constant_n11 = s 11 (y.Return (Some inherited_constant_n12))

abbrev pub inherited_constant_t3 : Expr
inherited_constant_t3 = e 0 (x.Name (codes "module_0"))

abbrev pub inherited_constant_t4 : Expr
inherited_constant_t4 = e 0 (x.Method inherited_constant_t3 (codes "f") (args [] []))

abbrev pub inherited_constant_t5 : Stmt
inherited_constant_t5 = s 0 (y.Assign ((target.Name (codes "var_8")) ∷ []) false None inherited_constant_t4)

abbrev pub function_inherited_constant_0 : Function
function_inherited_constant_0 = record { tree = (func 0 (codes "__init__") ((param (codes "self") None) ∷ (param (codes "x") (Some inherited_constant_t1)) ∷ []) (inherited_constant_n1 ∷ [])); owner = (Some 0); locals = ((codes "self") ∷ (codes "x") ∷ []) }

abbrev pub function_inherited_constant_1 : Function
function_inherited_constant_1 = record { tree = (func 4 (codes "get") ((param (codes "self") None) ∷ (param (codes "n") (Some inherited_constant_t2)) ∷ []) (inherited_constant_n5 ∷ [])); owner = (Some 0); locals = ((codes "self") ∷ (codes "n") ∷ []) }

abbrev pub function_inherited_constant_2 : Function
function_inherited_constant_2 = record { tree = (func 10 (codes "f") [] (inherited_constant_n11 ∷ [])); owner = None; locals = [] }

abbrev pub program_inherited_constant : Program
program_inherited_constant = record { functions = (function_inherited_constant_0 ∷ function_inherited_constant_1 ∷ function_inherited_constant_2 ∷ []); classes = (record { name = (codes "A"); base = (Built built.Object); methods = (((codes "__init__"), func_id 0) ∷ ((codes "get"), func_id 1) ∷ []); constants = [] } ∷ record { name = (codes "D"); base = (Own 0); methods = []; constants = [] } ∷ []); bindings = [] }

abbrev pub state_inherited_constant : Option FuncId → Attributes → List ObjId → World → ℕ → ℕ → Trail → State World Trail
state_inherited_constant function variables handled objects depth left seen = record { frame = record { function = function; variables = variables; handled = handled }; space = record { names = (((codes "A"), (v.Class (Own 0))) ∷ ((codes "D"), (v.Class (Own 1))) ∷ ((codes "f"), (v.Func (func_id 2))) ∷ []); defaults = ((((codes "x"), (v.Int (pos 1))) ∷ []) ∷ (((codes "n"), (v.Int (pos 0))) ∷ []) ∷ [] ∷ []); constants = ((((codes "k"), (v.Int (pos 7))) ∷ []) ∷ [] ∷ []) }; objects = objects; depth = depth; left = left; seen = seen }

-- var_8 = module_0.f()
abbrev pub InheritedConstant0 : Type 0
InheritedConstant0 = means recorder program_inherited_constant inherited_constant_t5 (state_inherited_constant None [] [] [] 0 300 []) ≡ ((Ok (v.None, (j.Plain false))), (state_inherited_constant None (((codes "var_8"), (tuple ((v.Int (pos 7)) ∷ (v.Int (pos 7)) ∷ []))) ∷ []) [] (object.Instance (Own 1) (((codes "x"), (v.Int (pos 1))) ∷ []) None ∷ []) 0 283 (began 10 ∷ began 11 ∷ began 12 ∷ began 13 ∷ began 14 ∷ began 15 ∷ began 16 ∷ began 17 ∷ began 0 ∷ began 1 ∷ began 3 ∷ began 2 ∷ [])))

-- exception with init:
--
--     class E(ValueError):
--         def __init__(self, n):
--             pass
--
abbrev pub exception_init_n1 : Stmt
exception_init_n1 = s 1 y.Pass

abbrev pub exception_init_t1 : Expr
exception_init_t1 = e 0 (x.Name (codes "module_0"))

abbrev pub exception_init_t2 : Expr
exception_init_t2 = e 0 (x.IntLit (pos 7))

abbrev pub exception_init_t3 : Expr
exception_init_t3 = e 0 (x.Method exception_init_t1 (codes "E") (args (exception_init_t2 ∷ []) []))

abbrev pub exception_init_t4 : Stmt
exception_init_t4 = s 0 (y.Assign ((target.Name (codes "var_0")) ∷ []) false None exception_init_t3)

abbrev pub function_exception_init_0 : Function
function_exception_init_0 = record { tree = (func 0 (codes "__init__") ((param (codes "self") None) ∷ (param (codes "n") None) ∷ []) (exception_init_n1 ∷ [])); owner = (Some 0); locals = ((codes "self") ∷ (codes "n") ∷ []) }

abbrev pub program_exception_init : Program
program_exception_init = record { functions = (function_exception_init_0 ∷ []); classes = (record { name = (codes "E"); base = (Built built.ValueError); methods = (((codes "__init__"), func_id 0) ∷ []); constants = [] } ∷ []); bindings = [] }

abbrev pub state_exception_init : Option FuncId → Attributes → List ObjId → World → ℕ → ℕ → Trail → State World Trail
state_exception_init function variables handled objects depth left seen = record { frame = record { function = function; variables = variables; handled = handled }; space = record { names = (((codes "E"), (v.Class (Own 0))) ∷ []); defaults = ([] ∷ []); constants = ([] ∷ []) }; objects = objects; depth = depth; left = left; seen = seen }

-- What the exception is called with are its arguments, whatever its `__init__` does.
abbrev pub seven_raised : World
seven_raised = object.Instance (Own 0) [] (Some (measured (v.Int (pos 7) ∷ []))) ∷ []

-- var_0 = module_0.E(7)
abbrev pub ExceptionInit0 : Type 0
ExceptionInit0 = means recorder program_exception_init exception_init_t4 (state_exception_init None [] [] [] 0 300 []) ≡ ((Ok (v.None, (j.Plain false))), (state_exception_init None (((codes "var_0"), (v.Ref (id 0))) ∷ []) [] seven_raised 0 294 (began 0 ∷ began 1 ∷ [])))
