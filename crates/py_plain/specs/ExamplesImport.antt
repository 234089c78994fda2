-- Worked examples of import: what a module's functions, classes and names are, and the state in which a test begins.
--
--     C = 5
--     class A:
--         k = 7
--         def get(self, n=C):
--             m = n
--     class D(A):
--         pass
--     class E(ValueError):
--         pass
--     def f(n=-1):
--         pass
use Rattle.std.specs.Prelude.{◌≡◌, pos, negsuc, false, [], ◌∷◌, Some, None, codes}
use Rattle.pyn_base.specs.declared.class.BuiltClass.TheVariants as built
use Rattle.pyn_base.specs.declared.class.ClassId.TheVariants.{Built, Own}
use Rattle.py_syntax.specs.declared.expr.Expr.{Expr}
use Rattle.py_syntax.specs.declared.expr.ExprKind.TheVariants as x
use Rattle.py_syntax.specs.declared.module.Func.{Func}
use Rattle.py_syntax.specs.declared.module.Item.TheVariants as item
use Rattle.py_syntax.specs.declared.module.Member.TheVariants as member
use Rattle.py_syntax.specs.declared.module.Module.{Module}
use Rattle.py_syntax.specs.declared.operator.Sign.TheVariants.{Minus}
use Rattle.py_syntax.specs.declared.stmt.Stmt.{Stmt}
use Rattle.py_syntax.specs.declared.stmt.StmtKind.TheVariants as y
use Rattle.py_syntax.specs.declared.stmt.Target.TheVariants as target
use Rattle.py_meaning.specs.declared.value.Value.TheVariants as v
use Rattle.py_plain.specs.Examples.{e, s, func_id, param, func, class, module_of}
use Rattle.py_plain.specs.Import.{imported}
use Rattle.py_plain.specs.Program.{Program, OfConstant, OfFunction, OfClass, program_of}
use Rattle.py_plain.specs.Tests.{Trail}

abbrev pub five : Expr
five = e 0 (x.IntLit (pos 5))

abbrev pub seven : Expr
seven = e 0 (x.IntLit (pos 7))

abbrev pub pass : Stmt
pass = s 0 y.Pass

abbrev pub get : Func
get = func 0 (codes "get") (param (codes "self") None ∷ param (codes "n") (Some (e 0 (x.Name (codes "C")))) ∷ [])
    (s 1 (y.Assign (target.Name (codes "m") ∷ []) false None (e 2 (x.Name (codes "n")))) ∷ [])

abbrev pub f : Func
f = func 3 (codes "f") (param (codes "n") (Some (e 0 (x.Unary Minus (e 0 (x.IntLit (pos 1)))))) ∷ []) (s 4 y.Pass ∷ [])

abbrev pub small : Module
small = module_of (
    item.Other (s 0 (y.Assign (target.Name (codes "C") ∷ []) false None five))
    ∷ item.Class (class (codes "A") None (member.Other (s 0 (y.Assign (target.Name (codes "k") ∷ []) false None seven)) ∷ member.Func get ∷ []))
    ∷ item.Class (class (codes "D") (Some (codes "A")) (member.Other pass ∷ []))
    ∷ item.Class (class (codes "E") (Some (codes "ValueError")) (member.Other pass ∷ []))
    ∷ item.Func f ∷ []) 5

-- A method's locals are its parameters and what it binds; a base is an earlier class of the module or a built-in one.
abbrev pub small_program : Program
small_program = record {
  functions =
      record { tree = get; owner = Some 0; locals = codes "self" ∷ codes "n" ∷ codes "m" ∷ [] }
      ∷ record { tree = f; owner = None; locals = codes "n" ∷ [] } ∷ [];
  classes =
      record { name = codes "A"; base = Built built.Object; methods = (codes "get", func_id 0) ∷ []; constants = (codes "k", seven) ∷ [] }
      ∷ record { name = codes "D"; base = Own 0; methods = []; constants = [] }
      ∷ record { name = codes "E"; base = Built built.ValueError; methods = []; constants = [] } ∷ [];
  bindings =
      (codes "C", OfConstant five) ∷ (codes "A", OfClass (Own 0)) ∷ (codes "D", OfClass (Own 1)) ∷ (codes "E", OfClass (Own 2)) ∷ (codes "f", OfFunction (func_id 1)) ∷ [];
}

abbrev pub Programs : Type 0
Programs = program_of small ≡ small_program

-- The module's names in order, defaults by functions, constants by classes; no object.
abbrev pub Imported : (seen : Trail) → Type 0
Imported seen = imported (program_of small) seen ≡ record {
  frame = record { function = None; variables = []; handled = [] };
  space = record {
    names = (codes "C", v.Int (pos 5)) ∷ (codes "A", v.Class (Own 0)) ∷ (codes "D", v.Class (Own 1)) ∷ (codes "E", v.Class (Own 2)) ∷ (codes "f", v.Func (func_id 1)) ∷ [];
    defaults = ((codes "n", v.Int (pos 5)) ∷ []) ∷ ((codes "n", v.Int (negsuc 0)) ∷ []) ∷ [];
    constants = ((codes "k", v.Int (pos 7)) ∷ []) ∷ [] ∷ [] ∷ [];
  };
  objects = [];
  depth = 0;
  left = 0;
  seen = seen;
}
