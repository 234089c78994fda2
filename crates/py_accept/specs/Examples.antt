-- A worked example of what acceptance gives.
use Rattle.std.specs.Prelude.{◌≡◌, ℕ, false, List, [], ◌∷◌, None, Some, Ok, Err, codes}
use Rattle.pyn_base.specs.declared.class.BuiltClass.TheVariants.{KeyError}
use Rattle.pyn_base.specs.declared.class.ClassId.TheVariants.{Built}
use Rattle.pyn_base.specs.declared.construct.Construct.TheVariants.{UnknownName}
use Rattle.py_syntax.specs.declared.expr.Expr.{Expr}
use Rattle.py_syntax.specs.declared.module.Class.{Class}
use Rattle.py_syntax.specs.declared.module.Item.TheVariants as item
use Rattle.py_syntax.specs.declared.module.Member.TheVariants as member
use Rattle.py_syntax.specs.declared.module.Module.{Module}
use Rattle.py_syntax.specs.declared.refusal.Refusal.TheVariants.{Refused}
use Rattle.py_syntax.specs.declared.stmt.Stmt.{Stmt}
use Rattle.py_syntax.specs.declared.stmt.StmtKind.TheVariants.{Assign}
use Rattle.py_syntax.specs.declared.stmt.Target.TheVariants as target
use Rattle.py_scopes.specs.Examples.{s, one, read, param, func}
use Rattle.py_accept.specs.Accepted.{accepted}

abbrev pub binds : ℕ → List ℕ → Expr → Stmt
binds line name value = s line (Assign (target.Name name ∷ []) false None value)

-- `class A(KeyError):`, `k = 1`, `def m(a):`
abbrev pub class_a : Class
class_a = record {
  name = codes "A";
  base = Some (codes "KeyError");
  line = 1;
  members = member.Other (binds 2 (codes "k") (one 2))
      ∷ member.Func record { node = record { 0 = 0 }; name = codes "m"; line = 3; params = param 3 None ∷ []; returns = None; body = [] } ∷ [];
}

-- the class, `def f(a):`, and twice `b =` a name
abbrev pub sample : List ℕ → Module
sample name = record { items = item.Class class_a ∷ func 4 None (binds 5 (codes "b") (read 5 name) ∷ binds 6 (codes "b") (read 6 name) ∷ []) ∷ []; future = false; nodes = 0 }

-- where that name is the parameter's
abbrev pub Taken : Type 0
Taken =
    accepted (sample (codes "a"))
    ≡ Ok record {
      tree = sample (codes "a");
      funcs = record { name = codes "m"; class = Some 0; node = record { 0 = 0 }; locals = codes "a" ∷ [] }
          ∷ record { name = codes "f"; class = None; node = record { 0 = 0 }; locals = codes "a" ∷ codes "b" ∷ [] } ∷ [];
      classes = record { name = codes "A"; base = Built KeyError; methods = record { 0 = 0 } ∷ []; constants = (codes "k", one 2) ∷ [] } ∷ [];
    }

-- where nothing has it
abbrev pub NotTaken : Type 0
NotTaken = accepted (sample (codes "c")) ≡ Err (Refused 5 UnknownName)
