-- The levels of parts, and what a reader of parts gives.
use Rattle.std.specs.Prelude.{ℕ, List, Result}
use Rattle.std.specs.Borrow.{Bor}
use Rattle.std.specs.declared.alloc.Global.{Global}
use Rattle.py_language.specs.declared.shape.Shape.{Shape}
use Rattle.py_language.specs.declared.shape.Symbol.{Symbol}
use Rattle.py_language.specs.Trees.{shape}
use Rattle.py_language.specs.TreesPlaces as places
use Rattle.py_expr_shape.specs.declared.fault.ExprFault.{ExprFault}
use Rattle.py_expr_shape.specs.declared.operators.Level.{Level}
use Rattle.py_expr_shape.specs.declared.operators.Level.TheVariants as level
use Rattle.py_expr_shape.specs.Reads.{Gives}

abbrev pub level_of : Level → places.Level
level_of level.Listed = places.Listed
level_of level.Conditional = places.Conditional
level_of level.Disjunction = places.Disjunction
level_of level.Conjunction = places.Conjunction
level_of level.Negation = places.Negation
level_of level.Sum = places.Sum
level_of level.Product = places.Product
level_of level.Signed = places.Signed
level_of level.Postfix = places.Postfix

-- a function value gives the shape of each part with this limit
pub record Parts (limit : ℕ) (pre : Global → Level → Bor (List Symbol) → ℕ → Type 0)
    (post : Global → Level → Bor (List Symbol) → ℕ → Result Shape ExprFault → Type 0) : Type 0 where
  pub callable : (alloc : Global) (level : Level) (symbols : Bor (List Symbol)) → pre alloc level symbols limit
  pub gives : (alloc : Global) (level : Level) (symbols : Bor (List Symbol)) (r : Result Shape ExprFault) → post alloc level symbols limit r
      → Gives r (shape limit (level_of level) symbols.now)
