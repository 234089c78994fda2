-- A tree is the shape of the symbols with its nodes numbered.
use Rattle.std.proofs.Common.{◌≡◌, ◌∙◌, ap, refl, sym, ℕ, List, Option, Some, None, Err}
use Rattle.py_language.specs.declared.shape.Symbol.{Symbol}
use Rattle.py_expr_shape.specs.declared.fault.ExprFault.{ExprFault}
use Rattle.py_expr_shape.specs.declared.fault.ExprFault.TheVariants.{Refused, Memory}
use Rattle.py_syntax.specs.declared.expr.Expr.{Expr}
use Rattle.py_language.specs.declared.shape.Shape.{Shape}
use Rattle.py_language.specs.declared.token.Token.{Token}
use Rattle.py_language.specs.TreesPlaces.{Level}
use Rattle.py_language.specs.TreesSymbols.{symbols}
use Rattle.py_language.specs.TreesNumbers.{numbered}
use Rattle.py_language.specs.Trees.{tree_at}
use Rattle.py_expr_shape.specs.Reads.{whole, Gives}

abbrev first_of : Option Shape → Option Expr
first_of None = None
first_of (Some x) = Some (numbered x 0).0

is_whole : (l : Level) (xs : List Token) (x : Option Shape) → whole l (symbols xs) ≡ x → tree_at l xs ≡ first_of x
unfolding whole tree_at
is_whole l xs None is = rw is refl
is_whole l xs (Some x) is = rw is refl

pub tree_read : (l : Level) (xs : List Token) (ss : List Symbol) (x : Shape) (t : Expr) (end : ℕ) → ss ≡ symbols xs → whole l ss ≡ Some x → (t, end) ≡ numbered x 0 → tree_at l xs ≡ Some t
tree_read l xs ss x t end s is e = is_whole l xs (Some x) (ap (whole l) (sym s) ∙ is) ∙ ap (λ r. Some r.0) (sym e)

pub fault_read : (l : Level) (xs : List Token) (ss : List Symbol) (fault : ExprFault) → ss ≡ symbols xs → Gives {A = Shape} (Err fault) (whole l ss) → Gives {A = Expr} (Err fault) (tree_at l xs)
fault_read l xs ss Refused s is = is_whole l xs None (ap (whole l) (sym s) ∙ is)
fault_read l xs ss Memory s is = tt
