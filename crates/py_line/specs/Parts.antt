-- What a reader of the parts of an annotation gives, which are in brackets or in a string.
use Rattle.std.specs.Prelude.{ℕ, List, Result}
use Rattle.std.specs.Borrow.{Bor}
use Rattle.std.specs.declared.alloc.Global.{Global}
use Rattle.py_expr_shape.specs.declared.fault.ExprFault.{ExprFault}
use Rattle.py_expr_shape.specs.Reads.{Gives}
use Rattle.py_language.specs.declared.token.Token.{Token}
use Rattle.py_syntax.specs.declared.stmt.Annotation.{Annotation}
use Rattle.py_grammar.specs.Annotations.{annotation_in}

pub record Parts (depth : ℕ) (pre : Global → Bor (List Token) → ℕ → Type 0) (post : Global → Bor (List Token) → ℕ → Result Annotation ExprFault → Type 0) : Type 0 where
  pub called : (alloc : Global) (tokens : Bor (List Token)) → pre alloc tokens depth
  pub gives : (alloc : Global) (tokens : Bor (List Token)) (d : ℕ) (r : Result Annotation ExprFault) → post alloc tokens d r → Gives r (annotation_in d tokens.now)
