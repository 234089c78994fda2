-- A header, and the block on its line.
use Rattle.std.proofs.Common.{◌≡◌, ℕ, List, ◌∷◌, Option, Some, None, Err, refl, ◌∙◌, sym}
use Rattle.py_expr_shape.specs.declared.fault.ExprFault.{ExprFault}
use Rattle.py_expr_shape.specs.declared.fault.ExprFault.TheVariants.{Refused, Memory}
use Rattle.py_expr_shape.specs.Reads.{Gives}
use Rattle.py_language.specs.declared.token.Token.{Token}
use Rattle.py_language.specs.Trees.{◌>>=◌}
use Rattle.py_syntax.specs.declared.stmt.Stmt.{Stmt}
use Rattle.py_grammar.specs.declared.form.Form.{Form}
use Rattle.py_grammar.specs.declared.form.Form.TheVariants.{Compound}
use Rattle.py_grammar.specs.declared.form.Header.{Header}
use Rattle.py_grammar.specs.declared.separator.Separator.TheVariants.{Colon}
use Rattle.py_grammar.specs.Separators.{front, back}
use Rattle.py_grammar.specs.Forms.{block, compound}

abbrev with_block : Option Header → Option (Option (List Stmt)) → Option Form
with_block header body = header >>= λ h. body >>= λ b. Some (Compound h b)

blockless : (header : Option Header) (body : Option (Option (List Stmt))) → body ≡ None → with_block header body ≡ None
blockless None body e = refl
blockless (Some h) body e = rw e refl

module _ (line : ℕ) (header : List Token → Option Header) (xs before from : List Token) (colon : Token) (rest : List Token) (f : before ≡ front Colon xs) (g : from ≡ back Colon xs) (e : from ≡ colon ∷ rest) where
  cut_here : compound line header xs ≡ with_block (header before) (block line rest)
  cut_here = rw (f, sym g ∙ e) refl

  pub no_block : (fault : ExprFault) → Gives {A = Option (List Stmt)} (Err fault) (block line rest) → Gives {A = Form} (Err fault) (compound line header xs)
  no_block Refused n = cut_here ∙ blockless (header before) (block line rest) n
  no_block Memory n = tt
