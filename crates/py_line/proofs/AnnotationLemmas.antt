-- Strings that are joined, one after another.
use Rattle.std.proofs.Common.{◌≡◌, ℕ, List, [], ◌∷◌, ◌++◌, Option, Some, None, refl, sym, ap, ◌∙◌, append_assoc, append-nil}
use Rattle.py_expr_shape.specs.Reads.{prepend}
use Rattle.py_language.specs.declared.token.Token.{Token}
use Rattle.py_language.specs.declared.token.Token.TheVariants.{Str}
use Rattle.py_language.specs.Trees.{◌>>=◌}
use Rattle.py_grammar.specs.Annotations.{strings}

joined_by : (text more : List ℕ) (rest : Option (List ℕ)) → prepend text (rest >>= λ others. Some (more ++ others)) ≡ prepend (text ++ more) rest
joined_by text more None = refl
joined_by text more (Some others) = ap Some (sym (append_assoc text more others))

module _ (whole : Option (List ℕ)) (text : List ℕ) (xs : List Token) (w : whole ≡ prepend text (strings xs)) where
  pub joins : (more : List ℕ) (after : List ℕ) (ys : List Token) → xs ≡ Str more ∷ ys → after ≡ text ++ more → whole ≡ prepend after (strings ys)
  joins more after ys e a = w ∙ ap (λ zs. prepend text (strings zs)) e ∙ joined_by text more (strings ys) ∙ ap (λ t. prepend t (strings ys)) (sym a)

  pub joined : xs ≡ [] → whole ≡ Some text
  joined e = w ∙ ap (λ zs. prepend text (strings zs)) e ∙ ap Some (append-nil text)

pub begun : (o : Option (List ℕ)) → o ≡ prepend [] o
begun None = refl
begun (Some xs) = refl
