-- The tokens of symbols that are apart make those symbols.
use Rattle.std.proofs.Common.{◌≡◌, ◌∙◌, ap, refl, ℕ, Bool, true, false, not, ◌&&◌, List, [], ◌∷◌, ◌++◌}
use Rattle.py_language.specs.declared.token.Token.{Token}
use Rattle.py_language.specs.declared.shape.Atom.TheVariants as a
use Rattle.py_language.specs.declared.shape.Bracket.TheVariants.{Round, Square, Brace}
use Rattle.py_language.specs.declared.shape.Symbol.{Symbol}
use Rattle.py_language.specs.declared.shape.Symbol.TheVariants as s
use Rattle.py_language.specs.TreesSymbols.{is_super, named, attribute, join, symbols}
use Rattle.py_syntax.specs.declared.operator.BinOp.TheVariants.{Add, Sub, Mul, FloorDiv, Mod}
use Rattle.py_syntax.specs.declared.operator.CmpOp.TheVariants.{Lt, Gt, Eq, Ge, Le, Ne, Contained, NotContained, Same, NotSame}
use Rattle.py_syntax.specs.declared.operator.Sign.TheVariants.{Minus, Plus}
use Rattle.py_printing.specs.SymbolTokens.{tokens_in, tokens, super_name, is_called, first_is, is_round, is_string, is_in, is_not, is_apart_from, are_apart}

and_both : (v w : Bool) → (v && w) ≡ true → (v ≡ true) × (w ≡ true)
and_both true w e = (refl, e)
and_both false w e = absurd (cc)

no_super : (v : Bool) → not (v && true) ≡ true → v ≡ false
no_super false e = refl
no_super true e = absurd (cc)

named_is : (n : List ℕ) (rest : List Symbol) → not (is_super n && is_called rest) ≡ true → named n rest ≡ s.Atom (a.Name n) ∷ rest
named_is n [] e = refl
named_is n ((s.Atom y) ∷ xs) e = refl
named_is n ((s.Super y) ∷ xs) e = refl
named_is n ((s.Method y) ∷ xs) e = refl
named_is n ((s.Attribute y) ∷ xs) e = refl
named_is n ((s.Sign y) ∷ xs) e = refl
named_is n ((s.Factor y) ∷ xs) e = refl
named_is n ((s.Compare y) ∷ xs) e = refl
named_is n (s.Or ∷ xs) e = refl
named_is n (s.And ∷ xs) e = refl
named_is n (s.Not ∷ xs) e = refl
named_is n (s.If ∷ xs) e = refl
named_is n (s.Else ∷ xs) e = refl
named_is n (s.Comma ∷ xs) e = refl
named_is n (s.Colon ∷ xs) e = refl
named_is n (s.Equal ∷ xs) e = refl
named_is n ((s.Close y) ∷ xs) e = refl
named_is n (s.Other ∷ xs) e = refl
named_is n (s.Open Square ∷ xs) e = refl
named_is n (s.Open Brace ∷ xs) e = refl
named_is n (s.Open Round ∷ []) e = refl
named_is n (s.Open Round ∷ (s.Atom y) ∷ xs) e = refl
named_is n (s.Open Round ∷ (s.Super y) ∷ xs) e = refl
named_is n (s.Open Round ∷ (s.Method y) ∷ xs) e = refl
named_is n (s.Open Round ∷ (s.Attribute y) ∷ xs) e = refl
named_is n (s.Open Round ∷ (s.Sign y) ∷ xs) e = refl
named_is n (s.Open Round ∷ (s.Factor y) ∷ xs) e = refl
named_is n (s.Open Round ∷ (s.Compare y) ∷ xs) e = refl
named_is n (s.Open Round ∷ s.Or ∷ xs) e = refl
named_is n (s.Open Round ∷ s.And ∷ xs) e = refl
named_is n (s.Open Round ∷ s.Not ∷ xs) e = refl
named_is n (s.Open Round ∷ s.If ∷ xs) e = refl
named_is n (s.Open Round ∷ s.Else ∷ xs) e = refl
named_is n (s.Open Round ∷ s.Comma ∷ xs) e = refl
named_is n (s.Open Round ∷ s.Colon ∷ xs) e = refl
named_is n (s.Open Round ∷ s.Equal ∷ xs) e = refl
named_is n (s.Open Round ∷ (s.Open y) ∷ xs) e = refl
named_is n (s.Open Round ∷ s.Other ∷ xs) e = refl
named_is n (s.Open Round ∷ s.Close Square ∷ xs) e = refl
named_is n (s.Open Round ∷ s.Close Brace ∷ xs) e = refl
named_is n (s.Open Round ∷ s.Close Round ∷ []) e = refl
named_is n (s.Open Round ∷ s.Close Round ∷ (s.Atom y) ∷ xs) e = refl
named_is n (s.Open Round ∷ s.Close Round ∷ (s.Super y) ∷ xs) e = refl
named_is n (s.Open Round ∷ s.Close Round ∷ s.Method y ∷ xs) e = rw (no_super (is_super n) e) refl
named_is n (s.Open Round ∷ s.Close Round ∷ (s.Attribute y) ∷ xs) e = refl
named_is n (s.Open Round ∷ s.Close Round ∷ (s.Sign y) ∷ xs) e = refl
named_is n (s.Open Round ∷ s.Close Round ∷ (s.Factor y) ∷ xs) e = refl
named_is n (s.Open Round ∷ s.Close Round ∷ (s.Compare y) ∷ xs) e = refl
named_is n (s.Open Round ∷ s.Close Round ∷ s.Or ∷ xs) e = refl
named_is n (s.Open Round ∷ s.Close Round ∷ s.And ∷ xs) e = refl
named_is n (s.Open Round ∷ s.Close Round ∷ s.Not ∷ xs) e = refl
named_is n (s.Open Round ∷ s.Close Round ∷ s.If ∷ xs) e = refl
named_is n (s.Open Round ∷ s.Close Round ∷ s.Else ∷ xs) e = refl
named_is n (s.Open Round ∷ s.Close Round ∷ s.Comma ∷ xs) e = refl
named_is n (s.Open Round ∷ s.Close Round ∷ s.Colon ∷ xs) e = refl
named_is n (s.Open Round ∷ s.Close Round ∷ s.Equal ∷ xs) e = refl
named_is n (s.Open Round ∷ s.Close Round ∷ (s.Open y) ∷ xs) e = refl
named_is n (s.Open Round ∷ s.Close Round ∷ (s.Close y) ∷ xs) e = refl
named_is n (s.Open Round ∷ s.Close Round ∷ s.Other ∷ xs) e = refl

attribute_is : (n : List ℕ) (rest : List Symbol) → not (first_is is_round rest) ≡ true → attribute n rest ≡ s.Attribute n ∷ rest
attribute_is n [] e = refl
attribute_is n ((s.Atom y) ∷ xs) e = refl
attribute_is n ((s.Super y) ∷ xs) e = refl
attribute_is n ((s.Method y) ∷ xs) e = refl
attribute_is n ((s.Attribute y) ∷ xs) e = refl
attribute_is n ((s.Sign y) ∷ xs) e = refl
attribute_is n ((s.Factor y) ∷ xs) e = refl
attribute_is n ((s.Compare y) ∷ xs) e = refl
attribute_is n (s.Or ∷ xs) e = refl
attribute_is n (s.And ∷ xs) e = refl
attribute_is n (s.Not ∷ xs) e = refl
attribute_is n (s.If ∷ xs) e = refl
attribute_is n (s.Else ∷ xs) e = refl
attribute_is n (s.Comma ∷ xs) e = refl
attribute_is n (s.Colon ∷ xs) e = refl
attribute_is n (s.Equal ∷ xs) e = refl
attribute_is n ((s.Close y) ∷ xs) e = refl
attribute_is n (s.Other ∷ xs) e = refl
attribute_is n (s.Open Square ∷ xs) e = refl
attribute_is n (s.Open Brace ∷ xs) e = refl
attribute_is n (s.Open Round ∷ xs) e = absurd (cc)

method_is : (n : List ℕ) (rest : List Symbol) → first_is is_round rest ≡ true → attribute n rest ≡ s.Method n ∷ rest
method_is n [] e = absurd (cc)
method_is n ((s.Atom y) ∷ xs) e = absurd (cc)
method_is n ((s.Super y) ∷ xs) e = absurd (cc)
method_is n ((s.Method y) ∷ xs) e = absurd (cc)
method_is n ((s.Attribute y) ∷ xs) e = absurd (cc)
method_is n ((s.Sign y) ∷ xs) e = absurd (cc)
method_is n ((s.Factor y) ∷ xs) e = absurd (cc)
method_is n ((s.Compare y) ∷ xs) e = absurd (cc)
method_is n (s.Or ∷ xs) e = absurd (cc)
method_is n (s.And ∷ xs) e = absurd (cc)
method_is n (s.Not ∷ xs) e = absurd (cc)
method_is n (s.If ∷ xs) e = absurd (cc)
method_is n (s.Else ∷ xs) e = absurd (cc)
method_is n (s.Comma ∷ xs) e = absurd (cc)
method_is n (s.Colon ∷ xs) e = absurd (cc)
method_is n (s.Equal ∷ xs) e = absurd (cc)
method_is n ((s.Close y) ∷ xs) e = absurd (cc)
method_is n (s.Other ∷ xs) e = absurd (cc)
method_is n (s.Open Square ∷ xs) e = absurd (cc)
method_is n (s.Open Brace ∷ xs) e = absurd (cc)
method_is n (s.Open Round ∷ xs) e = refl

string_is : (x : List ℕ) (rest : List Symbol) → not (first_is is_string rest) ≡ true → join (s.Atom (a.StrLit x)) rest ≡ s.Atom (a.StrLit x) ∷ rest
string_is x [] e = refl
string_is x ((s.Super y) ∷ xs) e = refl
string_is x ((s.Method y) ∷ xs) e = refl
string_is x ((s.Attribute y) ∷ xs) e = refl
string_is x ((s.Sign y) ∷ xs) e = refl
string_is x ((s.Factor y) ∷ xs) e = refl
string_is x ((s.Compare y) ∷ xs) e = refl
string_is x (s.Or ∷ xs) e = refl
string_is x (s.And ∷ xs) e = refl
string_is x (s.Not ∷ xs) e = refl
string_is x (s.If ∷ xs) e = refl
string_is x (s.Else ∷ xs) e = refl
string_is x (s.Comma ∷ xs) e = refl
string_is x (s.Colon ∷ xs) e = refl
string_is x (s.Equal ∷ xs) e = refl
string_is x ((s.Open y) ∷ xs) e = refl
string_is x ((s.Close y) ∷ xs) e = refl
string_is x (s.Other ∷ xs) e = refl
string_is x (s.Atom a.NoneLit ∷ xs) e = refl
string_is x (s.Atom (a.BoolLit b) ∷ xs) e = refl
string_is x (s.Atom (a.IntLit n) ∷ xs) e = refl
string_is x (s.Atom (a.Name n) ∷ xs) e = refl
string_is x (s.Atom (a.StrLit z) ∷ xs) e = absurd (cc)

not_is : (rest : List Symbol) → not (first_is is_in rest) ≡ true → join s.Not rest ≡ s.Not ∷ rest
not_is [] e = refl
not_is ((s.Atom y) ∷ xs) e = refl
not_is ((s.Super y) ∷ xs) e = refl
not_is ((s.Method y) ∷ xs) e = refl
not_is ((s.Attribute y) ∷ xs) e = refl
not_is ((s.Sign y) ∷ xs) e = refl
not_is ((s.Factor y) ∷ xs) e = refl
not_is (s.Or ∷ xs) e = refl
not_is (s.And ∷ xs) e = refl
not_is (s.Not ∷ xs) e = refl
not_is (s.If ∷ xs) e = refl
not_is (s.Else ∷ xs) e = refl
not_is (s.Comma ∷ xs) e = refl
not_is (s.Colon ∷ xs) e = refl
not_is (s.Equal ∷ xs) e = refl
not_is ((s.Open y) ∷ xs) e = refl
not_is ((s.Close y) ∷ xs) e = refl
not_is (s.Other ∷ xs) e = refl
not_is (s.Compare Lt ∷ xs) e = refl
not_is (s.Compare Gt ∷ xs) e = refl
not_is (s.Compare Eq ∷ xs) e = refl
not_is (s.Compare Ge ∷ xs) e = refl
not_is (s.Compare Le ∷ xs) e = refl
not_is (s.Compare Ne ∷ xs) e = refl
not_is (s.Compare Contained ∷ xs) e = absurd (cc)
not_is (s.Compare NotContained ∷ xs) e = refl
not_is (s.Compare Same ∷ xs) e = refl
not_is (s.Compare NotSame ∷ xs) e = refl

same_is : (rest : List Symbol) → not (first_is is_not rest) ≡ true → join (s.Compare Same) rest ≡ s.Compare Same ∷ rest
same_is [] e = refl
same_is ((s.Atom y) ∷ xs) e = refl
same_is ((s.Super y) ∷ xs) e = refl
same_is ((s.Method y) ∷ xs) e = refl
same_is ((s.Attribute y) ∷ xs) e = refl
same_is ((s.Sign y) ∷ xs) e = refl
same_is ((s.Factor y) ∷ xs) e = refl
same_is ((s.Compare y) ∷ xs) e = refl
same_is (s.Or ∷ xs) e = refl
same_is (s.And ∷ xs) e = refl
same_is (s.Not ∷ xs) e = absurd (cc)
same_is (s.If ∷ xs) e = refl
same_is (s.Else ∷ xs) e = refl
same_is (s.Comma ∷ xs) e = refl
same_is (s.Colon ∷ xs) e = refl
same_is (s.Equal ∷ xs) e = refl
same_is ((s.Open y) ∷ xs) e = refl
same_is ((s.Close y) ∷ xs) e = refl
same_is (s.Other ∷ xs) e = refl

-- the tokens of a symbol, before those of the others
one_is : (x : Symbol) (ts : List Token) (rest : List Symbol) → symbols ts ≡ rest → is_apart_from x rest ≡ true → symbols (tokens_in x ++ ts) ≡ x ∷ rest
one_is (s.Atom a.NoneLit) ts rest e h = ap (join (s.Atom a.NoneLit)) e
one_is (s.Atom (a.BoolLit true)) ts rest e h = ap (join (s.Atom (a.BoolLit true))) e
one_is (s.Atom (a.BoolLit false)) ts rest e h = ap (join (s.Atom (a.BoolLit false))) e
one_is (s.Atom (a.IntLit n)) ts rest e h = ap (join (s.Atom (a.IntLit n))) e
one_is (s.Atom (a.StrLit x)) ts rest e h = ap (join (s.Atom (a.StrLit x))) e ∙ string_is x rest h
one_is (s.Atom (a.Name n)) ts rest e h = ap (named n) e ∙ named_is n rest h
one_is (s.Super n) ts rest e h = ap (λ z. named super_name (s.Open Round ∷ s.Close Round ∷ attribute n z)) e ∙ ap (λ z. named super_name (s.Open Round ∷ s.Close Round ∷ z)) (method_is n rest h)
one_is (s.Method n) ts rest e h = ap (attribute n) e ∙ method_is n rest h
one_is (s.Attribute n) ts rest e h = ap (attribute n) e ∙ attribute_is n rest h
one_is (s.Sign Minus) ts rest e h = ap (join (s.Sign Minus)) e
one_is (s.Sign Plus) ts rest e h = ap (join (s.Sign Plus)) e
one_is (s.Factor Mul) ts rest e h = ap (join (s.Factor Mul)) e
one_is (s.Factor FloorDiv) ts rest e h = ap (join (s.Factor FloorDiv)) e
one_is (s.Factor Mod) ts rest e h = ap (join (s.Factor Mod)) e
one_is (s.Factor Add) ts rest e h = absurd (cc)
one_is (s.Factor Sub) ts rest e h = absurd (cc)
one_is (s.Compare Lt) ts rest e h = ap (join (s.Compare Lt)) e
one_is (s.Compare Gt) ts rest e h = ap (join (s.Compare Gt)) e
one_is (s.Compare Eq) ts rest e h = ap (join (s.Compare Eq)) e
one_is (s.Compare Ge) ts rest e h = ap (join (s.Compare Ge)) e
one_is (s.Compare Le) ts rest e h = ap (join (s.Compare Le)) e
one_is (s.Compare Ne) ts rest e h = ap (join (s.Compare Ne)) e
one_is (s.Compare Contained) ts rest e h = ap (join (s.Compare Contained)) e
one_is (s.Compare NotContained) ts rest e h = ap (λ z. join s.Not (join (s.Compare Contained) z)) e
one_is (s.Compare Same) ts rest e h = ap (join (s.Compare Same)) e ∙ same_is rest h
one_is (s.Compare NotSame) ts rest e h = ap (λ z. join (s.Compare Same) (join s.Not z)) e ∙ ap (join (s.Compare Same)) (not_is rest h)
one_is s.Not ts rest e h = ap (join s.Not) e ∙ not_is rest h
one_is s.Or ts rest e h = ap (join s.Or) e
one_is s.And ts rest e h = ap (join s.And) e
one_is s.If ts rest e h = ap (join s.If) e
one_is s.Else ts rest e h = ap (join s.Else) e
one_is s.Comma ts rest e h = ap (join s.Comma) e
one_is s.Colon ts rest e h = ap (join s.Colon) e
one_is s.Equal ts rest e h = ap (join s.Equal) e
one_is (s.Open Round) ts rest e h = ap (join (s.Open Round)) e
one_is (s.Close Round) ts rest e h = ap (join (s.Close Round)) e
one_is (s.Open Square) ts rest e h = ap (join (s.Open Square)) e
one_is (s.Close Square) ts rest e h = ap (join (s.Close Square)) e
one_is (s.Open Brace) ts rest e h = ap (join (s.Open Brace)) e
one_is (s.Close Brace) ts rest e h = ap (join (s.Close Brace)) e
one_is s.Other ts rest e h = absurd (cc)

-- symbols that are apart are made again
pub symbols_back : (xs : List Symbol) → are_apart xs ≡ true → symbols (tokens xs) ≡ xs
symbols_back [] e = refl
symbols_back (x ∷ xs) e = let two = and_both (is_apart_from x xs) (are_apart xs) e in one_is x (tokens xs) xs (symbols_back xs two.1) two.0
