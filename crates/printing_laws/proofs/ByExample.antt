-- The lines of the examples.
use Rattle.std.proofs.Common.{◌≡◌, ◌∙◌, ap, refl, sym, ℕ, zero, suc, true, false, ◌&&◌, List, [], ◌∷◌, ◌++◌, append_assoc}
use Rattle.py_language.specs.TreesPlaces.{Level, Conditional, Listed}
use Rattle.py_language.specs.declared.shape.Bracket.TheVariants.{Square}
use Rattle.py_language.specs.declared.shape.Shape.{Shape-F}
use Rattle.py_language.specs.declared.shape.Shape.TheVariants as shape
use Rattle.py_language.specs.declared.shape.Symbol.{Symbol}
use Rattle.py_language.specs.declared.shape.Symbol.TheVariants as symbol
use Rattle.py_language.specs.declared.token.Mark.TheVariants as m
use Rattle.py_language.specs.declared.token.Token.{Token}
use Rattle.py_language.specs.declared.token.Token.TheVariants as t
use Rattle.py_syntax.specs.declared.expr.Expr.{Expr}
use Rattle.py_syntax.specs.declared.stmt.StmtKind.TheVariants as s
use Rattle.py_syntax.specs.declared.stmt.StmtKind.TheVariants.{outs-Bare, outs-Pass}
use Rattle.py_printing.specs.Expressions.{expr_tokens, unnumbered}
use Rattle.py_printing.specs.Printing.{At, in_slot, print_node, printed}
use Rattle.py_printing.specs.SymbolTokens.{tokens, tokens_in}
use Rattle.py_printing.specs.Texts.{shape_tokens}
use Rattle.py_printing.proofs.Unnumbering.{expr_is, of-ListLit}
use Rattle.py_printing.proofs.Unrolled.{printed-ListLit}
use Rattle.py_layout.specs.Rows.{Rows, kind_rows, row, rows_of}
use Rattle.py_layout.proofs.RowLevels.{by_kind, by_statement, parts_of_kind}
use Rattle.py_spelling.specs.Spelling.{is_balanced}
use Rattle.py_annotation_layout.specs.Annotations.{annotation_tokens}
use Rattle.module_printer.specs.Examples.{expr, param, passed, stmt}
use Rattle.module_printer.specs.Modules.{lines_of, module_lines}
use Rattle.printing_laws.specs.Examples.{FiftyAreFew, FiftyOneAreMany, FunctionHasFew, a_list, nested}
use Rattle.std.specs.Prelude.{None, codes, map}
use Rattle.std.specs.List.{list_all}
use Rattle.py_syntax.specs.declared.expr.ExprKind.TheVariants as e
use Rattle.py_language.specs.declared.token.Keyword.TheVariants as k
use Rattle.py_layout.specs.Headers.{header_tokens}
use Rattle.py_grammar.specs.declared.form.Header.TheVariants as h
use Rattle.py_printer.specs.Lines.{Line}

tokens-append : (xs ys : List Symbol) → tokens (xs ++ ys) ≡ tokens xs ++ tokens ys
tokens-append [] ys = refl
tokens-append (x ∷ xs) ys = ap (λ z. tokens_in x ++ z) (tokens-append xs ys) ∙ sym (append_assoc (tokens_in x) (tokens xs) (tokens ys))

-- so many brackets in one another, and one pair more
abbrev brackets : ℕ → List Token
brackets zero = t.Mark m.LeftBracket ∷ t.Mark m.RightBracket ∷ []
brackets (suc n) = t.Mark m.LeftBracket ∷ (brackets n ++ t.Mark m.RightBracket ∷ [])

shape_of : (xs : List Expr) → unnumbered (expr (e.ListLit xs)) ≡ shape.ListLit (map unnumbered xs)
shape_of xs = expr_is (expr (e.ListLit xs)) ∙ of-ListLit xs

list_is : (l : Level) (xs : List Expr) → expr_tokens l (expr (e.ListLit xs)) ≡ tokens (in_slot (At l) (print_node (Shape-F.ListLit (map printed (map unnumbered xs)))))
list_is l xs = ap (shape_tokens l) (shape_of xs) ∙ ap (λ p. tokens (in_slot (At l) p)) (printed-ListLit (map unnumbered xs))

inner : (x : Expr) (ts : List Token) → expr_tokens Conditional x ≡ ts → tokens (in_slot (At Conditional) (printed (unnumbered x)) ++ symbol.Close Square ∷ []) ≡ ts ++ t.Mark m.RightBracket ∷ []
inner x ts same = tokens-append (in_slot (At Conditional) (printed (unnumbered x))) (symbol.Close Square ∷ []) ∙ ap (λ z. z ++ t.Mark m.RightBracket ∷ []) same

nested_alone : (n : ℕ) → expr_tokens Conditional (nested n) ≡ brackets n
unfolding nested
nested_alone zero = list_is Conditional []
nested_alone (suc n) = list_is Conditional (nested n ∷ []) ∙ ap (λ z. t.Mark m.LeftBracket ∷ z) (inner (nested n) (brackets n) (nested_alone n))

nested_listed : (n : ℕ) → expr_tokens Listed (nested n) ≡ brackets n
unfolding nested
nested_listed zero = list_is Listed []
nested_listed (suc n) = list_is Listed (nested n ∷ []) ∙ ap (λ z. t.Mark m.LeftBracket ∷ z) (inner (nested n) (brackets n) (nested_alone n))

bare_row : (x : Expr) (column : ℕ) → rows_of annotation_tokens (stmt (s.Bare x)) column ≡ row column (expr_tokens Listed x) ∷ []
bare_row x column =
    by_statement annotation_tokens (stmt (s.Bare x)) column ∙ by_kind annotation_tokens (s.Bare x) column
    ∙ ap (λ f. kind_rows annotation_tokens (parts_of_kind annotation_tokens f) column) (outs-Bare x)

pass_row : (column : ℕ) → rows_of annotation_tokens passed column ≡ row column (t.Keyword k.Pass ∷ []) ∷ []
pass_row column =
    by_statement annotation_tokens passed column ∙ by_kind annotation_tokens s.Pass column ∙ ap (λ f. kind_rows annotation_tokens (parts_of_kind annotation_tokens f) column) outs-Pass

-- of a module that is one expression
one_line : (n : ℕ) → list_all (λ (l : Line). is_balanced [] l.tokens) (module_lines (a_list n)) ≡ (is_balanced [] (brackets n) && true)
one_line n =
    ap (λ (rs : Rows). list_all (λ (l : Line). is_balanced [] l.tokens) (lines_of 0 rs ++ [])) (bare_row (nested n) 0 ∙ ap (λ ts. row 0 ts ∷ []) (nested_listed n))

pub function_has_few : FunctionHasFew
function_has_few = ap (λ (rs : Rows). list_all (λ (l : Line). is_balanced [] l.tokens) (lines_of 0 (row 0 header ∷ (rs ++ [])) ++ [])) (pass_row 4)
  where
    header : List Token
    header = header_tokens annotation_tokens (h.Def (codes "f") (param "x" ∷ []) None)

pub fifty_are_few : FiftyAreFew
fifty_are_few = one_line 49

pub fifty_one_are_many : FiftyOneAreMany
fifty_one_are_many few = let wrong : false ≡ true = sym (one_line 50) ∙ few in absurd (cc)
