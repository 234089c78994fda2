-- The lines of the statements of the examples.
use Rattle.std.proofs.Common.{◌≡◌, ◌∙◌, ap, ℕ, true, false, List, [], ◌∷◌, ◌++◌, Option, Some, None}
use Rattle.std.specs.Prelude.{codes, pos}
use Rattle.py_language.specs.declared.shape.Atom.{Atom}
use Rattle.py_language.specs.declared.shape.Atom.TheVariants as a
use Rattle.py_language.specs.declared.shape.Shape.{Shape-F}
use Rattle.py_language.specs.declared.shape.Shape.TheVariants as shape
use Rattle.py_language.specs.declared.token.Token.{Token}
use Rattle.py_language.specs.declared.token.Token.TheVariants as t
use Rattle.py_language.specs.declared.token.Keyword.TheVariants as k
use Rattle.py_language.specs.declared.token.Mark.TheVariants as m
use Rattle.py_language.specs.TreesPlaces.{Level, Listed, Conditional}
use Rattle.py_syntax.specs.declared.expr.Expr.{Expr}
use Rattle.py_syntax.specs.declared.stmt.Stmt.{Stmt}
use Rattle.py_syntax.specs.declared.stmt.StmtKind.{StmtKind, out-StmtKind}
use Rattle.py_syntax.specs.declared.stmt.StmtKind.TheVariants as s
use Rattle.py_syntax.specs.declared.stmt.StmtKind.TheVariants.{outs-Pass, outs-Return, outs-Assign}
use Rattle.py_syntax.specs.declared.stmt.Target.TheVariants as to
use Rattle.py_printing.specs.Expressions.{unnumbered, expr_tokens}
use Rattle.py_printing.specs.Printing.{At, in_slot, print_node}
use Rattle.py_printing.specs.SymbolTokens.{tokens}
use Rattle.py_printing.specs.Texts.{shape_tokens}
use Rattle.py_printing.proofs.Unnumbering.{expr_is, of-IntLit, of-Name}
use Rattle.py_printing.proofs.Unrolled.{printed-Atom}
use Rattle.py_layout.specs.Rows.{row, rows_of}
use Rattle.py_layout.specs.Small.{small_tokens}
use Rattle.py_layout.proofs.RowLevels.{by_statement}
use Rattle.py_annotation_layout.specs.Annotations.{annotation_tokens}
use Rattle.module_printer.specs.Blocks.{arms_by, maybe_rows}
use Rattle.module_printer.specs.Examples.{name, one, stmt, returned, assigned, unpacked, passed}
use Rattle.module_printer.proofs.SmallLevels.{small-Pass, small-Return, small-Assign}
use Rattle.module_printer.proofs.StatementRows.{is_small_by, kind-If, small_row}
use Prim.Native.String.{String}

of_atom : (l : Level) (x : Expr) (atom : Atom) → unnumbered x ≡ shape.Atom atom → expr_tokens l x ≡ tokens (in_slot (At l) (print_node (Shape-F.Atom atom)))
of_atom l x atom e = ap (shape_tokens l) e ∙ ap (λ p. tokens (in_slot (At l) p)) (printed-Atom atom)

pub name_listed : (text : String) → expr_tokens Listed (name text) ≡ t.Name (codes text) ∷ []
name_listed text = of_atom Listed (name text) (a.Name (codes text)) (expr_is (name text) ∙ of-Name (codes text))

pub name_alone : (text : String) → expr_tokens Conditional (name text) ≡ t.Name (codes text) ∷ []
name_alone text = of_atom Conditional (name text) (a.Name (codes text)) (expr_is (name text) ∙ of-Name (codes text))

one_listed : expr_tokens Listed one ≡ t.Int (pos 1) ∷ []
one_listed = of_atom Listed one (a.IntLit (pos 1)) (expr_is one ∙ of-IntLit (pos 1))

small_is : (kind : StmtKind) (column : ℕ) (ts : List Token) → is_small_by (out-StmtKind kind) ≡ true → small_tokens annotation_tokens kind ≡ ts → rows_of annotation_tokens (stmt kind) column ≡ row column ts ∷ []
small_is kind column ts small e = by_statement annotation_tokens (stmt kind) column ∙ small_row kind column small ∙ ap (λ z. row column z ∷ []) e

pub returned_rows : (column : ℕ) → rows_of annotation_tokens returned column ≡ row column (t.Keyword k.Return ∷ t.Int (pos 1) ∷ []) ∷ []
returned_rows column = small_is (s.Return (Some one)) column _ (ap is_small_by (outs-Return (Some one))) (small-Return (Some one) ∙ ap (λ z. t.Keyword k.Return ∷ z) one_listed)

pub assigned_rows : (text : String) (column : ℕ) → rows_of annotation_tokens (assigned text) column ≡ row column (t.Name (codes text) ∷ t.Mark m.Equal ∷ t.Int (pos 1) ∷ []) ∷ []
assigned_rows text column =
    let targets = to.Name (codes text) ∷ [] in
    small_is (s.Assign targets false None one) column _ (ap is_small_by (outs-Assign targets false None one))
    (small-Assign targets false None one ∙ ap (λ z. t.Name (codes text) ∷ t.Mark m.Equal ∷ z) one_listed)

pub unpacked_rows : (text : String) (column : ℕ) → rows_of annotation_tokens (unpacked text) column ≡ row column (t.Name (codes text) ∷ t.Mark m.Comma ∷ t.Mark m.Equal ∷ t.Name (codes "b") ∷ []) ∷ []
unpacked_rows text column =
    let targets = to.Name (codes text) ∷ [] in
    small_is (s.Assign targets true None (name "b")) column _ (ap is_small_by (outs-Assign targets true None (name "b")))
    (small-Assign targets true None (name "b") ∙ ap (λ z. t.Name (codes text) ∷ t.Mark m.Comma ∷ t.Mark m.Equal ∷ z) (name_listed "b"))

pub passed_rows : (column : ℕ) → rows_of annotation_tokens passed column ≡ row column (t.Keyword k.Pass ∷ []) ∷ []
passed_rows column = small_is s.Pass column _ (ap is_small_by outs-Pass) small-Pass

pub if_rows : (arms : List (Expr × List Stmt)) (other : Option (List Stmt)) (column : ℕ) → rows_of annotation_tokens (stmt (s.If arms other)) column ≡ arms_by column k.If arms ++ maybe_rows column k.Else other
if_rows arms other column = by_statement annotation_tokens (stmt (s.If arms other)) column ∙ kind-If arms other column
