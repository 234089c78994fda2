-- The worked examples, by the laws.
use Rattle.std.proofs.Common.{◌≡◌, ◌∙◌, ap, ap₂, [], ◌∷◌, codes}
use Rattle.py_syntax.specs.declared.expr.Args.{Args}
use Rattle.py_syntax.specs.declared.expr.Expr.{Expr}
use Rattle.py_syntax.specs.declared.expr.ExprKind.{ExprKind, map-ExprKind, out-ExprKind}
use Rattle.py_syntax.specs.declared.expr.ExprKind.TheVariants as x
use Rattle.py_syntax.specs.declared.operator.CmpOp.{CmpOp}
use Rattle.py_syntax.specs.declared.operator.CmpOp.TheVariants.{Lt}
use Rattle.py_syntax.specs.declared.patch.Change.{Change}
use Rattle.py_syntax.specs.declared.patch.Change.TheVariants as c
use Rattle.py_syntax.specs.declared.patch.Patch.{Patch}
use Rattle.mutant_model.specs.Rewriting.{kind_by, expr_by, rewritten_expr, rewritten_kind, rewritten_args}
use Rattle.mutant_model.specs.Rows.{changed_expr}
use Rattle.py_syntax.specs.declared.expr.ExprKind.TheVariants.{outs-Name, outs-IntLit, outs-StrLit, outs-Unary, outs-Binary, outs-And, outs-Compare, outs-Not}
use Rattle.py_syntax.specs.declared.stmt.Clause.{out-roll-Clause}
use Rattle.py_syntax.specs.declared.stmt.StmtKind.TheVariants.{outs-Pass, outs-Return, outs-Raise, outs-Assign, outs-Augment, outs-Bare, outs-If, outs-Try}
use Rattle.py_names.specs.Folds.{by_statement, by_clause}
use Rattle.mutant_model.specs.Examples.{n, read, int, less, patch, Plain, Chain, Greatest, Handlers, NextInteger, Elsewhere, LessOrEqual, Negated}
use Rattle.mutant_model.specs.Folds.{sites_by_expr, sites_by_kind, sites_by_stmt, word_by_stmt, sites_at_level, word_in_level, sites_by_clause, expr_level, kind_level, stmt_level, stmt_kind_level, clause_level}

ruleset levels = (sites_by_expr, sites_by_kind, sites_by_stmt, word_by_stmt, sites_at_level, word_in_level, sites_by_clause, expr_level, kind_level, stmt_level, stmt_kind_level, clause_level, by_statement, by_clause, out-roll-Clause, outs-Name, outs-IntLit, outs-StrLit, outs-Unary, outs-Binary, outs-And, outs-Compare, outs-Not, outs-Pass, outs-Return, outs-Raise, outs-Assign, outs-Augment, outs-Bare, outs-If, outs-Try)

pub plain_mutants : Plain
plain_mutants = simp levels

pub chain_mutants : Chain
chain_mutants = simp levels

pub greatest : Greatest
greatest = simp levels

pub handlers : Handlers
handlers = simp levels

pub next_integer : NextInteger
next_integer = simp levels

pub elsewhere : Elsewhere
elsewhere = simp levels

compare_again : (p : Patch) (a : Expr) (op : CmpOp) (b : Expr) → rewritten_kind p (x.Compare a ((op, b) ∷ [])) ≡ x.Compare (rewritten_expr p a) ((op, rewritten_expr p b) ∷ [])
compare_again p a op b =
    kind_level p (x.Compare a ((op, b) ∷ []))
    ∙ ap (λ kind. kind_by p (map-ExprKind ExprKind Args Expr ExprKind Args Expr (rewritten_kind p) (rewritten_args p) (rewritten_expr p) kind)) (outs-Compare a ((op, b) ∷ []))

-- the operands aren't the node
left_again : (change : Change) → rewritten_expr (patch 2 change) (read 3 (codes "a")) ≡ read 3 (codes "a")
left_again change = simp levels

right_again : (change : Change) → rewritten_expr (patch 2 change) (int 4 1) ≡ int 4 1
right_again change = simp levels

less_again : (change : Change) → rewritten_kind (patch 2 change) less.kind ≡ less.kind
less_again change =
    compare_again (patch 2 change) (read 3 (codes "a")) Lt (int 4 1)
    ∙ ap₂ (λ a b. x.Compare a ((Lt, b) ∷ [])) (left_again change) (right_again change)

less_made : (change : Change) → rewritten_expr (patch 2 change) less ≡ changed_expr change (out-ExprKind less.kind) less
less_made change = expr_level (patch 2 change) less ∙ ap (λ kind. expr_by (patch 2 change) record { node = n 2; line = 1; kind = kind }) (less_again change)

pub less_or_equal : LessOrEqual
less_or_equal = less_made (c.LtToLe 0) ∙ ap (λ kind. changed_expr (c.LtToLe 0) kind less) (outs-Compare (read 3 (codes "a")) ((Lt, int 4 1) ∷ []))

pub negated : Negated
negated = less_made c.NegateTest
