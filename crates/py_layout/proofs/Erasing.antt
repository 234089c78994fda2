-- Statements without lines and numbers, one level at a time, and what is read back is the same up to these.
use Rattle.std.proofs.Common.{◌≡◌, ◌∙◌, sym, ap, refl, ℕ, false, List, [], ◌∷◌, Option, Some, None}
use Rattle.std.specs.Prelude.{map, option_map}
use Rattle.py_language.specs.declared.shape.Shape.{Shape}
use Rattle.py_language.specs.TreesNumbers.{numbered}
use Rattle.py_language.specs.TreesPlaces.{Level, Listed, Conditional, Postfix}
use Rattle.py_language.specs.Trees.{◌>>=◌, tree_at}
use Rattle.py_syntax.specs.declared.expr.Expr.{Expr}
use Rattle.py_syntax.specs.declared.stmt.StmtKind.{StmtKind, out-StmtKind}
use Rattle.py_syntax.specs.declared.stmt.StmtKind.TheVariants as s
use Rattle.py_syntax.specs.declared.stmt.StmtKind.TheVariants.{outs-Pass, outs-Break, outs-Continue, outs-Return, outs-Raise, outs-Assert, outs-Del, outs-Assign, outs-Augment, outs-Bare}
use Rattle.py_syntax.specs.declared.stmt.Target.{Target}
use Rattle.py_syntax.specs.declared.stmt.Target.TheVariants as to
use Rattle.py_printing.specs.Expressions.{unnumbered, expr_tokens, ShapesReadBack}
use Rattle.py_layout.specs.Small.{fresh, fresh_target, fresh_by, fresh_small}
use Rattle.py_syntax.specs.declared.stmt.Stmt.{Stmt}
use Rattle.py_layout.proofs.Small.{some_is, ReadAt, MaybeRead}
use Rattle.py_syntax.specs.declared.stmt.Clause.{Clause}
use Rattle.py_syntax.specs.declared.stmt.Clause as clause
use Rattle.py_syntax.specs.declared.stmt.Stmt as stmt
use Rattle.py_syntax.specs.declared.stmt.StmtKind.{StmtKind-F, map-StmtKind, fold_out-StmtKind}
use Rattle.py_printing.specs.Expressions.{TreesReadBack}
use Rattle.py_layout.specs.Erased.{erased_by, erased_clause_by, erased_stmt_by, erased, erased_clause, erased_kind}
use Rattle.py_layout.proofs.Small.{shape_of_kind, TargetRead, TargetsRead}
use Rattle.py_layout.proofs.SmallForms.{SmallForm, of_pass, of_break, of_continue, of_return, of_raise, of_assert, of_del, of_assign, of_typed, of_augment, of_bare}

-- ---- one level

abbrev pub erased_parts : StmtKind-F StmtKind Clause Stmt → StmtKind-F StmtKind Clause Stmt
erased_parts = map-StmtKind StmtKind Clause Stmt StmtKind Clause Stmt erased_kind erased_clause erased

erased-kind : (kind : StmtKind) → erased_kind kind ≡ erased_by (erased_parts (out-StmtKind kind))
unfolding erased erased_clause erased_kind
erased-kind kind = fold_out-StmtKind StmtKind Clause Stmt erased_by erased_clause_by erased_stmt_by kind

pub erased-stmt : (x : Stmt) → erased x ≡ record { node = record { 0 = 0 }; line = 0; kind = erased_kind x.kind }
unfolding erased erased_clause erased_kind
erased-stmt x = stmt.fold_out-Stmt StmtKind Clause Stmt erased_by erased_clause_by erased_stmt_by x

pub erased-clause : (c : Clause) → erased_clause c ≡ erased_clause_by (clause.map-Clause StmtKind Clause Stmt StmtKind Clause Stmt erased_kind erased_clause erased (clause.out-Clause c))
unfolding erased erased_clause erased_kind
erased-clause c = clause.fold_out-Clause StmtKind Clause Stmt erased_by erased_clause_by erased_stmt_by c

pub erased_as : (kind : StmtKind) (level : StmtKind-F StmtKind Clause Stmt) → out-StmtKind kind ≡ level → erased_kind kind ≡ erased_by (erased_parts level)
erased_as kind level out = erased-kind kind ∙ ap (λ z. erased_by (erased_parts z)) out

-- ---- expressions

abbrev erased_shape : Shape → Expr
erased_shape z = record { node = (numbered z 0).0.node; line = 0; kind = (numbered z 0).0.kind }

module _ (trees : TreesReadBack) (own : ShapesReadBack) where
  fresh_same : (before line : ℕ) (level : Level) (x : Expr) → ReadAt before level x → unnumbered (fresh line x) ≡ unnumbered x
  unfolding tree_at
  fresh_same before line level x r =
      let back = trees level r.ts r.tree r.read in
      let here : tree_at level (expr_tokens level r.tree) ≡ Some (numbered (unnumbered r.tree) 0).0 = ap (λ (o : Option Shape). o >>= λ z. Some (numbered z 0).0) (own level r.ts r.tree r.read) in
      let is : back.0 ≡ (numbered (unnumbered r.tree) 0).0 = some_is back.0 (numbered (unnumbered r.tree) 0).0 (sym back.1.0 ∙ here) in
      shape_of_kind (fresh line x) (numbered (unnumbered x) 0).0 refl ∙ ap (λ z. unnumbered (numbered z 0).0) r.shape ∙ ap unnumbered (sym is) ∙ back.1.1 ∙ sym r.shape

  pub fresh_again : (before line : ℕ) (level : Level) (x : Expr) → ReadAt before level x → fresh 0 (fresh line x) ≡ fresh 0 x
  fresh_again before line level x r = ap erased_shape (fresh_same before line level x r)

  pub maybe_again : (before line : ℕ) (level : Level) (x : Option Expr) → MaybeRead before level x → option_map (fresh 0) (option_map (fresh line) x) ≡ option_map (fresh 0) x
  maybe_again before line level None r = refl
  maybe_again before line level (Some x) r = ap Some (fresh_again before line level x r)

  target_again : (before line : ℕ) (a : Target) → TargetRead before a → fresh_target 0 (fresh_target line a) ≡ fresh_target 0 a
  target_again before line (to.Name n) r = refl
  target_again before line (to.Attr of n) r = ap (λ z. to.Attr z n) (fresh_again before line Postfix of r)
  target_again before line (to.Index of at) r = ap (λ z. to.Index z (fresh 0 (fresh line at))) (fresh_again before line Postfix of r.0) ∙ ap (λ z. to.Index (fresh 0 of) z) (fresh_again before line Listed at r.1)

  targets_again : (before line : ℕ) (targets : List Target) → TargetsRead before targets → map (fresh_target 0) (map (fresh_target line) targets) ≡ map (fresh_target 0) targets
  targets_again before line [] r = refl
  targets_again before line (a ∷ more) r =
      ap (λ z. z ∷ map (fresh_target 0) (map (fresh_target line) more)) (target_again before line a r.0) ∙ ap (λ z. fresh_target 0 a ∷ z) (targets_again before line more r.1)

  module _ (before line : ℕ) where
    -- a statement of this level, and what is read back for it
    same_as : (kind made again : StmtKind) (level next : StmtKind-F StmtKind Clause Stmt) → kind ≡ made → out-StmtKind made ≡ level → fresh_by line kind level ≡ again → out-StmtKind again ≡ next
        → erased_by (erased_parts next) ≡ erased_by (erased_parts level) → erased_kind (fresh_small line kind) ≡ erased_kind kind
    same_as kind made again level next is out fresh_is out_again same =
        ap erased_kind (ap (fresh_by line kind) (ap out-StmtKind is ∙ out) ∙ fresh_is) ∙ erased_as again next out_again ∙ same ∙ sym (erased_as made level out) ∙ ap erased_kind (sym is)

    unchanged : (kind made : StmtKind) (level : StmtKind-F StmtKind Clause Stmt) → kind ≡ made → out-StmtKind made ≡ level → fresh_by line kind level ≡ kind → erased_kind (fresh_small line kind) ≡ erased_kind kind
    unchanged kind made level is out same = ap erased_kind (ap (fresh_by line kind) (ap out-StmtKind is ∙ out) ∙ same)

    pub small_again : (kind : StmtKind) → SmallForm before kind → erased_kind (fresh_small line kind) ≡ erased_kind kind
    small_again kind (of_pass is) = unchanged kind _ _ is outs-Pass refl
    small_again kind (of_break is) = unchanged kind _ _ is outs-Break refl
    small_again kind (of_continue is) = unchanged kind _ _ is outs-Continue refl
    small_again kind (of_return x is r) = same_as kind _ _ _ _ is (outs-Return x) refl (outs-Return (option_map (fresh line) x)) (ap s.Return (maybe_again before line Listed x r))
    small_again kind (of_raise x is r) = same_as kind _ _ _ _ is (outs-Raise x) refl (outs-Raise (option_map (fresh line) x)) (ap s.Raise (maybe_again before line Conditional x r))
    small_again kind (of_assert test message is r v) =
        same_as kind _ _ _ _ is (outs-Assert test message) refl (outs-Assert (fresh line test) (option_map (fresh line) message))
        (ap (λ z. s.Assert z (option_map (fresh 0) (option_map (fresh line) message))) (fresh_again before line Conditional test r) ∙ ap (s.Assert (fresh 0 test)) (maybe_again before line Conditional message v))
    small_again kind (of_del of at is r v) =
        same_as kind _ _ _ _ is (outs-Del of at) refl (outs-Del (fresh line of) (fresh line at))
        (ap (λ z. s.Del z (fresh 0 (fresh line at))) (fresh_again before line Postfix of r) ∙ ap (s.Del (fresh 0 of)) (fresh_again before line Listed at v))
    small_again kind (of_assign a more is_tuple x is one r v) =
        same_as kind _ _ _ _ is (outs-Assign (a ∷ more) is_tuple None x) refl (outs-Assign (map (fresh_target line) (a ∷ more)) is_tuple None (fresh line x))
        (ap (λ z. s.Assign z is_tuple None (fresh 0 (fresh line x))) (targets_again before line (a ∷ more) r) ∙ ap (s.Assign (map (fresh_target 0) (a ∷ more)) is_tuple None) (fresh_again before line Listed x v))
    small_again kind (of_typed a type x is r u w v) =
        same_as kind _ _ _ _ is (outs-Assign (a ∷ []) false (Some type) x) refl (outs-Assign (fresh_target line a ∷ []) false (Some type) (fresh line x))
        (ap (λ z. s.Assign (z ∷ []) false (Some type) (fresh 0 (fresh line x))) (target_again before line a r) ∙ ap (s.Assign (fresh_target 0 a ∷ []) false (Some type)) (fresh_again before line Listed x v))
    small_again kind (of_augment a op x is r v) =
        same_as kind _ _ _ _ is (outs-Augment a op x) refl (outs-Augment (fresh_target line a) op (fresh line x))
        (ap (λ z. s.Augment z op (fresh 0 (fresh line x))) (target_again before line a r) ∙ ap (s.Augment (fresh_target 0 a) op) (fresh_again before line Listed x v))
    small_again kind (of_bare x is r) = same_as kind _ _ _ _ is (outs-Bare x) refl (outs-Bare (fresh line x)) (ap s.Bare (fresh_again before line Listed x r))
