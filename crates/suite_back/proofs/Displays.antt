-- A display is read as what it shows: by how deep it is.
use Rattle.std.proofs.Common.{List, Option, Some, [], ap, arith, map, refl, subst, suc, sym, zero, ℕ, ◌∙◌, ◌∷◌, ◌≡◌, ◌≤◌}
use Rattle.std.specs.Prelude.{max, negsuc, pos, ℤ}
use Rattle.std.specs.Option.{option_map}
use Rattle.std.proofs.Math.Nat.{le-max_left, le-max_right}
use Rattle.py_syntax.specs.declared.expr.Args.{Args}
use Rattle.py_syntax.specs.declared.expr.Expr.{Expr}
use Rattle.py_syntax.specs.declared.expr.ExprKind.{ExprKind, ExprKind-F, map-ExprKind, out-ExprKind}
use Rattle.py_syntax.specs.declared.expr.ExprKind.TheVariants as e
use Rattle.py_syntax.specs.declared.expr.ExprKind.TheVariants.{outs-NoneLit, outs-BoolLit, outs-IntLit, outs-StrLit, outs-Unary, outs-ListLit, outs-TupleLit, outs-DictLit}
use Rattle.py_syntax.specs.declared.operator.Sign.TheVariants.{Minus}
use Rattle.suite_model.specs.declared.suite.Shown.{Shown, Shown-F, map-Shown, out-Shown, roll-Shown, roll-out-Shown, fold_out-Shown}
use Rattle.suite_model.specs.declared.suite.Shown.TheVariants as shown
use Rattle.suite_model.specs.declared.suite.Shown.TheVariants.{rolls-Prim, rolls-List, rolls-Tuple, rolls-Dict}
use Rattle.suite_model.specs.declared.test.Primitive.{Primitive}
use Rattle.suite_model.specs.declared.test.Primitive.TheVariants as prim
use Rattle.suite_model.specs.Assertions.{display, display_by}
use Rattle.suite_model.specs.Folds.{by_shown}
use Rattle.suite_model.specs.Statements.{expression, literal}
use Rattle.suite_file.specs.Folds.{shown_by_level, shown_by_kind}
use Rattle.suite_file.specs.Spelled.{all_of, both_of, shown_by, shown_in, shown_in_args, shown_in_kind, signed_display}
use Rattle.suite_text.specs.Printable.{depth_by, display_depth, largest}
use Rattle.suite_back.proofs.Truths.{after_found}

-- what a node is read as, from what its parts are
abbrev level : ExprKind-F ExprKind Args Expr → Option Shown
level node = shown_by (map-ExprKind ExprKind Args Expr (Option Shown) (Unit {0}) (Option Shown) shown_in_kind shown_in_args shown_in node)

of_node : (kind : ExprKind) (node : ExprKind-F ExprKind Args Expr) → out-ExprKind kind ≡ node → shown_in (expression kind) ≡ level node
of_node kind node is = shown_by_level (expression kind) ∙ shown_by_kind kind ∙ ap level is

-- ---- literals

integer_read : (n : ℤ) → shown_in (expression (e.IntLit n)) ≡ Some (shown.Prim (prim.Int n))
integer_read n = of_node (e.IntLit n) (ExprKind-F.IntLit n) (outs-IntLit n)

literal_read : (p : Primitive) → shown_in (literal p) ≡ Some (shown.Prim p)
literal_read prim.None = of_node e.NoneLit ExprKind-F.NoneLit outs-NoneLit
literal_read (prim.Bool b) = of_node (e.BoolLit b) (ExprKind-F.BoolLit b) (outs-BoolLit b)
literal_read (prim.Int (pos n)) = integer_read (pos n)
literal_read (prim.Int (negsuc n)) =
    let one = expression (e.IntLit (pos (suc n))) in
    of_node (e.Unary Minus one) (ExprKind-F.Unary Minus one) (outs-Unary Minus one) ∙ after_found (shown_in one) (signed_display Minus) (shown.Prim (prim.Int (pos (suc n)))) _ (integer_read (pos (suc n))) refl
literal_read (prim.Str text) = of_node (e.StrLit text) (ExprKind-F.StrLit text) (outs-StrLit text)

-- ---- displays of at most so many levels

depth_is : (x : Shown) → display_depth x ≡ depth_by (map-Shown Shown ℕ display_depth (out-Shown x))
unfolding display_depth
depth_is x = fold_out-Shown ℕ depth_by x

positive_by : (f : Shown-F ℕ) → 1 ≤ depth_by f
positive_by (Shown-F.Prim prim.None) = omega arith
positive_by (Shown-F.Prim (prim.Bool b)) = omega arith
positive_by (Shown-F.Prim (prim.Int (pos n))) = omega arith
positive_by (Shown-F.Prim (prim.Int (negsuc n))) = omega arith
positive_by (Shown-F.Prim (prim.Str text)) = omega arith
positive_by (Shown-F.List parts) = omega arith
positive_by (Shown-F.Tuple parts) = omega arith
positive_by (Shown-F.Dict pairs) = omega arith

positive : (x : Shown) → 1 ≤ display_depth x
positive x = subst (λ n. 1 ≤ n) (sym (depth_is x)) (positive_by (map-Shown Shown ℕ display_depth (out-Shown x)))

abbrev IsReadTo : ℕ → Type 0
IsReadTo d = (x : Shown) → display_depth x ≤ d → shown_in (display x) ≡ Some x

parts_read : (d : ℕ) → IsReadTo d → (parts : List Shown) → largest (map display_depth parts) ≤ d → all_of (map shown_in (map display parts)) ≡ Some parts
parts_read d ih [] le = refl
parts_read d ih (x ∷ parts) le =
    let left = le-max_left (display_depth x) (largest (map display_depth parts)) in
    let right = le-max_right (display_depth x) (largest (map display_depth parts)) in
    rw (ih x (omega (arith, left, le)), parts_read d ih parts (omega (arith, right, le))) refl

abbrev depths : Shown × Shown → ℕ × ℕ
depths p = (display_depth p.0, display_depth p.1)

abbrev displays : Shown × Shown → Expr × Expr
displays p = (display p.0, display p.1)

abbrev shown_both : Expr × Expr → Option Shown × Option Shown
shown_both p = (shown_in p.0, shown_in p.1)

pairs_read : (d : ℕ) → IsReadTo d → (pairs : List (Shown × Shown)) → largest (map (λ (pair : ℕ × ℕ). max pair.0 pair.1) (map depths pairs)) ≤ d
    → all_of (map both_of (map shown_both (map displays pairs))) ≡ Some pairs
pairs_read d ih [] le = refl
pairs_read d ih (x ∷ pairs) le =
    let others = largest (map (λ (pair : ℕ × ℕ). max pair.0 pair.1) (map depths pairs)) in
    let left = le-max_left (max (display_depth x.0) (display_depth x.1)) others in
    let right = le-max_right (max (display_depth x.0) (display_depth x.1)) others in
    let key = le-max_left (display_depth x.0) (display_depth x.1) in
    let value = le-max_right (display_depth x.0) (display_depth x.1) in
    rw (ih x.0 (omega (arith, key, left, le)), ih x.1 (omega (arith, value, left, le)), pairs_read d ih pairs (omega (arith, right, le))) refl

-- one level
level_read : (d : ℕ) → IsReadTo d → (f : Shown-F Shown) → depth_by (map-Shown Shown ℕ display_depth f) ≤ suc d → shown_in (display_by (map-Shown Shown Expr display f)) ≡ Some (roll-Shown f)
level_read d ih (Shown-F.Prim p) le = literal_read p ∙ ap Some (sym (rolls-Prim p))
level_read d ih (Shown-F.List parts) le =
    of_node (e.ListLit (map display parts)) (ExprKind-F.ListLit (map display parts)) (outs-ListLit (map display parts))
    ∙ ap (option_map shown.List) (parts_read d ih parts (omega (arith, le))) ∙ ap Some (sym (rolls-List parts))
level_read d ih (Shown-F.Tuple parts) le =
    of_node (e.TupleLit (map display parts)) (ExprKind-F.TupleLit (map display parts)) (outs-TupleLit (map display parts))
    ∙ ap (option_map shown.Tuple) (parts_read d ih parts (omega (arith, le))) ∙ ap Some (sym (rolls-Tuple parts))
level_read d ih (Shown-F.Dict pairs) le =
    of_node (e.DictLit (map displays pairs)) (ExprKind-F.DictLit (map displays pairs)) (outs-DictLit (map displays pairs))
    ∙ ap (option_map shown.Dict) (pairs_read d ih pairs (omega (arith, le))) ∙ ap Some (sym (rolls-Dict pairs))

pub display_read : (d : ℕ) → IsReadTo d
display_read zero x le = absurd (let some = positive x in omega (arith, some, le))
display_read (suc d) x le =
    let deep = subst (λ n. n ≤ suc d) (depth_is x) le in
    ap shown_in (by_shown x) ∙ level_read d (λ y l. display_read d y l) (out-Shown x) deep ∙ ap Some (roll-out-Shown x)
