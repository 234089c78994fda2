-- A node from the numbers of its parts, where these are lists.
use Rattle.std.proofs.Common.{◌≡◌, ◌∙◌, ap, ℕ, Bool, List, Option, Some, None, map}
use Rattle.std.specs.Option.{option_map}
use Rattle.py_syntax.specs.declared.expr.Args.{Args, out-Args}
use Rattle.py_syntax.specs.declared.expr.Expr.{Expr}
use Rattle.py_syntax.specs.declared.expr.ExprKind.{ExprKind}
use Rattle.py_syntax.specs.declared.expr.ExprKind.TheVariants as e
use Rattle.py_syntax.specs.declared.operator.CmpOp.{CmpOp}
use Rattle.py_language.specs.TreesNumbers.{Numbered, in_order, args}
use Rattle.py_nodes.specs.Expressions.{OnLine, Part, on, pair_on, compared_on, maybe, part_of, parts_of, args_of, expr_on}
use Rattle.py_nodes.specs.Code.{pair_of, compared_of, series_kind}
use Rattle.py_nodes.specs.declared.expressions.Series.{Series}
use Rattle.py_nodes.specs.declared.expressions.Series.TheVariants as series
use Rattle.py_nodes.proofs.Levels.{parts-And, parts-Or, parts-ListLit, parts-TupleLit, parts-DictLit, parts-Compare, parts-Slice, args-out}
use Rattle.py_nodes.proofs.Arguments.{standing_of}
use Rattle.py_nodes.proofs.Steps.{made, map_twice, both}

module _ (counted : Bool) (line : ℕ) where
  list_is : (make : List Expr → ExprKind) (xs : List Expr) (n : ℕ) → made make (in_order (map (on line) (map (part_of counted) xs))) n ≡ made make (in_order (map (expr_on counted line) xs)) n
  list_is make xs n = ap (λ ps. made make (in_order ps) n) (map_twice (on line) (part_of counted) xs)

  -- a node whose parts are a list of expressions
  pub series_is : (r : Series) (xs : List Expr) (n : ℕ) → parts_of counted (series_kind r xs) line n ≡ made (series_kind r) (in_order (map (expr_on counted line) xs)) n
  series_is series.And xs n = parts-And counted xs line n ∙ list_is e.And xs n
  series_is series.Or xs n = parts-Or counted xs line n ∙ list_is e.Or xs n
  series_is series.List xs n = parts-ListLit counted xs line n ∙ list_is e.ListLit xs n
  series_is series.Tuple xs n = parts-TupleLit counted xs line n ∙ list_is e.TupleLit xs n

  pub dict_is : (kind : ExprKind) (pairs : List (Expr × Expr)) (n : ℕ) → kind ≡ e.DictLit pairs → parts_of counted kind line n ≡ made e.DictLit (in_order (map (pair_of counted line) pairs)) n
  dict_is kind pairs n is =
      ap (λ k. parts_of counted k line n) is ∙ parts-DictLit counted pairs line n
      ∙ ap (λ ps. made e.DictLit (in_order ps) n) (map_twice (pair_on line) (λ (p : Expr × Expr). let q : Part × Part = (part_of counted p.0, part_of counted p.1) in q) pairs)

  pub compare_is : (kind : ExprKind) (x : Expr) (pairs : List (CmpOp × Expr)) (n : ℕ) → kind ≡ e.Compare x pairs
      → parts_of counted kind line n ≡ made (λ q. e.Compare q.0 q.1) (both (expr_on counted line x) (in_order (map (compared_of counted line) pairs))) n
  compare_is kind x pairs n is =
      ap (λ k. parts_of counted k line n) is ∙ parts-Compare counted x pairs line n
      ∙ ap (λ ps. made (λ q. e.Compare q.0 q.1) (both (expr_on counted line x) (in_order ps)) n) (map_twice (compared_on line) (λ (p : CmpOp × Expr). let q : CmpOp × Part = (p.0, part_of counted p.1) in q) pairs)

  -- an expression that may be missing
  abbrev pub maybe_on : Option Expr → Numbered (Option Expr)
  maybe_on x = maybe (option_map (expr_on counted line) x)

  pub slice_is : (kind : ExprKind) (x : Expr) (a b : Option Expr) (n : ℕ) → kind ≡ e.Slice x a b
      → parts_of counted kind line n ≡ made (λ q. e.Slice q.0.0 q.0.1 q.1) (both (both (expr_on counted line x) (maybe_on a)) (maybe_on b)) n
  slice_is kind x None None n is = ap (λ k. parts_of counted k line n) is ∙ parts-Slice counted x None None line n
  slice_is kind x None (Some b) n is = ap (λ k. parts_of counted k line n) is ∙ parts-Slice counted x None (Some b) line n
  slice_is kind x (Some a) None n is = ap (λ k. parts_of counted k line n) is ∙ parts-Slice counted x (Some a) None line n
  slice_is kind x (Some a) (Some b) n is = ap (λ k. parts_of counted k line n) is ∙ parts-Slice counted x (Some a) (Some b) line n

  -- the arguments of a call
  pub args_are : (given : Args) (n : ℕ) → args_of counted given line n ≡ (let r = standing_of counted line (out-Args given).plain (out-Args given).named n in let z : Args × ℕ = (args r.0, r.1) in z)
  args_are given n = ap (λ (p : OnLine Args). p line n) (args-out counted given)
