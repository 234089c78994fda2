-- Displays, decisions and expressions keep the rule where their parts do.
use Rattle.std.proofs.Common.{List, None, Option, Some, [], false, length, map, true, ℕ, ◌++◌, ◌∷◌}
use Rattle.std.specs.List.{AllByRecursion, flat_map}
use Rattle.std.specs.Option.{option_to_list}
use Rattle.pyn_base.specs.declared.ids.FuncId.{FuncId}
use Rattle.py_syntax.specs.declared.expr.Args.{Args, out-Args}
use Rattle.py_syntax.specs.declared.expr.Expr.{Expr}
use Rattle.py_syntax.specs.declared.expr.ExprKind.{ExprKind, ExprKind-F}
use Rattle.py_syntax.specs.declared.operator.CmpOp.{CmpOp}
use Rattle.py_syntax.specs.declared.stmt.Stmt.{Stmt}
use Rattle.py_meaning.specs.Worlds.{Attributes, Pairs}
use Rattle.py_meaning.specs.declared.builtin.Builtin.{Builtin}
use Rattle.py_meaning.specs.declared.value.Value.{Value}
use Rattle.py_meaning.specs.declared.value.Value.TheVariants as v
use Rattle.py_plain.specs.Decisions.{chain, conditional, conjoins, conjunction, disjoins, disjunction, judged_chain}
use Rattle.py_plain.specs.Displays.{dict_display, list_display, tuple_display}
use Rattle.py_plain.specs.Expressions.{arguments, bound, calls_expr, calls_meant, named_arguments, plain_arguments, value_by}
use Rattle.py_plain.specs.Names.{builtin_meant}
use Rattle.py_plain.specs.Nodes.{kind_of_expr}
use Rattle.py_plain.specs.Operators.{judged_comparison}
use Rattle.py_plain.specs.Runs.{Finding, nothing}
use Rattle.py_plain.specs.Tests.{recorder}
use Rattle.py_plain.specs.declared.judged.Judged.{Judged}
use Rattle.py_plain.specs.declared.judged.Judged.TheVariants as j
use Rattle.py_plain.specs.declared.run.Callee.{Callee}
use Rattle.py_plain.specs.declared.run.Callee.TheVariants as callee
use Rattle.py_sites.specs.Nodes.{args_of, expr_parts}
use Rattle.goal_laws.proofs.Held.{Bodies, HeldExpr, Parts, held_begins}
use Rattle.goal_laws.proofs.Kept.{Does, Kept, kept_begins, kept_if, kept_then, quiet, quiet_bind, quiet_gives, quiet_pure, quiet_tests}
use Rattle.goal_laws.proofs.KeptCalls.{calls_kept}
use Rattle.goal_laws.proofs.Lists.{all_back, all_front, all_ordered}
use Rattle.goal_laws.proofs.QuietParts.{finds_super_quiet, makes_dict_quiet, makes_list_quiet, makes_tuple_quiet, negates_quiet}
use Rattle.goal_laws.proofs.QuietValues.{compares_quiet, finds_quiet, gets_item_quiet, gets_slice_quiet, operates_quiet, read_found_quiet, reads_name_quiet, signs_quiet}
use Rattle.goal_laws.proofs.Trails.{Rule}

module _ (r : Rule) (bodies : Bodies r) (value : Expr → Does Finding) (does : Stmt → Does Finding) (parts : Parts r value does) (f : Option FuncId) where
  abbrev Keeps : {A : Type 0} → Does A → Type 0
  Keeps p = Kept r f [] p

  abbrev AllHeld : List Expr → Type 0
  AllHeld items = AllByRecursion (HeldExpr r f) items

  -- ---- displays and decisions

  list_display_kept : (done : List Value) (items : List Expr) → AllHeld items → Keeps (list_display value done items)
  list_display_kept done [] h = quiet r _ (makes_list_quiet r.program done)
  list_display_kept done (e ∷ more) h = kept_then r _ _ (parts.values f e h.0) (λ x. list_display_kept (done ++ x.0 ∷ []) more h.1)

  tuple_display_kept : (done : List Value) (items : List Expr) → AllHeld items → Keeps (tuple_display value done items)
  tuple_display_kept done [] h = quiet r _ (makes_tuple_quiet r.program done)
  tuple_display_kept done (e ∷ more) h = kept_then r _ _ (parts.values f e h.0) (λ x. tuple_display_kept (done ++ x.0 ∷ []) more h.1)

  dict_display_kept : (done : Pairs) (pairs : List (Expr × Expr)) → AllHeld (flat_map (λ p. p.0 ∷ p.1 ∷ []) pairs) → Keeps (dict_display value done pairs)
  dict_display_kept done [] h = quiet r _ (makes_dict_quiet r.program done)
  dict_display_kept done (pair ∷ more) h = kept_then r _ _ (parts.values f pair.0 h.0) (λ key. kept_then r _ _ (parts.values f pair.1 h.1.0) (λ x. dict_display_kept (done ++ (key.0, x.0) ∷ []) more h.1.1))

  conjunction_kept : (done : List Judged) (x : Finding) (more : List Expr) → AllHeld more → Keeps (conjunction value done x more)
  conjunction_kept done x [] h = quiet r _ (quiet_pure _)
  conjunction_kept done x (e ∷ more) h = kept_then r _ _ (quiet r _ (quiet_tests x.0)) (λ holds. kept_if r holds _ _
      (kept_then r _ _ (parts.values f e h.0) (λ y. conjunction_kept (done ++ x.1 ∷ []) y more h.1)) (quiet r _ (quiet_pure (x.0, j.All (done ++ x.1 ∷ []) (length (e ∷ more))))))

  disjunction_kept : (done : List Judged) (x : Finding) (more : List Expr) → AllHeld more → Keeps (disjunction value done x more)
  disjunction_kept done x [] h = quiet r _ (quiet_pure _)
  disjunction_kept done x (e ∷ more) h = kept_then r _ _ (quiet r _ (quiet_tests x.0)) (λ holds. kept_if r holds _ _
      (quiet r _ (quiet_pure (x.0, j.Any (done ++ x.1 ∷ []) (length (e ∷ more))))) (kept_then r _ _ (parts.values f e h.0) (λ y. disjunction_kept (done ++ x.1 ∷ []) y more h.1)))

  conjoins_kept : (items : List Expr) → AllHeld items → Keeps (conjoins value items)
  conjoins_kept [] h = quiet r _ (quiet_gives _)
  conjoins_kept (e ∷ more) h = kept_then r _ _ (parts.values f e h.0) (λ x. conjunction_kept [] x more h.1)

  disjoins_kept : (items : List Expr) → AllHeld items → Keeps (disjoins value items)
  disjoins_kept [] h = quiet r _ (quiet_gives _)
  disjoins_kept (e ∷ more) h = kept_then r _ _ (parts.values f e h.0) (λ x. disjunction_kept [] x more h.1)

  chain_kept : (done : List Judged) (x : Value) (others : List (CmpOp × Expr)) → AllHeld (map (λ p. p.1) others) → Keeps (chain value done x others)
  chain_kept done x [] h = quiet r _ (quiet_pure _)
  chain_kept done x (part ∷ more) h = kept_then r _ _ (parts.values f part.1 h.0) (λ y. kept_then r _ _ (quiet r _ (compares_quiet r.program part.0 x y.0)) (λ holds. kept_if r holds _ _
      (chain_kept (done ++ judged_comparison part.0 x y.0 true ∷ []) y.0 more h.1) (quiet r _ (quiet_pure (v.Bool false, judged_chain (done ++ judged_comparison part.0 x y.0 false ∷ []) (length more))))))

  conditional_kept : (e test other : Expr) → HeldExpr r f e → HeldExpr r f test → HeldExpr r f other → Keeps (conditional value e test other)
  conditional_kept e test other h k l = kept_then r _ _ (parts.values f test k) (λ x. kept_then r _ _ (quiet r _ (quiet_tests x.0))
      (λ holds. kept_then r _ _ (kept_if r holds _ _ (parts.values f e h) (parts.values f other l)) (λ y. quiet r _ (quiet_gives y.0))))

  -- ---- calls

  named_kept : (called : Callee) (plain : List Value) (done : Attributes) (named : List (List ℕ × Expr)) → AllHeld (map (λ n. n.1) named) → Keeps (named_arguments recorder r.program value does called plain done named)
  named_kept called plain done [] h = calls_kept r bodies value does parts f called plain done
  named_kept called plain done (argument ∷ more) h = kept_then r _ _ (parts.values f argument.1 h.0) (λ x. named_kept called plain (done ++ (argument.0, x.0) ∷ []) more h.1)

  plain_kept : (called : Callee) (done : List Value) (items : List Expr) (named : List (List ℕ × Expr)) → AllHeld items → AllHeld (map (λ n. n.1) named) → Keeps (plain_arguments recorder r.program value does called done items named)
  plain_kept called done [] named h k = named_kept called done [] named k
  plain_kept called done (e ∷ more) named h k = kept_then r _ _ (parts.values f e h.0) (λ x. plain_kept called (done ++ x.0 ∷ []) more named h.1 k)

  arguments_kept : (given : Args) (called : Callee) → AllHeld (args_of given) → Keeps (arguments recorder r.program value does given called)
  arguments_kept given called h =
      let both = all_ordered (HeldExpr r f) (λ x. x.node.0) (out-Args given).plain (out-Args given).named h in
      plain_kept called [] (out-Args given).plain (out-Args given).named both.0 both.1

  calls_meant_kept : (meant : Option Builtin) (e : Expr) (given : Args) → HeldExpr r f e → AllHeld (args_of given) → Keeps (calls_meant recorder r.program value does meant e given)
  calls_meant_kept None e given h k = kept_then r _ _ (parts.values f e h) (λ x. arguments_kept given (callee.Value x.0) k)
  calls_meant_kept (Some builtin) e given h k = kept_then r _ _ (kept_begins r e.node (λ u grown. held_begins r f e h u)) (λ _. arguments_kept given (callee.Builtin builtin) k)

  calls_expr_kept : (kind : ExprKind-F ExprKind Args Expr) (e : Expr) (given : Args) → HeldExpr r f e → AllHeld (args_of given) → Keeps (calls_expr recorder r.program value does kind e given)
  calls_expr_kept (ExprKind-F.Name name) e given h k = record { at = λ s same o grown. (calls_meant_kept (builtin_meant r.program s name) e given h k).at s same o grown }
  calls_expr_kept _ e given h k = calls_meant_kept None e given h k

  -- ---- expressions

  bound_kept : (e : Option Expr) → AllHeld (option_to_list e) → Keeps (bound recorder r.program value does e)
  bound_kept None h = quiet r _ (quiet_pure nothing)
  bound_kept (Some e) h = parts.values f e h.0

  pub value_by_kept : (kind : ExprKind-F ExprKind Args Expr) → AllHeld (expr_parts args_of kind) → Keeps (value_by recorder r.program value does kind)
  value_by_kept ExprKind-F.NoneLit h = quiet r _ (quiet_gives _)
  value_by_kept (ExprKind-F.BoolLit b) h = quiet r _ (quiet_gives _)
  value_by_kept (ExprKind-F.IntLit n) h = quiet r _ (quiet_gives _)
  value_by_kept (ExprKind-F.StrLit text) h = quiet r _ (quiet_gives _)
  value_by_kept (ExprKind-F.Name name) h = quiet r _ (reads_name_quiet r.program name)
  value_by_kept (ExprKind-F.ListLit items) h = list_display_kept [] items h
  value_by_kept (ExprKind-F.TupleLit items) h = tuple_display_kept [] items h
  value_by_kept (ExprKind-F.DictLit pairs) h = dict_display_kept [] pairs h
  value_by_kept (ExprKind-F.Attr e name) h = kept_then r _ _ (parts.values f e h.0) (λ x. quiet r _ (quiet_bind _ _ (finds_quiet r.program x.0 name) (read_found_quiet r.program)))
  value_by_kept (ExprKind-F.Index of at) h = kept_then r _ _ (parts.values f of h.0) (λ x. kept_then r _ _ (parts.values f at h.1.0) (λ i. quiet r _ (gets_item_quiet r.program x.0 i.0)))
  value_by_kept (ExprKind-F.Slice of low high) h =
      let front = all_front (HeldExpr r f) (option_to_list low) (option_to_list high) h.1 in
      let back = all_back (HeldExpr r f) (option_to_list low) (option_to_list high) h.1 in
      kept_then r _ _ (parts.values f of h.0) (λ x. kept_then r _ _ (bound_kept low front) (λ a. kept_then r _ _ (bound_kept high back) (λ b. quiet r _ (gets_slice_quiet r.program x.0 a.0 b.0))))
  value_by_kept (ExprKind-F.Call e given) h = calls_expr_kept (kind_of_expr e) e given h.0 h.1
  value_by_kept (ExprKind-F.Method e name given) h = kept_then r _ _ (parts.values f e h.0) (λ x. kept_then r _ _ (quiet r _ (finds_quiet r.program x.0 name)) (λ found. arguments_kept given found h.1))
  value_by_kept (ExprKind-F.Super name given) h = kept_then r _ _ (quiet r _ (finds_super_quiet r.program name)) (λ found. arguments_kept given found h)
  value_by_kept (ExprKind-F.Unary sign e) h = kept_then r _ _ (parts.values f e h.0) (λ x. quiet r _ (signs_quiet r.program sign x.0))
  value_by_kept (ExprKind-F.Not e) h = kept_then r _ _ (parts.values f e h.0) (λ x. quiet r _ (negates_quiet r.program x))
  value_by_kept (ExprKind-F.Binary op a b) h = kept_then r _ _ (parts.values f a h.0) (λ x. kept_then r _ _ (parts.values f b h.1.0) (λ y. quiet r _ (operates_quiet r.program op x.0 y.0)))
  value_by_kept (ExprKind-F.And items) h = conjoins_kept items h
  value_by_kept (ExprKind-F.Or items) h = disjoins_kept items h
  value_by_kept (ExprKind-F.Compare first others) h = kept_then r _ _ (parts.values f first h.0) (λ x. chain_kept [] x.0 others h.1)
  value_by_kept (ExprKind-F.Cond e test other) h = conditional_kept e test other h.0 h.1.0 h.1.1.0
