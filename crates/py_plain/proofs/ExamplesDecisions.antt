-- Derivations of the worked examples of decisions (6.10 to 6.12 and 8.1): each is a tree of the run, from rules of `Yields`.
use Rattle.py_meaning.specs.Equal.{equal}
use Rattle.py_meaning.specs.Folds.{tuple-out, key_cost-Tuple, key_cost-out, as_key-Tuple, as_key-out, same_key-Tuple, same_key-out}
use Rattle.py_meaning.specs.Less.{ordered}
use Rattle.py_meaning.specs.Worlds.{World}
use Rattle.py_meaning.specs.declared.value.Value.TheVariants as v
use Rattle.py_meaning.specs.declared.value.Value.TheVariants.{outs-None, outs-Bool, outs-Int, outs-Str, outs-Tuple, outs-Ref, outs-Class, outs-Func, outs-View, outs-ModuleRef}
use Rattle.py_plain.proofs.Yields.{Yields, leaf, as_run, gives_same, then_ok, then_err, stmt_node, expr_node, in_frame}
use Rattle.py_plain.specs.Attributes.{finds}
use Rattle.py_plain.specs.Calls.{leaves, inside, calls_function, calls_value, block}
use Rattle.py_plain.specs.Decisions.{conjunction, disjunction}
use Rattle.py_plain.specs.Examples.{node, args, func_id, began}
use Rattle.py_plain.specs.ExamplesDecisions.{chain_fails_first_n3, chain_fails_first_n4, chain_fails_first_n5, chain_fails_first_n6, chain_fails_first_n2, chain_fails_first_n7, chain_fails_first_n1, chain_fails_first_n10, chain_fails_first_n9, chain_fails_first_t1, chain_fails_first_t2, chain_fails_first_t3, chain_fails_first_t4, function_chain_fails_first_0, program_chain_fails_first, state_chain_fails_first, conditional_false_n3, conditional_false_n6, conditional_false_n7, conditional_false_n2, conditional_false_n1, conditional_false_t1, conditional_false_t2, conditional_false_t3, conditional_false_t4, function_conditional_false_0, program_conditional_false, state_conditional_false, conditional_as_test_n3, conditional_as_test_n5, conditional_as_test_n6, conditional_as_test_n4, conditional_as_test_n8, conditional_as_test_n7, conditional_as_test_n2, conditional_as_test_n10, conditional_as_test_n9, conditional_as_test_n1, conditional_as_test_t1, conditional_as_test_t2, conditional_as_test_t3, conditional_as_test_t4, function_conditional_as_test_0, program_conditional_as_test, state_conditional_as_test, and_stops_n3, and_stops_n4, and_stops_n5, and_stops_n2, and_stops_n6, and_stops_n1, and_stops_n9, and_stops_n8, and_stops_t1, and_stops_t2, and_stops_t3, and_stops_t4, and_stops_t5, and_stops_t6, function_and_stops_0, program_and_stops, state_and_stops, or_stops_n4, or_stops_n5, or_stops_n3, or_stops_n6, or_stops_n7, or_stops_n2, or_stops_n9, or_stops_n8, or_stops_n1, or_stops_t1, or_stops_t2, or_stops_t3, or_stops_t4, or_stops_t5, or_stops_t6, function_or_stops_0, program_or_stops, state_or_stops, not_of_comparison_n4, not_of_comparison_n5, not_of_comparison_n3, not_of_comparison_n2, not_of_comparison_n7, not_of_comparison_n6, not_of_comparison_n1, not_of_comparison_t1, not_of_comparison_t2, not_of_comparison_t3, not_of_comparison_t4, function_not_of_comparison_0, program_not_of_comparison, state_not_of_comparison}
use Rattle.py_plain.specs.Expressions.{plain_arguments}
use Rattle.py_plain.specs.Operators.{compares}
use Rattle.py_plain.specs.Runs.{begins, decides, ◌>>◌, tests, ◌>>=◌, pure, gives, Run, Finding}
use Rattle.py_plain.specs.Statements.{means, value_of, branches}
use Rattle.py_plain.specs.Tests.{recorder, Decided, Trail}
use Rattle.py_plain.specs.declared.judged.Judged.TheVariants as j
use Rattle.py_plain.specs.declared.run.Abrupt.TheVariants.{Returned}
use Rattle.py_plain.specs.declared.run.Callee.TheVariants as callee
use Rattle.py_plain.specs.declared.state.State.{State}
use Rattle.py_syntax.specs.declared.expr.Args.{out-roll-Args}
use Rattle.py_syntax.specs.declared.expr.Expr.{Expr}
use Rattle.py_syntax.specs.declared.expr.ExprKind.TheVariants as x
use Rattle.py_syntax.specs.declared.operator.CmpOp.TheVariants.{Lt, Gt}
use Rattle.py_syntax.specs.declared.stmt.Stmt.{Stmt}
use Rattle.py_syntax.specs.declared.stmt.StmtKind.TheVariants as y
use Rattle.py_syntax.specs.declared.stmt.Target.TheVariants as target
use Rattle.std.proofs.Common.{◌≡◌, refl, ap}
use Rattle.std.specs.Prelude.{pos, true, false, [], ◌∷◌, Some, None, Ok, Err, codes, if◌then◌else◌}

ruleset views = (tuple-out, outs-None, outs-Bool, outs-Int, outs-Str, outs-Tuple, outs-Ref, outs-Class, outs-Func, outs-View, outs-ModuleRef)

ruleset tuples = (tuple-out, outs-None, outs-Bool, outs-Int, outs-Str, outs-Tuple, outs-Ref, outs-Class, outs-Func, outs-View, outs-ModuleRef, key_cost-Tuple, key_cost-out, as_key-Tuple, as_key-out, same_key-Tuple, same_key-out)

abbrev value_chain_fails_first : Expr → Run Trail Finding
value_chain_fails_first = value_of recorder program_chain_fails_first

abbrev means_chain_fails_first : Stmt → Run Trail Finding
means_chain_fails_first = means recorder program_chain_fails_first

abbrev chain_fails_first_0_seen_1 : Trail
chain_fails_first_0_seen_1 = began 0 ∷ began 1 ∷ began 2 ∷ began 3 ∷ began 4 ∷ Decided (node 2) (j.All ((j.Ints Lt (pos 1) (pos 0)) ∷ []) 2) false ∷ began 9 ∷ began 10 ∷ []

abbrev chain_fails_first_0_seen_2 : Trail
chain_fails_first_0_seen_2 = began 0 ∷ began 1 ∷ began 2 ∷ began 3 ∷ began 4 ∷ Decided (node 2) (j.All ((j.Ints Lt (pos 1) (pos 0)) ∷ []) 2) false ∷ []

abbrev chain_fails_first_0_seen_3 : Trail
chain_fails_first_0_seen_3 = began 0 ∷ began 1 ∷ began 2 ∷ began 3 ∷ began 4 ∷ []

abbrev chain_fails_first_0_at_1 : State World Trail
chain_fails_first_0_at_1 = state_chain_fails_first (Some (func_id 0)) (((codes "a"), (v.Int (pos 0))) ∷ []) [] [] 1 289 chain_fails_first_0_seen_1

abbrev chain_fails_first_0_at_2 : State World Trail
chain_fails_first_0_at_2 = state_chain_fails_first (Some (func_id 0)) (((codes "a"), (v.Int (pos 0))) ∷ []) [] [] 1 291 chain_fails_first_0_seen_2

abbrev chain_fails_first_0_at_3 : State World Trail
chain_fails_first_0_at_3 = state_chain_fails_first (Some (func_id 0)) (((codes "a"), (v.Int (pos 0))) ∷ []) [] [] 1 291 chain_fails_first_0_seen_3

pub chain_fails_first_0 : Yields (means_chain_fails_first chain_fails_first_t4) (state_chain_fails_first None [] [] [] 0 300 []) ((Ok (v.None, (j.Plain false))), (state_chain_fails_first None (((codes "var_8"), (v.Int (pos 2))) ∷ []) [] [] 0 289 chain_fails_first_0_seen_1))
unfolding equal ordered
chain_fails_first_0 =
    stmt_node recorder program_chain_fails_first chain_fails_first_t4 299 (y.outs-Assign ((target.Name (codes "var_8")) ∷ []) false None chain_fails_first_t3) refl (then_ok (value_chain_fails_first chain_fails_first_t3) _ ((v.Int (pos 2)), (j.Plain true)) (state_chain_fails_first None [] [] [] 0 289 chain_fails_first_0_seen_1) (expr_node recorder program_chain_fails_first chain_fails_first_t3 298 (x.outs-Method chain_fails_first_t1 (codes "f") (args (chain_fails_first_t2 ∷ []) [])) refl (then_ok (value_chain_fails_first chain_fails_first_t1) _ (v.ModuleRef, (j.Plain true)) (state_chain_fails_first None [] [] [] 0 297 []) (expr_node recorder program_chain_fails_first chain_fails_first_t1 297 (x.outs-Name (codes "module_0")) refl (leaf (simp views))) (then_ok (finds program_chain_fails_first v.ModuleRef (codes "f")) _ (callee.Value (v.Func (func_id 0))) (state_chain_fails_first None [] [] [] 0 297 []) (leaf (first_of (simp views, simp tuples, search))) (as_run (plain_arguments recorder program_chain_fails_first (value_chain_fails_first) (means_chain_fails_first) (callee.Value (v.Func (func_id 0))) [] (chain_fails_first_t2 ∷ []) []) (ap (λ args. plain_arguments recorder program_chain_fails_first (value_chain_fails_first) (means_chain_fails_first) (callee.Value (v.Func (func_id 0))) [] args.plain args.named (state_chain_fails_first None [] [] [] 0 297 [])) (out-roll-Args _)) (then_ok (value_chain_fails_first chain_fails_first_t2) _ ((v.Int (pos 0)), (j.Plain false)) (state_chain_fails_first None [] [] [] 0 296 []) (expr_node recorder program_chain_fails_first chain_fails_first_t2 296 (x.outs-IntLit (pos 0)) refl (leaf (simp views))) (as_run (calls_function recorder program_chain_fails_first (means_chain_fails_first) (func_id 0) ((v.Int (pos 0)) ∷ []) []) (ap (λ level. calls_value recorder program_chain_fails_first (means_chain_fails_first) level ((v.Int (pos 0)) ∷ []) [] (state_chain_fails_first None [] [] [] 0 296 [])) (outs-Func _)) (as_run (inside recorder program_chain_fails_first (means_chain_fails_first) (func_id 0) function_chain_fails_first_0 (((codes "a"), (v.Int (pos 0))) ∷ [])) (let same : calls_function recorder program_chain_fails_first (means_chain_fails_first) (func_id 0) ((v.Int (pos 0)) ∷ []) [] (state_chain_fails_first None [] [] [] 0 296 []) ≡ inside recorder program_chain_fails_first (means_chain_fails_first) (func_id 0) function_chain_fails_first_0 (((codes "a"), (v.Int (pos 0))) ∷ []) (state_chain_fails_first None [] [] [] 0 296 []) = refl in same) (gives_same (leaves (state_chain_fails_first None [] [] [] 0 296 []).frame ((Err (Returned (v.Int (pos 2)))), chain_fails_first_0_at_1)) (in_frame recorder program_chain_fails_first (func_id 0) function_chain_fails_first_0 (((codes "a"), (v.Int (pos 0))) ∷ []) (Err (Returned (v.Int (pos 2)))) chain_fails_first_0_at_1 (then_ok (begins recorder (node 0)) _ tt (state_chain_fails_first (Some (func_id 0)) (((codes "a"), (v.Int (pos 0))) ∷ []) [] [] 1 295 (began 0 ∷ [])) (leaf refl) (then_ok (means_chain_fails_first chain_fails_first_n1) _ (v.None, (j.Plain false)) chain_fails_first_0_at_2 (stmt_node recorder program_chain_fails_first chain_fails_first_n1 294 (y.outs-If ((chain_fails_first_n2, (chain_fails_first_n7 ∷ [])) ∷ []) None) refl (then_ok (value_chain_fails_first chain_fails_first_n2) _ ((v.Bool false), (j.All ((j.Ints Lt (pos 1) (pos 0)) ∷ []) 2)) chain_fails_first_0_at_3 (expr_node recorder program_chain_fails_first chain_fails_first_n2 293 (x.outs-Compare chain_fails_first_n3 ((Lt, chain_fails_first_n4) ∷ (Lt, chain_fails_first_n5) ∷ (Lt, chain_fails_first_n6) ∷ [])) refl (then_ok (value_chain_fails_first chain_fails_first_n3) _ ((v.Int (pos 1)), (j.Plain true)) (state_chain_fails_first (Some (func_id 0)) (((codes "a"), (v.Int (pos 0))) ∷ []) [] [] 1 292 (began 0 ∷ began 1 ∷ began 2 ∷ began 3 ∷ [])) (expr_node recorder program_chain_fails_first chain_fails_first_n3 292 (x.outs-IntLit (pos 1)) refl (leaf (simp views))) (then_ok (value_chain_fails_first chain_fails_first_n4) _ ((v.Int (pos 0)), (j.Plain false)) chain_fails_first_0_at_3 (expr_node recorder program_chain_fails_first chain_fails_first_n4 291 (x.outs-Name (codes "a")) refl (leaf (simp views))) (then_ok (compares Lt (v.Int (pos 1)) (v.Int (pos 0))) _ false chain_fails_first_0_at_3 (leaf (first_of (simp views, simp tuples, search))) (leaf (first_of (simp views, simp tuples, search))))))) (then_ok (tests (v.Bool false)) (λ outcome. decides recorder (node 2) (j.All ((j.Ints Lt (pos 1) (pos 0)) ∷ []) 2) outcome >> (if outcome then (block recorder program_chain_fails_first (means_chain_fails_first) (chain_fails_first_n7 ∷ [])) else (branches recorder program_chain_fails_first (value_chain_fails_first) (means_chain_fails_first) [] None))) false chain_fails_first_0_at_3 (leaf (first_of (simp views, simp tuples, search))) (then_ok (decides recorder (node 2) (j.All ((j.Ints Lt (pos 1) (pos 0)) ∷ []) 2) false) (λ _. (branches recorder program_chain_fails_first (value_chain_fails_first) (means_chain_fails_first) [] None)) tt chain_fails_first_0_at_2 (leaf refl) (leaf refl))))) (then_err (means_chain_fails_first chain_fails_first_n9) _ (Returned (v.Int (pos 2))) chain_fails_first_0_at_1 (stmt_node recorder program_chain_fails_first chain_fails_first_n9 290 (y.outs-Return (Some chain_fails_first_n10)) refl (then_ok (value_chain_fails_first chain_fails_first_n10) _ ((v.Int (pos 2)), (j.Plain true)) chain_fails_first_0_at_1 (expr_node recorder program_chain_fails_first chain_fails_first_n10 289 (x.outs-IntLit (pos 2)) refl (leaf (simp views))) (leaf refl))))))) (simp views))))))))) (leaf refl))

abbrev value_conditional_false : Expr → Run Trail Finding
value_conditional_false = value_of recorder program_conditional_false

abbrev means_conditional_false : Stmt → Run Trail Finding
means_conditional_false = means recorder program_conditional_false

abbrev conditional_false_0_seen_1 : Trail
conditional_false_0_seen_1 = began 0 ∷ began 1 ∷ began 2 ∷ began 6 ∷ began 7 ∷ []

abbrev conditional_false_0_seen_2 : Trail
conditional_false_0_seen_2 = began 0 ∷ began 1 ∷ began 2 ∷ began 6 ∷ []

abbrev conditional_false_0_at_1 : State World Trail
conditional_false_0_at_1 = state_conditional_false (Some (func_id 0)) (((codes "a"), (v.Int (pos 0))) ∷ []) [] [] 1 291 conditional_false_0_seen_1

abbrev conditional_false_0_at_2 : State World Trail
conditional_false_0_at_2 = state_conditional_false (Some (func_id 0)) (((codes "a"), (v.Int (pos 0))) ∷ []) [] [] 1 292 conditional_false_0_seen_2

pub conditional_false_0 : Yields (means_conditional_false conditional_false_t4) (state_conditional_false None [] [] [] 0 300 []) ((Ok (v.None, (j.Plain false))), (state_conditional_false None (((codes "var_8"), (v.Str (codes "n"))) ∷ []) [] [] 0 291 conditional_false_0_seen_1))
unfolding equal ordered
conditional_false_0 =
    stmt_node recorder program_conditional_false conditional_false_t4 299 (y.outs-Assign ((target.Name (codes "var_8")) ∷ []) false None conditional_false_t3) refl (then_ok (value_conditional_false conditional_false_t3) _ ((v.Str (codes "n")), (j.Plain true)) (state_conditional_false None [] [] [] 0 291 conditional_false_0_seen_1) (expr_node recorder program_conditional_false conditional_false_t3 298 (x.outs-Method conditional_false_t1 (codes "f") (args (conditional_false_t2 ∷ []) [])) refl (then_ok (value_conditional_false conditional_false_t1) _ (v.ModuleRef, (j.Plain true)) (state_conditional_false None [] [] [] 0 297 []) (expr_node recorder program_conditional_false conditional_false_t1 297 (x.outs-Name (codes "module_0")) refl (leaf (simp views))) (then_ok (finds program_conditional_false v.ModuleRef (codes "f")) _ (callee.Value (v.Func (func_id 0))) (state_conditional_false None [] [] [] 0 297 []) (leaf (first_of (simp views, simp tuples, search))) (as_run (plain_arguments recorder program_conditional_false (value_conditional_false) (means_conditional_false) (callee.Value (v.Func (func_id 0))) [] (conditional_false_t2 ∷ []) []) (ap (λ args. plain_arguments recorder program_conditional_false (value_conditional_false) (means_conditional_false) (callee.Value (v.Func (func_id 0))) [] args.plain args.named (state_conditional_false None [] [] [] 0 297 [])) (out-roll-Args _)) (then_ok (value_conditional_false conditional_false_t2) _ ((v.Int (pos 0)), (j.Plain false)) (state_conditional_false None [] [] [] 0 296 []) (expr_node recorder program_conditional_false conditional_false_t2 296 (x.outs-IntLit (pos 0)) refl (leaf (simp views))) (as_run (calls_function recorder program_conditional_false (means_conditional_false) (func_id 0) ((v.Int (pos 0)) ∷ []) []) (ap (λ level. calls_value recorder program_conditional_false (means_conditional_false) level ((v.Int (pos 0)) ∷ []) [] (state_conditional_false None [] [] [] 0 296 [])) (outs-Func _)) (as_run (inside recorder program_conditional_false (means_conditional_false) (func_id 0) function_conditional_false_0 (((codes "a"), (v.Int (pos 0))) ∷ [])) (let same : calls_function recorder program_conditional_false (means_conditional_false) (func_id 0) ((v.Int (pos 0)) ∷ []) [] (state_conditional_false None [] [] [] 0 296 []) ≡ inside recorder program_conditional_false (means_conditional_false) (func_id 0) function_conditional_false_0 (((codes "a"), (v.Int (pos 0))) ∷ []) (state_conditional_false None [] [] [] 0 296 []) = refl in same) (gives_same (leaves (state_conditional_false None [] [] [] 0 296 []).frame ((Err (Returned (v.Str (codes "n")))), conditional_false_0_at_1)) (in_frame recorder program_conditional_false (func_id 0) function_conditional_false_0 (((codes "a"), (v.Int (pos 0))) ∷ []) (Err (Returned (v.Str (codes "n")))) conditional_false_0_at_1 (then_ok (begins recorder (node 0)) _ tt (state_conditional_false (Some (func_id 0)) (((codes "a"), (v.Int (pos 0))) ∷ []) [] [] 1 295 (began 0 ∷ [])) (leaf refl) (then_err (means_conditional_false conditional_false_n1) _ (Returned (v.Str (codes "n"))) conditional_false_0_at_1 (stmt_node recorder program_conditional_false conditional_false_n1 294 (y.outs-Return (Some conditional_false_n2)) refl (then_ok (value_conditional_false conditional_false_n2) _ ((v.Str (codes "n")), (j.Plain true)) conditional_false_0_at_1 (expr_node recorder program_conditional_false conditional_false_n2 293 (x.outs-Cond conditional_false_n3 conditional_false_n6 conditional_false_n7) refl (then_ok (value_conditional_false conditional_false_n6) _ ((v.Int (pos 0)), (j.Plain false)) conditional_false_0_at_2 (expr_node recorder program_conditional_false conditional_false_n6 292 (x.outs-Name (codes "a")) refl (leaf (simp views))) (then_ok (tests (v.Int (pos 0))) (λ holds. (if holds then value_conditional_false conditional_false_n3 else value_conditional_false conditional_false_n7) >>= (λ y. gives y.0)) false conditional_false_0_at_2 (leaf (first_of (simp views, simp tuples, search))) (then_ok (value_conditional_false conditional_false_n7) _ ((v.Str (codes "n")), (j.Plain true)) conditional_false_0_at_1 (expr_node recorder program_conditional_false conditional_false_n7 291 (x.outs-StrLit (codes "n")) refl (leaf (simp views))) (leaf (first_of (simp views, simp tuples, search))))))) (leaf refl)))))) (simp views))))))))) (leaf refl))

abbrev value_conditional_as_test : Expr → Run Trail Finding
value_conditional_as_test = value_of recorder program_conditional_as_test

abbrev means_conditional_as_test : Stmt → Run Trail Finding
means_conditional_as_test = means recorder program_conditional_as_test

abbrev conditional_as_test_0_seen_1 : Trail
conditional_as_test_0_seen_1 = began 0 ∷ began 1 ∷ began 2 ∷ began 4 ∷ began 5 ∷ began 6 ∷ began 7 ∷ began 8 ∷ Decided (node 2) (j.Plain true) true ∷ began 9 ∷ began 10 ∷ []

abbrev conditional_as_test_0_seen_2 : Trail
conditional_as_test_0_seen_2 = began 0 ∷ began 1 ∷ began 2 ∷ began 4 ∷ began 5 ∷ began 6 ∷ began 7 ∷ began 8 ∷ []

abbrev conditional_as_test_0_seen_3 : Trail
conditional_as_test_0_seen_3 = began 0 ∷ began 1 ∷ began 2 ∷ began 4 ∷ began 5 ∷ began 6 ∷ []

abbrev conditional_as_test_0_at_1 : State World Trail
conditional_as_test_0_at_1 = state_conditional_as_test (Some (func_id 0)) (((codes "a"), (v.Int (pos 0))) ∷ []) [] [] 1 286 conditional_as_test_0_seen_1

abbrev conditional_as_test_0_at_2 : State World Trail
conditional_as_test_0_at_2 = state_conditional_as_test (Some (func_id 0)) (((codes "a"), (v.Int (pos 0))) ∷ []) [] [] 1 288 conditional_as_test_0_seen_2

abbrev conditional_as_test_0_at_3 : State World Trail
conditional_as_test_0_at_3 = state_conditional_as_test (Some (func_id 0)) (((codes "a"), (v.Int (pos 0))) ∷ []) [] [] 1 290 conditional_as_test_0_seen_3

pub conditional_as_test_0 : Yields (means_conditional_as_test conditional_as_test_t4) (state_conditional_as_test None [] [] [] 0 300 []) ((Ok (v.None, (j.Plain false))), (state_conditional_as_test None (((codes "var_8"), (v.Int (pos 1))) ∷ []) [] [] 0 286 conditional_as_test_0_seen_1))
unfolding equal ordered
conditional_as_test_0 =
    stmt_node recorder program_conditional_as_test conditional_as_test_t4 299 (y.outs-Assign ((target.Name (codes "var_8")) ∷ []) false None conditional_as_test_t3) refl (then_ok (value_conditional_as_test conditional_as_test_t3) _ ((v.Int (pos 1)), (j.Plain true)) (state_conditional_as_test None [] [] [] 0 286 conditional_as_test_0_seen_1) (expr_node recorder program_conditional_as_test conditional_as_test_t3 298 (x.outs-Method conditional_as_test_t1 (codes "f") (args (conditional_as_test_t2 ∷ []) [])) refl (then_ok (value_conditional_as_test conditional_as_test_t1) _ (v.ModuleRef, (j.Plain true)) (state_conditional_as_test None [] [] [] 0 297 []) (expr_node recorder program_conditional_as_test conditional_as_test_t1 297 (x.outs-Name (codes "module_0")) refl (leaf (simp views))) (then_ok (finds program_conditional_as_test v.ModuleRef (codes "f")) _ (callee.Value (v.Func (func_id 0))) (state_conditional_as_test None [] [] [] 0 297 []) (leaf (first_of (simp views, simp tuples, search))) (as_run (plain_arguments recorder program_conditional_as_test (value_conditional_as_test) (means_conditional_as_test) (callee.Value (v.Func (func_id 0))) [] (conditional_as_test_t2 ∷ []) []) (ap (λ args. plain_arguments recorder program_conditional_as_test (value_conditional_as_test) (means_conditional_as_test) (callee.Value (v.Func (func_id 0))) [] args.plain args.named (state_conditional_as_test None [] [] [] 0 297 [])) (out-roll-Args _)) (then_ok (value_conditional_as_test conditional_as_test_t2) _ ((v.Int (pos 0)), (j.Plain false)) (state_conditional_as_test None [] [] [] 0 296 []) (expr_node recorder program_conditional_as_test conditional_as_test_t2 296 (x.outs-IntLit (pos 0)) refl (leaf (simp views))) (as_run (calls_function recorder program_conditional_as_test (means_conditional_as_test) (func_id 0) ((v.Int (pos 0)) ∷ []) []) (ap (λ level. calls_value recorder program_conditional_as_test (means_conditional_as_test) level ((v.Int (pos 0)) ∷ []) [] (state_conditional_as_test None [] [] [] 0 296 [])) (outs-Func _)) (as_run (inside recorder program_conditional_as_test (means_conditional_as_test) (func_id 0) function_conditional_as_test_0 (((codes "a"), (v.Int (pos 0))) ∷ [])) (let same : calls_function recorder program_conditional_as_test (means_conditional_as_test) (func_id 0) ((v.Int (pos 0)) ∷ []) [] (state_conditional_as_test None [] [] [] 0 296 []) ≡ inside recorder program_conditional_as_test (means_conditional_as_test) (func_id 0) function_conditional_as_test_0 (((codes "a"), (v.Int (pos 0))) ∷ []) (state_conditional_as_test None [] [] [] 0 296 []) = refl in same) (gives_same (leaves (state_conditional_as_test None [] [] [] 0 296 []).frame ((Err (Returned (v.Int (pos 1)))), conditional_as_test_0_at_1)) (in_frame recorder program_conditional_as_test (func_id 0) function_conditional_as_test_0 (((codes "a"), (v.Int (pos 0))) ∷ []) (Err (Returned (v.Int (pos 1)))) conditional_as_test_0_at_1 (then_ok (begins recorder (node 0)) _ tt (state_conditional_as_test (Some (func_id 0)) (((codes "a"), (v.Int (pos 0))) ∷ []) [] [] 1 295 (began 0 ∷ [])) (leaf refl) (then_err (means_conditional_as_test conditional_as_test_n1) _ (Returned (v.Int (pos 1))) conditional_as_test_0_at_1 (stmt_node recorder program_conditional_as_test conditional_as_test_n1 294 (y.outs-If ((conditional_as_test_n2, (conditional_as_test_n9 ∷ [])) ∷ []) None) refl (then_ok (value_conditional_as_test conditional_as_test_n2) _ ((v.Bool true), (j.Plain true)) conditional_as_test_0_at_2 (expr_node recorder program_conditional_as_test conditional_as_test_n2 293 (x.outs-Cond conditional_as_test_n3 conditional_as_test_n4 conditional_as_test_n7) refl (then_ok (value_conditional_as_test conditional_as_test_n4) _ ((v.Bool false), (j.Ints Gt (pos 0) (pos 1))) conditional_as_test_0_at_3 (expr_node recorder program_conditional_as_test conditional_as_test_n4 292 (x.outs-Compare conditional_as_test_n5 ((Gt, conditional_as_test_n6) ∷ [])) refl (then_ok (value_conditional_as_test conditional_as_test_n5) _ ((v.Int (pos 0)), (j.Plain false)) (state_conditional_as_test (Some (func_id 0)) (((codes "a"), (v.Int (pos 0))) ∷ []) [] [] 1 291 (began 0 ∷ began 1 ∷ began 2 ∷ began 4 ∷ began 5 ∷ [])) (expr_node recorder program_conditional_as_test conditional_as_test_n5 291 (x.outs-Name (codes "a")) refl (leaf (simp views))) (then_ok (value_conditional_as_test conditional_as_test_n6) _ ((v.Int (pos 1)), (j.Plain true)) conditional_as_test_0_at_3 (expr_node recorder program_conditional_as_test conditional_as_test_n6 290 (x.outs-IntLit (pos 1)) refl (leaf (simp views))) (then_ok (compares Gt (v.Int (pos 0)) (v.Int (pos 1))) _ false conditional_as_test_0_at_3 (leaf (first_of (simp views, simp tuples, search))) (leaf (first_of (simp views, simp tuples, search))))))) (then_ok (tests (v.Bool false)) (λ holds. (if holds then value_conditional_as_test conditional_as_test_n3 else value_conditional_as_test conditional_as_test_n7) >>= (λ y. gives y.0)) false conditional_as_test_0_at_3 (leaf (first_of (simp views, simp tuples, search))) (then_ok (value_conditional_as_test conditional_as_test_n7) _ ((v.Bool true), (j.Not (j.Plain false))) conditional_as_test_0_at_2 (expr_node recorder program_conditional_as_test conditional_as_test_n7 289 (x.outs-Not conditional_as_test_n8) refl (then_ok (value_conditional_as_test conditional_as_test_n8) _ ((v.Int (pos 0)), (j.Plain false)) conditional_as_test_0_at_2 (expr_node recorder program_conditional_as_test conditional_as_test_n8 288 (x.outs-Name (codes "a")) refl (leaf (simp views))) (leaf (first_of (simp views, simp tuples, search))))) (leaf (first_of (simp views, simp tuples, search))))))) (then_ok (tests (v.Bool true)) (λ outcome. decides recorder (node 2) (j.Plain true) outcome >> (if outcome then (block recorder program_conditional_as_test (means_conditional_as_test) (conditional_as_test_n9 ∷ [])) else (branches recorder program_conditional_as_test (value_conditional_as_test) (means_conditional_as_test) [] None))) true conditional_as_test_0_at_2 (leaf (first_of (simp views, simp tuples, search))) (then_ok (decides recorder (node 2) (j.Plain true) true) (λ _. (block recorder program_conditional_as_test (means_conditional_as_test) (conditional_as_test_n9 ∷ []))) tt (state_conditional_as_test (Some (func_id 0)) (((codes "a"), (v.Int (pos 0))) ∷ []) [] [] 1 288 (began 0 ∷ began 1 ∷ began 2 ∷ began 4 ∷ began 5 ∷ began 6 ∷ began 7 ∷ began 8 ∷ Decided (node 2) (j.Plain true) true ∷ [])) (leaf refl) (then_err (means_conditional_as_test conditional_as_test_n9) _ (Returned (v.Int (pos 1))) conditional_as_test_0_at_1 (stmt_node recorder program_conditional_as_test conditional_as_test_n9 287 (y.outs-Return (Some conditional_as_test_n10)) refl (then_ok (value_conditional_as_test conditional_as_test_n10) _ ((v.Int (pos 1)), (j.Plain true)) conditional_as_test_0_at_1 (expr_node recorder program_conditional_as_test conditional_as_test_n10 286 (x.outs-IntLit (pos 1)) refl (leaf (simp views))) (leaf refl))))))))))) (simp views))))))))) (leaf refl))

abbrev value_and_stops : Expr → Run Trail Finding
value_and_stops = value_of recorder program_and_stops

abbrev means_and_stops : Stmt → Run Trail Finding
means_and_stops = means recorder program_and_stops

abbrev and_stops_0_seen_1 : Trail
and_stops_0_seen_1 = began 0 ∷ began 1 ∷ began 2 ∷ began 3 ∷ began 4 ∷ Decided (node 2) (j.All ((j.Plain true) ∷ (j.Plain false) ∷ []) 1) false ∷ began 8 ∷ began 9 ∷ []

abbrev and_stops_0_seen_2 : Trail
and_stops_0_seen_2 = began 0 ∷ began 1 ∷ began 2 ∷ began 3 ∷ began 4 ∷ Decided (node 2) (j.All ((j.Plain true) ∷ (j.Plain false) ∷ []) 1) false ∷ []

abbrev and_stops_0_seen_3 : Trail
and_stops_0_seen_3 = began 0 ∷ began 1 ∷ began 2 ∷ began 3 ∷ began 4 ∷ []

abbrev and_stops_0_seen_4 : Trail
and_stops_0_seen_4 = began 0 ∷ began 1 ∷ began 2 ∷ began 3 ∷ []

abbrev and_stops_0_at_1 : State World Trail
and_stops_0_at_1 = state_and_stops (Some (func_id 0)) (((codes "a"), (v.Int (pos 1))) ∷ ((codes "b"), (v.Int (pos 0))) ∷ ((codes "c"), (v.Int (pos 5))) ∷ []) [] [] 1 287 and_stops_0_seen_1

abbrev and_stops_0_at_2 : State World Trail
and_stops_0_at_2 = state_and_stops (Some (func_id 0)) (((codes "a"), (v.Int (pos 1))) ∷ ((codes "b"), (v.Int (pos 0))) ∷ ((codes "c"), (v.Int (pos 5))) ∷ []) [] [] 1 289 and_stops_0_seen_2

abbrev and_stops_0_at_3 : State World Trail
and_stops_0_at_3 = state_and_stops (Some (func_id 0)) (((codes "a"), (v.Int (pos 1))) ∷ ((codes "b"), (v.Int (pos 0))) ∷ ((codes "c"), (v.Int (pos 5))) ∷ []) [] [] 1 289 and_stops_0_seen_3

abbrev and_stops_0_at_4 : State World Trail
and_stops_0_at_4 = state_and_stops (Some (func_id 0)) (((codes "a"), (v.Int (pos 1))) ∷ ((codes "b"), (v.Int (pos 0))) ∷ ((codes "c"), (v.Int (pos 5))) ∷ []) [] [] 1 290 and_stops_0_seen_4

pub and_stops_0 : Yields (means_and_stops and_stops_t6) (state_and_stops None [] [] [] 0 300 []) ((Ok (v.None, (j.Plain false))), (state_and_stops None (((codes "var_8"), (v.Int (pos 2))) ∷ []) [] [] 0 287 and_stops_0_seen_1))
unfolding equal ordered
and_stops_0 =
    stmt_node recorder program_and_stops and_stops_t6 299 (y.outs-Assign ((target.Name (codes "var_8")) ∷ []) false None and_stops_t5) refl (then_ok (value_and_stops and_stops_t5) _ ((v.Int (pos 2)), (j.Plain true)) (state_and_stops None [] [] [] 0 287 and_stops_0_seen_1) (expr_node recorder program_and_stops and_stops_t5 298 (x.outs-Method and_stops_t1 (codes "f") (args (and_stops_t2 ∷ and_stops_t3 ∷ and_stops_t4 ∷ []) [])) refl (then_ok (value_and_stops and_stops_t1) _ (v.ModuleRef, (j.Plain true)) (state_and_stops None [] [] [] 0 297 []) (expr_node recorder program_and_stops and_stops_t1 297 (x.outs-Name (codes "module_0")) refl (leaf (simp views))) (then_ok (finds program_and_stops v.ModuleRef (codes "f")) _ (callee.Value (v.Func (func_id 0))) (state_and_stops None [] [] [] 0 297 []) (leaf (first_of (simp views, simp tuples, search))) (as_run (plain_arguments recorder program_and_stops (value_and_stops) (means_and_stops) (callee.Value (v.Func (func_id 0))) [] (and_stops_t2 ∷ and_stops_t3 ∷ and_stops_t4 ∷ []) []) (ap (λ args. plain_arguments recorder program_and_stops (value_and_stops) (means_and_stops) (callee.Value (v.Func (func_id 0))) [] args.plain args.named (state_and_stops None [] [] [] 0 297 [])) (out-roll-Args _)) (then_ok (value_and_stops and_stops_t2) _ ((v.Int (pos 1)), (j.Plain true)) (state_and_stops None [] [] [] 0 296 []) (expr_node recorder program_and_stops and_stops_t2 296 (x.outs-IntLit (pos 1)) refl (leaf (simp views))) (then_ok (value_and_stops and_stops_t3) _ ((v.Int (pos 0)), (j.Plain false)) (state_and_stops None [] [] [] 0 295 []) (expr_node recorder program_and_stops and_stops_t3 295 (x.outs-IntLit (pos 0)) refl (leaf (simp views))) (then_ok (value_and_stops and_stops_t4) _ ((v.Int (pos 5)), (j.Plain true)) (state_and_stops None [] [] [] 0 294 []) (expr_node recorder program_and_stops and_stops_t4 294 (x.outs-IntLit (pos 5)) refl (leaf (simp views))) (as_run (calls_function recorder program_and_stops (means_and_stops) (func_id 0) ((v.Int (pos 1)) ∷ (v.Int (pos 0)) ∷ (v.Int (pos 5)) ∷ []) []) (ap (λ level. calls_value recorder program_and_stops (means_and_stops) level ((v.Int (pos 1)) ∷ (v.Int (pos 0)) ∷ (v.Int (pos 5)) ∷ []) [] (state_and_stops None [] [] [] 0 294 [])) (outs-Func _)) (as_run (inside recorder program_and_stops (means_and_stops) (func_id 0) function_and_stops_0 (((codes "a"), (v.Int (pos 1))) ∷ ((codes "b"), (v.Int (pos 0))) ∷ ((codes "c"), (v.Int (pos 5))) ∷ [])) (let same : calls_function recorder program_and_stops (means_and_stops) (func_id 0) ((v.Int (pos 1)) ∷ (v.Int (pos 0)) ∷ (v.Int (pos 5)) ∷ []) [] (state_and_stops None [] [] [] 0 294 []) ≡ inside recorder program_and_stops (means_and_stops) (func_id 0) function_and_stops_0 (((codes "a"), (v.Int (pos 1))) ∷ ((codes "b"), (v.Int (pos 0))) ∷ ((codes "c"), (v.Int (pos 5))) ∷ []) (state_and_stops None [] [] [] 0 294 []) = refl in same) (gives_same (leaves (state_and_stops None [] [] [] 0 294 []).frame ((Err (Returned (v.Int (pos 2)))), and_stops_0_at_1)) (in_frame recorder program_and_stops (func_id 0) function_and_stops_0 (((codes "a"), (v.Int (pos 1))) ∷ ((codes "b"), (v.Int (pos 0))) ∷ ((codes "c"), (v.Int (pos 5))) ∷ []) (Err (Returned (v.Int (pos 2)))) and_stops_0_at_1 (then_ok (begins recorder (node 0)) _ tt (state_and_stops (Some (func_id 0)) (((codes "a"), (v.Int (pos 1))) ∷ ((codes "b"), (v.Int (pos 0))) ∷ ((codes "c"), (v.Int (pos 5))) ∷ []) [] [] 1 293 (began 0 ∷ [])) (leaf refl) (then_ok (means_and_stops and_stops_n1) _ (v.None, (j.Plain false)) and_stops_0_at_2 (stmt_node recorder program_and_stops and_stops_n1 292 (y.outs-If ((and_stops_n2, (and_stops_n6 ∷ [])) ∷ []) None) refl (then_ok (value_and_stops and_stops_n2) _ ((v.Int (pos 0)), (j.All ((j.Plain true) ∷ (j.Plain false) ∷ []) 1)) and_stops_0_at_3 (expr_node recorder program_and_stops and_stops_n2 291 (x.outs-And (and_stops_n3 ∷ and_stops_n4 ∷ and_stops_n5 ∷ [])) refl (then_ok (value_and_stops and_stops_n3) _ ((v.Int (pos 1)), (j.Plain true)) and_stops_0_at_4 (expr_node recorder program_and_stops and_stops_n3 290 (x.outs-Name (codes "a")) refl (leaf (simp views))) (then_ok (tests (v.Int (pos 1))) (λ holds. if holds then (value_and_stops and_stops_n4 >>= (λ y. conjunction (value_and_stops) ((j.Plain true) ∷ []) y (and_stops_n5 ∷ []))) else (pure ((v.Int (pos 1)), j.All ((j.Plain true) ∷ []) 2))) true and_stops_0_at_4 (leaf (first_of (simp views, simp tuples, search))) (then_ok (value_and_stops and_stops_n4) _ ((v.Int (pos 0)), (j.Plain false)) and_stops_0_at_3 (expr_node recorder program_and_stops and_stops_n4 289 (x.outs-Name (codes "b")) refl (leaf (simp views))) (then_ok (tests (v.Int (pos 0))) (λ holds. if holds then (value_and_stops and_stops_n5 >>= (λ y. conjunction (value_and_stops) ((j.Plain true) ∷ (j.Plain false) ∷ []) y [])) else (pure ((v.Int (pos 0)), j.All ((j.Plain true) ∷ (j.Plain false) ∷ []) 1))) false and_stops_0_at_3 (leaf (first_of (simp views, simp tuples, search))) (leaf refl)))))) (then_ok (tests (v.Int (pos 0))) (λ outcome. decides recorder (node 2) (j.All ((j.Plain true) ∷ (j.Plain false) ∷ []) 1) outcome >> (if outcome then (block recorder program_and_stops (means_and_stops) (and_stops_n6 ∷ [])) else (branches recorder program_and_stops (value_and_stops) (means_and_stops) [] None))) false and_stops_0_at_3 (leaf (first_of (simp views, simp tuples, search))) (then_ok (decides recorder (node 2) (j.All ((j.Plain true) ∷ (j.Plain false) ∷ []) 1) false) (λ _. (branches recorder program_and_stops (value_and_stops) (means_and_stops) [] None)) tt and_stops_0_at_2 (leaf refl) (leaf refl))))) (then_err (means_and_stops and_stops_n8) _ (Returned (v.Int (pos 2))) and_stops_0_at_1 (stmt_node recorder program_and_stops and_stops_n8 288 (y.outs-Return (Some and_stops_n9)) refl (then_ok (value_and_stops and_stops_n9) _ ((v.Int (pos 2)), (j.Plain true)) and_stops_0_at_1 (expr_node recorder program_and_stops and_stops_n9 287 (x.outs-IntLit (pos 2)) refl (leaf (simp views))) (leaf refl))))))) (simp views))))))))))) (leaf refl))

abbrev value_or_stops : Expr → Run Trail Finding
value_or_stops = value_of recorder program_or_stops

abbrev means_or_stops : Stmt → Run Trail Finding
means_or_stops = means recorder program_or_stops

abbrev or_stops_0_seen_1 : Trail
or_stops_0_seen_1 = began 0 ∷ began 1 ∷ began 2 ∷ began 3 ∷ began 4 ∷ began 5 ∷ began 6 ∷ Decided (node 2) (j.Any ((j.Ints Gt (pos 1) (pos 3)) ∷ (j.Plain true) ∷ []) 1) true ∷ began 8 ∷ began 9 ∷ []

abbrev or_stops_0_seen_2 : Trail
or_stops_0_seen_2 = began 0 ∷ began 1 ∷ began 2 ∷ began 3 ∷ began 4 ∷ began 5 ∷ began 6 ∷ []

abbrev or_stops_0_seen_3 : Trail
or_stops_0_seen_3 = began 0 ∷ began 1 ∷ began 2 ∷ began 3 ∷ began 4 ∷ began 5 ∷ []

abbrev or_stops_0_at_1 : State World Trail
or_stops_0_at_1 = state_or_stops (Some (func_id 0)) (((codes "a"), (v.Int (pos 1))) ∷ ((codes "b"), (v.Int (pos 7))) ∷ ((codes "c"), (v.Int (pos 5))) ∷ []) [] [] 1 285 or_stops_0_seen_1

abbrev or_stops_0_at_2 : State World Trail
or_stops_0_at_2 = state_or_stops (Some (func_id 0)) (((codes "a"), (v.Int (pos 1))) ∷ ((codes "b"), (v.Int (pos 7))) ∷ ((codes "c"), (v.Int (pos 5))) ∷ []) [] [] 1 287 or_stops_0_seen_2

abbrev or_stops_0_at_3 : State World Trail
or_stops_0_at_3 = state_or_stops (Some (func_id 0)) (((codes "a"), (v.Int (pos 1))) ∷ ((codes "b"), (v.Int (pos 7))) ∷ ((codes "c"), (v.Int (pos 5))) ∷ []) [] [] 1 288 or_stops_0_seen_3

pub or_stops_0 : Yields (means_or_stops or_stops_t6) (state_or_stops None [] [] [] 0 300 []) ((Ok (v.None, (j.Plain false))), (state_or_stops None (((codes "var_8"), (v.Int (pos 1))) ∷ []) [] [] 0 285 or_stops_0_seen_1))
unfolding equal ordered
or_stops_0 =
    stmt_node recorder program_or_stops or_stops_t6 299 (y.outs-Assign ((target.Name (codes "var_8")) ∷ []) false None or_stops_t5) refl (then_ok (value_or_stops or_stops_t5) _ ((v.Int (pos 1)), (j.Plain true)) (state_or_stops None [] [] [] 0 285 or_stops_0_seen_1) (expr_node recorder program_or_stops or_stops_t5 298 (x.outs-Method or_stops_t1 (codes "f") (args (or_stops_t2 ∷ or_stops_t3 ∷ or_stops_t4 ∷ []) [])) refl (then_ok (value_or_stops or_stops_t1) _ (v.ModuleRef, (j.Plain true)) (state_or_stops None [] [] [] 0 297 []) (expr_node recorder program_or_stops or_stops_t1 297 (x.outs-Name (codes "module_0")) refl (leaf (simp views))) (then_ok (finds program_or_stops v.ModuleRef (codes "f")) _ (callee.Value (v.Func (func_id 0))) (state_or_stops None [] [] [] 0 297 []) (leaf (first_of (simp views, simp tuples, search))) (as_run (plain_arguments recorder program_or_stops (value_or_stops) (means_or_stops) (callee.Value (v.Func (func_id 0))) [] (or_stops_t2 ∷ or_stops_t3 ∷ or_stops_t4 ∷ []) []) (ap (λ args. plain_arguments recorder program_or_stops (value_or_stops) (means_or_stops) (callee.Value (v.Func (func_id 0))) [] args.plain args.named (state_or_stops None [] [] [] 0 297 [])) (out-roll-Args _)) (then_ok (value_or_stops or_stops_t2) _ ((v.Int (pos 1)), (j.Plain true)) (state_or_stops None [] [] [] 0 296 []) (expr_node recorder program_or_stops or_stops_t2 296 (x.outs-IntLit (pos 1)) refl (leaf (simp views))) (then_ok (value_or_stops or_stops_t3) _ ((v.Int (pos 7)), (j.Plain true)) (state_or_stops None [] [] [] 0 295 []) (expr_node recorder program_or_stops or_stops_t3 295 (x.outs-IntLit (pos 7)) refl (leaf (simp views))) (then_ok (value_or_stops or_stops_t4) _ ((v.Int (pos 5)), (j.Plain true)) (state_or_stops None [] [] [] 0 294 []) (expr_node recorder program_or_stops or_stops_t4 294 (x.outs-IntLit (pos 5)) refl (leaf (simp views))) (as_run (calls_function recorder program_or_stops (means_or_stops) (func_id 0) ((v.Int (pos 1)) ∷ (v.Int (pos 7)) ∷ (v.Int (pos 5)) ∷ []) []) (ap (λ level. calls_value recorder program_or_stops (means_or_stops) level ((v.Int (pos 1)) ∷ (v.Int (pos 7)) ∷ (v.Int (pos 5)) ∷ []) [] (state_or_stops None [] [] [] 0 294 [])) (outs-Func _)) (as_run (inside recorder program_or_stops (means_or_stops) (func_id 0) function_or_stops_0 (((codes "a"), (v.Int (pos 1))) ∷ ((codes "b"), (v.Int (pos 7))) ∷ ((codes "c"), (v.Int (pos 5))) ∷ [])) (let same : calls_function recorder program_or_stops (means_or_stops) (func_id 0) ((v.Int (pos 1)) ∷ (v.Int (pos 7)) ∷ (v.Int (pos 5)) ∷ []) [] (state_or_stops None [] [] [] 0 294 []) ≡ inside recorder program_or_stops (means_or_stops) (func_id 0) function_or_stops_0 (((codes "a"), (v.Int (pos 1))) ∷ ((codes "b"), (v.Int (pos 7))) ∷ ((codes "c"), (v.Int (pos 5))) ∷ []) (state_or_stops None [] [] [] 0 294 []) = refl in same) (gives_same (leaves (state_or_stops None [] [] [] 0 294 []).frame ((Err (Returned (v.Int (pos 1)))), or_stops_0_at_1)) (in_frame recorder program_or_stops (func_id 0) function_or_stops_0 (((codes "a"), (v.Int (pos 1))) ∷ ((codes "b"), (v.Int (pos 7))) ∷ ((codes "c"), (v.Int (pos 5))) ∷ []) (Err (Returned (v.Int (pos 1)))) or_stops_0_at_1 (then_ok (begins recorder (node 0)) _ tt (state_or_stops (Some (func_id 0)) (((codes "a"), (v.Int (pos 1))) ∷ ((codes "b"), (v.Int (pos 7))) ∷ ((codes "c"), (v.Int (pos 5))) ∷ []) [] [] 1 293 (began 0 ∷ [])) (leaf refl) (then_err (means_or_stops or_stops_n1) _ (Returned (v.Int (pos 1))) or_stops_0_at_1 (stmt_node recorder program_or_stops or_stops_n1 292 (y.outs-If ((or_stops_n2, (or_stops_n8 ∷ [])) ∷ []) None) refl (then_ok (value_or_stops or_stops_n2) _ ((v.Int (pos 7)), (j.Any ((j.Ints Gt (pos 1) (pos 3)) ∷ (j.Plain true) ∷ []) 1)) or_stops_0_at_2 (expr_node recorder program_or_stops or_stops_n2 291 (x.outs-Or (or_stops_n3 ∷ or_stops_n6 ∷ or_stops_n7 ∷ [])) refl (then_ok (value_or_stops or_stops_n3) _ ((v.Bool false), (j.Ints Gt (pos 1) (pos 3))) or_stops_0_at_3 (expr_node recorder program_or_stops or_stops_n3 290 (x.outs-Compare or_stops_n4 ((Gt, or_stops_n5) ∷ [])) refl (then_ok (value_or_stops or_stops_n4) _ ((v.Int (pos 1)), (j.Plain true)) (state_or_stops (Some (func_id 0)) (((codes "a"), (v.Int (pos 1))) ∷ ((codes "b"), (v.Int (pos 7))) ∷ ((codes "c"), (v.Int (pos 5))) ∷ []) [] [] 1 289 (began 0 ∷ began 1 ∷ began 2 ∷ began 3 ∷ began 4 ∷ [])) (expr_node recorder program_or_stops or_stops_n4 289 (x.outs-Name (codes "a")) refl (leaf (simp views))) (then_ok (value_or_stops or_stops_n5) _ ((v.Int (pos 3)), (j.Plain true)) or_stops_0_at_3 (expr_node recorder program_or_stops or_stops_n5 288 (x.outs-IntLit (pos 3)) refl (leaf (simp views))) (then_ok (compares Gt (v.Int (pos 1)) (v.Int (pos 3))) _ false or_stops_0_at_3 (leaf (first_of (simp views, simp tuples, search))) (leaf (first_of (simp views, simp tuples, search))))))) (then_ok (tests (v.Bool false)) (λ holds. if holds then (pure ((v.Bool false), j.Any ((j.Ints Gt (pos 1) (pos 3)) ∷ []) 2)) else (value_or_stops or_stops_n6 >>= (λ y. disjunction (value_or_stops) ((j.Ints Gt (pos 1) (pos 3)) ∷ []) y (or_stops_n7 ∷ [])))) false or_stops_0_at_3 (leaf (first_of (simp views, simp tuples, search))) (then_ok (value_or_stops or_stops_n6) _ ((v.Int (pos 7)), (j.Plain true)) or_stops_0_at_2 (expr_node recorder program_or_stops or_stops_n6 287 (x.outs-Name (codes "b")) refl (leaf (simp views))) (then_ok (tests (v.Int (pos 7))) (λ holds. if holds then (pure ((v.Int (pos 7)), j.Any ((j.Ints Gt (pos 1) (pos 3)) ∷ (j.Plain true) ∷ []) 1)) else (value_or_stops or_stops_n7 >>= (λ y. disjunction (value_or_stops) ((j.Ints Gt (pos 1) (pos 3)) ∷ (j.Plain true) ∷ []) y []))) true or_stops_0_at_2 (leaf (first_of (simp views, simp tuples, search))) (leaf refl)))))) (then_ok (tests (v.Int (pos 7))) (λ outcome. decides recorder (node 2) (j.Any ((j.Ints Gt (pos 1) (pos 3)) ∷ (j.Plain true) ∷ []) 1) outcome >> (if outcome then (block recorder program_or_stops (means_or_stops) (or_stops_n8 ∷ [])) else (branches recorder program_or_stops (value_or_stops) (means_or_stops) [] None))) true or_stops_0_at_2 (leaf (first_of (simp views, simp tuples, search))) (then_ok (decides recorder (node 2) (j.Any ((j.Ints Gt (pos 1) (pos 3)) ∷ (j.Plain true) ∷ []) 1) true) (λ _. (block recorder program_or_stops (means_or_stops) (or_stops_n8 ∷ []))) tt (state_or_stops (Some (func_id 0)) (((codes "a"), (v.Int (pos 1))) ∷ ((codes "b"), (v.Int (pos 7))) ∷ ((codes "c"), (v.Int (pos 5))) ∷ []) [] [] 1 287 (began 0 ∷ began 1 ∷ began 2 ∷ began 3 ∷ began 4 ∷ began 5 ∷ began 6 ∷ Decided (node 2) (j.Any ((j.Ints Gt (pos 1) (pos 3)) ∷ (j.Plain true) ∷ []) 1) true ∷ [])) (leaf refl) (then_err (means_or_stops or_stops_n8) _ (Returned (v.Int (pos 1))) or_stops_0_at_1 (stmt_node recorder program_or_stops or_stops_n8 286 (y.outs-Return (Some or_stops_n9)) refl (then_ok (value_or_stops or_stops_n9) _ ((v.Int (pos 1)), (j.Plain true)) or_stops_0_at_1 (expr_node recorder program_or_stops or_stops_n9 285 (x.outs-IntLit (pos 1)) refl (leaf (simp views))) (leaf refl))))))))))) (simp views))))))))))) (leaf refl))

abbrev value_not_of_comparison : Expr → Run Trail Finding
value_not_of_comparison = value_of recorder program_not_of_comparison

abbrev means_not_of_comparison : Stmt → Run Trail Finding
means_not_of_comparison = means recorder program_not_of_comparison

abbrev not_of_comparison_0_seen_1 : Trail
not_of_comparison_0_seen_1 = began 0 ∷ began 1 ∷ began 2 ∷ began 3 ∷ began 4 ∷ began 5 ∷ Decided (node 2) (j.Not (j.Ints Lt (pos 5) (pos 3))) true ∷ began 6 ∷ began 7 ∷ []

abbrev not_of_comparison_0_seen_2 : Trail
not_of_comparison_0_seen_2 = began 0 ∷ began 1 ∷ began 2 ∷ began 3 ∷ began 4 ∷ began 5 ∷ []

abbrev not_of_comparison_0_at_1 : State World Trail
not_of_comparison_0_at_1 = state_not_of_comparison (Some (func_id 0)) (((codes "a"), (v.Int (pos 5))) ∷ []) [] [] 1 288 not_of_comparison_0_seen_1

abbrev not_of_comparison_0_at_2 : State World Trail
not_of_comparison_0_at_2 = state_not_of_comparison (Some (func_id 0)) (((codes "a"), (v.Int (pos 5))) ∷ []) [] [] 1 290 not_of_comparison_0_seen_2

pub not_of_comparison_0 : Yields (means_not_of_comparison not_of_comparison_t4) (state_not_of_comparison None [] [] [] 0 300 []) ((Ok (v.None, (j.Plain false))), (state_not_of_comparison None (((codes "var_8"), (v.Int (pos 1))) ∷ []) [] [] 0 288 not_of_comparison_0_seen_1))
unfolding equal ordered
not_of_comparison_0 =
    stmt_node recorder program_not_of_comparison not_of_comparison_t4 299 (y.outs-Assign ((target.Name (codes "var_8")) ∷ []) false None not_of_comparison_t3) refl (then_ok (value_not_of_comparison not_of_comparison_t3) _ ((v.Int (pos 1)), (j.Plain true)) (state_not_of_comparison None [] [] [] 0 288 not_of_comparison_0_seen_1) (expr_node recorder program_not_of_comparison not_of_comparison_t3 298 (x.outs-Method not_of_comparison_t1 (codes "f") (args (not_of_comparison_t2 ∷ []) [])) refl (then_ok (value_not_of_comparison not_of_comparison_t1) _ (v.ModuleRef, (j.Plain true)) (state_not_of_comparison None [] [] [] 0 297 []) (expr_node recorder program_not_of_comparison not_of_comparison_t1 297 (x.outs-Name (codes "module_0")) refl (leaf (simp views))) (then_ok (finds program_not_of_comparison v.ModuleRef (codes "f")) _ (callee.Value (v.Func (func_id 0))) (state_not_of_comparison None [] [] [] 0 297 []) (leaf (first_of (simp views, simp tuples, search))) (as_run (plain_arguments recorder program_not_of_comparison (value_not_of_comparison) (means_not_of_comparison) (callee.Value (v.Func (func_id 0))) [] (not_of_comparison_t2 ∷ []) []) (ap (λ args. plain_arguments recorder program_not_of_comparison (value_not_of_comparison) (means_not_of_comparison) (callee.Value (v.Func (func_id 0))) [] args.plain args.named (state_not_of_comparison None [] [] [] 0 297 [])) (out-roll-Args _)) (then_ok (value_not_of_comparison not_of_comparison_t2) _ ((v.Int (pos 5)), (j.Plain true)) (state_not_of_comparison None [] [] [] 0 296 []) (expr_node recorder program_not_of_comparison not_of_comparison_t2 296 (x.outs-IntLit (pos 5)) refl (leaf (simp views))) (as_run (calls_function recorder program_not_of_comparison (means_not_of_comparison) (func_id 0) ((v.Int (pos 5)) ∷ []) []) (ap (λ level. calls_value recorder program_not_of_comparison (means_not_of_comparison) level ((v.Int (pos 5)) ∷ []) [] (state_not_of_comparison None [] [] [] 0 296 [])) (outs-Func _)) (as_run (inside recorder program_not_of_comparison (means_not_of_comparison) (func_id 0) function_not_of_comparison_0 (((codes "a"), (v.Int (pos 5))) ∷ [])) (let same : calls_function recorder program_not_of_comparison (means_not_of_comparison) (func_id 0) ((v.Int (pos 5)) ∷ []) [] (state_not_of_comparison None [] [] [] 0 296 []) ≡ inside recorder program_not_of_comparison (means_not_of_comparison) (func_id 0) function_not_of_comparison_0 (((codes "a"), (v.Int (pos 5))) ∷ []) (state_not_of_comparison None [] [] [] 0 296 []) = refl in same) (gives_same (leaves (state_not_of_comparison None [] [] [] 0 296 []).frame ((Err (Returned (v.Int (pos 1)))), not_of_comparison_0_at_1)) (in_frame recorder program_not_of_comparison (func_id 0) function_not_of_comparison_0 (((codes "a"), (v.Int (pos 5))) ∷ []) (Err (Returned (v.Int (pos 1)))) not_of_comparison_0_at_1 (then_ok (begins recorder (node 0)) _ tt (state_not_of_comparison (Some (func_id 0)) (((codes "a"), (v.Int (pos 5))) ∷ []) [] [] 1 295 (began 0 ∷ [])) (leaf refl) (then_err (means_not_of_comparison not_of_comparison_n1) _ (Returned (v.Int (pos 1))) not_of_comparison_0_at_1 (stmt_node recorder program_not_of_comparison not_of_comparison_n1 294 (y.outs-If ((not_of_comparison_n2, (not_of_comparison_n6 ∷ [])) ∷ []) None) refl (then_ok (value_not_of_comparison not_of_comparison_n2) _ ((v.Bool true), (j.Not (j.Ints Lt (pos 5) (pos 3)))) not_of_comparison_0_at_2 (expr_node recorder program_not_of_comparison not_of_comparison_n2 293 (x.outs-Not not_of_comparison_n3) refl (then_ok (value_not_of_comparison not_of_comparison_n3) _ ((v.Bool false), (j.Ints Lt (pos 5) (pos 3))) not_of_comparison_0_at_2 (expr_node recorder program_not_of_comparison not_of_comparison_n3 292 (x.outs-Compare not_of_comparison_n4 ((Lt, not_of_comparison_n5) ∷ [])) refl (then_ok (value_not_of_comparison not_of_comparison_n4) _ ((v.Int (pos 5)), (j.Plain true)) (state_not_of_comparison (Some (func_id 0)) (((codes "a"), (v.Int (pos 5))) ∷ []) [] [] 1 291 (began 0 ∷ began 1 ∷ began 2 ∷ began 3 ∷ began 4 ∷ [])) (expr_node recorder program_not_of_comparison not_of_comparison_n4 291 (x.outs-Name (codes "a")) refl (leaf (simp views))) (then_ok (value_not_of_comparison not_of_comparison_n5) _ ((v.Int (pos 3)), (j.Plain true)) not_of_comparison_0_at_2 (expr_node recorder program_not_of_comparison not_of_comparison_n5 290 (x.outs-IntLit (pos 3)) refl (leaf (simp views))) (then_ok (compares Lt (v.Int (pos 5)) (v.Int (pos 3))) _ false not_of_comparison_0_at_2 (leaf (first_of (simp views, simp tuples, search))) (leaf (first_of (simp views, simp tuples, search))))))) (leaf (first_of (simp views, simp tuples, search))))) (then_ok (tests (v.Bool true)) (λ outcome. decides recorder (node 2) (j.Not (j.Ints Lt (pos 5) (pos 3))) outcome >> (if outcome then (block recorder program_not_of_comparison (means_not_of_comparison) (not_of_comparison_n6 ∷ [])) else (branches recorder program_not_of_comparison (value_not_of_comparison) (means_not_of_comparison) [] None))) true not_of_comparison_0_at_2 (leaf (first_of (simp views, simp tuples, search))) (then_ok (decides recorder (node 2) (j.Not (j.Ints Lt (pos 5) (pos 3))) true) (λ _. (block recorder program_not_of_comparison (means_not_of_comparison) (not_of_comparison_n6 ∷ []))) tt (state_not_of_comparison (Some (func_id 0)) (((codes "a"), (v.Int (pos 5))) ∷ []) [] [] 1 290 (began 0 ∷ began 1 ∷ began 2 ∷ began 3 ∷ began 4 ∷ began 5 ∷ Decided (node 2) (j.Not (j.Ints Lt (pos 5) (pos 3))) true ∷ [])) (leaf refl) (then_err (means_not_of_comparison not_of_comparison_n6) _ (Returned (v.Int (pos 1))) not_of_comparison_0_at_1 (stmt_node recorder program_not_of_comparison not_of_comparison_n6 289 (y.outs-Return (Some not_of_comparison_n7)) refl (then_ok (value_not_of_comparison not_of_comparison_n7) _ ((v.Int (pos 1)), (j.Plain true)) not_of_comparison_0_at_1 (expr_node recorder program_not_of_comparison not_of_comparison_n7 288 (x.outs-IntLit (pos 1)) refl (leaf (simp views))) (leaf refl))))))))))) (simp views))))))))) (leaf refl))
