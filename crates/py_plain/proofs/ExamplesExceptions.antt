-- Derivations of the worked examples of exceptions (8.4): each is a tree of the run, from rules of `Yields`.
use Rattle.py_meaning.specs.Equal.{equal}
use Rattle.py_meaning.specs.Examples.{id, ref}
use Rattle.py_meaning.specs.Folds.{tuple-out, key_cost-Tuple, key_cost-out, as_key-Tuple, as_key-out, same_key-Tuple, same_key-out}
use Rattle.py_meaning.specs.Less.{ordered}
use Rattle.py_meaning.specs.Tuples.{tuple, measured}
use Rattle.py_meaning.specs.Walk.{gives_new_tuples}
use Rattle.py_meaning.specs.Worlds.{object_at, World}
use Rattle.py_meaning.specs.declared.object.Object.TheVariants as object
use Rattle.py_meaning.specs.declared.value.Value.TheVariants as v
use Rattle.py_meaning.specs.declared.value.Value.TheVariants.{outs-None, outs-Bool, outs-Int, outs-Str, outs-Tuple, outs-Ref, outs-Class, outs-Func, outs-View, outs-ModuleRef}
use Rattle.py_meaning.specs.declared.value.Value.{out-Value}
use Rattle.py_plain.proofs.LoopLaws.{for_walk-out, takes_element}
use Rattle.py_plain.proofs.Yields.{Yields, leaf, as_run, gives_same, then_ok, then_err, stmt_node, expr_node, in_frame, then_after}
use Rattle.py_plain.specs.Assignments.{binds_names}
use Rattle.py_plain.specs.Attributes.{finds}
use Rattle.py_plain.specs.Calls.{leaves, inside, calls_function, calls_value, calls_class, block}
use Rattle.py_plain.specs.Classes.{class_of_object}
use Rattle.py_plain.specs.Decisions.{conjunction}
use Rattle.py_plain.specs.Examples.{node, args, func_id, clause, walk_at, began}
use Rattle.py_plain.specs.ExamplesExceptions.{caught_n4, caught_n5, caught_n3, caught_n2, caught_n8, caught_n7, caught_n1, caught_t1, caught_t2, caught_t3, function_caught_0, program_caught, state_caught, bare_clause_n4, bare_clause_n5, bare_clause_n3, bare_clause_n2, bare_clause_n7, bare_clause_n11, bare_clause_n10, bare_clause_n1, bare_clause_t1, bare_clause_t2, bare_clause_t3, function_bare_clause_0, program_bare_clause, state_bare_clause, finally_replaces_return_n3, finally_replaces_return_n2, finally_replaces_return_n5, finally_replaces_return_n4, finally_replaces_return_n1, finally_replaces_return_t1, finally_replaces_return_t2, finally_replaces_return_t3, function_finally_replaces_return_0, program_finally_replaces_return, state_finally_replaces_return, finally_breaks_n3, finally_breaks_n4, finally_breaks_n2, finally_breaks_n7, finally_breaks_n6, finally_breaks_n8, finally_breaks_n5, finally_breaks_n1, finally_breaks_n10, finally_breaks_n9, finally_breaks_t1, finally_breaks_t2, finally_breaks_t3, function_finally_breaks_0, program_finally_breaks, state_finally_breaks, continue_through_finally_n2, continue_through_finally_n1, continue_through_finally_n5, continue_through_finally_n6, continue_through_finally_n4, continue_through_finally_n8, continue_through_finally_n11, continue_through_finally_n12, continue_through_finally_n10, continue_through_finally_n9, continue_through_finally_n7, continue_through_finally_n3, continue_through_finally_n14, continue_through_finally_n13, continue_through_finally_t1, continue_through_finally_t2, continue_through_finally_t3, function_continue_through_finally_0, program_continue_through_finally, state_continue_through_finally, name_unbound_after_n4, name_unbound_after_n5, name_unbound_after_n3, name_unbound_after_n2, name_unbound_after_n8, name_unbound_after_n7, name_unbound_after_n1, name_unbound_after_n10, name_unbound_after_n9, name_unbound_after_t1, name_unbound_after_t2, name_unbound_after_t3, function_name_unbound_after_0, program_name_unbound_after, state_name_unbound_after, assert_fails_n4, assert_fails_n5, assert_fails_n3, assert_fails_n6, assert_fails_n2, assert_fails_n1, assert_fails_t1, assert_fails_t2, assert_fails_t3, assert_fails_t4, function_assert_fails_0, program_assert_fails, state_assert_fails, raise_no_exception_n2, raise_no_exception_n1, raise_no_exception_t1, raise_no_exception_t2, raise_no_exception_t3, function_raise_no_exception_0, program_raise_no_exception, state_raise_no_exception, reraise_innermost_n4, reraise_innermost_n5, reraise_innermost_n3, reraise_innermost_n2, reraise_innermost_n10, reraise_innermost_n11, reraise_innermost_n9, reraise_innermost_n8, reraise_innermost_n13, reraise_innermost_n7, reraise_innermost_n14, reraise_innermost_n1, reraise_innermost_t1, reraise_innermost_t2, reraise_innermost_t3, function_reraise_innermost_0, program_reraise_innermost, state_reraise_innermost, exception_attribute_n4, exception_attribute_n5, exception_attribute_n3, exception_attribute_n2, exception_attribute_n1, exception_attribute_t1, exception_attribute_t2, exception_attribute_t3, function_exception_attribute_0, program_exception_attribute, state_exception_attribute, no_finally_when_left_n2, no_finally_when_left_n1, no_finally_when_left_n6, no_finally_when_left_n7, no_finally_when_left_n5, no_finally_when_left_n4, no_finally_when_left_n8, no_finally_when_left_n3, no_finally_when_left_t1, no_finally_when_left_t2, no_finally_when_left_t3, function_no_finally_when_left_0, program_no_finally_when_left, state_no_finally_when_left}
use Rattle.py_plain.specs.Exceptions.{after_body, finally, tries_clauses, handles, binds_as, enters_clause, after_clause, fails_with, kept}
use Rattle.py_plain.specs.Expressions.{plain_arguments, calls_meant, calls_expr}
use Rattle.py_plain.specs.Loops.{after_turn, for_walk, for_turn, for_element, element_at, is_walked, size_at, changes_at, dict_walked, checks, makes_element}
use Rattle.py_plain.specs.Operators.{compares}
use Rattle.py_plain.specs.Runs.{begins, decides, after_end, ◌>>◌, tests, ◌>>=◌, passes, pure, takes, raises, Run, Finding}
use Rattle.py_plain.specs.Statements.{means, value_of}
use Rattle.py_plain.specs.Tests.{recorder, Decided, Trail}
use Rattle.py_plain.specs.declared.judged.Judged.TheVariants as j
use Rattle.py_plain.specs.declared.run.Abrupt.TheVariants.{Raised, Returned, Left, Broke, Continued}
use Rattle.py_plain.specs.declared.run.Callee.TheVariants as callee
use Rattle.py_plain.specs.declared.state.State.{State}
use Rattle.py_syntax.specs.declared.expr.Args.{out-roll-Args}
use Rattle.py_syntax.specs.declared.expr.Expr.{Expr}
use Rattle.py_syntax.specs.declared.expr.ExprKind.TheVariants as x
use Rattle.py_syntax.specs.declared.operator.BinOp.TheVariants.{FloorDiv}
use Rattle.py_syntax.specs.declared.operator.CmpOp.TheVariants.{Same, Gt}
use Rattle.py_syntax.specs.declared.stmt.Clause.{out-roll-Clause}
use Rattle.py_syntax.specs.declared.stmt.Stmt.{Stmt}
use Rattle.py_syntax.specs.declared.stmt.StmtKind.TheVariants as y
use Rattle.py_syntax.specs.declared.stmt.Target.TheVariants as target
use Rattle.pyn_base.specs.declared.class.BuiltClass.TheVariants as built
use Rattle.pyn_base.specs.declared.class.ClassId.TheVariants.{Built}
use Rattle.pyn_base.specs.declared.construct.Construct.TheVariants as construct
use Rattle.std.proofs.Common.{◌≡◌, refl, ap}
use Rattle.std.specs.Prelude.{pos, true, false, [], ◌∷◌, Some, None, Ok, Err, codes, if◌then◌else◌}

ruleset views = (tuple-out, outs-None, outs-Bool, outs-Int, outs-Str, outs-Tuple, outs-Ref, outs-Class, outs-Func, outs-View, outs-ModuleRef)

ruleset tuples = (tuple-out, outs-None, outs-Bool, outs-Int, outs-Str, outs-Tuple, outs-Ref, outs-Class, outs-Func, outs-View, outs-ModuleRef, key_cost-Tuple, key_cost-out, as_key-Tuple, as_key-out, same_key-Tuple, same_key-out)

abbrev value_caught : Expr → Run Trail Finding
value_caught = value_of recorder program_caught

abbrev means_caught : Stmt → Run Trail Finding
means_caught = means recorder program_caught

abbrev caught_0_seen_1 : Trail
caught_0_seen_1 = began 0 ∷ began 1 ∷ began 2 ∷ began 3 ∷ began 4 ∷ began 5 ∷ began 6 ∷ Decided (node 6) (j.Plain true) true ∷ began 7 ∷ began 8 ∷ []

abbrev caught_0_seen_2 : Trail
caught_0_seen_2 = began 0 ∷ began 1 ∷ began 2 ∷ began 3 ∷ began 4 ∷ began 5 ∷ began 6 ∷ Decided (node 6) (j.Plain true) true ∷ []

abbrev caught_0_seen_3 : Trail
caught_0_seen_3 = began 0 ∷ began 1 ∷ began 2 ∷ began 3 ∷ began 4 ∷ began 5 ∷ began 6 ∷ []

abbrev caught_0_seen_4 : Trail
caught_0_seen_4 = began 0 ∷ began 1 ∷ began 2 ∷ began 3 ∷ began 4 ∷ began 5 ∷ []

abbrev caught_0_at_1 : State World Trail
caught_0_at_1 = state_caught (Some (func_id 0)) [] (id 0 ∷ []) (object.Instance (Built built.ZeroDivisionError) [] None ∷ []) 1 288 caught_0_seen_1

abbrev caught_0_at_2 : State World Trail
caught_0_at_2 = state_caught (Some (func_id 0)) [] [] (object.Instance (Built built.ZeroDivisionError) [] None ∷ []) 1 288 caught_0_seen_1

abbrev caught_0_at_3 : State World Trail
caught_0_at_3 = state_caught (Some (func_id 0)) [] [] (object.Instance (Built built.ZeroDivisionError) [] None ∷ []) 1 291 caught_0_seen_4

abbrev caught_0_at_4 : State World Trail
caught_0_at_4 = state_caught (Some (func_id 0)) [] [] (object.Instance (Built built.ZeroDivisionError) [] None ∷ []) 1 290 caught_0_seen_3

abbrev caught_0_at_5 : State World Trail
caught_0_at_5 = state_caught (Some (func_id 0)) [] [] (object.Instance (Built built.ZeroDivisionError) [] None ∷ []) 1 290 caught_0_seen_2

pub caught_0 : Yields (means_caught caught_t3) (state_caught None [] [] [] 0 300 []) ((Ok (v.None, (j.Plain false))), (state_caught None (((codes "var_8"), (v.Int (pos 1))) ∷ []) [] (object.Instance (Built built.ZeroDivisionError) [] None ∷ []) 0 288 caught_0_seen_1))
unfolding equal ordered
caught_0 =
    stmt_node recorder program_caught caught_t3 299 (y.outs-Assign ((target.Name (codes "var_8")) ∷ []) false None caught_t2) refl (then_ok (value_caught caught_t2) _ ((v.Int (pos 1)), (j.Plain true)) (state_caught None [] [] (object.Instance (Built built.ZeroDivisionError) [] None ∷ []) 0 288 caught_0_seen_1) (expr_node recorder program_caught caught_t2 298 (x.outs-Method caught_t1 (codes "f") (args [] [])) refl (then_ok (value_caught caught_t1) _ (v.ModuleRef, (j.Plain true)) (state_caught None [] [] [] 0 297 []) (expr_node recorder program_caught caught_t1 297 (x.outs-Name (codes "module_0")) refl (leaf (simp views))) (then_ok (finds program_caught v.ModuleRef (codes "f")) _ (callee.Value (v.Func (func_id 0))) (state_caught None [] [] [] 0 297 []) (leaf (first_of (simp views, simp tuples, search))) (as_run (plain_arguments recorder program_caught (value_caught) (means_caught) (callee.Value (v.Func (func_id 0))) [] [] []) (ap (λ args. plain_arguments recorder program_caught (value_caught) (means_caught) (callee.Value (v.Func (func_id 0))) [] args.plain args.named (state_caught None [] [] [] 0 297 [])) (out-roll-Args _)) (as_run (calls_function recorder program_caught (means_caught) (func_id 0) [] []) (ap (λ level. calls_value recorder program_caught (means_caught) level [] [] (state_caught None [] [] [] 0 297 [])) (outs-Func _)) (as_run (inside recorder program_caught (means_caught) (func_id 0) function_caught_0 []) (let same : calls_function recorder program_caught (means_caught) (func_id 0) [] [] (state_caught None [] [] [] 0 297 []) ≡ inside recorder program_caught (means_caught) (func_id 0) function_caught_0 [] (state_caught None [] [] [] 0 297 []) = refl in same) (gives_same (leaves (state_caught None [] [] [] 0 297 []).frame ((Err (Returned (v.Int (pos 1)))), caught_0_at_2)) (in_frame recorder program_caught (func_id 0) function_caught_0 [] (Err (Returned (v.Int (pos 1)))) caught_0_at_2 (then_ok (begins recorder (node 0)) _ tt (state_caught (Some (func_id 0)) [] [] [] 1 296 (began 0 ∷ [])) (leaf refl) (then_err (means_caught caught_n1) _ (Returned (v.Int (pos 1))) caught_0_at_2 (stmt_node recorder program_caught caught_n1 295 (y.outs-Try (caught_n2 ∷ []) ((clause 6 (Some ((codes "ZeroDivisionError") ∷ [])) None (caught_n7 ∷ [])) ∷ []) None None) refl (then_after (after_end (block recorder program_caught (means_caught) (caught_n2 ∷ [])) (after_body recorder program_caught (value_caught) (means_caught) ((clause 6 (Some ((codes "ZeroDivisionError") ∷ [])) None (caught_n7 ∷ [])) ∷ []) None)) (finally recorder program_caught (value_caught) (means_caught) None) (Err (Returned (v.Int (pos 1)))) caught_0_at_2 (then_after (block recorder program_caught (means_caught) (caught_n2 ∷ [])) (after_body recorder program_caught (value_caught) (means_caught) ((clause 6 (Some ((codes "ZeroDivisionError") ∷ [])) None (caught_n7 ∷ [])) ∷ []) None) (Err (Raised (id 0))) caught_0_at_3 (then_err (means_caught caught_n2) _ (Raised (id 0)) caught_0_at_3 (stmt_node recorder program_caught caught_n2 294 (y.outs-Bare caught_n3) refl (then_err (value_caught caught_n3) _ (Raised (id 0)) caught_0_at_3 (expr_node recorder program_caught caught_n3 293 (x.outs-Binary FloorDiv caught_n4 caught_n5) refl (then_ok (value_caught caught_n4) _ ((v.Int (pos 1)), (j.Plain true)) (state_caught (Some (func_id 0)) [] [] [] 1 292 (began 0 ∷ began 1 ∷ began 2 ∷ began 3 ∷ began 4 ∷ [])) (expr_node recorder program_caught caught_n4 292 (x.outs-IntLit (pos 1)) refl (leaf (simp views))) (then_ok (value_caught caught_n5) _ ((v.Int (pos 0)), (j.Plain false)) (state_caught (Some (func_id 0)) [] [] [] 1 291 caught_0_seen_4) (expr_node recorder program_caught caught_n5 291 (x.outs-IntLit (pos 0)) refl (leaf (simp views))) (leaf (first_of (simp views, simp tuples, search))))))))) (as_run (begins recorder (node 6) >> (λ here. (decides recorder (node 6) (j.Plain (handles program_caught here.space (class_of_object (object_at here.objects (id 0))) (Some ((codes "ZeroDivisionError") ∷ [])))) (handles program_caught here.space (class_of_object (object_at here.objects (id 0))) (Some ((codes "ZeroDivisionError") ∷ []))) >> (if (handles program_caught here.space (class_of_object (object_at here.objects (id 0))) (Some ((codes "ZeroDivisionError") ∷ []))) then (binds_as None (id 0) >> (enters_clause (id 0) >> after_end (block recorder program_caught (means_caught) (caught_n7 ∷ [])) (after_clause None))) else (tries_clauses recorder program_caught (value_caught) (means_caught) [] (id 0)))) here)) (ap (λ c. (begins recorder c.node >> (λ here. (decides recorder c.node (j.Plain (handles program_caught here.space (class_of_object (object_at here.objects (id 0))) c.classes)) (handles program_caught here.space (class_of_object (object_at here.objects (id 0))) c.classes) >> (if handles program_caught here.space (class_of_object (object_at here.objects (id 0))) c.classes then (binds_as c.name (id 0) >> (enters_clause (id 0) >> after_end (block recorder program_caught (means_caught) c.body) (after_clause c.name))) else (tries_clauses recorder program_caught (value_caught) (means_caught) [] (id 0)))) here)) caught_0_at_3) (out-roll-Clause _)) (then_ok (begins recorder (node 6)) (λ _. (λ here. (decides recorder (node 6) (j.Plain (handles program_caught here.space (class_of_object (object_at here.objects (id 0))) (Some ((codes "ZeroDivisionError") ∷ [])))) (handles program_caught here.space (class_of_object (object_at here.objects (id 0))) (Some ((codes "ZeroDivisionError") ∷ []))) >> (if (handles program_caught here.space (class_of_object (object_at here.objects (id 0))) (Some ((codes "ZeroDivisionError") ∷ []))) then (binds_as None (id 0) >> (enters_clause (id 0) >> after_end (block recorder program_caught (means_caught) (caught_n7 ∷ [])) (after_clause None))) else (tries_clauses recorder program_caught (value_caught) (means_caught) [] (id 0)))) here)) tt caught_0_at_4 (leaf refl) (as_run (decides recorder (node 6) (j.Plain true) true >> (if true then (binds_as None (id 0) >> (enters_clause (id 0) >> after_end (block recorder program_caught (means_caught) (caught_n7 ∷ [])) (after_clause None))) else (tries_clauses recorder program_caught (value_caught) (means_caught) [] (id 0)))) (ap (λ outcome. (decides recorder (node 6) (j.Plain outcome) outcome >> (if outcome then (binds_as None (id 0) >> (enters_clause (id 0) >> after_end (block recorder program_caught (means_caught) (caught_n7 ∷ [])) (after_clause None))) else (tries_clauses recorder program_caught (value_caught) (means_caught) [] (id 0)))) caught_0_at_4) (let same : handles program_caught (caught_0_at_4.space) (class_of_object (object_at (object.Instance (Built built.ZeroDivisionError) [] None ∷ []) (id 0))) (Some ((codes "ZeroDivisionError") ∷ [])) ≡ true = first_of (simp views, search) in same)) (then_ok (decides recorder (node 6) (j.Plain true) true) (λ _. (binds_as None (id 0) >> (enters_clause (id 0) >> after_end (block recorder program_caught (means_caught) (caught_n7 ∷ [])) (after_clause None)))) tt caught_0_at_5 (leaf refl) (then_ok (binds_as None (id 0)) (λ _. enters_clause (id 0) >> after_end (block recorder program_caught (means_caught) (caught_n7 ∷ [])) (after_clause None)) (v.None, (j.Plain false)) caught_0_at_5 (leaf refl) (then_ok (enters_clause (id 0)) (λ _. after_end (block recorder program_caught (means_caught) (caught_n7 ∷ [])) (after_clause None)) (v.None, (j.Plain false)) (state_caught (Some (func_id 0)) [] (id 0 ∷ []) (object.Instance (Built built.ZeroDivisionError) [] None ∷ []) 1 290 caught_0_seen_2) (leaf refl) (then_after (block recorder program_caught (means_caught) (caught_n7 ∷ [])) (after_clause None) (Err (Returned (v.Int (pos 1)))) caught_0_at_1 (then_err (means_caught caught_n7) _ (Returned (v.Int (pos 1))) caught_0_at_1 (stmt_node recorder program_caught caught_n7 289 (y.outs-Return (Some caught_n8)) refl (then_ok (value_caught caught_n8) _ ((v.Int (pos 1)), (j.Plain true)) caught_0_at_1 (expr_node recorder program_caught caught_n8 288 (x.outs-IntLit (pos 1)) refl (leaf (simp views))) (leaf refl)))) (leaf refl))))))))) (leaf refl)))))) (simp views)))))))) (leaf refl))

abbrev value_bare_clause : Expr → Run Trail Finding
value_bare_clause = value_of recorder program_bare_clause

abbrev means_bare_clause : Stmt → Run Trail Finding
means_bare_clause = means recorder program_bare_clause

abbrev bare_clause_0_seen_1 : Trail
bare_clause_0_seen_1 = began 0 ∷ began 1 ∷ began 2 ∷ began 3 ∷ began 4 ∷ began 5 ∷ began 6 ∷ Decided (node 6) (j.Plain false) false ∷ began 9 ∷ Decided (node 9) (j.Plain true) true ∷ began 10 ∷ began 11 ∷ []

abbrev bare_clause_0_seen_2 : Trail
bare_clause_0_seen_2 = began 0 ∷ began 1 ∷ began 2 ∷ began 3 ∷ began 4 ∷ began 5 ∷ began 6 ∷ Decided (node 6) (j.Plain false) false ∷ began 9 ∷ Decided (node 9) (j.Plain true) true ∷ []

abbrev bare_clause_0_seen_3 : Trail
bare_clause_0_seen_3 = began 0 ∷ began 1 ∷ began 2 ∷ began 3 ∷ began 4 ∷ began 5 ∷ began 6 ∷ Decided (node 6) (j.Plain false) false ∷ began 9 ∷ []

abbrev bare_clause_0_seen_4 : Trail
bare_clause_0_seen_4 = began 0 ∷ began 1 ∷ began 2 ∷ began 3 ∷ began 4 ∷ began 5 ∷ began 6 ∷ Decided (node 6) (j.Plain false) false ∷ []

abbrev bare_clause_0_seen_5 : Trail
bare_clause_0_seen_5 = began 0 ∷ began 1 ∷ began 2 ∷ began 3 ∷ began 4 ∷ began 5 ∷ began 6 ∷ []

abbrev bare_clause_0_seen_6 : Trail
bare_clause_0_seen_6 = began 0 ∷ began 1 ∷ began 2 ∷ began 3 ∷ began 4 ∷ began 5 ∷ []

abbrev bare_clause_0_at_1 : State World Trail
bare_clause_0_at_1 = state_bare_clause (Some (func_id 0)) [] (id 1 ∷ []) (object.Dict [] 0 ∷ object.Instance (Built built.KeyError) [] None ∷ []) 1 286 bare_clause_0_seen_1

abbrev bare_clause_0_at_2 : State World Trail
bare_clause_0_at_2 = state_bare_clause (Some (func_id 0)) [] [] (object.Dict [] 0 ∷ object.Instance (Built built.KeyError) [] None ∷ []) 1 286 bare_clause_0_seen_1

abbrev bare_clause_0_at_3 : State World Trail
bare_clause_0_at_3 = state_bare_clause (Some (func_id 0)) [] [] (object.Dict [] 0 ∷ object.Instance (Built built.KeyError) [] None ∷ []) 1 290 bare_clause_0_seen_6

abbrev bare_clause_0_at_4 : State World Trail
bare_clause_0_at_4 = state_bare_clause (Some (func_id 0)) [] [] (object.Dict [] 0 ∷ object.Instance (Built built.KeyError) [] None ∷ []) 1 289 bare_clause_0_seen_5

abbrev bare_clause_0_at_5 : State World Trail
bare_clause_0_at_5 = state_bare_clause (Some (func_id 0)) [] [] (object.Dict [] 0 ∷ object.Instance (Built built.KeyError) [] None ∷ []) 1 289 bare_clause_0_seen_4

abbrev bare_clause_0_at_6 : State World Trail
bare_clause_0_at_6 = state_bare_clause (Some (func_id 0)) [] [] (object.Dict [] 0 ∷ object.Instance (Built built.KeyError) [] None ∷ []) 1 288 bare_clause_0_seen_3

abbrev bare_clause_0_at_7 : State World Trail
bare_clause_0_at_7 = state_bare_clause (Some (func_id 0)) [] [] (object.Dict [] 0 ∷ object.Instance (Built built.KeyError) [] None ∷ []) 1 288 bare_clause_0_seen_2

pub bare_clause_0 : Yields (means_bare_clause bare_clause_t3) (state_bare_clause None [] [] [] 0 300 []) ((Ok (v.None, (j.Plain false))), (state_bare_clause None (((codes "var_8"), (v.Int (pos 3))) ∷ []) [] (object.Dict [] 0 ∷ object.Instance (Built built.KeyError) [] None ∷ []) 0 286 bare_clause_0_seen_1))
unfolding equal ordered
bare_clause_0 =
    stmt_node recorder program_bare_clause bare_clause_t3 299 (y.outs-Assign ((target.Name (codes "var_8")) ∷ []) false None bare_clause_t2) refl (then_ok (value_bare_clause bare_clause_t2) _ ((v.Int (pos 3)), (j.Plain true)) (state_bare_clause None [] [] (object.Dict [] 0 ∷ object.Instance (Built built.KeyError) [] None ∷ []) 0 286 bare_clause_0_seen_1) (expr_node recorder program_bare_clause bare_clause_t2 298 (x.outs-Method bare_clause_t1 (codes "f") (args [] [])) refl (then_ok (value_bare_clause bare_clause_t1) _ (v.ModuleRef, (j.Plain true)) (state_bare_clause None [] [] [] 0 297 []) (expr_node recorder program_bare_clause bare_clause_t1 297 (x.outs-Name (codes "module_0")) refl (leaf (simp views))) (then_ok (finds program_bare_clause v.ModuleRef (codes "f")) _ (callee.Value (v.Func (func_id 0))) (state_bare_clause None [] [] [] 0 297 []) (leaf (first_of (simp views, simp tuples, search))) (as_run (plain_arguments recorder program_bare_clause (value_bare_clause) (means_bare_clause) (callee.Value (v.Func (func_id 0))) [] [] []) (ap (λ args. plain_arguments recorder program_bare_clause (value_bare_clause) (means_bare_clause) (callee.Value (v.Func (func_id 0))) [] args.plain args.named (state_bare_clause None [] [] [] 0 297 [])) (out-roll-Args _)) (as_run (calls_function recorder program_bare_clause (means_bare_clause) (func_id 0) [] []) (ap (λ level. calls_value recorder program_bare_clause (means_bare_clause) level [] [] (state_bare_clause None [] [] [] 0 297 [])) (outs-Func _)) (as_run (inside recorder program_bare_clause (means_bare_clause) (func_id 0) function_bare_clause_0 []) (let same : calls_function recorder program_bare_clause (means_bare_clause) (func_id 0) [] [] (state_bare_clause None [] [] [] 0 297 []) ≡ inside recorder program_bare_clause (means_bare_clause) (func_id 0) function_bare_clause_0 [] (state_bare_clause None [] [] [] 0 297 []) = refl in same) (gives_same (leaves (state_bare_clause None [] [] [] 0 297 []).frame ((Err (Returned (v.Int (pos 3)))), bare_clause_0_at_2)) (in_frame recorder program_bare_clause (func_id 0) function_bare_clause_0 [] (Err (Returned (v.Int (pos 3)))) bare_clause_0_at_2 (then_ok (begins recorder (node 0)) _ tt (state_bare_clause (Some (func_id 0)) [] [] [] 1 296 (began 0 ∷ [])) (leaf refl) (then_err (means_bare_clause bare_clause_n1) _ (Returned (v.Int (pos 3))) bare_clause_0_at_2 (stmt_node recorder program_bare_clause bare_clause_n1 295 (y.outs-Try (bare_clause_n2 ∷ []) ((clause 6 (Some ((codes "IndexError") ∷ [])) None (bare_clause_n7 ∷ [])) ∷ (clause 9 None None (bare_clause_n10 ∷ [])) ∷ []) None None) refl (then_after (after_end (block recorder program_bare_clause (means_bare_clause) (bare_clause_n2 ∷ [])) (after_body recorder program_bare_clause (value_bare_clause) (means_bare_clause) ((clause 6 (Some ((codes "IndexError") ∷ [])) None (bare_clause_n7 ∷ [])) ∷ (clause 9 None None (bare_clause_n10 ∷ [])) ∷ []) None)) (finally recorder program_bare_clause (value_bare_clause) (means_bare_clause) None) (Err (Returned (v.Int (pos 3)))) bare_clause_0_at_2 (then_after (block recorder program_bare_clause (means_bare_clause) (bare_clause_n2 ∷ [])) (after_body recorder program_bare_clause (value_bare_clause) (means_bare_clause) ((clause 6 (Some ((codes "IndexError") ∷ [])) None (bare_clause_n7 ∷ [])) ∷ (clause 9 None None (bare_clause_n10 ∷ [])) ∷ []) None) (Err (Raised (id 1))) bare_clause_0_at_3 (then_err (means_bare_clause bare_clause_n2) _ (Raised (id 1)) bare_clause_0_at_3 (stmt_node recorder program_bare_clause bare_clause_n2 294 (y.outs-Bare bare_clause_n3) refl (then_err (value_bare_clause bare_clause_n3) _ (Raised (id 1)) bare_clause_0_at_3 (expr_node recorder program_bare_clause bare_clause_n3 293 (x.outs-Index bare_clause_n4 bare_clause_n5) refl (then_ok (value_bare_clause bare_clause_n4) _ ((ref 0), (j.Plain false)) (state_bare_clause (Some (func_id 0)) [] [] (object.Dict [] 0 ∷ []) 1 292 (began 0 ∷ began 1 ∷ began 2 ∷ began 3 ∷ began 4 ∷ [])) (expr_node recorder program_bare_clause bare_clause_n4 292 (x.outs-DictLit []) refl (leaf (first_of (simp views, simp tuples, search)))) (then_ok (value_bare_clause bare_clause_n5) _ ((v.Int (pos 1)), (j.Plain true)) (state_bare_clause (Some (func_id 0)) [] [] (object.Dict [] 0 ∷ []) 1 291 bare_clause_0_seen_6) (expr_node recorder program_bare_clause bare_clause_n5 291 (x.outs-IntLit (pos 1)) refl (leaf (simp views))) (leaf (first_of (simp views, simp tuples, search))))))))) (as_run (begins recorder (node 6) >> (λ here. (decides recorder (node 6) (j.Plain (handles program_bare_clause here.space (class_of_object (object_at here.objects (id 1))) (Some ((codes "IndexError") ∷ [])))) (handles program_bare_clause here.space (class_of_object (object_at here.objects (id 1))) (Some ((codes "IndexError") ∷ []))) >> (if (handles program_bare_clause here.space (class_of_object (object_at here.objects (id 1))) (Some ((codes "IndexError") ∷ []))) then (binds_as None (id 1) >> (enters_clause (id 1) >> after_end (block recorder program_bare_clause (means_bare_clause) (bare_clause_n7 ∷ [])) (after_clause None))) else (tries_clauses recorder program_bare_clause (value_bare_clause) (means_bare_clause) ((clause 9 None None (bare_clause_n10 ∷ [])) ∷ []) (id 1)))) here)) (ap (λ c. (begins recorder c.node >> (λ here. (decides recorder c.node (j.Plain (handles program_bare_clause here.space (class_of_object (object_at here.objects (id 1))) c.classes)) (handles program_bare_clause here.space (class_of_object (object_at here.objects (id 1))) c.classes) >> (if handles program_bare_clause here.space (class_of_object (object_at here.objects (id 1))) c.classes then (binds_as c.name (id 1) >> (enters_clause (id 1) >> after_end (block recorder program_bare_clause (means_bare_clause) c.body) (after_clause c.name))) else (tries_clauses recorder program_bare_clause (value_bare_clause) (means_bare_clause) ((clause 9 None None (bare_clause_n10 ∷ [])) ∷ []) (id 1)))) here)) bare_clause_0_at_3) (out-roll-Clause _)) (then_ok (begins recorder (node 6)) (λ _. (λ here. (decides recorder (node 6) (j.Plain (handles program_bare_clause here.space (class_of_object (object_at here.objects (id 1))) (Some ((codes "IndexError") ∷ [])))) (handles program_bare_clause here.space (class_of_object (object_at here.objects (id 1))) (Some ((codes "IndexError") ∷ []))) >> (if (handles program_bare_clause here.space (class_of_object (object_at here.objects (id 1))) (Some ((codes "IndexError") ∷ []))) then (binds_as None (id 1) >> (enters_clause (id 1) >> after_end (block recorder program_bare_clause (means_bare_clause) (bare_clause_n7 ∷ [])) (after_clause None))) else (tries_clauses recorder program_bare_clause (value_bare_clause) (means_bare_clause) ((clause 9 None None (bare_clause_n10 ∷ [])) ∷ []) (id 1)))) here)) tt bare_clause_0_at_4 (leaf refl) (as_run (decides recorder (node 6) (j.Plain false) false >> (if false then (binds_as None (id 1) >> (enters_clause (id 1) >> after_end (block recorder program_bare_clause (means_bare_clause) (bare_clause_n7 ∷ [])) (after_clause None))) else (tries_clauses recorder program_bare_clause (value_bare_clause) (means_bare_clause) ((clause 9 None None (bare_clause_n10 ∷ [])) ∷ []) (id 1)))) (ap (λ outcome. (decides recorder (node 6) (j.Plain outcome) outcome >> (if outcome then (binds_as None (id 1) >> (enters_clause (id 1) >> after_end (block recorder program_bare_clause (means_bare_clause) (bare_clause_n7 ∷ [])) (after_clause None))) else (tries_clauses recorder program_bare_clause (value_bare_clause) (means_bare_clause) ((clause 9 None None (bare_clause_n10 ∷ [])) ∷ []) (id 1)))) bare_clause_0_at_4) (let same : handles program_bare_clause (bare_clause_0_at_4.space) (class_of_object (object_at (object.Dict [] 0 ∷ object.Instance (Built built.KeyError) [] None ∷ []) (id 1))) (Some ((codes "IndexError") ∷ [])) ≡ false = first_of (simp views, search) in same)) (then_ok (decides recorder (node 6) (j.Plain false) false) (λ _. (tries_clauses recorder program_bare_clause (value_bare_clause) (means_bare_clause) ((clause 9 None None (bare_clause_n10 ∷ [])) ∷ []) (id 1))) tt bare_clause_0_at_5 (leaf refl) (as_run (begins recorder (node 9) >> (λ here. (decides recorder (node 9) (j.Plain (handles program_bare_clause here.space (class_of_object (object_at here.objects (id 1))) None)) (handles program_bare_clause here.space (class_of_object (object_at here.objects (id 1))) None) >> (if (handles program_bare_clause here.space (class_of_object (object_at here.objects (id 1))) None) then (binds_as None (id 1) >> (enters_clause (id 1) >> after_end (block recorder program_bare_clause (means_bare_clause) (bare_clause_n10 ∷ [])) (after_clause None))) else (tries_clauses recorder program_bare_clause (value_bare_clause) (means_bare_clause) [] (id 1)))) here)) (ap (λ c. (begins recorder c.node >> (λ here. (decides recorder c.node (j.Plain (handles program_bare_clause here.space (class_of_object (object_at here.objects (id 1))) c.classes)) (handles program_bare_clause here.space (class_of_object (object_at here.objects (id 1))) c.classes) >> (if handles program_bare_clause here.space (class_of_object (object_at here.objects (id 1))) c.classes then (binds_as c.name (id 1) >> (enters_clause (id 1) >> after_end (block recorder program_bare_clause (means_bare_clause) c.body) (after_clause c.name))) else (tries_clauses recorder program_bare_clause (value_bare_clause) (means_bare_clause) [] (id 1)))) here)) bare_clause_0_at_5) (out-roll-Clause _)) (then_ok (begins recorder (node 9)) (λ _. (λ here. (decides recorder (node 9) (j.Plain (handles program_bare_clause here.space (class_of_object (object_at here.objects (id 1))) None)) (handles program_bare_clause here.space (class_of_object (object_at here.objects (id 1))) None) >> (if (handles program_bare_clause here.space (class_of_object (object_at here.objects (id 1))) None) then (binds_as None (id 1) >> (enters_clause (id 1) >> after_end (block recorder program_bare_clause (means_bare_clause) (bare_clause_n10 ∷ [])) (after_clause None))) else (tries_clauses recorder program_bare_clause (value_bare_clause) (means_bare_clause) [] (id 1)))) here)) tt bare_clause_0_at_6 (leaf refl) (as_run (decides recorder (node 9) (j.Plain true) true >> (if true then (binds_as None (id 1) >> (enters_clause (id 1) >> after_end (block recorder program_bare_clause (means_bare_clause) (bare_clause_n10 ∷ [])) (after_clause None))) else (tries_clauses recorder program_bare_clause (value_bare_clause) (means_bare_clause) [] (id 1)))) (ap (λ outcome. (decides recorder (node 9) (j.Plain outcome) outcome >> (if outcome then (binds_as None (id 1) >> (enters_clause (id 1) >> after_end (block recorder program_bare_clause (means_bare_clause) (bare_clause_n10 ∷ [])) (after_clause None))) else (tries_clauses recorder program_bare_clause (value_bare_clause) (means_bare_clause) [] (id 1)))) bare_clause_0_at_6) (let same : handles program_bare_clause (bare_clause_0_at_6.space) (class_of_object (object_at (object.Dict [] 0 ∷ object.Instance (Built built.KeyError) [] None ∷ []) (id 1))) None ≡ true = first_of (simp views, search) in same)) (then_ok (decides recorder (node 9) (j.Plain true) true) (λ _. (binds_as None (id 1) >> (enters_clause (id 1) >> after_end (block recorder program_bare_clause (means_bare_clause) (bare_clause_n10 ∷ [])) (after_clause None)))) tt bare_clause_0_at_7 (leaf refl) (then_ok (binds_as None (id 1)) (λ _. enters_clause (id 1) >> after_end (block recorder program_bare_clause (means_bare_clause) (bare_clause_n10 ∷ [])) (after_clause None)) (v.None, (j.Plain false)) bare_clause_0_at_7 (leaf refl) (then_ok (enters_clause (id 1)) (λ _. after_end (block recorder program_bare_clause (means_bare_clause) (bare_clause_n10 ∷ [])) (after_clause None)) (v.None, (j.Plain false)) (state_bare_clause (Some (func_id 0)) [] (id 1 ∷ []) (object.Dict [] 0 ∷ object.Instance (Built built.KeyError) [] None ∷ []) 1 288 bare_clause_0_seen_2) (leaf refl) (then_after (block recorder program_bare_clause (means_bare_clause) (bare_clause_n10 ∷ [])) (after_clause None) (Err (Returned (v.Int (pos 3)))) bare_clause_0_at_1 (then_err (means_bare_clause bare_clause_n10) _ (Returned (v.Int (pos 3))) bare_clause_0_at_1 (stmt_node recorder program_bare_clause bare_clause_n10 287 (y.outs-Return (Some bare_clause_n11)) refl (then_ok (value_bare_clause bare_clause_n11) _ ((v.Int (pos 3)), (j.Plain true)) bare_clause_0_at_1 (expr_node recorder program_bare_clause bare_clause_n11 286 (x.outs-IntLit (pos 3)) refl (leaf (simp views))) (leaf refl)))) (leaf refl))))))))))))) (leaf refl)))))) (simp views)))))))) (leaf refl))

abbrev value_finally_replaces_return : Expr → Run Trail Finding
value_finally_replaces_return = value_of recorder program_finally_replaces_return

abbrev means_finally_replaces_return : Stmt → Run Trail Finding
means_finally_replaces_return = means recorder program_finally_replaces_return

abbrev finally_replaces_return_0_seen_1 : Trail
finally_replaces_return_0_seen_1 = began 0 ∷ began 1 ∷ began 2 ∷ began 3 ∷ began 4 ∷ began 5 ∷ []

abbrev finally_replaces_return_0_seen_2 : Trail
finally_replaces_return_0_seen_2 = began 0 ∷ began 1 ∷ began 2 ∷ began 3 ∷ []

abbrev finally_replaces_return_0_at_1 : State World Trail
finally_replaces_return_0_at_1 = state_finally_replaces_return (Some (func_id 0)) [] [] [] 1 291 finally_replaces_return_0_seen_1

abbrev finally_replaces_return_0_at_2 : State World Trail
finally_replaces_return_0_at_2 = state_finally_replaces_return (Some (func_id 0)) [] [] [] 1 293 finally_replaces_return_0_seen_2

pub finally_replaces_return_0 : Yields (means_finally_replaces_return finally_replaces_return_t3) (state_finally_replaces_return None [] [] [] 0 300 []) ((Ok (v.None, (j.Plain false))), (state_finally_replaces_return None (((codes "var_8"), (v.Int (pos 3))) ∷ []) [] [] 0 291 finally_replaces_return_0_seen_1))
unfolding equal ordered
finally_replaces_return_0 =
    stmt_node recorder program_finally_replaces_return finally_replaces_return_t3 299 (y.outs-Assign ((target.Name (codes "var_8")) ∷ []) false None finally_replaces_return_t2) refl (then_ok (value_finally_replaces_return finally_replaces_return_t2) _ ((v.Int (pos 3)), (j.Plain true)) (state_finally_replaces_return None [] [] [] 0 291 finally_replaces_return_0_seen_1) (expr_node recorder program_finally_replaces_return finally_replaces_return_t2 298 (x.outs-Method finally_replaces_return_t1 (codes "f") (args [] [])) refl (then_ok (value_finally_replaces_return finally_replaces_return_t1) _ (v.ModuleRef, (j.Plain true)) (state_finally_replaces_return None [] [] [] 0 297 []) (expr_node recorder program_finally_replaces_return finally_replaces_return_t1 297 (x.outs-Name (codes "module_0")) refl (leaf (simp views))) (then_ok (finds program_finally_replaces_return v.ModuleRef (codes "f")) _ (callee.Value (v.Func (func_id 0))) (state_finally_replaces_return None [] [] [] 0 297 []) (leaf (first_of (simp views, simp tuples, search))) (as_run (plain_arguments recorder program_finally_replaces_return (value_finally_replaces_return) (means_finally_replaces_return) (callee.Value (v.Func (func_id 0))) [] [] []) (ap (λ args. plain_arguments recorder program_finally_replaces_return (value_finally_replaces_return) (means_finally_replaces_return) (callee.Value (v.Func (func_id 0))) [] args.plain args.named (state_finally_replaces_return None [] [] [] 0 297 [])) (out-roll-Args _)) (as_run (calls_function recorder program_finally_replaces_return (means_finally_replaces_return) (func_id 0) [] []) (ap (λ level. calls_value recorder program_finally_replaces_return (means_finally_replaces_return) level [] [] (state_finally_replaces_return None [] [] [] 0 297 [])) (outs-Func _)) (as_run (inside recorder program_finally_replaces_return (means_finally_replaces_return) (func_id 0) function_finally_replaces_return_0 []) (let same : calls_function recorder program_finally_replaces_return (means_finally_replaces_return) (func_id 0) [] [] (state_finally_replaces_return None [] [] [] 0 297 []) ≡ inside recorder program_finally_replaces_return (means_finally_replaces_return) (func_id 0) function_finally_replaces_return_0 [] (state_finally_replaces_return None [] [] [] 0 297 []) = refl in same) (gives_same (leaves (state_finally_replaces_return None [] [] [] 0 297 []).frame ((Err (Returned (v.Int (pos 3)))), finally_replaces_return_0_at_1)) (in_frame recorder program_finally_replaces_return (func_id 0) function_finally_replaces_return_0 [] (Err (Returned (v.Int (pos 3)))) finally_replaces_return_0_at_1 (then_ok (begins recorder (node 0)) _ tt (state_finally_replaces_return (Some (func_id 0)) [] [] [] 1 296 (began 0 ∷ [])) (leaf refl) (then_err (means_finally_replaces_return finally_replaces_return_n1) _ (Returned (v.Int (pos 3))) finally_replaces_return_0_at_1 (stmt_node recorder program_finally_replaces_return finally_replaces_return_n1 295 (y.outs-Try (finally_replaces_return_n2 ∷ []) [] None (Some (finally_replaces_return_n4 ∷ []))) refl (then_after (after_end (block recorder program_finally_replaces_return (means_finally_replaces_return) (finally_replaces_return_n2 ∷ [])) (after_body recorder program_finally_replaces_return (value_finally_replaces_return) (means_finally_replaces_return) [] None)) (finally recorder program_finally_replaces_return (value_finally_replaces_return) (means_finally_replaces_return) (Some (finally_replaces_return_n4 ∷ []))) (Err (Returned (v.Int (pos 1)))) finally_replaces_return_0_at_2 (then_after (block recorder program_finally_replaces_return (means_finally_replaces_return) (finally_replaces_return_n2 ∷ [])) (after_body recorder program_finally_replaces_return (value_finally_replaces_return) (means_finally_replaces_return) [] None) (Err (Returned (v.Int (pos 1)))) finally_replaces_return_0_at_2 (then_err (means_finally_replaces_return finally_replaces_return_n2) _ (Returned (v.Int (pos 1))) finally_replaces_return_0_at_2 (stmt_node recorder program_finally_replaces_return finally_replaces_return_n2 294 (y.outs-Return (Some finally_replaces_return_n3)) refl (then_ok (value_finally_replaces_return finally_replaces_return_n3) _ ((v.Int (pos 1)), (j.Plain true)) finally_replaces_return_0_at_2 (expr_node recorder program_finally_replaces_return finally_replaces_return_n3 293 (x.outs-IntLit (pos 1)) refl (leaf (simp views))) (leaf refl)))) (leaf refl)) (then_after (block recorder program_finally_replaces_return (means_finally_replaces_return) (finally_replaces_return_n4 ∷ [])) (kept (Err (Returned (v.Int (pos 1))))) (Err (Returned (v.Int (pos 3)))) finally_replaces_return_0_at_1 (then_err (means_finally_replaces_return finally_replaces_return_n4) _ (Returned (v.Int (pos 3))) finally_replaces_return_0_at_1 (stmt_node recorder program_finally_replaces_return finally_replaces_return_n4 292 (y.outs-Return (Some finally_replaces_return_n5)) refl (then_ok (value_finally_replaces_return finally_replaces_return_n5) _ ((v.Int (pos 3)), (j.Plain true)) finally_replaces_return_0_at_1 (expr_node recorder program_finally_replaces_return finally_replaces_return_n5 291 (x.outs-IntLit (pos 3)) refl (leaf (simp views))) (leaf refl)))) (leaf refl))))))) (simp views)))))))) (leaf refl))

abbrev value_finally_breaks : Expr → Run Trail Finding
value_finally_breaks = value_of recorder program_finally_breaks

abbrev means_finally_breaks : Stmt → Run Trail Finding
means_finally_breaks = means recorder program_finally_breaks

abbrev finally_breaks_0_seen_1 : Trail
finally_breaks_0_seen_1 = began 0 ∷ began 1 ∷ began 2 ∷ began 3 ∷ began 4 ∷ Decided (node 1) (j.Plain true) true ∷ began 5 ∷ began 6 ∷ began 7 ∷ began 8 ∷ began 9 ∷ began 10 ∷ []

abbrev finally_breaks_0_seen_2 : Trail
finally_breaks_0_seen_2 = began 0 ∷ began 1 ∷ began 2 ∷ began 3 ∷ began 4 ∷ Decided (node 1) (j.Plain true) true ∷ began 5 ∷ began 6 ∷ began 7 ∷ began 8 ∷ []

abbrev finally_breaks_0_seen_3 : Trail
finally_breaks_0_seen_3 = began 0 ∷ began 1 ∷ began 2 ∷ began 3 ∷ began 4 ∷ Decided (node 1) (j.Plain true) true ∷ began 5 ∷ began 6 ∷ began 7 ∷ []

abbrev finally_breaks_0_seen_4 : Trail
finally_breaks_0_seen_4 = began 0 ∷ began 1 ∷ began 2 ∷ began 3 ∷ began 4 ∷ Decided (node 1) (j.Plain true) true ∷ []

abbrev finally_breaks_0_seen_5 : Trail
finally_breaks_0_seen_5 = began 0 ∷ began 1 ∷ began 2 ∷ began 3 ∷ began 4 ∷ []

abbrev finally_breaks_0_at_1 : State World Trail
finally_breaks_0_at_1 = state_finally_breaks (Some (func_id 0)) (((codes "i"), (v.Int (pos 1))) ∷ []) [] [] 1 283 finally_breaks_0_seen_1

abbrev finally_breaks_0_at_2 : State World Trail
finally_breaks_0_at_2 = state_finally_breaks (Some (func_id 0)) (((codes "i"), (v.Int (pos 1))) ∷ []) [] [] 1 285 finally_breaks_0_seen_2

abbrev finally_breaks_0_at_3 : State World Trail
finally_breaks_0_at_3 = state_finally_breaks (Some (func_id 0)) (((codes "i"), (v.Int (pos 1))) ∷ []) [] [] 1 286 finally_breaks_0_seen_3

abbrev finally_breaks_0_at_4 : State World Trail
finally_breaks_0_at_4 = state_finally_breaks (Some (func_id 0)) [] [] [] 1 290 finally_breaks_0_seen_5

abbrev finally_breaks_0_at_5 : State World Trail
finally_breaks_0_at_5 = state_finally_breaks (Some (func_id 0)) [] [] [] 1 289 finally_breaks_0_seen_5

pub finally_breaks_0 : Yields (means_finally_breaks finally_breaks_t3) (state_finally_breaks None [] [] [] 0 300 []) ((Ok (v.None, (j.Plain false))), (state_finally_breaks None (((codes "var_8"), (v.Str (codes "out"))) ∷ []) [] [] 0 283 finally_breaks_0_seen_1))
unfolding equal ordered
finally_breaks_0 =
    stmt_node recorder program_finally_breaks finally_breaks_t3 299 (y.outs-Assign ((target.Name (codes "var_8")) ∷ []) false None finally_breaks_t2) refl (then_ok (value_finally_breaks finally_breaks_t2) _ ((v.Str (codes "out")), (j.Plain true)) (state_finally_breaks None [] [] [] 0 283 finally_breaks_0_seen_1) (expr_node recorder program_finally_breaks finally_breaks_t2 298 (x.outs-Method finally_breaks_t1 (codes "f") (args [] [])) refl (then_ok (value_finally_breaks finally_breaks_t1) _ (v.ModuleRef, (j.Plain true)) (state_finally_breaks None [] [] [] 0 297 []) (expr_node recorder program_finally_breaks finally_breaks_t1 297 (x.outs-Name (codes "module_0")) refl (leaf (simp views))) (then_ok (finds program_finally_breaks v.ModuleRef (codes "f")) _ (callee.Value (v.Func (func_id 0))) (state_finally_breaks None [] [] [] 0 297 []) (leaf (first_of (simp views, simp tuples, search))) (as_run (plain_arguments recorder program_finally_breaks (value_finally_breaks) (means_finally_breaks) (callee.Value (v.Func (func_id 0))) [] [] []) (ap (λ args. plain_arguments recorder program_finally_breaks (value_finally_breaks) (means_finally_breaks) (callee.Value (v.Func (func_id 0))) [] args.plain args.named (state_finally_breaks None [] [] [] 0 297 [])) (out-roll-Args _)) (as_run (calls_function recorder program_finally_breaks (means_finally_breaks) (func_id 0) [] []) (ap (λ level. calls_value recorder program_finally_breaks (means_finally_breaks) level [] [] (state_finally_breaks None [] [] [] 0 297 [])) (outs-Func _)) (as_run (inside recorder program_finally_breaks (means_finally_breaks) (func_id 0) function_finally_breaks_0 []) (let same : calls_function recorder program_finally_breaks (means_finally_breaks) (func_id 0) [] [] (state_finally_breaks None [] [] [] 0 297 []) ≡ inside recorder program_finally_breaks (means_finally_breaks) (func_id 0) function_finally_breaks_0 [] (state_finally_breaks None [] [] [] 0 297 []) = refl in same) (gives_same (leaves (state_finally_breaks None [] [] [] 0 297 []).frame ((Err (Returned (v.Str (codes "out")))), finally_breaks_0_at_1)) (in_frame recorder program_finally_breaks (func_id 0) function_finally_breaks_0 [] (Err (Returned (v.Str (codes "out")))) finally_breaks_0_at_1 (then_ok (begins recorder (node 0)) _ tt (state_finally_breaks (Some (func_id 0)) [] [] [] 1 296 (began 0 ∷ [])) (leaf refl) (then_ok (means_finally_breaks finally_breaks_n1) _ (v.None, (j.Plain false)) finally_breaks_0_at_2 (stmt_node recorder program_finally_breaks finally_breaks_n1 295 (y.outs-For ((codes "i") ∷ []) false finally_breaks_n2 (finally_breaks_n5 ∷ [])) refl (then_ok (value_finally_breaks finally_breaks_n2) _ ((tuple ((v.Int (pos 1)) ∷ (v.Int (pos 2)) ∷ [])), (j.Plain true)) finally_breaks_0_at_4 (expr_node recorder program_finally_breaks finally_breaks_n2 294 (x.outs-TupleLit (finally_breaks_n3 ∷ finally_breaks_n4 ∷ [])) refl (then_ok (value_finally_breaks finally_breaks_n3) _ ((v.Int (pos 1)), (j.Plain true)) (state_finally_breaks (Some (func_id 0)) [] [] [] 1 293 (began 0 ∷ began 1 ∷ began 2 ∷ began 3 ∷ [])) (expr_node recorder program_finally_breaks finally_breaks_n3 293 (x.outs-IntLit (pos 1)) refl (leaf (simp views))) (then_ok (value_finally_breaks finally_breaks_n4) _ ((v.Int (pos 2)), (j.Plain true)) (state_finally_breaks (Some (func_id 0)) [] [] [] 1 292 finally_breaks_0_seen_5) (expr_node recorder program_finally_breaks finally_breaks_n4 292 (x.outs-IntLit (pos 2)) refl (leaf (simp views))) (leaf (first_of (simp views, simp tuples, search)))))) (as_run (for_walk recorder program_finally_breaks (value_finally_breaks) (means_finally_breaks) (node 1) ((codes "i") ∷ []) false (finally_breaks_n5 ∷ []) (walk_at (tuple ((v.Int (pos 1)) ∷ (v.Int (pos 2)) ∷ [])) 0 0 0)) (ap (λ level. (if is_walked [] level then for_walk recorder program_finally_breaks (value_finally_breaks) (means_finally_breaks) (node 1) ((codes "i") ∷ []) false (finally_breaks_n5 ∷ []) (walk_at (tuple ((v.Int (pos 1)) ∷ (v.Int (pos 2)) ∷ [])) (size_at [] (dict_walked [] level)) (changes_at [] (dict_walked [] level)) 0) else raises built.TypeError) finally_breaks_0_at_4) (tuple-out _)) (as_run (for_turn recorder program_finally_breaks (value_finally_breaks) (means_finally_breaks) (node 1) (λ next. for_walk recorder program_finally_breaks (value_finally_breaks) (means_finally_breaks) (node 1) ((codes "i") ∷ []) false (finally_breaks_n5 ∷ []) next) ((codes "i") ∷ []) false (finally_breaks_n5 ∷ []) (walk_at (tuple ((v.Int (pos 1)) ∷ (v.Int (pos 2)) ∷ [])) 0 0 0)) (for_walk-out recorder program_finally_breaks (node 1) ((codes "i") ∷ []) false (finally_breaks_n5 ∷ []) (walk_at (tuple ((v.Int (pos 1)) ∷ (v.Int (pos 2)) ∷ [])) 0 0 0) finally_breaks_0_at_4) (then_ok (checks (walk_at (tuple ((v.Int (pos 1)) ∷ (v.Int (pos 2)) ∷ [])) 0 0 0)) _ tt finally_breaks_0_at_4 (leaf (first_of (simp views, simp tuples, search))) (as_run (for_element recorder program_finally_breaks (value_finally_breaks) (means_finally_breaks) (node 1) (λ next. for_walk recorder program_finally_breaks (value_finally_breaks) (means_finally_breaks) (node 1) ((codes "i") ∷ []) false (finally_breaks_n5 ∷ []) next) ((codes "i") ∷ []) false (finally_breaks_n5 ∷ []) (walk_at (tuple ((v.Int (pos 1)) ∷ (v.Int (pos 2)) ∷ [])) 0 0 0) (Some (v.Int (pos 1)))) (ap (λ level. for_element recorder program_finally_breaks (value_finally_breaks) (means_finally_breaks) (node 1) (λ next. for_walk recorder program_finally_breaks (value_finally_breaks) (means_finally_breaks) (node 1) ((codes "i") ∷ []) false (finally_breaks_n5 ∷ []) next) ((codes "i") ∷ []) false (finally_breaks_n5 ∷ []) (walk_at (tuple ((v.Int (pos 1)) ∷ (v.Int (pos 2)) ∷ [])) 0 0 0) (element_at [] level 0) finally_breaks_0_at_4) (tuple-out _)) (then_ok (takes 1) (λ _. takes_element recorder program_finally_breaks (node 1) ((codes "i") ∷ []) false (finally_breaks_n5 ∷ []) (for_walk recorder program_finally_breaks (value_finally_breaks) (means_finally_breaks) (node 1) ((codes "i") ∷ []) false (finally_breaks_n5 ∷ []) (walk_at (tuple ((v.Int (pos 1)) ∷ (v.Int (pos 2)) ∷ [])) 0 0 1)) (walk_at (tuple ((v.Int (pos 1)) ∷ (v.Int (pos 2)) ∷ [])) 0 0 0) (v.Int (pos 1))) tt finally_breaks_0_at_5 (leaf refl) (then_ok (makes_element (gives_new_tuples (out-Value (tuple ((v.Int (pos 1)) ∷ (v.Int (pos 2)) ∷ [])))) (v.Int (pos 1))) (λ _. decides recorder (node 1) (j.Plain true) true >> (binds_names false ((codes "i") ∷ []) (v.Int (pos 1)) >> (after_end (block recorder program_finally_breaks (means_finally_breaks) (finally_breaks_n5 ∷ [])) (after_turn (for_walk recorder program_finally_breaks (value_finally_breaks) (means_finally_breaks) (node 1) ((codes "i") ∷ []) false (finally_breaks_n5 ∷ []) (walk_at (tuple ((v.Int (pos 1)) ∷ (v.Int (pos 2)) ∷ [])) 0 0 1)))))) tt finally_breaks_0_at_5 (leaf (first_of (simp views, simp tuples, search))) (then_ok (decides recorder (node 1) (j.Plain true) true) (λ _. binds_names false ((codes "i") ∷ []) (v.Int (pos 1)) >> (after_end (block recorder program_finally_breaks (means_finally_breaks) (finally_breaks_n5 ∷ [])) (after_turn (for_walk recorder program_finally_breaks (value_finally_breaks) (means_finally_breaks) (node 1) ((codes "i") ∷ []) false (finally_breaks_n5 ∷ []) (walk_at (tuple ((v.Int (pos 1)) ∷ (v.Int (pos 2)) ∷ [])) 0 0 1))))) tt (state_finally_breaks (Some (func_id 0)) [] [] [] 1 289 finally_breaks_0_seen_4) (leaf refl) (then_ok (binds_names false ((codes "i") ∷ []) (v.Int (pos 1))) (λ _. (after_end (block recorder program_finally_breaks (means_finally_breaks) (finally_breaks_n5 ∷ [])) (after_turn (for_walk recorder program_finally_breaks (value_finally_breaks) (means_finally_breaks) (node 1) ((codes "i") ∷ []) false (finally_breaks_n5 ∷ []) (walk_at (tuple ((v.Int (pos 1)) ∷ (v.Int (pos 2)) ∷ [])) 0 0 1))))) (v.None, (j.Plain false)) (state_finally_breaks (Some (func_id 0)) (((codes "i"), (v.Int (pos 1))) ∷ []) [] [] 1 289 finally_breaks_0_seen_4) (leaf (first_of (simp views, simp tuples, search))) (then_after (block recorder program_finally_breaks (means_finally_breaks) (finally_breaks_n5 ∷ [])) (after_turn (for_walk recorder program_finally_breaks (value_finally_breaks) (means_finally_breaks) (node 1) ((codes "i") ∷ []) false (finally_breaks_n5 ∷ []) (walk_at (tuple ((v.Int (pos 1)) ∷ (v.Int (pos 2)) ∷ [])) 0 0 1))) (Err Broke) finally_breaks_0_at_2 (then_err (means_finally_breaks finally_breaks_n5) _ Broke finally_breaks_0_at_2 (stmt_node recorder program_finally_breaks finally_breaks_n5 288 (y.outs-Try (finally_breaks_n6 ∷ []) [] None (Some (finally_breaks_n8 ∷ []))) refl (then_after (after_end (block recorder program_finally_breaks (means_finally_breaks) (finally_breaks_n6 ∷ [])) (after_body recorder program_finally_breaks (value_finally_breaks) (means_finally_breaks) [] None)) (finally recorder program_finally_breaks (value_finally_breaks) (means_finally_breaks) (Some (finally_breaks_n8 ∷ []))) (Err (Returned (v.Int (pos 1)))) finally_breaks_0_at_3 (then_after (block recorder program_finally_breaks (means_finally_breaks) (finally_breaks_n6 ∷ [])) (after_body recorder program_finally_breaks (value_finally_breaks) (means_finally_breaks) [] None) (Err (Returned (v.Int (pos 1)))) finally_breaks_0_at_3 (then_err (means_finally_breaks finally_breaks_n6) _ (Returned (v.Int (pos 1))) finally_breaks_0_at_3 (stmt_node recorder program_finally_breaks finally_breaks_n6 287 (y.outs-Return (Some finally_breaks_n7)) refl (then_ok (value_finally_breaks finally_breaks_n7) _ ((v.Int (pos 1)), (j.Plain true)) finally_breaks_0_at_3 (expr_node recorder program_finally_breaks finally_breaks_n7 286 (x.outs-Name (codes "i")) refl (leaf (simp views))) (leaf refl)))) (leaf refl)) (then_after (block recorder program_finally_breaks (means_finally_breaks) (finally_breaks_n8 ∷ [])) (kept (Err (Returned (v.Int (pos 1))))) (Err Broke) finally_breaks_0_at_2 (then_err (means_finally_breaks finally_breaks_n8) _ Broke finally_breaks_0_at_2 (stmt_node recorder program_finally_breaks finally_breaks_n8 285 (y.outs-Break) refl (leaf refl))) (leaf refl))))) (leaf refl)))))))))))) (then_err (means_finally_breaks finally_breaks_n9) _ (Returned (v.Str (codes "out"))) finally_breaks_0_at_1 (stmt_node recorder program_finally_breaks finally_breaks_n9 284 (y.outs-Return (Some finally_breaks_n10)) refl (then_ok (value_finally_breaks finally_breaks_n10) _ ((v.Str (codes "out")), (j.Plain true)) finally_breaks_0_at_1 (expr_node recorder program_finally_breaks finally_breaks_n10 283 (x.outs-StrLit (codes "out")) refl (leaf (simp views))) (leaf refl))))))) (simp views)))))))) (leaf refl))

abbrev value_continue_through_finally : Expr → Run Trail Finding
value_continue_through_finally = value_of recorder program_continue_through_finally

abbrev means_continue_through_finally : Stmt → Run Trail Finding
means_continue_through_finally = means recorder program_continue_through_finally

abbrev continue_through_finally_0_seen_1 : Trail
continue_through_finally_0_seen_1 = began 0 ∷ began 1 ∷ began 2 ∷ began 3 ∷ began 4 ∷ began 5 ∷ began 6 ∷ Decided (node 3) (j.Plain true) true ∷ began 7 ∷ began 8 ∷ began 9 ∷ began 10 ∷ began 11 ∷ began 12 ∷ Decided (node 3) (j.Plain true) true ∷ began 7 ∷ began 8 ∷ began 9 ∷ began 10 ∷ began 11 ∷ began 12 ∷ Decided (node 3) (j.Plain false) false ∷ began 13 ∷ began 14 ∷ []

abbrev continue_through_finally_0_seen_2 : Trail
continue_through_finally_0_seen_2 = began 0 ∷ began 1 ∷ began 2 ∷ began 3 ∷ began 4 ∷ began 5 ∷ began 6 ∷ Decided (node 3) (j.Plain true) true ∷ began 7 ∷ began 8 ∷ began 9 ∷ began 10 ∷ began 11 ∷ began 12 ∷ Decided (node 3) (j.Plain true) true ∷ began 7 ∷ began 8 ∷ began 9 ∷ began 10 ∷ began 11 ∷ began 12 ∷ Decided (node 3) (j.Plain false) false ∷ []

abbrev continue_through_finally_0_seen_3 : Trail
continue_through_finally_0_seen_3 = began 0 ∷ began 1 ∷ began 2 ∷ began 3 ∷ began 4 ∷ began 5 ∷ began 6 ∷ Decided (node 3) (j.Plain true) true ∷ began 7 ∷ began 8 ∷ began 9 ∷ began 10 ∷ began 11 ∷ began 12 ∷ Decided (node 3) (j.Plain true) true ∷ began 7 ∷ began 8 ∷ began 9 ∷ began 10 ∷ began 11 ∷ began 12 ∷ []

abbrev continue_through_finally_0_seen_4 : Trail
continue_through_finally_0_seen_4 = began 0 ∷ began 1 ∷ began 2 ∷ began 3 ∷ began 4 ∷ began 5 ∷ began 6 ∷ Decided (node 3) (j.Plain true) true ∷ began 7 ∷ began 8 ∷ began 9 ∷ began 10 ∷ began 11 ∷ began 12 ∷ Decided (node 3) (j.Plain true) true ∷ began 7 ∷ began 8 ∷ began 9 ∷ began 10 ∷ began 11 ∷ []

abbrev continue_through_finally_0_seen_5 : Trail
continue_through_finally_0_seen_5 = began 0 ∷ began 1 ∷ began 2 ∷ began 3 ∷ began 4 ∷ began 5 ∷ began 6 ∷ Decided (node 3) (j.Plain true) true ∷ began 7 ∷ began 8 ∷ began 9 ∷ began 10 ∷ began 11 ∷ began 12 ∷ Decided (node 3) (j.Plain true) true ∷ began 7 ∷ began 8 ∷ []

abbrev continue_through_finally_0_seen_6 : Trail
continue_through_finally_0_seen_6 = began 0 ∷ began 1 ∷ began 2 ∷ began 3 ∷ began 4 ∷ began 5 ∷ began 6 ∷ Decided (node 3) (j.Plain true) true ∷ began 7 ∷ began 8 ∷ began 9 ∷ began 10 ∷ began 11 ∷ began 12 ∷ Decided (node 3) (j.Plain true) true ∷ []

abbrev continue_through_finally_0_seen_7 : Trail
continue_through_finally_0_seen_7 = began 0 ∷ began 1 ∷ began 2 ∷ began 3 ∷ began 4 ∷ began 5 ∷ began 6 ∷ Decided (node 3) (j.Plain true) true ∷ began 7 ∷ began 8 ∷ began 9 ∷ began 10 ∷ began 11 ∷ began 12 ∷ []

abbrev continue_through_finally_0_seen_8 : Trail
continue_through_finally_0_seen_8 = began 0 ∷ began 1 ∷ began 2 ∷ began 3 ∷ began 4 ∷ began 5 ∷ began 6 ∷ Decided (node 3) (j.Plain true) true ∷ began 7 ∷ began 8 ∷ began 9 ∷ began 10 ∷ began 11 ∷ []

abbrev continue_through_finally_0_seen_9 : Trail
continue_through_finally_0_seen_9 = began 0 ∷ began 1 ∷ began 2 ∷ began 3 ∷ began 4 ∷ began 5 ∷ began 6 ∷ Decided (node 3) (j.Plain true) true ∷ began 7 ∷ began 8 ∷ []

abbrev continue_through_finally_0_seen_10 : Trail
continue_through_finally_0_seen_10 = began 0 ∷ began 1 ∷ began 2 ∷ began 3 ∷ began 4 ∷ began 5 ∷ began 6 ∷ Decided (node 3) (j.Plain true) true ∷ []

abbrev continue_through_finally_0_seen_11 : Trail
continue_through_finally_0_seen_11 = began 0 ∷ began 1 ∷ began 2 ∷ began 3 ∷ began 4 ∷ began 5 ∷ began 6 ∷ []

abbrev continue_through_finally_0_at_1 : State World Trail
continue_through_finally_0_at_1 = state_continue_through_finally (Some (func_id 0)) (((codes "a"), (ref 0)) ∷ ((codes "i"), (v.Int (pos 2))) ∷ []) [] (object.List ((v.Int (pos 1)) ∷ (v.Int (pos 2)) ∷ []) ∷ []) 1 270 continue_through_finally_0_seen_1

abbrev continue_through_finally_0_at_2 : State World Trail
continue_through_finally_0_at_2 = state_continue_through_finally (Some (func_id 0)) (((codes "a"), (ref 0)) ∷ ((codes "i"), (v.Int (pos 2))) ∷ []) [] (object.List ((v.Int (pos 1)) ∷ (v.Int (pos 2)) ∷ []) ∷ []) 1 272 continue_through_finally_0_seen_2

abbrev continue_through_finally_0_at_3 : State World Trail
continue_through_finally_0_at_3 = state_continue_through_finally (Some (func_id 0)) (((codes "a"), (ref 0)) ∷ ((codes "i"), (v.Int (pos 2))) ∷ []) [] (object.List ((v.Int (pos 1)) ∷ (v.Int (pos 2)) ∷ []) ∷ []) 1 272 continue_through_finally_0_seen_3

abbrev continue_through_finally_0_at_4 : State World Trail
continue_through_finally_0_at_4 = state_continue_through_finally (Some (func_id 0)) (((codes "a"), (ref 0)) ∷ ((codes "i"), (v.Int (pos 1))) ∷ []) [] (object.List ((v.Int (pos 1)) ∷ []) ∷ []) 1 280 continue_through_finally_0_seen_7

abbrev continue_through_finally_0_at_5 : State World Trail
continue_through_finally_0_at_5 = state_continue_through_finally (Some (func_id 0)) (((codes "a"), (ref 0)) ∷ ((codes "i"), (v.Int (pos 1))) ∷ []) [] (object.List ((v.Int (pos 1)) ∷ []) ∷ []) 1 279 continue_through_finally_0_seen_7

abbrev continue_through_finally_0_at_6 : State World Trail
continue_through_finally_0_at_6 = state_continue_through_finally (Some (func_id 0)) (((codes "a"), (ref 0)) ∷ ((codes "i"), (v.Int (pos 2))) ∷ []) [] (object.List ((v.Int (pos 1)) ∷ []) ∷ []) 1 277 continue_through_finally_0_seen_5

abbrev continue_through_finally_0_at_7 : State World Trail
continue_through_finally_0_at_7 = state_continue_through_finally (Some (func_id 0)) (((codes "a"), (ref 0)) ∷ ((codes "i"), (v.Int (pos 2))) ∷ []) [] (object.List ((v.Int (pos 1)) ∷ []) ∷ []) 1 274 continue_through_finally_0_seen_4

abbrev continue_through_finally_0_at_8 : State World Trail
continue_through_finally_0_at_8 = state_continue_through_finally (Some (func_id 0)) (((codes "a"), (ref 0)) ∷ ((codes "i"), (v.Int (pos 1))) ∷ []) [] (object.List [] ∷ []) 1 285 continue_through_finally_0_seen_9

abbrev continue_through_finally_0_at_9 : State World Trail
continue_through_finally_0_at_9 = state_continue_through_finally (Some (func_id 0)) (((codes "a"), (ref 0)) ∷ ((codes "i"), (v.Int (pos 1))) ∷ []) [] (object.List [] ∷ []) 1 282 continue_through_finally_0_seen_8

abbrev continue_through_finally_0_at_10 : State World Trail
continue_through_finally_0_at_10 = state_continue_through_finally (Some (func_id 0)) (((codes "a"), (ref 0)) ∷ []) [] (object.List [] ∷ []) 1 288 continue_through_finally_0_seen_11

abbrev continue_through_finally_0_at_11 : State World Trail
continue_through_finally_0_at_11 = state_continue_through_finally (Some (func_id 0)) (((codes "a"), (ref 0)) ∷ []) [] (object.List [] ∷ []) 1 287 continue_through_finally_0_seen_11

pub continue_through_finally_0 : Yields (means_continue_through_finally continue_through_finally_t3) (state_continue_through_finally None [] [] [] 0 300 []) ((Ok (v.None, (j.Plain false))), (state_continue_through_finally None (((codes "var_8"), (ref 0)) ∷ []) [] (object.List ((v.Int (pos 1)) ∷ (v.Int (pos 2)) ∷ []) ∷ []) 0 270 continue_through_finally_0_seen_1))
unfolding equal ordered
continue_through_finally_0 =
    stmt_node recorder program_continue_through_finally continue_through_finally_t3 299 (y.outs-Assign ((target.Name (codes "var_8")) ∷ []) false None continue_through_finally_t2) refl (then_ok (value_continue_through_finally continue_through_finally_t2) _ ((ref 0), (j.Plain true)) (state_continue_through_finally None [] [] (object.List ((v.Int (pos 1)) ∷ (v.Int (pos 2)) ∷ []) ∷ []) 0 270 continue_through_finally_0_seen_1) (expr_node recorder program_continue_through_finally continue_through_finally_t2 298 (x.outs-Method continue_through_finally_t1 (codes "f") (args [] [])) refl (then_ok (value_continue_through_finally continue_through_finally_t1) _ (v.ModuleRef, (j.Plain true)) (state_continue_through_finally None [] [] [] 0 297 []) (expr_node recorder program_continue_through_finally continue_through_finally_t1 297 (x.outs-Name (codes "module_0")) refl (leaf (simp views))) (then_ok (finds program_continue_through_finally v.ModuleRef (codes "f")) _ (callee.Value (v.Func (func_id 0))) (state_continue_through_finally None [] [] [] 0 297 []) (leaf (first_of (simp views, simp tuples, search))) (as_run (plain_arguments recorder program_continue_through_finally (value_continue_through_finally) (means_continue_through_finally) (callee.Value (v.Func (func_id 0))) [] [] []) (ap (λ args. plain_arguments recorder program_continue_through_finally (value_continue_through_finally) (means_continue_through_finally) (callee.Value (v.Func (func_id 0))) [] args.plain args.named (state_continue_through_finally None [] [] [] 0 297 [])) (out-roll-Args _)) (as_run (calls_function recorder program_continue_through_finally (means_continue_through_finally) (func_id 0) [] []) (ap (λ level. calls_value recorder program_continue_through_finally (means_continue_through_finally) level [] [] (state_continue_through_finally None [] [] [] 0 297 [])) (outs-Func _)) (as_run (inside recorder program_continue_through_finally (means_continue_through_finally) (func_id 0) function_continue_through_finally_0 []) (let same : calls_function recorder program_continue_through_finally (means_continue_through_finally) (func_id 0) [] [] (state_continue_through_finally None [] [] [] 0 297 []) ≡ inside recorder program_continue_through_finally (means_continue_through_finally) (func_id 0) function_continue_through_finally_0 [] (state_continue_through_finally None [] [] [] 0 297 []) = refl in same) (gives_same (leaves (state_continue_through_finally None [] [] [] 0 297 []).frame ((Err (Returned (ref 0))), continue_through_finally_0_at_1)) (in_frame recorder program_continue_through_finally (func_id 0) function_continue_through_finally_0 [] (Err (Returned (ref 0))) continue_through_finally_0_at_1 (then_ok (begins recorder (node 0)) _ tt (state_continue_through_finally (Some (func_id 0)) [] [] [] 1 296 (began 0 ∷ [])) (leaf refl) (then_ok (means_continue_through_finally continue_through_finally_n1) _ (v.None, (j.Plain false)) (state_continue_through_finally (Some (func_id 0)) (((codes "a"), (ref 0)) ∷ []) [] (object.List [] ∷ []) 1 294 (began 0 ∷ began 1 ∷ began 2 ∷ [])) (stmt_node recorder program_continue_through_finally continue_through_finally_n1 295 (y.outs-Assign ((target.Name (codes "a")) ∷ []) false None continue_through_finally_n2) refl (then_ok (value_continue_through_finally continue_through_finally_n2) _ ((ref 0), (j.Plain false)) (state_continue_through_finally (Some (func_id 0)) [] [] (object.List [] ∷ []) 1 294 (began 0 ∷ began 1 ∷ began 2 ∷ [])) (expr_node recorder program_continue_through_finally continue_through_finally_n2 294 (x.outs-ListLit []) refl (leaf (first_of (simp views, simp tuples, search)))) (leaf refl))) (then_ok (means_continue_through_finally continue_through_finally_n3) _ (v.None, (j.Plain false)) continue_through_finally_0_at_2 (stmt_node recorder program_continue_through_finally continue_through_finally_n3 293 (y.outs-For ((codes "i") ∷ []) false continue_through_finally_n4 (continue_through_finally_n7 ∷ [])) refl (then_ok (value_continue_through_finally continue_through_finally_n4) _ ((tuple ((v.Int (pos 1)) ∷ (v.Int (pos 2)) ∷ [])), (j.Plain true)) continue_through_finally_0_at_10 (expr_node recorder program_continue_through_finally continue_through_finally_n4 292 (x.outs-TupleLit (continue_through_finally_n5 ∷ continue_through_finally_n6 ∷ [])) refl (then_ok (value_continue_through_finally continue_through_finally_n5) _ ((v.Int (pos 1)), (j.Plain true)) (state_continue_through_finally (Some (func_id 0)) (((codes "a"), (ref 0)) ∷ []) [] (object.List [] ∷ []) 1 291 (began 0 ∷ began 1 ∷ began 2 ∷ began 3 ∷ began 4 ∷ began 5 ∷ [])) (expr_node recorder program_continue_through_finally continue_through_finally_n5 291 (x.outs-IntLit (pos 1)) refl (leaf (simp views))) (then_ok (value_continue_through_finally continue_through_finally_n6) _ ((v.Int (pos 2)), (j.Plain true)) (state_continue_through_finally (Some (func_id 0)) (((codes "a"), (ref 0)) ∷ []) [] (object.List [] ∷ []) 1 290 continue_through_finally_0_seen_11) (expr_node recorder program_continue_through_finally continue_through_finally_n6 290 (x.outs-IntLit (pos 2)) refl (leaf (simp views))) (leaf (first_of (simp views, simp tuples, search)))))) (as_run (for_walk recorder program_continue_through_finally (value_continue_through_finally) (means_continue_through_finally) (node 3) ((codes "i") ∷ []) false (continue_through_finally_n7 ∷ []) (walk_at (tuple ((v.Int (pos 1)) ∷ (v.Int (pos 2)) ∷ [])) 0 0 0)) (ap (λ level. (if is_walked (object.List [] ∷ []) level then for_walk recorder program_continue_through_finally (value_continue_through_finally) (means_continue_through_finally) (node 3) ((codes "i") ∷ []) false (continue_through_finally_n7 ∷ []) (walk_at (tuple ((v.Int (pos 1)) ∷ (v.Int (pos 2)) ∷ [])) (size_at (object.List [] ∷ []) (dict_walked (object.List [] ∷ []) level)) (changes_at (object.List [] ∷ []) (dict_walked (object.List [] ∷ []) level)) 0) else raises built.TypeError) continue_through_finally_0_at_10) (tuple-out _)) (as_run (for_turn recorder program_continue_through_finally (value_continue_through_finally) (means_continue_through_finally) (node 3) (λ next. for_walk recorder program_continue_through_finally (value_continue_through_finally) (means_continue_through_finally) (node 3) ((codes "i") ∷ []) false (continue_through_finally_n7 ∷ []) next) ((codes "i") ∷ []) false (continue_through_finally_n7 ∷ []) (walk_at (tuple ((v.Int (pos 1)) ∷ (v.Int (pos 2)) ∷ [])) 0 0 0)) (for_walk-out recorder program_continue_through_finally (node 3) ((codes "i") ∷ []) false (continue_through_finally_n7 ∷ []) (walk_at (tuple ((v.Int (pos 1)) ∷ (v.Int (pos 2)) ∷ [])) 0 0 0) continue_through_finally_0_at_10) (then_ok (checks (walk_at (tuple ((v.Int (pos 1)) ∷ (v.Int (pos 2)) ∷ [])) 0 0 0)) _ tt continue_through_finally_0_at_10 (leaf (first_of (simp views, simp tuples, search))) (as_run (for_element recorder program_continue_through_finally (value_continue_through_finally) (means_continue_through_finally) (node 3) (λ next. for_walk recorder program_continue_through_finally (value_continue_through_finally) (means_continue_through_finally) (node 3) ((codes "i") ∷ []) false (continue_through_finally_n7 ∷ []) next) ((codes "i") ∷ []) false (continue_through_finally_n7 ∷ []) (walk_at (tuple ((v.Int (pos 1)) ∷ (v.Int (pos 2)) ∷ [])) 0 0 0) (Some (v.Int (pos 1)))) (ap (λ level. for_element recorder program_continue_through_finally (value_continue_through_finally) (means_continue_through_finally) (node 3) (λ next. for_walk recorder program_continue_through_finally (value_continue_through_finally) (means_continue_through_finally) (node 3) ((codes "i") ∷ []) false (continue_through_finally_n7 ∷ []) next) ((codes "i") ∷ []) false (continue_through_finally_n7 ∷ []) (walk_at (tuple ((v.Int (pos 1)) ∷ (v.Int (pos 2)) ∷ [])) 0 0 0) (element_at (object.List [] ∷ []) level 0) continue_through_finally_0_at_10) (tuple-out _)) (then_ok (takes 1) (λ _. takes_element recorder program_continue_through_finally (node 3) ((codes "i") ∷ []) false (continue_through_finally_n7 ∷ []) (for_walk recorder program_continue_through_finally (value_continue_through_finally) (means_continue_through_finally) (node 3) ((codes "i") ∷ []) false (continue_through_finally_n7 ∷ []) (walk_at (tuple ((v.Int (pos 1)) ∷ (v.Int (pos 2)) ∷ [])) 0 0 1)) (walk_at (tuple ((v.Int (pos 1)) ∷ (v.Int (pos 2)) ∷ [])) 0 0 0) (v.Int (pos 1))) tt continue_through_finally_0_at_11 (leaf refl) (then_ok (makes_element (gives_new_tuples (out-Value (tuple ((v.Int (pos 1)) ∷ (v.Int (pos 2)) ∷ [])))) (v.Int (pos 1))) (λ _. decides recorder (node 3) (j.Plain true) true >> (binds_names false ((codes "i") ∷ []) (v.Int (pos 1)) >> (after_end (block recorder program_continue_through_finally (means_continue_through_finally) (continue_through_finally_n7 ∷ [])) (after_turn (for_walk recorder program_continue_through_finally (value_continue_through_finally) (means_continue_through_finally) (node 3) ((codes "i") ∷ []) false (continue_through_finally_n7 ∷ []) (walk_at (tuple ((v.Int (pos 1)) ∷ (v.Int (pos 2)) ∷ [])) 0 0 1)))))) tt continue_through_finally_0_at_11 (leaf (first_of (simp views, simp tuples, search))) (then_ok (decides recorder (node 3) (j.Plain true) true) (λ _. binds_names false ((codes "i") ∷ []) (v.Int (pos 1)) >> (after_end (block recorder program_continue_through_finally (means_continue_through_finally) (continue_through_finally_n7 ∷ [])) (after_turn (for_walk recorder program_continue_through_finally (value_continue_through_finally) (means_continue_through_finally) (node 3) ((codes "i") ∷ []) false (continue_through_finally_n7 ∷ []) (walk_at (tuple ((v.Int (pos 1)) ∷ (v.Int (pos 2)) ∷ [])) 0 0 1))))) tt (state_continue_through_finally (Some (func_id 0)) (((codes "a"), (ref 0)) ∷ []) [] (object.List [] ∷ []) 1 287 continue_through_finally_0_seen_10) (leaf refl) (then_ok (binds_names false ((codes "i") ∷ []) (v.Int (pos 1))) (λ _. (after_end (block recorder program_continue_through_finally (means_continue_through_finally) (continue_through_finally_n7 ∷ [])) (after_turn (for_walk recorder program_continue_through_finally (value_continue_through_finally) (means_continue_through_finally) (node 3) ((codes "i") ∷ []) false (continue_through_finally_n7 ∷ []) (walk_at (tuple ((v.Int (pos 1)) ∷ (v.Int (pos 2)) ∷ [])) 0 0 1))))) (v.None, (j.Plain false)) (state_continue_through_finally (Some (func_id 0)) (((codes "a"), (ref 0)) ∷ ((codes "i"), (v.Int (pos 1))) ∷ []) [] (object.List [] ∷ []) 1 287 continue_through_finally_0_seen_10) (leaf (first_of (simp views, simp tuples, search))) (then_after (block recorder program_continue_through_finally (means_continue_through_finally) (continue_through_finally_n7 ∷ [])) (after_turn (for_walk recorder program_continue_through_finally (value_continue_through_finally) (means_continue_through_finally) (node 3) ((codes "i") ∷ []) false (continue_through_finally_n7 ∷ []) (walk_at (tuple ((v.Int (pos 1)) ∷ (v.Int (pos 2)) ∷ [])) 0 0 1))) (Err Continued) continue_through_finally_0_at_4 (then_err (means_continue_through_finally continue_through_finally_n7) _ Continued continue_through_finally_0_at_4 (stmt_node recorder program_continue_through_finally continue_through_finally_n7 286 (y.outs-Try (continue_through_finally_n8 ∷ []) [] None (Some (continue_through_finally_n9 ∷ []))) refl (then_after (after_end (block recorder program_continue_through_finally (means_continue_through_finally) (continue_through_finally_n8 ∷ [])) (after_body recorder program_continue_through_finally (value_continue_through_finally) (means_continue_through_finally) [] None)) (finally recorder program_continue_through_finally (value_continue_through_finally) (means_continue_through_finally) (Some (continue_through_finally_n9 ∷ []))) (Err Continued) continue_through_finally_0_at_8 (then_after (block recorder program_continue_through_finally (means_continue_through_finally) (continue_through_finally_n8 ∷ [])) (after_body recorder program_continue_through_finally (value_continue_through_finally) (means_continue_through_finally) [] None) (Err Continued) continue_through_finally_0_at_8 (then_err (means_continue_through_finally continue_through_finally_n8) _ Continued continue_through_finally_0_at_8 (stmt_node recorder program_continue_through_finally continue_through_finally_n8 285 (y.outs-Continue) refl (leaf refl))) (leaf refl)) (then_after (block recorder program_continue_through_finally (means_continue_through_finally) (continue_through_finally_n9 ∷ [])) (kept (Err Continued)) (Ok (v.None, (j.Plain false))) continue_through_finally_0_at_4 (then_ok (means_continue_through_finally continue_through_finally_n9) _ (v.None, (j.Plain false)) continue_through_finally_0_at_4 (stmt_node recorder program_continue_through_finally continue_through_finally_n9 284 (y.outs-Bare continue_through_finally_n10) refl (then_ok (value_continue_through_finally continue_through_finally_n10) _ (v.None, (j.Plain false)) continue_through_finally_0_at_4 (expr_node recorder program_continue_through_finally continue_through_finally_n10 283 (x.outs-Method continue_through_finally_n11 (codes "append") (args (continue_through_finally_n12 ∷ []) [])) refl (then_ok (value_continue_through_finally continue_through_finally_n11) _ ((ref 0), (j.Plain false)) continue_through_finally_0_at_9 (expr_node recorder program_continue_through_finally continue_through_finally_n11 282 (x.outs-Name (codes "a")) refl (leaf (simp views))) (then_ok (finds program_continue_through_finally (ref 0) (codes "append")) _ (callee.Method (ref 0) (codes "append")) continue_through_finally_0_at_9 (leaf (first_of (simp views, simp tuples, search))) (as_run (plain_arguments recorder program_continue_through_finally (value_continue_through_finally) (means_continue_through_finally) (callee.Method (ref 0) (codes "append")) [] (continue_through_finally_n12 ∷ []) []) (ap (λ args. plain_arguments recorder program_continue_through_finally (value_continue_through_finally) (means_continue_through_finally) (callee.Method (ref 0) (codes "append")) [] args.plain args.named continue_through_finally_0_at_9) (out-roll-Args _)) (then_ok (value_continue_through_finally continue_through_finally_n12) _ ((v.Int (pos 1)), (j.Plain true)) (state_continue_through_finally (Some (func_id 0)) (((codes "a"), (ref 0)) ∷ ((codes "i"), (v.Int (pos 1))) ∷ []) [] (object.List [] ∷ []) 1 281 continue_through_finally_0_seen_7) (expr_node recorder program_continue_through_finally continue_through_finally_n12 281 (x.outs-Name (codes "i")) refl (leaf (simp views))) (leaf (first_of (simp views, simp tuples, search)))))))) (leaf refl))) (leaf refl)) (leaf refl))))) (as_run (for_turn recorder program_continue_through_finally (value_continue_through_finally) (means_continue_through_finally) (node 3) (λ next. for_walk recorder program_continue_through_finally (value_continue_through_finally) (means_continue_through_finally) (node 3) ((codes "i") ∷ []) false (continue_through_finally_n7 ∷ []) next) ((codes "i") ∷ []) false (continue_through_finally_n7 ∷ []) (walk_at (tuple ((v.Int (pos 1)) ∷ (v.Int (pos 2)) ∷ [])) 0 0 1)) (for_walk-out recorder program_continue_through_finally (node 3) ((codes "i") ∷ []) false (continue_through_finally_n7 ∷ []) (walk_at (tuple ((v.Int (pos 1)) ∷ (v.Int (pos 2)) ∷ [])) 0 0 1) continue_through_finally_0_at_4) (then_ok (checks (walk_at (tuple ((v.Int (pos 1)) ∷ (v.Int (pos 2)) ∷ [])) 0 0 1)) _ tt continue_through_finally_0_at_4 (leaf (first_of (simp views, simp tuples, search))) (as_run (for_element recorder program_continue_through_finally (value_continue_through_finally) (means_continue_through_finally) (node 3) (λ next. for_walk recorder program_continue_through_finally (value_continue_through_finally) (means_continue_through_finally) (node 3) ((codes "i") ∷ []) false (continue_through_finally_n7 ∷ []) next) ((codes "i") ∷ []) false (continue_through_finally_n7 ∷ []) (walk_at (tuple ((v.Int (pos 1)) ∷ (v.Int (pos 2)) ∷ [])) 0 0 1) (Some (v.Int (pos 2)))) (ap (λ level. for_element recorder program_continue_through_finally (value_continue_through_finally) (means_continue_through_finally) (node 3) (λ next. for_walk recorder program_continue_through_finally (value_continue_through_finally) (means_continue_through_finally) (node 3) ((codes "i") ∷ []) false (continue_through_finally_n7 ∷ []) next) ((codes "i") ∷ []) false (continue_through_finally_n7 ∷ []) (walk_at (tuple ((v.Int (pos 1)) ∷ (v.Int (pos 2)) ∷ [])) 0 0 1) (element_at (object.List ((v.Int (pos 1)) ∷ []) ∷ []) level 1) continue_through_finally_0_at_4) (tuple-out _)) (then_ok (takes 1) (λ _. takes_element recorder program_continue_through_finally (node 3) ((codes "i") ∷ []) false (continue_through_finally_n7 ∷ []) (for_walk recorder program_continue_through_finally (value_continue_through_finally) (means_continue_through_finally) (node 3) ((codes "i") ∷ []) false (continue_through_finally_n7 ∷ []) (walk_at (tuple ((v.Int (pos 1)) ∷ (v.Int (pos 2)) ∷ [])) 0 0 2)) (walk_at (tuple ((v.Int (pos 1)) ∷ (v.Int (pos 2)) ∷ [])) 0 0 1) (v.Int (pos 2))) tt continue_through_finally_0_at_5 (leaf refl) (then_ok (makes_element (gives_new_tuples (out-Value (tuple ((v.Int (pos 1)) ∷ (v.Int (pos 2)) ∷ [])))) (v.Int (pos 2))) (λ _. decides recorder (node 3) (j.Plain true) true >> (binds_names false ((codes "i") ∷ []) (v.Int (pos 2)) >> (after_end (block recorder program_continue_through_finally (means_continue_through_finally) (continue_through_finally_n7 ∷ [])) (after_turn (for_walk recorder program_continue_through_finally (value_continue_through_finally) (means_continue_through_finally) (node 3) ((codes "i") ∷ []) false (continue_through_finally_n7 ∷ []) (walk_at (tuple ((v.Int (pos 1)) ∷ (v.Int (pos 2)) ∷ [])) 0 0 2)))))) tt continue_through_finally_0_at_5 (leaf (first_of (simp views, simp tuples, search))) (then_ok (decides recorder (node 3) (j.Plain true) true) (λ _. binds_names false ((codes "i") ∷ []) (v.Int (pos 2)) >> (after_end (block recorder program_continue_through_finally (means_continue_through_finally) (continue_through_finally_n7 ∷ [])) (after_turn (for_walk recorder program_continue_through_finally (value_continue_through_finally) (means_continue_through_finally) (node 3) ((codes "i") ∷ []) false (continue_through_finally_n7 ∷ []) (walk_at (tuple ((v.Int (pos 1)) ∷ (v.Int (pos 2)) ∷ [])) 0 0 2))))) tt (state_continue_through_finally (Some (func_id 0)) (((codes "a"), (ref 0)) ∷ ((codes "i"), (v.Int (pos 1))) ∷ []) [] (object.List ((v.Int (pos 1)) ∷ []) ∷ []) 1 279 continue_through_finally_0_seen_6) (leaf refl) (then_ok (binds_names false ((codes "i") ∷ []) (v.Int (pos 2))) (λ _. (after_end (block recorder program_continue_through_finally (means_continue_through_finally) (continue_through_finally_n7 ∷ [])) (after_turn (for_walk recorder program_continue_through_finally (value_continue_through_finally) (means_continue_through_finally) (node 3) ((codes "i") ∷ []) false (continue_through_finally_n7 ∷ []) (walk_at (tuple ((v.Int (pos 1)) ∷ (v.Int (pos 2)) ∷ [])) 0 0 2))))) (v.None, (j.Plain false)) (state_continue_through_finally (Some (func_id 0)) (((codes "a"), (ref 0)) ∷ ((codes "i"), (v.Int (pos 2))) ∷ []) [] (object.List ((v.Int (pos 1)) ∷ []) ∷ []) 1 279 continue_through_finally_0_seen_6) (leaf (first_of (simp views, simp tuples, search))) (then_after (block recorder program_continue_through_finally (means_continue_through_finally) (continue_through_finally_n7 ∷ [])) (after_turn (for_walk recorder program_continue_through_finally (value_continue_through_finally) (means_continue_through_finally) (node 3) ((codes "i") ∷ []) false (continue_through_finally_n7 ∷ []) (walk_at (tuple ((v.Int (pos 1)) ∷ (v.Int (pos 2)) ∷ [])) 0 0 2))) (Err Continued) continue_through_finally_0_at_3 (then_err (means_continue_through_finally continue_through_finally_n7) _ Continued continue_through_finally_0_at_3 (stmt_node recorder program_continue_through_finally continue_through_finally_n7 278 (y.outs-Try (continue_through_finally_n8 ∷ []) [] None (Some (continue_through_finally_n9 ∷ []))) refl (then_after (after_end (block recorder program_continue_through_finally (means_continue_through_finally) (continue_through_finally_n8 ∷ [])) (after_body recorder program_continue_through_finally (value_continue_through_finally) (means_continue_through_finally) [] None)) (finally recorder program_continue_through_finally (value_continue_through_finally) (means_continue_through_finally) (Some (continue_through_finally_n9 ∷ []))) (Err Continued) continue_through_finally_0_at_6 (then_after (block recorder program_continue_through_finally (means_continue_through_finally) (continue_through_finally_n8 ∷ [])) (after_body recorder program_continue_through_finally (value_continue_through_finally) (means_continue_through_finally) [] None) (Err Continued) continue_through_finally_0_at_6 (then_err (means_continue_through_finally continue_through_finally_n8) _ Continued continue_through_finally_0_at_6 (stmt_node recorder program_continue_through_finally continue_through_finally_n8 277 (y.outs-Continue) refl (leaf refl))) (leaf refl)) (then_after (block recorder program_continue_through_finally (means_continue_through_finally) (continue_through_finally_n9 ∷ [])) (kept (Err Continued)) (Ok (v.None, (j.Plain false))) continue_through_finally_0_at_3 (then_ok (means_continue_through_finally continue_through_finally_n9) _ (v.None, (j.Plain false)) continue_through_finally_0_at_3 (stmt_node recorder program_continue_through_finally continue_through_finally_n9 276 (y.outs-Bare continue_through_finally_n10) refl (then_ok (value_continue_through_finally continue_through_finally_n10) _ (v.None, (j.Plain false)) continue_through_finally_0_at_3 (expr_node recorder program_continue_through_finally continue_through_finally_n10 275 (x.outs-Method continue_through_finally_n11 (codes "append") (args (continue_through_finally_n12 ∷ []) [])) refl (then_ok (value_continue_through_finally continue_through_finally_n11) _ ((ref 0), (j.Plain true)) continue_through_finally_0_at_7 (expr_node recorder program_continue_through_finally continue_through_finally_n11 274 (x.outs-Name (codes "a")) refl (leaf (simp views))) (then_ok (finds program_continue_through_finally (ref 0) (codes "append")) _ (callee.Method (ref 0) (codes "append")) continue_through_finally_0_at_7 (leaf (first_of (simp views, simp tuples, search))) (as_run (plain_arguments recorder program_continue_through_finally (value_continue_through_finally) (means_continue_through_finally) (callee.Method (ref 0) (codes "append")) [] (continue_through_finally_n12 ∷ []) []) (ap (λ args. plain_arguments recorder program_continue_through_finally (value_continue_through_finally) (means_continue_through_finally) (callee.Method (ref 0) (codes "append")) [] args.plain args.named continue_through_finally_0_at_7) (out-roll-Args _)) (then_ok (value_continue_through_finally continue_through_finally_n12) _ ((v.Int (pos 2)), (j.Plain true)) (state_continue_through_finally (Some (func_id 0)) (((codes "a"), (ref 0)) ∷ ((codes "i"), (v.Int (pos 2))) ∷ []) [] (object.List ((v.Int (pos 1)) ∷ []) ∷ []) 1 273 continue_through_finally_0_seen_3) (expr_node recorder program_continue_through_finally continue_through_finally_n12 273 (x.outs-Name (codes "i")) refl (leaf (simp views))) (leaf (first_of (simp views, simp tuples, search)))))))) (leaf refl))) (leaf refl)) (leaf refl))))) (as_run (for_turn recorder program_continue_through_finally (value_continue_through_finally) (means_continue_through_finally) (node 3) (λ next. for_walk recorder program_continue_through_finally (value_continue_through_finally) (means_continue_through_finally) (node 3) ((codes "i") ∷ []) false (continue_through_finally_n7 ∷ []) next) ((codes "i") ∷ []) false (continue_through_finally_n7 ∷ []) (walk_at (tuple ((v.Int (pos 1)) ∷ (v.Int (pos 2)) ∷ [])) 0 0 2)) (for_walk-out recorder program_continue_through_finally (node 3) ((codes "i") ∷ []) false (continue_through_finally_n7 ∷ []) (walk_at (tuple ((v.Int (pos 1)) ∷ (v.Int (pos 2)) ∷ [])) 0 0 2) continue_through_finally_0_at_3) (then_ok (checks (walk_at (tuple ((v.Int (pos 1)) ∷ (v.Int (pos 2)) ∷ [])) 0 0 2)) _ tt continue_through_finally_0_at_3 (leaf (first_of (simp views, simp tuples, search))) (as_run (for_element recorder program_continue_through_finally (value_continue_through_finally) (means_continue_through_finally) (node 3) (λ next. for_walk recorder program_continue_through_finally (value_continue_through_finally) (means_continue_through_finally) (node 3) ((codes "i") ∷ []) false (continue_through_finally_n7 ∷ []) next) ((codes "i") ∷ []) false (continue_through_finally_n7 ∷ []) (walk_at (tuple ((v.Int (pos 1)) ∷ (v.Int (pos 2)) ∷ [])) 0 0 2) None) (ap (λ level. for_element recorder program_continue_through_finally (value_continue_through_finally) (means_continue_through_finally) (node 3) (λ next. for_walk recorder program_continue_through_finally (value_continue_through_finally) (means_continue_through_finally) (node 3) ((codes "i") ∷ []) false (continue_through_finally_n7 ∷ []) next) ((codes "i") ∷ []) false (continue_through_finally_n7 ∷ []) (walk_at (tuple ((v.Int (pos 1)) ∷ (v.Int (pos 2)) ∷ [])) 0 0 2) (element_at (object.List ((v.Int (pos 1)) ∷ (v.Int (pos 2)) ∷ []) ∷ []) level 2) continue_through_finally_0_at_3) (tuple-out _)) (then_ok (decides recorder (node 3) (j.Plain false) false) (λ _. passes) tt continue_through_finally_0_at_2 (leaf refl) (leaf refl)))))))))))))))))))))))) (then_err (means_continue_through_finally continue_through_finally_n13) _ (Returned (ref 0)) continue_through_finally_0_at_1 (stmt_node recorder program_continue_through_finally continue_through_finally_n13 271 (y.outs-Return (Some continue_through_finally_n14)) refl (then_ok (value_continue_through_finally continue_through_finally_n14) _ ((ref 0), (j.Plain true)) continue_through_finally_0_at_1 (expr_node recorder program_continue_through_finally continue_through_finally_n14 270 (x.outs-Name (codes "a")) refl (leaf (simp views))) (leaf refl)))))))) (simp views)))))))) (leaf refl))

abbrev value_name_unbound_after : Expr → Run Trail Finding
value_name_unbound_after = value_of recorder program_name_unbound_after

abbrev means_name_unbound_after : Stmt → Run Trail Finding
means_name_unbound_after = means recorder program_name_unbound_after

abbrev name_unbound_after_0_seen_1 : Trail
name_unbound_after_0_seen_1 = began 0 ∷ began 1 ∷ began 2 ∷ began 3 ∷ began 4 ∷ began 5 ∷ began 6 ∷ Decided (node 6) (j.Plain true) true ∷ began 7 ∷ began 8 ∷ began 9 ∷ began 10 ∷ []

abbrev name_unbound_after_0_seen_2 : Trail
name_unbound_after_0_seen_2 = began 0 ∷ began 1 ∷ began 2 ∷ began 3 ∷ began 4 ∷ began 5 ∷ began 6 ∷ Decided (node 6) (j.Plain true) true ∷ began 7 ∷ began 8 ∷ []

abbrev name_unbound_after_0_seen_3 : Trail
name_unbound_after_0_seen_3 = began 0 ∷ began 1 ∷ began 2 ∷ began 3 ∷ began 4 ∷ began 5 ∷ began 6 ∷ Decided (node 6) (j.Plain true) true ∷ []

abbrev name_unbound_after_0_seen_4 : Trail
name_unbound_after_0_seen_4 = began 0 ∷ began 1 ∷ began 2 ∷ began 3 ∷ began 4 ∷ began 5 ∷ began 6 ∷ []

abbrev name_unbound_after_0_seen_5 : Trail
name_unbound_after_0_seen_5 = began 0 ∷ began 1 ∷ began 2 ∷ began 3 ∷ began 4 ∷ began 5 ∷ []

abbrev name_unbound_after_0_at_1 : State World Trail
name_unbound_after_0_at_1 = state_name_unbound_after (Some (func_id 0)) (((codes "x"), (v.Int (pos 1))) ∷ []) [] (object.Instance (Built built.ZeroDivisionError) [] None ∷ object.Instance (Built built.UnboundLocalError) [] None ∷ []) 1 286 name_unbound_after_0_seen_1

abbrev name_unbound_after_0_at_2 : State World Trail
name_unbound_after_0_at_2 = state_name_unbound_after (Some (func_id 0)) (((codes "e"), (ref 0)) ∷ ((codes "x"), (v.Int (pos 1))) ∷ []) (id 0 ∷ []) (object.Instance (Built built.ZeroDivisionError) [] None ∷ []) 1 288 name_unbound_after_0_seen_2

abbrev name_unbound_after_0_at_3 : State World Trail
name_unbound_after_0_at_3 = state_name_unbound_after None [] [] (object.Instance (Built built.ZeroDivisionError) [] None ∷ object.Instance (Built built.UnboundLocalError) [] None ∷ []) 0 286 name_unbound_after_0_seen_1

abbrev name_unbound_after_0_at_4 : State World Trail
name_unbound_after_0_at_4 = state_name_unbound_after (Some (func_id 0)) (((codes "x"), (v.Int (pos 1))) ∷ []) [] (object.Instance (Built built.ZeroDivisionError) [] None ∷ []) 1 288 name_unbound_after_0_seen_2

abbrev name_unbound_after_0_at_5 : State World Trail
name_unbound_after_0_at_5 = state_name_unbound_after (Some (func_id 0)) [] [] (object.Instance (Built built.ZeroDivisionError) [] None ∷ []) 1 291 name_unbound_after_0_seen_5

abbrev name_unbound_after_0_at_6 : State World Trail
name_unbound_after_0_at_6 = state_name_unbound_after (Some (func_id 0)) [] [] (object.Instance (Built built.ZeroDivisionError) [] None ∷ []) 1 290 name_unbound_after_0_seen_4

pub name_unbound_after_0 : Yields (means_name_unbound_after name_unbound_after_t3) (state_name_unbound_after None [] [] [] 0 300 []) ((Err (Raised (id 1))), name_unbound_after_0_at_3)
unfolding equal ordered
name_unbound_after_0 =
    stmt_node recorder program_name_unbound_after name_unbound_after_t3 299 (y.outs-Assign ((target.Name (codes "var_8")) ∷ []) false None name_unbound_after_t2) refl (then_err (value_name_unbound_after name_unbound_after_t2) _ (Raised (id 1)) name_unbound_after_0_at_3 (expr_node recorder program_name_unbound_after name_unbound_after_t2 298 (x.outs-Method name_unbound_after_t1 (codes "f") (args [] [])) refl (then_ok (value_name_unbound_after name_unbound_after_t1) _ (v.ModuleRef, (j.Plain true)) (state_name_unbound_after None [] [] [] 0 297 []) (expr_node recorder program_name_unbound_after name_unbound_after_t1 297 (x.outs-Name (codes "module_0")) refl (leaf (simp views))) (then_ok (finds program_name_unbound_after v.ModuleRef (codes "f")) _ (callee.Value (v.Func (func_id 0))) (state_name_unbound_after None [] [] [] 0 297 []) (leaf (first_of (simp views, simp tuples, search))) (as_run (plain_arguments recorder program_name_unbound_after (value_name_unbound_after) (means_name_unbound_after) (callee.Value (v.Func (func_id 0))) [] [] []) (ap (λ args. plain_arguments recorder program_name_unbound_after (value_name_unbound_after) (means_name_unbound_after) (callee.Value (v.Func (func_id 0))) [] args.plain args.named (state_name_unbound_after None [] [] [] 0 297 [])) (out-roll-Args _)) (as_run (calls_function recorder program_name_unbound_after (means_name_unbound_after) (func_id 0) [] []) (ap (λ level. calls_value recorder program_name_unbound_after (means_name_unbound_after) level [] [] (state_name_unbound_after None [] [] [] 0 297 [])) (outs-Func _)) (as_run (inside recorder program_name_unbound_after (means_name_unbound_after) (func_id 0) function_name_unbound_after_0 []) (let same : calls_function recorder program_name_unbound_after (means_name_unbound_after) (func_id 0) [] [] (state_name_unbound_after None [] [] [] 0 297 []) ≡ inside recorder program_name_unbound_after (means_name_unbound_after) (func_id 0) function_name_unbound_after_0 [] (state_name_unbound_after None [] [] [] 0 297 []) = refl in same) (gives_same (leaves (state_name_unbound_after None [] [] [] 0 297 []).frame ((Err (Raised (id 1))), name_unbound_after_0_at_1)) (in_frame recorder program_name_unbound_after (func_id 0) function_name_unbound_after_0 [] (Err (Raised (id 1))) name_unbound_after_0_at_1 (then_ok (begins recorder (node 0)) _ tt (state_name_unbound_after (Some (func_id 0)) [] [] [] 1 296 (began 0 ∷ [])) (leaf refl) (then_ok (means_name_unbound_after name_unbound_after_n1) _ (v.None, (j.Plain false)) name_unbound_after_0_at_4 (stmt_node recorder program_name_unbound_after name_unbound_after_n1 295 (y.outs-Try (name_unbound_after_n2 ∷ []) ((clause 6 (Some ((codes "ZeroDivisionError") ∷ [])) (Some (codes "e")) (name_unbound_after_n7 ∷ [])) ∷ []) None None) refl (then_after (after_end (block recorder program_name_unbound_after (means_name_unbound_after) (name_unbound_after_n2 ∷ [])) (after_body recorder program_name_unbound_after (value_name_unbound_after) (means_name_unbound_after) ((clause 6 (Some ((codes "ZeroDivisionError") ∷ [])) (Some (codes "e")) (name_unbound_after_n7 ∷ [])) ∷ []) None)) (finally recorder program_name_unbound_after (value_name_unbound_after) (means_name_unbound_after) None) (Ok (v.None, (j.Plain false))) name_unbound_after_0_at_4 (then_after (block recorder program_name_unbound_after (means_name_unbound_after) (name_unbound_after_n2 ∷ [])) (after_body recorder program_name_unbound_after (value_name_unbound_after) (means_name_unbound_after) ((clause 6 (Some ((codes "ZeroDivisionError") ∷ [])) (Some (codes "e")) (name_unbound_after_n7 ∷ [])) ∷ []) None) (Err (Raised (id 0))) name_unbound_after_0_at_5 (then_err (means_name_unbound_after name_unbound_after_n2) _ (Raised (id 0)) name_unbound_after_0_at_5 (stmt_node recorder program_name_unbound_after name_unbound_after_n2 294 (y.outs-Bare name_unbound_after_n3) refl (then_err (value_name_unbound_after name_unbound_after_n3) _ (Raised (id 0)) name_unbound_after_0_at_5 (expr_node recorder program_name_unbound_after name_unbound_after_n3 293 (x.outs-Binary FloorDiv name_unbound_after_n4 name_unbound_after_n5) refl (then_ok (value_name_unbound_after name_unbound_after_n4) _ ((v.Int (pos 1)), (j.Plain true)) (state_name_unbound_after (Some (func_id 0)) [] [] [] 1 292 (began 0 ∷ began 1 ∷ began 2 ∷ began 3 ∷ began 4 ∷ [])) (expr_node recorder program_name_unbound_after name_unbound_after_n4 292 (x.outs-IntLit (pos 1)) refl (leaf (simp views))) (then_ok (value_name_unbound_after name_unbound_after_n5) _ ((v.Int (pos 0)), (j.Plain false)) (state_name_unbound_after (Some (func_id 0)) [] [] [] 1 291 name_unbound_after_0_seen_5) (expr_node recorder program_name_unbound_after name_unbound_after_n5 291 (x.outs-IntLit (pos 0)) refl (leaf (simp views))) (leaf (first_of (simp views, simp tuples, search))))))))) (as_run (begins recorder (node 6) >> (λ here. (decides recorder (node 6) (j.Plain (handles program_name_unbound_after here.space (class_of_object (object_at here.objects (id 0))) (Some ((codes "ZeroDivisionError") ∷ [])))) (handles program_name_unbound_after here.space (class_of_object (object_at here.objects (id 0))) (Some ((codes "ZeroDivisionError") ∷ []))) >> (if (handles program_name_unbound_after here.space (class_of_object (object_at here.objects (id 0))) (Some ((codes "ZeroDivisionError") ∷ []))) then (binds_as (Some (codes "e")) (id 0) >> (enters_clause (id 0) >> after_end (block recorder program_name_unbound_after (means_name_unbound_after) (name_unbound_after_n7 ∷ [])) (after_clause (Some (codes "e"))))) else (tries_clauses recorder program_name_unbound_after (value_name_unbound_after) (means_name_unbound_after) [] (id 0)))) here)) (ap (λ c. (begins recorder c.node >> (λ here. (decides recorder c.node (j.Plain (handles program_name_unbound_after here.space (class_of_object (object_at here.objects (id 0))) c.classes)) (handles program_name_unbound_after here.space (class_of_object (object_at here.objects (id 0))) c.classes) >> (if handles program_name_unbound_after here.space (class_of_object (object_at here.objects (id 0))) c.classes then (binds_as c.name (id 0) >> (enters_clause (id 0) >> after_end (block recorder program_name_unbound_after (means_name_unbound_after) c.body) (after_clause c.name))) else (tries_clauses recorder program_name_unbound_after (value_name_unbound_after) (means_name_unbound_after) [] (id 0)))) here)) name_unbound_after_0_at_5) (out-roll-Clause _)) (then_ok (begins recorder (node 6)) (λ _. (λ here. (decides recorder (node 6) (j.Plain (handles program_name_unbound_after here.space (class_of_object (object_at here.objects (id 0))) (Some ((codes "ZeroDivisionError") ∷ [])))) (handles program_name_unbound_after here.space (class_of_object (object_at here.objects (id 0))) (Some ((codes "ZeroDivisionError") ∷ []))) >> (if (handles program_name_unbound_after here.space (class_of_object (object_at here.objects (id 0))) (Some ((codes "ZeroDivisionError") ∷ []))) then (binds_as (Some (codes "e")) (id 0) >> (enters_clause (id 0) >> after_end (block recorder program_name_unbound_after (means_name_unbound_after) (name_unbound_after_n7 ∷ [])) (after_clause (Some (codes "e"))))) else (tries_clauses recorder program_name_unbound_after (value_name_unbound_after) (means_name_unbound_after) [] (id 0)))) here)) tt name_unbound_after_0_at_6 (leaf refl) (as_run (decides recorder (node 6) (j.Plain true) true >> (if true then (binds_as (Some (codes "e")) (id 0) >> (enters_clause (id 0) >> after_end (block recorder program_name_unbound_after (means_name_unbound_after) (name_unbound_after_n7 ∷ [])) (after_clause (Some (codes "e"))))) else (tries_clauses recorder program_name_unbound_after (value_name_unbound_after) (means_name_unbound_after) [] (id 0)))) (ap (λ outcome. (decides recorder (node 6) (j.Plain outcome) outcome >> (if outcome then (binds_as (Some (codes "e")) (id 0) >> (enters_clause (id 0) >> after_end (block recorder program_name_unbound_after (means_name_unbound_after) (name_unbound_after_n7 ∷ [])) (after_clause (Some (codes "e"))))) else (tries_clauses recorder program_name_unbound_after (value_name_unbound_after) (means_name_unbound_after) [] (id 0)))) name_unbound_after_0_at_6) (let same : handles program_name_unbound_after (name_unbound_after_0_at_6.space) (class_of_object (object_at (object.Instance (Built built.ZeroDivisionError) [] None ∷ []) (id 0))) (Some ((codes "ZeroDivisionError") ∷ [])) ≡ true = first_of (simp views, search) in same)) (then_ok (decides recorder (node 6) (j.Plain true) true) (λ _. (binds_as (Some (codes "e")) (id 0) >> (enters_clause (id 0) >> after_end (block recorder program_name_unbound_after (means_name_unbound_after) (name_unbound_after_n7 ∷ [])) (after_clause (Some (codes "e")))))) tt (state_name_unbound_after (Some (func_id 0)) [] [] (object.Instance (Built built.ZeroDivisionError) [] None ∷ []) 1 290 name_unbound_after_0_seen_3) (leaf refl) (then_ok (binds_as (Some (codes "e")) (id 0)) (λ _. enters_clause (id 0) >> after_end (block recorder program_name_unbound_after (means_name_unbound_after) (name_unbound_after_n7 ∷ [])) (after_clause (Some (codes "e")))) (v.None, (j.Plain false)) (state_name_unbound_after (Some (func_id 0)) (((codes "e"), (ref 0)) ∷ []) [] (object.Instance (Built built.ZeroDivisionError) [] None ∷ []) 1 290 name_unbound_after_0_seen_3) (leaf refl) (then_ok (enters_clause (id 0)) (λ _. after_end (block recorder program_name_unbound_after (means_name_unbound_after) (name_unbound_after_n7 ∷ [])) (after_clause (Some (codes "e")))) (v.None, (j.Plain false)) (state_name_unbound_after (Some (func_id 0)) (((codes "e"), (ref 0)) ∷ []) (id 0 ∷ []) (object.Instance (Built built.ZeroDivisionError) [] None ∷ []) 1 290 name_unbound_after_0_seen_3) (leaf refl) (then_after (block recorder program_name_unbound_after (means_name_unbound_after) (name_unbound_after_n7 ∷ [])) (after_clause (Some (codes "e"))) (Ok (v.None, (j.Plain false))) name_unbound_after_0_at_2 (then_ok (means_name_unbound_after name_unbound_after_n7) _ (v.None, (j.Plain false)) name_unbound_after_0_at_2 (stmt_node recorder program_name_unbound_after name_unbound_after_n7 289 (y.outs-Assign ((target.Name (codes "x")) ∷ []) false None name_unbound_after_n8) refl (then_ok (value_name_unbound_after name_unbound_after_n8) _ ((v.Int (pos 1)), (j.Plain true)) (state_name_unbound_after (Some (func_id 0)) (((codes "e"), (ref 0)) ∷ []) (id 0 ∷ []) (object.Instance (Built built.ZeroDivisionError) [] None ∷ []) 1 288 name_unbound_after_0_seen_2) (expr_node recorder program_name_unbound_after name_unbound_after_n8 288 (x.outs-IntLit (pos 1)) refl (leaf (simp views))) (leaf refl))) (leaf refl)) (leaf refl))))))))) (leaf refl))) (then_err (means_name_unbound_after name_unbound_after_n9) _ (Raised (id 1)) name_unbound_after_0_at_1 (stmt_node recorder program_name_unbound_after name_unbound_after_n9 287 (y.outs-Return (Some name_unbound_after_n10)) refl (then_err (value_name_unbound_after name_unbound_after_n10) _ (Raised (id 1)) name_unbound_after_0_at_1 (expr_node recorder program_name_unbound_after name_unbound_after_n10 286 (x.outs-Name (codes "e")) refl (leaf refl)))))))) (refl)))))))))

abbrev value_assert_fails : Expr → Run Trail Finding
value_assert_fails = value_of recorder program_assert_fails

abbrev means_assert_fails : Stmt → Run Trail Finding
means_assert_fails = means recorder program_assert_fails

abbrev assert_fails_0_seen_1 : Trail
assert_fails_0_seen_1 = began 0 ∷ began 1 ∷ began 2 ∷ began 3 ∷ began 4 ∷ began 5 ∷ Decided (node 2) (j.All ((j.Ints Gt (pos 0) (pos 1)) ∷ []) 1) false ∷ []

abbrev assert_fails_0_seen_2 : Trail
assert_fails_0_seen_2 = began 0 ∷ began 1 ∷ began 2 ∷ began 3 ∷ began 4 ∷ began 5 ∷ []

abbrev assert_fails_0_at_1 : State World Trail
assert_fails_0_at_1 = state_assert_fails (Some (func_id 0)) (((codes "a"), (v.Int (pos 0))) ∷ []) [] (object.Instance (Built built.AssertionError) [] (Some (measured [])) ∷ []) 1 290 assert_fails_0_seen_1

abbrev assert_fails_0_at_2 : State World Trail
assert_fails_0_at_2 = state_assert_fails None [] [] (object.Instance (Built built.AssertionError) [] (Some (measured [])) ∷ []) 0 290 assert_fails_0_seen_1

abbrev assert_fails_0_at_3 : State World Trail
assert_fails_0_at_3 = state_assert_fails (Some (func_id 0)) (((codes "a"), (v.Int (pos 0))) ∷ []) [] [] 1 290 assert_fails_0_seen_2

pub assert_fails_0 : Yields (means_assert_fails assert_fails_t4) (state_assert_fails None [] [] [] 0 300 []) ((Err (Raised (id 0))), assert_fails_0_at_2)
unfolding equal ordered
assert_fails_0 =
    stmt_node recorder program_assert_fails assert_fails_t4 299 (y.outs-Assign ((target.Name (codes "var_8")) ∷ []) false None assert_fails_t3) refl (then_err (value_assert_fails assert_fails_t3) _ (Raised (id 0)) assert_fails_0_at_2 (expr_node recorder program_assert_fails assert_fails_t3 298 (x.outs-Method assert_fails_t1 (codes "f") (args (assert_fails_t2 ∷ []) [])) refl (then_ok (value_assert_fails assert_fails_t1) _ (v.ModuleRef, (j.Plain true)) (state_assert_fails None [] [] [] 0 297 []) (expr_node recorder program_assert_fails assert_fails_t1 297 (x.outs-Name (codes "module_0")) refl (leaf (simp views))) (then_ok (finds program_assert_fails v.ModuleRef (codes "f")) _ (callee.Value (v.Func (func_id 0))) (state_assert_fails None [] [] [] 0 297 []) (leaf (first_of (simp views, simp tuples, search))) (as_run (plain_arguments recorder program_assert_fails (value_assert_fails) (means_assert_fails) (callee.Value (v.Func (func_id 0))) [] (assert_fails_t2 ∷ []) []) (ap (λ args. plain_arguments recorder program_assert_fails (value_assert_fails) (means_assert_fails) (callee.Value (v.Func (func_id 0))) [] args.plain args.named (state_assert_fails None [] [] [] 0 297 [])) (out-roll-Args _)) (then_ok (value_assert_fails assert_fails_t2) _ ((v.Int (pos 0)), (j.Plain false)) (state_assert_fails None [] [] [] 0 296 []) (expr_node recorder program_assert_fails assert_fails_t2 296 (x.outs-IntLit (pos 0)) refl (leaf (simp views))) (as_run (calls_function recorder program_assert_fails (means_assert_fails) (func_id 0) ((v.Int (pos 0)) ∷ []) []) (ap (λ level. calls_value recorder program_assert_fails (means_assert_fails) level ((v.Int (pos 0)) ∷ []) [] (state_assert_fails None [] [] [] 0 296 [])) (outs-Func _)) (as_run (inside recorder program_assert_fails (means_assert_fails) (func_id 0) function_assert_fails_0 (((codes "a"), (v.Int (pos 0))) ∷ [])) (let same : calls_function recorder program_assert_fails (means_assert_fails) (func_id 0) ((v.Int (pos 0)) ∷ []) [] (state_assert_fails None [] [] [] 0 296 []) ≡ inside recorder program_assert_fails (means_assert_fails) (func_id 0) function_assert_fails_0 (((codes "a"), (v.Int (pos 0))) ∷ []) (state_assert_fails None [] [] [] 0 296 []) = refl in same) (gives_same (leaves (state_assert_fails None [] [] [] 0 296 []).frame ((Err (Raised (id 0))), assert_fails_0_at_1)) (in_frame recorder program_assert_fails (func_id 0) function_assert_fails_0 (((codes "a"), (v.Int (pos 0))) ∷ []) (Err (Raised (id 0))) assert_fails_0_at_1 (then_ok (begins recorder (node 0)) _ tt (state_assert_fails (Some (func_id 0)) (((codes "a"), (v.Int (pos 0))) ∷ []) [] [] 1 295 (began 0 ∷ [])) (leaf refl) (then_err (means_assert_fails assert_fails_n1) _ (Raised (id 0)) assert_fails_0_at_1 (stmt_node recorder program_assert_fails assert_fails_n1 294 (y.outs-Assert assert_fails_n2 None) refl (then_ok (value_assert_fails assert_fails_n2) _ ((v.Bool false), (j.All ((j.Ints Gt (pos 0) (pos 1)) ∷ []) 1)) assert_fails_0_at_3 (expr_node recorder program_assert_fails assert_fails_n2 293 (x.outs-And (assert_fails_n3 ∷ assert_fails_n6 ∷ [])) refl (then_ok (value_assert_fails assert_fails_n3) _ ((v.Bool false), (j.Ints Gt (pos 0) (pos 1))) assert_fails_0_at_3 (expr_node recorder program_assert_fails assert_fails_n3 292 (x.outs-Compare assert_fails_n4 ((Gt, assert_fails_n5) ∷ [])) refl (then_ok (value_assert_fails assert_fails_n4) _ ((v.Int (pos 0)), (j.Plain false)) (state_assert_fails (Some (func_id 0)) (((codes "a"), (v.Int (pos 0))) ∷ []) [] [] 1 291 (began 0 ∷ began 1 ∷ began 2 ∷ began 3 ∷ began 4 ∷ [])) (expr_node recorder program_assert_fails assert_fails_n4 291 (x.outs-Name (codes "a")) refl (leaf (simp views))) (then_ok (value_assert_fails assert_fails_n5) _ ((v.Int (pos 1)), (j.Plain true)) assert_fails_0_at_3 (expr_node recorder program_assert_fails assert_fails_n5 290 (x.outs-IntLit (pos 1)) refl (leaf (simp views))) (then_ok (compares Gt (v.Int (pos 0)) (v.Int (pos 1))) _ false assert_fails_0_at_3 (leaf (first_of (simp views, simp tuples, search))) (leaf (first_of (simp views, simp tuples, search))))))) (then_ok (tests (v.Bool false)) (λ holds. if holds then (value_assert_fails assert_fails_n6 >>= (λ y. conjunction (value_assert_fails) ((j.Ints Gt (pos 0) (pos 1)) ∷ []) y [])) else (pure ((v.Bool false), j.All ((j.Ints Gt (pos 0) (pos 1)) ∷ []) 1))) false assert_fails_0_at_3 (leaf (first_of (simp views, simp tuples, search))) (leaf refl)))) (then_ok (tests (v.Bool false)) (λ outcome. decides recorder (node 2) (j.All ((j.Ints Gt (pos 0) (pos 1)) ∷ []) 1) outcome >> (if outcome then passes else (fails_with recorder program_assert_fails (value_assert_fails) (means_assert_fails) None))) false assert_fails_0_at_3 (leaf (first_of (simp views, simp tuples, search))) (then_ok (decides recorder (node 2) (j.All ((j.Ints Gt (pos 0) (pos 1)) ∷ []) 1) false) (λ _. (fails_with recorder program_assert_fails (value_assert_fails) (means_assert_fails) None)) tt (state_assert_fails (Some (func_id 0)) (((codes "a"), (v.Int (pos 0))) ∷ []) [] [] 1 290 assert_fails_0_seen_1) (leaf refl) (leaf (first_of (simp views, simp tuples, search)))))))))) (refl))))))))))

abbrev value_raise_no_exception : Expr → Run Trail Finding
value_raise_no_exception = value_of recorder program_raise_no_exception

abbrev means_raise_no_exception : Stmt → Run Trail Finding
means_raise_no_exception = means recorder program_raise_no_exception

abbrev raise_no_exception_0_at_1 : State World Trail
raise_no_exception_0_at_1 = state_raise_no_exception (Some (func_id 0)) [] [] (object.Instance (Built built.TypeError) [] None ∷ []) 1 294 (began 0 ∷ began 1 ∷ began 2 ∷ [])

abbrev raise_no_exception_0_at_2 : State World Trail
raise_no_exception_0_at_2 = state_raise_no_exception None [] [] (object.Instance (Built built.TypeError) [] None ∷ []) 0 294 (began 0 ∷ began 1 ∷ began 2 ∷ [])

pub raise_no_exception_0 : Yields (means_raise_no_exception raise_no_exception_t3) (state_raise_no_exception None [] [] [] 0 300 []) ((Err (Raised (id 0))), raise_no_exception_0_at_2)
unfolding equal ordered
raise_no_exception_0 =
    stmt_node recorder program_raise_no_exception raise_no_exception_t3 299 (y.outs-Assign ((target.Name (codes "var_8")) ∷ []) false None raise_no_exception_t2) refl (then_err (value_raise_no_exception raise_no_exception_t2) _ (Raised (id 0)) raise_no_exception_0_at_2 (expr_node recorder program_raise_no_exception raise_no_exception_t2 298 (x.outs-Method raise_no_exception_t1 (codes "f") (args [] [])) refl (then_ok (value_raise_no_exception raise_no_exception_t1) _ (v.ModuleRef, (j.Plain true)) (state_raise_no_exception None [] [] [] 0 297 []) (expr_node recorder program_raise_no_exception raise_no_exception_t1 297 (x.outs-Name (codes "module_0")) refl (leaf (simp views))) (then_ok (finds program_raise_no_exception v.ModuleRef (codes "f")) _ (callee.Value (v.Func (func_id 0))) (state_raise_no_exception None [] [] [] 0 297 []) (leaf (first_of (simp views, simp tuples, search))) (as_run (plain_arguments recorder program_raise_no_exception (value_raise_no_exception) (means_raise_no_exception) (callee.Value (v.Func (func_id 0))) [] [] []) (ap (λ args. plain_arguments recorder program_raise_no_exception (value_raise_no_exception) (means_raise_no_exception) (callee.Value (v.Func (func_id 0))) [] args.plain args.named (state_raise_no_exception None [] [] [] 0 297 [])) (out-roll-Args _)) (as_run (calls_function recorder program_raise_no_exception (means_raise_no_exception) (func_id 0) [] []) (ap (λ level. calls_value recorder program_raise_no_exception (means_raise_no_exception) level [] [] (state_raise_no_exception None [] [] [] 0 297 [])) (outs-Func _)) (as_run (inside recorder program_raise_no_exception (means_raise_no_exception) (func_id 0) function_raise_no_exception_0 []) (let same : calls_function recorder program_raise_no_exception (means_raise_no_exception) (func_id 0) [] [] (state_raise_no_exception None [] [] [] 0 297 []) ≡ inside recorder program_raise_no_exception (means_raise_no_exception) (func_id 0) function_raise_no_exception_0 [] (state_raise_no_exception None [] [] [] 0 297 []) = refl in same) (gives_same (leaves (state_raise_no_exception None [] [] [] 0 297 []).frame ((Err (Raised (id 0))), raise_no_exception_0_at_1)) (in_frame recorder program_raise_no_exception (func_id 0) function_raise_no_exception_0 [] (Err (Raised (id 0))) raise_no_exception_0_at_1 (then_ok (begins recorder (node 0)) _ tt (state_raise_no_exception (Some (func_id 0)) [] [] [] 1 296 (began 0 ∷ [])) (leaf refl) (then_err (means_raise_no_exception raise_no_exception_n1) _ (Raised (id 0)) raise_no_exception_0_at_1 (stmt_node recorder program_raise_no_exception raise_no_exception_n1 295 (y.outs-Raise (Some raise_no_exception_n2)) refl (then_ok (value_raise_no_exception raise_no_exception_n2) _ ((v.Int (pos 5)), (j.Plain true)) (state_raise_no_exception (Some (func_id 0)) [] [] [] 1 294 (began 0 ∷ began 1 ∷ began 2 ∷ [])) (expr_node recorder program_raise_no_exception raise_no_exception_n2 294 (x.outs-IntLit (pos 5)) refl (leaf (simp views))) (leaf (first_of (simp views, simp tuples, search)))))))) (refl)))))))))

abbrev value_reraise_innermost : Expr → Run Trail Finding
value_reraise_innermost = value_of recorder program_reraise_innermost

abbrev means_reraise_innermost : Stmt → Run Trail Finding
means_reraise_innermost = means recorder program_reraise_innermost

abbrev reraise_innermost_0_seen_1 : Trail
reraise_innermost_0_seen_1 = began 0 ∷ began 1 ∷ began 2 ∷ began 3 ∷ began 4 ∷ began 5 ∷ began 6 ∷ Decided (node 6) (j.Plain true) true ∷ began 7 ∷ began 8 ∷ began 9 ∷ began 10 ∷ began 11 ∷ began 12 ∷ Decided (node 12) (j.Plain true) true ∷ began 13 ∷ began 14 ∷ []

abbrev reraise_innermost_0_seen_2 : Trail
reraise_innermost_0_seen_2 = began 0 ∷ began 1 ∷ began 2 ∷ began 3 ∷ began 4 ∷ began 5 ∷ began 6 ∷ Decided (node 6) (j.Plain true) true ∷ began 7 ∷ began 8 ∷ began 9 ∷ began 10 ∷ began 11 ∷ began 12 ∷ Decided (node 12) (j.Plain true) true ∷ began 13 ∷ []

abbrev reraise_innermost_0_seen_3 : Trail
reraise_innermost_0_seen_3 = began 0 ∷ began 1 ∷ began 2 ∷ began 3 ∷ began 4 ∷ began 5 ∷ began 6 ∷ Decided (node 6) (j.Plain true) true ∷ began 7 ∷ began 8 ∷ began 9 ∷ began 10 ∷ began 11 ∷ began 12 ∷ Decided (node 12) (j.Plain true) true ∷ []

abbrev reraise_innermost_0_seen_4 : Trail
reraise_innermost_0_seen_4 = began 0 ∷ began 1 ∷ began 2 ∷ began 3 ∷ began 4 ∷ began 5 ∷ began 6 ∷ Decided (node 6) (j.Plain true) true ∷ began 7 ∷ began 8 ∷ began 9 ∷ began 10 ∷ began 11 ∷ began 12 ∷ []

abbrev reraise_innermost_0_seen_5 : Trail
reraise_innermost_0_seen_5 = began 0 ∷ began 1 ∷ began 2 ∷ began 3 ∷ began 4 ∷ began 5 ∷ began 6 ∷ Decided (node 6) (j.Plain true) true ∷ began 7 ∷ began 8 ∷ began 9 ∷ began 10 ∷ began 11 ∷ []

abbrev reraise_innermost_0_seen_6 : Trail
reraise_innermost_0_seen_6 = began 0 ∷ began 1 ∷ began 2 ∷ began 3 ∷ began 4 ∷ began 5 ∷ began 6 ∷ Decided (node 6) (j.Plain true) true ∷ []

abbrev reraise_innermost_0_seen_7 : Trail
reraise_innermost_0_seen_7 = began 0 ∷ began 1 ∷ began 2 ∷ began 3 ∷ began 4 ∷ began 5 ∷ began 6 ∷ []

abbrev reraise_innermost_0_seen_8 : Trail
reraise_innermost_0_seen_8 = began 0 ∷ began 1 ∷ began 2 ∷ began 3 ∷ began 4 ∷ began 5 ∷ []

abbrev reraise_innermost_0_at_1 : State World Trail
reraise_innermost_0_at_1 = state_reraise_innermost (Some (func_id 0)) [] (id 0 ∷ id 2 ∷ []) (object.Instance (Built built.ZeroDivisionError) [] None ∷ object.Dict [] 0 ∷ object.Instance (Built built.KeyError) [] None ∷ []) 1 282 reraise_innermost_0_seen_2

abbrev reraise_innermost_0_at_2 : State World Trail
reraise_innermost_0_at_2 = state_reraise_innermost (Some (func_id 0)) [] (id 0 ∷ []) (object.Instance (Built built.ZeroDivisionError) [] None ∷ object.Dict [] 0 ∷ object.Instance (Built built.KeyError) [] None ∷ []) 1 281 reraise_innermost_0_seen_1

abbrev reraise_innermost_0_at_3 : State World Trail
reraise_innermost_0_at_3 = state_reraise_innermost (Some (func_id 0)) [] (id 0 ∷ []) (object.Instance (Built built.ZeroDivisionError) [] None ∷ object.Dict [] 0 ∷ object.Instance (Built built.KeyError) [] None ∷ []) 1 282 reraise_innermost_0_seen_2

abbrev reraise_innermost_0_at_4 : State World Trail
reraise_innermost_0_at_4 = state_reraise_innermost (Some (func_id 0)) [] (id 0 ∷ []) (object.Instance (Built built.ZeroDivisionError) [] None ∷ object.Dict [] 0 ∷ object.Instance (Built built.KeyError) [] None ∷ []) 1 284 reraise_innermost_0_seen_5

abbrev reraise_innermost_0_at_5 : State World Trail
reraise_innermost_0_at_5 = state_reraise_innermost (Some (func_id 0)) [] (id 0 ∷ []) (object.Instance (Built built.ZeroDivisionError) [] None ∷ object.Dict [] 0 ∷ object.Instance (Built built.KeyError) [] None ∷ []) 1 283 reraise_innermost_0_seen_4

abbrev reraise_innermost_0_at_6 : State World Trail
reraise_innermost_0_at_6 = state_reraise_innermost (Some (func_id 0)) [] (id 0 ∷ []) (object.Instance (Built built.ZeroDivisionError) [] None ∷ object.Dict [] 0 ∷ object.Instance (Built built.KeyError) [] None ∷ []) 1 283 reraise_innermost_0_seen_3

abbrev reraise_innermost_0_at_7 : State World Trail
reraise_innermost_0_at_7 = state_reraise_innermost (Some (func_id 0)) [] [] (object.Instance (Built built.ZeroDivisionError) [] None ∷ object.Dict [] 0 ∷ object.Instance (Built built.KeyError) [] None ∷ []) 1 281 reraise_innermost_0_seen_1

abbrev reraise_innermost_0_at_8 : State World Trail
reraise_innermost_0_at_8 = state_reraise_innermost None [] [] (object.Instance (Built built.ZeroDivisionError) [] None ∷ object.Dict [] 0 ∷ object.Instance (Built built.KeyError) [] None ∷ []) 0 281 reraise_innermost_0_seen_1

abbrev reraise_innermost_0_at_9 : State World Trail
reraise_innermost_0_at_9 = state_reraise_innermost (Some (func_id 0)) [] [] (object.Instance (Built built.ZeroDivisionError) [] None ∷ []) 1 291 reraise_innermost_0_seen_8

abbrev reraise_innermost_0_at_10 : State World Trail
reraise_innermost_0_at_10 = state_reraise_innermost (Some (func_id 0)) [] [] (object.Instance (Built built.ZeroDivisionError) [] None ∷ []) 1 290 reraise_innermost_0_seen_7

abbrev reraise_innermost_0_at_11 : State World Trail
reraise_innermost_0_at_11 = state_reraise_innermost (Some (func_id 0)) [] [] (object.Instance (Built built.ZeroDivisionError) [] None ∷ []) 1 290 reraise_innermost_0_seen_6

pub reraise_innermost_0 : Yields (means_reraise_innermost reraise_innermost_t3) (state_reraise_innermost None [] [] [] 0 300 []) ((Err (Raised (id 0))), reraise_innermost_0_at_8)
unfolding equal ordered
reraise_innermost_0 =
    stmt_node recorder program_reraise_innermost reraise_innermost_t3 299 (y.outs-Assign ((target.Name (codes "var_8")) ∷ []) false None reraise_innermost_t2) refl (then_err (value_reraise_innermost reraise_innermost_t2) _ (Raised (id 0)) reraise_innermost_0_at_8 (expr_node recorder program_reraise_innermost reraise_innermost_t2 298 (x.outs-Method reraise_innermost_t1 (codes "f") (args [] [])) refl (then_ok (value_reraise_innermost reraise_innermost_t1) _ (v.ModuleRef, (j.Plain true)) (state_reraise_innermost None [] [] [] 0 297 []) (expr_node recorder program_reraise_innermost reraise_innermost_t1 297 (x.outs-Name (codes "module_0")) refl (leaf (simp views))) (then_ok (finds program_reraise_innermost v.ModuleRef (codes "f")) _ (callee.Value (v.Func (func_id 0))) (state_reraise_innermost None [] [] [] 0 297 []) (leaf (first_of (simp views, simp tuples, search))) (as_run (plain_arguments recorder program_reraise_innermost (value_reraise_innermost) (means_reraise_innermost) (callee.Value (v.Func (func_id 0))) [] [] []) (ap (λ args. plain_arguments recorder program_reraise_innermost (value_reraise_innermost) (means_reraise_innermost) (callee.Value (v.Func (func_id 0))) [] args.plain args.named (state_reraise_innermost None [] [] [] 0 297 [])) (out-roll-Args _)) (as_run (calls_function recorder program_reraise_innermost (means_reraise_innermost) (func_id 0) [] []) (ap (λ level. calls_value recorder program_reraise_innermost (means_reraise_innermost) level [] [] (state_reraise_innermost None [] [] [] 0 297 [])) (outs-Func _)) (as_run (inside recorder program_reraise_innermost (means_reraise_innermost) (func_id 0) function_reraise_innermost_0 []) (let same : calls_function recorder program_reraise_innermost (means_reraise_innermost) (func_id 0) [] [] (state_reraise_innermost None [] [] [] 0 297 []) ≡ inside recorder program_reraise_innermost (means_reraise_innermost) (func_id 0) function_reraise_innermost_0 [] (state_reraise_innermost None [] [] [] 0 297 []) = refl in same) (gives_same (leaves (state_reraise_innermost None [] [] [] 0 297 []).frame ((Err (Raised (id 0))), reraise_innermost_0_at_7)) (in_frame recorder program_reraise_innermost (func_id 0) function_reraise_innermost_0 [] (Err (Raised (id 0))) reraise_innermost_0_at_7 (then_ok (begins recorder (node 0)) _ tt (state_reraise_innermost (Some (func_id 0)) [] [] [] 1 296 (began 0 ∷ [])) (leaf refl) (then_err (means_reraise_innermost reraise_innermost_n1) _ (Raised (id 0)) reraise_innermost_0_at_7 (stmt_node recorder program_reraise_innermost reraise_innermost_n1 295 (y.outs-Try (reraise_innermost_n2 ∷ []) ((clause 6 (Some ((codes "ZeroDivisionError") ∷ [])) None (reraise_innermost_n7 ∷ reraise_innermost_n14 ∷ [])) ∷ []) None None) refl (then_after (after_end (block recorder program_reraise_innermost (means_reraise_innermost) (reraise_innermost_n2 ∷ [])) (after_body recorder program_reraise_innermost (value_reraise_innermost) (means_reraise_innermost) ((clause 6 (Some ((codes "ZeroDivisionError") ∷ [])) None (reraise_innermost_n7 ∷ reraise_innermost_n14 ∷ [])) ∷ []) None)) (finally recorder program_reraise_innermost (value_reraise_innermost) (means_reraise_innermost) None) (Err (Raised (id 0))) reraise_innermost_0_at_7 (then_after (block recorder program_reraise_innermost (means_reraise_innermost) (reraise_innermost_n2 ∷ [])) (after_body recorder program_reraise_innermost (value_reraise_innermost) (means_reraise_innermost) ((clause 6 (Some ((codes "ZeroDivisionError") ∷ [])) None (reraise_innermost_n7 ∷ reraise_innermost_n14 ∷ [])) ∷ []) None) (Err (Raised (id 0))) reraise_innermost_0_at_9 (then_err (means_reraise_innermost reraise_innermost_n2) _ (Raised (id 0)) reraise_innermost_0_at_9 (stmt_node recorder program_reraise_innermost reraise_innermost_n2 294 (y.outs-Bare reraise_innermost_n3) refl (then_err (value_reraise_innermost reraise_innermost_n3) _ (Raised (id 0)) reraise_innermost_0_at_9 (expr_node recorder program_reraise_innermost reraise_innermost_n3 293 (x.outs-Binary FloorDiv reraise_innermost_n4 reraise_innermost_n5) refl (then_ok (value_reraise_innermost reraise_innermost_n4) _ ((v.Int (pos 1)), (j.Plain true)) (state_reraise_innermost (Some (func_id 0)) [] [] [] 1 292 (began 0 ∷ began 1 ∷ began 2 ∷ began 3 ∷ began 4 ∷ [])) (expr_node recorder program_reraise_innermost reraise_innermost_n4 292 (x.outs-IntLit (pos 1)) refl (leaf (simp views))) (then_ok (value_reraise_innermost reraise_innermost_n5) _ ((v.Int (pos 0)), (j.Plain false)) (state_reraise_innermost (Some (func_id 0)) [] [] [] 1 291 reraise_innermost_0_seen_8) (expr_node recorder program_reraise_innermost reraise_innermost_n5 291 (x.outs-IntLit (pos 0)) refl (leaf (simp views))) (leaf (first_of (simp views, simp tuples, search))))))))) (as_run (begins recorder (node 6) >> (λ here. (decides recorder (node 6) (j.Plain (handles program_reraise_innermost here.space (class_of_object (object_at here.objects (id 0))) (Some ((codes "ZeroDivisionError") ∷ [])))) (handles program_reraise_innermost here.space (class_of_object (object_at here.objects (id 0))) (Some ((codes "ZeroDivisionError") ∷ []))) >> (if (handles program_reraise_innermost here.space (class_of_object (object_at here.objects (id 0))) (Some ((codes "ZeroDivisionError") ∷ []))) then (binds_as None (id 0) >> (enters_clause (id 0) >> after_end (block recorder program_reraise_innermost (means_reraise_innermost) (reraise_innermost_n7 ∷ reraise_innermost_n14 ∷ [])) (after_clause None))) else (tries_clauses recorder program_reraise_innermost (value_reraise_innermost) (means_reraise_innermost) [] (id 0)))) here)) (ap (λ c. (begins recorder c.node >> (λ here. (decides recorder c.node (j.Plain (handles program_reraise_innermost here.space (class_of_object (object_at here.objects (id 0))) c.classes)) (handles program_reraise_innermost here.space (class_of_object (object_at here.objects (id 0))) c.classes) >> (if handles program_reraise_innermost here.space (class_of_object (object_at here.objects (id 0))) c.classes then (binds_as c.name (id 0) >> (enters_clause (id 0) >> after_end (block recorder program_reraise_innermost (means_reraise_innermost) c.body) (after_clause c.name))) else (tries_clauses recorder program_reraise_innermost (value_reraise_innermost) (means_reraise_innermost) [] (id 0)))) here)) reraise_innermost_0_at_9) (out-roll-Clause _)) (then_ok (begins recorder (node 6)) (λ _. (λ here. (decides recorder (node 6) (j.Plain (handles program_reraise_innermost here.space (class_of_object (object_at here.objects (id 0))) (Some ((codes "ZeroDivisionError") ∷ [])))) (handles program_reraise_innermost here.space (class_of_object (object_at here.objects (id 0))) (Some ((codes "ZeroDivisionError") ∷ []))) >> (if (handles program_reraise_innermost here.space (class_of_object (object_at here.objects (id 0))) (Some ((codes "ZeroDivisionError") ∷ []))) then (binds_as None (id 0) >> (enters_clause (id 0) >> after_end (block recorder program_reraise_innermost (means_reraise_innermost) (reraise_innermost_n7 ∷ reraise_innermost_n14 ∷ [])) (after_clause None))) else (tries_clauses recorder program_reraise_innermost (value_reraise_innermost) (means_reraise_innermost) [] (id 0)))) here)) tt reraise_innermost_0_at_10 (leaf refl) (as_run (decides recorder (node 6) (j.Plain true) true >> (if true then (binds_as None (id 0) >> (enters_clause (id 0) >> after_end (block recorder program_reraise_innermost (means_reraise_innermost) (reraise_innermost_n7 ∷ reraise_innermost_n14 ∷ [])) (after_clause None))) else (tries_clauses recorder program_reraise_innermost (value_reraise_innermost) (means_reraise_innermost) [] (id 0)))) (ap (λ outcome. (decides recorder (node 6) (j.Plain outcome) outcome >> (if outcome then (binds_as None (id 0) >> (enters_clause (id 0) >> after_end (block recorder program_reraise_innermost (means_reraise_innermost) (reraise_innermost_n7 ∷ reraise_innermost_n14 ∷ [])) (after_clause None))) else (tries_clauses recorder program_reraise_innermost (value_reraise_innermost) (means_reraise_innermost) [] (id 0)))) reraise_innermost_0_at_10) (let same : handles program_reraise_innermost (reraise_innermost_0_at_10.space) (class_of_object (object_at (object.Instance (Built built.ZeroDivisionError) [] None ∷ []) (id 0))) (Some ((codes "ZeroDivisionError") ∷ [])) ≡ true = first_of (simp views, search) in same)) (then_ok (decides recorder (node 6) (j.Plain true) true) (λ _. (binds_as None (id 0) >> (enters_clause (id 0) >> after_end (block recorder program_reraise_innermost (means_reraise_innermost) (reraise_innermost_n7 ∷ reraise_innermost_n14 ∷ [])) (after_clause None)))) tt reraise_innermost_0_at_11 (leaf refl) (then_ok (binds_as None (id 0)) (λ _. enters_clause (id 0) >> after_end (block recorder program_reraise_innermost (means_reraise_innermost) (reraise_innermost_n7 ∷ reraise_innermost_n14 ∷ [])) (after_clause None)) (v.None, (j.Plain false)) reraise_innermost_0_at_11 (leaf refl) (then_ok (enters_clause (id 0)) (λ _. after_end (block recorder program_reraise_innermost (means_reraise_innermost) (reraise_innermost_n7 ∷ reraise_innermost_n14 ∷ [])) (after_clause None)) (v.None, (j.Plain false)) (state_reraise_innermost (Some (func_id 0)) [] (id 0 ∷ []) (object.Instance (Built built.ZeroDivisionError) [] None ∷ []) 1 290 reraise_innermost_0_seen_6) (leaf refl) (then_after (block recorder program_reraise_innermost (means_reraise_innermost) (reraise_innermost_n7 ∷ reraise_innermost_n14 ∷ [])) (after_clause None) (Err (Raised (id 0))) reraise_innermost_0_at_2 (then_ok (means_reraise_innermost reraise_innermost_n7) _ (v.None, (j.Plain false)) reraise_innermost_0_at_3 (stmt_node recorder program_reraise_innermost reraise_innermost_n7 289 (y.outs-Try (reraise_innermost_n8 ∷ []) ((clause 12 (Some ((codes "KeyError") ∷ [])) None (reraise_innermost_n13 ∷ [])) ∷ []) None None) refl (then_after (after_end (block recorder program_reraise_innermost (means_reraise_innermost) (reraise_innermost_n8 ∷ [])) (after_body recorder program_reraise_innermost (value_reraise_innermost) (means_reraise_innermost) ((clause 12 (Some ((codes "KeyError") ∷ [])) None (reraise_innermost_n13 ∷ [])) ∷ []) None)) (finally recorder program_reraise_innermost (value_reraise_innermost) (means_reraise_innermost) None) (Ok (v.None, (j.Plain false))) reraise_innermost_0_at_3 (then_after (block recorder program_reraise_innermost (means_reraise_innermost) (reraise_innermost_n8 ∷ [])) (after_body recorder program_reraise_innermost (value_reraise_innermost) (means_reraise_innermost) ((clause 12 (Some ((codes "KeyError") ∷ [])) None (reraise_innermost_n13 ∷ [])) ∷ []) None) (Err (Raised (id 2))) reraise_innermost_0_at_4 (then_err (means_reraise_innermost reraise_innermost_n8) _ (Raised (id 2)) reraise_innermost_0_at_4 (stmt_node recorder program_reraise_innermost reraise_innermost_n8 288 (y.outs-Bare reraise_innermost_n9) refl (then_err (value_reraise_innermost reraise_innermost_n9) _ (Raised (id 2)) reraise_innermost_0_at_4 (expr_node recorder program_reraise_innermost reraise_innermost_n9 287 (x.outs-Index reraise_innermost_n10 reraise_innermost_n11) refl (then_ok (value_reraise_innermost reraise_innermost_n10) _ ((ref 1), (j.Plain false)) (state_reraise_innermost (Some (func_id 0)) [] (id 0 ∷ []) (object.Instance (Built built.ZeroDivisionError) [] None ∷ object.Dict [] 0 ∷ []) 1 286 (began 0 ∷ began 1 ∷ began 2 ∷ began 3 ∷ began 4 ∷ began 5 ∷ began 6 ∷ Decided (node 6) (j.Plain true) true ∷ began 7 ∷ began 8 ∷ began 9 ∷ began 10 ∷ [])) (expr_node recorder program_reraise_innermost reraise_innermost_n10 286 (x.outs-DictLit []) refl (leaf (first_of (simp views, simp tuples, search)))) (then_ok (value_reraise_innermost reraise_innermost_n11) _ ((v.Int (pos 1)), (j.Plain true)) (state_reraise_innermost (Some (func_id 0)) [] (id 0 ∷ []) (object.Instance (Built built.ZeroDivisionError) [] None ∷ object.Dict [] 0 ∷ []) 1 285 reraise_innermost_0_seen_5) (expr_node recorder program_reraise_innermost reraise_innermost_n11 285 (x.outs-IntLit (pos 1)) refl (leaf (simp views))) (leaf (first_of (simp views, simp tuples, search))))))))) (as_run (begins recorder (node 12) >> (λ here. (decides recorder (node 12) (j.Plain (handles program_reraise_innermost here.space (class_of_object (object_at here.objects (id 2))) (Some ((codes "KeyError") ∷ [])))) (handles program_reraise_innermost here.space (class_of_object (object_at here.objects (id 2))) (Some ((codes "KeyError") ∷ []))) >> (if (handles program_reraise_innermost here.space (class_of_object (object_at here.objects (id 2))) (Some ((codes "KeyError") ∷ []))) then (binds_as None (id 2) >> (enters_clause (id 2) >> after_end (block recorder program_reraise_innermost (means_reraise_innermost) (reraise_innermost_n13 ∷ [])) (after_clause None))) else (tries_clauses recorder program_reraise_innermost (value_reraise_innermost) (means_reraise_innermost) [] (id 2)))) here)) (ap (λ c. (begins recorder c.node >> (λ here. (decides recorder c.node (j.Plain (handles program_reraise_innermost here.space (class_of_object (object_at here.objects (id 2))) c.classes)) (handles program_reraise_innermost here.space (class_of_object (object_at here.objects (id 2))) c.classes) >> (if handles program_reraise_innermost here.space (class_of_object (object_at here.objects (id 2))) c.classes then (binds_as c.name (id 2) >> (enters_clause (id 2) >> after_end (block recorder program_reraise_innermost (means_reraise_innermost) c.body) (after_clause c.name))) else (tries_clauses recorder program_reraise_innermost (value_reraise_innermost) (means_reraise_innermost) [] (id 2)))) here)) reraise_innermost_0_at_4) (out-roll-Clause _)) (then_ok (begins recorder (node 12)) (λ _. (λ here. (decides recorder (node 12) (j.Plain (handles program_reraise_innermost here.space (class_of_object (object_at here.objects (id 2))) (Some ((codes "KeyError") ∷ [])))) (handles program_reraise_innermost here.space (class_of_object (object_at here.objects (id 2))) (Some ((codes "KeyError") ∷ []))) >> (if (handles program_reraise_innermost here.space (class_of_object (object_at here.objects (id 2))) (Some ((codes "KeyError") ∷ []))) then (binds_as None (id 2) >> (enters_clause (id 2) >> after_end (block recorder program_reraise_innermost (means_reraise_innermost) (reraise_innermost_n13 ∷ [])) (after_clause None))) else (tries_clauses recorder program_reraise_innermost (value_reraise_innermost) (means_reraise_innermost) [] (id 2)))) here)) tt reraise_innermost_0_at_5 (leaf refl) (as_run (decides recorder (node 12) (j.Plain true) true >> (if true then (binds_as None (id 2) >> (enters_clause (id 2) >> after_end (block recorder program_reraise_innermost (means_reraise_innermost) (reraise_innermost_n13 ∷ [])) (after_clause None))) else (tries_clauses recorder program_reraise_innermost (value_reraise_innermost) (means_reraise_innermost) [] (id 2)))) (ap (λ outcome. (decides recorder (node 12) (j.Plain outcome) outcome >> (if outcome then (binds_as None (id 2) >> (enters_clause (id 2) >> after_end (block recorder program_reraise_innermost (means_reraise_innermost) (reraise_innermost_n13 ∷ [])) (after_clause None))) else (tries_clauses recorder program_reraise_innermost (value_reraise_innermost) (means_reraise_innermost) [] (id 2)))) reraise_innermost_0_at_5) (let same : handles program_reraise_innermost (reraise_innermost_0_at_5.space) (class_of_object (object_at (object.Instance (Built built.ZeroDivisionError) [] None ∷ object.Dict [] 0 ∷ object.Instance (Built built.KeyError) [] None ∷ []) (id 2))) (Some ((codes "KeyError") ∷ [])) ≡ true = first_of (simp views, search) in same)) (then_ok (decides recorder (node 12) (j.Plain true) true) (λ _. (binds_as None (id 2) >> (enters_clause (id 2) >> after_end (block recorder program_reraise_innermost (means_reraise_innermost) (reraise_innermost_n13 ∷ [])) (after_clause None)))) tt reraise_innermost_0_at_6 (leaf refl) (then_ok (binds_as None (id 2)) (λ _. enters_clause (id 2) >> after_end (block recorder program_reraise_innermost (means_reraise_innermost) (reraise_innermost_n13 ∷ [])) (after_clause None)) (v.None, (j.Plain false)) reraise_innermost_0_at_6 (leaf refl) (then_ok (enters_clause (id 2)) (λ _. after_end (block recorder program_reraise_innermost (means_reraise_innermost) (reraise_innermost_n13 ∷ [])) (after_clause None)) (v.None, (j.Plain false)) (state_reraise_innermost (Some (func_id 0)) [] (id 0 ∷ id 2 ∷ []) (object.Instance (Built built.ZeroDivisionError) [] None ∷ object.Dict [] 0 ∷ object.Instance (Built built.KeyError) [] None ∷ []) 1 283 reraise_innermost_0_seen_3) (leaf refl) (then_after (block recorder program_reraise_innermost (means_reraise_innermost) (reraise_innermost_n13 ∷ [])) (after_clause None) (Ok (v.None, (j.Plain false))) reraise_innermost_0_at_1 (then_ok (means_reraise_innermost reraise_innermost_n13) _ (v.None, (j.Plain false)) reraise_innermost_0_at_1 (stmt_node recorder program_reraise_innermost reraise_innermost_n13 282 (y.outs-Pass) refl (leaf refl)) (leaf refl)) (leaf refl))))))))) (leaf refl))) (then_err (means_reraise_innermost reraise_innermost_n14) _ (Raised (id 0)) reraise_innermost_0_at_2 (stmt_node recorder program_reraise_innermost reraise_innermost_n14 281 (y.outs-Raise None) refl (leaf refl)))) (leaf refl))))))))) (leaf refl)))))) (refl)))))))))

abbrev value_exception_attribute : Expr → Run Trail Finding
value_exception_attribute = value_of recorder program_exception_attribute

abbrev means_exception_attribute : Stmt → Run Trail Finding
means_exception_attribute = means recorder program_exception_attribute

abbrev exception_attribute_0_seen_1 : Trail
exception_attribute_0_seen_1 = began 0 ∷ began 1 ∷ began 2 ∷ began 3 ∷ began 4 ∷ began 5 ∷ []

abbrev exception_attribute_0_seen_2 : Trail
exception_attribute_0_seen_2 = began 0 ∷ began 1 ∷ began 2 ∷ began 3 ∷ began 4 ∷ []

abbrev exception_attribute_0_at_1 : State World Trail
exception_attribute_0_at_1 = state_exception_attribute (Some (func_id 0)) [] [] (object.Instance (Built built.ValueError) [] (Some (measured ((v.Int (pos 1)) ∷ []))) ∷ []) 1 291 exception_attribute_0_seen_1

abbrev exception_attribute_0_at_2 : State World Trail
exception_attribute_0_at_2 = state_exception_attribute None [] [] (object.Instance (Built built.ValueError) [] (Some (measured ((v.Int (pos 1)) ∷ []))) ∷ []) 0 291 exception_attribute_0_seen_1

abbrev exception_attribute_0_at_3 : State World Trail
exception_attribute_0_at_3 = state_exception_attribute (Some (func_id 0)) [] [] [] 1 292 exception_attribute_0_seen_2

abbrev exception_attribute_0_at_4 : State World Trail
exception_attribute_0_at_4 = state_exception_attribute (Some (func_id 0)) [] [] [] 1 291 exception_attribute_0_seen_1

pub exception_attribute_0 : Yields (means_exception_attribute exception_attribute_t3) (state_exception_attribute None [] [] [] 0 300 []) ((Err (Left construct.ExceptionAttribute)), exception_attribute_0_at_2)
unfolding equal ordered
exception_attribute_0 =
    stmt_node recorder program_exception_attribute exception_attribute_t3 299 (y.outs-Assign ((target.Name (codes "var_8")) ∷ []) false None exception_attribute_t2) refl (then_err (value_exception_attribute exception_attribute_t2) _ (Left construct.ExceptionAttribute) exception_attribute_0_at_2 (expr_node recorder program_exception_attribute exception_attribute_t2 298 (x.outs-Method exception_attribute_t1 (codes "f") (args [] [])) refl (then_ok (value_exception_attribute exception_attribute_t1) _ (v.ModuleRef, (j.Plain true)) (state_exception_attribute None [] [] [] 0 297 []) (expr_node recorder program_exception_attribute exception_attribute_t1 297 (x.outs-Name (codes "module_0")) refl (leaf (simp views))) (then_ok (finds program_exception_attribute v.ModuleRef (codes "f")) _ (callee.Value (v.Func (func_id 0))) (state_exception_attribute None [] [] [] 0 297 []) (leaf (first_of (simp views, simp tuples, search))) (as_run (plain_arguments recorder program_exception_attribute (value_exception_attribute) (means_exception_attribute) (callee.Value (v.Func (func_id 0))) [] [] []) (ap (λ args. plain_arguments recorder program_exception_attribute (value_exception_attribute) (means_exception_attribute) (callee.Value (v.Func (func_id 0))) [] args.plain args.named (state_exception_attribute None [] [] [] 0 297 [])) (out-roll-Args _)) (as_run (calls_function recorder program_exception_attribute (means_exception_attribute) (func_id 0) [] []) (ap (λ level. calls_value recorder program_exception_attribute (means_exception_attribute) level [] [] (state_exception_attribute None [] [] [] 0 297 [])) (outs-Func _)) (as_run (inside recorder program_exception_attribute (means_exception_attribute) (func_id 0) function_exception_attribute_0 []) (let same : calls_function recorder program_exception_attribute (means_exception_attribute) (func_id 0) [] [] (state_exception_attribute None [] [] [] 0 297 []) ≡ inside recorder program_exception_attribute (means_exception_attribute) (func_id 0) function_exception_attribute_0 [] (state_exception_attribute None [] [] [] 0 297 []) = refl in same) (gives_same (leaves (state_exception_attribute None [] [] [] 0 297 []).frame ((Err (Left construct.ExceptionAttribute)), exception_attribute_0_at_1)) (in_frame recorder program_exception_attribute (func_id 0) function_exception_attribute_0 [] (Err (Left construct.ExceptionAttribute)) exception_attribute_0_at_1 (then_ok (begins recorder (node 0)) _ tt (state_exception_attribute (Some (func_id 0)) [] [] [] 1 296 (began 0 ∷ [])) (leaf refl) (then_err (means_exception_attribute exception_attribute_n1) _ (Left construct.ExceptionAttribute) exception_attribute_0_at_1 (stmt_node recorder program_exception_attribute exception_attribute_n1 295 (y.outs-Return (Some exception_attribute_n2)) refl (then_err (value_exception_attribute exception_attribute_n2) _ (Left construct.ExceptionAttribute) exception_attribute_0_at_1 (expr_node recorder program_exception_attribute exception_attribute_n2 294 (x.outs-Attr exception_attribute_n3 (codes "foo")) refl (then_ok (value_exception_attribute exception_attribute_n3) _ ((ref 0), (j.Plain true)) exception_attribute_0_at_1 (expr_node recorder program_exception_attribute exception_attribute_n3 293 (x.outs-Call exception_attribute_n4 (args (exception_attribute_n5 ∷ []) [])) refl (as_run (calls_meant recorder program_exception_attribute (value_exception_attribute) (means_exception_attribute) None exception_attribute_n4 (args (exception_attribute_n5 ∷ []) [])) (ap (λ kind. calls_expr recorder program_exception_attribute (value_exception_attribute) (means_exception_attribute) kind exception_attribute_n4 (args (exception_attribute_n5 ∷ []) []) (state_exception_attribute (Some (func_id 0)) [] [] [] 1 293 (began 0 ∷ began 1 ∷ began 2 ∷ began 3 ∷ []))) (x.outs-Name (codes "ValueError"))) (then_ok (value_exception_attribute exception_attribute_n4) _ ((v.Class (Built built.ValueError)), (j.Plain true)) exception_attribute_0_at_3 (expr_node recorder program_exception_attribute exception_attribute_n4 292 (x.outs-Name (codes "ValueError")) refl (leaf (simp views))) (as_run (plain_arguments recorder program_exception_attribute (value_exception_attribute) (means_exception_attribute) (callee.Value (v.Class (Built built.ValueError))) [] (exception_attribute_n5 ∷ []) []) (ap (λ args. plain_arguments recorder program_exception_attribute (value_exception_attribute) (means_exception_attribute) (callee.Value (v.Class (Built built.ValueError))) [] args.plain args.named exception_attribute_0_at_3) (out-roll-Args _)) (then_ok (value_exception_attribute exception_attribute_n5) _ ((v.Int (pos 1)), (j.Plain true)) exception_attribute_0_at_4 (expr_node recorder program_exception_attribute exception_attribute_n5 291 (x.outs-IntLit (pos 1)) refl (leaf (simp views))) (as_run (calls_class recorder program_exception_attribute (means_exception_attribute) (Built built.ValueError) ((v.Int (pos 1)) ∷ []) []) (ap (λ level. calls_value recorder program_exception_attribute (means_exception_attribute) level ((v.Int (pos 1)) ∷ []) [] exception_attribute_0_at_4) (outs-Class _)) (leaf (first_of (simp views, simp tuples, search))))))))) (then_err (finds program_exception_attribute (ref 0) (codes "foo")) _ (Left construct.ExceptionAttribute) exception_attribute_0_at_1 (leaf (first_of (simp views, simp tuples, search))))))))))) (refl)))))))))

abbrev value_no_finally_when_left : Expr → Run Trail Finding
value_no_finally_when_left = value_of recorder program_no_finally_when_left

abbrev means_no_finally_when_left : Stmt → Run Trail Finding
means_no_finally_when_left = means recorder program_no_finally_when_left

abbrev no_finally_when_left_0_seen_1 : Trail
no_finally_when_left_0_seen_1 = began 0 ∷ began 1 ∷ began 2 ∷ began 3 ∷ began 4 ∷ began 5 ∷ began 6 ∷ began 7 ∷ []

abbrev no_finally_when_left_0_at_1 : State World Trail
no_finally_when_left_0_at_1 = state_no_finally_when_left (Some (func_id 0)) (((codes "a"), (ref 0)) ∷ []) [] (object.List [] ∷ []) 1 289 no_finally_when_left_0_seen_1

abbrev no_finally_when_left_0_at_2 : State World Trail
no_finally_when_left_0_at_2 = state_no_finally_when_left None [] [] (object.List [] ∷ []) 0 289 no_finally_when_left_0_seen_1

pub no_finally_when_left_0 : Yields (means_no_finally_when_left no_finally_when_left_t3) (state_no_finally_when_left None [] [] [] 0 300 []) ((Err (Left construct.Identity)), no_finally_when_left_0_at_2)
unfolding equal ordered
no_finally_when_left_0 =
    stmt_node recorder program_no_finally_when_left no_finally_when_left_t3 299 (y.outs-Assign ((target.Name (codes "var_8")) ∷ []) false None no_finally_when_left_t2) refl (then_err (value_no_finally_when_left no_finally_when_left_t2) _ (Left construct.Identity) no_finally_when_left_0_at_2 (expr_node recorder program_no_finally_when_left no_finally_when_left_t2 298 (x.outs-Method no_finally_when_left_t1 (codes "f") (args [] [])) refl (then_ok (value_no_finally_when_left no_finally_when_left_t1) _ (v.ModuleRef, (j.Plain true)) (state_no_finally_when_left None [] [] [] 0 297 []) (expr_node recorder program_no_finally_when_left no_finally_when_left_t1 297 (x.outs-Name (codes "module_0")) refl (leaf (simp views))) (then_ok (finds program_no_finally_when_left v.ModuleRef (codes "f")) _ (callee.Value (v.Func (func_id 0))) (state_no_finally_when_left None [] [] [] 0 297 []) (leaf (first_of (simp views, simp tuples, search))) (as_run (plain_arguments recorder program_no_finally_when_left (value_no_finally_when_left) (means_no_finally_when_left) (callee.Value (v.Func (func_id 0))) [] [] []) (ap (λ args. plain_arguments recorder program_no_finally_when_left (value_no_finally_when_left) (means_no_finally_when_left) (callee.Value (v.Func (func_id 0))) [] args.plain args.named (state_no_finally_when_left None [] [] [] 0 297 [])) (out-roll-Args _)) (as_run (calls_function recorder program_no_finally_when_left (means_no_finally_when_left) (func_id 0) [] []) (ap (λ level. calls_value recorder program_no_finally_when_left (means_no_finally_when_left) level [] [] (state_no_finally_when_left None [] [] [] 0 297 [])) (outs-Func _)) (as_run (inside recorder program_no_finally_when_left (means_no_finally_when_left) (func_id 0) function_no_finally_when_left_0 []) (let same : calls_function recorder program_no_finally_when_left (means_no_finally_when_left) (func_id 0) [] [] (state_no_finally_when_left None [] [] [] 0 297 []) ≡ inside recorder program_no_finally_when_left (means_no_finally_when_left) (func_id 0) function_no_finally_when_left_0 [] (state_no_finally_when_left None [] [] [] 0 297 []) = refl in same) (gives_same (leaves (state_no_finally_when_left None [] [] [] 0 297 []).frame ((Err (Left construct.Identity)), no_finally_when_left_0_at_1)) (in_frame recorder program_no_finally_when_left (func_id 0) function_no_finally_when_left_0 [] (Err (Left construct.Identity)) no_finally_when_left_0_at_1 (then_ok (begins recorder (node 0)) _ tt (state_no_finally_when_left (Some (func_id 0)) [] [] [] 1 296 (began 0 ∷ [])) (leaf refl) (then_ok (means_no_finally_when_left no_finally_when_left_n1) _ (v.None, (j.Plain false)) (state_no_finally_when_left (Some (func_id 0)) (((codes "a"), (ref 0)) ∷ []) [] (object.List [] ∷ []) 1 294 (began 0 ∷ began 1 ∷ began 2 ∷ [])) (stmt_node recorder program_no_finally_when_left no_finally_when_left_n1 295 (y.outs-Assign ((target.Name (codes "a")) ∷ []) false None no_finally_when_left_n2) refl (then_ok (value_no_finally_when_left no_finally_when_left_n2) _ ((ref 0), (j.Plain false)) (state_no_finally_when_left (Some (func_id 0)) [] [] (object.List [] ∷ []) 1 294 (began 0 ∷ began 1 ∷ began 2 ∷ [])) (expr_node recorder program_no_finally_when_left no_finally_when_left_n2 294 (x.outs-ListLit []) refl (leaf (first_of (simp views, simp tuples, search)))) (leaf refl))) (then_err (means_no_finally_when_left no_finally_when_left_n3) _ (Left construct.Identity) no_finally_when_left_0_at_1 (stmt_node recorder program_no_finally_when_left no_finally_when_left_n3 293 (y.outs-Try (no_finally_when_left_n4 ∷ []) [] None (Some (no_finally_when_left_n8 ∷ []))) refl (then_after (after_end (block recorder program_no_finally_when_left (means_no_finally_when_left) (no_finally_when_left_n4 ∷ [])) (after_body recorder program_no_finally_when_left (value_no_finally_when_left) (means_no_finally_when_left) [] None)) (finally recorder program_no_finally_when_left (value_no_finally_when_left) (means_no_finally_when_left) (Some (no_finally_when_left_n8 ∷ []))) (Err (Left construct.Identity)) no_finally_when_left_0_at_1 (then_after (block recorder program_no_finally_when_left (means_no_finally_when_left) (no_finally_when_left_n4 ∷ [])) (after_body recorder program_no_finally_when_left (value_no_finally_when_left) (means_no_finally_when_left) [] None) (Err (Left construct.Identity)) no_finally_when_left_0_at_1 (then_err (means_no_finally_when_left no_finally_when_left_n4) _ (Left construct.Identity) no_finally_when_left_0_at_1 (stmt_node recorder program_no_finally_when_left no_finally_when_left_n4 292 (y.outs-Bare no_finally_when_left_n5) refl (then_err (value_no_finally_when_left no_finally_when_left_n5) _ (Left construct.Identity) no_finally_when_left_0_at_1 (expr_node recorder program_no_finally_when_left no_finally_when_left_n5 291 (x.outs-Compare no_finally_when_left_n6 ((Same, no_finally_when_left_n7) ∷ [])) refl (then_ok (value_no_finally_when_left no_finally_when_left_n6) _ ((v.Int (pos 1)), (j.Plain true)) (state_no_finally_when_left (Some (func_id 0)) (((codes "a"), (ref 0)) ∷ []) [] (object.List [] ∷ []) 1 290 (began 0 ∷ began 1 ∷ began 2 ∷ began 3 ∷ began 4 ∷ began 5 ∷ began 6 ∷ [])) (expr_node recorder program_no_finally_when_left no_finally_when_left_n6 290 (x.outs-IntLit (pos 1)) refl (leaf (simp views))) (then_ok (value_no_finally_when_left no_finally_when_left_n7) _ ((v.Int (pos 1)), (j.Plain true)) no_finally_when_left_0_at_1 (expr_node recorder program_no_finally_when_left no_finally_when_left_n7 289 (x.outs-IntLit (pos 1)) refl (leaf (simp views))) (then_err (compares Same (v.Int (pos 1)) (v.Int (pos 1))) _ (Left construct.Identity) no_finally_when_left_0_at_1 (leaf (first_of (simp views, simp tuples, search)))))))))) (leaf refl)) (leaf refl))))))) (refl)))))))))
