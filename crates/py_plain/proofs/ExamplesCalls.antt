-- Derivations of the worked examples of calls (6.3.4): each is a tree of the run, from rules of `Yields`.
use Rattle.py_meaning.specs.Equal.{equal}
use Rattle.py_meaning.specs.Examples.{id, ref}
use Rattle.py_meaning.specs.Folds.{tuple-out, key_cost-Tuple, key_cost-out, as_key-Tuple, as_key-out, same_key-Tuple, same_key-out}
use Rattle.py_meaning.specs.Less.{ordered}
use Rattle.py_meaning.specs.Tuples.{measured}
use Rattle.py_meaning.specs.Worlds.{World}
use Rattle.py_meaning.specs.declared.builtin.Builtin.TheVariants as builtin
use Rattle.py_meaning.specs.declared.object.Object.TheVariants as object
use Rattle.py_meaning.specs.declared.value.Value.TheVariants as v
use Rattle.py_meaning.specs.declared.value.Value.TheVariants.{outs-None, outs-Bool, outs-Int, outs-Str, outs-Tuple, outs-Ref, outs-Class, outs-Func, outs-View, outs-ModuleRef}
use Rattle.py_plain.proofs.Yields.{Yields, leaf, as_run, gives_same, then_ok, then_err, stmt_node, expr_node, in_frame, expr_none}
use Rattle.py_plain.specs.Attributes.{finds}
use Rattle.py_plain.specs.Calls.{leaves, inside, calls_function, calls_value, calls_class}
use Rattle.py_plain.specs.Examples.{node, args, func_id, began}
use Rattle.py_plain.specs.ExamplesCalls.{too_many_n6, too_many_n7, too_many_n8, too_many_n5, too_many_n4, too_many_t1, too_many_t2, too_many_t3, function_too_many_1, program_too_many, state_too_many, not_callable_with_names_n3, not_callable_with_names_n4, not_callable_with_names_n2, not_callable_with_names_n1, not_callable_with_names_t1, not_callable_with_names_t2, not_callable_with_names_t3, not_callable_with_names_t4, function_not_callable_with_names_0, program_not_callable_with_names, state_not_callable_with_names, callee_first_n3, callee_first_n4, callee_first_n2, callee_first_n1, callee_first_n9, callee_first_n10, callee_first_n8, callee_first_n11, callee_first_n7, callee_first_n6, callee_first_t1, callee_first_t2, callee_first_t3, function_callee_first_0, function_callee_first_1, program_callee_first, state_callee_first, keyword_of_builtin_n3, keyword_of_builtin_n5, keyword_of_builtin_n4, keyword_of_builtin_n2, keyword_of_builtin_n1, keyword_of_builtin_t1, keyword_of_builtin_t2, keyword_of_builtin_t3, function_keyword_of_builtin_0, program_keyword_of_builtin, state_keyword_of_builtin, function_attribute_n5, function_attribute_n4, function_attribute_n3, function_attribute_t1, function_attribute_t2, function_attribute_t3, function_function_attribute_1, program_function_attribute, state_function_attribute, raised_and_on_n3, raised_and_on_n4, raised_and_on_n2, raised_and_on_n1, raised_and_on_t1, raised_and_on_t2, raised_and_on_t3, raised_and_on_t4, raised_and_on_t5, raised_and_on_t6, raised_and_on_t7, function_raised_and_on_0, program_raised_and_on, state_raised_and_on, out_of_steps_before_function_t1, out_of_steps_before_function_t2, out_of_steps_before_function_t3, out_of_steps_before_function_t4, program_out_of_steps_before_function, state_out_of_steps_before_function, out_of_steps_in_call_n6, out_of_steps_in_call_n7, out_of_steps_in_call_n5, out_of_steps_in_call_n4, out_of_steps_in_call_t1, out_of_steps_in_call_t2, out_of_steps_in_call_t3, function_out_of_steps_in_call_0, function_out_of_steps_in_call_1, program_out_of_steps_in_call, state_out_of_steps_in_call}
use Rattle.py_plain.specs.Expressions.{plain_arguments, calls_meant, calls_expr}
use Rattle.py_plain.specs.Runs.{begins, Run, Finding}
use Rattle.py_plain.specs.Statements.{means, value_of}
use Rattle.py_plain.specs.Tests.{recorder, Trail}
use Rattle.py_plain.specs.declared.judged.Judged.TheVariants as j
use Rattle.py_plain.specs.declared.run.Abrupt.TheVariants.{Raised, Returned, Left, OutOfSteps}
use Rattle.py_plain.specs.declared.run.Callee.TheVariants as callee
use Rattle.py_plain.specs.declared.state.State.{State}
use Rattle.py_syntax.specs.declared.expr.Args.{out-roll-Args}
use Rattle.py_syntax.specs.declared.expr.Expr.{Expr}
use Rattle.py_syntax.specs.declared.expr.ExprKind.TheVariants as x
use Rattle.py_syntax.specs.declared.operator.BinOp.TheVariants.{FloorDiv}
use Rattle.py_syntax.specs.declared.stmt.Stmt.{Stmt}
use Rattle.py_syntax.specs.declared.stmt.StmtKind.TheVariants as y
use Rattle.py_syntax.specs.declared.stmt.Target.TheVariants as target
use Rattle.pyn_base.specs.declared.class.BuiltClass.TheVariants as built
use Rattle.pyn_base.specs.declared.class.ClassId.TheVariants.{Built}
use Rattle.pyn_base.specs.declared.construct.Construct.TheVariants as construct
use Rattle.std.proofs.Common.{◌≡◌, refl, ap}
use Rattle.std.specs.Prelude.{pos, true, false, [], ◌∷◌, Some, None, Ok, Err, codes}

ruleset views = (tuple-out, outs-None, outs-Bool, outs-Int, outs-Str, outs-Tuple, outs-Ref, outs-Class, outs-Func, outs-View, outs-ModuleRef)

ruleset tuples = (tuple-out, outs-None, outs-Bool, outs-Int, outs-Str, outs-Tuple, outs-Ref, outs-Class, outs-Func, outs-View, outs-ModuleRef, key_cost-Tuple, key_cost-out, as_key-Tuple, as_key-out, same_key-Tuple, same_key-out)

abbrev value_too_many : Expr → Run Trail Finding
value_too_many = value_of recorder program_too_many

abbrev means_too_many : Stmt → Run Trail Finding
means_too_many = means recorder program_too_many

abbrev too_many_0_seen_1 : Trail
too_many_0_seen_1 = began 3 ∷ began 4 ∷ began 5 ∷ began 6 ∷ began 7 ∷ began 8 ∷ []

abbrev too_many_0_seen_2 : Trail
too_many_0_seen_2 = began 3 ∷ began 4 ∷ began 5 ∷ began 6 ∷ []

abbrev too_many_0_at_1 : State World Trail
too_many_0_at_1 = state_too_many (Some (func_id 1)) [] [] (object.Instance (Built built.TypeError) [] None ∷ []) 1 291 too_many_0_seen_1

abbrev too_many_0_at_2 : State World Trail
too_many_0_at_2 = state_too_many None [] [] (object.Instance (Built built.TypeError) [] None ∷ []) 0 291 too_many_0_seen_1

abbrev too_many_0_at_3 : State World Trail
too_many_0_at_3 = state_too_many (Some (func_id 1)) [] [] [] 1 293 too_many_0_seen_2

abbrev too_many_0_at_4 : State World Trail
too_many_0_at_4 = state_too_many (Some (func_id 1)) [] [] [] 1 291 too_many_0_seen_1

pub too_many_0 : Yields (means_too_many too_many_t3) (state_too_many None [] [] [] 0 300 []) ((Err (Raised (id 0))), too_many_0_at_2)
unfolding equal ordered
too_many_0 =
    stmt_node recorder program_too_many too_many_t3 299 (y.outs-Assign ((target.Name (codes "var_8")) ∷ []) false None too_many_t2) refl (then_err (value_too_many too_many_t2) _ (Raised (id 0)) too_many_0_at_2 (expr_node recorder program_too_many too_many_t2 298 (x.outs-Method too_many_t1 (codes "f") (args [] [])) refl (then_ok (value_too_many too_many_t1) _ (v.ModuleRef, (j.Plain true)) (state_too_many None [] [] [] 0 297 []) (expr_node recorder program_too_many too_many_t1 297 (x.outs-Name (codes "module_0")) refl (leaf (simp views))) (then_ok (finds program_too_many v.ModuleRef (codes "f")) _ (callee.Value (v.Func (func_id 1))) (state_too_many None [] [] [] 0 297 []) (leaf (first_of (simp views, simp tuples, search))) (as_run (plain_arguments recorder program_too_many (value_too_many) (means_too_many) (callee.Value (v.Func (func_id 1))) [] [] []) (ap (λ args. plain_arguments recorder program_too_many (value_too_many) (means_too_many) (callee.Value (v.Func (func_id 1))) [] args.plain args.named (state_too_many None [] [] [] 0 297 [])) (out-roll-Args _)) (as_run (calls_function recorder program_too_many (means_too_many) (func_id 1) [] []) (ap (λ level. calls_value recorder program_too_many (means_too_many) level [] [] (state_too_many None [] [] [] 0 297 [])) (outs-Func _)) (as_run (inside recorder program_too_many (means_too_many) (func_id 1) function_too_many_1 []) (let same : calls_function recorder program_too_many (means_too_many) (func_id 1) [] [] (state_too_many None [] [] [] 0 297 []) ≡ inside recorder program_too_many (means_too_many) (func_id 1) function_too_many_1 [] (state_too_many None [] [] [] 0 297 []) = refl in same) (gives_same (leaves (state_too_many None [] [] [] 0 297 []).frame ((Err (Raised (id 0))), too_many_0_at_1)) (in_frame recorder program_too_many (func_id 1) function_too_many_1 [] (Err (Raised (id 0))) too_many_0_at_1 (then_ok (begins recorder (node 3)) _ tt (state_too_many (Some (func_id 1)) [] [] [] 1 296 (began 3 ∷ [])) (leaf refl) (then_err (means_too_many too_many_n4) _ (Raised (id 0)) too_many_0_at_1 (stmt_node recorder program_too_many too_many_n4 295 (y.outs-Return (Some too_many_n5)) refl (then_err (value_too_many too_many_n5) _ (Raised (id 0)) too_many_0_at_1 (expr_node recorder program_too_many too_many_n5 294 (x.outs-Call too_many_n6 (args (too_many_n7 ∷ too_many_n8 ∷ []) [])) refl (as_run (calls_meant recorder program_too_many (value_too_many) (means_too_many) None too_many_n6 (args (too_many_n7 ∷ too_many_n8 ∷ []) [])) (ap (λ kind. calls_expr recorder program_too_many (value_too_many) (means_too_many) kind too_many_n6 (args (too_many_n7 ∷ too_many_n8 ∷ []) []) (state_too_many (Some (func_id 1)) [] [] [] 1 294 (began 3 ∷ began 4 ∷ began 5 ∷ []))) (x.outs-Name (codes "g"))) (then_ok (value_too_many too_many_n6) _ ((v.Func (func_id 0)), (j.Plain true)) too_many_0_at_3 (expr_node recorder program_too_many too_many_n6 293 (x.outs-Name (codes "g")) refl (leaf (simp views))) (as_run (plain_arguments recorder program_too_many (value_too_many) (means_too_many) (callee.Value (v.Func (func_id 0))) [] (too_many_n7 ∷ too_many_n8 ∷ []) []) (ap (λ args. plain_arguments recorder program_too_many (value_too_many) (means_too_many) (callee.Value (v.Func (func_id 0))) [] args.plain args.named too_many_0_at_3) (out-roll-Args _)) (then_ok (value_too_many too_many_n7) _ ((v.Int (pos 1)), (j.Plain true)) (state_too_many (Some (func_id 1)) [] [] [] 1 292 (began 3 ∷ began 4 ∷ began 5 ∷ began 6 ∷ began 7 ∷ [])) (expr_node recorder program_too_many too_many_n7 292 (x.outs-IntLit (pos 1)) refl (leaf (simp views))) (then_ok (value_too_many too_many_n8) _ ((v.Int (pos 2)), (j.Plain true)) too_many_0_at_4 (expr_node recorder program_too_many too_many_n8 291 (x.outs-IntLit (pos 2)) refl (leaf (simp views))) (as_run (calls_function recorder program_too_many (means_too_many) (func_id 0) ((v.Int (pos 1)) ∷ (v.Int (pos 2)) ∷ []) []) (ap (λ level. calls_value recorder program_too_many (means_too_many) level ((v.Int (pos 1)) ∷ (v.Int (pos 2)) ∷ []) [] too_many_0_at_4) (outs-Func _)) (leaf refl))))))))))))) (refl)))))))))

abbrev value_not_callable_with_names : Expr → Run Trail Finding
value_not_callable_with_names = value_of recorder program_not_callable_with_names

abbrev means_not_callable_with_names : Stmt → Run Trail Finding
means_not_callable_with_names = means recorder program_not_callable_with_names

abbrev not_callable_with_names_0_seen_1 : Trail
not_callable_with_names_0_seen_1 = began 0 ∷ began 1 ∷ began 2 ∷ began 3 ∷ began 4 ∷ []

abbrev not_callable_with_names_0_seen_2 : Trail
not_callable_with_names_0_seen_2 = began 0 ∷ began 1 ∷ began 2 ∷ began 3 ∷ []

abbrev not_callable_with_names_0_at_1 : State World Trail
not_callable_with_names_0_at_1 = state_not_callable_with_names (Some (func_id 0)) (((codes "a"), (v.Int (pos 5))) ∷ []) [] (object.Instance (Built built.TypeError) [] None ∷ []) 1 291 not_callable_with_names_0_seen_1

abbrev not_callable_with_names_0_at_2 : State World Trail
not_callable_with_names_0_at_2 = state_not_callable_with_names None [] [] (object.Instance (Built built.TypeError) [] None ∷ []) 0 291 not_callable_with_names_0_seen_1

abbrev not_callable_with_names_0_at_3 : State World Trail
not_callable_with_names_0_at_3 = state_not_callable_with_names (Some (func_id 0)) (((codes "a"), (v.Int (pos 5))) ∷ []) [] [] 1 292 not_callable_with_names_0_seen_2

pub not_callable_with_names_0 : Yields (means_not_callable_with_names not_callable_with_names_t4) (state_not_callable_with_names None [] [] [] 0 300 []) ((Err (Raised (id 0))), not_callable_with_names_0_at_2)
unfolding equal ordered
not_callable_with_names_0 =
    stmt_node recorder program_not_callable_with_names not_callable_with_names_t4 299 (y.outs-Assign ((target.Name (codes "var_8")) ∷ []) false None not_callable_with_names_t3) refl (then_err (value_not_callable_with_names not_callable_with_names_t3) _ (Raised (id 0)) not_callable_with_names_0_at_2 (expr_node recorder program_not_callable_with_names not_callable_with_names_t3 298 (x.outs-Method not_callable_with_names_t1 (codes "f") (args (not_callable_with_names_t2 ∷ []) [])) refl (then_ok (value_not_callable_with_names not_callable_with_names_t1) _ (v.ModuleRef, (j.Plain true)) (state_not_callable_with_names None [] [] [] 0 297 []) (expr_node recorder program_not_callable_with_names not_callable_with_names_t1 297 (x.outs-Name (codes "module_0")) refl (leaf (simp views))) (then_ok (finds program_not_callable_with_names v.ModuleRef (codes "f")) _ (callee.Value (v.Func (func_id 0))) (state_not_callable_with_names None [] [] [] 0 297 []) (leaf (first_of (simp views, simp tuples, search))) (as_run (plain_arguments recorder program_not_callable_with_names (value_not_callable_with_names) (means_not_callable_with_names) (callee.Value (v.Func (func_id 0))) [] (not_callable_with_names_t2 ∷ []) []) (ap (λ args. plain_arguments recorder program_not_callable_with_names (value_not_callable_with_names) (means_not_callable_with_names) (callee.Value (v.Func (func_id 0))) [] args.plain args.named (state_not_callable_with_names None [] [] [] 0 297 [])) (out-roll-Args _)) (then_ok (value_not_callable_with_names not_callable_with_names_t2) _ ((v.Int (pos 5)), (j.Plain true)) (state_not_callable_with_names None [] [] [] 0 296 []) (expr_node recorder program_not_callable_with_names not_callable_with_names_t2 296 (x.outs-IntLit (pos 5)) refl (leaf (simp views))) (as_run (calls_function recorder program_not_callable_with_names (means_not_callable_with_names) (func_id 0) ((v.Int (pos 5)) ∷ []) []) (ap (λ level. calls_value recorder program_not_callable_with_names (means_not_callable_with_names) level ((v.Int (pos 5)) ∷ []) [] (state_not_callable_with_names None [] [] [] 0 296 [])) (outs-Func _)) (as_run (inside recorder program_not_callable_with_names (means_not_callable_with_names) (func_id 0) function_not_callable_with_names_0 (((codes "a"), (v.Int (pos 5))) ∷ [])) (let same : calls_function recorder program_not_callable_with_names (means_not_callable_with_names) (func_id 0) ((v.Int (pos 5)) ∷ []) [] (state_not_callable_with_names None [] [] [] 0 296 []) ≡ inside recorder program_not_callable_with_names (means_not_callable_with_names) (func_id 0) function_not_callable_with_names_0 (((codes "a"), (v.Int (pos 5))) ∷ []) (state_not_callable_with_names None [] [] [] 0 296 []) = refl in same) (gives_same (leaves (state_not_callable_with_names None [] [] [] 0 296 []).frame ((Err (Raised (id 0))), not_callable_with_names_0_at_1)) (in_frame recorder program_not_callable_with_names (func_id 0) function_not_callable_with_names_0 (((codes "a"), (v.Int (pos 5))) ∷ []) (Err (Raised (id 0))) not_callable_with_names_0_at_1 (then_ok (begins recorder (node 0)) _ tt (state_not_callable_with_names (Some (func_id 0)) (((codes "a"), (v.Int (pos 5))) ∷ []) [] [] 1 295 (began 0 ∷ [])) (leaf refl) (then_err (means_not_callable_with_names not_callable_with_names_n1) _ (Raised (id 0)) not_callable_with_names_0_at_1 (stmt_node recorder program_not_callable_with_names not_callable_with_names_n1 294 (y.outs-Return (Some not_callable_with_names_n2)) refl (then_err (value_not_callable_with_names not_callable_with_names_n2) _ (Raised (id 0)) not_callable_with_names_0_at_1 (expr_node recorder program_not_callable_with_names not_callable_with_names_n2 293 (x.outs-Call not_callable_with_names_n3 (args [] (((codes "x"), not_callable_with_names_n4) ∷ []))) refl (as_run (calls_meant recorder program_not_callable_with_names (value_not_callable_with_names) (means_not_callable_with_names) None not_callable_with_names_n3 (args [] (((codes "x"), not_callable_with_names_n4) ∷ []))) (ap (λ kind. calls_expr recorder program_not_callable_with_names (value_not_callable_with_names) (means_not_callable_with_names) kind not_callable_with_names_n3 (args [] (((codes "x"), not_callable_with_names_n4) ∷ [])) (state_not_callable_with_names (Some (func_id 0)) (((codes "a"), (v.Int (pos 5))) ∷ []) [] [] 1 293 (began 0 ∷ began 1 ∷ began 2 ∷ []))) (x.outs-Name (codes "a"))) (then_ok (value_not_callable_with_names not_callable_with_names_n3) _ ((v.Int (pos 5)), (j.Plain true)) not_callable_with_names_0_at_3 (expr_node recorder program_not_callable_with_names not_callable_with_names_n3 292 (x.outs-Name (codes "a")) refl (leaf (simp views))) (as_run (plain_arguments recorder program_not_callable_with_names (value_not_callable_with_names) (means_not_callable_with_names) (callee.Value (v.Int (pos 5))) [] [] (((codes "x"), not_callable_with_names_n4) ∷ [])) (ap (λ args. plain_arguments recorder program_not_callable_with_names (value_not_callable_with_names) (means_not_callable_with_names) (callee.Value (v.Int (pos 5))) [] args.plain args.named not_callable_with_names_0_at_3) (out-roll-Args _)) (then_ok (value_not_callable_with_names not_callable_with_names_n4) _ ((v.Int (pos 1)), (j.Plain true)) (state_not_callable_with_names (Some (func_id 0)) (((codes "a"), (v.Int (pos 5))) ∷ []) [] [] 1 291 not_callable_with_names_0_seen_1) (expr_node recorder program_not_callable_with_names not_callable_with_names_n4 291 (x.outs-IntLit (pos 1)) refl (leaf (simp views))) (leaf (first_of (simp views, simp tuples, search))))))))))))) (refl))))))))))

abbrev value_callee_first : Expr → Run Trail Finding
value_callee_first = value_of recorder program_callee_first

abbrev means_callee_first : Stmt → Run Trail Finding
means_callee_first = means recorder program_callee_first

abbrev callee_first_0_seen_1 : Trail
callee_first_0_seen_1 = began 5 ∷ began 6 ∷ began 7 ∷ began 8 ∷ began 9 ∷ began 10 ∷ began 0 ∷ began 1 ∷ began 2 ∷ began 3 ∷ began 4 ∷ []

abbrev callee_first_0_seen_2 : Trail
callee_first_0_seen_2 = began 5 ∷ began 6 ∷ began 7 ∷ began 8 ∷ began 9 ∷ began 10 ∷ began 0 ∷ began 1 ∷ began 2 ∷ began 3 ∷ []

abbrev callee_first_0_seen_3 : Trail
callee_first_0_seen_3 = began 5 ∷ began 6 ∷ began 7 ∷ began 8 ∷ began 9 ∷ began 10 ∷ []

abbrev callee_first_0_seen_4 : Trail
callee_first_0_seen_4 = began 5 ∷ began 6 ∷ began 7 ∷ began 8 ∷ began 9 ∷ []

abbrev callee_first_0_at_1 : State World Trail
callee_first_0_at_1 = state_callee_first (Some (func_id 0)) (((codes "a"), (v.Int (pos 1))) ∷ []) [] (object.Instance (Built built.ValueError) [] (Some (measured ((v.Int (pos 1)) ∷ []))) ∷ []) 2 286 callee_first_0_seen_1

abbrev callee_first_0_at_2 : State World Trail
callee_first_0_at_2 = state_callee_first (Some (func_id 1)) [] [] (object.Instance (Built built.ValueError) [] (Some (measured ((v.Int (pos 1)) ∷ []))) ∷ []) 1 286 callee_first_0_seen_1

abbrev callee_first_0_at_3 : State World Trail
callee_first_0_at_3 = state_callee_first None [] [] (object.Instance (Built built.ValueError) [] (Some (measured ((v.Int (pos 1)) ∷ []))) ∷ []) 0 286 callee_first_0_seen_1

abbrev callee_first_0_at_4 : State World Trail
callee_first_0_at_4 = state_callee_first (Some (func_id 0)) (((codes "a"), (v.Int (pos 1))) ∷ []) [] [] 2 287 callee_first_0_seen_2

abbrev callee_first_0_at_5 : State World Trail
callee_first_0_at_5 = state_callee_first (Some (func_id 0)) (((codes "a"), (v.Int (pos 1))) ∷ []) [] [] 2 286 callee_first_0_seen_1

abbrev callee_first_0_at_6 : State World Trail
callee_first_0_at_6 = state_callee_first (Some (func_id 1)) [] [] [] 1 292 callee_first_0_seen_4

abbrev callee_first_0_at_7 : State World Trail
callee_first_0_at_7 = state_callee_first (Some (func_id 1)) [] [] [] 1 291 callee_first_0_seen_3

pub callee_first_0 : Yields (means_callee_first callee_first_t3) (state_callee_first None [] [] [] 0 300 []) ((Err (Raised (id 0))), callee_first_0_at_3)
unfolding equal ordered
callee_first_0 =
    stmt_node recorder program_callee_first callee_first_t3 299 (y.outs-Assign ((target.Name (codes "var_8")) ∷ []) false None callee_first_t2) refl (then_err (value_callee_first callee_first_t2) _ (Raised (id 0)) callee_first_0_at_3 (expr_node recorder program_callee_first callee_first_t2 298 (x.outs-Method callee_first_t1 (codes "f") (args [] [])) refl (then_ok (value_callee_first callee_first_t1) _ (v.ModuleRef, (j.Plain true)) (state_callee_first None [] [] [] 0 297 []) (expr_node recorder program_callee_first callee_first_t1 297 (x.outs-Name (codes "module_0")) refl (leaf (simp views))) (then_ok (finds program_callee_first v.ModuleRef (codes "f")) _ (callee.Value (v.Func (func_id 1))) (state_callee_first None [] [] [] 0 297 []) (leaf (first_of (simp views, simp tuples, search))) (as_run (plain_arguments recorder program_callee_first (value_callee_first) (means_callee_first) (callee.Value (v.Func (func_id 1))) [] [] []) (ap (λ args. plain_arguments recorder program_callee_first (value_callee_first) (means_callee_first) (callee.Value (v.Func (func_id 1))) [] args.plain args.named (state_callee_first None [] [] [] 0 297 [])) (out-roll-Args _)) (as_run (calls_function recorder program_callee_first (means_callee_first) (func_id 1) [] []) (ap (λ level. calls_value recorder program_callee_first (means_callee_first) level [] [] (state_callee_first None [] [] [] 0 297 [])) (outs-Func _)) (as_run (inside recorder program_callee_first (means_callee_first) (func_id 1) function_callee_first_1 []) (let same : calls_function recorder program_callee_first (means_callee_first) (func_id 1) [] [] (state_callee_first None [] [] [] 0 297 []) ≡ inside recorder program_callee_first (means_callee_first) (func_id 1) function_callee_first_1 [] (state_callee_first None [] [] [] 0 297 []) = refl in same) (gives_same (leaves (state_callee_first None [] [] [] 0 297 []).frame ((Err (Raised (id 0))), callee_first_0_at_2)) (in_frame recorder program_callee_first (func_id 1) function_callee_first_1 [] (Err (Raised (id 0))) callee_first_0_at_2 (then_ok (begins recorder (node 5)) _ tt (state_callee_first (Some (func_id 1)) [] [] [] 1 296 (began 5 ∷ [])) (leaf refl) (then_err (means_callee_first callee_first_n6) _ (Raised (id 0)) callee_first_0_at_2 (stmt_node recorder program_callee_first callee_first_n6 295 (y.outs-Return (Some callee_first_n7)) refl (then_err (value_callee_first callee_first_n7) _ (Raised (id 0)) callee_first_0_at_2 (expr_node recorder program_callee_first callee_first_n7 294 (x.outs-Call callee_first_n8 (args (callee_first_n11 ∷ []) [])) refl (as_run (calls_meant recorder program_callee_first (value_callee_first) (means_callee_first) None callee_first_n8 (args (callee_first_n11 ∷ []) [])) (ap (λ kind. calls_expr recorder program_callee_first (value_callee_first) (means_callee_first) kind callee_first_n8 (args (callee_first_n11 ∷ []) []) (state_callee_first (Some (func_id 1)) [] [] [] 1 294 (began 5 ∷ began 6 ∷ began 7 ∷ []))) (x.outs-Call callee_first_n9 (args (callee_first_n10 ∷ []) []))) (then_err (value_callee_first callee_first_n8) _ (Raised (id 0)) callee_first_0_at_2 (expr_node recorder program_callee_first callee_first_n8 293 (x.outs-Call callee_first_n9 (args (callee_first_n10 ∷ []) [])) refl (as_run (calls_meant recorder program_callee_first (value_callee_first) (means_callee_first) None callee_first_n9 (args (callee_first_n10 ∷ []) [])) (ap (λ kind. calls_expr recorder program_callee_first (value_callee_first) (means_callee_first) kind callee_first_n9 (args (callee_first_n10 ∷ []) []) (state_callee_first (Some (func_id 1)) [] [] [] 1 293 (began 5 ∷ began 6 ∷ began 7 ∷ began 8 ∷ []))) (x.outs-Name (codes "g"))) (then_ok (value_callee_first callee_first_n9) _ ((v.Func (func_id 0)), (j.Plain true)) callee_first_0_at_6 (expr_node recorder program_callee_first callee_first_n9 292 (x.outs-Name (codes "g")) refl (leaf (simp views))) (as_run (plain_arguments recorder program_callee_first (value_callee_first) (means_callee_first) (callee.Value (v.Func (func_id 0))) [] (callee_first_n10 ∷ []) []) (ap (λ args. plain_arguments recorder program_callee_first (value_callee_first) (means_callee_first) (callee.Value (v.Func (func_id 0))) [] args.plain args.named callee_first_0_at_6) (out-roll-Args _)) (then_ok (value_callee_first callee_first_n10) _ ((v.Int (pos 1)), (j.Plain true)) callee_first_0_at_7 (expr_node recorder program_callee_first callee_first_n10 291 (x.outs-IntLit (pos 1)) refl (leaf (simp views))) (as_run (calls_function recorder program_callee_first (means_callee_first) (func_id 0) ((v.Int (pos 1)) ∷ []) []) (ap (λ level. calls_value recorder program_callee_first (means_callee_first) level ((v.Int (pos 1)) ∷ []) [] callee_first_0_at_7) (outs-Func _)) (as_run (inside recorder program_callee_first (means_callee_first) (func_id 0) function_callee_first_0 (((codes "a"), (v.Int (pos 1))) ∷ [])) (let same : calls_function recorder program_callee_first (means_callee_first) (func_id 0) ((v.Int (pos 1)) ∷ []) [] callee_first_0_at_7 ≡ inside recorder program_callee_first (means_callee_first) (func_id 0) function_callee_first_0 (((codes "a"), (v.Int (pos 1))) ∷ []) callee_first_0_at_7 = refl in same) (gives_same (leaves callee_first_0_at_7.frame ((Err (Raised (id 0))), callee_first_0_at_1)) (in_frame recorder program_callee_first (func_id 0) function_callee_first_0 (((codes "a"), (v.Int (pos 1))) ∷ []) (Err (Raised (id 0))) callee_first_0_at_1 (then_ok (begins recorder (node 0)) _ tt (state_callee_first (Some (func_id 0)) (((codes "a"), (v.Int (pos 1))) ∷ []) [] [] 2 290 (began 5 ∷ began 6 ∷ began 7 ∷ began 8 ∷ began 9 ∷ began 10 ∷ began 0 ∷ [])) (leaf refl) (then_err (means_callee_first callee_first_n1) _ (Raised (id 0)) callee_first_0_at_1 (stmt_node recorder program_callee_first callee_first_n1 289 (y.outs-Raise (Some callee_first_n2)) refl (then_ok (value_callee_first callee_first_n2) _ ((ref 0), (j.Plain true)) callee_first_0_at_1 (expr_node recorder program_callee_first callee_first_n2 288 (x.outs-Call callee_first_n3 (args (callee_first_n4 ∷ []) [])) refl (as_run (calls_meant recorder program_callee_first (value_callee_first) (means_callee_first) None callee_first_n3 (args (callee_first_n4 ∷ []) [])) (ap (λ kind. calls_expr recorder program_callee_first (value_callee_first) (means_callee_first) kind callee_first_n3 (args (callee_first_n4 ∷ []) []) (state_callee_first (Some (func_id 0)) (((codes "a"), (v.Int (pos 1))) ∷ []) [] [] 2 288 (began 5 ∷ began 6 ∷ began 7 ∷ began 8 ∷ began 9 ∷ began 10 ∷ began 0 ∷ began 1 ∷ began 2 ∷ []))) (x.outs-Name (codes "ValueError"))) (then_ok (value_callee_first callee_first_n3) _ ((v.Class (Built built.ValueError)), (j.Plain true)) callee_first_0_at_4 (expr_node recorder program_callee_first callee_first_n3 287 (x.outs-Name (codes "ValueError")) refl (leaf (simp views))) (as_run (plain_arguments recorder program_callee_first (value_callee_first) (means_callee_first) (callee.Value (v.Class (Built built.ValueError))) [] (callee_first_n4 ∷ []) []) (ap (λ args. plain_arguments recorder program_callee_first (value_callee_first) (means_callee_first) (callee.Value (v.Class (Built built.ValueError))) [] args.plain args.named callee_first_0_at_4) (out-roll-Args _)) (then_ok (value_callee_first callee_first_n4) _ ((v.Int (pos 1)), (j.Plain true)) callee_first_0_at_5 (expr_node recorder program_callee_first callee_first_n4 286 (x.outs-Name (codes "a")) refl (leaf (simp views))) (as_run (calls_class recorder program_callee_first (means_callee_first) (Built built.ValueError) ((v.Int (pos 1)) ∷ []) []) (ap (λ level. calls_value recorder program_callee_first (means_callee_first) level ((v.Int (pos 1)) ∷ []) [] callee_first_0_at_5) (outs-Class _)) (leaf (first_of (simp views, simp tuples, search))))))))) (leaf (first_of (simp views, simp tuples, search)))))))) (refl))))))))))))))))) (refl)))))))))

abbrev value_keyword_of_builtin : Expr → Run Trail Finding
value_keyword_of_builtin = value_of recorder program_keyword_of_builtin

abbrev means_keyword_of_builtin : Stmt → Run Trail Finding
means_keyword_of_builtin = means recorder program_keyword_of_builtin

abbrev keyword_of_builtin_0_seen_1 : Trail
keyword_of_builtin_0_seen_1 = began 0 ∷ began 1 ∷ began 2 ∷ began 3 ∷ began 4 ∷ began 5 ∷ []

abbrev keyword_of_builtin_0_seen_2 : Trail
keyword_of_builtin_0_seen_2 = began 0 ∷ began 1 ∷ began 2 ∷ began 3 ∷ []

abbrev keyword_of_builtin_0_at_1 : State World Trail
keyword_of_builtin_0_at_1 = state_keyword_of_builtin (Some (func_id 0)) [] [] (object.List ((v.Int (pos 1)) ∷ []) ∷ []) 1 290 keyword_of_builtin_0_seen_1

abbrev keyword_of_builtin_0_at_2 : State World Trail
keyword_of_builtin_0_at_2 = state_keyword_of_builtin None [] [] (object.List ((v.Int (pos 1)) ∷ []) ∷ []) 0 290 keyword_of_builtin_0_seen_1

abbrev keyword_of_builtin_0_at_3 : State World Trail
keyword_of_builtin_0_at_3 = state_keyword_of_builtin (Some (func_id 0)) [] [] [] 1 293 keyword_of_builtin_0_seen_2

pub keyword_of_builtin_0 : Yields (means_keyword_of_builtin keyword_of_builtin_t3) (state_keyword_of_builtin None [] [] [] 0 300 []) ((Err (Left construct.KeywordArgument)), keyword_of_builtin_0_at_2)
unfolding equal ordered
keyword_of_builtin_0 =
    stmt_node recorder program_keyword_of_builtin keyword_of_builtin_t3 299 (y.outs-Assign ((target.Name (codes "var_8")) ∷ []) false None keyword_of_builtin_t2) refl (then_err (value_keyword_of_builtin keyword_of_builtin_t2) _ (Left construct.KeywordArgument) keyword_of_builtin_0_at_2 (expr_node recorder program_keyword_of_builtin keyword_of_builtin_t2 298 (x.outs-Method keyword_of_builtin_t1 (codes "f") (args [] [])) refl (then_ok (value_keyword_of_builtin keyword_of_builtin_t1) _ (v.ModuleRef, (j.Plain true)) (state_keyword_of_builtin None [] [] [] 0 297 []) (expr_node recorder program_keyword_of_builtin keyword_of_builtin_t1 297 (x.outs-Name (codes "module_0")) refl (leaf (simp views))) (then_ok (finds program_keyword_of_builtin v.ModuleRef (codes "f")) _ (callee.Value (v.Func (func_id 0))) (state_keyword_of_builtin None [] [] [] 0 297 []) (leaf (first_of (simp views, simp tuples, search))) (as_run (plain_arguments recorder program_keyword_of_builtin (value_keyword_of_builtin) (means_keyword_of_builtin) (callee.Value (v.Func (func_id 0))) [] [] []) (ap (λ args. plain_arguments recorder program_keyword_of_builtin (value_keyword_of_builtin) (means_keyword_of_builtin) (callee.Value (v.Func (func_id 0))) [] args.plain args.named (state_keyword_of_builtin None [] [] [] 0 297 [])) (out-roll-Args _)) (as_run (calls_function recorder program_keyword_of_builtin (means_keyword_of_builtin) (func_id 0) [] []) (ap (λ level. calls_value recorder program_keyword_of_builtin (means_keyword_of_builtin) level [] [] (state_keyword_of_builtin None [] [] [] 0 297 [])) (outs-Func _)) (as_run (inside recorder program_keyword_of_builtin (means_keyword_of_builtin) (func_id 0) function_keyword_of_builtin_0 []) (let same : calls_function recorder program_keyword_of_builtin (means_keyword_of_builtin) (func_id 0) [] [] (state_keyword_of_builtin None [] [] [] 0 297 []) ≡ inside recorder program_keyword_of_builtin (means_keyword_of_builtin) (func_id 0) function_keyword_of_builtin_0 [] (state_keyword_of_builtin None [] [] [] 0 297 []) = refl in same) (gives_same (leaves (state_keyword_of_builtin None [] [] [] 0 297 []).frame ((Err (Left construct.KeywordArgument)), keyword_of_builtin_0_at_1)) (in_frame recorder program_keyword_of_builtin (func_id 0) function_keyword_of_builtin_0 [] (Err (Left construct.KeywordArgument)) keyword_of_builtin_0_at_1 (then_ok (begins recorder (node 0)) _ tt (state_keyword_of_builtin (Some (func_id 0)) [] [] [] 1 296 (began 0 ∷ [])) (leaf refl) (then_err (means_keyword_of_builtin keyword_of_builtin_n1) _ (Left construct.KeywordArgument) keyword_of_builtin_0_at_1 (stmt_node recorder program_keyword_of_builtin keyword_of_builtin_n1 295 (y.outs-Return (Some keyword_of_builtin_n2)) refl (then_err (value_keyword_of_builtin keyword_of_builtin_n2) _ (Left construct.KeywordArgument) keyword_of_builtin_0_at_1 (expr_node recorder program_keyword_of_builtin keyword_of_builtin_n2 294 (x.outs-Call keyword_of_builtin_n3 (args [] (((codes "x"), keyword_of_builtin_n4) ∷ []))) refl (as_run (calls_meant recorder program_keyword_of_builtin (value_keyword_of_builtin) (means_keyword_of_builtin) (Some builtin.Len) keyword_of_builtin_n3 (args [] (((codes "x"), keyword_of_builtin_n4) ∷ []))) (ap (λ kind. calls_expr recorder program_keyword_of_builtin (value_keyword_of_builtin) (means_keyword_of_builtin) kind keyword_of_builtin_n3 (args [] (((codes "x"), keyword_of_builtin_n4) ∷ [])) (state_keyword_of_builtin (Some (func_id 0)) [] [] [] 1 294 (began 0 ∷ began 1 ∷ began 2 ∷ []))) (x.outs-Name (codes "len"))) (then_ok (begins recorder (node 3)) _ tt keyword_of_builtin_0_at_3 (leaf refl) (as_run (plain_arguments recorder program_keyword_of_builtin (value_keyword_of_builtin) (means_keyword_of_builtin) (callee.Builtin builtin.Len) [] [] (((codes "x"), keyword_of_builtin_n4) ∷ [])) (ap (λ args. plain_arguments recorder program_keyword_of_builtin (value_keyword_of_builtin) (means_keyword_of_builtin) (callee.Builtin builtin.Len) [] args.plain args.named keyword_of_builtin_0_at_3) (out-roll-Args _)) (then_ok (value_keyword_of_builtin keyword_of_builtin_n4) _ ((ref 0), (j.Plain true)) keyword_of_builtin_0_at_1 (expr_node recorder program_keyword_of_builtin keyword_of_builtin_n4 292 (x.outs-ListLit (keyword_of_builtin_n5 ∷ [])) refl (then_ok (value_keyword_of_builtin keyword_of_builtin_n5) _ ((v.Int (pos 1)), (j.Plain true)) (state_keyword_of_builtin (Some (func_id 0)) [] [] [] 1 291 keyword_of_builtin_0_seen_1) (expr_node recorder program_keyword_of_builtin keyword_of_builtin_n5 291 (x.outs-IntLit (pos 1)) refl (leaf (simp views))) (leaf (first_of (simp views, simp tuples, search))))) (leaf (first_of (simp views, simp tuples, search))))))))))))) (refl)))))))))

abbrev value_function_attribute : Expr → Run Trail Finding
value_function_attribute = value_of recorder program_function_attribute

abbrev means_function_attribute : Stmt → Run Trail Finding
means_function_attribute = means recorder program_function_attribute

abbrev function_attribute_0_seen_1 : Trail
function_attribute_0_seen_1 = began 2 ∷ began 3 ∷ began 4 ∷ began 5 ∷ []

abbrev function_attribute_0_at_1 : State World Trail
function_attribute_0_at_1 = state_function_attribute (Some (func_id 1)) [] [] [] 1 293 function_attribute_0_seen_1

abbrev function_attribute_0_at_2 : State World Trail
function_attribute_0_at_2 = state_function_attribute None [] [] [] 0 293 function_attribute_0_seen_1

pub function_attribute_0 : Yields (means_function_attribute function_attribute_t3) (state_function_attribute None [] [] [] 0 300 []) ((Err (Left construct.FunctionAttribute)), function_attribute_0_at_2)
unfolding equal ordered
function_attribute_0 =
    stmt_node recorder program_function_attribute function_attribute_t3 299 (y.outs-Assign ((target.Name (codes "var_8")) ∷ []) false None function_attribute_t2) refl (then_err (value_function_attribute function_attribute_t2) _ (Left construct.FunctionAttribute) function_attribute_0_at_2 (expr_node recorder program_function_attribute function_attribute_t2 298 (x.outs-Method function_attribute_t1 (codes "f") (args [] [])) refl (then_ok (value_function_attribute function_attribute_t1) _ (v.ModuleRef, (j.Plain true)) (state_function_attribute None [] [] [] 0 297 []) (expr_node recorder program_function_attribute function_attribute_t1 297 (x.outs-Name (codes "module_0")) refl (leaf (simp views))) (then_ok (finds program_function_attribute v.ModuleRef (codes "f")) _ (callee.Value (v.Func (func_id 1))) (state_function_attribute None [] [] [] 0 297 []) (leaf (first_of (simp views, simp tuples, search))) (as_run (plain_arguments recorder program_function_attribute (value_function_attribute) (means_function_attribute) (callee.Value (v.Func (func_id 1))) [] [] []) (ap (λ args. plain_arguments recorder program_function_attribute (value_function_attribute) (means_function_attribute) (callee.Value (v.Func (func_id 1))) [] args.plain args.named (state_function_attribute None [] [] [] 0 297 [])) (out-roll-Args _)) (as_run (calls_function recorder program_function_attribute (means_function_attribute) (func_id 1) [] []) (ap (λ level. calls_value recorder program_function_attribute (means_function_attribute) level [] [] (state_function_attribute None [] [] [] 0 297 [])) (outs-Func _)) (as_run (inside recorder program_function_attribute (means_function_attribute) (func_id 1) function_function_attribute_1 []) (let same : calls_function recorder program_function_attribute (means_function_attribute) (func_id 1) [] [] (state_function_attribute None [] [] [] 0 297 []) ≡ inside recorder program_function_attribute (means_function_attribute) (func_id 1) function_function_attribute_1 [] (state_function_attribute None [] [] [] 0 297 []) = refl in same) (gives_same (leaves (state_function_attribute None [] [] [] 0 297 []).frame ((Err (Left construct.FunctionAttribute)), function_attribute_0_at_1)) (in_frame recorder program_function_attribute (func_id 1) function_function_attribute_1 [] (Err (Left construct.FunctionAttribute)) function_attribute_0_at_1 (then_ok (begins recorder (node 2)) _ tt (state_function_attribute (Some (func_id 1)) [] [] [] 1 296 (began 2 ∷ [])) (leaf refl) (then_err (means_function_attribute function_attribute_n3) _ (Left construct.FunctionAttribute) function_attribute_0_at_1 (stmt_node recorder program_function_attribute function_attribute_n3 295 (y.outs-Return (Some function_attribute_n4)) refl (then_err (value_function_attribute function_attribute_n4) _ (Left construct.FunctionAttribute) function_attribute_0_at_1 (expr_node recorder program_function_attribute function_attribute_n4 294 (x.outs-Attr function_attribute_n5 (codes "name")) refl (then_ok (value_function_attribute function_attribute_n5) _ ((v.Func (func_id 0)), (j.Plain true)) function_attribute_0_at_1 (expr_node recorder program_function_attribute function_attribute_n5 293 (x.outs-Name (codes "g")) refl (leaf (simp views))) (then_err (finds program_function_attribute (v.Func (func_id 0)) (codes "name")) _ (Left construct.FunctionAttribute) function_attribute_0_at_1 (leaf (first_of (simp views, simp tuples, search))))))))))) (refl)))))))))

abbrev value_raised_and_on : Expr → Run Trail Finding
value_raised_and_on = value_of recorder program_raised_and_on

abbrev means_raised_and_on : Stmt → Run Trail Finding
means_raised_and_on = means recorder program_raised_and_on

abbrev raised_and_on_0_seen_1 : Trail
raised_and_on_0_seen_1 = began 0 ∷ began 1 ∷ began 2 ∷ began 3 ∷ began 4 ∷ []

abbrev raised_and_on_0_at_1 : State World Trail
raised_and_on_0_at_1 = state_raised_and_on (Some (func_id 0)) (((codes "a"), (v.Int (pos 0))) ∷ []) [] (object.Instance (Built built.ZeroDivisionError) [] None ∷ []) 1 291 raised_and_on_0_seen_1

abbrev raised_and_on_0_at_2 : State World Trail
raised_and_on_0_at_2 = state_raised_and_on None [] [] (object.Instance (Built built.ZeroDivisionError) [] None ∷ []) 0 291 raised_and_on_0_seen_1

pub raised_and_on_0 : Yields (means_raised_and_on raised_and_on_t4) (state_raised_and_on None [] [] [] 0 300 []) ((Err (Raised (id 0))), raised_and_on_0_at_2)
unfolding equal ordered
raised_and_on_0 =
    stmt_node recorder program_raised_and_on raised_and_on_t4 299 (y.outs-Bare raised_and_on_t3) refl (then_err (value_raised_and_on raised_and_on_t3) _ (Raised (id 0)) raised_and_on_0_at_2 (expr_node recorder program_raised_and_on raised_and_on_t3 298 (x.outs-Method raised_and_on_t1 (codes "f") (args (raised_and_on_t2 ∷ []) [])) refl (then_ok (value_raised_and_on raised_and_on_t1) _ (v.ModuleRef, (j.Plain true)) (state_raised_and_on None [] [] [] 0 297 []) (expr_node recorder program_raised_and_on raised_and_on_t1 297 (x.outs-Name (codes "module_0")) refl (leaf (simp views))) (then_ok (finds program_raised_and_on v.ModuleRef (codes "f")) _ (callee.Value (v.Func (func_id 0))) (state_raised_and_on None [] [] [] 0 297 []) (leaf (first_of (simp views, simp tuples, search))) (as_run (plain_arguments recorder program_raised_and_on (value_raised_and_on) (means_raised_and_on) (callee.Value (v.Func (func_id 0))) [] (raised_and_on_t2 ∷ []) []) (ap (λ args. plain_arguments recorder program_raised_and_on (value_raised_and_on) (means_raised_and_on) (callee.Value (v.Func (func_id 0))) [] args.plain args.named (state_raised_and_on None [] [] [] 0 297 [])) (out-roll-Args _)) (then_ok (value_raised_and_on raised_and_on_t2) _ ((v.Int (pos 0)), (j.Plain false)) (state_raised_and_on None [] [] [] 0 296 []) (expr_node recorder program_raised_and_on raised_and_on_t2 296 (x.outs-IntLit (pos 0)) refl (leaf (simp views))) (as_run (calls_function recorder program_raised_and_on (means_raised_and_on) (func_id 0) ((v.Int (pos 0)) ∷ []) []) (ap (λ level. calls_value recorder program_raised_and_on (means_raised_and_on) level ((v.Int (pos 0)) ∷ []) [] (state_raised_and_on None [] [] [] 0 296 [])) (outs-Func _)) (as_run (inside recorder program_raised_and_on (means_raised_and_on) (func_id 0) function_raised_and_on_0 (((codes "a"), (v.Int (pos 0))) ∷ [])) (let same : calls_function recorder program_raised_and_on (means_raised_and_on) (func_id 0) ((v.Int (pos 0)) ∷ []) [] (state_raised_and_on None [] [] [] 0 296 []) ≡ inside recorder program_raised_and_on (means_raised_and_on) (func_id 0) function_raised_and_on_0 (((codes "a"), (v.Int (pos 0))) ∷ []) (state_raised_and_on None [] [] [] 0 296 []) = refl in same) (gives_same (leaves (state_raised_and_on None [] [] [] 0 296 []).frame ((Err (Raised (id 0))), raised_and_on_0_at_1)) (in_frame recorder program_raised_and_on (func_id 0) function_raised_and_on_0 (((codes "a"), (v.Int (pos 0))) ∷ []) (Err (Raised (id 0))) raised_and_on_0_at_1 (then_ok (begins recorder (node 0)) _ tt (state_raised_and_on (Some (func_id 0)) (((codes "a"), (v.Int (pos 0))) ∷ []) [] [] 1 295 (began 0 ∷ [])) (leaf refl) (then_err (means_raised_and_on raised_and_on_n1) _ (Raised (id 0)) raised_and_on_0_at_1 (stmt_node recorder program_raised_and_on raised_and_on_n1 294 (y.outs-Return (Some raised_and_on_n2)) refl (then_err (value_raised_and_on raised_and_on_n2) _ (Raised (id 0)) raised_and_on_0_at_1 (expr_node recorder program_raised_and_on raised_and_on_n2 293 (x.outs-Binary FloorDiv raised_and_on_n3 raised_and_on_n4) refl (then_ok (value_raised_and_on raised_and_on_n3) _ ((v.Int (pos 1)), (j.Plain true)) (state_raised_and_on (Some (func_id 0)) (((codes "a"), (v.Int (pos 0))) ∷ []) [] [] 1 292 (began 0 ∷ began 1 ∷ began 2 ∷ began 3 ∷ [])) (expr_node recorder program_raised_and_on raised_and_on_n3 292 (x.outs-IntLit (pos 1)) refl (leaf (simp views))) (then_ok (value_raised_and_on raised_and_on_n4) _ ((v.Int (pos 0)), (j.Plain false)) (state_raised_and_on (Some (func_id 0)) (((codes "a"), (v.Int (pos 0))) ∷ []) [] [] 1 291 raised_and_on_0_seen_1) (expr_node recorder program_raised_and_on raised_and_on_n4 291 (x.outs-Name (codes "a")) refl (leaf (simp views))) (leaf (first_of (simp views, simp tuples, search))))))))))) (refl))))))))))

abbrev raised_and_on_1_seen_1 : Trail
raised_and_on_1_seen_1 = began 0 ∷ began 1 ∷ began 2 ∷ began 3 ∷ began 4 ∷ began 0 ∷ began 1 ∷ began 2 ∷ began 3 ∷ began 4 ∷ []

abbrev raised_and_on_1_seen_2 : Trail
raised_and_on_1_seen_2 = began 0 ∷ began 1 ∷ began 2 ∷ began 3 ∷ began 4 ∷ []

abbrev raised_and_on_1_at_1 : State World Trail
raised_and_on_1_at_1 = state_raised_and_on (Some (func_id 0)) (((codes "a"), (v.Int (pos 1))) ∷ []) [] (object.Instance (Built built.ZeroDivisionError) [] None ∷ []) 1 291 raised_and_on_1_seen_1

abbrev raised_and_on_1_at_2 : State World Trail
raised_and_on_1_at_2 = state_raised_and_on None [] [] (object.Instance (Built built.ZeroDivisionError) [] None ∷ []) 0 297 raised_and_on_1_seen_2

abbrev raised_and_on_1_at_3 : State World Trail
raised_and_on_1_at_3 = state_raised_and_on None [] [] (object.Instance (Built built.ZeroDivisionError) [] None ∷ []) 0 296 raised_and_on_1_seen_2

pub raised_and_on_1 : Yields (means_raised_and_on raised_and_on_t7) (state_raised_and_on None [] [] (object.Instance (Built built.ZeroDivisionError) [] None ∷ []) 0 300 raised_and_on_1_seen_2) ((Ok (v.None, (j.Plain false))), (state_raised_and_on None (((codes "var_1"), (v.Int (pos 1))) ∷ []) [] (object.Instance (Built built.ZeroDivisionError) [] None ∷ []) 0 291 raised_and_on_1_seen_1))
unfolding equal ordered
raised_and_on_1 =
    stmt_node recorder program_raised_and_on raised_and_on_t7 299 (y.outs-Assign ((target.Name (codes "var_1")) ∷ []) false None raised_and_on_t6) refl (then_ok (value_raised_and_on raised_and_on_t6) _ ((v.Int (pos 1)), (j.Plain true)) (state_raised_and_on None [] [] (object.Instance (Built built.ZeroDivisionError) [] None ∷ []) 0 291 raised_and_on_1_seen_1) (expr_node recorder program_raised_and_on raised_and_on_t6 298 (x.outs-Method raised_and_on_t1 (codes "f") (args (raised_and_on_t5 ∷ []) [])) refl (then_ok (value_raised_and_on raised_and_on_t1) _ (v.ModuleRef, (j.Plain true)) raised_and_on_1_at_2 (expr_node recorder program_raised_and_on raised_and_on_t1 297 (x.outs-Name (codes "module_0")) refl (leaf (simp views))) (then_ok (finds program_raised_and_on v.ModuleRef (codes "f")) _ (callee.Value (v.Func (func_id 0))) raised_and_on_1_at_2 (leaf (first_of (simp views, simp tuples, search))) (as_run (plain_arguments recorder program_raised_and_on (value_raised_and_on) (means_raised_and_on) (callee.Value (v.Func (func_id 0))) [] (raised_and_on_t5 ∷ []) []) (ap (λ args. plain_arguments recorder program_raised_and_on (value_raised_and_on) (means_raised_and_on) (callee.Value (v.Func (func_id 0))) [] args.plain args.named raised_and_on_1_at_2) (out-roll-Args _)) (then_ok (value_raised_and_on raised_and_on_t5) _ ((v.Int (pos 1)), (j.Plain true)) raised_and_on_1_at_3 (expr_node recorder program_raised_and_on raised_and_on_t5 296 (x.outs-IntLit (pos 1)) refl (leaf (simp views))) (as_run (calls_function recorder program_raised_and_on (means_raised_and_on) (func_id 0) ((v.Int (pos 1)) ∷ []) []) (ap (λ level. calls_value recorder program_raised_and_on (means_raised_and_on) level ((v.Int (pos 1)) ∷ []) [] raised_and_on_1_at_3) (outs-Func _)) (as_run (inside recorder program_raised_and_on (means_raised_and_on) (func_id 0) function_raised_and_on_0 (((codes "a"), (v.Int (pos 1))) ∷ [])) (let same : calls_function recorder program_raised_and_on (means_raised_and_on) (func_id 0) ((v.Int (pos 1)) ∷ []) [] raised_and_on_1_at_3 ≡ inside recorder program_raised_and_on (means_raised_and_on) (func_id 0) function_raised_and_on_0 (((codes "a"), (v.Int (pos 1))) ∷ []) raised_and_on_1_at_3 = refl in same) (gives_same (leaves raised_and_on_1_at_3.frame ((Err (Returned (v.Int (pos 1)))), raised_and_on_1_at_1)) (in_frame recorder program_raised_and_on (func_id 0) function_raised_and_on_0 (((codes "a"), (v.Int (pos 1))) ∷ []) (Err (Returned (v.Int (pos 1)))) raised_and_on_1_at_1 (then_ok (begins recorder (node 0)) _ tt (state_raised_and_on (Some (func_id 0)) (((codes "a"), (v.Int (pos 1))) ∷ []) [] (object.Instance (Built built.ZeroDivisionError) [] None ∷ []) 1 295 (began 0 ∷ began 1 ∷ began 2 ∷ began 3 ∷ began 4 ∷ began 0 ∷ [])) (leaf refl) (then_err (means_raised_and_on raised_and_on_n1) _ (Returned (v.Int (pos 1))) raised_and_on_1_at_1 (stmt_node recorder program_raised_and_on raised_and_on_n1 294 (y.outs-Return (Some raised_and_on_n2)) refl (then_ok (value_raised_and_on raised_and_on_n2) _ ((v.Int (pos 1)), (j.Plain true)) raised_and_on_1_at_1 (expr_node recorder program_raised_and_on raised_and_on_n2 293 (x.outs-Binary FloorDiv raised_and_on_n3 raised_and_on_n4) refl (then_ok (value_raised_and_on raised_and_on_n3) _ ((v.Int (pos 1)), (j.Plain true)) (state_raised_and_on (Some (func_id 0)) (((codes "a"), (v.Int (pos 1))) ∷ []) [] (object.Instance (Built built.ZeroDivisionError) [] None ∷ []) 1 292 (began 0 ∷ began 1 ∷ began 2 ∷ began 3 ∷ began 4 ∷ began 0 ∷ began 1 ∷ began 2 ∷ began 3 ∷ [])) (expr_node recorder program_raised_and_on raised_and_on_n3 292 (x.outs-IntLit (pos 1)) refl (leaf (simp views))) (then_ok (value_raised_and_on raised_and_on_n4) _ ((v.Int (pos 1)), (j.Plain true)) raised_and_on_1_at_1 (expr_node recorder program_raised_and_on raised_and_on_n4 291 (x.outs-Name (codes "a")) refl (leaf (simp views))) (leaf (first_of (simp views, simp tuples, search)))))) (leaf refl)))))) (simp views))))))))) (leaf refl))

abbrev value_out_of_steps_before_function : Expr → Run Trail Finding
value_out_of_steps_before_function = value_of recorder program_out_of_steps_before_function

abbrev means_out_of_steps_before_function : Stmt → Run Trail Finding
means_out_of_steps_before_function = means recorder program_out_of_steps_before_function

pub out_of_steps_before_function_0 : Yields (means_out_of_steps_before_function out_of_steps_before_function_t4) (state_out_of_steps_before_function None [] [] [] 0 3 []) ((Err OutOfSteps), (state_out_of_steps_before_function None [] [] [] 0 0 []))
unfolding equal ordered
out_of_steps_before_function_0 =
    stmt_node recorder program_out_of_steps_before_function out_of_steps_before_function_t4 2 (y.outs-Assign ((target.Name (codes "var_0")) ∷ []) false None out_of_steps_before_function_t3) refl (then_err (value_out_of_steps_before_function out_of_steps_before_function_t3) _ OutOfSteps (state_out_of_steps_before_function None [] [] [] 0 0 []) (expr_node recorder program_out_of_steps_before_function out_of_steps_before_function_t3 1 (x.outs-Method out_of_steps_before_function_t1 (codes "f") (args (out_of_steps_before_function_t2 ∷ []) [])) refl (then_ok (value_out_of_steps_before_function out_of_steps_before_function_t1) _ (v.ModuleRef, (j.Plain true)) (state_out_of_steps_before_function None [] [] [] 0 0 []) (expr_node recorder program_out_of_steps_before_function out_of_steps_before_function_t1 0 (x.outs-Name (codes "module_0")) refl (leaf (simp views))) (then_ok (finds program_out_of_steps_before_function v.ModuleRef (codes "f")) _ (callee.Value (v.Func (func_id 0))) (state_out_of_steps_before_function None [] [] [] 0 0 []) (leaf (first_of (simp views, simp tuples, search))) (as_run (plain_arguments recorder program_out_of_steps_before_function (value_out_of_steps_before_function) (means_out_of_steps_before_function) (callee.Value (v.Func (func_id 0))) [] (out_of_steps_before_function_t2 ∷ []) []) (ap (λ args. plain_arguments recorder program_out_of_steps_before_function (value_out_of_steps_before_function) (means_out_of_steps_before_function) (callee.Value (v.Func (func_id 0))) [] args.plain args.named (state_out_of_steps_before_function None [] [] [] 0 0 [])) (out-roll-Args _)) (then_err (value_out_of_steps_before_function out_of_steps_before_function_t2) _ OutOfSteps (state_out_of_steps_before_function None [] [] [] 0 0 []) (expr_none recorder program_out_of_steps_before_function out_of_steps_before_function_t2 refl)))))))

abbrev value_out_of_steps_in_call : Expr → Run Trail Finding
value_out_of_steps_in_call = value_of recorder program_out_of_steps_in_call

abbrev means_out_of_steps_in_call : Stmt → Run Trail Finding
means_out_of_steps_in_call = means recorder program_out_of_steps_in_call

abbrev out_of_steps_in_call_0_seen_1 : Trail
out_of_steps_in_call_0_seen_1 = began 3 ∷ began 4 ∷ began 5 ∷ began 6 ∷ began 7 ∷ []

abbrev out_of_steps_in_call_0_seen_2 : Trail
out_of_steps_in_call_0_seen_2 = began 3 ∷ began 4 ∷ began 5 ∷ began 6 ∷ []

abbrev out_of_steps_in_call_0_at_1 : State World Trail
out_of_steps_in_call_0_at_1 = state_out_of_steps_in_call (Some (func_id 0)) (((codes "a"), (v.Int (pos 1))) ∷ []) [] [] 2 0 out_of_steps_in_call_0_seen_1

abbrev out_of_steps_in_call_0_at_2 : State World Trail
out_of_steps_in_call_0_at_2 = state_out_of_steps_in_call (Some (func_id 1)) [] [] [] 1 0 out_of_steps_in_call_0_seen_1

abbrev out_of_steps_in_call_0_at_3 : State World Trail
out_of_steps_in_call_0_at_3 = state_out_of_steps_in_call (Some (func_id 1)) [] [] [] 1 1 out_of_steps_in_call_0_seen_2

abbrev out_of_steps_in_call_0_at_4 : State World Trail
out_of_steps_in_call_0_at_4 = state_out_of_steps_in_call None [] [] [] 0 0 out_of_steps_in_call_0_seen_1

pub out_of_steps_in_call_0 : Yields (means_out_of_steps_in_call out_of_steps_in_call_t3) (state_out_of_steps_in_call None [] [] [] 0 8 []) ((Err OutOfSteps), out_of_steps_in_call_0_at_4)
unfolding equal ordered
out_of_steps_in_call_0 =
    stmt_node recorder program_out_of_steps_in_call out_of_steps_in_call_t3 7 (y.outs-Assign ((target.Name (codes "var_8")) ∷ []) false None out_of_steps_in_call_t2) refl (then_err (value_out_of_steps_in_call out_of_steps_in_call_t2) _ OutOfSteps out_of_steps_in_call_0_at_4 (expr_node recorder program_out_of_steps_in_call out_of_steps_in_call_t2 6 (x.outs-Method out_of_steps_in_call_t1 (codes "f") (args [] [])) refl (then_ok (value_out_of_steps_in_call out_of_steps_in_call_t1) _ (v.ModuleRef, (j.Plain true)) (state_out_of_steps_in_call None [] [] [] 0 5 []) (expr_node recorder program_out_of_steps_in_call out_of_steps_in_call_t1 5 (x.outs-Name (codes "module_0")) refl (leaf (simp views))) (then_ok (finds program_out_of_steps_in_call v.ModuleRef (codes "f")) _ (callee.Value (v.Func (func_id 1))) (state_out_of_steps_in_call None [] [] [] 0 5 []) (leaf (first_of (simp views, simp tuples, search))) (as_run (plain_arguments recorder program_out_of_steps_in_call (value_out_of_steps_in_call) (means_out_of_steps_in_call) (callee.Value (v.Func (func_id 1))) [] [] []) (ap (λ args. plain_arguments recorder program_out_of_steps_in_call (value_out_of_steps_in_call) (means_out_of_steps_in_call) (callee.Value (v.Func (func_id 1))) [] args.plain args.named (state_out_of_steps_in_call None [] [] [] 0 5 [])) (out-roll-Args _)) (as_run (calls_function recorder program_out_of_steps_in_call (means_out_of_steps_in_call) (func_id 1) [] []) (ap (λ level. calls_value recorder program_out_of_steps_in_call (means_out_of_steps_in_call) level [] [] (state_out_of_steps_in_call None [] [] [] 0 5 [])) (outs-Func _)) (as_run (inside recorder program_out_of_steps_in_call (means_out_of_steps_in_call) (func_id 1) function_out_of_steps_in_call_1 []) (let same : calls_function recorder program_out_of_steps_in_call (means_out_of_steps_in_call) (func_id 1) [] [] (state_out_of_steps_in_call None [] [] [] 0 5 []) ≡ inside recorder program_out_of_steps_in_call (means_out_of_steps_in_call) (func_id 1) function_out_of_steps_in_call_1 [] (state_out_of_steps_in_call None [] [] [] 0 5 []) = refl in same) (gives_same (leaves (state_out_of_steps_in_call None [] [] [] 0 5 []).frame ((Err OutOfSteps), out_of_steps_in_call_0_at_2)) (in_frame recorder program_out_of_steps_in_call (func_id 1) function_out_of_steps_in_call_1 [] (Err OutOfSteps) out_of_steps_in_call_0_at_2 (then_ok (begins recorder (node 3)) _ tt (state_out_of_steps_in_call (Some (func_id 1)) [] [] [] 1 4 (began 3 ∷ [])) (leaf refl) (then_err (means_out_of_steps_in_call out_of_steps_in_call_n4) _ OutOfSteps out_of_steps_in_call_0_at_2 (stmt_node recorder program_out_of_steps_in_call out_of_steps_in_call_n4 3 (y.outs-Return (Some out_of_steps_in_call_n5)) refl (then_err (value_out_of_steps_in_call out_of_steps_in_call_n5) _ OutOfSteps out_of_steps_in_call_0_at_2 (expr_node recorder program_out_of_steps_in_call out_of_steps_in_call_n5 2 (x.outs-Call out_of_steps_in_call_n6 (args (out_of_steps_in_call_n7 ∷ []) [])) refl (as_run (calls_meant recorder program_out_of_steps_in_call (value_out_of_steps_in_call) (means_out_of_steps_in_call) None out_of_steps_in_call_n6 (args (out_of_steps_in_call_n7 ∷ []) [])) (ap (λ kind. calls_expr recorder program_out_of_steps_in_call (value_out_of_steps_in_call) (means_out_of_steps_in_call) kind out_of_steps_in_call_n6 (args (out_of_steps_in_call_n7 ∷ []) []) (state_out_of_steps_in_call (Some (func_id 1)) [] [] [] 1 2 (began 3 ∷ began 4 ∷ began 5 ∷ []))) (x.outs-Name (codes "g"))) (then_ok (value_out_of_steps_in_call out_of_steps_in_call_n6) _ ((v.Func (func_id 0)), (j.Plain true)) out_of_steps_in_call_0_at_3 (expr_node recorder program_out_of_steps_in_call out_of_steps_in_call_n6 1 (x.outs-Name (codes "g")) refl (leaf (simp views))) (as_run (plain_arguments recorder program_out_of_steps_in_call (value_out_of_steps_in_call) (means_out_of_steps_in_call) (callee.Value (v.Func (func_id 0))) [] (out_of_steps_in_call_n7 ∷ []) []) (ap (λ args. plain_arguments recorder program_out_of_steps_in_call (value_out_of_steps_in_call) (means_out_of_steps_in_call) (callee.Value (v.Func (func_id 0))) [] args.plain args.named out_of_steps_in_call_0_at_3) (out-roll-Args _)) (then_ok (value_out_of_steps_in_call out_of_steps_in_call_n7) _ ((v.Int (pos 1)), (j.Plain true)) out_of_steps_in_call_0_at_2 (expr_node recorder program_out_of_steps_in_call out_of_steps_in_call_n7 0 (x.outs-IntLit (pos 1)) refl (leaf (simp views))) (as_run (calls_function recorder program_out_of_steps_in_call (means_out_of_steps_in_call) (func_id 0) ((v.Int (pos 1)) ∷ []) []) (ap (λ level. calls_value recorder program_out_of_steps_in_call (means_out_of_steps_in_call) level ((v.Int (pos 1)) ∷ []) [] out_of_steps_in_call_0_at_2) (outs-Func _)) (as_run (inside recorder program_out_of_steps_in_call (means_out_of_steps_in_call) (func_id 0) function_out_of_steps_in_call_0 (((codes "a"), (v.Int (pos 1))) ∷ [])) (let same : calls_function recorder program_out_of_steps_in_call (means_out_of_steps_in_call) (func_id 0) ((v.Int (pos 1)) ∷ []) [] out_of_steps_in_call_0_at_2 ≡ inside recorder program_out_of_steps_in_call (means_out_of_steps_in_call) (func_id 0) function_out_of_steps_in_call_0 (((codes "a"), (v.Int (pos 1))) ∷ []) out_of_steps_in_call_0_at_2 = refl in same) (gives_same (leaves out_of_steps_in_call_0_at_2.frame ((Err OutOfSteps), out_of_steps_in_call_0_at_1)) (in_frame recorder program_out_of_steps_in_call (func_id 0) function_out_of_steps_in_call_0 (((codes "a"), (v.Int (pos 1))) ∷ []) (Err OutOfSteps) out_of_steps_in_call_0_at_1 (then_err (begins recorder (node 0)) _ OutOfSteps out_of_steps_in_call_0_at_1 (leaf refl))) (refl)))))))))))))) (refl)))))))))

pub call_depth_0 : Yields (means_out_of_steps_before_function out_of_steps_before_function_t4) (state_out_of_steps_before_function None [] [] [] 200 300 []) ((Err (Left construct.CallDepth)), (state_out_of_steps_before_function None [] [] [] 200 296 []))
call_depth_0 =
    stmt_node recorder program_out_of_steps_before_function out_of_steps_before_function_t4 299 (y.outs-Assign ((target.Name (codes "var_0")) ∷ []) false None out_of_steps_before_function_t3) refl (then_err (value_out_of_steps_before_function out_of_steps_before_function_t3) _ (Left construct.CallDepth) (state_out_of_steps_before_function None [] [] [] 200 296 [])
    (expr_node recorder program_out_of_steps_before_function out_of_steps_before_function_t3 298 (x.outs-Method out_of_steps_before_function_t1 (codes "f") (args (out_of_steps_before_function_t2 ∷ []) [])) refl (then_ok (value_out_of_steps_before_function out_of_steps_before_function_t1) _ (v.ModuleRef, (j.Plain true)) (state_out_of_steps_before_function None [] [] [] 200 297 [])
    (expr_node recorder program_out_of_steps_before_function out_of_steps_before_function_t1 297 (x.outs-Name (codes "module_0")) refl (leaf (simp views))) (then_ok (finds program_out_of_steps_before_function v.ModuleRef (codes "f")) _ (callee.Value (v.Func (func_id 0))) (state_out_of_steps_before_function None [] [] [] 200 297 []) (leaf (first_of (simp views, simp tuples, search)))
    (as_run (plain_arguments recorder program_out_of_steps_before_function (value_out_of_steps_before_function) (means_out_of_steps_before_function) (callee.Value (v.Func (func_id 0))) [] (out_of_steps_before_function_t2 ∷ []) []) (ap (λ args. plain_arguments recorder program_out_of_steps_before_function (value_out_of_steps_before_function) (means_out_of_steps_before_function) (callee.Value (v.Func (func_id 0))) [] args.plain args.named (state_out_of_steps_before_function None [] [] [] 200 297 [])) (out-roll-Args _))
    (then_ok (value_out_of_steps_before_function out_of_steps_before_function_t2) _ ((v.Int (pos 1)), (j.Plain true)) (state_out_of_steps_before_function None [] [] [] 200 296 []) (expr_node recorder program_out_of_steps_before_function out_of_steps_before_function_t2 296 (x.outs-IntLit (pos 1)) refl (leaf (simp views)))
    (as_run (calls_function recorder program_out_of_steps_before_function (means_out_of_steps_before_function) (func_id 0) ((v.Int (pos 1)) ∷ []) []) (ap (λ level. calls_value recorder program_out_of_steps_before_function (means_out_of_steps_before_function) level ((v.Int (pos 1)) ∷ []) [] (state_out_of_steps_before_function None [] [] [] 200 296 [])) (outs-Func _)) (leaf refl))))))))
