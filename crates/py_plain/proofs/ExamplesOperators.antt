-- Derivations of the worked examples of displays and operators (6.2 and 6.7): each is a tree of the run, from rules of `Yields`.
use Rattle.py_meaning.specs.Equal.{equal}
use Rattle.py_meaning.specs.Examples.{id, ref}
use Rattle.py_meaning.specs.Folds.{tuple-out, key_cost-Tuple, key_cost-out, as_key-Tuple, as_key-out, same_key-Tuple, same_key-out}
use Rattle.py_meaning.specs.Less.{ordered}
use Rattle.py_meaning.specs.Worlds.{World}
use Rattle.py_meaning.specs.declared.builtin.Builtin.TheVariants as builtin
use Rattle.py_meaning.specs.declared.object.Object.TheVariants as object
use Rattle.py_meaning.specs.declared.value.Value.TheVariants as v
use Rattle.py_meaning.specs.declared.value.Value.TheVariants.{outs-None, outs-Bool, outs-Int, outs-Str, outs-Tuple, outs-Ref, outs-Class, outs-Func, outs-View, outs-ModuleRef}
use Rattle.py_meaning.specs.declared.value.View.TheVariants as view
use Rattle.py_plain.proofs.Yields.{Yields, leaf, as_run, gives_same, then_ok, then_err, stmt_node, expr_node, in_frame}
use Rattle.py_plain.specs.Attributes.{finds}
use Rattle.py_plain.specs.Calls.{leaves, inside, calls_function, calls_value}
use Rattle.py_plain.specs.Examples.{node, args, func_id, began}
use Rattle.py_plain.specs.ExamplesOperators.{dict_keeps_place_n3, dict_keeps_place_n4, dict_keeps_place_n5, dict_keeps_place_n6, dict_keeps_place_n7, dict_keeps_place_n8, dict_keeps_place_n2, dict_keeps_place_n1, dict_keeps_place_n10, dict_keeps_place_n9, dict_keeps_place_t1, dict_keeps_place_t2, dict_keeps_place_t3, function_dict_keeps_place_0, program_dict_keeps_place, state_dict_keeps_place, dict_unhashable_n3, dict_unhashable_n4, dict_unhashable_n5, dict_unhashable_n6, dict_unhashable_n2, dict_unhashable_n1, dict_unhashable_t1, dict_unhashable_t2, dict_unhashable_t3, function_dict_unhashable_0, program_dict_unhashable, state_dict_unhashable, list_runs_out_n3, list_runs_out_n4, list_runs_out_n5, list_runs_out_n2, list_runs_out_n1, list_runs_out_t1, list_runs_out_t2, list_runs_out_t3, function_list_runs_out_0, program_list_runs_out, state_list_runs_out, integer_range_n3, integer_range_n4, integer_range_n2, integer_range_n1, integer_range_t1, integer_range_t2, integer_range_t3, integer_range_t4, function_integer_range_0, program_integer_range, state_integer_range, zero_division_n3, zero_division_n4, zero_division_n2, zero_division_n1, zero_division_t1, zero_division_t2, zero_division_t3, zero_division_t4, function_zero_division_0, program_zero_division, state_zero_division, string_format_n3, string_format_n4, string_format_n2, string_format_n1, string_format_t1, string_format_t2, string_format_t3, function_string_format_0, program_string_format, state_string_format, identity_n3, identity_n4, identity_n2, identity_n1, identity_t1, identity_t2, identity_t3, function_identity_0, program_identity, state_identity, subscript_of_class_n3, subscript_of_class_n4, subscript_of_class_n2, subscript_of_class_n1, subscript_of_class_t1, subscript_of_class_t2, subscript_of_class_t3, function_subscript_of_class_0, program_subscript_of_class, state_subscript_of_class, view_operand_n4, view_operand_n5, view_operand_n3, view_operand_n6, view_operand_n2, view_operand_n1, view_operand_t1, view_operand_t2, view_operand_t3, function_view_operand_0, program_view_operand, state_view_operand}
use Rattle.py_plain.specs.Expressions.{plain_arguments, calls_meant, calls_expr}
use Rattle.py_plain.specs.Operators.{compares}
use Rattle.py_plain.specs.Runs.{begins, Run, Finding}
use Rattle.py_plain.specs.Statements.{means, value_of}
use Rattle.py_plain.specs.Tests.{recorder, Trail}
use Rattle.py_plain.specs.declared.judged.Judged.TheVariants as j
use Rattle.py_plain.specs.declared.run.Abrupt.TheVariants.{Raised, Returned, Left, OutOfSteps}
use Rattle.py_plain.specs.declared.run.Callee.TheVariants as callee
use Rattle.py_plain.specs.declared.state.State.{State}
use Rattle.py_syntax.specs.declared.expr.Args.{out-roll-Args}
use Rattle.py_syntax.specs.declared.expr.Expr.{Expr}
use Rattle.py_syntax.specs.declared.expr.ExprKind.TheVariants as x
use Rattle.py_syntax.specs.declared.operator.BinOp.TheVariants.{Add, FloorDiv, Mod}
use Rattle.py_syntax.specs.declared.operator.CmpOp.TheVariants.{Same}
use Rattle.py_syntax.specs.declared.stmt.Stmt.{Stmt}
use Rattle.py_syntax.specs.declared.stmt.StmtKind.TheVariants as y
use Rattle.py_syntax.specs.declared.stmt.Target.TheVariants as target
use Rattle.pyn_base.specs.declared.class.BuiltClass.TheVariants as built
use Rattle.pyn_base.specs.declared.class.ClassId.TheVariants.{Built}
use Rattle.pyn_base.specs.declared.construct.Construct.TheVariants as construct
use Rattle.std.proofs.Common.{◌≡◌, refl, ap}
use Rattle.std.specs.Prelude.{pos, true, false, [], ◌∷◌, Some, None, Ok, Err, codes}

ruleset views = (tuple-out, outs-None, outs-Bool, outs-Int, outs-Str, outs-Tuple, outs-Ref, outs-Class, outs-Func, outs-View, outs-ModuleRef)

ruleset tuples = (tuple-out, outs-None, outs-Bool, outs-Int, outs-Str, outs-Tuple, outs-Ref, outs-Class, outs-Func, outs-View, outs-ModuleRef, key_cost-Tuple, key_cost-out, as_key-Tuple, as_key-out, same_key-Tuple, same_key-out)

abbrev value_dict_keeps_place : Expr → Run Trail Finding
value_dict_keeps_place = value_of recorder program_dict_keeps_place

abbrev means_dict_keeps_place : Stmt → Run Trail Finding
means_dict_keeps_place = means recorder program_dict_keeps_place

abbrev dict_keeps_place_0_seen_1 : Trail
dict_keeps_place_0_seen_1 = began 0 ∷ began 1 ∷ began 2 ∷ began 3 ∷ began 4 ∷ began 5 ∷ began 6 ∷ began 7 ∷ began 8 ∷ began 9 ∷ began 10 ∷ []

abbrev dict_keeps_place_0_seen_2 : Trail
dict_keeps_place_0_seen_2 = began 0 ∷ began 1 ∷ began 2 ∷ began 3 ∷ began 4 ∷ began 5 ∷ began 6 ∷ began 7 ∷ began 8 ∷ []

abbrev dict_keeps_place_0_at_1 : State World Trail
dict_keeps_place_0_at_1 = state_dict_keeps_place (Some (func_id 0)) (((codes "d"), (ref 0)) ∷ []) [] (object.Dict (((v.Int (pos 1)), (v.Str (codes "c"))) ∷ ((v.Int (pos 2)), (v.Str (codes "b"))) ∷ []) 2 ∷ []) 1 283 dict_keeps_place_0_seen_1

pub dict_keeps_place_0 : Yields (means_dict_keeps_place dict_keeps_place_t3) (state_dict_keeps_place None [] [] [] 0 300 []) ((Ok (v.None, (j.Plain false))), (state_dict_keeps_place None (((codes "var_8"), (ref 0)) ∷ []) [] (object.Dict (((v.Int (pos 1)), (v.Str (codes "c"))) ∷ ((v.Int (pos 2)), (v.Str (codes "b"))) ∷ []) 2 ∷ []) 0 283 dict_keeps_place_0_seen_1))
unfolding equal ordered
dict_keeps_place_0 =
    stmt_node recorder program_dict_keeps_place dict_keeps_place_t3 299 (y.outs-Assign ((target.Name (codes "var_8")) ∷ []) false None dict_keeps_place_t2) refl (then_ok (value_dict_keeps_place dict_keeps_place_t2) _ ((ref 0), (j.Plain true)) (state_dict_keeps_place None [] [] (object.Dict (((v.Int (pos 1)), (v.Str (codes "c"))) ∷ ((v.Int (pos 2)), (v.Str (codes "b"))) ∷ []) 2 ∷ []) 0 283 dict_keeps_place_0_seen_1) (expr_node recorder program_dict_keeps_place dict_keeps_place_t2 298 (x.outs-Method dict_keeps_place_t1 (codes "f") (args [] [])) refl (then_ok (value_dict_keeps_place dict_keeps_place_t1) _ (v.ModuleRef, (j.Plain true)) (state_dict_keeps_place None [] [] [] 0 297 []) (expr_node recorder program_dict_keeps_place dict_keeps_place_t1 297 (x.outs-Name (codes "module_0")) refl (leaf (simp views))) (then_ok (finds program_dict_keeps_place v.ModuleRef (codes "f")) _ (callee.Value (v.Func (func_id 0))) (state_dict_keeps_place None [] [] [] 0 297 []) (leaf (first_of (simp views, simp tuples, search))) (as_run (plain_arguments recorder program_dict_keeps_place (value_dict_keeps_place) (means_dict_keeps_place) (callee.Value (v.Func (func_id 0))) [] [] []) (ap (λ args. plain_arguments recorder program_dict_keeps_place (value_dict_keeps_place) (means_dict_keeps_place) (callee.Value (v.Func (func_id 0))) [] args.plain args.named (state_dict_keeps_place None [] [] [] 0 297 [])) (out-roll-Args _)) (as_run (calls_function recorder program_dict_keeps_place (means_dict_keeps_place) (func_id 0) [] []) (ap (λ level. calls_value recorder program_dict_keeps_place (means_dict_keeps_place) level [] [] (state_dict_keeps_place None [] [] [] 0 297 [])) (outs-Func _)) (as_run (inside recorder program_dict_keeps_place (means_dict_keeps_place) (func_id 0) function_dict_keeps_place_0 []) (let same : calls_function recorder program_dict_keeps_place (means_dict_keeps_place) (func_id 0) [] [] (state_dict_keeps_place None [] [] [] 0 297 []) ≡ inside recorder program_dict_keeps_place (means_dict_keeps_place) (func_id 0) function_dict_keeps_place_0 [] (state_dict_keeps_place None [] [] [] 0 297 []) = refl in same) (gives_same (leaves (state_dict_keeps_place None [] [] [] 0 297 []).frame ((Err (Returned (ref 0))), dict_keeps_place_0_at_1)) (in_frame recorder program_dict_keeps_place (func_id 0) function_dict_keeps_place_0 [] (Err (Returned (ref 0))) dict_keeps_place_0_at_1 (then_ok (begins recorder (node 0)) _ tt (state_dict_keeps_place (Some (func_id 0)) [] [] [] 1 296 (began 0 ∷ [])) (leaf refl) (then_ok (means_dict_keeps_place dict_keeps_place_n1) _ (v.None, (j.Plain false)) (state_dict_keeps_place (Some (func_id 0)) (((codes "d"), (ref 0)) ∷ []) [] (object.Dict (((v.Int (pos 1)), (v.Str (codes "c"))) ∷ ((v.Int (pos 2)), (v.Str (codes "b"))) ∷ []) 2 ∷ []) 1 285 dict_keeps_place_0_seen_2) (stmt_node recorder program_dict_keeps_place dict_keeps_place_n1 295 (y.outs-Assign ((target.Name (codes "d")) ∷ []) false None dict_keeps_place_n2) refl (then_ok (value_dict_keeps_place dict_keeps_place_n2) _ ((ref 0), (j.Plain true)) (state_dict_keeps_place (Some (func_id 0)) [] [] (object.Dict (((v.Int (pos 1)), (v.Str (codes "c"))) ∷ ((v.Int (pos 2)), (v.Str (codes "b"))) ∷ []) 2 ∷ []) 1 285 dict_keeps_place_0_seen_2) (expr_node recorder program_dict_keeps_place dict_keeps_place_n2 294 (x.outs-DictLit ((dict_keeps_place_n3, dict_keeps_place_n4) ∷ (dict_keeps_place_n5, dict_keeps_place_n6) ∷ (dict_keeps_place_n7, dict_keeps_place_n8) ∷ [])) refl (then_ok (value_dict_keeps_place dict_keeps_place_n3) _ ((v.Int (pos 1)), (j.Plain true)) (state_dict_keeps_place (Some (func_id 0)) [] [] [] 1 293 (began 0 ∷ began 1 ∷ began 2 ∷ began 3 ∷ [])) (expr_node recorder program_dict_keeps_place dict_keeps_place_n3 293 (x.outs-IntLit (pos 1)) refl (leaf (simp views))) (then_ok (value_dict_keeps_place dict_keeps_place_n4) _ ((v.Str (codes "a")), (j.Plain true)) (state_dict_keeps_place (Some (func_id 0)) [] [] [] 1 292 (began 0 ∷ began 1 ∷ began 2 ∷ began 3 ∷ began 4 ∷ [])) (expr_node recorder program_dict_keeps_place dict_keeps_place_n4 292 (x.outs-StrLit (codes "a")) refl (leaf (simp views))) (then_ok (value_dict_keeps_place dict_keeps_place_n5) _ ((v.Int (pos 2)), (j.Plain true)) (state_dict_keeps_place (Some (func_id 0)) [] [] [] 1 291 (began 0 ∷ began 1 ∷ began 2 ∷ began 3 ∷ began 4 ∷ began 5 ∷ [])) (expr_node recorder program_dict_keeps_place dict_keeps_place_n5 291 (x.outs-IntLit (pos 2)) refl (leaf (simp views))) (then_ok (value_dict_keeps_place dict_keeps_place_n6) _ ((v.Str (codes "b")), (j.Plain true)) (state_dict_keeps_place (Some (func_id 0)) [] [] [] 1 290 (began 0 ∷ began 1 ∷ began 2 ∷ began 3 ∷ began 4 ∷ began 5 ∷ began 6 ∷ [])) (expr_node recorder program_dict_keeps_place dict_keeps_place_n6 290 (x.outs-StrLit (codes "b")) refl (leaf (simp views))) (then_ok (value_dict_keeps_place dict_keeps_place_n7) _ ((v.Bool true), (j.Plain true)) (state_dict_keeps_place (Some (func_id 0)) [] [] [] 1 289 (began 0 ∷ began 1 ∷ began 2 ∷ began 3 ∷ began 4 ∷ began 5 ∷ began 6 ∷ began 7 ∷ [])) (expr_node recorder program_dict_keeps_place dict_keeps_place_n7 289 (x.outs-BoolLit true) refl (leaf (simp views))) (then_ok (value_dict_keeps_place dict_keeps_place_n8) _ ((v.Str (codes "c")), (j.Plain true)) (state_dict_keeps_place (Some (func_id 0)) [] [] [] 1 288 dict_keeps_place_0_seen_2) (expr_node recorder program_dict_keeps_place dict_keeps_place_n8 288 (x.outs-StrLit (codes "c")) refl (leaf (simp views))) (leaf (first_of (simp views, simp tuples, search)))))))))) (leaf refl))) (then_err (means_dict_keeps_place dict_keeps_place_n9) _ (Returned (ref 0)) dict_keeps_place_0_at_1 (stmt_node recorder program_dict_keeps_place dict_keeps_place_n9 284 (y.outs-Return (Some dict_keeps_place_n10)) refl (then_ok (value_dict_keeps_place dict_keeps_place_n10) _ ((ref 0), (j.Plain true)) dict_keeps_place_0_at_1 (expr_node recorder program_dict_keeps_place dict_keeps_place_n10 283 (x.outs-Name (codes "d")) refl (leaf (simp views))) (leaf refl))))))) (simp views)))))))) (leaf refl))

abbrev value_dict_unhashable : Expr → Run Trail Finding
value_dict_unhashable = value_of recorder program_dict_unhashable

abbrev means_dict_unhashable : Stmt → Run Trail Finding
means_dict_unhashable = means recorder program_dict_unhashable

abbrev dict_unhashable_0_seen_1 : Trail
dict_unhashable_0_seen_1 = began 0 ∷ began 1 ∷ began 2 ∷ began 3 ∷ began 4 ∷ began 5 ∷ began 6 ∷ []

abbrev dict_unhashable_0_at_1 : State World Trail
dict_unhashable_0_at_1 = state_dict_unhashable (Some (func_id 0)) [] [] (object.List [] ∷ object.Instance (Built built.TypeError) [] None ∷ []) 1 288 dict_unhashable_0_seen_1

abbrev dict_unhashable_0_at_2 : State World Trail
dict_unhashable_0_at_2 = state_dict_unhashable None [] [] (object.List [] ∷ object.Instance (Built built.TypeError) [] None ∷ []) 0 288 dict_unhashable_0_seen_1

pub dict_unhashable_0 : Yields (means_dict_unhashable dict_unhashable_t3) (state_dict_unhashable None [] [] [] 0 300 []) ((Err (Raised (id 1))), dict_unhashable_0_at_2)
unfolding equal ordered
dict_unhashable_0 =
    stmt_node recorder program_dict_unhashable dict_unhashable_t3 299 (y.outs-Assign ((target.Name (codes "var_8")) ∷ []) false None dict_unhashable_t2) refl (then_err (value_dict_unhashable dict_unhashable_t2) _ (Raised (id 1)) dict_unhashable_0_at_2 (expr_node recorder program_dict_unhashable dict_unhashable_t2 298 (x.outs-Method dict_unhashable_t1 (codes "f") (args [] [])) refl (then_ok (value_dict_unhashable dict_unhashable_t1) _ (v.ModuleRef, (j.Plain true)) (state_dict_unhashable None [] [] [] 0 297 []) (expr_node recorder program_dict_unhashable dict_unhashable_t1 297 (x.outs-Name (codes "module_0")) refl (leaf (simp views))) (then_ok (finds program_dict_unhashable v.ModuleRef (codes "f")) _ (callee.Value (v.Func (func_id 0))) (state_dict_unhashable None [] [] [] 0 297 []) (leaf (first_of (simp views, simp tuples, search))) (as_run (plain_arguments recorder program_dict_unhashable (value_dict_unhashable) (means_dict_unhashable) (callee.Value (v.Func (func_id 0))) [] [] []) (ap (λ args. plain_arguments recorder program_dict_unhashable (value_dict_unhashable) (means_dict_unhashable) (callee.Value (v.Func (func_id 0))) [] args.plain args.named (state_dict_unhashable None [] [] [] 0 297 [])) (out-roll-Args _)) (as_run (calls_function recorder program_dict_unhashable (means_dict_unhashable) (func_id 0) [] []) (ap (λ level. calls_value recorder program_dict_unhashable (means_dict_unhashable) level [] [] (state_dict_unhashable None [] [] [] 0 297 [])) (outs-Func _)) (as_run (inside recorder program_dict_unhashable (means_dict_unhashable) (func_id 0) function_dict_unhashable_0 []) (let same : calls_function recorder program_dict_unhashable (means_dict_unhashable) (func_id 0) [] [] (state_dict_unhashable None [] [] [] 0 297 []) ≡ inside recorder program_dict_unhashable (means_dict_unhashable) (func_id 0) function_dict_unhashable_0 [] (state_dict_unhashable None [] [] [] 0 297 []) = refl in same) (gives_same (leaves (state_dict_unhashable None [] [] [] 0 297 []).frame ((Err (Raised (id 1))), dict_unhashable_0_at_1)) (in_frame recorder program_dict_unhashable (func_id 0) function_dict_unhashable_0 [] (Err (Raised (id 1))) dict_unhashable_0_at_1 (then_ok (begins recorder (node 0)) _ tt (state_dict_unhashable (Some (func_id 0)) [] [] [] 1 296 (began 0 ∷ [])) (leaf refl) (then_err (means_dict_unhashable dict_unhashable_n1) _ (Raised (id 1)) dict_unhashable_0_at_1 (stmt_node recorder program_dict_unhashable dict_unhashable_n1 295 (y.outs-Return (Some dict_unhashable_n2)) refl (then_err (value_dict_unhashable dict_unhashable_n2) _ (Raised (id 1)) dict_unhashable_0_at_1 (expr_node recorder program_dict_unhashable dict_unhashable_n2 294 (x.outs-DictLit ((dict_unhashable_n3, dict_unhashable_n4) ∷ (dict_unhashable_n5, dict_unhashable_n6) ∷ [])) refl (then_ok (value_dict_unhashable dict_unhashable_n3) _ ((v.Int (pos 1)), (j.Plain true)) (state_dict_unhashable (Some (func_id 0)) [] [] [] 1 293 (began 0 ∷ began 1 ∷ began 2 ∷ began 3 ∷ [])) (expr_node recorder program_dict_unhashable dict_unhashable_n3 293 (x.outs-IntLit (pos 1)) refl (leaf (simp views))) (then_ok (value_dict_unhashable dict_unhashable_n4) _ ((v.Int (pos 2)), (j.Plain true)) (state_dict_unhashable (Some (func_id 0)) [] [] [] 1 292 (began 0 ∷ began 1 ∷ began 2 ∷ began 3 ∷ began 4 ∷ [])) (expr_node recorder program_dict_unhashable dict_unhashable_n4 292 (x.outs-IntLit (pos 2)) refl (leaf (simp views))) (then_ok (value_dict_unhashable dict_unhashable_n5) _ ((ref 0), (j.Plain false)) (state_dict_unhashable (Some (func_id 0)) [] [] (object.List [] ∷ []) 1 291 (began 0 ∷ began 1 ∷ began 2 ∷ began 3 ∷ began 4 ∷ began 5 ∷ [])) (expr_node recorder program_dict_unhashable dict_unhashable_n5 291 (x.outs-ListLit []) refl (leaf (first_of (simp views, simp tuples, search)))) (then_ok (value_dict_unhashable dict_unhashable_n6) _ ((v.Int (pos 3)), (j.Plain true)) (state_dict_unhashable (Some (func_id 0)) [] [] (object.List [] ∷ []) 1 290 dict_unhashable_0_seen_1) (expr_node recorder program_dict_unhashable dict_unhashable_n6 290 (x.outs-IntLit (pos 3)) refl (leaf (simp views))) (leaf (first_of (simp views, simp tuples, search))))))))))))) (refl)))))))))

abbrev value_list_runs_out : Expr → Run Trail Finding
value_list_runs_out = value_of recorder program_list_runs_out

abbrev means_list_runs_out : Stmt → Run Trail Finding
means_list_runs_out = means recorder program_list_runs_out

abbrev list_runs_out_0_seen_1 : Trail
list_runs_out_0_seen_1 = began 0 ∷ began 1 ∷ began 2 ∷ began 3 ∷ began 4 ∷ began 5 ∷ []

abbrev list_runs_out_0_at_1 : State World Trail
list_runs_out_0_at_1 = state_list_runs_out (Some (func_id 0)) [] [] [] 1 0 list_runs_out_0_seen_1

abbrev list_runs_out_0_at_2 : State World Trail
list_runs_out_0_at_2 = state_list_runs_out None [] [] [] 0 0 list_runs_out_0_seen_1

pub list_runs_out_0 : Yields (means_list_runs_out list_runs_out_t3) (state_list_runs_out None [] [] [] 0 9 []) ((Err OutOfSteps), list_runs_out_0_at_2)
unfolding equal ordered
list_runs_out_0 =
    stmt_node recorder program_list_runs_out list_runs_out_t3 8 (y.outs-Assign ((target.Name (codes "var_8")) ∷ []) false None list_runs_out_t2) refl (then_err (value_list_runs_out list_runs_out_t2) _ OutOfSteps list_runs_out_0_at_2 (expr_node recorder program_list_runs_out list_runs_out_t2 7 (x.outs-Method list_runs_out_t1 (codes "f") (args [] [])) refl (then_ok (value_list_runs_out list_runs_out_t1) _ (v.ModuleRef, (j.Plain true)) (state_list_runs_out None [] [] [] 0 6 []) (expr_node recorder program_list_runs_out list_runs_out_t1 6 (x.outs-Name (codes "module_0")) refl (leaf (simp views))) (then_ok (finds program_list_runs_out v.ModuleRef (codes "f")) _ (callee.Value (v.Func (func_id 0))) (state_list_runs_out None [] [] [] 0 6 []) (leaf (first_of (simp views, simp tuples, search))) (as_run (plain_arguments recorder program_list_runs_out (value_list_runs_out) (means_list_runs_out) (callee.Value (v.Func (func_id 0))) [] [] []) (ap (λ args. plain_arguments recorder program_list_runs_out (value_list_runs_out) (means_list_runs_out) (callee.Value (v.Func (func_id 0))) [] args.plain args.named (state_list_runs_out None [] [] [] 0 6 [])) (out-roll-Args _)) (as_run (calls_function recorder program_list_runs_out (means_list_runs_out) (func_id 0) [] []) (ap (λ level. calls_value recorder program_list_runs_out (means_list_runs_out) level [] [] (state_list_runs_out None [] [] [] 0 6 [])) (outs-Func _)) (as_run (inside recorder program_list_runs_out (means_list_runs_out) (func_id 0) function_list_runs_out_0 []) (let same : calls_function recorder program_list_runs_out (means_list_runs_out) (func_id 0) [] [] (state_list_runs_out None [] [] [] 0 6 []) ≡ inside recorder program_list_runs_out (means_list_runs_out) (func_id 0) function_list_runs_out_0 [] (state_list_runs_out None [] [] [] 0 6 []) = refl in same) (gives_same (leaves (state_list_runs_out None [] [] [] 0 6 []).frame ((Err OutOfSteps), list_runs_out_0_at_1)) (in_frame recorder program_list_runs_out (func_id 0) function_list_runs_out_0 [] (Err OutOfSteps) list_runs_out_0_at_1 (then_ok (begins recorder (node 0)) _ tt (state_list_runs_out (Some (func_id 0)) [] [] [] 1 5 (began 0 ∷ [])) (leaf refl) (then_err (means_list_runs_out list_runs_out_n1) _ OutOfSteps list_runs_out_0_at_1 (stmt_node recorder program_list_runs_out list_runs_out_n1 4 (y.outs-Return (Some list_runs_out_n2)) refl (then_err (value_list_runs_out list_runs_out_n2) _ OutOfSteps list_runs_out_0_at_1 (expr_node recorder program_list_runs_out list_runs_out_n2 3 (x.outs-ListLit (list_runs_out_n3 ∷ list_runs_out_n4 ∷ list_runs_out_n5 ∷ [])) refl (then_ok (value_list_runs_out list_runs_out_n3) _ ((v.Int (pos 1)), (j.Plain true)) (state_list_runs_out (Some (func_id 0)) [] [] [] 1 2 (began 0 ∷ began 1 ∷ began 2 ∷ began 3 ∷ [])) (expr_node recorder program_list_runs_out list_runs_out_n3 2 (x.outs-IntLit (pos 1)) refl (leaf (simp views))) (then_ok (value_list_runs_out list_runs_out_n4) _ ((v.Int (pos 2)), (j.Plain true)) (state_list_runs_out (Some (func_id 0)) [] [] [] 1 1 (began 0 ∷ began 1 ∷ began 2 ∷ began 3 ∷ began 4 ∷ [])) (expr_node recorder program_list_runs_out list_runs_out_n4 1 (x.outs-IntLit (pos 2)) refl (leaf (simp views))) (then_ok (value_list_runs_out list_runs_out_n5) _ ((v.Int (pos 3)), (j.Plain true)) list_runs_out_0_at_1 (expr_node recorder program_list_runs_out list_runs_out_n5 0 (x.outs-IntLit (pos 3)) refl (leaf (simp views))) (leaf (first_of (simp views, simp tuples, search)))))))))))) (refl)))))))))

abbrev value_integer_range : Expr → Run Trail Finding
value_integer_range = value_of recorder program_integer_range

abbrev means_integer_range : Stmt → Run Trail Finding
means_integer_range = means recorder program_integer_range

abbrev integer_range_0_seen_1 : Trail
integer_range_0_seen_1 = began 0 ∷ began 1 ∷ began 2 ∷ began 3 ∷ began 4 ∷ []

abbrev integer_range_0_at_1 : State World Trail
integer_range_0_at_1 = state_integer_range (Some (func_id 0)) (((codes "a"), (v.Int (pos 170141183460469231731687303715884105727))) ∷ []) [] [] 1 291 integer_range_0_seen_1

abbrev integer_range_0_at_2 : State World Trail
integer_range_0_at_2 = state_integer_range None [] [] [] 0 291 integer_range_0_seen_1

pub integer_range_0 : Yields (means_integer_range integer_range_t4) (state_integer_range None [] [] [] 0 300 []) ((Err (Left construct.IntegerRange)), integer_range_0_at_2)
unfolding equal ordered
integer_range_0 =
    stmt_node recorder program_integer_range integer_range_t4 299 (y.outs-Assign ((target.Name (codes "var_8")) ∷ []) false None integer_range_t3) refl (then_err (value_integer_range integer_range_t3) _ (Left construct.IntegerRange) integer_range_0_at_2 (expr_node recorder program_integer_range integer_range_t3 298 (x.outs-Method integer_range_t1 (codes "f") (args (integer_range_t2 ∷ []) [])) refl (then_ok (value_integer_range integer_range_t1) _ (v.ModuleRef, (j.Plain true)) (state_integer_range None [] [] [] 0 297 []) (expr_node recorder program_integer_range integer_range_t1 297 (x.outs-Name (codes "module_0")) refl (leaf (simp views))) (then_ok (finds program_integer_range v.ModuleRef (codes "f")) _ (callee.Value (v.Func (func_id 0))) (state_integer_range None [] [] [] 0 297 []) (leaf (first_of (simp views, simp tuples, search))) (as_run (plain_arguments recorder program_integer_range (value_integer_range) (means_integer_range) (callee.Value (v.Func (func_id 0))) [] (integer_range_t2 ∷ []) []) (ap (λ args. plain_arguments recorder program_integer_range (value_integer_range) (means_integer_range) (callee.Value (v.Func (func_id 0))) [] args.plain args.named (state_integer_range None [] [] [] 0 297 [])) (out-roll-Args _)) (then_ok (value_integer_range integer_range_t2) _ ((v.Int (pos 170141183460469231731687303715884105727)), (j.Plain true)) (state_integer_range None [] [] [] 0 296 []) (expr_node recorder program_integer_range integer_range_t2 296 (x.outs-IntLit (pos 170141183460469231731687303715884105727)) refl (leaf (simp views))) (as_run (calls_function recorder program_integer_range (means_integer_range) (func_id 0) ((v.Int (pos 170141183460469231731687303715884105727)) ∷ []) []) (ap (λ level. calls_value recorder program_integer_range (means_integer_range) level ((v.Int (pos 170141183460469231731687303715884105727)) ∷ []) [] (state_integer_range None [] [] [] 0 296 [])) (outs-Func _)) (as_run (inside recorder program_integer_range (means_integer_range) (func_id 0) function_integer_range_0 (((codes "a"), (v.Int (pos 170141183460469231731687303715884105727))) ∷ [])) (let same : calls_function recorder program_integer_range (means_integer_range) (func_id 0) ((v.Int (pos 170141183460469231731687303715884105727)) ∷ []) [] (state_integer_range None [] [] [] 0 296 []) ≡ inside recorder program_integer_range (means_integer_range) (func_id 0) function_integer_range_0 (((codes "a"), (v.Int (pos 170141183460469231731687303715884105727))) ∷ []) (state_integer_range None [] [] [] 0 296 []) = refl in same) (gives_same (leaves (state_integer_range None [] [] [] 0 296 []).frame ((Err (Left construct.IntegerRange)), integer_range_0_at_1)) (in_frame recorder program_integer_range (func_id 0) function_integer_range_0 (((codes "a"), (v.Int (pos 170141183460469231731687303715884105727))) ∷ []) (Err (Left construct.IntegerRange)) integer_range_0_at_1 (then_ok (begins recorder (node 0)) _ tt (state_integer_range (Some (func_id 0)) (((codes "a"), (v.Int (pos 170141183460469231731687303715884105727))) ∷ []) [] [] 1 295 (began 0 ∷ [])) (leaf refl) (then_err (means_integer_range integer_range_n1) _ (Left construct.IntegerRange) integer_range_0_at_1 (stmt_node recorder program_integer_range integer_range_n1 294 (y.outs-Return (Some integer_range_n2)) refl (then_err (value_integer_range integer_range_n2) _ (Left construct.IntegerRange) integer_range_0_at_1 (expr_node recorder program_integer_range integer_range_n2 293 (x.outs-Binary Add integer_range_n3 integer_range_n4) refl (then_ok (value_integer_range integer_range_n3) _ ((v.Int (pos 170141183460469231731687303715884105727)), (j.Plain true)) (state_integer_range (Some (func_id 0)) (((codes "a"), (v.Int (pos 170141183460469231731687303715884105727))) ∷ []) [] [] 1 292 (began 0 ∷ began 1 ∷ began 2 ∷ began 3 ∷ [])) (expr_node recorder program_integer_range integer_range_n3 292 (x.outs-Name (codes "a")) refl (leaf (simp views))) (then_ok (value_integer_range integer_range_n4) _ ((v.Int (pos 1)), (j.Plain true)) integer_range_0_at_1 (expr_node recorder program_integer_range integer_range_n4 291 (x.outs-IntLit (pos 1)) refl (leaf (simp views))) (leaf (first_of (simp views, simp tuples, search))))))))))) (refl))))))))))

abbrev value_zero_division : Expr → Run Trail Finding
value_zero_division = value_of recorder program_zero_division

abbrev means_zero_division : Stmt → Run Trail Finding
means_zero_division = means recorder program_zero_division

abbrev zero_division_0_seen_1 : Trail
zero_division_0_seen_1 = began 0 ∷ began 1 ∷ began 2 ∷ began 3 ∷ began 4 ∷ []

abbrev zero_division_0_at_1 : State World Trail
zero_division_0_at_1 = state_zero_division (Some (func_id 0)) (((codes "a"), (v.Int (pos 0))) ∷ []) [] (object.Instance (Built built.ZeroDivisionError) [] None ∷ []) 1 291 zero_division_0_seen_1

abbrev zero_division_0_at_2 : State World Trail
zero_division_0_at_2 = state_zero_division None [] [] (object.Instance (Built built.ZeroDivisionError) [] None ∷ []) 0 291 zero_division_0_seen_1

pub zero_division_0 : Yields (means_zero_division zero_division_t4) (state_zero_division None [] [] [] 0 300 []) ((Err (Raised (id 0))), zero_division_0_at_2)
unfolding equal ordered
zero_division_0 =
    stmt_node recorder program_zero_division zero_division_t4 299 (y.outs-Assign ((target.Name (codes "var_8")) ∷ []) false None zero_division_t3) refl (then_err (value_zero_division zero_division_t3) _ (Raised (id 0)) zero_division_0_at_2 (expr_node recorder program_zero_division zero_division_t3 298 (x.outs-Method zero_division_t1 (codes "f") (args (zero_division_t2 ∷ []) [])) refl (then_ok (value_zero_division zero_division_t1) _ (v.ModuleRef, (j.Plain true)) (state_zero_division None [] [] [] 0 297 []) (expr_node recorder program_zero_division zero_division_t1 297 (x.outs-Name (codes "module_0")) refl (leaf (simp views))) (then_ok (finds program_zero_division v.ModuleRef (codes "f")) _ (callee.Value (v.Func (func_id 0))) (state_zero_division None [] [] [] 0 297 []) (leaf (first_of (simp views, simp tuples, search))) (as_run (plain_arguments recorder program_zero_division (value_zero_division) (means_zero_division) (callee.Value (v.Func (func_id 0))) [] (zero_division_t2 ∷ []) []) (ap (λ args. plain_arguments recorder program_zero_division (value_zero_division) (means_zero_division) (callee.Value (v.Func (func_id 0))) [] args.plain args.named (state_zero_division None [] [] [] 0 297 [])) (out-roll-Args _)) (then_ok (value_zero_division zero_division_t2) _ ((v.Int (pos 0)), (j.Plain false)) (state_zero_division None [] [] [] 0 296 []) (expr_node recorder program_zero_division zero_division_t2 296 (x.outs-IntLit (pos 0)) refl (leaf (simp views))) (as_run (calls_function recorder program_zero_division (means_zero_division) (func_id 0) ((v.Int (pos 0)) ∷ []) []) (ap (λ level. calls_value recorder program_zero_division (means_zero_division) level ((v.Int (pos 0)) ∷ []) [] (state_zero_division None [] [] [] 0 296 [])) (outs-Func _)) (as_run (inside recorder program_zero_division (means_zero_division) (func_id 0) function_zero_division_0 (((codes "a"), (v.Int (pos 0))) ∷ [])) (let same : calls_function recorder program_zero_division (means_zero_division) (func_id 0) ((v.Int (pos 0)) ∷ []) [] (state_zero_division None [] [] [] 0 296 []) ≡ inside recorder program_zero_division (means_zero_division) (func_id 0) function_zero_division_0 (((codes "a"), (v.Int (pos 0))) ∷ []) (state_zero_division None [] [] [] 0 296 []) = refl in same) (gives_same (leaves (state_zero_division None [] [] [] 0 296 []).frame ((Err (Raised (id 0))), zero_division_0_at_1)) (in_frame recorder program_zero_division (func_id 0) function_zero_division_0 (((codes "a"), (v.Int (pos 0))) ∷ []) (Err (Raised (id 0))) zero_division_0_at_1 (then_ok (begins recorder (node 0)) _ tt (state_zero_division (Some (func_id 0)) (((codes "a"), (v.Int (pos 0))) ∷ []) [] [] 1 295 (began 0 ∷ [])) (leaf refl) (then_err (means_zero_division zero_division_n1) _ (Raised (id 0)) zero_division_0_at_1 (stmt_node recorder program_zero_division zero_division_n1 294 (y.outs-Return (Some zero_division_n2)) refl (then_err (value_zero_division zero_division_n2) _ (Raised (id 0)) zero_division_0_at_1 (expr_node recorder program_zero_division zero_division_n2 293 (x.outs-Binary FloorDiv zero_division_n3 zero_division_n4) refl (then_ok (value_zero_division zero_division_n3) _ ((v.Int (pos 1)), (j.Plain true)) (state_zero_division (Some (func_id 0)) (((codes "a"), (v.Int (pos 0))) ∷ []) [] [] 1 292 (began 0 ∷ began 1 ∷ began 2 ∷ began 3 ∷ [])) (expr_node recorder program_zero_division zero_division_n3 292 (x.outs-IntLit (pos 1)) refl (leaf (simp views))) (then_ok (value_zero_division zero_division_n4) _ ((v.Int (pos 0)), (j.Plain false)) (state_zero_division (Some (func_id 0)) (((codes "a"), (v.Int (pos 0))) ∷ []) [] [] 1 291 zero_division_0_seen_1) (expr_node recorder program_zero_division zero_division_n4 291 (x.outs-Name (codes "a")) refl (leaf (simp views))) (leaf (first_of (simp views, simp tuples, search))))))))))) (refl))))))))))

abbrev value_string_format : Expr → Run Trail Finding
value_string_format = value_of recorder program_string_format

abbrev means_string_format : Stmt → Run Trail Finding
means_string_format = means recorder program_string_format

abbrev string_format_0_seen_1 : Trail
string_format_0_seen_1 = began 0 ∷ began 1 ∷ began 2 ∷ began 3 ∷ began 4 ∷ []

abbrev string_format_0_at_1 : State World Trail
string_format_0_at_1 = state_string_format (Some (func_id 0)) [] [] [] 1 292 string_format_0_seen_1

abbrev string_format_0_at_2 : State World Trail
string_format_0_at_2 = state_string_format None [] [] [] 0 292 string_format_0_seen_1

pub string_format_0 : Yields (means_string_format string_format_t3) (state_string_format None [] [] [] 0 300 []) ((Err (Left construct.StringFormat)), string_format_0_at_2)
unfolding equal ordered
string_format_0 =
    stmt_node recorder program_string_format string_format_t3 299 (y.outs-Assign ((target.Name (codes "var_8")) ∷ []) false None string_format_t2) refl (then_err (value_string_format string_format_t2) _ (Left construct.StringFormat) string_format_0_at_2 (expr_node recorder program_string_format string_format_t2 298 (x.outs-Method string_format_t1 (codes "f") (args [] [])) refl (then_ok (value_string_format string_format_t1) _ (v.ModuleRef, (j.Plain true)) (state_string_format None [] [] [] 0 297 []) (expr_node recorder program_string_format string_format_t1 297 (x.outs-Name (codes "module_0")) refl (leaf (simp views))) (then_ok (finds program_string_format v.ModuleRef (codes "f")) _ (callee.Value (v.Func (func_id 0))) (state_string_format None [] [] [] 0 297 []) (leaf (first_of (simp views, simp tuples, search))) (as_run (plain_arguments recorder program_string_format (value_string_format) (means_string_format) (callee.Value (v.Func (func_id 0))) [] [] []) (ap (λ args. plain_arguments recorder program_string_format (value_string_format) (means_string_format) (callee.Value (v.Func (func_id 0))) [] args.plain args.named (state_string_format None [] [] [] 0 297 [])) (out-roll-Args _)) (as_run (calls_function recorder program_string_format (means_string_format) (func_id 0) [] []) (ap (λ level. calls_value recorder program_string_format (means_string_format) level [] [] (state_string_format None [] [] [] 0 297 [])) (outs-Func _)) (as_run (inside recorder program_string_format (means_string_format) (func_id 0) function_string_format_0 []) (let same : calls_function recorder program_string_format (means_string_format) (func_id 0) [] [] (state_string_format None [] [] [] 0 297 []) ≡ inside recorder program_string_format (means_string_format) (func_id 0) function_string_format_0 [] (state_string_format None [] [] [] 0 297 []) = refl in same) (gives_same (leaves (state_string_format None [] [] [] 0 297 []).frame ((Err (Left construct.StringFormat)), string_format_0_at_1)) (in_frame recorder program_string_format (func_id 0) function_string_format_0 [] (Err (Left construct.StringFormat)) string_format_0_at_1 (then_ok (begins recorder (node 0)) _ tt (state_string_format (Some (func_id 0)) [] [] [] 1 296 (began 0 ∷ [])) (leaf refl) (then_err (means_string_format string_format_n1) _ (Left construct.StringFormat) string_format_0_at_1 (stmt_node recorder program_string_format string_format_n1 295 (y.outs-Return (Some string_format_n2)) refl (then_err (value_string_format string_format_n2) _ (Left construct.StringFormat) string_format_0_at_1 (expr_node recorder program_string_format string_format_n2 294 (x.outs-Binary Mod string_format_n3 string_format_n4) refl (then_ok (value_string_format string_format_n3) _ ((v.Str (codes "a")), (j.Plain true)) (state_string_format (Some (func_id 0)) [] [] [] 1 293 (began 0 ∷ began 1 ∷ began 2 ∷ began 3 ∷ [])) (expr_node recorder program_string_format string_format_n3 293 (x.outs-StrLit (codes "a")) refl (leaf (simp views))) (then_ok (value_string_format string_format_n4) _ ((v.Int (pos 1)), (j.Plain true)) string_format_0_at_1 (expr_node recorder program_string_format string_format_n4 292 (x.outs-IntLit (pos 1)) refl (leaf (simp views))) (leaf (first_of (simp views, simp tuples, search))))))))))) (refl)))))))))

abbrev value_identity : Expr → Run Trail Finding
value_identity = value_of recorder program_identity

abbrev means_identity : Stmt → Run Trail Finding
means_identity = means recorder program_identity

abbrev identity_0_seen_1 : Trail
identity_0_seen_1 = began 0 ∷ began 1 ∷ began 2 ∷ began 3 ∷ began 4 ∷ []

abbrev identity_0_at_1 : State World Trail
identity_0_at_1 = state_identity (Some (func_id 0)) [] [] [] 1 292 identity_0_seen_1

abbrev identity_0_at_2 : State World Trail
identity_0_at_2 = state_identity None [] [] [] 0 292 identity_0_seen_1

pub identity_0 : Yields (means_identity identity_t3) (state_identity None [] [] [] 0 300 []) ((Err (Left construct.Identity)), identity_0_at_2)
unfolding equal ordered
identity_0 =
    stmt_node recorder program_identity identity_t3 299 (y.outs-Assign ((target.Name (codes "var_8")) ∷ []) false None identity_t2) refl (then_err (value_identity identity_t2) _ (Left construct.Identity) identity_0_at_2 (expr_node recorder program_identity identity_t2 298 (x.outs-Method identity_t1 (codes "f") (args [] [])) refl (then_ok (value_identity identity_t1) _ (v.ModuleRef, (j.Plain true)) (state_identity None [] [] [] 0 297 []) (expr_node recorder program_identity identity_t1 297 (x.outs-Name (codes "module_0")) refl (leaf (simp views))) (then_ok (finds program_identity v.ModuleRef (codes "f")) _ (callee.Value (v.Func (func_id 0))) (state_identity None [] [] [] 0 297 []) (leaf (first_of (simp views, simp tuples, search))) (as_run (plain_arguments recorder program_identity (value_identity) (means_identity) (callee.Value (v.Func (func_id 0))) [] [] []) (ap (λ args. plain_arguments recorder program_identity (value_identity) (means_identity) (callee.Value (v.Func (func_id 0))) [] args.plain args.named (state_identity None [] [] [] 0 297 [])) (out-roll-Args _)) (as_run (calls_function recorder program_identity (means_identity) (func_id 0) [] []) (ap (λ level. calls_value recorder program_identity (means_identity) level [] [] (state_identity None [] [] [] 0 297 [])) (outs-Func _)) (as_run (inside recorder program_identity (means_identity) (func_id 0) function_identity_0 []) (let same : calls_function recorder program_identity (means_identity) (func_id 0) [] [] (state_identity None [] [] [] 0 297 []) ≡ inside recorder program_identity (means_identity) (func_id 0) function_identity_0 [] (state_identity None [] [] [] 0 297 []) = refl in same) (gives_same (leaves (state_identity None [] [] [] 0 297 []).frame ((Err (Left construct.Identity)), identity_0_at_1)) (in_frame recorder program_identity (func_id 0) function_identity_0 [] (Err (Left construct.Identity)) identity_0_at_1 (then_ok (begins recorder (node 0)) _ tt (state_identity (Some (func_id 0)) [] [] [] 1 296 (began 0 ∷ [])) (leaf refl) (then_err (means_identity identity_n1) _ (Left construct.Identity) identity_0_at_1 (stmt_node recorder program_identity identity_n1 295 (y.outs-Return (Some identity_n2)) refl (then_err (value_identity identity_n2) _ (Left construct.Identity) identity_0_at_1 (expr_node recorder program_identity identity_n2 294 (x.outs-Compare identity_n3 ((Same, identity_n4) ∷ [])) refl (then_ok (value_identity identity_n3) _ ((v.Int (pos 1)), (j.Plain true)) (state_identity (Some (func_id 0)) [] [] [] 1 293 (began 0 ∷ began 1 ∷ began 2 ∷ began 3 ∷ [])) (expr_node recorder program_identity identity_n3 293 (x.outs-IntLit (pos 1)) refl (leaf (simp views))) (then_ok (value_identity identity_n4) _ ((v.Int (pos 1)), (j.Plain true)) identity_0_at_1 (expr_node recorder program_identity identity_n4 292 (x.outs-IntLit (pos 1)) refl (leaf (simp views))) (then_err (compares Same (v.Int (pos 1)) (v.Int (pos 1))) _ (Left construct.Identity) identity_0_at_1 (leaf (first_of (simp views, simp tuples, search)))))))))))) (refl)))))))))

abbrev value_subscript_of_class : Expr → Run Trail Finding
value_subscript_of_class = value_of recorder program_subscript_of_class

abbrev means_subscript_of_class : Stmt → Run Trail Finding
means_subscript_of_class = means recorder program_subscript_of_class

abbrev subscript_of_class_0_seen_1 : Trail
subscript_of_class_0_seen_1 = began 0 ∷ began 1 ∷ began 2 ∷ began 3 ∷ began 4 ∷ []

abbrev subscript_of_class_0_at_1 : State World Trail
subscript_of_class_0_at_1 = state_subscript_of_class (Some (func_id 0)) [] [] [] 1 292 subscript_of_class_0_seen_1

abbrev subscript_of_class_0_at_2 : State World Trail
subscript_of_class_0_at_2 = state_subscript_of_class None [] [] [] 0 292 subscript_of_class_0_seen_1

pub subscript_of_class_0 : Yields (means_subscript_of_class subscript_of_class_t3) (state_subscript_of_class None [] [] [] 0 300 []) ((Err (Left construct.SubscriptOfAClass)), subscript_of_class_0_at_2)
unfolding equal ordered
subscript_of_class_0 =
    stmt_node recorder program_subscript_of_class subscript_of_class_t3 299 (y.outs-Assign ((target.Name (codes "var_8")) ∷ []) false None subscript_of_class_t2) refl (then_err (value_subscript_of_class subscript_of_class_t2) _ (Left construct.SubscriptOfAClass) subscript_of_class_0_at_2 (expr_node recorder program_subscript_of_class subscript_of_class_t2 298 (x.outs-Method subscript_of_class_t1 (codes "f") (args [] [])) refl (then_ok (value_subscript_of_class subscript_of_class_t1) _ (v.ModuleRef, (j.Plain true)) (state_subscript_of_class None [] [] [] 0 297 []) (expr_node recorder program_subscript_of_class subscript_of_class_t1 297 (x.outs-Name (codes "module_0")) refl (leaf (simp views))) (then_ok (finds program_subscript_of_class v.ModuleRef (codes "f")) _ (callee.Value (v.Func (func_id 0))) (state_subscript_of_class None [] [] [] 0 297 []) (leaf (first_of (simp views, simp tuples, search))) (as_run (plain_arguments recorder program_subscript_of_class (value_subscript_of_class) (means_subscript_of_class) (callee.Value (v.Func (func_id 0))) [] [] []) (ap (λ args. plain_arguments recorder program_subscript_of_class (value_subscript_of_class) (means_subscript_of_class) (callee.Value (v.Func (func_id 0))) [] args.plain args.named (state_subscript_of_class None [] [] [] 0 297 [])) (out-roll-Args _)) (as_run (calls_function recorder program_subscript_of_class (means_subscript_of_class) (func_id 0) [] []) (ap (λ level. calls_value recorder program_subscript_of_class (means_subscript_of_class) level [] [] (state_subscript_of_class None [] [] [] 0 297 [])) (outs-Func _)) (as_run (inside recorder program_subscript_of_class (means_subscript_of_class) (func_id 0) function_subscript_of_class_0 []) (let same : calls_function recorder program_subscript_of_class (means_subscript_of_class) (func_id 0) [] [] (state_subscript_of_class None [] [] [] 0 297 []) ≡ inside recorder program_subscript_of_class (means_subscript_of_class) (func_id 0) function_subscript_of_class_0 [] (state_subscript_of_class None [] [] [] 0 297 []) = refl in same) (gives_same (leaves (state_subscript_of_class None [] [] [] 0 297 []).frame ((Err (Left construct.SubscriptOfAClass)), subscript_of_class_0_at_1)) (in_frame recorder program_subscript_of_class (func_id 0) function_subscript_of_class_0 [] (Err (Left construct.SubscriptOfAClass)) subscript_of_class_0_at_1 (then_ok (begins recorder (node 0)) _ tt (state_subscript_of_class (Some (func_id 0)) [] [] [] 1 296 (began 0 ∷ [])) (leaf refl) (then_err (means_subscript_of_class subscript_of_class_n1) _ (Left construct.SubscriptOfAClass) subscript_of_class_0_at_1 (stmt_node recorder program_subscript_of_class subscript_of_class_n1 295 (y.outs-Return (Some subscript_of_class_n2)) refl (then_err (value_subscript_of_class subscript_of_class_n2) _ (Left construct.SubscriptOfAClass) subscript_of_class_0_at_1 (expr_node recorder program_subscript_of_class subscript_of_class_n2 294 (x.outs-Index subscript_of_class_n3 subscript_of_class_n4) refl (then_ok (value_subscript_of_class subscript_of_class_n3) _ ((v.Class (Built built.Int)), (j.Plain true)) (state_subscript_of_class (Some (func_id 0)) [] [] [] 1 293 (began 0 ∷ began 1 ∷ began 2 ∷ began 3 ∷ [])) (expr_node recorder program_subscript_of_class subscript_of_class_n3 293 (x.outs-Name (codes "int")) refl (leaf (simp views))) (then_ok (value_subscript_of_class subscript_of_class_n4) _ ((v.Int (pos 1)), (j.Plain true)) subscript_of_class_0_at_1 (expr_node recorder program_subscript_of_class subscript_of_class_n4 292 (x.outs-IntLit (pos 1)) refl (leaf (simp views))) (leaf (first_of (simp views, simp tuples, search))))))))))) (refl)))))))))

abbrev value_view_operand : Expr → Run Trail Finding
value_view_operand = value_of recorder program_view_operand

abbrev means_view_operand : Stmt → Run Trail Finding
means_view_operand = means recorder program_view_operand

abbrev view_operand_0_seen_1 : Trail
view_operand_0_seen_1 = began 0 ∷ began 1 ∷ began 2 ∷ began 3 ∷ began 4 ∷ began 5 ∷ began 6 ∷ []

abbrev view_operand_0_seen_2 : Trail
view_operand_0_seen_2 = began 0 ∷ began 1 ∷ began 2 ∷ began 3 ∷ began 4 ∷ began 5 ∷ []

abbrev view_operand_0_seen_3 : Trail
view_operand_0_seen_3 = began 0 ∷ began 1 ∷ began 2 ∷ began 3 ∷ began 4 ∷ []

abbrev view_operand_0_at_1 : State World Trail
view_operand_0_at_1 = state_view_operand (Some (func_id 0)) [] [] [] 1 290 view_operand_0_seen_1

abbrev view_operand_0_at_2 : State World Trail
view_operand_0_at_2 = state_view_operand (Some (func_id 0)) [] [] [] 1 291 view_operand_0_seen_2

abbrev view_operand_0_at_3 : State World Trail
view_operand_0_at_3 = state_view_operand (Some (func_id 0)) [] [] [] 1 292 view_operand_0_seen_3

abbrev view_operand_0_at_4 : State World Trail
view_operand_0_at_4 = state_view_operand None [] [] [] 0 290 view_operand_0_seen_1

pub view_operand_0 : Yields (means_view_operand view_operand_t3) (state_view_operand None [] [] [] 0 300 []) ((Err (Left construct.View)), view_operand_0_at_4)
unfolding equal ordered
view_operand_0 =
    stmt_node recorder program_view_operand view_operand_t3 299 (y.outs-Assign ((target.Name (codes "var_8")) ∷ []) false None view_operand_t2) refl (then_err (value_view_operand view_operand_t2) _ (Left construct.View) view_operand_0_at_4 (expr_node recorder program_view_operand view_operand_t2 298 (x.outs-Method view_operand_t1 (codes "f") (args [] [])) refl (then_ok (value_view_operand view_operand_t1) _ (v.ModuleRef, (j.Plain true)) (state_view_operand None [] [] [] 0 297 []) (expr_node recorder program_view_operand view_operand_t1 297 (x.outs-Name (codes "module_0")) refl (leaf (simp views))) (then_ok (finds program_view_operand v.ModuleRef (codes "f")) _ (callee.Value (v.Func (func_id 0))) (state_view_operand None [] [] [] 0 297 []) (leaf (first_of (simp views, simp tuples, search))) (as_run (plain_arguments recorder program_view_operand (value_view_operand) (means_view_operand) (callee.Value (v.Func (func_id 0))) [] [] []) (ap (λ args. plain_arguments recorder program_view_operand (value_view_operand) (means_view_operand) (callee.Value (v.Func (func_id 0))) [] args.plain args.named (state_view_operand None [] [] [] 0 297 [])) (out-roll-Args _)) (as_run (calls_function recorder program_view_operand (means_view_operand) (func_id 0) [] []) (ap (λ level. calls_value recorder program_view_operand (means_view_operand) level [] [] (state_view_operand None [] [] [] 0 297 [])) (outs-Func _)) (as_run (inside recorder program_view_operand (means_view_operand) (func_id 0) function_view_operand_0 []) (let same : calls_function recorder program_view_operand (means_view_operand) (func_id 0) [] [] (state_view_operand None [] [] [] 0 297 []) ≡ inside recorder program_view_operand (means_view_operand) (func_id 0) function_view_operand_0 [] (state_view_operand None [] [] [] 0 297 []) = refl in same) (gives_same (leaves (state_view_operand None [] [] [] 0 297 []).frame ((Err (Left construct.View)), view_operand_0_at_1)) (in_frame recorder program_view_operand (func_id 0) function_view_operand_0 [] (Err (Left construct.View)) view_operand_0_at_1 (then_ok (begins recorder (node 0)) _ tt (state_view_operand (Some (func_id 0)) [] [] [] 1 296 (began 0 ∷ [])) (leaf refl) (then_err (means_view_operand view_operand_n1) _ (Left construct.View) view_operand_0_at_1 (stmt_node recorder program_view_operand view_operand_n1 295 (y.outs-Return (Some view_operand_n2)) refl (then_err (value_view_operand view_operand_n2) _ (Left construct.View) view_operand_0_at_1 (expr_node recorder program_view_operand view_operand_n2 294 (x.outs-Binary Add view_operand_n3 view_operand_n6) refl (then_ok (value_view_operand view_operand_n3) _ ((v.View (view.Range (pos 0) (pos 3) (pos 1))), (j.Plain true)) view_operand_0_at_2 (expr_node recorder program_view_operand view_operand_n3 293 (x.outs-Call view_operand_n4 (args (view_operand_n5 ∷ []) [])) refl (as_run (calls_meant recorder program_view_operand (value_view_operand) (means_view_operand) (Some builtin.Range) view_operand_n4 (args (view_operand_n5 ∷ []) [])) (ap (λ kind. calls_expr recorder program_view_operand (value_view_operand) (means_view_operand) kind view_operand_n4 (args (view_operand_n5 ∷ []) []) (state_view_operand (Some (func_id 0)) [] [] [] 1 293 (began 0 ∷ began 1 ∷ began 2 ∷ began 3 ∷ []))) (x.outs-Name (codes "range"))) (then_ok (begins recorder (node 4)) _ tt view_operand_0_at_3 (leaf refl) (as_run (plain_arguments recorder program_view_operand (value_view_operand) (means_view_operand) (callee.Builtin builtin.Range) [] (view_operand_n5 ∷ []) []) (ap (λ args. plain_arguments recorder program_view_operand (value_view_operand) (means_view_operand) (callee.Builtin builtin.Range) [] args.plain args.named view_operand_0_at_3) (out-roll-Args _)) (then_ok (value_view_operand view_operand_n5) _ ((v.Int (pos 3)), (j.Plain true)) view_operand_0_at_2 (expr_node recorder program_view_operand view_operand_n5 291 (x.outs-IntLit (pos 3)) refl (leaf (simp views))) (leaf (first_of (simp views, simp tuples, search)))))))) (then_ok (value_view_operand view_operand_n6) _ ((v.Int (pos 1)), (j.Plain true)) view_operand_0_at_1 (expr_node recorder program_view_operand view_operand_n6 290 (x.outs-IntLit (pos 1)) refl (leaf (simp views))) (leaf (first_of (simp views, simp tuples, search))))))))))) (refl)))))))))
