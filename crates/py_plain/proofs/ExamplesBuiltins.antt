-- Derivations of the worked examples of built-in functions and methods: each is a tree of the run, from rules of `Yields`.
use Rattle.py_meaning.specs.Equal.{equal}
use Rattle.py_meaning.specs.Examples.{id, ref}
use Rattle.py_meaning.specs.Folds.{tuple-out, key_cost-Tuple, key_cost-out, as_key-Tuple, as_key-out, same_key-Tuple, same_key-out}
use Rattle.py_meaning.specs.Less.{ordered}
use Rattle.py_meaning.specs.Tuples.{tuple, measured}
use Rattle.py_meaning.specs.Worlds.{World}
use Rattle.py_meaning.specs.declared.builtin.Builtin.TheVariants as builtin
use Rattle.py_meaning.specs.declared.object.Object.TheVariants as object
use Rattle.py_meaning.specs.declared.value.Value.TheVariants as v
use Rattle.py_meaning.specs.declared.value.Value.TheVariants.{outs-None, outs-Bool, outs-Int, outs-Str, outs-Tuple, outs-Ref, outs-Class, outs-Func, outs-View, outs-ModuleRef}
use Rattle.py_plain.proofs.Yields.{Yields, leaf, as_run, gives_same, then_ok, then_err, stmt_node, expr_node, in_frame}
use Rattle.py_plain.specs.Attributes.{finds}
use Rattle.py_plain.specs.Calls.{leaves, inside, calls_function, calls_value, calls_class}
use Rattle.py_plain.specs.Examples.{node, args, func_id, began}
use Rattle.py_plain.specs.ExamplesBuiltins.{isinstance_count_n3, isinstance_count_n4, isinstance_count_n2, isinstance_count_n1, isinstance_count_t1, isinstance_count_t2, isinstance_count_t3, function_isinstance_count_0, program_isinstance_count, state_isinstance_count, isinstance_nested_n3, isinstance_nested_n4, isinstance_nested_n6, isinstance_nested_n8, isinstance_nested_n7, isinstance_nested_n5, isinstance_nested_n2, isinstance_nested_n1, isinstance_nested_t1, isinstance_nested_t2, isinstance_nested_t3, function_isinstance_nested_0, program_isinstance_nested, state_isinstance_nested, isinstance_nested_after_n3, isinstance_nested_after_n4, isinstance_nested_after_n6, isinstance_nested_after_n8, isinstance_nested_after_n7, isinstance_nested_after_n5, isinstance_nested_after_n2, isinstance_nested_after_n1, isinstance_nested_after_t1, isinstance_nested_after_t2, isinstance_nested_after_t3, function_isinstance_nested_after_0, program_isinstance_nested_after, state_isinstance_nested_after, isinstance_no_class_n3, isinstance_no_class_n4, isinstance_no_class_n6, isinstance_no_class_n7, isinstance_no_class_n5, isinstance_no_class_n2, isinstance_no_class_n1, isinstance_no_class_t1, isinstance_no_class_t2, isinstance_no_class_t3, function_isinstance_no_class_0, program_isinstance_no_class, state_isinstance_no_class, str_of_instance_n3, str_of_instance_n5, str_of_instance_n4, str_of_instance_n2, str_of_instance_n1, str_of_instance_t1, str_of_instance_t2, str_of_instance_t3, function_str_of_instance_0, program_str_of_instance, state_str_of_instance, str_of_key_error_n3, str_of_key_error_n5, str_of_key_error_n6, str_of_key_error_n4, str_of_key_error_n2, str_of_key_error_n1, str_of_key_error_t1, str_of_key_error_t2, str_of_key_error_t3, function_str_of_key_error_0, program_str_of_key_error, state_str_of_key_error, object_called_n3, object_called_n2, object_called_n1, object_called_t1, object_called_t2, object_called_t3, function_object_called_0, program_object_called, state_object_called, method_leaves_n4, method_leaves_n3, method_leaves_n2, method_leaves_n1, method_leaves_t1, method_leaves_t2, method_leaves_t3, function_method_leaves_0, program_method_leaves, state_method_leaves, method_missing_before_arguments_n4, method_missing_before_arguments_n3, method_missing_before_arguments_n5, method_missing_before_arguments_n2, method_missing_before_arguments_n1, method_missing_before_arguments_t1, method_missing_before_arguments_t2, method_missing_before_arguments_t3, function_method_missing_before_arguments_0, program_method_missing_before_arguments, state_method_missing_before_arguments, method_not_called_n4, method_not_called_n3, method_not_called_n2, method_not_called_n1, method_not_called_t1, method_not_called_t2, method_not_called_t3, function_method_not_called_0, program_method_not_called, state_method_not_called}
use Rattle.py_plain.specs.Expressions.{plain_arguments, calls_meant, calls_expr}
use Rattle.py_plain.specs.Runs.{begins, Run, Finding}
use Rattle.py_plain.specs.Statements.{means, value_of}
use Rattle.py_plain.specs.Tests.{recorder, Trail}
use Rattle.py_plain.specs.declared.judged.Judged.TheVariants as j
use Rattle.py_plain.specs.declared.run.Abrupt.TheVariants.{Raised, Returned, Left}
use Rattle.py_plain.specs.declared.run.Callee.TheVariants as callee
use Rattle.py_plain.specs.declared.state.State.{State}
use Rattle.py_syntax.specs.declared.expr.Args.{out-roll-Args}
use Rattle.py_syntax.specs.declared.expr.Expr.{Expr}
use Rattle.py_syntax.specs.declared.expr.ExprKind.TheVariants as x
use Rattle.py_syntax.specs.declared.stmt.Stmt.{Stmt}
use Rattle.py_syntax.specs.declared.stmt.StmtKind.TheVariants as y
use Rattle.py_syntax.specs.declared.stmt.Target.TheVariants as target
use Rattle.pyn_base.specs.declared.class.BuiltClass.TheVariants as built
use Rattle.pyn_base.specs.declared.class.ClassId.TheVariants.{Built, Own}
use Rattle.pyn_base.specs.declared.construct.Construct.TheVariants as construct
use Rattle.std.proofs.Common.{◌≡◌, refl, ap}
use Rattle.std.specs.Prelude.{pos, true, false, [], ◌∷◌, Some, None, Ok, Err, codes}

ruleset views = (tuple-out, outs-None, outs-Bool, outs-Int, outs-Str, outs-Tuple, outs-Ref, outs-Class, outs-Func, outs-View, outs-ModuleRef)

ruleset tuples = (tuple-out, outs-None, outs-Bool, outs-Int, outs-Str, outs-Tuple, outs-Ref, outs-Class, outs-Func, outs-View, outs-ModuleRef, key_cost-Tuple, key_cost-out, as_key-Tuple, as_key-out, same_key-Tuple, same_key-out)

abbrev value_isinstance_count : Expr → Run Trail Finding
value_isinstance_count = value_of recorder program_isinstance_count

abbrev means_isinstance_count : Stmt → Run Trail Finding
means_isinstance_count = means recorder program_isinstance_count

abbrev isinstance_count_0_seen_1 : Trail
isinstance_count_0_seen_1 = began 0 ∷ began 1 ∷ began 2 ∷ began 3 ∷ began 4 ∷ []

abbrev isinstance_count_0_seen_2 : Trail
isinstance_count_0_seen_2 = began 0 ∷ began 1 ∷ began 2 ∷ began 3 ∷ []

abbrev isinstance_count_0_at_1 : State World Trail
isinstance_count_0_at_1 = state_isinstance_count (Some (func_id 0)) [] [] (object.Instance (Built built.TypeError) [] None ∷ []) 1 292 isinstance_count_0_seen_1

abbrev isinstance_count_0_at_2 : State World Trail
isinstance_count_0_at_2 = state_isinstance_count None [] [] (object.Instance (Built built.TypeError) [] None ∷ []) 0 292 isinstance_count_0_seen_1

abbrev isinstance_count_0_at_3 : State World Trail
isinstance_count_0_at_3 = state_isinstance_count (Some (func_id 0)) [] [] [] 1 293 isinstance_count_0_seen_2

pub isinstance_count_0 : Yields (means_isinstance_count isinstance_count_t3) (state_isinstance_count None [] [] [] 0 300 []) ((Err (Raised (id 0))), isinstance_count_0_at_2)
unfolding equal ordered
isinstance_count_0 =
    stmt_node recorder program_isinstance_count isinstance_count_t3 299 (y.outs-Assign ((target.Name (codes "var_8")) ∷ []) false None isinstance_count_t2) refl (then_err (value_isinstance_count isinstance_count_t2) _ (Raised (id 0)) isinstance_count_0_at_2 (expr_node recorder program_isinstance_count isinstance_count_t2 298 (x.outs-Method isinstance_count_t1 (codes "f") (args [] [])) refl (then_ok (value_isinstance_count isinstance_count_t1) _ (v.ModuleRef, (j.Plain true)) (state_isinstance_count None [] [] [] 0 297 []) (expr_node recorder program_isinstance_count isinstance_count_t1 297 (x.outs-Name (codes "module_0")) refl (leaf (simp views))) (then_ok (finds program_isinstance_count v.ModuleRef (codes "f")) _ (callee.Value (v.Func (func_id 0))) (state_isinstance_count None [] [] [] 0 297 []) (leaf (first_of (simp views, simp tuples, search))) (as_run (plain_arguments recorder program_isinstance_count (value_isinstance_count) (means_isinstance_count) (callee.Value (v.Func (func_id 0))) [] [] []) (ap (λ args. plain_arguments recorder program_isinstance_count (value_isinstance_count) (means_isinstance_count) (callee.Value (v.Func (func_id 0))) [] args.plain args.named (state_isinstance_count None [] [] [] 0 297 [])) (out-roll-Args _)) (as_run (calls_function recorder program_isinstance_count (means_isinstance_count) (func_id 0) [] []) (ap (λ level. calls_value recorder program_isinstance_count (means_isinstance_count) level [] [] (state_isinstance_count None [] [] [] 0 297 [])) (outs-Func _)) (as_run (inside recorder program_isinstance_count (means_isinstance_count) (func_id 0) function_isinstance_count_0 []) (let same : calls_function recorder program_isinstance_count (means_isinstance_count) (func_id 0) [] [] (state_isinstance_count None [] [] [] 0 297 []) ≡ inside recorder program_isinstance_count (means_isinstance_count) (func_id 0) function_isinstance_count_0 [] (state_isinstance_count None [] [] [] 0 297 []) = refl in same) (gives_same (leaves (state_isinstance_count None [] [] [] 0 297 []).frame ((Err (Raised (id 0))), isinstance_count_0_at_1)) (in_frame recorder program_isinstance_count (func_id 0) function_isinstance_count_0 [] (Err (Raised (id 0))) isinstance_count_0_at_1 (then_ok (begins recorder (node 0)) _ tt (state_isinstance_count (Some (func_id 0)) [] [] [] 1 296 (began 0 ∷ [])) (leaf refl) (then_err (means_isinstance_count isinstance_count_n1) _ (Raised (id 0)) isinstance_count_0_at_1 (stmt_node recorder program_isinstance_count isinstance_count_n1 295 (y.outs-Return (Some isinstance_count_n2)) refl (then_err (value_isinstance_count isinstance_count_n2) _ (Raised (id 0)) isinstance_count_0_at_1 (expr_node recorder program_isinstance_count isinstance_count_n2 294 (x.outs-Call isinstance_count_n3 (args (isinstance_count_n4 ∷ []) [])) refl (as_run (calls_meant recorder program_isinstance_count (value_isinstance_count) (means_isinstance_count) (Some builtin.Isinstance) isinstance_count_n3 (args (isinstance_count_n4 ∷ []) [])) (ap (λ kind. calls_expr recorder program_isinstance_count (value_isinstance_count) (means_isinstance_count) kind isinstance_count_n3 (args (isinstance_count_n4 ∷ []) []) (state_isinstance_count (Some (func_id 0)) [] [] [] 1 294 (began 0 ∷ began 1 ∷ began 2 ∷ []))) (x.outs-Name (codes "isinstance"))) (then_ok (begins recorder (node 3)) _ tt isinstance_count_0_at_3 (leaf refl) (as_run (plain_arguments recorder program_isinstance_count (value_isinstance_count) (means_isinstance_count) (callee.Builtin builtin.Isinstance) [] (isinstance_count_n4 ∷ []) []) (ap (λ args. plain_arguments recorder program_isinstance_count (value_isinstance_count) (means_isinstance_count) (callee.Builtin builtin.Isinstance) [] args.plain args.named isinstance_count_0_at_3) (out-roll-Args _)) (then_ok (value_isinstance_count isinstance_count_n4) _ ((v.Int (pos 1)), (j.Plain true)) (state_isinstance_count (Some (func_id 0)) [] [] [] 1 292 isinstance_count_0_seen_1) (expr_node recorder program_isinstance_count isinstance_count_n4 292 (x.outs-IntLit (pos 1)) refl (leaf (simp views))) (leaf (first_of (simp views, simp tuples, search))))))))))))) (refl)))))))))

abbrev value_isinstance_nested : Expr → Run Trail Finding
value_isinstance_nested = value_of recorder program_isinstance_nested

abbrev means_isinstance_nested : Stmt → Run Trail Finding
means_isinstance_nested = means recorder program_isinstance_nested

abbrev isinstance_nested_0_seen_1 : Trail
isinstance_nested_0_seen_1 = began 0 ∷ began 1 ∷ began 2 ∷ began 3 ∷ began 4 ∷ began 5 ∷ began 6 ∷ began 7 ∷ began 8 ∷ []

abbrev isinstance_nested_0_seen_2 : Trail
isinstance_nested_0_seen_2 = began 0 ∷ began 1 ∷ began 2 ∷ began 3 ∷ []

abbrev isinstance_nested_0_at_1 : State World Trail
isinstance_nested_0_at_1 = state_isinstance_nested (Some (func_id 0)) [] [] [] 1 284 isinstance_nested_0_seen_1

abbrev isinstance_nested_0_at_2 : State World Trail
isinstance_nested_0_at_2 = state_isinstance_nested (Some (func_id 0)) [] [] [] 1 293 isinstance_nested_0_seen_2

abbrev isinstance_nested_0_at_3 : State World Trail
isinstance_nested_0_at_3 = state_isinstance_nested None [] [] [] 0 284 isinstance_nested_0_seen_1

pub isinstance_nested_0 : Yields (means_isinstance_nested isinstance_nested_t3) (state_isinstance_nested None [] [] [] 0 300 []) ((Err (Left construct.Argument)), isinstance_nested_0_at_3)
unfolding equal ordered
isinstance_nested_0 =
    stmt_node recorder program_isinstance_nested isinstance_nested_t3 299 (y.outs-Assign ((target.Name (codes "var_8")) ∷ []) false None isinstance_nested_t2) refl (then_err (value_isinstance_nested isinstance_nested_t2) _ (Left construct.Argument) isinstance_nested_0_at_3 (expr_node recorder program_isinstance_nested isinstance_nested_t2 298 (x.outs-Method isinstance_nested_t1 (codes "f") (args [] [])) refl (then_ok (value_isinstance_nested isinstance_nested_t1) _ (v.ModuleRef, (j.Plain true)) (state_isinstance_nested None [] [] [] 0 297 []) (expr_node recorder program_isinstance_nested isinstance_nested_t1 297 (x.outs-Name (codes "module_0")) refl (leaf (simp views))) (then_ok (finds program_isinstance_nested v.ModuleRef (codes "f")) _ (callee.Value (v.Func (func_id 0))) (state_isinstance_nested None [] [] [] 0 297 []) (leaf (first_of (simp views, simp tuples, search))) (as_run (plain_arguments recorder program_isinstance_nested (value_isinstance_nested) (means_isinstance_nested) (callee.Value (v.Func (func_id 0))) [] [] []) (ap (λ args. plain_arguments recorder program_isinstance_nested (value_isinstance_nested) (means_isinstance_nested) (callee.Value (v.Func (func_id 0))) [] args.plain args.named (state_isinstance_nested None [] [] [] 0 297 [])) (out-roll-Args _)) (as_run (calls_function recorder program_isinstance_nested (means_isinstance_nested) (func_id 0) [] []) (ap (λ level. calls_value recorder program_isinstance_nested (means_isinstance_nested) level [] [] (state_isinstance_nested None [] [] [] 0 297 [])) (outs-Func _)) (as_run (inside recorder program_isinstance_nested (means_isinstance_nested) (func_id 0) function_isinstance_nested_0 []) (let same : calls_function recorder program_isinstance_nested (means_isinstance_nested) (func_id 0) [] [] (state_isinstance_nested None [] [] [] 0 297 []) ≡ inside recorder program_isinstance_nested (means_isinstance_nested) (func_id 0) function_isinstance_nested_0 [] (state_isinstance_nested None [] [] [] 0 297 []) = refl in same) (gives_same (leaves (state_isinstance_nested None [] [] [] 0 297 []).frame ((Err (Left construct.Argument)), isinstance_nested_0_at_1)) (in_frame recorder program_isinstance_nested (func_id 0) function_isinstance_nested_0 [] (Err (Left construct.Argument)) isinstance_nested_0_at_1 (then_ok (begins recorder (node 0)) _ tt (state_isinstance_nested (Some (func_id 0)) [] [] [] 1 296 (began 0 ∷ [])) (leaf refl) (then_err (means_isinstance_nested isinstance_nested_n1) _ (Left construct.Argument) isinstance_nested_0_at_1 (stmt_node recorder program_isinstance_nested isinstance_nested_n1 295 (y.outs-Return (Some isinstance_nested_n2)) refl (then_err (value_isinstance_nested isinstance_nested_n2) _ (Left construct.Argument) isinstance_nested_0_at_1 (expr_node recorder program_isinstance_nested isinstance_nested_n2 294 (x.outs-Call isinstance_nested_n3 (args (isinstance_nested_n4 ∷ isinstance_nested_n5 ∷ []) [])) refl (as_run (calls_meant recorder program_isinstance_nested (value_isinstance_nested) (means_isinstance_nested) (Some builtin.Isinstance) isinstance_nested_n3 (args (isinstance_nested_n4 ∷ isinstance_nested_n5 ∷ []) [])) (ap (λ kind. calls_expr recorder program_isinstance_nested (value_isinstance_nested) (means_isinstance_nested) kind isinstance_nested_n3 (args (isinstance_nested_n4 ∷ isinstance_nested_n5 ∷ []) []) (state_isinstance_nested (Some (func_id 0)) [] [] [] 1 294 (began 0 ∷ began 1 ∷ began 2 ∷ []))) (x.outs-Name (codes "isinstance"))) (then_ok (begins recorder (node 3)) _ tt isinstance_nested_0_at_2 (leaf refl) (as_run (plain_arguments recorder program_isinstance_nested (value_isinstance_nested) (means_isinstance_nested) (callee.Builtin builtin.Isinstance) [] (isinstance_nested_n4 ∷ isinstance_nested_n5 ∷ []) []) (ap (λ args. plain_arguments recorder program_isinstance_nested (value_isinstance_nested) (means_isinstance_nested) (callee.Builtin builtin.Isinstance) [] args.plain args.named isinstance_nested_0_at_2) (out-roll-Args _)) (then_ok (value_isinstance_nested isinstance_nested_n4) _ ((v.Int (pos 1)), (j.Plain true)) (state_isinstance_nested (Some (func_id 0)) [] [] [] 1 292 (began 0 ∷ began 1 ∷ began 2 ∷ began 3 ∷ began 4 ∷ [])) (expr_node recorder program_isinstance_nested isinstance_nested_n4 292 (x.outs-IntLit (pos 1)) refl (leaf (simp views))) (then_ok (value_isinstance_nested isinstance_nested_n5) _ ((tuple ((v.Class (Built built.Str)) ∷ (tuple ((v.Class (Built built.Int)) ∷ [])) ∷ [])), (j.Plain true)) (state_isinstance_nested (Some (func_id 0)) [] [] [] 1 285 isinstance_nested_0_seen_1) (expr_node recorder program_isinstance_nested isinstance_nested_n5 291 (x.outs-TupleLit (isinstance_nested_n6 ∷ isinstance_nested_n7 ∷ [])) refl (then_ok (value_isinstance_nested isinstance_nested_n6) _ ((v.Class (Built built.Str)), (j.Plain true)) (state_isinstance_nested (Some (func_id 0)) [] [] [] 1 290 (began 0 ∷ began 1 ∷ began 2 ∷ began 3 ∷ began 4 ∷ began 5 ∷ began 6 ∷ [])) (expr_node recorder program_isinstance_nested isinstance_nested_n6 290 (x.outs-Name (codes "str")) refl (leaf (simp views))) (then_ok (value_isinstance_nested isinstance_nested_n7) _ ((tuple ((v.Class (Built built.Int)) ∷ [])), (j.Plain true)) (state_isinstance_nested (Some (func_id 0)) [] [] [] 1 287 isinstance_nested_0_seen_1) (expr_node recorder program_isinstance_nested isinstance_nested_n7 289 (x.outs-TupleLit (isinstance_nested_n8 ∷ [])) refl (then_ok (value_isinstance_nested isinstance_nested_n8) _ ((v.Class (Built built.Int)), (j.Plain true)) (state_isinstance_nested (Some (func_id 0)) [] [] [] 1 288 isinstance_nested_0_seen_1) (expr_node recorder program_isinstance_nested isinstance_nested_n8 288 (x.outs-Name (codes "int")) refl (leaf (simp views))) (leaf (first_of (simp views, simp tuples, search))))) (leaf (first_of (simp views, simp tuples, search)))))) (leaf (first_of (simp views, simp tuples, search)))))))))))))) (refl)))))))))

abbrev value_isinstance_nested_after : Expr → Run Trail Finding
value_isinstance_nested_after = value_of recorder program_isinstance_nested_after

abbrev means_isinstance_nested_after : Stmt → Run Trail Finding
means_isinstance_nested_after = means recorder program_isinstance_nested_after

abbrev isinstance_nested_after_0_seen_1 : Trail
isinstance_nested_after_0_seen_1 = began 0 ∷ began 1 ∷ began 2 ∷ began 3 ∷ began 4 ∷ began 5 ∷ began 6 ∷ began 7 ∷ began 8 ∷ []

abbrev isinstance_nested_after_0_seen_2 : Trail
isinstance_nested_after_0_seen_2 = began 0 ∷ began 1 ∷ began 2 ∷ began 3 ∷ []

abbrev isinstance_nested_after_0_at_1 : State World Trail
isinstance_nested_after_0_at_1 = state_isinstance_nested_after (Some (func_id 0)) [] [] [] 1 284 isinstance_nested_after_0_seen_1

abbrev isinstance_nested_after_0_at_2 : State World Trail
isinstance_nested_after_0_at_2 = state_isinstance_nested_after (Some (func_id 0)) [] [] [] 1 293 isinstance_nested_after_0_seen_2

pub isinstance_nested_after_0 : Yields (means_isinstance_nested_after isinstance_nested_after_t3) (state_isinstance_nested_after None [] [] [] 0 300 []) ((Ok (v.None, (j.Plain false))), (state_isinstance_nested_after None (((codes "var_8"), (v.Bool true)) ∷ []) [] [] 0 284 isinstance_nested_after_0_seen_1))
unfolding equal ordered
isinstance_nested_after_0 =
    stmt_node recorder program_isinstance_nested_after isinstance_nested_after_t3 299 (y.outs-Assign ((target.Name (codes "var_8")) ∷ []) false None isinstance_nested_after_t2) refl (then_ok (value_isinstance_nested_after isinstance_nested_after_t2) _ ((v.Bool true), (j.Plain true)) (state_isinstance_nested_after None [] [] [] 0 284 isinstance_nested_after_0_seen_1) (expr_node recorder program_isinstance_nested_after isinstance_nested_after_t2 298 (x.outs-Method isinstance_nested_after_t1 (codes "f") (args [] [])) refl (then_ok (value_isinstance_nested_after isinstance_nested_after_t1) _ (v.ModuleRef, (j.Plain true)) (state_isinstance_nested_after None [] [] [] 0 297 []) (expr_node recorder program_isinstance_nested_after isinstance_nested_after_t1 297 (x.outs-Name (codes "module_0")) refl (leaf (simp views))) (then_ok (finds program_isinstance_nested_after v.ModuleRef (codes "f")) _ (callee.Value (v.Func (func_id 0))) (state_isinstance_nested_after None [] [] [] 0 297 []) (leaf (first_of (simp views, simp tuples, search))) (as_run (plain_arguments recorder program_isinstance_nested_after (value_isinstance_nested_after) (means_isinstance_nested_after) (callee.Value (v.Func (func_id 0))) [] [] []) (ap (λ args. plain_arguments recorder program_isinstance_nested_after (value_isinstance_nested_after) (means_isinstance_nested_after) (callee.Value (v.Func (func_id 0))) [] args.plain args.named (state_isinstance_nested_after None [] [] [] 0 297 [])) (out-roll-Args _)) (as_run (calls_function recorder program_isinstance_nested_after (means_isinstance_nested_after) (func_id 0) [] []) (ap (λ level. calls_value recorder program_isinstance_nested_after (means_isinstance_nested_after) level [] [] (state_isinstance_nested_after None [] [] [] 0 297 [])) (outs-Func _)) (as_run (inside recorder program_isinstance_nested_after (means_isinstance_nested_after) (func_id 0) function_isinstance_nested_after_0 []) (let same : calls_function recorder program_isinstance_nested_after (means_isinstance_nested_after) (func_id 0) [] [] (state_isinstance_nested_after None [] [] [] 0 297 []) ≡ inside recorder program_isinstance_nested_after (means_isinstance_nested_after) (func_id 0) function_isinstance_nested_after_0 [] (state_isinstance_nested_after None [] [] [] 0 297 []) = refl in same) (gives_same (leaves (state_isinstance_nested_after None [] [] [] 0 297 []).frame ((Err (Returned (v.Bool true))), isinstance_nested_after_0_at_1)) (in_frame recorder program_isinstance_nested_after (func_id 0) function_isinstance_nested_after_0 [] (Err (Returned (v.Bool true))) isinstance_nested_after_0_at_1 (then_ok (begins recorder (node 0)) _ tt (state_isinstance_nested_after (Some (func_id 0)) [] [] [] 1 296 (began 0 ∷ [])) (leaf refl) (then_err (means_isinstance_nested_after isinstance_nested_after_n1) _ (Returned (v.Bool true)) isinstance_nested_after_0_at_1 (stmt_node recorder program_isinstance_nested_after isinstance_nested_after_n1 295 (y.outs-Return (Some isinstance_nested_after_n2)) refl (then_ok (value_isinstance_nested_after isinstance_nested_after_n2) _ ((v.Bool true), (j.Plain true)) isinstance_nested_after_0_at_1 (expr_node recorder program_isinstance_nested_after isinstance_nested_after_n2 294 (x.outs-Call isinstance_nested_after_n3 (args (isinstance_nested_after_n4 ∷ isinstance_nested_after_n5 ∷ []) [])) refl (as_run (calls_meant recorder program_isinstance_nested_after (value_isinstance_nested_after) (means_isinstance_nested_after) (Some builtin.Isinstance) isinstance_nested_after_n3 (args (isinstance_nested_after_n4 ∷ isinstance_nested_after_n5 ∷ []) [])) (ap (λ kind. calls_expr recorder program_isinstance_nested_after (value_isinstance_nested_after) (means_isinstance_nested_after) kind isinstance_nested_after_n3 (args (isinstance_nested_after_n4 ∷ isinstance_nested_after_n5 ∷ []) []) (state_isinstance_nested_after (Some (func_id 0)) [] [] [] 1 294 (began 0 ∷ began 1 ∷ began 2 ∷ []))) (x.outs-Name (codes "isinstance"))) (then_ok (begins recorder (node 3)) _ tt isinstance_nested_after_0_at_2 (leaf refl) (as_run (plain_arguments recorder program_isinstance_nested_after (value_isinstance_nested_after) (means_isinstance_nested_after) (callee.Builtin builtin.Isinstance) [] (isinstance_nested_after_n4 ∷ isinstance_nested_after_n5 ∷ []) []) (ap (λ args. plain_arguments recorder program_isinstance_nested_after (value_isinstance_nested_after) (means_isinstance_nested_after) (callee.Builtin builtin.Isinstance) [] args.plain args.named isinstance_nested_after_0_at_2) (out-roll-Args _)) (then_ok (value_isinstance_nested_after isinstance_nested_after_n4) _ ((v.Int (pos 1)), (j.Plain true)) (state_isinstance_nested_after (Some (func_id 0)) [] [] [] 1 292 (began 0 ∷ began 1 ∷ began 2 ∷ began 3 ∷ began 4 ∷ [])) (expr_node recorder program_isinstance_nested_after isinstance_nested_after_n4 292 (x.outs-IntLit (pos 1)) refl (leaf (simp views))) (then_ok (value_isinstance_nested_after isinstance_nested_after_n5) _ ((tuple ((v.Class (Built built.Int)) ∷ (tuple ((v.Class (Built built.Str)) ∷ [])) ∷ [])), (j.Plain true)) (state_isinstance_nested_after (Some (func_id 0)) [] [] [] 1 285 isinstance_nested_after_0_seen_1) (expr_node recorder program_isinstance_nested_after isinstance_nested_after_n5 291 (x.outs-TupleLit (isinstance_nested_after_n6 ∷ isinstance_nested_after_n7 ∷ [])) refl (then_ok (value_isinstance_nested_after isinstance_nested_after_n6) _ ((v.Class (Built built.Int)), (j.Plain true)) (state_isinstance_nested_after (Some (func_id 0)) [] [] [] 1 290 (began 0 ∷ began 1 ∷ began 2 ∷ began 3 ∷ began 4 ∷ began 5 ∷ began 6 ∷ [])) (expr_node recorder program_isinstance_nested_after isinstance_nested_after_n6 290 (x.outs-Name (codes "int")) refl (leaf (simp views))) (then_ok (value_isinstance_nested_after isinstance_nested_after_n7) _ ((tuple ((v.Class (Built built.Str)) ∷ [])), (j.Plain true)) (state_isinstance_nested_after (Some (func_id 0)) [] [] [] 1 287 isinstance_nested_after_0_seen_1) (expr_node recorder program_isinstance_nested_after isinstance_nested_after_n7 289 (x.outs-TupleLit (isinstance_nested_after_n8 ∷ [])) refl (then_ok (value_isinstance_nested_after isinstance_nested_after_n8) _ ((v.Class (Built built.Str)), (j.Plain true)) (state_isinstance_nested_after (Some (func_id 0)) [] [] [] 1 288 isinstance_nested_after_0_seen_1) (expr_node recorder program_isinstance_nested_after isinstance_nested_after_n8 288 (x.outs-Name (codes "str")) refl (leaf (simp views))) (leaf (first_of (simp views, simp tuples, search))))) (leaf (first_of (simp views, simp tuples, search)))))) (leaf (first_of (simp views, simp tuples, search))))))))) (leaf refl)))))) (simp views)))))))) (leaf refl))

abbrev value_isinstance_no_class : Expr → Run Trail Finding
value_isinstance_no_class = value_of recorder program_isinstance_no_class

abbrev means_isinstance_no_class : Stmt → Run Trail Finding
means_isinstance_no_class = means recorder program_isinstance_no_class

abbrev isinstance_no_class_0_seen_1 : Trail
isinstance_no_class_0_seen_1 = began 0 ∷ began 1 ∷ began 2 ∷ began 3 ∷ began 4 ∷ began 5 ∷ began 6 ∷ began 7 ∷ []

abbrev isinstance_no_class_0_seen_2 : Trail
isinstance_no_class_0_seen_2 = began 0 ∷ began 1 ∷ began 2 ∷ began 3 ∷ []

abbrev isinstance_no_class_0_at_1 : State World Trail
isinstance_no_class_0_at_1 = state_isinstance_no_class (Some (func_id 0)) [] [] (object.Instance (Built built.TypeError) [] None ∷ []) 1 286 isinstance_no_class_0_seen_1

abbrev isinstance_no_class_0_at_2 : State World Trail
isinstance_no_class_0_at_2 = state_isinstance_no_class None [] [] (object.Instance (Built built.TypeError) [] None ∷ []) 0 286 isinstance_no_class_0_seen_1

abbrev isinstance_no_class_0_at_3 : State World Trail
isinstance_no_class_0_at_3 = state_isinstance_no_class (Some (func_id 0)) [] [] [] 1 293 isinstance_no_class_0_seen_2

pub isinstance_no_class_0 : Yields (means_isinstance_no_class isinstance_no_class_t3) (state_isinstance_no_class None [] [] [] 0 300 []) ((Err (Raised (id 0))), isinstance_no_class_0_at_2)
unfolding equal ordered
isinstance_no_class_0 =
    stmt_node recorder program_isinstance_no_class isinstance_no_class_t3 299 (y.outs-Assign ((target.Name (codes "var_8")) ∷ []) false None isinstance_no_class_t2) refl (then_err (value_isinstance_no_class isinstance_no_class_t2) _ (Raised (id 0)) isinstance_no_class_0_at_2 (expr_node recorder program_isinstance_no_class isinstance_no_class_t2 298 (x.outs-Method isinstance_no_class_t1 (codes "f") (args [] [])) refl (then_ok (value_isinstance_no_class isinstance_no_class_t1) _ (v.ModuleRef, (j.Plain true)) (state_isinstance_no_class None [] [] [] 0 297 []) (expr_node recorder program_isinstance_no_class isinstance_no_class_t1 297 (x.outs-Name (codes "module_0")) refl (leaf (simp views))) (then_ok (finds program_isinstance_no_class v.ModuleRef (codes "f")) _ (callee.Value (v.Func (func_id 0))) (state_isinstance_no_class None [] [] [] 0 297 []) (leaf (first_of (simp views, simp tuples, search))) (as_run (plain_arguments recorder program_isinstance_no_class (value_isinstance_no_class) (means_isinstance_no_class) (callee.Value (v.Func (func_id 0))) [] [] []) (ap (λ args. plain_arguments recorder program_isinstance_no_class (value_isinstance_no_class) (means_isinstance_no_class) (callee.Value (v.Func (func_id 0))) [] args.plain args.named (state_isinstance_no_class None [] [] [] 0 297 [])) (out-roll-Args _)) (as_run (calls_function recorder program_isinstance_no_class (means_isinstance_no_class) (func_id 0) [] []) (ap (λ level. calls_value recorder program_isinstance_no_class (means_isinstance_no_class) level [] [] (state_isinstance_no_class None [] [] [] 0 297 [])) (outs-Func _)) (as_run (inside recorder program_isinstance_no_class (means_isinstance_no_class) (func_id 0) function_isinstance_no_class_0 []) (let same : calls_function recorder program_isinstance_no_class (means_isinstance_no_class) (func_id 0) [] [] (state_isinstance_no_class None [] [] [] 0 297 []) ≡ inside recorder program_isinstance_no_class (means_isinstance_no_class) (func_id 0) function_isinstance_no_class_0 [] (state_isinstance_no_class None [] [] [] 0 297 []) = refl in same) (gives_same (leaves (state_isinstance_no_class None [] [] [] 0 297 []).frame ((Err (Raised (id 0))), isinstance_no_class_0_at_1)) (in_frame recorder program_isinstance_no_class (func_id 0) function_isinstance_no_class_0 [] (Err (Raised (id 0))) isinstance_no_class_0_at_1 (then_ok (begins recorder (node 0)) _ tt (state_isinstance_no_class (Some (func_id 0)) [] [] [] 1 296 (began 0 ∷ [])) (leaf refl) (then_err (means_isinstance_no_class isinstance_no_class_n1) _ (Raised (id 0)) isinstance_no_class_0_at_1 (stmt_node recorder program_isinstance_no_class isinstance_no_class_n1 295 (y.outs-Return (Some isinstance_no_class_n2)) refl (then_err (value_isinstance_no_class isinstance_no_class_n2) _ (Raised (id 0)) isinstance_no_class_0_at_1 (expr_node recorder program_isinstance_no_class isinstance_no_class_n2 294 (x.outs-Call isinstance_no_class_n3 (args (isinstance_no_class_n4 ∷ isinstance_no_class_n5 ∷ []) [])) refl (as_run (calls_meant recorder program_isinstance_no_class (value_isinstance_no_class) (means_isinstance_no_class) (Some builtin.Isinstance) isinstance_no_class_n3 (args (isinstance_no_class_n4 ∷ isinstance_no_class_n5 ∷ []) [])) (ap (λ kind. calls_expr recorder program_isinstance_no_class (value_isinstance_no_class) (means_isinstance_no_class) kind isinstance_no_class_n3 (args (isinstance_no_class_n4 ∷ isinstance_no_class_n5 ∷ []) []) (state_isinstance_no_class (Some (func_id 0)) [] [] [] 1 294 (began 0 ∷ began 1 ∷ began 2 ∷ []))) (x.outs-Name (codes "isinstance"))) (then_ok (begins recorder (node 3)) _ tt isinstance_no_class_0_at_3 (leaf refl) (as_run (plain_arguments recorder program_isinstance_no_class (value_isinstance_no_class) (means_isinstance_no_class) (callee.Builtin builtin.Isinstance) [] (isinstance_no_class_n4 ∷ isinstance_no_class_n5 ∷ []) []) (ap (λ args. plain_arguments recorder program_isinstance_no_class (value_isinstance_no_class) (means_isinstance_no_class) (callee.Builtin builtin.Isinstance) [] args.plain args.named isinstance_no_class_0_at_3) (out-roll-Args _)) (then_ok (value_isinstance_no_class isinstance_no_class_n4) _ ((v.Int (pos 1)), (j.Plain true)) (state_isinstance_no_class (Some (func_id 0)) [] [] [] 1 292 (began 0 ∷ began 1 ∷ began 2 ∷ began 3 ∷ began 4 ∷ [])) (expr_node recorder program_isinstance_no_class isinstance_no_class_n4 292 (x.outs-IntLit (pos 1)) refl (leaf (simp views))) (then_ok (value_isinstance_no_class isinstance_no_class_n5) _ ((tuple ((v.Class (Built built.Str)) ∷ (v.Int (pos 5)) ∷ [])), (j.Plain true)) (state_isinstance_no_class (Some (func_id 0)) [] [] [] 1 287 isinstance_no_class_0_seen_1) (expr_node recorder program_isinstance_no_class isinstance_no_class_n5 291 (x.outs-TupleLit (isinstance_no_class_n6 ∷ isinstance_no_class_n7 ∷ [])) refl (then_ok (value_isinstance_no_class isinstance_no_class_n6) _ ((v.Class (Built built.Str)), (j.Plain true)) (state_isinstance_no_class (Some (func_id 0)) [] [] [] 1 290 (began 0 ∷ began 1 ∷ began 2 ∷ began 3 ∷ began 4 ∷ began 5 ∷ began 6 ∷ [])) (expr_node recorder program_isinstance_no_class isinstance_no_class_n6 290 (x.outs-Name (codes "str")) refl (leaf (simp views))) (then_ok (value_isinstance_no_class isinstance_no_class_n7) _ ((v.Int (pos 5)), (j.Plain true)) (state_isinstance_no_class (Some (func_id 0)) [] [] [] 1 289 isinstance_no_class_0_seen_1) (expr_node recorder program_isinstance_no_class isinstance_no_class_n7 289 (x.outs-IntLit (pos 5)) refl (leaf (simp views))) (leaf (first_of (simp views, simp tuples, search)))))) (leaf (first_of (simp views, simp tuples, search)))))))))))))) (refl)))))))))

abbrev value_str_of_instance : Expr → Run Trail Finding
value_str_of_instance = value_of recorder program_str_of_instance

abbrev means_str_of_instance : Stmt → Run Trail Finding
means_str_of_instance = means recorder program_str_of_instance

abbrev str_of_instance_0_seen_1 : Trail
str_of_instance_0_seen_1 = began 0 ∷ began 1 ∷ began 2 ∷ began 3 ∷ began 4 ∷ began 5 ∷ []

abbrev str_of_instance_0_seen_2 : Trail
str_of_instance_0_seen_2 = began 0 ∷ began 1 ∷ began 2 ∷ began 3 ∷ []

abbrev str_of_instance_0_at_1 : State World Trail
str_of_instance_0_at_1 = state_str_of_instance (Some (func_id 0)) [] [] (object.Instance (Own 0) [] None ∷ []) 1 291 str_of_instance_0_seen_1

abbrev str_of_instance_0_at_2 : State World Trail
str_of_instance_0_at_2 = state_str_of_instance None [] [] (object.Instance (Own 0) [] None ∷ []) 0 291 str_of_instance_0_seen_1

abbrev str_of_instance_0_at_3 : State World Trail
str_of_instance_0_at_3 = state_str_of_instance (Some (func_id 0)) [] [] [] 1 293 str_of_instance_0_seen_2

abbrev str_of_instance_0_at_4 : State World Trail
str_of_instance_0_at_4 = state_str_of_instance (Some (func_id 0)) [] [] [] 1 291 str_of_instance_0_seen_1

pub str_of_instance_0 : Yields (means_str_of_instance str_of_instance_t3) (state_str_of_instance None [] [] [] 0 300 []) ((Err (Left construct.StrOf)), str_of_instance_0_at_2)
unfolding equal ordered
str_of_instance_0 =
    stmt_node recorder program_str_of_instance str_of_instance_t3 299 (y.outs-Assign ((target.Name (codes "var_8")) ∷ []) false None str_of_instance_t2) refl (then_err (value_str_of_instance str_of_instance_t2) _ (Left construct.StrOf) str_of_instance_0_at_2 (expr_node recorder program_str_of_instance str_of_instance_t2 298 (x.outs-Method str_of_instance_t1 (codes "f") (args [] [])) refl (then_ok (value_str_of_instance str_of_instance_t1) _ (v.ModuleRef, (j.Plain true)) (state_str_of_instance None [] [] [] 0 297 []) (expr_node recorder program_str_of_instance str_of_instance_t1 297 (x.outs-Name (codes "module_0")) refl (leaf (simp views))) (then_ok (finds program_str_of_instance v.ModuleRef (codes "f")) _ (callee.Value (v.Func (func_id 0))) (state_str_of_instance None [] [] [] 0 297 []) (leaf (first_of (simp views, simp tuples, search))) (as_run (plain_arguments recorder program_str_of_instance (value_str_of_instance) (means_str_of_instance) (callee.Value (v.Func (func_id 0))) [] [] []) (ap (λ args. plain_arguments recorder program_str_of_instance (value_str_of_instance) (means_str_of_instance) (callee.Value (v.Func (func_id 0))) [] args.plain args.named (state_str_of_instance None [] [] [] 0 297 [])) (out-roll-Args _)) (as_run (calls_function recorder program_str_of_instance (means_str_of_instance) (func_id 0) [] []) (ap (λ level. calls_value recorder program_str_of_instance (means_str_of_instance) level [] [] (state_str_of_instance None [] [] [] 0 297 [])) (outs-Func _)) (as_run (inside recorder program_str_of_instance (means_str_of_instance) (func_id 0) function_str_of_instance_0 []) (let same : calls_function recorder program_str_of_instance (means_str_of_instance) (func_id 0) [] [] (state_str_of_instance None [] [] [] 0 297 []) ≡ inside recorder program_str_of_instance (means_str_of_instance) (func_id 0) function_str_of_instance_0 [] (state_str_of_instance None [] [] [] 0 297 []) = refl in same) (gives_same (leaves (state_str_of_instance None [] [] [] 0 297 []).frame ((Err (Left construct.StrOf)), str_of_instance_0_at_1)) (in_frame recorder program_str_of_instance (func_id 0) function_str_of_instance_0 [] (Err (Left construct.StrOf)) str_of_instance_0_at_1 (then_ok (begins recorder (node 0)) _ tt (state_str_of_instance (Some (func_id 0)) [] [] [] 1 296 (began 0 ∷ [])) (leaf refl) (then_err (means_str_of_instance str_of_instance_n1) _ (Left construct.StrOf) str_of_instance_0_at_1 (stmt_node recorder program_str_of_instance str_of_instance_n1 295 (y.outs-Return (Some str_of_instance_n2)) refl (then_err (value_str_of_instance str_of_instance_n2) _ (Left construct.StrOf) str_of_instance_0_at_1 (expr_node recorder program_str_of_instance str_of_instance_n2 294 (x.outs-Call str_of_instance_n3 (args (str_of_instance_n4 ∷ []) [])) refl (as_run (calls_meant recorder program_str_of_instance (value_str_of_instance) (means_str_of_instance) None str_of_instance_n3 (args (str_of_instance_n4 ∷ []) [])) (ap (λ kind. calls_expr recorder program_str_of_instance (value_str_of_instance) (means_str_of_instance) kind str_of_instance_n3 (args (str_of_instance_n4 ∷ []) []) (state_str_of_instance (Some (func_id 0)) [] [] [] 1 294 (began 0 ∷ began 1 ∷ began 2 ∷ []))) (x.outs-Name (codes "str"))) (then_ok (value_str_of_instance str_of_instance_n3) _ ((v.Class (Built built.Str)), (j.Plain true)) str_of_instance_0_at_3 (expr_node recorder program_str_of_instance str_of_instance_n3 293 (x.outs-Name (codes "str")) refl (leaf (simp views))) (as_run (plain_arguments recorder program_str_of_instance (value_str_of_instance) (means_str_of_instance) (callee.Value (v.Class (Built built.Str))) [] (str_of_instance_n4 ∷ []) []) (ap (λ args. plain_arguments recorder program_str_of_instance (value_str_of_instance) (means_str_of_instance) (callee.Value (v.Class (Built built.Str))) [] args.plain args.named str_of_instance_0_at_3) (out-roll-Args _)) (then_ok (value_str_of_instance str_of_instance_n4) _ ((ref 0), (j.Plain true)) str_of_instance_0_at_1 (expr_node recorder program_str_of_instance str_of_instance_n4 292 (x.outs-Call str_of_instance_n5 (args [] [])) refl (as_run (calls_meant recorder program_str_of_instance (value_str_of_instance) (means_str_of_instance) None str_of_instance_n5 (args [] [])) (ap (λ kind. calls_expr recorder program_str_of_instance (value_str_of_instance) (means_str_of_instance) kind str_of_instance_n5 (args [] []) (state_str_of_instance (Some (func_id 0)) [] [] [] 1 292 (began 0 ∷ began 1 ∷ began 2 ∷ began 3 ∷ began 4 ∷ []))) (x.outs-Name (codes "A"))) (then_ok (value_str_of_instance str_of_instance_n5) _ ((v.Class (Own 0)), (j.Plain true)) str_of_instance_0_at_4 (expr_node recorder program_str_of_instance str_of_instance_n5 291 (x.outs-Name (codes "A")) refl (leaf (simp views))) (as_run (plain_arguments recorder program_str_of_instance (value_str_of_instance) (means_str_of_instance) (callee.Value (v.Class (Own 0))) [] [] []) (ap (λ args. plain_arguments recorder program_str_of_instance (value_str_of_instance) (means_str_of_instance) (callee.Value (v.Class (Own 0))) [] args.plain args.named str_of_instance_0_at_4) (out-roll-Args _)) (as_run (calls_class recorder program_str_of_instance (means_str_of_instance) (Own 0) [] []) (ap (λ level. calls_value recorder program_str_of_instance (means_str_of_instance) level [] [] str_of_instance_0_at_4) (outs-Class _)) (leaf (first_of (simp views, simp tuples, search)))))))) (as_run (calls_class recorder program_str_of_instance (means_str_of_instance) (Built built.Str) ((ref 0) ∷ []) []) (ap (λ level. calls_value recorder program_str_of_instance (means_str_of_instance) level ((ref 0) ∷ []) [] str_of_instance_0_at_1) (outs-Class _)) (leaf (first_of (simp views, simp tuples, search)))))))))))))) (refl)))))))))

abbrev value_str_of_key_error : Expr → Run Trail Finding
value_str_of_key_error = value_of recorder program_str_of_key_error

abbrev means_str_of_key_error : Stmt → Run Trail Finding
means_str_of_key_error = means recorder program_str_of_key_error

abbrev str_of_key_error_0_seen_1 : Trail
str_of_key_error_0_seen_1 = began 0 ∷ began 1 ∷ began 2 ∷ began 3 ∷ began 4 ∷ began 5 ∷ began 6 ∷ []

abbrev str_of_key_error_0_seen_2 : Trail
str_of_key_error_0_seen_2 = began 0 ∷ began 1 ∷ began 2 ∷ began 3 ∷ began 4 ∷ began 5 ∷ []

abbrev str_of_key_error_0_seen_3 : Trail
str_of_key_error_0_seen_3 = began 0 ∷ began 1 ∷ began 2 ∷ began 3 ∷ []

abbrev str_of_key_error_0_at_1 : State World Trail
str_of_key_error_0_at_1 = state_str_of_key_error (Some (func_id 0)) [] [] (object.Instance (Own 0) [] (Some (measured ((v.Str (codes "a")) ∷ []))) ∷ []) 1 290 str_of_key_error_0_seen_1

abbrev str_of_key_error_0_at_2 : State World Trail
str_of_key_error_0_at_2 = state_str_of_key_error None [] [] (object.Instance (Own 0) [] (Some (measured ((v.Str (codes "a")) ∷ []))) ∷ []) 0 290 str_of_key_error_0_seen_1

abbrev str_of_key_error_0_at_3 : State World Trail
str_of_key_error_0_at_3 = state_str_of_key_error (Some (func_id 0)) [] [] [] 1 293 str_of_key_error_0_seen_3

abbrev str_of_key_error_0_at_4 : State World Trail
str_of_key_error_0_at_4 = state_str_of_key_error (Some (func_id 0)) [] [] [] 1 291 str_of_key_error_0_seen_2

abbrev str_of_key_error_0_at_5 : State World Trail
str_of_key_error_0_at_5 = state_str_of_key_error (Some (func_id 0)) [] [] [] 1 290 str_of_key_error_0_seen_1

pub str_of_key_error_0 : Yields (means_str_of_key_error str_of_key_error_t3) (state_str_of_key_error None [] [] [] 0 300 []) ((Err (Left construct.StrOf)), str_of_key_error_0_at_2)
unfolding equal ordered
str_of_key_error_0 =
    stmt_node recorder program_str_of_key_error str_of_key_error_t3 299 (y.outs-Assign ((target.Name (codes "var_8")) ∷ []) false None str_of_key_error_t2) refl (then_err (value_str_of_key_error str_of_key_error_t2) _ (Left construct.StrOf) str_of_key_error_0_at_2 (expr_node recorder program_str_of_key_error str_of_key_error_t2 298 (x.outs-Method str_of_key_error_t1 (codes "f") (args [] [])) refl (then_ok (value_str_of_key_error str_of_key_error_t1) _ (v.ModuleRef, (j.Plain true)) (state_str_of_key_error None [] [] [] 0 297 []) (expr_node recorder program_str_of_key_error str_of_key_error_t1 297 (x.outs-Name (codes "module_0")) refl (leaf (simp views))) (then_ok (finds program_str_of_key_error v.ModuleRef (codes "f")) _ (callee.Value (v.Func (func_id 0))) (state_str_of_key_error None [] [] [] 0 297 []) (leaf (first_of (simp views, simp tuples, search))) (as_run (plain_arguments recorder program_str_of_key_error (value_str_of_key_error) (means_str_of_key_error) (callee.Value (v.Func (func_id 0))) [] [] []) (ap (λ args. plain_arguments recorder program_str_of_key_error (value_str_of_key_error) (means_str_of_key_error) (callee.Value (v.Func (func_id 0))) [] args.plain args.named (state_str_of_key_error None [] [] [] 0 297 [])) (out-roll-Args _)) (as_run (calls_function recorder program_str_of_key_error (means_str_of_key_error) (func_id 0) [] []) (ap (λ level. calls_value recorder program_str_of_key_error (means_str_of_key_error) level [] [] (state_str_of_key_error None [] [] [] 0 297 [])) (outs-Func _)) (as_run (inside recorder program_str_of_key_error (means_str_of_key_error) (func_id 0) function_str_of_key_error_0 []) (let same : calls_function recorder program_str_of_key_error (means_str_of_key_error) (func_id 0) [] [] (state_str_of_key_error None [] [] [] 0 297 []) ≡ inside recorder program_str_of_key_error (means_str_of_key_error) (func_id 0) function_str_of_key_error_0 [] (state_str_of_key_error None [] [] [] 0 297 []) = refl in same) (gives_same (leaves (state_str_of_key_error None [] [] [] 0 297 []).frame ((Err (Left construct.StrOf)), str_of_key_error_0_at_1)) (in_frame recorder program_str_of_key_error (func_id 0) function_str_of_key_error_0 [] (Err (Left construct.StrOf)) str_of_key_error_0_at_1 (then_ok (begins recorder (node 0)) _ tt (state_str_of_key_error (Some (func_id 0)) [] [] [] 1 296 (began 0 ∷ [])) (leaf refl) (then_err (means_str_of_key_error str_of_key_error_n1) _ (Left construct.StrOf) str_of_key_error_0_at_1 (stmt_node recorder program_str_of_key_error str_of_key_error_n1 295 (y.outs-Return (Some str_of_key_error_n2)) refl (then_err (value_str_of_key_error str_of_key_error_n2) _ (Left construct.StrOf) str_of_key_error_0_at_1 (expr_node recorder program_str_of_key_error str_of_key_error_n2 294 (x.outs-Call str_of_key_error_n3 (args (str_of_key_error_n4 ∷ []) [])) refl (as_run (calls_meant recorder program_str_of_key_error (value_str_of_key_error) (means_str_of_key_error) None str_of_key_error_n3 (args (str_of_key_error_n4 ∷ []) [])) (ap (λ kind. calls_expr recorder program_str_of_key_error (value_str_of_key_error) (means_str_of_key_error) kind str_of_key_error_n3 (args (str_of_key_error_n4 ∷ []) []) (state_str_of_key_error (Some (func_id 0)) [] [] [] 1 294 (began 0 ∷ began 1 ∷ began 2 ∷ []))) (x.outs-Name (codes "str"))) (then_ok (value_str_of_key_error str_of_key_error_n3) _ ((v.Class (Built built.Str)), (j.Plain true)) str_of_key_error_0_at_3 (expr_node recorder program_str_of_key_error str_of_key_error_n3 293 (x.outs-Name (codes "str")) refl (leaf (simp views))) (as_run (plain_arguments recorder program_str_of_key_error (value_str_of_key_error) (means_str_of_key_error) (callee.Value (v.Class (Built built.Str))) [] (str_of_key_error_n4 ∷ []) []) (ap (λ args. plain_arguments recorder program_str_of_key_error (value_str_of_key_error) (means_str_of_key_error) (callee.Value (v.Class (Built built.Str))) [] args.plain args.named str_of_key_error_0_at_3) (out-roll-Args _)) (then_ok (value_str_of_key_error str_of_key_error_n4) _ ((ref 0), (j.Plain true)) str_of_key_error_0_at_1 (expr_node recorder program_str_of_key_error str_of_key_error_n4 292 (x.outs-Call str_of_key_error_n5 (args (str_of_key_error_n6 ∷ []) [])) refl (as_run (calls_meant recorder program_str_of_key_error (value_str_of_key_error) (means_str_of_key_error) None str_of_key_error_n5 (args (str_of_key_error_n6 ∷ []) [])) (ap (λ kind. calls_expr recorder program_str_of_key_error (value_str_of_key_error) (means_str_of_key_error) kind str_of_key_error_n5 (args (str_of_key_error_n6 ∷ []) []) (state_str_of_key_error (Some (func_id 0)) [] [] [] 1 292 (began 0 ∷ began 1 ∷ began 2 ∷ began 3 ∷ began 4 ∷ []))) (x.outs-Name (codes "K"))) (then_ok (value_str_of_key_error str_of_key_error_n5) _ ((v.Class (Own 0)), (j.Plain true)) str_of_key_error_0_at_4 (expr_node recorder program_str_of_key_error str_of_key_error_n5 291 (x.outs-Name (codes "K")) refl (leaf (simp views))) (as_run (plain_arguments recorder program_str_of_key_error (value_str_of_key_error) (means_str_of_key_error) (callee.Value (v.Class (Own 0))) [] (str_of_key_error_n6 ∷ []) []) (ap (λ args. plain_arguments recorder program_str_of_key_error (value_str_of_key_error) (means_str_of_key_error) (callee.Value (v.Class (Own 0))) [] args.plain args.named str_of_key_error_0_at_4) (out-roll-Args _)) (then_ok (value_str_of_key_error str_of_key_error_n6) _ ((v.Str (codes "a")), (j.Plain true)) str_of_key_error_0_at_5 (expr_node recorder program_str_of_key_error str_of_key_error_n6 290 (x.outs-StrLit (codes "a")) refl (leaf (simp views))) (as_run (calls_class recorder program_str_of_key_error (means_str_of_key_error) (Own 0) ((v.Str (codes "a")) ∷ []) []) (ap (λ level. calls_value recorder program_str_of_key_error (means_str_of_key_error) level ((v.Str (codes "a")) ∷ []) [] str_of_key_error_0_at_5) (outs-Class _)) (leaf (first_of (simp views, simp tuples, search))))))))) (as_run (calls_class recorder program_str_of_key_error (means_str_of_key_error) (Built built.Str) ((ref 0) ∷ []) []) (ap (λ level. calls_value recorder program_str_of_key_error (means_str_of_key_error) level ((ref 0) ∷ []) [] str_of_key_error_0_at_1) (outs-Class _)) (leaf (first_of (simp views, simp tuples, search)))))))))))))) (refl)))))))))

abbrev value_object_called : Expr → Run Trail Finding
value_object_called = value_of recorder program_object_called

abbrev means_object_called : Stmt → Run Trail Finding
means_object_called = means recorder program_object_called

abbrev object_called_0_seen_1 : Trail
object_called_0_seen_1 = began 0 ∷ began 1 ∷ began 2 ∷ began 3 ∷ []

abbrev object_called_0_at_1 : State World Trail
object_called_0_at_1 = state_object_called (Some (func_id 0)) [] [] [] 1 293 object_called_0_seen_1

abbrev object_called_0_at_2 : State World Trail
object_called_0_at_2 = state_object_called None [] [] [] 0 293 object_called_0_seen_1

pub object_called_0 : Yields (means_object_called object_called_t3) (state_object_called None [] [] [] 0 300 []) ((Err (Left construct.Argument)), object_called_0_at_2)
unfolding equal ordered
object_called_0 =
    stmt_node recorder program_object_called object_called_t3 299 (y.outs-Assign ((target.Name (codes "var_8")) ∷ []) false None object_called_t2) refl (then_err (value_object_called object_called_t2) _ (Left construct.Argument) object_called_0_at_2 (expr_node recorder program_object_called object_called_t2 298 (x.outs-Method object_called_t1 (codes "f") (args [] [])) refl (then_ok (value_object_called object_called_t1) _ (v.ModuleRef, (j.Plain true)) (state_object_called None [] [] [] 0 297 []) (expr_node recorder program_object_called object_called_t1 297 (x.outs-Name (codes "module_0")) refl (leaf (simp views))) (then_ok (finds program_object_called v.ModuleRef (codes "f")) _ (callee.Value (v.Func (func_id 0))) (state_object_called None [] [] [] 0 297 []) (leaf (first_of (simp views, simp tuples, search))) (as_run (plain_arguments recorder program_object_called (value_object_called) (means_object_called) (callee.Value (v.Func (func_id 0))) [] [] []) (ap (λ args. plain_arguments recorder program_object_called (value_object_called) (means_object_called) (callee.Value (v.Func (func_id 0))) [] args.plain args.named (state_object_called None [] [] [] 0 297 [])) (out-roll-Args _)) (as_run (calls_function recorder program_object_called (means_object_called) (func_id 0) [] []) (ap (λ level. calls_value recorder program_object_called (means_object_called) level [] [] (state_object_called None [] [] [] 0 297 [])) (outs-Func _)) (as_run (inside recorder program_object_called (means_object_called) (func_id 0) function_object_called_0 []) (let same : calls_function recorder program_object_called (means_object_called) (func_id 0) [] [] (state_object_called None [] [] [] 0 297 []) ≡ inside recorder program_object_called (means_object_called) (func_id 0) function_object_called_0 [] (state_object_called None [] [] [] 0 297 []) = refl in same) (gives_same (leaves (state_object_called None [] [] [] 0 297 []).frame ((Err (Left construct.Argument)), object_called_0_at_1)) (in_frame recorder program_object_called (func_id 0) function_object_called_0 [] (Err (Left construct.Argument)) object_called_0_at_1 (then_ok (begins recorder (node 0)) _ tt (state_object_called (Some (func_id 0)) [] [] [] 1 296 (began 0 ∷ [])) (leaf refl) (then_err (means_object_called object_called_n1) _ (Left construct.Argument) object_called_0_at_1 (stmt_node recorder program_object_called object_called_n1 295 (y.outs-Return (Some object_called_n2)) refl (then_err (value_object_called object_called_n2) _ (Left construct.Argument) object_called_0_at_1 (expr_node recorder program_object_called object_called_n2 294 (x.outs-Call object_called_n3 (args [] [])) refl (as_run (calls_meant recorder program_object_called (value_object_called) (means_object_called) None object_called_n3 (args [] [])) (ap (λ kind. calls_expr recorder program_object_called (value_object_called) (means_object_called) kind object_called_n3 (args [] []) (state_object_called (Some (func_id 0)) [] [] [] 1 294 (began 0 ∷ began 1 ∷ began 2 ∷ []))) (x.outs-Name (codes "object"))) (then_ok (value_object_called object_called_n3) _ ((v.Class (Built built.Object)), (j.Plain true)) object_called_0_at_1 (expr_node recorder program_object_called object_called_n3 293 (x.outs-Name (codes "object")) refl (leaf (simp views))) (as_run (plain_arguments recorder program_object_called (value_object_called) (means_object_called) (callee.Value (v.Class (Built built.Object))) [] [] []) (ap (λ args. plain_arguments recorder program_object_called (value_object_called) (means_object_called) (callee.Value (v.Class (Built built.Object))) [] args.plain args.named object_called_0_at_1) (out-roll-Args _)) (as_run (calls_class recorder program_object_called (means_object_called) (Built built.Object) [] []) (ap (λ level. calls_value recorder program_object_called (means_object_called) level [] [] object_called_0_at_1) (outs-Class _)) (leaf (first_of (simp views, simp tuples, search))))))))))))) (refl)))))))))

abbrev value_method_leaves : Expr → Run Trail Finding
value_method_leaves = value_of recorder program_method_leaves

abbrev means_method_leaves : Stmt → Run Trail Finding
means_method_leaves = means recorder program_method_leaves

abbrev method_leaves_0_seen_1 : Trail
method_leaves_0_seen_1 = began 0 ∷ began 1 ∷ began 2 ∷ began 3 ∷ began 4 ∷ []

abbrev method_leaves_0_at_1 : State World Trail
method_leaves_0_at_1 = state_method_leaves (Some (func_id 0)) [] [] (object.List ((v.Int (pos 1)) ∷ []) ∷ []) 1 291 method_leaves_0_seen_1

abbrev method_leaves_0_at_2 : State World Trail
method_leaves_0_at_2 = state_method_leaves None [] [] (object.List ((v.Int (pos 1)) ∷ []) ∷ []) 0 291 method_leaves_0_seen_1

pub method_leaves_0 : Yields (means_method_leaves method_leaves_t3) (state_method_leaves None [] [] [] 0 300 []) ((Err (Left construct.Method)), method_leaves_0_at_2)
unfolding equal ordered
method_leaves_0 =
    stmt_node recorder program_method_leaves method_leaves_t3 299 (y.outs-Assign ((target.Name (codes "var_8")) ∷ []) false None method_leaves_t2) refl (then_err (value_method_leaves method_leaves_t2) _ (Left construct.Method) method_leaves_0_at_2 (expr_node recorder program_method_leaves method_leaves_t2 298 (x.outs-Method method_leaves_t1 (codes "f") (args [] [])) refl (then_ok (value_method_leaves method_leaves_t1) _ (v.ModuleRef, (j.Plain true)) (state_method_leaves None [] [] [] 0 297 []) (expr_node recorder program_method_leaves method_leaves_t1 297 (x.outs-Name (codes "module_0")) refl (leaf (simp views))) (then_ok (finds program_method_leaves v.ModuleRef (codes "f")) _ (callee.Value (v.Func (func_id 0))) (state_method_leaves None [] [] [] 0 297 []) (leaf (first_of (simp views, simp tuples, search))) (as_run (plain_arguments recorder program_method_leaves (value_method_leaves) (means_method_leaves) (callee.Value (v.Func (func_id 0))) [] [] []) (ap (λ args. plain_arguments recorder program_method_leaves (value_method_leaves) (means_method_leaves) (callee.Value (v.Func (func_id 0))) [] args.plain args.named (state_method_leaves None [] [] [] 0 297 [])) (out-roll-Args _)) (as_run (calls_function recorder program_method_leaves (means_method_leaves) (func_id 0) [] []) (ap (λ level. calls_value recorder program_method_leaves (means_method_leaves) level [] [] (state_method_leaves None [] [] [] 0 297 [])) (outs-Func _)) (as_run (inside recorder program_method_leaves (means_method_leaves) (func_id 0) function_method_leaves_0 []) (let same : calls_function recorder program_method_leaves (means_method_leaves) (func_id 0) [] [] (state_method_leaves None [] [] [] 0 297 []) ≡ inside recorder program_method_leaves (means_method_leaves) (func_id 0) function_method_leaves_0 [] (state_method_leaves None [] [] [] 0 297 []) = refl in same) (gives_same (leaves (state_method_leaves None [] [] [] 0 297 []).frame ((Err (Left construct.Method)), method_leaves_0_at_1)) (in_frame recorder program_method_leaves (func_id 0) function_method_leaves_0 [] (Err (Left construct.Method)) method_leaves_0_at_1 (then_ok (begins recorder (node 0)) _ tt (state_method_leaves (Some (func_id 0)) [] [] [] 1 296 (began 0 ∷ [])) (leaf refl) (then_err (means_method_leaves method_leaves_n1) _ (Left construct.Method) method_leaves_0_at_1 (stmt_node recorder program_method_leaves method_leaves_n1 295 (y.outs-Return (Some method_leaves_n2)) refl (then_err (value_method_leaves method_leaves_n2) _ (Left construct.Method) method_leaves_0_at_1 (expr_node recorder program_method_leaves method_leaves_n2 294 (x.outs-Method method_leaves_n3 (codes "sort") (args [] [])) refl (then_ok (value_method_leaves method_leaves_n3) _ ((ref 0), (j.Plain true)) method_leaves_0_at_1 (expr_node recorder program_method_leaves method_leaves_n3 293 (x.outs-ListLit (method_leaves_n4 ∷ [])) refl (then_ok (value_method_leaves method_leaves_n4) _ ((v.Int (pos 1)), (j.Plain true)) (state_method_leaves (Some (func_id 0)) [] [] [] 1 292 method_leaves_0_seen_1) (expr_node recorder program_method_leaves method_leaves_n4 292 (x.outs-IntLit (pos 1)) refl (leaf (simp views))) (leaf (first_of (simp views, simp tuples, search))))) (then_err (finds program_method_leaves (ref 0) (codes "sort")) _ (Left construct.Method) method_leaves_0_at_1 (leaf (first_of (simp views, simp tuples, search))))))))))) (refl)))))))))

abbrev value_method_missing_before_arguments : Expr → Run Trail Finding
value_method_missing_before_arguments = value_of recorder program_method_missing_before_arguments

abbrev means_method_missing_before_arguments : Stmt → Run Trail Finding
means_method_missing_before_arguments = means recorder program_method_missing_before_arguments

abbrev method_missing_before_arguments_0_seen_1 : Trail
method_missing_before_arguments_0_seen_1 = began 0 ∷ began 1 ∷ began 2 ∷ began 3 ∷ began 4 ∷ []

abbrev method_missing_before_arguments_0_at_1 : State World Trail
method_missing_before_arguments_0_at_1 = state_method_missing_before_arguments (Some (func_id 0)) [] [] (object.List ((v.Int (pos 1)) ∷ []) ∷ object.Instance (Built built.AttributeError) [] None ∷ []) 1 291 method_missing_before_arguments_0_seen_1

abbrev method_missing_before_arguments_0_at_2 : State World Trail
method_missing_before_arguments_0_at_2 = state_method_missing_before_arguments None [] [] (object.List ((v.Int (pos 1)) ∷ []) ∷ object.Instance (Built built.AttributeError) [] None ∷ []) 0 291 method_missing_before_arguments_0_seen_1

pub method_missing_before_arguments_0 : Yields (means_method_missing_before_arguments method_missing_before_arguments_t3) (state_method_missing_before_arguments None [] [] [] 0 300 []) ((Err (Raised (id 1))), method_missing_before_arguments_0_at_2)
unfolding equal ordered
method_missing_before_arguments_0 =
    stmt_node recorder program_method_missing_before_arguments method_missing_before_arguments_t3 299 (y.outs-Assign ((target.Name (codes "var_8")) ∷ []) false None method_missing_before_arguments_t2) refl (then_err (value_method_missing_before_arguments method_missing_before_arguments_t2) _ (Raised (id 1)) method_missing_before_arguments_0_at_2 (expr_node recorder program_method_missing_before_arguments method_missing_before_arguments_t2 298 (x.outs-Method method_missing_before_arguments_t1 (codes "f") (args [] [])) refl (then_ok (value_method_missing_before_arguments method_missing_before_arguments_t1) _ (v.ModuleRef, (j.Plain true)) (state_method_missing_before_arguments None [] [] [] 0 297 []) (expr_node recorder program_method_missing_before_arguments method_missing_before_arguments_t1 297 (x.outs-Name (codes "module_0")) refl (leaf (simp views))) (then_ok (finds program_method_missing_before_arguments v.ModuleRef (codes "f")) _ (callee.Value (v.Func (func_id 0))) (state_method_missing_before_arguments None [] [] [] 0 297 []) (leaf (first_of (simp views, simp tuples, search))) (as_run (plain_arguments recorder program_method_missing_before_arguments (value_method_missing_before_arguments) (means_method_missing_before_arguments) (callee.Value (v.Func (func_id 0))) [] [] []) (ap (λ args. plain_arguments recorder program_method_missing_before_arguments (value_method_missing_before_arguments) (means_method_missing_before_arguments) (callee.Value (v.Func (func_id 0))) [] args.plain args.named (state_method_missing_before_arguments None [] [] [] 0 297 [])) (out-roll-Args _)) (as_run (calls_function recorder program_method_missing_before_arguments (means_method_missing_before_arguments) (func_id 0) [] []) (ap (λ level. calls_value recorder program_method_missing_before_arguments (means_method_missing_before_arguments) level [] [] (state_method_missing_before_arguments None [] [] [] 0 297 [])) (outs-Func _)) (as_run (inside recorder program_method_missing_before_arguments (means_method_missing_before_arguments) (func_id 0) function_method_missing_before_arguments_0 []) (let same : calls_function recorder program_method_missing_before_arguments (means_method_missing_before_arguments) (func_id 0) [] [] (state_method_missing_before_arguments None [] [] [] 0 297 []) ≡ inside recorder program_method_missing_before_arguments (means_method_missing_before_arguments) (func_id 0) function_method_missing_before_arguments_0 [] (state_method_missing_before_arguments None [] [] [] 0 297 []) = refl in same) (gives_same (leaves (state_method_missing_before_arguments None [] [] [] 0 297 []).frame ((Err (Raised (id 1))), method_missing_before_arguments_0_at_1)) (in_frame recorder program_method_missing_before_arguments (func_id 0) function_method_missing_before_arguments_0 [] (Err (Raised (id 1))) method_missing_before_arguments_0_at_1 (then_ok (begins recorder (node 0)) _ tt (state_method_missing_before_arguments (Some (func_id 0)) [] [] [] 1 296 (began 0 ∷ [])) (leaf refl) (then_err (means_method_missing_before_arguments method_missing_before_arguments_n1) _ (Raised (id 1)) method_missing_before_arguments_0_at_1 (stmt_node recorder program_method_missing_before_arguments method_missing_before_arguments_n1 295 (y.outs-Return (Some method_missing_before_arguments_n2)) refl (then_err (value_method_missing_before_arguments method_missing_before_arguments_n2) _ (Raised (id 1)) method_missing_before_arguments_0_at_1 (expr_node recorder program_method_missing_before_arguments method_missing_before_arguments_n2 294 (x.outs-Method method_missing_before_arguments_n3 (codes "foo") (args (method_missing_before_arguments_n5 ∷ []) [])) refl (then_ok (value_method_missing_before_arguments method_missing_before_arguments_n3) _ ((ref 0), (j.Plain true)) (state_method_missing_before_arguments (Some (func_id 0)) [] [] (object.List ((v.Int (pos 1)) ∷ []) ∷ []) 1 291 method_missing_before_arguments_0_seen_1) (expr_node recorder program_method_missing_before_arguments method_missing_before_arguments_n3 293 (x.outs-ListLit (method_missing_before_arguments_n4 ∷ [])) refl (then_ok (value_method_missing_before_arguments method_missing_before_arguments_n4) _ ((v.Int (pos 1)), (j.Plain true)) (state_method_missing_before_arguments (Some (func_id 0)) [] [] [] 1 292 method_missing_before_arguments_0_seen_1) (expr_node recorder program_method_missing_before_arguments method_missing_before_arguments_n4 292 (x.outs-IntLit (pos 1)) refl (leaf (simp views))) (leaf (first_of (simp views, simp tuples, search))))) (then_err (finds program_method_missing_before_arguments (ref 0) (codes "foo")) _ (Raised (id 1)) method_missing_before_arguments_0_at_1 (leaf (first_of (simp views, simp tuples, search))))))))))) (refl)))))))))

abbrev value_method_not_called : Expr → Run Trail Finding
value_method_not_called = value_of recorder program_method_not_called

abbrev means_method_not_called : Stmt → Run Trail Finding
means_method_not_called = means recorder program_method_not_called

abbrev method_not_called_0_seen_1 : Trail
method_not_called_0_seen_1 = began 0 ∷ began 1 ∷ began 2 ∷ began 3 ∷ began 4 ∷ []

abbrev method_not_called_0_at_1 : State World Trail
method_not_called_0_at_1 = state_method_not_called (Some (func_id 0)) [] [] (object.List ((v.Int (pos 1)) ∷ []) ∷ []) 1 291 method_not_called_0_seen_1

abbrev method_not_called_0_at_2 : State World Trail
method_not_called_0_at_2 = state_method_not_called None [] [] (object.List ((v.Int (pos 1)) ∷ []) ∷ []) 0 291 method_not_called_0_seen_1

pub method_not_called_0 : Yields (means_method_not_called method_not_called_t3) (state_method_not_called None [] [] [] 0 300 []) ((Err (Left construct.MethodValue)), method_not_called_0_at_2)
unfolding equal ordered
method_not_called_0 =
    stmt_node recorder program_method_not_called method_not_called_t3 299 (y.outs-Assign ((target.Name (codes "var_8")) ∷ []) false None method_not_called_t2) refl (then_err (value_method_not_called method_not_called_t2) _ (Left construct.MethodValue) method_not_called_0_at_2 (expr_node recorder program_method_not_called method_not_called_t2 298 (x.outs-Method method_not_called_t1 (codes "f") (args [] [])) refl (then_ok (value_method_not_called method_not_called_t1) _ (v.ModuleRef, (j.Plain true)) (state_method_not_called None [] [] [] 0 297 []) (expr_node recorder program_method_not_called method_not_called_t1 297 (x.outs-Name (codes "module_0")) refl (leaf (simp views))) (then_ok (finds program_method_not_called v.ModuleRef (codes "f")) _ (callee.Value (v.Func (func_id 0))) (state_method_not_called None [] [] [] 0 297 []) (leaf (first_of (simp views, simp tuples, search))) (as_run (plain_arguments recorder program_method_not_called (value_method_not_called) (means_method_not_called) (callee.Value (v.Func (func_id 0))) [] [] []) (ap (λ args. plain_arguments recorder program_method_not_called (value_method_not_called) (means_method_not_called) (callee.Value (v.Func (func_id 0))) [] args.plain args.named (state_method_not_called None [] [] [] 0 297 [])) (out-roll-Args _)) (as_run (calls_function recorder program_method_not_called (means_method_not_called) (func_id 0) [] []) (ap (λ level. calls_value recorder program_method_not_called (means_method_not_called) level [] [] (state_method_not_called None [] [] [] 0 297 [])) (outs-Func _)) (as_run (inside recorder program_method_not_called (means_method_not_called) (func_id 0) function_method_not_called_0 []) (let same : calls_function recorder program_method_not_called (means_method_not_called) (func_id 0) [] [] (state_method_not_called None [] [] [] 0 297 []) ≡ inside recorder program_method_not_called (means_method_not_called) (func_id 0) function_method_not_called_0 [] (state_method_not_called None [] [] [] 0 297 []) = refl in same) (gives_same (leaves (state_method_not_called None [] [] [] 0 297 []).frame ((Err (Left construct.MethodValue)), method_not_called_0_at_1)) (in_frame recorder program_method_not_called (func_id 0) function_method_not_called_0 [] (Err (Left construct.MethodValue)) method_not_called_0_at_1 (then_ok (begins recorder (node 0)) _ tt (state_method_not_called (Some (func_id 0)) [] [] [] 1 296 (began 0 ∷ [])) (leaf refl) (then_err (means_method_not_called method_not_called_n1) _ (Left construct.MethodValue) method_not_called_0_at_1 (stmt_node recorder program_method_not_called method_not_called_n1 295 (y.outs-Return (Some method_not_called_n2)) refl (then_err (value_method_not_called method_not_called_n2) _ (Left construct.MethodValue) method_not_called_0_at_1 (expr_node recorder program_method_not_called method_not_called_n2 294 (x.outs-Attr method_not_called_n3 (codes "append")) refl (then_ok (value_method_not_called method_not_called_n3) _ ((ref 0), (j.Plain true)) method_not_called_0_at_1 (expr_node recorder program_method_not_called method_not_called_n3 293 (x.outs-ListLit (method_not_called_n4 ∷ [])) refl (then_ok (value_method_not_called method_not_called_n4) _ ((v.Int (pos 1)), (j.Plain true)) (state_method_not_called (Some (func_id 0)) [] [] [] 1 292 method_not_called_0_seen_1) (expr_node recorder program_method_not_called method_not_called_n4 292 (x.outs-IntLit (pos 1)) refl (leaf (simp views))) (leaf (first_of (simp views, simp tuples, search))))) (then_ok (finds program_method_not_called (ref 0) (codes "append")) _ (callee.Method (ref 0) (codes "append")) method_not_called_0_at_1 (leaf (first_of (simp views, simp tuples, search))) (leaf (first_of (simp views, simp tuples, search))))))))))) (refl)))))))))
