-- Derivations of the worked examples of assignments (7.2): each is a tree of the run, from rules of `Yields`.
use Rattle.py_meaning.specs.Equal.{equal}
use Rattle.py_meaning.specs.Examples.{id, ref}
use Rattle.py_meaning.specs.Folds.{tuple-out, key_cost-Tuple, key_cost-out, as_key-Tuple, as_key-out, same_key-Tuple, same_key-out}
use Rattle.py_meaning.specs.Less.{ordered}
use Rattle.py_meaning.specs.Tuples.{tuple, measured}
use Rattle.py_meaning.specs.Worlds.{World}
use Rattle.py_meaning.specs.declared.builtin.Builtin.TheVariants as builtin
use Rattle.py_meaning.specs.declared.object.Object.TheVariants as object
use Rattle.py_meaning.specs.declared.value.Value.TheVariants as v
use Rattle.py_meaning.specs.declared.value.Value.TheVariants.{outs-None, outs-Bool, outs-Int, outs-Str, outs-Tuple, outs-Ref, outs-Class, outs-Func, outs-View, outs-ModuleRef}
use Rattle.py_plain.proofs.Yields.{Yields, leaf, as_run, gives_same, then_ok, then_err, stmt_node, expr_node, in_frame}
use Rattle.py_plain.specs.Attributes.{finds}
use Rattle.py_plain.specs.Calls.{leaves, inside, calls_function, calls_value}
use Rattle.py_plain.specs.Examples.{node, args, func_id, began}
use Rattle.py_plain.specs.ExamplesAssignments.{aliasing_n3, aliasing_n2, aliasing_n1, aliasing_n6, aliasing_n7, aliasing_n5, aliasing_n4, aliasing_t1, aliasing_t2, aliasing_t3, aliasing_t4, aliasing_t5, aliasing_t6, function_aliasing_0, program_aliasing, state_aliasing, tuple_too_many_n3, tuple_too_many_n4, tuple_too_many_n5, tuple_too_many_n2, tuple_too_many_n1, tuple_too_many_t1, tuple_too_many_t2, tuple_too_many_t3, function_tuple_too_many_0, program_tuple_too_many, state_tuple_too_many, tuple_too_few_n3, tuple_too_few_n4, tuple_too_few_n2, tuple_too_few_n1, tuple_too_few_t1, tuple_too_few_t2, tuple_too_few_t3, function_tuple_too_few_0, program_tuple_too_few, state_tuple_too_few, value_before_target_n2, value_before_target_n1, value_before_target_n5, value_before_target_n6, value_before_target_n10, value_before_target_n9, value_before_target_n4, value_before_target_t1, value_before_target_t2, value_before_target_t3, value_before_target_t4, value_before_target_t5, function_value_before_target_0, function_value_before_target_1, program_value_before_target, state_value_before_target, augment_item_once_n2, augment_item_once_n1, augment_item_once_n6, augment_item_once_n7, augment_item_once_n5, augment_item_once_n4, augment_item_once_n9, augment_item_once_n11, augment_item_once_n10, augment_item_once_n12, augment_item_once_n8, augment_item_once_n14, augment_item_once_n13, augment_item_once_t1, augment_item_once_t2, augment_item_once_t3, function_augment_item_once_0, function_augment_item_once_1, program_augment_item_once, state_augment_item_once, augment_list_in_tuple_n4, augment_list_in_tuple_n3, augment_list_in_tuple_n5, augment_list_in_tuple_n2, augment_list_in_tuple_n1, augment_list_in_tuple_n7, augment_list_in_tuple_n8, augment_list_in_tuple_n10, augment_list_in_tuple_n9, augment_list_in_tuple_n6, augment_list_in_tuple_t1, augment_list_in_tuple_t2, augment_list_in_tuple_t3, function_augment_list_in_tuple_0, program_augment_list_in_tuple, state_augment_list_in_tuple, augment_unbound_n2, augment_unbound_n1, augment_unbound_t1, augment_unbound_t2, augment_unbound_t3, function_augment_unbound_0, program_augment_unbound, state_augment_unbound}
use Rattle.py_plain.specs.Expressions.{plain_arguments, calls_meant, calls_expr}
use Rattle.py_plain.specs.Names.{reads}
use Rattle.py_plain.specs.Operators.{augments, gets_item}
use Rattle.py_plain.specs.Runs.{begins, Run, Finding}
use Rattle.py_plain.specs.Statements.{means, value_of}
use Rattle.py_plain.specs.Tests.{recorder, Trail}
use Rattle.py_plain.specs.declared.judged.Judged.TheVariants as j
use Rattle.py_plain.specs.declared.run.Abrupt.TheVariants.{Raised, Returned}
use Rattle.py_plain.specs.declared.run.Callee.TheVariants as callee
use Rattle.py_plain.specs.declared.state.State.{State}
use Rattle.py_syntax.specs.declared.expr.Args.{out-roll-Args}
use Rattle.py_syntax.specs.declared.expr.Expr.{Expr}
use Rattle.py_syntax.specs.declared.expr.ExprKind.TheVariants as x
use Rattle.py_syntax.specs.declared.operator.BinOp.TheVariants.{Add}
use Rattle.py_syntax.specs.declared.stmt.Stmt.{Stmt}
use Rattle.py_syntax.specs.declared.stmt.StmtKind.TheVariants as y
use Rattle.py_syntax.specs.declared.stmt.Target.TheVariants as target
use Rattle.pyn_base.specs.declared.class.BuiltClass.TheVariants as built
use Rattle.pyn_base.specs.declared.class.ClassId.TheVariants.{Built}
use Rattle.std.proofs.Common.{◌≡◌, refl, ap}
use Rattle.std.specs.Prelude.{pos, true, false, [], ◌∷◌, Some, None, Ok, Err, codes}

ruleset views = (tuple-out, outs-None, outs-Bool, outs-Int, outs-Str, outs-Tuple, outs-Ref, outs-Class, outs-Func, outs-View, outs-ModuleRef)

ruleset tuples = (tuple-out, outs-None, outs-Bool, outs-Int, outs-Str, outs-Tuple, outs-Ref, outs-Class, outs-Func, outs-View, outs-ModuleRef, key_cost-Tuple, key_cost-out, as_key-Tuple, as_key-out, same_key-Tuple, same_key-out)

abbrev value_aliasing : Expr → Run Trail Finding
value_aliasing = value_of recorder program_aliasing

abbrev means_aliasing : Stmt → Run Trail Finding
means_aliasing = means recorder program_aliasing

pub aliasing_0 : Yields (means_aliasing aliasing_t2) (state_aliasing None [] [] [] 0 300 []) ((Ok (v.None, (j.Plain false))), (state_aliasing None (((codes "var_0"), (ref 0)) ∷ []) [] (object.List [] ∷ []) 0 298 []))
unfolding equal ordered
aliasing_0 =
    stmt_node recorder program_aliasing aliasing_t2 299 (y.outs-Assign ((target.Name (codes "var_0")) ∷ []) false None aliasing_t1) refl (then_ok (value_aliasing aliasing_t1) _ ((ref 0), (j.Plain false)) (state_aliasing None [] [] (object.List [] ∷ []) 0 298 []) (expr_node recorder program_aliasing aliasing_t1 298 (x.outs-ListLit []) refl (leaf (first_of (simp views, simp tuples, search)))) (leaf refl))

abbrev aliasing_1_seen_1 : Trail
aliasing_1_seen_1 = began 0 ∷ began 1 ∷ began 2 ∷ began 3 ∷ began 4 ∷ began 5 ∷ began 6 ∷ began 7 ∷ []

abbrev aliasing_1_seen_2 : Trail
aliasing_1_seen_2 = began 0 ∷ began 1 ∷ began 2 ∷ began 3 ∷ began 4 ∷ began 5 ∷ began 6 ∷ []

abbrev aliasing_1_seen_3 : Trail
aliasing_1_seen_3 = began 0 ∷ began 1 ∷ began 2 ∷ began 3 ∷ []

abbrev aliasing_1_at_1 : State World Trail
aliasing_1_at_1 = state_aliasing (Some (func_id 0)) (((codes "a"), (ref 0)) ∷ ((codes "b"), (ref 0)) ∷ []) [] (object.List ((v.Int (pos 1)) ∷ []) ∷ object.List ((v.Int (pos 1)) ∷ []) ∷ []) 1 285 aliasing_1_seen_1

abbrev aliasing_1_at_2 : State World Trail
aliasing_1_at_2 = state_aliasing (Some (func_id 0)) (((codes "a"), (ref 0)) ∷ ((codes "b"), (ref 0)) ∷ []) [] (object.List ((v.Int (pos 1)) ∷ []) ∷ object.List ((v.Int (pos 1)) ∷ []) ∷ []) 1 289 aliasing_1_seen_3

abbrev aliasing_1_at_3 : State World Trail
aliasing_1_at_3 = state_aliasing (Some (func_id 0)) (((codes "a"), (ref 0)) ∷ ((codes "b"), (ref 0)) ∷ []) [] (object.List ((v.Int (pos 1)) ∷ []) ∷ object.List ((v.Int (pos 1)) ∷ []) ∷ []) 1 286 aliasing_1_seen_2

abbrev aliasing_1_at_4 : State World Trail
aliasing_1_at_4 = state_aliasing None (((codes "var_0"), (ref 0)) ∷ []) [] (object.List [] ∷ []) 0 297 []

abbrev aliasing_1_at_5 : State World Trail
aliasing_1_at_5 = state_aliasing None (((codes "var_0"), (ref 0)) ∷ []) [] (object.List [] ∷ []) 0 295 []

pub aliasing_1 : Yields (means_aliasing aliasing_t6) (state_aliasing None (((codes "var_0"), (ref 0)) ∷ []) [] (object.List [] ∷ []) 0 300 []) ((Ok (v.None, (j.Plain false))), (state_aliasing None (((codes "var_0"), (ref 0)) ∷ ((codes "var_8"), (v.Int (pos 1))) ∷ []) [] (object.List ((v.Int (pos 1)) ∷ []) ∷ object.List ((v.Int (pos 1)) ∷ []) ∷ []) 0 285 aliasing_1_seen_1))
unfolding equal ordered
aliasing_1 =
    stmt_node recorder program_aliasing aliasing_t6 299 (y.outs-Assign ((target.Name (codes "var_8")) ∷ []) false None aliasing_t5) refl (then_ok (value_aliasing aliasing_t5) _ ((v.Int (pos 1)), (j.Plain true)) (state_aliasing None (((codes "var_0"), (ref 0)) ∷ []) [] (object.List ((v.Int (pos 1)) ∷ []) ∷ object.List ((v.Int (pos 1)) ∷ []) ∷ []) 0 285 aliasing_1_seen_1) (expr_node recorder program_aliasing aliasing_t5 298 (x.outs-Method aliasing_t3 (codes "f") (args (aliasing_t4 ∷ aliasing_t4 ∷ []) [])) refl (then_ok (value_aliasing aliasing_t3) _ (v.ModuleRef, (j.Plain true)) aliasing_1_at_4 (expr_node recorder program_aliasing aliasing_t3 297 (x.outs-Name (codes "module_0")) refl (leaf (simp views))) (then_ok (finds program_aliasing v.ModuleRef (codes "f")) _ (callee.Value (v.Func (func_id 0))) aliasing_1_at_4 (leaf (first_of (simp views, simp tuples, search))) (as_run (plain_arguments recorder program_aliasing (value_aliasing) (means_aliasing) (callee.Value (v.Func (func_id 0))) [] (aliasing_t4 ∷ aliasing_t4 ∷ []) []) (ap (λ args. plain_arguments recorder program_aliasing (value_aliasing) (means_aliasing) (callee.Value (v.Func (func_id 0))) [] args.plain args.named aliasing_1_at_4) (out-roll-Args _)) (then_ok (value_aliasing aliasing_t4) _ ((ref 0), (j.Plain false)) (state_aliasing None (((codes "var_0"), (ref 0)) ∷ []) [] (object.List [] ∷ []) 0 296 []) (expr_node recorder program_aliasing aliasing_t4 296 (x.outs-Name (codes "var_0")) refl (leaf (simp views))) (then_ok (value_aliasing aliasing_t4) _ ((ref 0), (j.Plain false)) aliasing_1_at_5 (expr_node recorder program_aliasing aliasing_t4 295 (x.outs-Name (codes "var_0")) refl (leaf (simp views))) (as_run (calls_function recorder program_aliasing (means_aliasing) (func_id 0) ((ref 0) ∷ (ref 0) ∷ []) []) (ap (λ level. calls_value recorder program_aliasing (means_aliasing) level ((ref 0) ∷ (ref 0) ∷ []) [] aliasing_1_at_5) (outs-Func _)) (as_run (inside recorder program_aliasing (means_aliasing) (func_id 0) function_aliasing_0 (((codes "a"), (ref 0)) ∷ ((codes "b"), (ref 0)) ∷ [])) (let same : calls_function recorder program_aliasing (means_aliasing) (func_id 0) ((ref 0) ∷ (ref 0) ∷ []) [] aliasing_1_at_5 ≡ inside recorder program_aliasing (means_aliasing) (func_id 0) function_aliasing_0 (((codes "a"), (ref 0)) ∷ ((codes "b"), (ref 0)) ∷ []) aliasing_1_at_5 = refl in same) (gives_same (leaves aliasing_1_at_5.frame ((Err (Returned (v.Int (pos 1)))), aliasing_1_at_1)) (in_frame recorder program_aliasing (func_id 0) function_aliasing_0 (((codes "a"), (ref 0)) ∷ ((codes "b"), (ref 0)) ∷ []) (Err (Returned (v.Int (pos 1)))) aliasing_1_at_1 (then_ok (begins recorder (node 0)) _ tt (state_aliasing (Some (func_id 0)) (((codes "a"), (ref 0)) ∷ ((codes "b"), (ref 0)) ∷ []) [] (object.List [] ∷ []) 1 294 (began 0 ∷ [])) (leaf refl) (then_ok (means_aliasing aliasing_n1) _ (v.None, (j.Plain false)) aliasing_1_at_2 (stmt_node recorder program_aliasing aliasing_n1 293 (y.outs-Augment (target.Name (codes "a")) Add aliasing_n2) refl (then_ok (reads program_aliasing (codes "a")) _ ((ref 0), (j.Plain false)) (state_aliasing (Some (func_id 0)) (((codes "a"), (ref 0)) ∷ ((codes "b"), (ref 0)) ∷ []) [] (object.List [] ∷ []) 1 293 (began 0 ∷ began 1 ∷ [])) (leaf (first_of (simp views, simp tuples, search))) (then_ok (value_aliasing aliasing_n2) _ ((ref 1), (j.Plain true)) (state_aliasing (Some (func_id 0)) (((codes "a"), (ref 0)) ∷ ((codes "b"), (ref 0)) ∷ []) [] (object.List [] ∷ object.List ((v.Int (pos 1)) ∷ []) ∷ []) 1 290 aliasing_1_seen_3) (expr_node recorder program_aliasing aliasing_n2 292 (x.outs-ListLit (aliasing_n3 ∷ [])) refl (then_ok (value_aliasing aliasing_n3) _ ((v.Int (pos 1)), (j.Plain true)) (state_aliasing (Some (func_id 0)) (((codes "a"), (ref 0)) ∷ ((codes "b"), (ref 0)) ∷ []) [] (object.List [] ∷ []) 1 291 aliasing_1_seen_3) (expr_node recorder program_aliasing aliasing_n3 291 (x.outs-IntLit (pos 1)) refl (leaf (simp views))) (leaf (first_of (simp views, simp tuples, search))))) (then_ok (augments Add (ref 0) (ref 1)) _ ((ref 0), (j.Plain true)) aliasing_1_at_2 (leaf (first_of (simp views, simp tuples, search))) (leaf refl))))) (then_err (means_aliasing aliasing_n4) _ (Returned (v.Int (pos 1))) aliasing_1_at_1 (stmt_node recorder program_aliasing aliasing_n4 288 (y.outs-Return (Some aliasing_n5)) refl (then_ok (value_aliasing aliasing_n5) _ ((v.Int (pos 1)), (j.Plain true)) aliasing_1_at_1 (expr_node recorder program_aliasing aliasing_n5 287 (x.outs-Call aliasing_n6 (args (aliasing_n7 ∷ []) [])) refl (as_run (calls_meant recorder program_aliasing (value_aliasing) (means_aliasing) (Some builtin.Len) aliasing_n6 (args (aliasing_n7 ∷ []) [])) (ap (λ kind. calls_expr recorder program_aliasing (value_aliasing) (means_aliasing) kind aliasing_n6 (args (aliasing_n7 ∷ []) []) (state_aliasing (Some (func_id 0)) (((codes "a"), (ref 0)) ∷ ((codes "b"), (ref 0)) ∷ []) [] (object.List ((v.Int (pos 1)) ∷ []) ∷ object.List ((v.Int (pos 1)) ∷ []) ∷ []) 1 287 (began 0 ∷ began 1 ∷ began 2 ∷ began 3 ∷ began 4 ∷ began 5 ∷ []))) (x.outs-Name (codes "len"))) (then_ok (begins recorder (node 6)) _ tt aliasing_1_at_3 (leaf refl) (as_run (plain_arguments recorder program_aliasing (value_aliasing) (means_aliasing) (callee.Builtin builtin.Len) [] (aliasing_n7 ∷ []) []) (ap (λ args. plain_arguments recorder program_aliasing (value_aliasing) (means_aliasing) (callee.Builtin builtin.Len) [] args.plain args.named aliasing_1_at_3) (out-roll-Args _)) (then_ok (value_aliasing aliasing_n7) _ ((ref 0), (j.Plain true)) aliasing_1_at_1 (expr_node recorder program_aliasing aliasing_n7 285 (x.outs-Name (codes "b")) refl (leaf (simp views))) (leaf (first_of (simp views, simp tuples, search)))))))) (leaf refl))))))) (simp views)))))))))) (leaf refl))

abbrev value_tuple_too_many : Expr → Run Trail Finding
value_tuple_too_many = value_of recorder program_tuple_too_many

abbrev means_tuple_too_many : Stmt → Run Trail Finding
means_tuple_too_many = means recorder program_tuple_too_many

abbrev tuple_too_many_0_seen_1 : Trail
tuple_too_many_0_seen_1 = began 0 ∷ began 1 ∷ began 2 ∷ began 3 ∷ began 4 ∷ began 5 ∷ []

abbrev tuple_too_many_0_at_1 : State World Trail
tuple_too_many_0_at_1 = state_tuple_too_many (Some (func_id 0)) [] [] (object.List ((v.Int (pos 1)) ∷ (v.Int (pos 2)) ∷ (v.Int (pos 3)) ∷ []) ∷ object.Instance (Built built.ValueError) [] None ∷ []) 1 285 tuple_too_many_0_seen_1

abbrev tuple_too_many_0_at_2 : State World Trail
tuple_too_many_0_at_2 = state_tuple_too_many None [] [] (object.List ((v.Int (pos 1)) ∷ (v.Int (pos 2)) ∷ (v.Int (pos 3)) ∷ []) ∷ object.Instance (Built built.ValueError) [] None ∷ []) 0 285 tuple_too_many_0_seen_1

pub tuple_too_many_0 : Yields (means_tuple_too_many tuple_too_many_t3) (state_tuple_too_many None [] [] [] 0 300 []) ((Err (Raised (id 1))), tuple_too_many_0_at_2)
unfolding equal ordered
tuple_too_many_0 =
    stmt_node recorder program_tuple_too_many tuple_too_many_t3 299 (y.outs-Assign ((target.Name (codes "var_8")) ∷ []) false None tuple_too_many_t2) refl (then_err (value_tuple_too_many tuple_too_many_t2) _ (Raised (id 1)) tuple_too_many_0_at_2 (expr_node recorder program_tuple_too_many tuple_too_many_t2 298 (x.outs-Method tuple_too_many_t1 (codes "f") (args [] [])) refl (then_ok (value_tuple_too_many tuple_too_many_t1) _ (v.ModuleRef, (j.Plain true)) (state_tuple_too_many None [] [] [] 0 297 []) (expr_node recorder program_tuple_too_many tuple_too_many_t1 297 (x.outs-Name (codes "module_0")) refl (leaf (simp views))) (then_ok (finds program_tuple_too_many v.ModuleRef (codes "f")) _ (callee.Value (v.Func (func_id 0))) (state_tuple_too_many None [] [] [] 0 297 []) (leaf (first_of (simp views, simp tuples, search))) (as_run (plain_arguments recorder program_tuple_too_many (value_tuple_too_many) (means_tuple_too_many) (callee.Value (v.Func (func_id 0))) [] [] []) (ap (λ args. plain_arguments recorder program_tuple_too_many (value_tuple_too_many) (means_tuple_too_many) (callee.Value (v.Func (func_id 0))) [] args.plain args.named (state_tuple_too_many None [] [] [] 0 297 [])) (out-roll-Args _)) (as_run (calls_function recorder program_tuple_too_many (means_tuple_too_many) (func_id 0) [] []) (ap (λ level. calls_value recorder program_tuple_too_many (means_tuple_too_many) level [] [] (state_tuple_too_many None [] [] [] 0 297 [])) (outs-Func _)) (as_run (inside recorder program_tuple_too_many (means_tuple_too_many) (func_id 0) function_tuple_too_many_0 []) (let same : calls_function recorder program_tuple_too_many (means_tuple_too_many) (func_id 0) [] [] (state_tuple_too_many None [] [] [] 0 297 []) ≡ inside recorder program_tuple_too_many (means_tuple_too_many) (func_id 0) function_tuple_too_many_0 [] (state_tuple_too_many None [] [] [] 0 297 []) = refl in same) (gives_same (leaves (state_tuple_too_many None [] [] [] 0 297 []).frame ((Err (Raised (id 1))), tuple_too_many_0_at_1)) (in_frame recorder program_tuple_too_many (func_id 0) function_tuple_too_many_0 [] (Err (Raised (id 1))) tuple_too_many_0_at_1 (then_ok (begins recorder (node 0)) _ tt (state_tuple_too_many (Some (func_id 0)) [] [] [] 1 296 (began 0 ∷ [])) (leaf refl) (then_err (means_tuple_too_many tuple_too_many_n1) _ (Raised (id 1)) tuple_too_many_0_at_1 (stmt_node recorder program_tuple_too_many tuple_too_many_n1 295 (y.outs-Assign ((target.Name (codes "a")) ∷ (target.Name (codes "b")) ∷ []) true None tuple_too_many_n2) refl (then_ok (value_tuple_too_many tuple_too_many_n2) _ ((ref 0), (j.Plain true)) (state_tuple_too_many (Some (func_id 0)) [] [] (object.List ((v.Int (pos 1)) ∷ (v.Int (pos 2)) ∷ (v.Int (pos 3)) ∷ []) ∷ []) 1 288 tuple_too_many_0_seen_1) (expr_node recorder program_tuple_too_many tuple_too_many_n2 294 (x.outs-ListLit (tuple_too_many_n3 ∷ tuple_too_many_n4 ∷ tuple_too_many_n5 ∷ [])) refl (then_ok (value_tuple_too_many tuple_too_many_n3) _ ((v.Int (pos 1)), (j.Plain true)) (state_tuple_too_many (Some (func_id 0)) [] [] [] 1 293 (began 0 ∷ began 1 ∷ began 2 ∷ began 3 ∷ [])) (expr_node recorder program_tuple_too_many tuple_too_many_n3 293 (x.outs-IntLit (pos 1)) refl (leaf (simp views))) (then_ok (value_tuple_too_many tuple_too_many_n4) _ ((v.Int (pos 2)), (j.Plain true)) (state_tuple_too_many (Some (func_id 0)) [] [] [] 1 292 (began 0 ∷ began 1 ∷ began 2 ∷ began 3 ∷ began 4 ∷ [])) (expr_node recorder program_tuple_too_many tuple_too_many_n4 292 (x.outs-IntLit (pos 2)) refl (leaf (simp views))) (then_ok (value_tuple_too_many tuple_too_many_n5) _ ((v.Int (pos 3)), (j.Plain true)) (state_tuple_too_many (Some (func_id 0)) [] [] [] 1 291 tuple_too_many_0_seen_1) (expr_node recorder program_tuple_too_many tuple_too_many_n5 291 (x.outs-IntLit (pos 3)) refl (leaf (simp views))) (leaf (first_of (simp views, simp tuples, search))))))) (leaf (simp views))))))) (refl)))))))))

abbrev value_tuple_too_few : Expr → Run Trail Finding
value_tuple_too_few = value_of recorder program_tuple_too_few

abbrev means_tuple_too_few : Stmt → Run Trail Finding
means_tuple_too_few = means recorder program_tuple_too_few

abbrev tuple_too_few_0_seen_1 : Trail
tuple_too_few_0_seen_1 = began 0 ∷ began 1 ∷ began 2 ∷ began 3 ∷ began 4 ∷ []

abbrev tuple_too_few_0_at_1 : State World Trail
tuple_too_few_0_at_1 = state_tuple_too_few (Some (func_id 0)) [] [] (object.Instance (Built built.ValueError) [] None ∷ []) 1 288 tuple_too_few_0_seen_1

abbrev tuple_too_few_0_at_2 : State World Trail
tuple_too_few_0_at_2 = state_tuple_too_few None [] [] (object.Instance (Built built.ValueError) [] None ∷ []) 0 288 tuple_too_few_0_seen_1

pub tuple_too_few_0 : Yields (means_tuple_too_few tuple_too_few_t3) (state_tuple_too_few None [] [] [] 0 300 []) ((Err (Raised (id 0))), tuple_too_few_0_at_2)
unfolding equal ordered
tuple_too_few_0 =
    stmt_node recorder program_tuple_too_few tuple_too_few_t3 299 (y.outs-Assign ((target.Name (codes "var_8")) ∷ []) false None tuple_too_few_t2) refl (then_err (value_tuple_too_few tuple_too_few_t2) _ (Raised (id 0)) tuple_too_few_0_at_2 (expr_node recorder program_tuple_too_few tuple_too_few_t2 298 (x.outs-Method tuple_too_few_t1 (codes "f") (args [] [])) refl (then_ok (value_tuple_too_few tuple_too_few_t1) _ (v.ModuleRef, (j.Plain true)) (state_tuple_too_few None [] [] [] 0 297 []) (expr_node recorder program_tuple_too_few tuple_too_few_t1 297 (x.outs-Name (codes "module_0")) refl (leaf (simp views))) (then_ok (finds program_tuple_too_few v.ModuleRef (codes "f")) _ (callee.Value (v.Func (func_id 0))) (state_tuple_too_few None [] [] [] 0 297 []) (leaf (first_of (simp views, simp tuples, search))) (as_run (plain_arguments recorder program_tuple_too_few (value_tuple_too_few) (means_tuple_too_few) (callee.Value (v.Func (func_id 0))) [] [] []) (ap (λ args. plain_arguments recorder program_tuple_too_few (value_tuple_too_few) (means_tuple_too_few) (callee.Value (v.Func (func_id 0))) [] args.plain args.named (state_tuple_too_few None [] [] [] 0 297 [])) (out-roll-Args _)) (as_run (calls_function recorder program_tuple_too_few (means_tuple_too_few) (func_id 0) [] []) (ap (λ level. calls_value recorder program_tuple_too_few (means_tuple_too_few) level [] [] (state_tuple_too_few None [] [] [] 0 297 [])) (outs-Func _)) (as_run (inside recorder program_tuple_too_few (means_tuple_too_few) (func_id 0) function_tuple_too_few_0 []) (let same : calls_function recorder program_tuple_too_few (means_tuple_too_few) (func_id 0) [] [] (state_tuple_too_few None [] [] [] 0 297 []) ≡ inside recorder program_tuple_too_few (means_tuple_too_few) (func_id 0) function_tuple_too_few_0 [] (state_tuple_too_few None [] [] [] 0 297 []) = refl in same) (gives_same (leaves (state_tuple_too_few None [] [] [] 0 297 []).frame ((Err (Raised (id 0))), tuple_too_few_0_at_1)) (in_frame recorder program_tuple_too_few (func_id 0) function_tuple_too_few_0 [] (Err (Raised (id 0))) tuple_too_few_0_at_1 (then_ok (begins recorder (node 0)) _ tt (state_tuple_too_few (Some (func_id 0)) [] [] [] 1 296 (began 0 ∷ [])) (leaf refl) (then_err (means_tuple_too_few tuple_too_few_n1) _ (Raised (id 0)) tuple_too_few_0_at_1 (stmt_node recorder program_tuple_too_few tuple_too_few_n1 295 (y.outs-Assign ((target.Name (codes "a")) ∷ (target.Name (codes "b")) ∷ (target.Name (codes "c")) ∷ []) true None tuple_too_few_n2) refl (then_ok (value_tuple_too_few tuple_too_few_n2) _ ((tuple ((v.Int (pos 1)) ∷ (v.Int (pos 2)) ∷ [])), (j.Plain true)) (state_tuple_too_few (Some (func_id 0)) [] [] [] 1 290 tuple_too_few_0_seen_1) (expr_node recorder program_tuple_too_few tuple_too_few_n2 294 (x.outs-TupleLit (tuple_too_few_n3 ∷ tuple_too_few_n4 ∷ [])) refl (then_ok (value_tuple_too_few tuple_too_few_n3) _ ((v.Int (pos 1)), (j.Plain true)) (state_tuple_too_few (Some (func_id 0)) [] [] [] 1 293 (began 0 ∷ began 1 ∷ began 2 ∷ began 3 ∷ [])) (expr_node recorder program_tuple_too_few tuple_too_few_n3 293 (x.outs-IntLit (pos 1)) refl (leaf (simp views))) (then_ok (value_tuple_too_few tuple_too_few_n4) _ ((v.Int (pos 2)), (j.Plain true)) (state_tuple_too_few (Some (func_id 0)) [] [] [] 1 292 tuple_too_few_0_seen_1) (expr_node recorder program_tuple_too_few tuple_too_few_n4 292 (x.outs-IntLit (pos 2)) refl (leaf (simp views))) (leaf (first_of (simp views, simp tuples, search)))))) (leaf (simp views))))))) (refl)))))))))

abbrev value_value_before_target : Expr → Run Trail Finding
value_value_before_target = value_of recorder program_value_before_target

abbrev means_value_before_target : Stmt → Run Trail Finding
means_value_before_target = means recorder program_value_before_target

abbrev value_before_target_0_seen_1 : Trail
value_before_target_0_seen_1 = began 3 ∷ began 4 ∷ began 9 ∷ began 10 ∷ began 0 ∷ began 1 ∷ began 2 ∷ []

abbrev value_before_target_0_seen_2 : Trail
value_before_target_0_seen_2 = began 3 ∷ began 4 ∷ began 9 ∷ began 10 ∷ []

abbrev value_before_target_0_at_1 : State World Trail
value_before_target_0_at_1 = state_value_before_target (Some (func_id 1)) (((codes "a"), (ref 0)) ∷ []) [] (object.List ((v.Int (pos 1)) ∷ []) ∷ object.Instance (Built built.ValueError) [] (Some (measured [])) ∷ []) 1 287 value_before_target_0_seen_1

abbrev value_before_target_0_at_2 : State World Trail
value_before_target_0_at_2 = state_value_before_target (Some (func_id 0)) [] [] (object.List ((v.Int (pos 1)) ∷ []) ∷ object.Instance (Built built.ValueError) [] (Some (measured [])) ∷ []) 2 287 value_before_target_0_seen_1

abbrev value_before_target_0_at_3 : State World Trail
value_before_target_0_at_3 = state_value_before_target None [] [] (object.List ((v.Int (pos 1)) ∷ []) ∷ object.Instance (Built built.ValueError) [] (Some (measured [])) ∷ []) 0 287 value_before_target_0_seen_1

abbrev value_before_target_0_at_4 : State World Trail
value_before_target_0_at_4 = state_value_before_target (Some (func_id 1)) (((codes "a"), (ref 0)) ∷ []) [] (object.List ((v.Int (pos 1)) ∷ []) ∷ []) 1 290 value_before_target_0_seen_2

abbrev value_before_target_0_at_5 : State World Trail
value_before_target_0_at_5 = state_value_before_target None [] [] (object.List ((v.Int (pos 1)) ∷ []) ∷ []) 0 294 []

pub value_before_target_0 : Yields (means_value_before_target value_before_target_t5) (state_value_before_target None [] [] [] 0 300 []) ((Err (Raised (id 1))), value_before_target_0_at_3)
unfolding equal ordered
value_before_target_0 =
    stmt_node recorder program_value_before_target value_before_target_t5 299 (y.outs-Assign ((target.Name (codes "var_8")) ∷ []) false None value_before_target_t4) refl (then_err (value_value_before_target value_before_target_t4) _ (Raised (id 1)) value_before_target_0_at_3 (expr_node recorder program_value_before_target value_before_target_t4 298 (x.outs-Method value_before_target_t1 (codes "f") (args (value_before_target_t3 ∷ []) [])) refl (then_ok (value_value_before_target value_before_target_t1) _ (v.ModuleRef, (j.Plain true)) (state_value_before_target None [] [] [] 0 297 []) (expr_node recorder program_value_before_target value_before_target_t1 297 (x.outs-Name (codes "module_0")) refl (leaf (simp views))) (then_ok (finds program_value_before_target v.ModuleRef (codes "f")) _ (callee.Value (v.Func (func_id 1))) (state_value_before_target None [] [] [] 0 297 []) (leaf (first_of (simp views, simp tuples, search))) (as_run (plain_arguments recorder program_value_before_target (value_value_before_target) (means_value_before_target) (callee.Value (v.Func (func_id 1))) [] (value_before_target_t3 ∷ []) []) (ap (λ args. plain_arguments recorder program_value_before_target (value_value_before_target) (means_value_before_target) (callee.Value (v.Func (func_id 1))) [] args.plain args.named (state_value_before_target None [] [] [] 0 297 [])) (out-roll-Args _)) (then_ok (value_value_before_target value_before_target_t3) _ ((ref 0), (j.Plain true)) value_before_target_0_at_5 (expr_node recorder program_value_before_target value_before_target_t3 296 (x.outs-ListLit (value_before_target_t2 ∷ [])) refl (then_ok (value_value_before_target value_before_target_t2) _ ((v.Int (pos 1)), (j.Plain true)) (state_value_before_target None [] [] [] 0 295 []) (expr_node recorder program_value_before_target value_before_target_t2 295 (x.outs-IntLit (pos 1)) refl (leaf (simp views))) (leaf (first_of (simp views, simp tuples, search))))) (as_run (calls_function recorder program_value_before_target (means_value_before_target) (func_id 1) ((ref 0) ∷ []) []) (ap (λ level. calls_value recorder program_value_before_target (means_value_before_target) level ((ref 0) ∷ []) [] value_before_target_0_at_5) (outs-Func _)) (as_run (inside recorder program_value_before_target (means_value_before_target) (func_id 1) function_value_before_target_1 (((codes "a"), (ref 0)) ∷ [])) (let same : calls_function recorder program_value_before_target (means_value_before_target) (func_id 1) ((ref 0) ∷ []) [] value_before_target_0_at_5 ≡ inside recorder program_value_before_target (means_value_before_target) (func_id 1) function_value_before_target_1 (((codes "a"), (ref 0)) ∷ []) value_before_target_0_at_5 = refl in same) (gives_same (leaves value_before_target_0_at_5.frame ((Err (Raised (id 1))), value_before_target_0_at_1)) (in_frame recorder program_value_before_target (func_id 1) function_value_before_target_1 (((codes "a"), (ref 0)) ∷ []) (Err (Raised (id 1))) value_before_target_0_at_1 (then_ok (begins recorder (node 3)) _ tt (state_value_before_target (Some (func_id 1)) (((codes "a"), (ref 0)) ∷ []) [] (object.List ((v.Int (pos 1)) ∷ []) ∷ []) 1 293 (began 3 ∷ [])) (leaf refl) (then_err (means_value_before_target value_before_target_n4) _ (Raised (id 1)) value_before_target_0_at_1 (stmt_node recorder program_value_before_target value_before_target_n4 292 (y.outs-Assign ((target.Index value_before_target_n5 value_before_target_n6) ∷ []) false None value_before_target_n9) refl (then_err (value_value_before_target value_before_target_n9) _ (Raised (id 1)) value_before_target_0_at_1 (expr_node recorder program_value_before_target value_before_target_n9 291 (x.outs-Call value_before_target_n10 (args [] [])) refl (as_run (calls_meant recorder program_value_before_target (value_value_before_target) (means_value_before_target) None value_before_target_n10 (args [] [])) (ap (λ kind. calls_expr recorder program_value_before_target (value_value_before_target) (means_value_before_target) kind value_before_target_n10 (args [] []) (state_value_before_target (Some (func_id 1)) (((codes "a"), (ref 0)) ∷ []) [] (object.List ((v.Int (pos 1)) ∷ []) ∷ []) 1 291 (began 3 ∷ began 4 ∷ began 9 ∷ []))) (x.outs-Name (codes "g"))) (then_ok (value_value_before_target value_before_target_n10) _ ((v.Func (func_id 0)), (j.Plain true)) value_before_target_0_at_4 (expr_node recorder program_value_before_target value_before_target_n10 290 (x.outs-Name (codes "g")) refl (leaf (simp views))) (as_run (plain_arguments recorder program_value_before_target (value_value_before_target) (means_value_before_target) (callee.Value (v.Func (func_id 0))) [] [] []) (ap (λ args. plain_arguments recorder program_value_before_target (value_value_before_target) (means_value_before_target) (callee.Value (v.Func (func_id 0))) [] args.plain args.named value_before_target_0_at_4) (out-roll-Args _)) (as_run (calls_function recorder program_value_before_target (means_value_before_target) (func_id 0) [] []) (ap (λ level. calls_value recorder program_value_before_target (means_value_before_target) level [] [] value_before_target_0_at_4) (outs-Func _)) (as_run (inside recorder program_value_before_target (means_value_before_target) (func_id 0) function_value_before_target_0 []) (let same : calls_function recorder program_value_before_target (means_value_before_target) (func_id 0) [] [] value_before_target_0_at_4 ≡ inside recorder program_value_before_target (means_value_before_target) (func_id 0) function_value_before_target_0 [] value_before_target_0_at_4 = refl in same) (gives_same (leaves value_before_target_0_at_4.frame ((Err (Raised (id 1))), value_before_target_0_at_2)) (in_frame recorder program_value_before_target (func_id 0) function_value_before_target_0 [] (Err (Raised (id 1))) value_before_target_0_at_2 (then_ok (begins recorder (node 0)) _ tt (state_value_before_target (Some (func_id 0)) [] [] (object.List ((v.Int (pos 1)) ∷ []) ∷ []) 2 289 (began 3 ∷ began 4 ∷ began 9 ∷ began 10 ∷ began 0 ∷ [])) (leaf refl) (then_err (means_value_before_target value_before_target_n1) _ (Raised (id 1)) value_before_target_0_at_2 (stmt_node recorder program_value_before_target value_before_target_n1 288 (y.outs-Raise (Some value_before_target_n2)) refl (then_ok (value_value_before_target value_before_target_n2) _ ((v.Class (Built built.ValueError)), (j.Plain true)) (state_value_before_target (Some (func_id 0)) [] [] (object.List ((v.Int (pos 1)) ∷ []) ∷ []) 2 287 value_before_target_0_seen_1) (expr_node recorder program_value_before_target value_before_target_n2 287 (x.outs-Name (codes "ValueError")) refl (leaf (simp views))) (leaf (first_of (simp views, simp tuples, search)))))))) (refl))))))))))))) (refl))))))))))

abbrev value_augment_item_once : Expr → Run Trail Finding
value_augment_item_once = value_of recorder program_augment_item_once

abbrev means_augment_item_once : Stmt → Run Trail Finding
means_augment_item_once = means recorder program_augment_item_once

abbrev augment_item_once_0_seen_1 : Trail
augment_item_once_0_seen_1 = began 3 ∷ began 4 ∷ began 5 ∷ began 6 ∷ began 7 ∷ began 8 ∷ began 9 ∷ began 10 ∷ began 11 ∷ began 0 ∷ began 1 ∷ began 2 ∷ began 12 ∷ began 13 ∷ began 14 ∷ []

abbrev augment_item_once_0_seen_2 : Trail
augment_item_once_0_seen_2 = began 3 ∷ began 4 ∷ began 5 ∷ began 6 ∷ began 7 ∷ began 8 ∷ began 9 ∷ began 10 ∷ began 11 ∷ began 0 ∷ began 1 ∷ began 2 ∷ began 12 ∷ []

abbrev augment_item_once_0_seen_3 : Trail
augment_item_once_0_seen_3 = began 3 ∷ began 4 ∷ began 5 ∷ began 6 ∷ began 7 ∷ began 8 ∷ began 9 ∷ began 10 ∷ began 11 ∷ began 0 ∷ began 1 ∷ began 2 ∷ []

abbrev augment_item_once_0_seen_4 : Trail
augment_item_once_0_seen_4 = began 3 ∷ began 4 ∷ began 5 ∷ began 6 ∷ began 7 ∷ began 8 ∷ began 9 ∷ began 10 ∷ began 11 ∷ []

abbrev augment_item_once_0_seen_5 : Trail
augment_item_once_0_seen_5 = began 3 ∷ began 4 ∷ began 5 ∷ began 6 ∷ began 7 ∷ []

abbrev augment_item_once_0_at_1 : State World Trail
augment_item_once_0_at_1 = state_augment_item_once (Some (func_id 1)) (((codes "a"), (ref 0)) ∷ []) [] (object.List ((v.Int (pos 1)) ∷ (v.Int (pos 7)) ∷ []) ∷ []) 1 280 augment_item_once_0_seen_1

abbrev augment_item_once_0_at_2 : State World Trail
augment_item_once_0_at_2 = state_augment_item_once (Some (func_id 1)) (((codes "a"), (ref 0)) ∷ []) [] (object.List ((v.Int (pos 1)) ∷ (v.Int (pos 2)) ∷ []) ∷ []) 1 283 augment_item_once_0_seen_3

abbrev augment_item_once_0_at_3 : State World Trail
augment_item_once_0_at_3 = state_augment_item_once (Some (func_id 1)) (((codes "a"), (ref 0)) ∷ []) [] (object.List ((v.Int (pos 1)) ∷ (v.Int (pos 2)) ∷ []) ∷ []) 1 286 augment_item_once_0_seen_4

abbrev augment_item_once_0_at_4 : State World Trail
augment_item_once_0_at_4 = state_augment_item_once (Some (func_id 1)) (((codes "a"), (ref 0)) ∷ []) [] (object.List ((v.Int (pos 1)) ∷ (v.Int (pos 2)) ∷ []) ∷ []) 1 282 augment_item_once_0_seen_2

abbrev augment_item_once_0_at_5 : State World Trail
augment_item_once_0_at_5 = state_augment_item_once (Some (func_id 0)) [] [] (object.List ((v.Int (pos 1)) ∷ (v.Int (pos 2)) ∷ []) ∷ []) 2 283 augment_item_once_0_seen_3

pub augment_item_once_0 : Yields (means_augment_item_once augment_item_once_t3) (state_augment_item_once None [] [] [] 0 300 []) ((Ok (v.None, (j.Plain false))), (state_augment_item_once None (((codes "var_8"), (ref 0)) ∷ []) [] (object.List ((v.Int (pos 1)) ∷ (v.Int (pos 7)) ∷ []) ∷ []) 0 280 augment_item_once_0_seen_1))
unfolding equal ordered
augment_item_once_0 =
    stmt_node recorder program_augment_item_once augment_item_once_t3 299 (y.outs-Assign ((target.Name (codes "var_8")) ∷ []) false None augment_item_once_t2) refl (then_ok (value_augment_item_once augment_item_once_t2) _ ((ref 0), (j.Plain true)) (state_augment_item_once None [] [] (object.List ((v.Int (pos 1)) ∷ (v.Int (pos 7)) ∷ []) ∷ []) 0 280 augment_item_once_0_seen_1) (expr_node recorder program_augment_item_once augment_item_once_t2 298 (x.outs-Method augment_item_once_t1 (codes "f") (args [] [])) refl (then_ok (value_augment_item_once augment_item_once_t1) _ (v.ModuleRef, (j.Plain true)) (state_augment_item_once None [] [] [] 0 297 []) (expr_node recorder program_augment_item_once augment_item_once_t1 297 (x.outs-Name (codes "module_0")) refl (leaf (simp views))) (then_ok (finds program_augment_item_once v.ModuleRef (codes "f")) _ (callee.Value (v.Func (func_id 1))) (state_augment_item_once None [] [] [] 0 297 []) (leaf (first_of (simp views, simp tuples, search))) (as_run (plain_arguments recorder program_augment_item_once (value_augment_item_once) (means_augment_item_once) (callee.Value (v.Func (func_id 1))) [] [] []) (ap (λ args. plain_arguments recorder program_augment_item_once (value_augment_item_once) (means_augment_item_once) (callee.Value (v.Func (func_id 1))) [] args.plain args.named (state_augment_item_once None [] [] [] 0 297 [])) (out-roll-Args _)) (as_run (calls_function recorder program_augment_item_once (means_augment_item_once) (func_id 1) [] []) (ap (λ level. calls_value recorder program_augment_item_once (means_augment_item_once) level [] [] (state_augment_item_once None [] [] [] 0 297 [])) (outs-Func _)) (as_run (inside recorder program_augment_item_once (means_augment_item_once) (func_id 1) function_augment_item_once_1 []) (let same : calls_function recorder program_augment_item_once (means_augment_item_once) (func_id 1) [] [] (state_augment_item_once None [] [] [] 0 297 []) ≡ inside recorder program_augment_item_once (means_augment_item_once) (func_id 1) function_augment_item_once_1 [] (state_augment_item_once None [] [] [] 0 297 []) = refl in same) (gives_same (leaves (state_augment_item_once None [] [] [] 0 297 []).frame ((Err (Returned (ref 0))), augment_item_once_0_at_1)) (in_frame recorder program_augment_item_once (func_id 1) function_augment_item_once_1 [] (Err (Returned (ref 0))) augment_item_once_0_at_1 (then_ok (begins recorder (node 3)) _ tt (state_augment_item_once (Some (func_id 1)) [] [] [] 1 296 (began 3 ∷ [])) (leaf refl) (then_ok (means_augment_item_once augment_item_once_n4) _ (v.None, (j.Plain false)) (state_augment_item_once (Some (func_id 1)) (((codes "a"), (ref 0)) ∷ []) [] (object.List ((v.Int (pos 1)) ∷ (v.Int (pos 2)) ∷ []) ∷ []) 1 290 augment_item_once_0_seen_5) (stmt_node recorder program_augment_item_once augment_item_once_n4 295 (y.outs-Assign ((target.Name (codes "a")) ∷ []) false None augment_item_once_n5) refl (then_ok (value_augment_item_once augment_item_once_n5) _ ((ref 0), (j.Plain true)) (state_augment_item_once (Some (func_id 1)) [] [] (object.List ((v.Int (pos 1)) ∷ (v.Int (pos 2)) ∷ []) ∷ []) 1 290 augment_item_once_0_seen_5) (expr_node recorder program_augment_item_once augment_item_once_n5 294 (x.outs-ListLit (augment_item_once_n6 ∷ augment_item_once_n7 ∷ [])) refl (then_ok (value_augment_item_once augment_item_once_n6) _ ((v.Int (pos 1)), (j.Plain true)) (state_augment_item_once (Some (func_id 1)) [] [] [] 1 293 (began 3 ∷ began 4 ∷ began 5 ∷ began 6 ∷ [])) (expr_node recorder program_augment_item_once augment_item_once_n6 293 (x.outs-IntLit (pos 1)) refl (leaf (simp views))) (then_ok (value_augment_item_once augment_item_once_n7) _ ((v.Int (pos 2)), (j.Plain true)) (state_augment_item_once (Some (func_id 1)) [] [] [] 1 292 augment_item_once_0_seen_5) (expr_node recorder program_augment_item_once augment_item_once_n7 292 (x.outs-IntLit (pos 2)) refl (leaf (simp views))) (leaf (first_of (simp views, simp tuples, search)))))) (leaf refl))) (then_ok (means_augment_item_once augment_item_once_n8) _ (v.None, (j.Plain false)) (state_augment_item_once (Some (func_id 1)) (((codes "a"), (ref 0)) ∷ []) [] (object.List ((v.Int (pos 1)) ∷ (v.Int (pos 7)) ∷ []) ∷ []) 1 282 augment_item_once_0_seen_2) (stmt_node recorder program_augment_item_once augment_item_once_n8 289 (y.outs-Augment (target.Index augment_item_once_n9 augment_item_once_n10) Add augment_item_once_n12) refl (then_ok (value_augment_item_once augment_item_once_n9) _ ((ref 0), (j.Plain true)) (state_augment_item_once (Some (func_id 1)) (((codes "a"), (ref 0)) ∷ []) [] (object.List ((v.Int (pos 1)) ∷ (v.Int (pos 2)) ∷ []) ∷ []) 1 288 (began 3 ∷ began 4 ∷ began 5 ∷ began 6 ∷ began 7 ∷ began 8 ∷ began 9 ∷ [])) (expr_node recorder program_augment_item_once augment_item_once_n9 288 (x.outs-Name (codes "a")) refl (leaf (simp views))) (then_ok (value_augment_item_once augment_item_once_n10) _ ((v.Int (pos 1)), (j.Plain true)) augment_item_once_0_at_2 (expr_node recorder program_augment_item_once augment_item_once_n10 287 (x.outs-Call augment_item_once_n11 (args [] [])) refl (as_run (calls_meant recorder program_augment_item_once (value_augment_item_once) (means_augment_item_once) None augment_item_once_n11 (args [] [])) (ap (λ kind. calls_expr recorder program_augment_item_once (value_augment_item_once) (means_augment_item_once) kind augment_item_once_n11 (args [] []) (state_augment_item_once (Some (func_id 1)) (((codes "a"), (ref 0)) ∷ []) [] (object.List ((v.Int (pos 1)) ∷ (v.Int (pos 2)) ∷ []) ∷ []) 1 287 (began 3 ∷ began 4 ∷ began 5 ∷ began 6 ∷ began 7 ∷ began 8 ∷ began 9 ∷ began 10 ∷ []))) (x.outs-Name (codes "g"))) (then_ok (value_augment_item_once augment_item_once_n11) _ ((v.Func (func_id 0)), (j.Plain true)) augment_item_once_0_at_3 (expr_node recorder program_augment_item_once augment_item_once_n11 286 (x.outs-Name (codes "g")) refl (leaf (simp views))) (as_run (plain_arguments recorder program_augment_item_once (value_augment_item_once) (means_augment_item_once) (callee.Value (v.Func (func_id 0))) [] [] []) (ap (λ args. plain_arguments recorder program_augment_item_once (value_augment_item_once) (means_augment_item_once) (callee.Value (v.Func (func_id 0))) [] args.plain args.named augment_item_once_0_at_3) (out-roll-Args _)) (as_run (calls_function recorder program_augment_item_once (means_augment_item_once) (func_id 0) [] []) (ap (λ level. calls_value recorder program_augment_item_once (means_augment_item_once) level [] [] augment_item_once_0_at_3) (outs-Func _)) (as_run (inside recorder program_augment_item_once (means_augment_item_once) (func_id 0) function_augment_item_once_0 []) (let same : calls_function recorder program_augment_item_once (means_augment_item_once) (func_id 0) [] [] augment_item_once_0_at_3 ≡ inside recorder program_augment_item_once (means_augment_item_once) (func_id 0) function_augment_item_once_0 [] augment_item_once_0_at_3 = refl in same) (gives_same (leaves augment_item_once_0_at_3.frame ((Err (Returned (v.Int (pos 1)))), augment_item_once_0_at_5)) (in_frame recorder program_augment_item_once (func_id 0) function_augment_item_once_0 [] (Err (Returned (v.Int (pos 1)))) augment_item_once_0_at_5 (then_ok (begins recorder (node 0)) _ tt (state_augment_item_once (Some (func_id 0)) [] [] (object.List ((v.Int (pos 1)) ∷ (v.Int (pos 2)) ∷ []) ∷ []) 2 285 (began 3 ∷ began 4 ∷ began 5 ∷ began 6 ∷ began 7 ∷ began 8 ∷ began 9 ∷ began 10 ∷ began 11 ∷ began 0 ∷ [])) (leaf refl) (then_err (means_augment_item_once augment_item_once_n1) _ (Returned (v.Int (pos 1))) augment_item_once_0_at_5 (stmt_node recorder program_augment_item_once augment_item_once_n1 284 (y.outs-Return (Some augment_item_once_n2)) refl (then_ok (value_augment_item_once augment_item_once_n2) _ ((v.Int (pos 1)), (j.Plain true)) augment_item_once_0_at_5 (expr_node recorder program_augment_item_once augment_item_once_n2 283 (x.outs-IntLit (pos 1)) refl (leaf (simp views))) (leaf refl)))))) (simp views)))))))) (then_ok (gets_item (ref 0) (v.Int (pos 1))) _ ((v.Int (pos 2)), (j.Plain true)) augment_item_once_0_at_2 (leaf (first_of (simp views, simp tuples, search))) (then_ok (value_augment_item_once augment_item_once_n12) _ ((v.Int (pos 5)), (j.Plain true)) augment_item_once_0_at_4 (expr_node recorder program_augment_item_once augment_item_once_n12 282 (x.outs-IntLit (pos 5)) refl (leaf (simp views))) (then_ok (augments Add (v.Int (pos 2)) (v.Int (pos 5))) _ ((v.Int (pos 7)), (j.Plain true)) augment_item_once_0_at_4 (leaf (first_of (simp views, simp tuples, search))) (leaf (first_of (simp views, simp tuples, search))))))))) (then_err (means_augment_item_once augment_item_once_n13) _ (Returned (ref 0)) augment_item_once_0_at_1 (stmt_node recorder program_augment_item_once augment_item_once_n13 281 (y.outs-Return (Some augment_item_once_n14)) refl (then_ok (value_augment_item_once augment_item_once_n14) _ ((ref 0), (j.Plain true)) augment_item_once_0_at_1 (expr_node recorder program_augment_item_once augment_item_once_n14 280 (x.outs-Name (codes "a")) refl (leaf (simp views))) (leaf refl)))))))) (simp views)))))))) (leaf refl))

abbrev value_augment_list_in_tuple : Expr → Run Trail Finding
value_augment_list_in_tuple = value_of recorder program_augment_list_in_tuple

abbrev means_augment_list_in_tuple : Stmt → Run Trail Finding
means_augment_list_in_tuple = means recorder program_augment_list_in_tuple

abbrev augment_list_in_tuple_0_seen_1 : Trail
augment_list_in_tuple_0_seen_1 = began 0 ∷ began 1 ∷ began 2 ∷ began 3 ∷ began 4 ∷ began 5 ∷ began 6 ∷ began 7 ∷ began 8 ∷ began 9 ∷ began 10 ∷ []

abbrev augment_list_in_tuple_0_seen_2 : Trail
augment_list_in_tuple_0_seen_2 = began 0 ∷ began 1 ∷ began 2 ∷ began 3 ∷ began 4 ∷ began 5 ∷ began 6 ∷ began 7 ∷ began 8 ∷ []

abbrev augment_list_in_tuple_0_seen_3 : Trail
augment_list_in_tuple_0_seen_3 = began 0 ∷ began 1 ∷ began 2 ∷ began 3 ∷ began 4 ∷ began 5 ∷ []

abbrev augment_list_in_tuple_0_seen_4 : Trail
augment_list_in_tuple_0_seen_4 = began 0 ∷ began 1 ∷ began 2 ∷ began 3 ∷ began 4 ∷ []

abbrev augment_list_in_tuple_0_at_1 : State World Trail
augment_list_in_tuple_0_at_1 = state_augment_list_in_tuple (Some (func_id 0)) (((codes "t"), (tuple ((ref 0) ∷ (v.Int (pos 2)) ∷ []))) ∷ []) [] (object.List ((v.Int (pos 1)) ∷ (v.Int (pos 5)) ∷ []) ∷ object.List ((v.Int (pos 5)) ∷ []) ∷ object.Instance (Built built.TypeError) [] None ∷ []) 1 281 augment_list_in_tuple_0_seen_1

abbrev augment_list_in_tuple_0_at_2 : State World Trail
augment_list_in_tuple_0_at_2 = state_augment_list_in_tuple None [] [] (object.List ((v.Int (pos 1)) ∷ (v.Int (pos 5)) ∷ []) ∷ object.List ((v.Int (pos 5)) ∷ []) ∷ object.Instance (Built built.TypeError) [] None ∷ []) 0 281 augment_list_in_tuple_0_seen_1

abbrev augment_list_in_tuple_0_at_3 : State World Trail
augment_list_in_tuple_0_at_3 = state_augment_list_in_tuple (Some (func_id 0)) (((codes "t"), (tuple ((ref 0) ∷ (v.Int (pos 2)) ∷ []))) ∷ []) [] (object.List ((v.Int (pos 1)) ∷ []) ∷ []) 1 285 augment_list_in_tuple_0_seen_2

pub augment_list_in_tuple_0 : Yields (means_augment_list_in_tuple augment_list_in_tuple_t3) (state_augment_list_in_tuple None [] [] [] 0 300 []) ((Err (Raised (id 2))), augment_list_in_tuple_0_at_2)
unfolding equal ordered
augment_list_in_tuple_0 =
    stmt_node recorder program_augment_list_in_tuple augment_list_in_tuple_t3 299 (y.outs-Assign ((target.Name (codes "var_8")) ∷ []) false None augment_list_in_tuple_t2) refl (then_err (value_augment_list_in_tuple augment_list_in_tuple_t2) _ (Raised (id 2)) augment_list_in_tuple_0_at_2 (expr_node recorder program_augment_list_in_tuple augment_list_in_tuple_t2 298 (x.outs-Method augment_list_in_tuple_t1 (codes "f") (args [] [])) refl (then_ok (value_augment_list_in_tuple augment_list_in_tuple_t1) _ (v.ModuleRef, (j.Plain true)) (state_augment_list_in_tuple None [] [] [] 0 297 []) (expr_node recorder program_augment_list_in_tuple augment_list_in_tuple_t1 297 (x.outs-Name (codes "module_0")) refl (leaf (simp views))) (then_ok (finds program_augment_list_in_tuple v.ModuleRef (codes "f")) _ (callee.Value (v.Func (func_id 0))) (state_augment_list_in_tuple None [] [] [] 0 297 []) (leaf (first_of (simp views, simp tuples, search))) (as_run (plain_arguments recorder program_augment_list_in_tuple (value_augment_list_in_tuple) (means_augment_list_in_tuple) (callee.Value (v.Func (func_id 0))) [] [] []) (ap (λ args. plain_arguments recorder program_augment_list_in_tuple (value_augment_list_in_tuple) (means_augment_list_in_tuple) (callee.Value (v.Func (func_id 0))) [] args.plain args.named (state_augment_list_in_tuple None [] [] [] 0 297 [])) (out-roll-Args _)) (as_run (calls_function recorder program_augment_list_in_tuple (means_augment_list_in_tuple) (func_id 0) [] []) (ap (λ level. calls_value recorder program_augment_list_in_tuple (means_augment_list_in_tuple) level [] [] (state_augment_list_in_tuple None [] [] [] 0 297 [])) (outs-Func _)) (as_run (inside recorder program_augment_list_in_tuple (means_augment_list_in_tuple) (func_id 0) function_augment_list_in_tuple_0 []) (let same : calls_function recorder program_augment_list_in_tuple (means_augment_list_in_tuple) (func_id 0) [] [] (state_augment_list_in_tuple None [] [] [] 0 297 []) ≡ inside recorder program_augment_list_in_tuple (means_augment_list_in_tuple) (func_id 0) function_augment_list_in_tuple_0 [] (state_augment_list_in_tuple None [] [] [] 0 297 []) = refl in same) (gives_same (leaves (state_augment_list_in_tuple None [] [] [] 0 297 []).frame ((Err (Raised (id 2))), augment_list_in_tuple_0_at_1)) (in_frame recorder program_augment_list_in_tuple (func_id 0) function_augment_list_in_tuple_0 [] (Err (Raised (id 2))) augment_list_in_tuple_0_at_1 (then_ok (begins recorder (node 0)) _ tt (state_augment_list_in_tuple (Some (func_id 0)) [] [] [] 1 296 (began 0 ∷ [])) (leaf refl) (then_ok (means_augment_list_in_tuple augment_list_in_tuple_n1) _ (v.None, (j.Plain false)) (state_augment_list_in_tuple (Some (func_id 0)) (((codes "t"), (tuple ((ref 0) ∷ (v.Int (pos 2)) ∷ []))) ∷ []) [] (object.List ((v.Int (pos 1)) ∷ []) ∷ []) 1 288 augment_list_in_tuple_0_seen_3) (stmt_node recorder program_augment_list_in_tuple augment_list_in_tuple_n1 295 (y.outs-Assign ((target.Name (codes "t")) ∷ []) false None augment_list_in_tuple_n2) refl (then_ok (value_augment_list_in_tuple augment_list_in_tuple_n2) _ ((tuple ((ref 0) ∷ (v.Int (pos 2)) ∷ [])), (j.Plain true)) (state_augment_list_in_tuple (Some (func_id 0)) [] [] (object.List ((v.Int (pos 1)) ∷ []) ∷ []) 1 288 augment_list_in_tuple_0_seen_3) (expr_node recorder program_augment_list_in_tuple augment_list_in_tuple_n2 294 (x.outs-TupleLit (augment_list_in_tuple_n3 ∷ augment_list_in_tuple_n5 ∷ [])) refl (then_ok (value_augment_list_in_tuple augment_list_in_tuple_n3) _ ((ref 0), (j.Plain true)) (state_augment_list_in_tuple (Some (func_id 0)) [] [] (object.List ((v.Int (pos 1)) ∷ []) ∷ []) 1 291 augment_list_in_tuple_0_seen_4) (expr_node recorder program_augment_list_in_tuple augment_list_in_tuple_n3 293 (x.outs-ListLit (augment_list_in_tuple_n4 ∷ [])) refl (then_ok (value_augment_list_in_tuple augment_list_in_tuple_n4) _ ((v.Int (pos 1)), (j.Plain true)) (state_augment_list_in_tuple (Some (func_id 0)) [] [] [] 1 292 augment_list_in_tuple_0_seen_4) (expr_node recorder program_augment_list_in_tuple augment_list_in_tuple_n4 292 (x.outs-IntLit (pos 1)) refl (leaf (simp views))) (leaf (first_of (simp views, simp tuples, search))))) (then_ok (value_augment_list_in_tuple augment_list_in_tuple_n5) _ ((v.Int (pos 2)), (j.Plain true)) (state_augment_list_in_tuple (Some (func_id 0)) [] [] (object.List ((v.Int (pos 1)) ∷ []) ∷ []) 1 290 augment_list_in_tuple_0_seen_3) (expr_node recorder program_augment_list_in_tuple augment_list_in_tuple_n5 290 (x.outs-IntLit (pos 2)) refl (leaf (simp views))) (leaf (first_of (simp views, simp tuples, search)))))) (leaf refl))) (then_err (means_augment_list_in_tuple augment_list_in_tuple_n6) _ (Raised (id 2)) augment_list_in_tuple_0_at_1 (stmt_node recorder program_augment_list_in_tuple augment_list_in_tuple_n6 287 (y.outs-Augment (target.Index augment_list_in_tuple_n7 augment_list_in_tuple_n8) Add augment_list_in_tuple_n9) refl (then_ok (value_augment_list_in_tuple augment_list_in_tuple_n7) _ ((tuple ((ref 0) ∷ (v.Int (pos 2)) ∷ [])), (j.Plain true)) (state_augment_list_in_tuple (Some (func_id 0)) (((codes "t"), (tuple ((ref 0) ∷ (v.Int (pos 2)) ∷ []))) ∷ []) [] (object.List ((v.Int (pos 1)) ∷ []) ∷ []) 1 286 (began 0 ∷ began 1 ∷ began 2 ∷ began 3 ∷ began 4 ∷ began 5 ∷ began 6 ∷ began 7 ∷ [])) (expr_node recorder program_augment_list_in_tuple augment_list_in_tuple_n7 286 (x.outs-Name (codes "t")) refl (leaf (simp views))) (then_ok (value_augment_list_in_tuple augment_list_in_tuple_n8) _ ((v.Int (pos 0)), (j.Plain false)) augment_list_in_tuple_0_at_3 (expr_node recorder program_augment_list_in_tuple augment_list_in_tuple_n8 285 (x.outs-IntLit (pos 0)) refl (leaf (simp views))) (then_ok (gets_item (tuple ((ref 0) ∷ (v.Int (pos 2)) ∷ [])) (v.Int (pos 0))) _ ((ref 0), (j.Plain true)) augment_list_in_tuple_0_at_3 (leaf (first_of (simp views, simp tuples, search))) (then_ok (value_augment_list_in_tuple augment_list_in_tuple_n9) _ ((ref 1), (j.Plain true)) (state_augment_list_in_tuple (Some (func_id 0)) (((codes "t"), (tuple ((ref 0) ∷ (v.Int (pos 2)) ∷ []))) ∷ []) [] (object.List ((v.Int (pos 1)) ∷ []) ∷ object.List ((v.Int (pos 5)) ∷ []) ∷ []) 1 282 augment_list_in_tuple_0_seen_1) (expr_node recorder program_augment_list_in_tuple augment_list_in_tuple_n9 284 (x.outs-ListLit (augment_list_in_tuple_n10 ∷ [])) refl (then_ok (value_augment_list_in_tuple augment_list_in_tuple_n10) _ ((v.Int (pos 5)), (j.Plain true)) (state_augment_list_in_tuple (Some (func_id 0)) (((codes "t"), (tuple ((ref 0) ∷ (v.Int (pos 2)) ∷ []))) ∷ []) [] (object.List ((v.Int (pos 1)) ∷ []) ∷ []) 1 283 augment_list_in_tuple_0_seen_1) (expr_node recorder program_augment_list_in_tuple augment_list_in_tuple_n10 283 (x.outs-IntLit (pos 5)) refl (leaf (simp views))) (leaf (first_of (simp views, simp tuples, search))))) (then_ok (augments Add (ref 0) (ref 1)) _ ((ref 0), (j.Plain true)) (state_augment_list_in_tuple (Some (func_id 0)) (((codes "t"), (tuple ((ref 0) ∷ (v.Int (pos 2)) ∷ []))) ∷ []) [] (object.List ((v.Int (pos 1)) ∷ (v.Int (pos 5)) ∷ []) ∷ object.List ((v.Int (pos 5)) ∷ []) ∷ []) 1 281 augment_list_in_tuple_0_seen_1) (leaf (first_of (simp views, simp tuples, search))) (leaf (first_of (simp views, simp tuples, search))))))))))))) (refl)))))))))

abbrev value_augment_unbound : Expr → Run Trail Finding
value_augment_unbound = value_of recorder program_augment_unbound

abbrev means_augment_unbound : Stmt → Run Trail Finding
means_augment_unbound = means recorder program_augment_unbound

abbrev augment_unbound_0_at_1 : State World Trail
augment_unbound_0_at_1 = state_augment_unbound (Some (func_id 0)) [] [] (object.Instance (Built built.UnboundLocalError) [] None ∷ []) 1 295 (began 0 ∷ began 1 ∷ [])

abbrev augment_unbound_0_at_2 : State World Trail
augment_unbound_0_at_2 = state_augment_unbound None [] [] (object.Instance (Built built.UnboundLocalError) [] None ∷ []) 0 295 (began 0 ∷ began 1 ∷ [])

pub augment_unbound_0 : Yields (means_augment_unbound augment_unbound_t3) (state_augment_unbound None [] [] [] 0 300 []) ((Err (Raised (id 0))), augment_unbound_0_at_2)
unfolding equal ordered
augment_unbound_0 =
    stmt_node recorder program_augment_unbound augment_unbound_t3 299 (y.outs-Assign ((target.Name (codes "var_8")) ∷ []) false None augment_unbound_t2) refl (then_err (value_augment_unbound augment_unbound_t2) _ (Raised (id 0)) augment_unbound_0_at_2 (expr_node recorder program_augment_unbound augment_unbound_t2 298 (x.outs-Method augment_unbound_t1 (codes "f") (args [] [])) refl (then_ok (value_augment_unbound augment_unbound_t1) _ (v.ModuleRef, (j.Plain true)) (state_augment_unbound None [] [] [] 0 297 []) (expr_node recorder program_augment_unbound augment_unbound_t1 297 (x.outs-Name (codes "module_0")) refl (leaf (simp views))) (then_ok (finds program_augment_unbound v.ModuleRef (codes "f")) _ (callee.Value (v.Func (func_id 0))) (state_augment_unbound None [] [] [] 0 297 []) (leaf (first_of (simp views, simp tuples, search))) (as_run (plain_arguments recorder program_augment_unbound (value_augment_unbound) (means_augment_unbound) (callee.Value (v.Func (func_id 0))) [] [] []) (ap (λ args. plain_arguments recorder program_augment_unbound (value_augment_unbound) (means_augment_unbound) (callee.Value (v.Func (func_id 0))) [] args.plain args.named (state_augment_unbound None [] [] [] 0 297 [])) (out-roll-Args _)) (as_run (calls_function recorder program_augment_unbound (means_augment_unbound) (func_id 0) [] []) (ap (λ level. calls_value recorder program_augment_unbound (means_augment_unbound) level [] [] (state_augment_unbound None [] [] [] 0 297 [])) (outs-Func _)) (as_run (inside recorder program_augment_unbound (means_augment_unbound) (func_id 0) function_augment_unbound_0 []) (let same : calls_function recorder program_augment_unbound (means_augment_unbound) (func_id 0) [] [] (state_augment_unbound None [] [] [] 0 297 []) ≡ inside recorder program_augment_unbound (means_augment_unbound) (func_id 0) function_augment_unbound_0 [] (state_augment_unbound None [] [] [] 0 297 []) = refl in same) (gives_same (leaves (state_augment_unbound None [] [] [] 0 297 []).frame ((Err (Raised (id 0))), augment_unbound_0_at_1)) (in_frame recorder program_augment_unbound (func_id 0) function_augment_unbound_0 [] (Err (Raised (id 0))) augment_unbound_0_at_1 (then_ok (begins recorder (node 0)) _ tt (state_augment_unbound (Some (func_id 0)) [] [] [] 1 296 (began 0 ∷ [])) (leaf refl) (then_err (means_augment_unbound augment_unbound_n1) _ (Raised (id 0)) augment_unbound_0_at_1 (stmt_node recorder program_augment_unbound augment_unbound_n1 295 (y.outs-Augment (target.Name (codes "x")) Add augment_unbound_n2) refl (then_err (reads program_augment_unbound (codes "x")) _ (Raised (id 0)) augment_unbound_0_at_1 (leaf (first_of (simp views, simp tuples, search)))))))) (refl)))))))))
