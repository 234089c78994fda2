-- Derivations of the worked examples of classes (3.2 and 8.8): each is a tree of the run, from rules of `Yields`.
use Rattle.std.specs.Prelude.{nat_le, if◌then◌else◌, pos, true, false, [], ◌∷◌, Some, None, Ok, Err, codes}
use Rattle.py_meaning.specs.Tuples.{depth_over, tuple_limit, measured, tuple}
use Rattle.py_plain.specs.Calls.{instantiates, initializes, makes_instance, within_depth, leaves, inside, calls_function, calls_value, calls_class, initialized, finds_super}
use Rattle.py_plain.specs.Runs.{stop, ◌>>=◌, begins, Run, Finding}
use Rattle.py_meaning.specs.Equal.{equal}
use Rattle.py_meaning.specs.Examples.{id, ref}
use Rattle.py_meaning.specs.Folds.{tuple-out, key_cost-Tuple, key_cost-out, as_key-Tuple, as_key-out, same_key-Tuple, same_key-out}
use Rattle.py_meaning.specs.Less.{ordered}
use Rattle.py_meaning.specs.Worlds.{World}
use Rattle.py_meaning.specs.declared.object.Object.TheVariants as object
use Rattle.py_meaning.specs.declared.value.Value.TheVariants as v
use Rattle.py_meaning.specs.declared.value.Value.TheVariants.{outs-None, outs-Bool, outs-Int, outs-Str, outs-Tuple, outs-Ref, outs-Class, outs-Func, outs-View, outs-ModuleRef}
use Rattle.py_meaning.specs.declared.value.Value.{out-Value}
use Rattle.py_plain.proofs.Yields.{Yields, leaf, as_run, gives_same, then_ok, then_err, stmt_node, expr_node, in_frame}
use Rattle.py_plain.specs.Assignments.{stores}
use Rattle.py_plain.specs.Attributes.{finds}
use Rattle.py_plain.specs.Examples.{node, args, func_id, began}
use Rattle.py_plain.specs.ExamplesClasses.{exception_init_n1, exception_init_t1, exception_init_t2, exception_init_t3, exception_init_t4, function_exception_init_0, program_exception_init, state_exception_init, seven_raised, class_function_n2, class_function_n3, class_function_n1, class_function_n8, class_function_n7, class_function_n9, class_function_n6, class_function_n5, class_function_n13, class_function_n15, class_function_n16, class_function_n14, class_function_n17, class_function_n12, class_function_n11, class_function_t3, class_function_t4, class_function_t5, function_class_function_0, function_class_function_1, function_class_function_2, program_class_function, state_class_function, init_returns_n2, init_returns_n1, init_returns_n6, init_returns_n5, init_returns_n4, init_returns_t1, init_returns_t2, init_returns_t3, function_init_returns_0, function_init_returns_1, program_init_returns, state_init_returns, super_chain_n2, super_chain_n3, super_chain_n1, super_chain_n8, super_chain_n7, super_chain_n9, super_chain_n6, super_chain_n5, super_chain_n14, super_chain_n13, super_chain_n15, super_chain_n12, super_chain_n11, super_chain_n19, super_chain_n18, super_chain_n17, super_chain_n24, super_chain_n23, super_chain_n25, super_chain_n22, super_chain_n21, super_chain_n31, super_chain_n32, super_chain_n30, super_chain_n33, super_chain_n29, super_chain_n36, super_chain_n35, super_chain_n34, super_chain_n39, super_chain_n38, super_chain_n37, super_chain_n28, super_chain_n27, super_chain_t3, super_chain_t4, super_chain_t5, function_super_chain_0, function_super_chain_1, function_super_chain_2, function_super_chain_3, function_super_chain_4, function_super_chain_5, program_super_chain, state_super_chain, super_of_class_n2, super_of_class_n1, super_of_class_n6, super_of_class_n7, super_of_class_n5, super_of_class_n4, super_of_class_t1, super_of_class_t2, super_of_class_t3, function_super_of_class_0, function_super_of_class_1, program_super_of_class, state_super_of_class, mro_n13, mro_n12, mro_n11, mro_t3, mro_t4, mro_t5, function_mro_2, program_mro, state_mro, missing_of_class_n13, missing_of_class_n12, missing_of_class_n11, missing_of_class_t3, missing_of_class_t4, missing_of_class_t5, function_missing_of_class_2, program_missing_of_class, state_missing_of_class, set_class_attribute_n12, set_class_attribute_n13, set_class_attribute_n11, set_class_attribute_t3, set_class_attribute_t4, set_class_attribute_t5, function_set_class_attribute_2, program_set_class_attribute, state_set_class_attribute, inherited_constant_n2, inherited_constant_n3, inherited_constant_n1, inherited_constant_n14, inherited_constant_n13, inherited_constant_n17, inherited_constant_n16, inherited_constant_n15, inherited_constant_n12, inherited_constant_n11, inherited_constant_t3, inherited_constant_t4, inherited_constant_t5, function_inherited_constant_0, function_inherited_constant_2, program_inherited_constant, state_inherited_constant}
use Rattle.py_plain.specs.Expressions.{plain_arguments, calls_meant, calls_expr}
use Rattle.py_plain.specs.Statements.{means, value_of}
use Rattle.py_plain.specs.Tests.{recorder, Trail}
use Rattle.py_plain.specs.declared.judged.Judged.TheVariants as j
use Rattle.py_plain.specs.declared.run.Abrupt.TheVariants.{Raised, Returned, Left}
use Rattle.py_plain.specs.declared.run.Callee.TheVariants as callee
use Rattle.py_plain.specs.declared.state.State.{State}
use Rattle.py_syntax.specs.declared.expr.Args.{out-roll-Args}
use Rattle.py_syntax.specs.declared.expr.Expr.{Expr}
use Rattle.py_syntax.specs.declared.expr.ExprKind.TheVariants as x
use Rattle.py_syntax.specs.declared.operator.BinOp.TheVariants.{Add, Mul}
use Rattle.py_syntax.specs.declared.stmt.Stmt.{Stmt}
use Rattle.py_syntax.specs.declared.stmt.StmtKind.TheVariants as y
use Rattle.py_syntax.specs.declared.stmt.Target.TheVariants as target
use Rattle.pyn_base.specs.declared.class.BuiltClass.TheVariants as built
use Rattle.pyn_base.specs.declared.class.ClassId.TheVariants.{Built, Own}
use Rattle.pyn_base.specs.declared.construct.Construct.TheVariants as construct
use Rattle.std.proofs.Common.{◌≡◌, refl, ap}

ruleset views = (tuple-out, outs-None, outs-Bool, outs-Int, outs-Str, outs-Tuple, outs-Ref, outs-Class, outs-Func, outs-View, outs-ModuleRef)

ruleset tuples = (tuple-out, outs-None, outs-Bool, outs-Int, outs-Str, outs-Tuple, outs-Ref, outs-Class, outs-Func, outs-View, outs-ModuleRef, key_cost-Tuple, key_cost-out, as_key-Tuple, as_key-out, same_key-Tuple, same_key-out)

abbrev value_class_function : Expr → Run Trail Finding
value_class_function = value_of recorder program_class_function

abbrev means_class_function : Stmt → Run Trail Finding
means_class_function = means recorder program_class_function

abbrev class_function_0_seen_1 : Trail
class_function_0_seen_1 = began 10 ∷ began 11 ∷ began 12 ∷ began 13 ∷ began 14 ∷ began 15 ∷ began 16 ∷ began 0 ∷ began 1 ∷ began 3 ∷ began 2 ∷ began 17 ∷ began 4 ∷ began 5 ∷ began 6 ∷ began 7 ∷ began 8 ∷ began 9 ∷ []

abbrev class_function_0_seen_2 : Trail
class_function_0_seen_2 = began 10 ∷ began 11 ∷ began 12 ∷ began 13 ∷ began 14 ∷ began 15 ∷ began 16 ∷ began 0 ∷ began 1 ∷ began 3 ∷ began 2 ∷ began 17 ∷ began 4 ∷ began 5 ∷ began 6 ∷ began 7 ∷ began 8 ∷ []

abbrev class_function_0_seen_3 : Trail
class_function_0_seen_3 = began 10 ∷ began 11 ∷ began 12 ∷ began 13 ∷ began 14 ∷ began 15 ∷ began 16 ∷ began 0 ∷ began 1 ∷ began 3 ∷ began 2 ∷ began 17 ∷ []

abbrev class_function_0_seen_4 : Trail
class_function_0_seen_4 = began 10 ∷ began 11 ∷ began 12 ∷ began 13 ∷ began 14 ∷ began 15 ∷ began 16 ∷ began 0 ∷ began 1 ∷ began 3 ∷ began 2 ∷ []

abbrev class_function_0_seen_5 : Trail
class_function_0_seen_5 = began 10 ∷ began 11 ∷ began 12 ∷ began 13 ∷ began 14 ∷ began 15 ∷ began 16 ∷ []

abbrev class_function_0_seen_6 : Trail
class_function_0_seen_6 = began 10 ∷ began 11 ∷ began 12 ∷ began 13 ∷ began 14 ∷ began 15 ∷ []

abbrev class_function_0_seen_7 : Trail
class_function_0_seen_7 = began 10 ∷ began 11 ∷ began 12 ∷ began 13 ∷ []

abbrev class_function_0_at_1 : State World Trail
class_function_0_at_1 = state_class_function (Some (func_id 0)) (((codes "self"), (ref 0)) ∷ ((codes "x"), (v.Int (pos 3))) ∷ []) [] (object.Instance (Own 0) (((codes "x"), (v.Int (pos 3))) ∷ []) None ∷ []) 2 286 class_function_0_seen_4

abbrev class_function_0_at_2 : State World Trail
class_function_0_at_2 = state_class_function (Some (func_id 1)) (((codes "self"), (ref 0)) ∷ ((codes "n"), (v.Int (pos 4))) ∷ []) [] (object.Instance (Own 0) (((codes "x"), (v.Int (pos 3))) ∷ []) None ∷ []) 2 279 class_function_0_seen_1

abbrev class_function_0_at_3 : State World Trail
class_function_0_at_3 = state_class_function (Some (func_id 1)) (((codes "self"), (ref 0)) ∷ ((codes "n"), (v.Int (pos 4))) ∷ []) [] (object.Instance (Own 0) (((codes "x"), (v.Int (pos 3))) ∷ []) None ∷ []) 2 280 class_function_0_seen_2

abbrev class_function_0_at_4 : State World Trail
class_function_0_at_4 = state_class_function (Some (func_id 2)) [] [] (object.Instance (Own 0) (((codes "x"), (v.Int (pos 3))) ∷ []) None ∷ []) 1 279 class_function_0_seen_1

abbrev class_function_0_at_5 : State World Trail
class_function_0_at_5 = state_class_function (Some (func_id 2)) [] [] (object.Instance (Own 0) (((codes "x"), (v.Int (pos 3))) ∷ []) None ∷ []) 1 286 class_function_0_seen_4

abbrev class_function_0_at_6 : State World Trail
class_function_0_at_6 = state_class_function (Some (func_id 2)) [] [] (object.Instance (Own 0) (((codes "x"), (v.Int (pos 3))) ∷ []) None ∷ []) 1 285 class_function_0_seen_3

abbrev class_function_0_at_7 : State World Trail
class_function_0_at_7 = state_class_function (Some (func_id 2)) [] [] (object.Instance (Own 0) [] None ∷ []) 1 290 class_function_0_seen_5

abbrev class_function_0_at_8 : State World Trail
class_function_0_at_8 = state_class_function (Some (func_id 2)) [] [] [] 1 293 class_function_0_seen_7

abbrev class_function_0_at_9 : State World Trail
class_function_0_at_9 = state_class_function (Some (func_id 2)) [] [] [] 1 291 class_function_0_seen_6

abbrev class_function_0_at_10 : State World Trail
class_function_0_at_10 = state_class_function (Some (func_id 2)) [] [] [] 1 290 class_function_0_seen_5

pub class_function_0 : Yields (means_class_function class_function_t5) (state_class_function None [] [] [] 0 300 []) ((Ok (v.None, (j.Plain false))), (state_class_function None (((codes "var_8"), (v.Int (pos 7))) ∷ []) [] (object.Instance (Own 0) (((codes "x"), (v.Int (pos 3))) ∷ []) None ∷ []) 0 279 class_function_0_seen_1))
unfolding equal ordered
class_function_0 =
    stmt_node recorder program_class_function class_function_t5 299 (y.outs-Assign ((target.Name (codes "var_8")) ∷ []) false None class_function_t4) refl (then_ok (value_class_function class_function_t4) _ ((v.Int (pos 7)), (j.Plain true)) (state_class_function None [] [] (object.Instance (Own 0) (((codes "x"), (v.Int (pos 3))) ∷ []) None ∷ []) 0 279 class_function_0_seen_1) (expr_node recorder program_class_function class_function_t4 298 (x.outs-Method class_function_t3 (codes "f") (args [] [])) refl (then_ok (value_class_function class_function_t3) _ (v.ModuleRef, (j.Plain true)) (state_class_function None [] [] [] 0 297 []) (expr_node recorder program_class_function class_function_t3 297 (x.outs-Name (codes "module_0")) refl (leaf (simp views))) (then_ok (finds program_class_function v.ModuleRef (codes "f")) _ (callee.Value (v.Func (func_id 2))) (state_class_function None [] [] [] 0 297 []) (leaf (first_of (simp views, simp tuples, search))) (as_run (plain_arguments recorder program_class_function (value_class_function) (means_class_function) (callee.Value (v.Func (func_id 2))) [] [] []) (ap (λ args. plain_arguments recorder program_class_function (value_class_function) (means_class_function) (callee.Value (v.Func (func_id 2))) [] args.plain args.named (state_class_function None [] [] [] 0 297 [])) (out-roll-Args _)) (as_run (calls_function recorder program_class_function (means_class_function) (func_id 2) [] []) (ap (λ level. calls_value recorder program_class_function (means_class_function) level [] [] (state_class_function None [] [] [] 0 297 [])) (outs-Func _)) (as_run (inside recorder program_class_function (means_class_function) (func_id 2) function_class_function_2 []) (let same : calls_function recorder program_class_function (means_class_function) (func_id 2) [] [] (state_class_function None [] [] [] 0 297 []) ≡ inside recorder program_class_function (means_class_function) (func_id 2) function_class_function_2 [] (state_class_function None [] [] [] 0 297 []) = refl in same) (gives_same (leaves (state_class_function None [] [] [] 0 297 []).frame ((Err (Returned (v.Int (pos 7)))), class_function_0_at_4)) (in_frame recorder program_class_function (func_id 2) function_class_function_2 [] (Err (Returned (v.Int (pos 7)))) class_function_0_at_4 (then_ok (begins recorder (node 10)) _ tt (state_class_function (Some (func_id 2)) [] [] [] 1 296 (began 10 ∷ [])) (leaf refl) (then_err (means_class_function class_function_n11) _ (Returned (v.Int (pos 7))) class_function_0_at_4 (stmt_node recorder program_class_function class_function_n11 295 (y.outs-Return (Some class_function_n12)) refl (then_ok (value_class_function class_function_n12) _ ((v.Int (pos 7)), (j.Plain true)) class_function_0_at_4 (expr_node recorder program_class_function class_function_n12 294 (x.outs-Method class_function_n13 (codes "get") (args (class_function_n14 ∷ class_function_n17 ∷ []) [])) refl (then_ok (value_class_function class_function_n13) _ ((v.Class (Own 0)), (j.Plain true)) class_function_0_at_8 (expr_node recorder program_class_function class_function_n13 293 (x.outs-Name (codes "A")) refl (leaf (simp views))) (then_ok (finds program_class_function (v.Class (Own 0)) (codes "get")) _ (callee.Function (func_id 1)) class_function_0_at_8 (leaf (first_of (simp views, simp tuples, search))) (as_run (plain_arguments recorder program_class_function (value_class_function) (means_class_function) (callee.Function (func_id 1)) [] (class_function_n14 ∷ class_function_n17 ∷ []) []) (ap (λ args. plain_arguments recorder program_class_function (value_class_function) (means_class_function) (callee.Function (func_id 1)) [] args.plain args.named class_function_0_at_8) (out-roll-Args _)) (then_ok (value_class_function class_function_n14) _ ((ref 0), (j.Plain true)) class_function_0_at_5 (expr_node recorder program_class_function class_function_n14 292 (x.outs-Call class_function_n15 (args (class_function_n16 ∷ []) [])) refl (as_run (calls_meant recorder program_class_function (value_class_function) (means_class_function) None class_function_n15 (args (class_function_n16 ∷ []) [])) (ap (λ kind. calls_expr recorder program_class_function (value_class_function) (means_class_function) kind class_function_n15 (args (class_function_n16 ∷ []) []) (state_class_function (Some (func_id 2)) [] [] [] 1 292 (began 10 ∷ began 11 ∷ began 12 ∷ began 13 ∷ began 14 ∷ []))) (x.outs-Name (codes "A"))) (then_ok (value_class_function class_function_n15) _ ((v.Class (Own 0)), (j.Plain true)) class_function_0_at_9 (expr_node recorder program_class_function class_function_n15 291 (x.outs-Name (codes "A")) refl (leaf (simp views))) (as_run (plain_arguments recorder program_class_function (value_class_function) (means_class_function) (callee.Value (v.Class (Own 0))) [] (class_function_n16 ∷ []) []) (ap (λ args. plain_arguments recorder program_class_function (value_class_function) (means_class_function) (callee.Value (v.Class (Own 0))) [] args.plain args.named class_function_0_at_9) (out-roll-Args _)) (then_ok (value_class_function class_function_n16) _ ((v.Int (pos 3)), (j.Plain true)) class_function_0_at_10 (expr_node recorder program_class_function class_function_n16 290 (x.outs-IntLit (pos 3)) refl (leaf (simp views))) (as_run (calls_class recorder program_class_function (means_class_function) (Own 0) ((v.Int (pos 3)) ∷ []) []) (ap (λ level. calls_value recorder program_class_function (means_class_function) level ((v.Int (pos 3)) ∷ []) [] class_function_0_at_10) (outs-Class _)) (as_run (makes_instance (Own 0) None >>= (λ id. initializes recorder program_class_function (means_class_function) id (func_id 0) ((v.Int (pos 3)) ∷ []) [])) (let same : calls_class recorder program_class_function (means_class_function) (Own 0) ((v.Int (pos 3)) ∷ []) [] class_function_0_at_10 ≡ (makes_instance (Own 0) None >>= (λ id. initializes recorder program_class_function (means_class_function) id (func_id 0) ((v.Int (pos 3)) ∷ []) [])) class_function_0_at_10 = refl in same) (then_ok (makes_instance (Own 0) None) (λ id. initializes recorder program_class_function (means_class_function) id (func_id 0) ((v.Int (pos 3)) ∷ []) []) (id 0) class_function_0_at_7 (leaf refl) (then_ok (calls_function recorder program_class_function (means_class_function) (func_id 0) ((ref 0) ∷ (v.Int (pos 3)) ∷ []) []) (λ x. initialized (id 0) (out-Value x.0)) (v.None, (j.Plain false)) class_function_0_at_5 (as_run (inside recorder program_class_function (means_class_function) (func_id 0) function_class_function_0 (((codes "self"), (ref 0)) ∷ ((codes "x"), (v.Int (pos 3))) ∷ [])) (let same : calls_function recorder program_class_function (means_class_function) (func_id 0) ((ref 0) ∷ (v.Int (pos 3)) ∷ []) [] class_function_0_at_7 ≡ inside recorder program_class_function (means_class_function) (func_id 0) function_class_function_0 (((codes "self"), (ref 0)) ∷ ((codes "x"), (v.Int (pos 3))) ∷ []) class_function_0_at_7 = refl in same) (gives_same (leaves class_function_0_at_7.frame ((Ok (v.None, (j.Plain false))), class_function_0_at_1)) (in_frame recorder program_class_function (func_id 0) function_class_function_0 (((codes "self"), (ref 0)) ∷ ((codes "x"), (v.Int (pos 3))) ∷ []) (Ok (v.None, (j.Plain false))) class_function_0_at_1 (then_ok (begins recorder (node 0)) _ tt (state_class_function (Some (func_id 0)) (((codes "self"), (ref 0)) ∷ ((codes "x"), (v.Int (pos 3))) ∷ []) [] (object.Instance (Own 0) [] None ∷ []) 2 289 (began 10 ∷ began 11 ∷ began 12 ∷ began 13 ∷ began 14 ∷ began 15 ∷ began 16 ∷ began 0 ∷ [])) (leaf refl) (then_ok (means_class_function class_function_n1) _ (v.None, (j.Plain false)) class_function_0_at_1 (stmt_node recorder program_class_function class_function_n1 288 (y.outs-Assign ((target.Attr class_function_n2 (codes "x")) ∷ []) false None class_function_n3) refl (then_ok (value_class_function class_function_n3) _ ((v.Int (pos 3)), (j.Plain true)) (state_class_function (Some (func_id 0)) (((codes "self"), (ref 0)) ∷ ((codes "x"), (v.Int (pos 3))) ∷ []) [] (object.Instance (Own 0) [] None ∷ []) 2 287 (began 10 ∷ began 11 ∷ began 12 ∷ began 13 ∷ began 14 ∷ began 15 ∷ began 16 ∷ began 0 ∷ began 1 ∷ began 3 ∷ [])) (expr_node recorder program_class_function class_function_n3 287 (x.outs-Name (codes "x")) refl (leaf (simp views))) (then_ok (stores program_class_function (value_class_function) (target.Attr class_function_n2 (codes "x")) (v.Int (pos 3))) _ (v.None, (j.Plain false)) class_function_0_at_1 (then_ok (value_class_function class_function_n2) _ ((ref 0), (j.Plain true)) (state_class_function (Some (func_id 0)) (((codes "self"), (ref 0)) ∷ ((codes "x"), (v.Int (pos 3))) ∷ []) [] (object.Instance (Own 0) [] None ∷ []) 2 286 class_function_0_seen_4) (expr_node recorder program_class_function class_function_n2 286 (x.outs-Name (codes "self")) refl (leaf (simp views))) (leaf (first_of (simp views, simp tuples, search)))) (leaf refl)))) (leaf refl)))) (refl))) (leaf (first_of (simp views, simp tuples, search)))))))))))) (then_ok (value_class_function class_function_n17) _ ((v.Int (pos 4)), (j.Plain true)) class_function_0_at_6 (expr_node recorder program_class_function class_function_n17 285 (x.outs-IntLit (pos 4)) refl (leaf (simp views))) (as_run (inside recorder program_class_function (means_class_function) (func_id 1) function_class_function_1 (((codes "self"), (ref 0)) ∷ ((codes "n"), (v.Int (pos 4))) ∷ [])) (let same : calls_function recorder program_class_function (means_class_function) (func_id 1) ((ref 0) ∷ (v.Int (pos 4)) ∷ []) [] class_function_0_at_6 ≡ inside recorder program_class_function (means_class_function) (func_id 1) function_class_function_1 (((codes "self"), (ref 0)) ∷ ((codes "n"), (v.Int (pos 4))) ∷ []) class_function_0_at_6 = refl in same) (gives_same (leaves class_function_0_at_6.frame ((Err (Returned (v.Int (pos 7)))), class_function_0_at_2)) (in_frame recorder program_class_function (func_id 1) function_class_function_1 (((codes "self"), (ref 0)) ∷ ((codes "n"), (v.Int (pos 4))) ∷ []) (Err (Returned (v.Int (pos 7)))) class_function_0_at_2 (then_ok (begins recorder (node 4)) _ tt (state_class_function (Some (func_id 1)) (((codes "self"), (ref 0)) ∷ ((codes "n"), (v.Int (pos 4))) ∷ []) [] (object.Instance (Own 0) (((codes "x"), (v.Int (pos 3))) ∷ []) None ∷ []) 2 284 (began 10 ∷ began 11 ∷ began 12 ∷ began 13 ∷ began 14 ∷ began 15 ∷ began 16 ∷ began 0 ∷ began 1 ∷ began 3 ∷ began 2 ∷ began 17 ∷ began 4 ∷ [])) (leaf refl) (then_err (means_class_function class_function_n5) _ (Returned (v.Int (pos 7))) class_function_0_at_2 (stmt_node recorder program_class_function class_function_n5 283 (y.outs-Return (Some class_function_n6)) refl (then_ok (value_class_function class_function_n6) _ ((v.Int (pos 7)), (j.Plain true)) class_function_0_at_2 (expr_node recorder program_class_function class_function_n6 282 (x.outs-Binary Add class_function_n7 class_function_n9) refl (then_ok (value_class_function class_function_n7) _ ((v.Int (pos 3)), (j.Plain true)) class_function_0_at_3 (expr_node recorder program_class_function class_function_n7 281 (x.outs-Attr class_function_n8 (codes "x")) refl (then_ok (value_class_function class_function_n8) _ ((ref 0), (j.Plain true)) class_function_0_at_3 (expr_node recorder program_class_function class_function_n8 280 (x.outs-Name (codes "self")) refl (leaf (simp views))) (then_ok (finds program_class_function (ref 0) (codes "x")) _ (callee.Value (v.Int (pos 3))) class_function_0_at_3 (leaf (first_of (simp views, simp tuples, search))) (leaf (first_of (simp views, simp tuples, search)))))) (then_ok (value_class_function class_function_n9) _ ((v.Int (pos 4)), (j.Plain true)) class_function_0_at_2 (expr_node recorder program_class_function class_function_n9 279 (x.outs-Name (codes "n")) refl (leaf (simp views))) (leaf (first_of (simp views, simp tuples, search)))))) (leaf refl)))))) (simp views))))))))) (leaf refl)))))) (simp views)))))))) (leaf refl))

abbrev value_init_returns : Expr → Run Trail Finding
value_init_returns = value_of recorder program_init_returns

abbrev means_init_returns : Stmt → Run Trail Finding
means_init_returns = means recorder program_init_returns

abbrev init_returns_0_seen_1 : Trail
init_returns_0_seen_1 = began 3 ∷ began 4 ∷ began 5 ∷ began 6 ∷ began 0 ∷ began 1 ∷ began 2 ∷ []

abbrev init_returns_0_seen_2 : Trail
init_returns_0_seen_2 = began 3 ∷ began 4 ∷ began 5 ∷ began 6 ∷ []

abbrev init_returns_0_at_1 : State World Trail
init_returns_0_at_1 = state_init_returns (Some (func_id 1)) [] [] (object.Instance (Own 0) [] None ∷ object.Instance (Built built.TypeError) [] None ∷ []) 1 290 init_returns_0_seen_1

abbrev init_returns_0_at_2 : State World Trail
init_returns_0_at_2 = state_init_returns None [] [] (object.Instance (Own 0) [] None ∷ object.Instance (Built built.TypeError) [] None ∷ []) 0 290 init_returns_0_seen_1

abbrev init_returns_0_at_3 : State World Trail
init_returns_0_at_3 = state_init_returns (Some (func_id 0)) (((codes "self"), (ref 0)) ∷ []) [] (object.Instance (Own 0) [] None ∷ []) 2 290 init_returns_0_seen_1

abbrev init_returns_0_at_4 : State World Trail
init_returns_0_at_4 = state_init_returns (Some (func_id 1)) [] [] (object.Instance (Own 0) [] None ∷ []) 1 293 init_returns_0_seen_2

abbrev init_returns_0_at_5 : State World Trail
init_returns_0_at_5 = state_init_returns (Some (func_id 1)) [] [] [] 1 293 init_returns_0_seen_2

pub init_returns_0 : Yields (means_init_returns init_returns_t3) (state_init_returns None [] [] [] 0 300 []) ((Err (Raised (id 1))), init_returns_0_at_2)
unfolding equal ordered
init_returns_0 =
    stmt_node recorder program_init_returns init_returns_t3 299 (y.outs-Assign ((target.Name (codes "var_8")) ∷ []) false None init_returns_t2) refl (then_err (value_init_returns init_returns_t2) _ (Raised (id 1)) init_returns_0_at_2 (expr_node recorder program_init_returns init_returns_t2 298 (x.outs-Method init_returns_t1 (codes "f") (args [] [])) refl (then_ok (value_init_returns init_returns_t1) _ (v.ModuleRef, (j.Plain true)) (state_init_returns None [] [] [] 0 297 []) (expr_node recorder program_init_returns init_returns_t1 297 (x.outs-Name (codes "module_0")) refl (leaf (simp views))) (then_ok (finds program_init_returns v.ModuleRef (codes "f")) _ (callee.Value (v.Func (func_id 1))) (state_init_returns None [] [] [] 0 297 []) (leaf (first_of (simp views, simp tuples, search))) (as_run (plain_arguments recorder program_init_returns (value_init_returns) (means_init_returns) (callee.Value (v.Func (func_id 1))) [] [] []) (ap (λ args. plain_arguments recorder program_init_returns (value_init_returns) (means_init_returns) (callee.Value (v.Func (func_id 1))) [] args.plain args.named (state_init_returns None [] [] [] 0 297 [])) (out-roll-Args _)) (as_run (calls_function recorder program_init_returns (means_init_returns) (func_id 1) [] []) (ap (λ level. calls_value recorder program_init_returns (means_init_returns) level [] [] (state_init_returns None [] [] [] 0 297 [])) (outs-Func _)) (as_run (inside recorder program_init_returns (means_init_returns) (func_id 1) function_init_returns_1 []) (let same : calls_function recorder program_init_returns (means_init_returns) (func_id 1) [] [] (state_init_returns None [] [] [] 0 297 []) ≡ inside recorder program_init_returns (means_init_returns) (func_id 1) function_init_returns_1 [] (state_init_returns None [] [] [] 0 297 []) = refl in same) (gives_same (leaves (state_init_returns None [] [] [] 0 297 []).frame ((Err (Raised (id 1))), init_returns_0_at_1)) (in_frame recorder program_init_returns (func_id 1) function_init_returns_1 [] (Err (Raised (id 1))) init_returns_0_at_1 (then_ok (begins recorder (node 3)) _ tt (state_init_returns (Some (func_id 1)) [] [] [] 1 296 (began 3 ∷ [])) (leaf refl) (then_err (means_init_returns init_returns_n4) _ (Raised (id 1)) init_returns_0_at_1 (stmt_node recorder program_init_returns init_returns_n4 295 (y.outs-Return (Some init_returns_n5)) refl (then_err (value_init_returns init_returns_n5) _ (Raised (id 1)) init_returns_0_at_1 (expr_node recorder program_init_returns init_returns_n5 294 (x.outs-Call init_returns_n6 (args [] [])) refl (as_run (calls_meant recorder program_init_returns (value_init_returns) (means_init_returns) None init_returns_n6 (args [] [])) (ap (λ kind. calls_expr recorder program_init_returns (value_init_returns) (means_init_returns) kind init_returns_n6 (args [] []) (state_init_returns (Some (func_id 1)) [] [] [] 1 294 (began 3 ∷ began 4 ∷ began 5 ∷ []))) (x.outs-Name (codes "B"))) (then_ok (value_init_returns init_returns_n6) _ ((v.Class (Own 0)), (j.Plain true)) init_returns_0_at_5 (expr_node recorder program_init_returns init_returns_n6 293 (x.outs-Name (codes "B")) refl (leaf (simp views))) (as_run (plain_arguments recorder program_init_returns (value_init_returns) (means_init_returns) (callee.Value (v.Class (Own 0))) [] [] []) (ap (λ args. plain_arguments recorder program_init_returns (value_init_returns) (means_init_returns) (callee.Value (v.Class (Own 0))) [] args.plain args.named init_returns_0_at_5) (out-roll-Args _)) (as_run (calls_class recorder program_init_returns (means_init_returns) (Own 0) [] []) (ap (λ level. calls_value recorder program_init_returns (means_init_returns) level [] [] init_returns_0_at_5) (outs-Class _)) (as_run (makes_instance (Own 0) None >>= (λ id. initializes recorder program_init_returns (means_init_returns) id (func_id 0) [] [])) (let same : calls_class recorder program_init_returns (means_init_returns) (Own 0) [] [] init_returns_0_at_5 ≡ (makes_instance (Own 0) None >>= (λ id. initializes recorder program_init_returns (means_init_returns) id (func_id 0) [] [])) init_returns_0_at_5 = refl in same) (then_ok (makes_instance (Own 0) None) (λ id. initializes recorder program_init_returns (means_init_returns) id (func_id 0) [] []) (id 0) init_returns_0_at_4 (leaf refl) (then_ok (calls_function recorder program_init_returns (means_init_returns) (func_id 0) ((ref 0) ∷ []) []) (λ x. initialized (id 0) (out-Value x.0)) ((v.Int (pos 1)), (j.Plain true)) (state_init_returns (Some (func_id 1)) [] [] (object.Instance (Own 0) [] None ∷ []) 1 290 init_returns_0_seen_1) (as_run (inside recorder program_init_returns (means_init_returns) (func_id 0) function_init_returns_0 (((codes "self"), (ref 0)) ∷ [])) (let same : calls_function recorder program_init_returns (means_init_returns) (func_id 0) ((ref 0) ∷ []) [] init_returns_0_at_4 ≡ inside recorder program_init_returns (means_init_returns) (func_id 0) function_init_returns_0 (((codes "self"), (ref 0)) ∷ []) init_returns_0_at_4 = refl in same) (gives_same (leaves init_returns_0_at_4.frame ((Err (Returned (v.Int (pos 1)))), init_returns_0_at_3)) (in_frame recorder program_init_returns (func_id 0) function_init_returns_0 (((codes "self"), (ref 0)) ∷ []) (Err (Returned (v.Int (pos 1)))) init_returns_0_at_3 (then_ok (begins recorder (node 0)) _ tt (state_init_returns (Some (func_id 0)) (((codes "self"), (ref 0)) ∷ []) [] (object.Instance (Own 0) [] None ∷ []) 2 292 (began 3 ∷ began 4 ∷ began 5 ∷ began 6 ∷ began 0 ∷ [])) (leaf refl) (then_err (means_init_returns init_returns_n1) _ (Returned (v.Int (pos 1))) init_returns_0_at_3 (stmt_node recorder program_init_returns init_returns_n1 291 (y.outs-Return (Some init_returns_n2)) refl (then_ok (value_init_returns init_returns_n2) _ ((v.Int (pos 1)), (j.Plain true)) init_returns_0_at_3 (expr_node recorder program_init_returns init_returns_n2 290 (x.outs-IntLit (pos 1)) refl (leaf (simp views))) (leaf refl)))))) (simp views))) (leaf (first_of (simp views, simp tuples, search)))))))))))))))) (refl)))))))))

abbrev value_super_chain : Expr → Run Trail Finding
value_super_chain = value_of recorder program_super_chain

abbrev means_super_chain : Stmt → Run Trail Finding
means_super_chain = means recorder program_super_chain

abbrev super_chain_0_seen_1 : Trail
super_chain_0_seen_1 = began 26 ∷ began 27 ∷ began 28 ∷ began 29 ∷ began 30 ∷ began 31 ∷ began 32 ∷ began 0 ∷ began 1 ∷ began 3 ∷ began 2 ∷ began 33 ∷ began 10 ∷ began 11 ∷ began 12 ∷ began 13 ∷ began 14 ∷ began 4 ∷ began 5 ∷ began 6 ∷ began 7 ∷ began 8 ∷ began 9 ∷ began 15 ∷ began 34 ∷ began 35 ∷ began 36 ∷ began 16 ∷ began 17 ∷ began 18 ∷ began 19 ∷ began 0 ∷ began 1 ∷ began 3 ∷ began 2 ∷ began 20 ∷ began 21 ∷ began 22 ∷ began 23 ∷ began 24 ∷ began 10 ∷ began 11 ∷ began 12 ∷ began 13 ∷ began 14 ∷ began 4 ∷ began 5 ∷ began 6 ∷ began 7 ∷ began 8 ∷ began 9 ∷ began 15 ∷ began 25 ∷ began 37 ∷ began 38 ∷ began 39 ∷ began 16 ∷ began 17 ∷ began 18 ∷ began 19 ∷ began 0 ∷ began 1 ∷ began 3 ∷ began 2 ∷ []

abbrev super_chain_0_seen_2 : Trail
super_chain_0_seen_2 = began 26 ∷ began 27 ∷ began 28 ∷ began 29 ∷ began 30 ∷ began 31 ∷ began 32 ∷ began 0 ∷ began 1 ∷ began 3 ∷ began 2 ∷ began 33 ∷ began 10 ∷ began 11 ∷ began 12 ∷ began 13 ∷ began 14 ∷ began 4 ∷ began 5 ∷ began 6 ∷ began 7 ∷ began 8 ∷ began 9 ∷ began 15 ∷ began 34 ∷ began 35 ∷ began 36 ∷ began 16 ∷ began 17 ∷ began 18 ∷ began 19 ∷ began 0 ∷ began 1 ∷ began 3 ∷ began 2 ∷ began 20 ∷ began 21 ∷ began 22 ∷ began 23 ∷ began 24 ∷ began 10 ∷ began 11 ∷ began 12 ∷ began 13 ∷ began 14 ∷ began 4 ∷ began 5 ∷ began 6 ∷ began 7 ∷ began 8 ∷ began 9 ∷ began 15 ∷ began 25 ∷ began 37 ∷ began 38 ∷ began 39 ∷ began 16 ∷ began 17 ∷ began 18 ∷ began 19 ∷ []

abbrev super_chain_0_seen_3 : Trail
super_chain_0_seen_3 = began 26 ∷ began 27 ∷ began 28 ∷ began 29 ∷ began 30 ∷ began 31 ∷ began 32 ∷ began 0 ∷ began 1 ∷ began 3 ∷ began 2 ∷ began 33 ∷ began 10 ∷ began 11 ∷ began 12 ∷ began 13 ∷ began 14 ∷ began 4 ∷ began 5 ∷ began 6 ∷ began 7 ∷ began 8 ∷ began 9 ∷ began 15 ∷ began 34 ∷ began 35 ∷ began 36 ∷ began 16 ∷ began 17 ∷ began 18 ∷ began 19 ∷ began 0 ∷ began 1 ∷ began 3 ∷ began 2 ∷ began 20 ∷ began 21 ∷ began 22 ∷ began 23 ∷ began 24 ∷ began 10 ∷ began 11 ∷ began 12 ∷ began 13 ∷ began 14 ∷ began 4 ∷ began 5 ∷ began 6 ∷ began 7 ∷ began 8 ∷ began 9 ∷ began 15 ∷ began 25 ∷ began 37 ∷ began 38 ∷ began 39 ∷ began 16 ∷ began 17 ∷ began 18 ∷ []

abbrev super_chain_0_seen_4 : Trail
super_chain_0_seen_4 = began 26 ∷ began 27 ∷ began 28 ∷ began 29 ∷ began 30 ∷ began 31 ∷ began 32 ∷ began 0 ∷ began 1 ∷ began 3 ∷ began 2 ∷ began 33 ∷ began 10 ∷ began 11 ∷ began 12 ∷ began 13 ∷ began 14 ∷ began 4 ∷ began 5 ∷ began 6 ∷ began 7 ∷ began 8 ∷ began 9 ∷ began 15 ∷ began 34 ∷ began 35 ∷ began 36 ∷ began 16 ∷ began 17 ∷ began 18 ∷ began 19 ∷ began 0 ∷ began 1 ∷ began 3 ∷ began 2 ∷ began 20 ∷ began 21 ∷ began 22 ∷ began 23 ∷ began 24 ∷ began 10 ∷ began 11 ∷ began 12 ∷ began 13 ∷ began 14 ∷ began 4 ∷ began 5 ∷ began 6 ∷ began 7 ∷ began 8 ∷ began 9 ∷ began 15 ∷ began 25 ∷ began 37 ∷ began 38 ∷ began 39 ∷ []

abbrev super_chain_0_seen_5 : Trail
super_chain_0_seen_5 = began 26 ∷ began 27 ∷ began 28 ∷ began 29 ∷ began 30 ∷ began 31 ∷ began 32 ∷ began 0 ∷ began 1 ∷ began 3 ∷ began 2 ∷ began 33 ∷ began 10 ∷ began 11 ∷ began 12 ∷ began 13 ∷ began 14 ∷ began 4 ∷ began 5 ∷ began 6 ∷ began 7 ∷ began 8 ∷ began 9 ∷ began 15 ∷ began 34 ∷ began 35 ∷ began 36 ∷ began 16 ∷ began 17 ∷ began 18 ∷ began 19 ∷ began 0 ∷ began 1 ∷ began 3 ∷ began 2 ∷ began 20 ∷ began 21 ∷ began 22 ∷ began 23 ∷ began 24 ∷ began 10 ∷ began 11 ∷ began 12 ∷ began 13 ∷ began 14 ∷ began 4 ∷ began 5 ∷ began 6 ∷ began 7 ∷ began 8 ∷ began 9 ∷ began 15 ∷ began 25 ∷ []

abbrev super_chain_0_seen_6 : Trail
super_chain_0_seen_6 = began 26 ∷ began 27 ∷ began 28 ∷ began 29 ∷ began 30 ∷ began 31 ∷ began 32 ∷ began 0 ∷ began 1 ∷ began 3 ∷ began 2 ∷ began 33 ∷ began 10 ∷ began 11 ∷ began 12 ∷ began 13 ∷ began 14 ∷ began 4 ∷ began 5 ∷ began 6 ∷ began 7 ∷ began 8 ∷ began 9 ∷ began 15 ∷ began 34 ∷ began 35 ∷ began 36 ∷ began 16 ∷ began 17 ∷ began 18 ∷ began 19 ∷ began 0 ∷ began 1 ∷ began 3 ∷ began 2 ∷ began 20 ∷ began 21 ∷ began 22 ∷ began 23 ∷ began 24 ∷ began 10 ∷ began 11 ∷ began 12 ∷ began 13 ∷ began 14 ∷ began 4 ∷ began 5 ∷ began 6 ∷ began 7 ∷ began 8 ∷ began 9 ∷ began 15 ∷ []

abbrev super_chain_0_seen_7 : Trail
super_chain_0_seen_7 = began 26 ∷ began 27 ∷ began 28 ∷ began 29 ∷ began 30 ∷ began 31 ∷ began 32 ∷ began 0 ∷ began 1 ∷ began 3 ∷ began 2 ∷ began 33 ∷ began 10 ∷ began 11 ∷ began 12 ∷ began 13 ∷ began 14 ∷ began 4 ∷ began 5 ∷ began 6 ∷ began 7 ∷ began 8 ∷ began 9 ∷ began 15 ∷ began 34 ∷ began 35 ∷ began 36 ∷ began 16 ∷ began 17 ∷ began 18 ∷ began 19 ∷ began 0 ∷ began 1 ∷ began 3 ∷ began 2 ∷ began 20 ∷ began 21 ∷ began 22 ∷ began 23 ∷ began 24 ∷ began 10 ∷ began 11 ∷ began 12 ∷ began 13 ∷ began 14 ∷ began 4 ∷ began 5 ∷ began 6 ∷ began 7 ∷ began 8 ∷ began 9 ∷ []

abbrev super_chain_0_seen_8 : Trail
super_chain_0_seen_8 = began 26 ∷ began 27 ∷ began 28 ∷ began 29 ∷ began 30 ∷ began 31 ∷ began 32 ∷ began 0 ∷ began 1 ∷ began 3 ∷ began 2 ∷ began 33 ∷ began 10 ∷ began 11 ∷ began 12 ∷ began 13 ∷ began 14 ∷ began 4 ∷ began 5 ∷ began 6 ∷ began 7 ∷ began 8 ∷ began 9 ∷ began 15 ∷ began 34 ∷ began 35 ∷ began 36 ∷ began 16 ∷ began 17 ∷ began 18 ∷ began 19 ∷ began 0 ∷ began 1 ∷ began 3 ∷ began 2 ∷ began 20 ∷ began 21 ∷ began 22 ∷ began 23 ∷ began 24 ∷ began 10 ∷ began 11 ∷ began 12 ∷ began 13 ∷ began 14 ∷ began 4 ∷ began 5 ∷ began 6 ∷ began 7 ∷ began 8 ∷ []

abbrev super_chain_0_seen_9 : Trail
super_chain_0_seen_9 = began 26 ∷ began 27 ∷ began 28 ∷ began 29 ∷ began 30 ∷ began 31 ∷ began 32 ∷ began 0 ∷ began 1 ∷ began 3 ∷ began 2 ∷ began 33 ∷ began 10 ∷ began 11 ∷ began 12 ∷ began 13 ∷ began 14 ∷ began 4 ∷ began 5 ∷ began 6 ∷ began 7 ∷ began 8 ∷ began 9 ∷ began 15 ∷ began 34 ∷ began 35 ∷ began 36 ∷ began 16 ∷ began 17 ∷ began 18 ∷ began 19 ∷ began 0 ∷ began 1 ∷ began 3 ∷ began 2 ∷ began 20 ∷ began 21 ∷ began 22 ∷ began 23 ∷ began 24 ∷ began 10 ∷ began 11 ∷ began 12 ∷ began 13 ∷ began 14 ∷ []

abbrev super_chain_0_seen_10 : Trail
super_chain_0_seen_10 = began 26 ∷ began 27 ∷ began 28 ∷ began 29 ∷ began 30 ∷ began 31 ∷ began 32 ∷ began 0 ∷ began 1 ∷ began 3 ∷ began 2 ∷ began 33 ∷ began 10 ∷ began 11 ∷ began 12 ∷ began 13 ∷ began 14 ∷ began 4 ∷ began 5 ∷ began 6 ∷ began 7 ∷ began 8 ∷ began 9 ∷ began 15 ∷ began 34 ∷ began 35 ∷ began 36 ∷ began 16 ∷ began 17 ∷ began 18 ∷ began 19 ∷ began 0 ∷ began 1 ∷ began 3 ∷ began 2 ∷ began 20 ∷ began 21 ∷ began 22 ∷ began 23 ∷ began 24 ∷ began 10 ∷ began 11 ∷ began 12 ∷ began 13 ∷ []

abbrev super_chain_0_seen_11 : Trail
super_chain_0_seen_11 = began 26 ∷ began 27 ∷ began 28 ∷ began 29 ∷ began 30 ∷ began 31 ∷ began 32 ∷ began 0 ∷ began 1 ∷ began 3 ∷ began 2 ∷ began 33 ∷ began 10 ∷ began 11 ∷ began 12 ∷ began 13 ∷ began 14 ∷ began 4 ∷ began 5 ∷ began 6 ∷ began 7 ∷ began 8 ∷ began 9 ∷ began 15 ∷ began 34 ∷ began 35 ∷ began 36 ∷ began 16 ∷ began 17 ∷ began 18 ∷ began 19 ∷ began 0 ∷ began 1 ∷ began 3 ∷ began 2 ∷ began 20 ∷ began 21 ∷ began 22 ∷ began 23 ∷ began 24 ∷ []

abbrev super_chain_0_seen_12 : Trail
super_chain_0_seen_12 = began 26 ∷ began 27 ∷ began 28 ∷ began 29 ∷ began 30 ∷ began 31 ∷ began 32 ∷ began 0 ∷ began 1 ∷ began 3 ∷ began 2 ∷ began 33 ∷ began 10 ∷ began 11 ∷ began 12 ∷ began 13 ∷ began 14 ∷ began 4 ∷ began 5 ∷ began 6 ∷ began 7 ∷ began 8 ∷ began 9 ∷ began 15 ∷ began 34 ∷ began 35 ∷ began 36 ∷ began 16 ∷ began 17 ∷ began 18 ∷ began 19 ∷ began 0 ∷ began 1 ∷ began 3 ∷ began 2 ∷ began 20 ∷ began 21 ∷ began 22 ∷ began 23 ∷ []

abbrev super_chain_0_seen_13 : Trail
super_chain_0_seen_13 = began 26 ∷ began 27 ∷ began 28 ∷ began 29 ∷ began 30 ∷ began 31 ∷ began 32 ∷ began 0 ∷ began 1 ∷ began 3 ∷ began 2 ∷ began 33 ∷ began 10 ∷ began 11 ∷ began 12 ∷ began 13 ∷ began 14 ∷ began 4 ∷ began 5 ∷ began 6 ∷ began 7 ∷ began 8 ∷ began 9 ∷ began 15 ∷ began 34 ∷ began 35 ∷ began 36 ∷ began 16 ∷ began 17 ∷ began 18 ∷ began 19 ∷ began 0 ∷ began 1 ∷ began 3 ∷ began 2 ∷ []

abbrev super_chain_0_seen_14 : Trail
super_chain_0_seen_14 = began 26 ∷ began 27 ∷ began 28 ∷ began 29 ∷ began 30 ∷ began 31 ∷ began 32 ∷ began 0 ∷ began 1 ∷ began 3 ∷ began 2 ∷ began 33 ∷ began 10 ∷ began 11 ∷ began 12 ∷ began 13 ∷ began 14 ∷ began 4 ∷ began 5 ∷ began 6 ∷ began 7 ∷ began 8 ∷ began 9 ∷ began 15 ∷ began 34 ∷ began 35 ∷ began 36 ∷ began 16 ∷ began 17 ∷ began 18 ∷ began 19 ∷ []

abbrev super_chain_0_seen_15 : Trail
super_chain_0_seen_15 = began 26 ∷ began 27 ∷ began 28 ∷ began 29 ∷ began 30 ∷ began 31 ∷ began 32 ∷ began 0 ∷ began 1 ∷ began 3 ∷ began 2 ∷ began 33 ∷ began 10 ∷ began 11 ∷ began 12 ∷ began 13 ∷ began 14 ∷ began 4 ∷ began 5 ∷ began 6 ∷ began 7 ∷ began 8 ∷ began 9 ∷ began 15 ∷ began 34 ∷ began 35 ∷ began 36 ∷ began 16 ∷ began 17 ∷ began 18 ∷ []

abbrev super_chain_0_seen_16 : Trail
super_chain_0_seen_16 = began 26 ∷ began 27 ∷ began 28 ∷ began 29 ∷ began 30 ∷ began 31 ∷ began 32 ∷ began 0 ∷ began 1 ∷ began 3 ∷ began 2 ∷ began 33 ∷ began 10 ∷ began 11 ∷ began 12 ∷ began 13 ∷ began 14 ∷ began 4 ∷ began 5 ∷ began 6 ∷ began 7 ∷ began 8 ∷ began 9 ∷ began 15 ∷ began 34 ∷ began 35 ∷ began 36 ∷ []

abbrev super_chain_0_seen_17 : Trail
super_chain_0_seen_17 = began 26 ∷ began 27 ∷ began 28 ∷ began 29 ∷ began 30 ∷ began 31 ∷ began 32 ∷ began 0 ∷ began 1 ∷ began 3 ∷ began 2 ∷ began 33 ∷ began 10 ∷ began 11 ∷ began 12 ∷ began 13 ∷ began 14 ∷ began 4 ∷ began 5 ∷ began 6 ∷ began 7 ∷ began 8 ∷ began 9 ∷ began 15 ∷ []

abbrev super_chain_0_seen_18 : Trail
super_chain_0_seen_18 = began 26 ∷ began 27 ∷ began 28 ∷ began 29 ∷ began 30 ∷ began 31 ∷ began 32 ∷ began 0 ∷ began 1 ∷ began 3 ∷ began 2 ∷ began 33 ∷ began 10 ∷ began 11 ∷ began 12 ∷ began 13 ∷ began 14 ∷ began 4 ∷ began 5 ∷ began 6 ∷ began 7 ∷ began 8 ∷ began 9 ∷ []

abbrev super_chain_0_seen_19 : Trail
super_chain_0_seen_19 = began 26 ∷ began 27 ∷ began 28 ∷ began 29 ∷ began 30 ∷ began 31 ∷ began 32 ∷ began 0 ∷ began 1 ∷ began 3 ∷ began 2 ∷ began 33 ∷ began 10 ∷ began 11 ∷ began 12 ∷ began 13 ∷ began 14 ∷ began 4 ∷ began 5 ∷ began 6 ∷ began 7 ∷ began 8 ∷ []

abbrev super_chain_0_seen_20 : Trail
super_chain_0_seen_20 = began 26 ∷ began 27 ∷ began 28 ∷ began 29 ∷ began 30 ∷ began 31 ∷ began 32 ∷ began 0 ∷ began 1 ∷ began 3 ∷ began 2 ∷ began 33 ∷ began 10 ∷ began 11 ∷ began 12 ∷ began 13 ∷ began 14 ∷ []

abbrev super_chain_0_seen_21 : Trail
super_chain_0_seen_21 = began 26 ∷ began 27 ∷ began 28 ∷ began 29 ∷ began 30 ∷ began 31 ∷ began 32 ∷ began 0 ∷ began 1 ∷ began 3 ∷ began 2 ∷ began 33 ∷ began 10 ∷ began 11 ∷ began 12 ∷ began 13 ∷ []

abbrev super_chain_0_seen_22 : Trail
super_chain_0_seen_22 = began 26 ∷ began 27 ∷ began 28 ∷ began 29 ∷ began 30 ∷ began 31 ∷ began 32 ∷ began 0 ∷ began 1 ∷ began 3 ∷ began 2 ∷ began 33 ∷ []

abbrev super_chain_0_seen_23 : Trail
super_chain_0_seen_23 = began 26 ∷ began 27 ∷ began 28 ∷ began 29 ∷ began 30 ∷ began 31 ∷ began 32 ∷ began 0 ∷ began 1 ∷ began 3 ∷ began 2 ∷ []

abbrev super_chain_0_seen_24 : Trail
super_chain_0_seen_24 = began 26 ∷ began 27 ∷ began 28 ∷ began 29 ∷ began 30 ∷ began 31 ∷ began 32 ∷ []

abbrev super_chain_0_seen_25 : Trail
super_chain_0_seen_25 = began 26 ∷ began 27 ∷ began 28 ∷ began 29 ∷ began 30 ∷ began 31 ∷ []

abbrev super_chain_0_at_1 : State World Trail
super_chain_0_at_1 = state_super_chain (Some (func_id 0)) (((codes "self"), (ref 2)) ∷ ((codes "x"), (v.Int (pos 4))) ∷ []) [] (object.Instance (Own 1) (((codes "x"), (v.Int (pos 3))) ∷ []) None ∷ object.Instance (Own 2) (((codes "x"), (v.Int (pos 4))) ∷ []) None ∷ object.Instance (Own 2) (((codes "x"), (v.Int (pos 4))) ∷ []) None ∷ []) 3 233 super_chain_0_seen_1

abbrev super_chain_0_at_2 : State World Trail
super_chain_0_at_2 = state_super_chain (Some (func_id 3)) (((codes "self"), (ref 2)) ∷ []) [] (object.Instance (Own 1) (((codes "x"), (v.Int (pos 3))) ∷ []) None ∷ object.Instance (Own 2) (((codes "x"), (v.Int (pos 4))) ∷ []) None ∷ object.Instance (Own 2) (((codes "x"), (v.Int (pos 4))) ∷ []) None ∷ []) 2 233 super_chain_0_seen_1

abbrev super_chain_0_at_3 : State World Trail
super_chain_0_at_3 = state_super_chain (Some (func_id 5)) [] [] (object.Instance (Own 1) (((codes "x"), (v.Int (pos 3))) ∷ []) None ∷ object.Instance (Own 2) (((codes "x"), (v.Int (pos 4))) ∷ []) None ∷ object.Instance (Own 2) (((codes "x"), (v.Int (pos 4))) ∷ []) None ∷ []) 1 230 super_chain_0_seen_1

abbrev super_chain_0_at_4 : State World Trail
super_chain_0_at_4 = state_super_chain (Some (func_id 5)) [] [] (object.Instance (Own 1) (((codes "x"), (v.Int (pos 3))) ∷ []) None ∷ object.Instance (Own 2) (((codes "x"), (v.Int (pos 4))) ∷ []) None ∷ object.Instance (Own 2) (((codes "x"), (v.Int (pos 4))) ∷ []) None ∷ []) 1 233 super_chain_0_seen_1

abbrev super_chain_0_at_5 : State World Trail
super_chain_0_at_5 = state_super_chain (Some (func_id 0)) (((codes "self"), (ref 1)) ∷ ((codes "x"), (v.Int (pos 4))) ∷ []) [] (object.Instance (Own 1) (((codes "x"), (v.Int (pos 3))) ∷ []) None ∷ object.Instance (Own 2) (((codes "x"), (v.Int (pos 4))) ∷ []) None ∷ []) 3 262 super_chain_0_seen_13

abbrev super_chain_0_at_6 : State World Trail
super_chain_0_at_6 = state_super_chain (Some (func_id 4)) (((codes "self"), (ref 1)) ∷ ((codes "n"), (v.Int (pos 0))) ∷ []) [] (object.Instance (Own 1) (((codes "x"), (v.Int (pos 3))) ∷ []) None ∷ object.Instance (Own 2) (((codes "x"), (v.Int (pos 4))) ∷ []) None ∷ []) 2 258 super_chain_0_seen_12

abbrev super_chain_0_at_7 : State World Trail
super_chain_0_at_7 = state_super_chain (Some (func_id 4)) (((codes "self"), (ref 1)) ∷ ((codes "n"), (v.Int (pos 0))) ∷ []) [] (object.Instance (Own 1) (((codes "x"), (v.Int (pos 3))) ∷ []) None ∷ object.Instance (Own 2) (((codes "x"), (v.Int (pos 4))) ∷ []) None ∷ []) 2 257 super_chain_0_seen_11

abbrev super_chain_0_at_8 : State World Trail
super_chain_0_at_8 = state_super_chain (Some (func_id 2)) (((codes "self"), (ref 1)) ∷ ((codes "n"), (v.Int (pos 0))) ∷ []) [] (object.Instance (Own 1) (((codes "x"), (v.Int (pos 3))) ∷ []) None ∷ object.Instance (Own 2) (((codes "x"), (v.Int (pos 4))) ∷ []) None ∷ []) 3 253 super_chain_0_seen_10

abbrev super_chain_0_at_9 : State World Trail
super_chain_0_at_9 = state_super_chain (Some (func_id 3)) (((codes "self"), (ref 2)) ∷ []) [] (object.Instance (Own 1) (((codes "x"), (v.Int (pos 3))) ∷ []) None ∷ object.Instance (Own 2) (((codes "x"), (v.Int (pos 4))) ∷ []) None ∷ object.Instance (Own 2) [] None ∷ []) 2 238 super_chain_0_seen_3

abbrev super_chain_0_at_10 : State World Trail
super_chain_0_at_10 = state_super_chain (Some (func_id 3)) (((codes "self"), (ref 2)) ∷ []) [] (object.Instance (Own 1) (((codes "x"), (v.Int (pos 3))) ∷ []) None ∷ object.Instance (Own 2) (((codes "x"), (v.Int (pos 4))) ∷ []) None ∷ object.Instance (Own 2) [] None ∷ []) 2 237 super_chain_0_seen_2

abbrev super_chain_0_at_11 : State World Trail
super_chain_0_at_11 = state_super_chain (Some (func_id 4)) (((codes "self"), (ref 1)) ∷ ((codes "n"), (v.Int (pos 0))) ∷ []) [] (object.Instance (Own 1) (((codes "x"), (v.Int (pos 3))) ∷ []) None ∷ object.Instance (Own 2) (((codes "x"), (v.Int (pos 4))) ∷ []) None ∷ []) 2 244 super_chain_0_seen_5

abbrev super_chain_0_at_12 : State World Trail
super_chain_0_at_12 = state_super_chain (Some (func_id 2)) (((codes "self"), (ref 1)) ∷ ((codes "n"), (v.Int (pos 0))) ∷ []) [] (object.Instance (Own 1) (((codes "x"), (v.Int (pos 3))) ∷ []) None ∷ object.Instance (Own 2) (((codes "x"), (v.Int (pos 4))) ∷ []) None ∷ []) 3 245 super_chain_0_seen_6

abbrev super_chain_0_at_13 : State World Trail
super_chain_0_at_13 = state_super_chain (Some (func_id 2)) (((codes "self"), (ref 1)) ∷ ((codes "n"), (v.Int (pos 0))) ∷ []) [] (object.Instance (Own 1) (((codes "x"), (v.Int (pos 3))) ∷ []) None ∷ object.Instance (Own 2) (((codes "x"), (v.Int (pos 4))) ∷ []) None ∷ []) 3 252 super_chain_0_seen_9

abbrev super_chain_0_at_14 : State World Trail
super_chain_0_at_14 = state_super_chain (Some (func_id 1)) (((codes "self"), (ref 1)) ∷ ((codes "n"), (v.Int (pos 0))) ∷ []) [] (object.Instance (Own 1) (((codes "x"), (v.Int (pos 3))) ∷ []) None ∷ object.Instance (Own 2) (((codes "x"), (v.Int (pos 4))) ∷ []) None ∷ []) 4 246 super_chain_0_seen_7

abbrev super_chain_0_at_15 : State World Trail
super_chain_0_at_15 = state_super_chain (Some (func_id 1)) (((codes "self"), (ref 1)) ∷ ((codes "n"), (v.Int (pos 0))) ∷ []) [] (object.Instance (Own 1) (((codes "x"), (v.Int (pos 3))) ∷ []) None ∷ object.Instance (Own 2) (((codes "x"), (v.Int (pos 4))) ∷ []) None ∷ []) 4 247 super_chain_0_seen_8

abbrev super_chain_0_at_16 : State World Trail
super_chain_0_at_16 = state_super_chain (Some (func_id 5)) [] [] (object.Instance (Own 1) (((codes "x"), (v.Int (pos 3))) ∷ []) None ∷ object.Instance (Own 2) (((codes "x"), (v.Int (pos 4))) ∷ []) None ∷ object.Instance (Own 2) [] None ∷ []) 1 241 super_chain_0_seen_4

abbrev super_chain_0_at_17 : State World Trail
super_chain_0_at_17 = state_super_chain (Some (func_id 3)) (((codes "self"), (ref 1)) ∷ []) [] (object.Instance (Own 1) (((codes "x"), (v.Int (pos 3))) ∷ []) None ∷ object.Instance (Own 2) (((codes "x"), (v.Int (pos 4))) ∷ []) None ∷ []) 2 262 super_chain_0_seen_13

abbrev super_chain_0_at_18 : State World Trail
super_chain_0_at_18 = state_super_chain (Some (func_id 5)) [] [] (object.Instance (Own 1) (((codes "x"), (v.Int (pos 3))) ∷ []) None ∷ object.Instance (Own 2) (((codes "x"), (v.Int (pos 4))) ∷ []) None ∷ []) 1 262 super_chain_0_seen_13

abbrev super_chain_0_at_19 : State World Trail
super_chain_0_at_19 = state_super_chain (Some (func_id 5)) [] [] (object.Instance (Own 1) (((codes "x"), (v.Int (pos 3))) ∷ []) None ∷ object.Instance (Own 2) (((codes "x"), (v.Int (pos 4))) ∷ []) None ∷ []) 1 241 super_chain_0_seen_4

abbrev super_chain_0_at_20 : State World Trail
super_chain_0_at_20 = state_super_chain (Some (func_id 3)) (((codes "self"), (ref 1)) ∷ []) [] (object.Instance (Own 1) (((codes "x"), (v.Int (pos 3))) ∷ []) None ∷ object.Instance (Own 2) [] None ∷ []) 2 267 super_chain_0_seen_15

abbrev super_chain_0_at_21 : State World Trail
super_chain_0_at_21 = state_super_chain (Some (func_id 3)) (((codes "self"), (ref 1)) ∷ []) [] (object.Instance (Own 1) (((codes "x"), (v.Int (pos 3))) ∷ []) None ∷ object.Instance (Own 2) [] None ∷ []) 2 266 super_chain_0_seen_14

abbrev super_chain_0_at_22 : State World Trail
super_chain_0_at_22 = state_super_chain (Some (func_id 0)) (((codes "self"), (ref 0)) ∷ ((codes "x"), (v.Int (pos 3))) ∷ []) [] (object.Instance (Own 1) (((codes "x"), (v.Int (pos 3))) ∷ []) None ∷ []) 2 286 super_chain_0_seen_23

abbrev super_chain_0_at_23 : State World Trail
super_chain_0_at_23 = state_super_chain (Some (func_id 2)) (((codes "self"), (ref 0)) ∷ ((codes "n"), (v.Int (pos 1))) ∷ []) [] (object.Instance (Own 1) (((codes "x"), (v.Int (pos 3))) ∷ []) None ∷ []) 2 273 super_chain_0_seen_17

abbrev super_chain_0_at_24 : State World Trail
super_chain_0_at_24 = state_super_chain (Some (func_id 2)) (((codes "self"), (ref 0)) ∷ ((codes "n"), (v.Int (pos 1))) ∷ []) [] (object.Instance (Own 1) (((codes "x"), (v.Int (pos 3))) ∷ []) None ∷ []) 2 281 super_chain_0_seen_21

abbrev super_chain_0_at_25 : State World Trail
super_chain_0_at_25 = state_super_chain (Some (func_id 2)) (((codes "self"), (ref 0)) ∷ ((codes "n"), (v.Int (pos 1))) ∷ []) [] (object.Instance (Own 1) (((codes "x"), (v.Int (pos 3))) ∷ []) None ∷ []) 2 280 super_chain_0_seen_20

abbrev super_chain_0_at_26 : State World Trail
super_chain_0_at_26 = state_super_chain (Some (func_id 1)) (((codes "self"), (ref 0)) ∷ ((codes "n"), (v.Int (pos 1))) ∷ []) [] (object.Instance (Own 1) (((codes "x"), (v.Int (pos 3))) ∷ []) None ∷ []) 3 274 super_chain_0_seen_18

abbrev super_chain_0_at_27 : State World Trail
super_chain_0_at_27 = state_super_chain (Some (func_id 1)) (((codes "self"), (ref 0)) ∷ ((codes "n"), (v.Int (pos 1))) ∷ []) [] (object.Instance (Own 1) (((codes "x"), (v.Int (pos 3))) ∷ []) None ∷ []) 3 275 super_chain_0_seen_19

abbrev super_chain_0_at_28 : State World Trail
super_chain_0_at_28 = state_super_chain (Some (func_id 5)) [] [] (object.Instance (Own 1) (((codes "x"), (v.Int (pos 3))) ∷ []) None ∷ object.Instance (Own 2) [] None ∷ []) 1 270 super_chain_0_seen_16

abbrev super_chain_0_at_29 : State World Trail
super_chain_0_at_29 = state_super_chain (Some (func_id 5)) [] [] (object.Instance (Own 1) (((codes "x"), (v.Int (pos 3))) ∷ []) None ∷ []) 1 286 super_chain_0_seen_23

abbrev super_chain_0_at_30 : State World Trail
super_chain_0_at_30 = state_super_chain (Some (func_id 5)) [] [] (object.Instance (Own 1) (((codes "x"), (v.Int (pos 3))) ∷ []) None ∷ []) 1 285 super_chain_0_seen_22

abbrev super_chain_0_at_31 : State World Trail
super_chain_0_at_31 = state_super_chain (Some (func_id 5)) [] [] (object.Instance (Own 1) (((codes "x"), (v.Int (pos 3))) ∷ []) None ∷ []) 1 270 super_chain_0_seen_16

abbrev super_chain_0_at_32 : State World Trail
super_chain_0_at_32 = state_super_chain (Some (func_id 5)) [] [] (object.Instance (Own 1) [] None ∷ []) 1 290 super_chain_0_seen_24

abbrev super_chain_0_at_33 : State World Trail
super_chain_0_at_33 = state_super_chain (Some (func_id 5)) [] [] [] 1 291 super_chain_0_seen_25

abbrev super_chain_0_at_34 : State World Trail
super_chain_0_at_34 = state_super_chain (Some (func_id 5)) [] [] [] 1 290 super_chain_0_seen_24

pub super_chain_0 : Yields (means_super_chain super_chain_t5) (state_super_chain None [] [] [] 0 300 []) ((Ok (v.None, (j.Plain false))), (state_super_chain None (((codes "var_8"), (tuple ((v.Int (pos 40)) ∷ (v.Int (pos 41)) ∷ (v.Int (pos 7)) ∷ []))) ∷ []) [] (object.Instance (Own 1) (((codes "x"), (v.Int (pos 3))) ∷ []) None ∷ object.Instance (Own 2) (((codes "x"), (v.Int (pos 4))) ∷ []) None ∷ object.Instance (Own 2) (((codes "x"), (v.Int (pos 4))) ∷ []) None ∷ []) 0 230 super_chain_0_seen_1))
unfolding equal ordered
super_chain_0 =
    stmt_node recorder program_super_chain super_chain_t5 299 (y.outs-Assign ((target.Name (codes "var_8")) ∷ []) false None super_chain_t4) refl (then_ok (value_super_chain super_chain_t4) _ ((tuple ((v.Int (pos 40)) ∷ (v.Int (pos 41)) ∷ (v.Int (pos 7)) ∷ [])), (j.Plain true)) (state_super_chain None [] [] (object.Instance (Own 1) (((codes "x"), (v.Int (pos 3))) ∷ []) None ∷ object.Instance (Own 2) (((codes "x"), (v.Int (pos 4))) ∷ []) None ∷ object.Instance (Own 2) (((codes "x"), (v.Int (pos 4))) ∷ []) None ∷ []) 0 230 super_chain_0_seen_1) (expr_node recorder program_super_chain super_chain_t4 298 (x.outs-Method super_chain_t3 (codes "f") (args [] [])) refl (then_ok (value_super_chain super_chain_t3) _ (v.ModuleRef, (j.Plain true)) (state_super_chain None [] [] [] 0 297 []) (expr_node recorder program_super_chain super_chain_t3 297 (x.outs-Name (codes "module_0")) refl (leaf (simp views))) (then_ok (finds program_super_chain v.ModuleRef (codes "f")) _ (callee.Value (v.Func (func_id 5))) (state_super_chain None [] [] [] 0 297 []) (leaf (first_of (simp views, simp tuples, search))) (as_run (plain_arguments recorder program_super_chain (value_super_chain) (means_super_chain) (callee.Value (v.Func (func_id 5))) [] [] []) (ap (λ args. plain_arguments recorder program_super_chain (value_super_chain) (means_super_chain) (callee.Value (v.Func (func_id 5))) [] args.plain args.named (state_super_chain None [] [] [] 0 297 [])) (out-roll-Args _)) (as_run (calls_function recorder program_super_chain (means_super_chain) (func_id 5) [] []) (ap (λ level. calls_value recorder program_super_chain (means_super_chain) level [] [] (state_super_chain None [] [] [] 0 297 [])) (outs-Func _)) (as_run (inside recorder program_super_chain (means_super_chain) (func_id 5) function_super_chain_5 []) (let same : calls_function recorder program_super_chain (means_super_chain) (func_id 5) [] [] (state_super_chain None [] [] [] 0 297 []) ≡ inside recorder program_super_chain (means_super_chain) (func_id 5) function_super_chain_5 [] (state_super_chain None [] [] [] 0 297 []) = refl in same) (gives_same (leaves (state_super_chain None [] [] [] 0 297 []).frame ((Err (Returned (tuple ((v.Int (pos 40)) ∷ (v.Int (pos 41)) ∷ (v.Int (pos 7)) ∷ [])))), super_chain_0_at_3)) (in_frame recorder program_super_chain (func_id 5) function_super_chain_5 [] (Err (Returned (tuple ((v.Int (pos 40)) ∷ (v.Int (pos 41)) ∷ (v.Int (pos 7)) ∷ [])))) super_chain_0_at_3 (then_ok (begins recorder (node 26)) _ tt (state_super_chain (Some (func_id 5)) [] [] [] 1 296 (began 26 ∷ [])) (leaf refl) (then_err (means_super_chain super_chain_n27) _ (Returned (tuple ((v.Int (pos 40)) ∷ (v.Int (pos 41)) ∷ (v.Int (pos 7)) ∷ []))) super_chain_0_at_3 (stmt_node recorder program_super_chain super_chain_n27 295 (y.outs-Return (Some super_chain_n28)) refl (then_ok (value_super_chain super_chain_n28) _ ((tuple ((v.Int (pos 40)) ∷ (v.Int (pos 41)) ∷ (v.Int (pos 7)) ∷ [])), (j.Plain true)) super_chain_0_at_3 (expr_node recorder program_super_chain super_chain_n28 294 (x.outs-TupleLit (super_chain_n29 ∷ super_chain_n34 ∷ super_chain_n37 ∷ [])) refl (then_ok (value_super_chain super_chain_n29) _ ((v.Int (pos 40)), (j.Plain true)) (state_super_chain (Some (func_id 5)) [] [] (object.Instance (Own 1) (((codes "x"), (v.Int (pos 3))) ∷ []) None ∷ []) 1 273 super_chain_0_seen_17) (expr_node recorder program_super_chain super_chain_n29 293 (x.outs-Method super_chain_n30 (codes "get") (args (super_chain_n33 ∷ []) [])) refl (then_ok (value_super_chain super_chain_n30) _ ((ref 0), (j.Plain true)) super_chain_0_at_29 (expr_node recorder program_super_chain super_chain_n30 292 (x.outs-Call super_chain_n31 (args (super_chain_n32 ∷ []) [])) refl (as_run (calls_meant recorder program_super_chain (value_super_chain) (means_super_chain) None super_chain_n31 (args (super_chain_n32 ∷ []) [])) (ap (λ kind. calls_expr recorder program_super_chain (value_super_chain) (means_super_chain) kind super_chain_n31 (args (super_chain_n32 ∷ []) []) (state_super_chain (Some (func_id 5)) [] [] [] 1 292 (began 26 ∷ began 27 ∷ began 28 ∷ began 29 ∷ began 30 ∷ []))) (x.outs-Name (codes "B"))) (then_ok (value_super_chain super_chain_n31) _ ((v.Class (Own 1)), (j.Plain true)) super_chain_0_at_33 (expr_node recorder program_super_chain super_chain_n31 291 (x.outs-Name (codes "B")) refl (leaf (simp views))) (as_run (plain_arguments recorder program_super_chain (value_super_chain) (means_super_chain) (callee.Value (v.Class (Own 1))) [] (super_chain_n32 ∷ []) []) (ap (λ args. plain_arguments recorder program_super_chain (value_super_chain) (means_super_chain) (callee.Value (v.Class (Own 1))) [] args.plain args.named super_chain_0_at_33) (out-roll-Args _)) (then_ok (value_super_chain super_chain_n32) _ ((v.Int (pos 3)), (j.Plain true)) super_chain_0_at_34 (expr_node recorder program_super_chain super_chain_n32 290 (x.outs-IntLit (pos 3)) refl (leaf (simp views))) (as_run (calls_class recorder program_super_chain (means_super_chain) (Own 1) ((v.Int (pos 3)) ∷ []) []) (ap (λ level. calls_value recorder program_super_chain (means_super_chain) level ((v.Int (pos 3)) ∷ []) [] super_chain_0_at_34) (outs-Class _)) (as_run (makes_instance (Own 1) None >>= (λ id. initializes recorder program_super_chain (means_super_chain) id (func_id 0) ((v.Int (pos 3)) ∷ []) [])) (let same : calls_class recorder program_super_chain (means_super_chain) (Own 1) ((v.Int (pos 3)) ∷ []) [] super_chain_0_at_34 ≡ (makes_instance (Own 1) None >>= (λ id. initializes recorder program_super_chain (means_super_chain) id (func_id 0) ((v.Int (pos 3)) ∷ []) [])) super_chain_0_at_34 = refl in same) (then_ok (makes_instance (Own 1) None) (λ id. initializes recorder program_super_chain (means_super_chain) id (func_id 0) ((v.Int (pos 3)) ∷ []) []) (id 0) super_chain_0_at_32 (leaf refl) (then_ok (calls_function recorder program_super_chain (means_super_chain) (func_id 0) ((ref 0) ∷ (v.Int (pos 3)) ∷ []) []) (λ x. initialized (id 0) (out-Value x.0)) (v.None, (j.Plain false)) super_chain_0_at_29 (as_run (inside recorder program_super_chain (means_super_chain) (func_id 0) function_super_chain_0 (((codes "self"), (ref 0)) ∷ ((codes "x"), (v.Int (pos 3))) ∷ [])) (let same : calls_function recorder program_super_chain (means_super_chain) (func_id 0) ((ref 0) ∷ (v.Int (pos 3)) ∷ []) [] super_chain_0_at_32 ≡ inside recorder program_super_chain (means_super_chain) (func_id 0) function_super_chain_0 (((codes "self"), (ref 0)) ∷ ((codes "x"), (v.Int (pos 3))) ∷ []) super_chain_0_at_32 = refl in same) (gives_same (leaves super_chain_0_at_32.frame ((Ok (v.None, (j.Plain false))), super_chain_0_at_22)) (in_frame recorder program_super_chain (func_id 0) function_super_chain_0 (((codes "self"), (ref 0)) ∷ ((codes "x"), (v.Int (pos 3))) ∷ []) (Ok (v.None, (j.Plain false))) super_chain_0_at_22 (then_ok (begins recorder (node 0)) _ tt (state_super_chain (Some (func_id 0)) (((codes "self"), (ref 0)) ∷ ((codes "x"), (v.Int (pos 3))) ∷ []) [] (object.Instance (Own 1) [] None ∷ []) 2 289 (began 26 ∷ began 27 ∷ began 28 ∷ began 29 ∷ began 30 ∷ began 31 ∷ began 32 ∷ began 0 ∷ [])) (leaf refl) (then_ok (means_super_chain super_chain_n1) _ (v.None, (j.Plain false)) super_chain_0_at_22 (stmt_node recorder program_super_chain super_chain_n1 288 (y.outs-Assign ((target.Attr super_chain_n2 (codes "x")) ∷ []) false None super_chain_n3) refl (then_ok (value_super_chain super_chain_n3) _ ((v.Int (pos 3)), (j.Plain true)) (state_super_chain (Some (func_id 0)) (((codes "self"), (ref 0)) ∷ ((codes "x"), (v.Int (pos 3))) ∷ []) [] (object.Instance (Own 1) [] None ∷ []) 2 287 (began 26 ∷ began 27 ∷ began 28 ∷ began 29 ∷ began 30 ∷ began 31 ∷ began 32 ∷ began 0 ∷ began 1 ∷ began 3 ∷ [])) (expr_node recorder program_super_chain super_chain_n3 287 (x.outs-Name (codes "x")) refl (leaf (simp views))) (then_ok (stores program_super_chain (value_super_chain) (target.Attr super_chain_n2 (codes "x")) (v.Int (pos 3))) _ (v.None, (j.Plain false)) super_chain_0_at_22 (then_ok (value_super_chain super_chain_n2) _ ((ref 0), (j.Plain true)) (state_super_chain (Some (func_id 0)) (((codes "self"), (ref 0)) ∷ ((codes "x"), (v.Int (pos 3))) ∷ []) [] (object.Instance (Own 1) [] None ∷ []) 2 286 super_chain_0_seen_23) (expr_node recorder program_super_chain super_chain_n2 286 (x.outs-Name (codes "self")) refl (leaf (simp views))) (leaf (first_of (simp views, simp tuples, search)))) (leaf refl)))) (leaf refl)))) (refl))) (leaf (first_of (simp views, simp tuples, search)))))))))))) (then_ok (finds program_super_chain (ref 0) (codes "get")) _ (callee.Bound (id 0) (func_id 2)) super_chain_0_at_29 (leaf (first_of (simp views, simp tuples, search))) (as_run (plain_arguments recorder program_super_chain (value_super_chain) (means_super_chain) (callee.Bound (id 0) (func_id 2)) [] (super_chain_n33 ∷ []) []) (ap (λ args. plain_arguments recorder program_super_chain (value_super_chain) (means_super_chain) (callee.Bound (id 0) (func_id 2)) [] args.plain args.named super_chain_0_at_29) (out-roll-Args _)) (then_ok (value_super_chain super_chain_n33) _ ((v.Int (pos 1)), (j.Plain true)) super_chain_0_at_30 (expr_node recorder program_super_chain super_chain_n33 285 (x.outs-IntLit (pos 1)) refl (leaf (simp views))) (as_run (inside recorder program_super_chain (means_super_chain) (func_id 2) function_super_chain_2 (((codes "self"), (ref 0)) ∷ ((codes "n"), (v.Int (pos 1))) ∷ [])) (let same : calls_function recorder program_super_chain (means_super_chain) (func_id 2) ((ref 0) ∷ (v.Int (pos 1)) ∷ []) [] super_chain_0_at_30 ≡ inside recorder program_super_chain (means_super_chain) (func_id 2) function_super_chain_2 (((codes "self"), (ref 0)) ∷ ((codes "n"), (v.Int (pos 1))) ∷ []) super_chain_0_at_30 = refl in same) (gives_same (leaves super_chain_0_at_30.frame ((Err (Returned (v.Int (pos 40)))), super_chain_0_at_23)) (in_frame recorder program_super_chain (func_id 2) function_super_chain_2 (((codes "self"), (ref 0)) ∷ ((codes "n"), (v.Int (pos 1))) ∷ []) (Err (Returned (v.Int (pos 40)))) super_chain_0_at_23 (then_ok (begins recorder (node 10)) _ tt (state_super_chain (Some (func_id 2)) (((codes "self"), (ref 0)) ∷ ((codes "n"), (v.Int (pos 1))) ∷ []) [] (object.Instance (Own 1) (((codes "x"), (v.Int (pos 3))) ∷ []) None ∷ []) 2 284 (began 26 ∷ began 27 ∷ began 28 ∷ began 29 ∷ began 30 ∷ began 31 ∷ began 32 ∷ began 0 ∷ began 1 ∷ began 3 ∷ began 2 ∷ began 33 ∷ began 10 ∷ [])) (leaf refl) (then_err (means_super_chain super_chain_n11) _ (Returned (v.Int (pos 40))) super_chain_0_at_23 (stmt_node recorder program_super_chain super_chain_n11 283 (y.outs-Return (Some super_chain_n12)) refl (then_ok (value_super_chain super_chain_n12) _ ((v.Int (pos 40)), (j.Plain true)) super_chain_0_at_23 (expr_node recorder program_super_chain super_chain_n12 282 (x.outs-Binary Mul super_chain_n13 super_chain_n15) refl (then_ok (value_super_chain super_chain_n13) _ ((v.Int (pos 4)), (j.Plain true)) (state_super_chain (Some (func_id 2)) (((codes "self"), (ref 0)) ∷ ((codes "n"), (v.Int (pos 1))) ∷ []) [] (object.Instance (Own 1) (((codes "x"), (v.Int (pos 3))) ∷ []) None ∷ []) 2 274 super_chain_0_seen_18) (expr_node recorder program_super_chain super_chain_n13 281 (x.outs-Super (codes "get") (args (super_chain_n14 ∷ []) [])) refl (then_ok (finds_super recorder program_super_chain (codes "get")) _ (callee.Bound (id 0) (func_id 1)) super_chain_0_at_24 (leaf (first_of (simp views, simp tuples, search))) (as_run (plain_arguments recorder program_super_chain (value_super_chain) (means_super_chain) (callee.Bound (id 0) (func_id 1)) [] (super_chain_n14 ∷ []) []) (ap (λ args. plain_arguments recorder program_super_chain (value_super_chain) (means_super_chain) (callee.Bound (id 0) (func_id 1)) [] args.plain args.named super_chain_0_at_24) (out-roll-Args _)) (then_ok (value_super_chain super_chain_n14) _ ((v.Int (pos 1)), (j.Plain true)) super_chain_0_at_25 (expr_node recorder program_super_chain super_chain_n14 280 (x.outs-Name (codes "n")) refl (leaf (simp views))) (as_run (inside recorder program_super_chain (means_super_chain) (func_id 1) function_super_chain_1 (((codes "self"), (ref 0)) ∷ ((codes "n"), (v.Int (pos 1))) ∷ [])) (let same : calls_function recorder program_super_chain (means_super_chain) (func_id 1) ((ref 0) ∷ (v.Int (pos 1)) ∷ []) [] super_chain_0_at_25 ≡ inside recorder program_super_chain (means_super_chain) (func_id 1) function_super_chain_1 (((codes "self"), (ref 0)) ∷ ((codes "n"), (v.Int (pos 1))) ∷ []) super_chain_0_at_25 = refl in same) (gives_same (leaves super_chain_0_at_25.frame ((Err (Returned (v.Int (pos 4)))), super_chain_0_at_26)) (in_frame recorder program_super_chain (func_id 1) function_super_chain_1 (((codes "self"), (ref 0)) ∷ ((codes "n"), (v.Int (pos 1))) ∷ []) (Err (Returned (v.Int (pos 4)))) super_chain_0_at_26 (then_ok (begins recorder (node 4)) _ tt (state_super_chain (Some (func_id 1)) (((codes "self"), (ref 0)) ∷ ((codes "n"), (v.Int (pos 1))) ∷ []) [] (object.Instance (Own 1) (((codes "x"), (v.Int (pos 3))) ∷ []) None ∷ []) 3 279 (began 26 ∷ began 27 ∷ began 28 ∷ began 29 ∷ began 30 ∷ began 31 ∷ began 32 ∷ began 0 ∷ began 1 ∷ began 3 ∷ began 2 ∷ began 33 ∷ began 10 ∷ began 11 ∷ began 12 ∷ began 13 ∷ began 14 ∷ began 4 ∷ [])) (leaf refl) (then_err (means_super_chain super_chain_n5) _ (Returned (v.Int (pos 4))) super_chain_0_at_26 (stmt_node recorder program_super_chain super_chain_n5 278 (y.outs-Return (Some super_chain_n6)) refl (then_ok (value_super_chain super_chain_n6) _ ((v.Int (pos 4)), (j.Plain true)) super_chain_0_at_26 (expr_node recorder program_super_chain super_chain_n6 277 (x.outs-Binary Add super_chain_n7 super_chain_n9) refl (then_ok (value_super_chain super_chain_n7) _ ((v.Int (pos 3)), (j.Plain true)) super_chain_0_at_27 (expr_node recorder program_super_chain super_chain_n7 276 (x.outs-Attr super_chain_n8 (codes "x")) refl (then_ok (value_super_chain super_chain_n8) _ ((ref 0), (j.Plain true)) super_chain_0_at_27 (expr_node recorder program_super_chain super_chain_n8 275 (x.outs-Name (codes "self")) refl (leaf (simp views))) (then_ok (finds program_super_chain (ref 0) (codes "x")) _ (callee.Value (v.Int (pos 3))) super_chain_0_at_27 (leaf (first_of (simp views, simp tuples, search))) (leaf (first_of (simp views, simp tuples, search)))))) (then_ok (value_super_chain super_chain_n9) _ ((v.Int (pos 1)), (j.Plain true)) super_chain_0_at_26 (expr_node recorder program_super_chain super_chain_n9 274 (x.outs-Name (codes "n")) refl (leaf (simp views))) (leaf (first_of (simp views, simp tuples, search)))))) (leaf refl)))))) (simp views))))))) (then_ok (value_super_chain super_chain_n15) _ ((v.Int (pos 10)), (j.Plain true)) super_chain_0_at_23 (expr_node recorder program_super_chain super_chain_n15 273 (x.outs-IntLit (pos 10)) refl (leaf (simp views))) (leaf (first_of (simp views, simp tuples, search)))))) (leaf refl)))))) (simp views)))))))) (then_ok (value_super_chain super_chain_n34) _ ((v.Int (pos 41)), (j.Plain true)) (state_super_chain (Some (func_id 5)) [] [] (object.Instance (Own 1) (((codes "x"), (v.Int (pos 3))) ∷ []) None ∷ object.Instance (Own 2) (((codes "x"), (v.Int (pos 4))) ∷ []) None ∷ []) 1 244 super_chain_0_seen_5) (expr_node recorder program_super_chain super_chain_n34 272 (x.outs-Method super_chain_n35 (codes "get") (args [] [])) refl (then_ok (value_super_chain super_chain_n35) _ ((ref 1), (j.Plain true)) super_chain_0_at_18 (expr_node recorder program_super_chain super_chain_n35 271 (x.outs-Call super_chain_n36 (args [] [])) refl (as_run (calls_meant recorder program_super_chain (value_super_chain) (means_super_chain) None super_chain_n36 (args [] [])) (ap (λ kind. calls_expr recorder program_super_chain (value_super_chain) (means_super_chain) kind super_chain_n36 (args [] []) (state_super_chain (Some (func_id 5)) [] [] (object.Instance (Own 1) (((codes "x"), (v.Int (pos 3))) ∷ []) None ∷ []) 1 271 (began 26 ∷ began 27 ∷ began 28 ∷ began 29 ∷ began 30 ∷ began 31 ∷ began 32 ∷ began 0 ∷ began 1 ∷ began 3 ∷ began 2 ∷ began 33 ∷ began 10 ∷ began 11 ∷ began 12 ∷ began 13 ∷ began 14 ∷ began 4 ∷ began 5 ∷ began 6 ∷ began 7 ∷ began 8 ∷ began 9 ∷ began 15 ∷ began 34 ∷ began 35 ∷ []))) (x.outs-Name (codes "C"))) (then_ok (value_super_chain super_chain_n36) _ ((v.Class (Own 2)), (j.Plain true)) super_chain_0_at_31 (expr_node recorder program_super_chain super_chain_n36 270 (x.outs-Name (codes "C")) refl (leaf (simp views))) (as_run (plain_arguments recorder program_super_chain (value_super_chain) (means_super_chain) (callee.Value (v.Class (Own 2))) [] [] []) (ap (λ args. plain_arguments recorder program_super_chain (value_super_chain) (means_super_chain) (callee.Value (v.Class (Own 2))) [] args.plain args.named super_chain_0_at_31) (out-roll-Args _)) (as_run (calls_class recorder program_super_chain (means_super_chain) (Own 2) [] []) (ap (λ level. calls_value recorder program_super_chain (means_super_chain) level [] [] super_chain_0_at_31) (outs-Class _)) (as_run (makes_instance (Own 2) None >>= (λ id. initializes recorder program_super_chain (means_super_chain) id (func_id 3) [] [])) (let same : calls_class recorder program_super_chain (means_super_chain) (Own 2) [] [] super_chain_0_at_31 ≡ (makes_instance (Own 2) None >>= (λ id. initializes recorder program_super_chain (means_super_chain) id (func_id 3) [] [])) super_chain_0_at_31 = refl in same) (then_ok (makes_instance (Own 2) None) (λ id. initializes recorder program_super_chain (means_super_chain) id (func_id 3) [] []) (id 1) super_chain_0_at_28 (leaf refl) (then_ok (calls_function recorder program_super_chain (means_super_chain) (func_id 3) ((ref 1) ∷ []) []) (λ x. initialized (id 1) (out-Value x.0)) (v.None, (j.Plain false)) super_chain_0_at_18 (as_run (inside recorder program_super_chain (means_super_chain) (func_id 3) function_super_chain_3 (((codes "self"), (ref 1)) ∷ [])) (let same : calls_function recorder program_super_chain (means_super_chain) (func_id 3) ((ref 1) ∷ []) [] super_chain_0_at_28 ≡ inside recorder program_super_chain (means_super_chain) (func_id 3) function_super_chain_3 (((codes "self"), (ref 1)) ∷ []) super_chain_0_at_28 = refl in same) (gives_same (leaves super_chain_0_at_28.frame ((Ok (v.None, (j.Plain false))), super_chain_0_at_17)) (in_frame recorder program_super_chain (func_id 3) function_super_chain_3 (((codes "self"), (ref 1)) ∷ []) (Ok (v.None, (j.Plain false))) super_chain_0_at_17 (then_ok (begins recorder (node 16)) _ tt (state_super_chain (Some (func_id 3)) (((codes "self"), (ref 1)) ∷ []) [] (object.Instance (Own 1) (((codes "x"), (v.Int (pos 3))) ∷ []) None ∷ object.Instance (Own 2) [] None ∷ []) 2 269 (began 26 ∷ began 27 ∷ began 28 ∷ began 29 ∷ began 30 ∷ began 31 ∷ began 32 ∷ began 0 ∷ began 1 ∷ began 3 ∷ began 2 ∷ began 33 ∷ began 10 ∷ began 11 ∷ began 12 ∷ began 13 ∷ began 14 ∷ began 4 ∷ began 5 ∷ began 6 ∷ began 7 ∷ began 8 ∷ began 9 ∷ began 15 ∷ began 34 ∷ began 35 ∷ began 36 ∷ began 16 ∷ [])) (leaf refl) (then_ok (means_super_chain super_chain_n17) _ (v.None, (j.Plain false)) super_chain_0_at_17 (stmt_node recorder program_super_chain super_chain_n17 268 (y.outs-Bare super_chain_n18) refl (then_ok (value_super_chain super_chain_n18) _ (v.None, (j.Plain false)) super_chain_0_at_17 (expr_node recorder program_super_chain super_chain_n18 267 (x.outs-Super (codes "__init__") (args (super_chain_n19 ∷ []) [])) refl (then_ok (finds_super recorder program_super_chain (codes "__init__")) _ (callee.Bound (id 1) (func_id 0)) super_chain_0_at_20 (leaf (first_of (simp views, simp tuples, search))) (as_run (plain_arguments recorder program_super_chain (value_super_chain) (means_super_chain) (callee.Bound (id 1) (func_id 0)) [] (super_chain_n19 ∷ []) []) (ap (λ args. plain_arguments recorder program_super_chain (value_super_chain) (means_super_chain) (callee.Bound (id 1) (func_id 0)) [] args.plain args.named super_chain_0_at_20) (out-roll-Args _)) (then_ok (value_super_chain super_chain_n19) _ ((v.Int (pos 4)), (j.Plain true)) super_chain_0_at_21 (expr_node recorder program_super_chain super_chain_n19 266 (x.outs-IntLit (pos 4)) refl (leaf (simp views))) (as_run (inside recorder program_super_chain (means_super_chain) (func_id 0) function_super_chain_0 (((codes "self"), (ref 1)) ∷ ((codes "x"), (v.Int (pos 4))) ∷ [])) (let same : calls_function recorder program_super_chain (means_super_chain) (func_id 0) ((ref 1) ∷ (v.Int (pos 4)) ∷ []) [] super_chain_0_at_21 ≡ inside recorder program_super_chain (means_super_chain) (func_id 0) function_super_chain_0 (((codes "self"), (ref 1)) ∷ ((codes "x"), (v.Int (pos 4))) ∷ []) super_chain_0_at_21 = refl in same) (gives_same (leaves super_chain_0_at_21.frame ((Ok (v.None, (j.Plain false))), super_chain_0_at_5)) (in_frame recorder program_super_chain (func_id 0) function_super_chain_0 (((codes "self"), (ref 1)) ∷ ((codes "x"), (v.Int (pos 4))) ∷ []) (Ok (v.None, (j.Plain false))) super_chain_0_at_5 (then_ok (begins recorder (node 0)) _ tt (state_super_chain (Some (func_id 0)) (((codes "self"), (ref 1)) ∷ ((codes "x"), (v.Int (pos 4))) ∷ []) [] (object.Instance (Own 1) (((codes "x"), (v.Int (pos 3))) ∷ []) None ∷ object.Instance (Own 2) [] None ∷ []) 3 265 (began 26 ∷ began 27 ∷ began 28 ∷ began 29 ∷ began 30 ∷ began 31 ∷ began 32 ∷ began 0 ∷ began 1 ∷ began 3 ∷ began 2 ∷ began 33 ∷ began 10 ∷ began 11 ∷ began 12 ∷ began 13 ∷ began 14 ∷ began 4 ∷ began 5 ∷ began 6 ∷ began 7 ∷ began 8 ∷ began 9 ∷ began 15 ∷ began 34 ∷ began 35 ∷ began 36 ∷ began 16 ∷ began 17 ∷ began 18 ∷ began 19 ∷ began 0 ∷ [])) (leaf refl) (then_ok (means_super_chain super_chain_n1) _ (v.None, (j.Plain false)) super_chain_0_at_5 (stmt_node recorder program_super_chain super_chain_n1 264 (y.outs-Assign ((target.Attr super_chain_n2 (codes "x")) ∷ []) false None super_chain_n3) refl (then_ok (value_super_chain super_chain_n3) _ ((v.Int (pos 4)), (j.Plain true)) (state_super_chain (Some (func_id 0)) (((codes "self"), (ref 1)) ∷ ((codes "x"), (v.Int (pos 4))) ∷ []) [] (object.Instance (Own 1) (((codes "x"), (v.Int (pos 3))) ∷ []) None ∷ object.Instance (Own 2) [] None ∷ []) 3 263 (began 26 ∷ began 27 ∷ began 28 ∷ began 29 ∷ began 30 ∷ began 31 ∷ began 32 ∷ began 0 ∷ began 1 ∷ began 3 ∷ began 2 ∷ began 33 ∷ began 10 ∷ began 11 ∷ began 12 ∷ began 13 ∷ began 14 ∷ began 4 ∷ began 5 ∷ began 6 ∷ began 7 ∷ began 8 ∷ began 9 ∷ began 15 ∷ began 34 ∷ began 35 ∷ began 36 ∷ began 16 ∷ began 17 ∷ began 18 ∷ began 19 ∷ began 0 ∷ began 1 ∷ began 3 ∷ [])) (expr_node recorder program_super_chain super_chain_n3 263 (x.outs-Name (codes "x")) refl (leaf (simp views))) (then_ok (stores program_super_chain (value_super_chain) (target.Attr super_chain_n2 (codes "x")) (v.Int (pos 4))) _ (v.None, (j.Plain false)) super_chain_0_at_5 (then_ok (value_super_chain super_chain_n2) _ ((ref 1), (j.Plain true)) (state_super_chain (Some (func_id 0)) (((codes "self"), (ref 1)) ∷ ((codes "x"), (v.Int (pos 4))) ∷ []) [] (object.Instance (Own 1) (((codes "x"), (v.Int (pos 3))) ∷ []) None ∷ object.Instance (Own 2) [] None ∷ []) 3 262 super_chain_0_seen_13) (expr_node recorder program_super_chain super_chain_n2 262 (x.outs-Name (codes "self")) refl (leaf (simp views))) (leaf (first_of (simp views, simp tuples, search)))) (leaf refl)))) (leaf refl)))) (refl))))))) (leaf refl))) (leaf refl)))) (refl))) (leaf (first_of (simp views, simp tuples, search))))))))))) (then_ok (finds program_super_chain (ref 1) (codes "get")) _ (callee.Bound (id 1) (func_id 4)) super_chain_0_at_18 (leaf (first_of (simp views, simp tuples, search))) (as_run (plain_arguments recorder program_super_chain (value_super_chain) (means_super_chain) (callee.Bound (id 1) (func_id 4)) [] [] []) (ap (λ args. plain_arguments recorder program_super_chain (value_super_chain) (means_super_chain) (callee.Bound (id 1) (func_id 4)) [] args.plain args.named super_chain_0_at_18) (out-roll-Args _)) (as_run (inside recorder program_super_chain (means_super_chain) (func_id 4) function_super_chain_4 (((codes "self"), (ref 1)) ∷ ((codes "n"), (v.Int (pos 0))) ∷ [])) (let same : calls_function recorder program_super_chain (means_super_chain) (func_id 4) ((ref 1) ∷ []) [] super_chain_0_at_18 ≡ inside recorder program_super_chain (means_super_chain) (func_id 4) function_super_chain_4 (((codes "self"), (ref 1)) ∷ ((codes "n"), (v.Int (pos 0))) ∷ []) super_chain_0_at_18 = refl in same) (gives_same (leaves super_chain_0_at_18.frame ((Err (Returned (v.Int (pos 41)))), super_chain_0_at_11)) (in_frame recorder program_super_chain (func_id 4) function_super_chain_4 (((codes "self"), (ref 1)) ∷ ((codes "n"), (v.Int (pos 0))) ∷ []) (Err (Returned (v.Int (pos 41)))) super_chain_0_at_11 (then_ok (begins recorder (node 20)) _ tt (state_super_chain (Some (func_id 4)) (((codes "self"), (ref 1)) ∷ ((codes "n"), (v.Int (pos 0))) ∷ []) [] (object.Instance (Own 1) (((codes "x"), (v.Int (pos 3))) ∷ []) None ∷ object.Instance (Own 2) (((codes "x"), (v.Int (pos 4))) ∷ []) None ∷ []) 2 261 (began 26 ∷ began 27 ∷ began 28 ∷ began 29 ∷ began 30 ∷ began 31 ∷ began 32 ∷ began 0 ∷ began 1 ∷ began 3 ∷ began 2 ∷ began 33 ∷ began 10 ∷ began 11 ∷ began 12 ∷ began 13 ∷ began 14 ∷ began 4 ∷ began 5 ∷ began 6 ∷ began 7 ∷ began 8 ∷ began 9 ∷ began 15 ∷ began 34 ∷ began 35 ∷ began 36 ∷ began 16 ∷ began 17 ∷ began 18 ∷ began 19 ∷ began 0 ∷ began 1 ∷ began 3 ∷ began 2 ∷ began 20 ∷ [])) (leaf refl) (then_err (means_super_chain super_chain_n21) _ (Returned (v.Int (pos 41))) super_chain_0_at_11 (stmt_node recorder program_super_chain super_chain_n21 260 (y.outs-Return (Some super_chain_n22)) refl (then_ok (value_super_chain super_chain_n22) _ ((v.Int (pos 41)), (j.Plain true)) super_chain_0_at_11 (expr_node recorder program_super_chain super_chain_n22 259 (x.outs-Binary Add super_chain_n23 super_chain_n25) refl (then_ok (value_super_chain super_chain_n23) _ ((v.Int (pos 40)), (j.Plain true)) (state_super_chain (Some (func_id 4)) (((codes "self"), (ref 1)) ∷ ((codes "n"), (v.Int (pos 0))) ∷ []) [] (object.Instance (Own 1) (((codes "x"), (v.Int (pos 3))) ∷ []) None ∷ object.Instance (Own 2) (((codes "x"), (v.Int (pos 4))) ∷ []) None ∷ []) 2 245 super_chain_0_seen_6) (expr_node recorder program_super_chain super_chain_n23 258 (x.outs-Super (codes "get") (args (super_chain_n24 ∷ []) [])) refl (then_ok (finds_super recorder program_super_chain (codes "get")) _ (callee.Bound (id 1) (func_id 2)) super_chain_0_at_6 (leaf (first_of (simp views, simp tuples, search))) (as_run (plain_arguments recorder program_super_chain (value_super_chain) (means_super_chain) (callee.Bound (id 1) (func_id 2)) [] (super_chain_n24 ∷ []) []) (ap (λ args. plain_arguments recorder program_super_chain (value_super_chain) (means_super_chain) (callee.Bound (id 1) (func_id 2)) [] args.plain args.named super_chain_0_at_6) (out-roll-Args _)) (then_ok (value_super_chain super_chain_n24) _ ((v.Int (pos 0)), (j.Plain false)) super_chain_0_at_7 (expr_node recorder program_super_chain super_chain_n24 257 (x.outs-Name (codes "n")) refl (leaf (simp views))) (as_run (inside recorder program_super_chain (means_super_chain) (func_id 2) function_super_chain_2 (((codes "self"), (ref 1)) ∷ ((codes "n"), (v.Int (pos 0))) ∷ [])) (let same : calls_function recorder program_super_chain (means_super_chain) (func_id 2) ((ref 1) ∷ (v.Int (pos 0)) ∷ []) [] super_chain_0_at_7 ≡ inside recorder program_super_chain (means_super_chain) (func_id 2) function_super_chain_2 (((codes "self"), (ref 1)) ∷ ((codes "n"), (v.Int (pos 0))) ∷ []) super_chain_0_at_7 = refl in same) (gives_same (leaves super_chain_0_at_7.frame ((Err (Returned (v.Int (pos 40)))), super_chain_0_at_12)) (in_frame recorder program_super_chain (func_id 2) function_super_chain_2 (((codes "self"), (ref 1)) ∷ ((codes "n"), (v.Int (pos 0))) ∷ []) (Err (Returned (v.Int (pos 40)))) super_chain_0_at_12 (then_ok (begins recorder (node 10)) _ tt (state_super_chain (Some (func_id 2)) (((codes "self"), (ref 1)) ∷ ((codes "n"), (v.Int (pos 0))) ∷ []) [] (object.Instance (Own 1) (((codes "x"), (v.Int (pos 3))) ∷ []) None ∷ object.Instance (Own 2) (((codes "x"), (v.Int (pos 4))) ∷ []) None ∷ []) 3 256 (began 26 ∷ began 27 ∷ began 28 ∷ began 29 ∷ began 30 ∷ began 31 ∷ began 32 ∷ began 0 ∷ began 1 ∷ began 3 ∷ began 2 ∷ began 33 ∷ began 10 ∷ began 11 ∷ began 12 ∷ began 13 ∷ began 14 ∷ began 4 ∷ began 5 ∷ began 6 ∷ began 7 ∷ began 8 ∷ began 9 ∷ began 15 ∷ began 34 ∷ began 35 ∷ began 36 ∷ began 16 ∷ began 17 ∷ began 18 ∷ began 19 ∷ began 0 ∷ began 1 ∷ began 3 ∷ began 2 ∷ began 20 ∷ began 21 ∷ began 22 ∷ began 23 ∷ began 24 ∷ began 10 ∷ [])) (leaf refl) (then_err (means_super_chain super_chain_n11) _ (Returned (v.Int (pos 40))) super_chain_0_at_12 (stmt_node recorder program_super_chain super_chain_n11 255 (y.outs-Return (Some super_chain_n12)) refl (then_ok (value_super_chain super_chain_n12) _ ((v.Int (pos 40)), (j.Plain true)) super_chain_0_at_12 (expr_node recorder program_super_chain super_chain_n12 254 (x.outs-Binary Mul super_chain_n13 super_chain_n15) refl (then_ok (value_super_chain super_chain_n13) _ ((v.Int (pos 4)), (j.Plain true)) (state_super_chain (Some (func_id 2)) (((codes "self"), (ref 1)) ∷ ((codes "n"), (v.Int (pos 0))) ∷ []) [] (object.Instance (Own 1) (((codes "x"), (v.Int (pos 3))) ∷ []) None ∷ object.Instance (Own 2) (((codes "x"), (v.Int (pos 4))) ∷ []) None ∷ []) 3 246 super_chain_0_seen_7) (expr_node recorder program_super_chain super_chain_n13 253 (x.outs-Super (codes "get") (args (super_chain_n14 ∷ []) [])) refl (then_ok (finds_super recorder program_super_chain (codes "get")) _ (callee.Bound (id 1) (func_id 1)) super_chain_0_at_8 (leaf (first_of (simp views, simp tuples, search))) (as_run (plain_arguments recorder program_super_chain (value_super_chain) (means_super_chain) (callee.Bound (id 1) (func_id 1)) [] (super_chain_n14 ∷ []) []) (ap (λ args. plain_arguments recorder program_super_chain (value_super_chain) (means_super_chain) (callee.Bound (id 1) (func_id 1)) [] args.plain args.named super_chain_0_at_8) (out-roll-Args _)) (then_ok (value_super_chain super_chain_n14) _ ((v.Int (pos 0)), (j.Plain false)) super_chain_0_at_13 (expr_node recorder program_super_chain super_chain_n14 252 (x.outs-Name (codes "n")) refl (leaf (simp views))) (as_run (inside recorder program_super_chain (means_super_chain) (func_id 1) function_super_chain_1 (((codes "self"), (ref 1)) ∷ ((codes "n"), (v.Int (pos 0))) ∷ [])) (let same : calls_function recorder program_super_chain (means_super_chain) (func_id 1) ((ref 1) ∷ (v.Int (pos 0)) ∷ []) [] super_chain_0_at_13 ≡ inside recorder program_super_chain (means_super_chain) (func_id 1) function_super_chain_1 (((codes "self"), (ref 1)) ∷ ((codes "n"), (v.Int (pos 0))) ∷ []) super_chain_0_at_13 = refl in same) (gives_same (leaves super_chain_0_at_13.frame ((Err (Returned (v.Int (pos 4)))), super_chain_0_at_14)) (in_frame recorder program_super_chain (func_id 1) function_super_chain_1 (((codes "self"), (ref 1)) ∷ ((codes "n"), (v.Int (pos 0))) ∷ []) (Err (Returned (v.Int (pos 4)))) super_chain_0_at_14 (then_ok (begins recorder (node 4)) _ tt (state_super_chain (Some (func_id 1)) (((codes "self"), (ref 1)) ∷ ((codes "n"), (v.Int (pos 0))) ∷ []) [] (object.Instance (Own 1) (((codes "x"), (v.Int (pos 3))) ∷ []) None ∷ object.Instance (Own 2) (((codes "x"), (v.Int (pos 4))) ∷ []) None ∷ []) 4 251 (began 26 ∷ began 27 ∷ began 28 ∷ began 29 ∷ began 30 ∷ began 31 ∷ began 32 ∷ began 0 ∷ began 1 ∷ began 3 ∷ began 2 ∷ began 33 ∷ began 10 ∷ began 11 ∷ began 12 ∷ began 13 ∷ began 14 ∷ began 4 ∷ began 5 ∷ began 6 ∷ began 7 ∷ began 8 ∷ began 9 ∷ began 15 ∷ began 34 ∷ began 35 ∷ began 36 ∷ began 16 ∷ began 17 ∷ began 18 ∷ began 19 ∷ began 0 ∷ began 1 ∷ began 3 ∷ began 2 ∷ began 20 ∷ began 21 ∷ began 22 ∷ began 23 ∷ began 24 ∷ began 10 ∷ began 11 ∷ began 12 ∷ began 13 ∷ began 14 ∷ began 4 ∷ [])) (leaf refl) (then_err (means_super_chain super_chain_n5) _ (Returned (v.Int (pos 4))) super_chain_0_at_14 (stmt_node recorder program_super_chain super_chain_n5 250 (y.outs-Return (Some super_chain_n6)) refl (then_ok (value_super_chain super_chain_n6) _ ((v.Int (pos 4)), (j.Plain true)) super_chain_0_at_14 (expr_node recorder program_super_chain super_chain_n6 249 (x.outs-Binary Add super_chain_n7 super_chain_n9) refl (then_ok (value_super_chain super_chain_n7) _ ((v.Int (pos 4)), (j.Plain true)) super_chain_0_at_15 (expr_node recorder program_super_chain super_chain_n7 248 (x.outs-Attr super_chain_n8 (codes "x")) refl (then_ok (value_super_chain super_chain_n8) _ ((ref 1), (j.Plain true)) super_chain_0_at_15 (expr_node recorder program_super_chain super_chain_n8 247 (x.outs-Name (codes "self")) refl (leaf (simp views))) (then_ok (finds program_super_chain (ref 1) (codes "x")) _ (callee.Value (v.Int (pos 4))) super_chain_0_at_15 (leaf (first_of (simp views, simp tuples, search))) (leaf (first_of (simp views, simp tuples, search)))))) (then_ok (value_super_chain super_chain_n9) _ ((v.Int (pos 0)), (j.Plain false)) super_chain_0_at_14 (expr_node recorder program_super_chain super_chain_n9 246 (x.outs-Name (codes "n")) refl (leaf (simp views))) (leaf (first_of (simp views, simp tuples, search)))))) (leaf refl)))))) (simp views))))))) (then_ok (value_super_chain super_chain_n15) _ ((v.Int (pos 10)), (j.Plain true)) super_chain_0_at_12 (expr_node recorder program_super_chain super_chain_n15 245 (x.outs-IntLit (pos 10)) refl (leaf (simp views))) (leaf (first_of (simp views, simp tuples, search)))))) (leaf refl)))))) (simp views))))))) (then_ok (value_super_chain super_chain_n25) _ ((v.Int (pos 1)), (j.Plain true)) super_chain_0_at_11 (expr_node recorder program_super_chain super_chain_n25 244 (x.outs-IntLit (pos 1)) refl (leaf (simp views))) (leaf (first_of (simp views, simp tuples, search)))))) (leaf refl)))))) (simp views))))))) (then_ok (value_super_chain super_chain_n37) _ ((v.Int (pos 7)), (j.Plain true)) super_chain_0_at_4 (expr_node recorder program_super_chain super_chain_n37 243 (x.outs-Attr super_chain_n38 (codes "k")) refl (then_ok (value_super_chain super_chain_n38) _ ((ref 2), (j.Plain true)) super_chain_0_at_4 (expr_node recorder program_super_chain super_chain_n38 242 (x.outs-Call super_chain_n39 (args [] [])) refl (as_run (calls_meant recorder program_super_chain (value_super_chain) (means_super_chain) None super_chain_n39 (args [] [])) (ap (λ kind. calls_expr recorder program_super_chain (value_super_chain) (means_super_chain) kind super_chain_n39 (args [] []) (state_super_chain (Some (func_id 5)) [] [] (object.Instance (Own 1) (((codes "x"), (v.Int (pos 3))) ∷ []) None ∷ object.Instance (Own 2) (((codes "x"), (v.Int (pos 4))) ∷ []) None ∷ []) 1 242 (began 26 ∷ began 27 ∷ began 28 ∷ began 29 ∷ began 30 ∷ began 31 ∷ began 32 ∷ began 0 ∷ began 1 ∷ began 3 ∷ began 2 ∷ began 33 ∷ began 10 ∷ began 11 ∷ began 12 ∷ began 13 ∷ began 14 ∷ began 4 ∷ began 5 ∷ began 6 ∷ began 7 ∷ began 8 ∷ began 9 ∷ began 15 ∷ began 34 ∷ began 35 ∷ began 36 ∷ began 16 ∷ began 17 ∷ began 18 ∷ began 19 ∷ began 0 ∷ began 1 ∷ began 3 ∷ began 2 ∷ began 20 ∷ began 21 ∷ began 22 ∷ began 23 ∷ began 24 ∷ began 10 ∷ began 11 ∷ began 12 ∷ began 13 ∷ began 14 ∷ began 4 ∷ began 5 ∷ began 6 ∷ began 7 ∷ began 8 ∷ began 9 ∷ began 15 ∷ began 25 ∷ began 37 ∷ began 38 ∷ []))) (x.outs-Name (codes "C"))) (then_ok (value_super_chain super_chain_n39) _ ((v.Class (Own 2)), (j.Plain true)) super_chain_0_at_19 (expr_node recorder program_super_chain super_chain_n39 241 (x.outs-Name (codes "C")) refl (leaf (simp views))) (as_run (plain_arguments recorder program_super_chain (value_super_chain) (means_super_chain) (callee.Value (v.Class (Own 2))) [] [] []) (ap (λ args. plain_arguments recorder program_super_chain (value_super_chain) (means_super_chain) (callee.Value (v.Class (Own 2))) [] args.plain args.named super_chain_0_at_19) (out-roll-Args _)) (as_run (calls_class recorder program_super_chain (means_super_chain) (Own 2) [] []) (ap (λ level. calls_value recorder program_super_chain (means_super_chain) level [] [] super_chain_0_at_19) (outs-Class _)) (as_run (makes_instance (Own 2) None >>= (λ id. initializes recorder program_super_chain (means_super_chain) id (func_id 3) [] [])) (let same : calls_class recorder program_super_chain (means_super_chain) (Own 2) [] [] super_chain_0_at_19 ≡ (makes_instance (Own 2) None >>= (λ id. initializes recorder program_super_chain (means_super_chain) id (func_id 3) [] [])) super_chain_0_at_19 = refl in same) (then_ok (makes_instance (Own 2) None) (λ id. initializes recorder program_super_chain (means_super_chain) id (func_id 3) [] []) (id 2) super_chain_0_at_16 (leaf refl) (then_ok (calls_function recorder program_super_chain (means_super_chain) (func_id 3) ((ref 2) ∷ []) []) (λ x. initialized (id 2) (out-Value x.0)) (v.None, (j.Plain false)) super_chain_0_at_4 (as_run (inside recorder program_super_chain (means_super_chain) (func_id 3) function_super_chain_3 (((codes "self"), (ref 2)) ∷ [])) (let same : calls_function recorder program_super_chain (means_super_chain) (func_id 3) ((ref 2) ∷ []) [] super_chain_0_at_16 ≡ inside recorder program_super_chain (means_super_chain) (func_id 3) function_super_chain_3 (((codes "self"), (ref 2)) ∷ []) super_chain_0_at_16 = refl in same) (gives_same (leaves super_chain_0_at_16.frame ((Ok (v.None, (j.Plain false))), super_chain_0_at_2)) (in_frame recorder program_super_chain (func_id 3) function_super_chain_3 (((codes "self"), (ref 2)) ∷ []) (Ok (v.None, (j.Plain false))) super_chain_0_at_2 (then_ok (begins recorder (node 16)) _ tt (state_super_chain (Some (func_id 3)) (((codes "self"), (ref 2)) ∷ []) [] (object.Instance (Own 1) (((codes "x"), (v.Int (pos 3))) ∷ []) None ∷ object.Instance (Own 2) (((codes "x"), (v.Int (pos 4))) ∷ []) None ∷ object.Instance (Own 2) [] None ∷ []) 2 240 (began 26 ∷ began 27 ∷ began 28 ∷ began 29 ∷ began 30 ∷ began 31 ∷ began 32 ∷ began 0 ∷ began 1 ∷ began 3 ∷ began 2 ∷ began 33 ∷ began 10 ∷ began 11 ∷ began 12 ∷ began 13 ∷ began 14 ∷ began 4 ∷ began 5 ∷ began 6 ∷ began 7 ∷ began 8 ∷ began 9 ∷ began 15 ∷ began 34 ∷ began 35 ∷ began 36 ∷ began 16 ∷ began 17 ∷ began 18 ∷ began 19 ∷ began 0 ∷ began 1 ∷ began 3 ∷ began 2 ∷ began 20 ∷ began 21 ∷ began 22 ∷ began 23 ∷ began 24 ∷ began 10 ∷ began 11 ∷ began 12 ∷ began 13 ∷ began 14 ∷ began 4 ∷ began 5 ∷ began 6 ∷ began 7 ∷ began 8 ∷ began 9 ∷ began 15 ∷ began 25 ∷ began 37 ∷ began 38 ∷ began 39 ∷ began 16 ∷ [])) (leaf refl) (then_ok (means_super_chain super_chain_n17) _ (v.None, (j.Plain false)) super_chain_0_at_2 (stmt_node recorder program_super_chain super_chain_n17 239 (y.outs-Bare super_chain_n18) refl (then_ok (value_super_chain super_chain_n18) _ (v.None, (j.Plain false)) super_chain_0_at_2 (expr_node recorder program_super_chain super_chain_n18 238 (x.outs-Super (codes "__init__") (args (super_chain_n19 ∷ []) [])) refl (then_ok (finds_super recorder program_super_chain (codes "__init__")) _ (callee.Bound (id 2) (func_id 0)) super_chain_0_at_9 (leaf (first_of (simp views, simp tuples, search))) (as_run (plain_arguments recorder program_super_chain (value_super_chain) (means_super_chain) (callee.Bound (id 2) (func_id 0)) [] (super_chain_n19 ∷ []) []) (ap (λ args. plain_arguments recorder program_super_chain (value_super_chain) (means_super_chain) (callee.Bound (id 2) (func_id 0)) [] args.plain args.named super_chain_0_at_9) (out-roll-Args _)) (then_ok (value_super_chain super_chain_n19) _ ((v.Int (pos 4)), (j.Plain true)) super_chain_0_at_10 (expr_node recorder program_super_chain super_chain_n19 237 (x.outs-IntLit (pos 4)) refl (leaf (simp views))) (as_run (inside recorder program_super_chain (means_super_chain) (func_id 0) function_super_chain_0 (((codes "self"), (ref 2)) ∷ ((codes "x"), (v.Int (pos 4))) ∷ [])) (let same : calls_function recorder program_super_chain (means_super_chain) (func_id 0) ((ref 2) ∷ (v.Int (pos 4)) ∷ []) [] super_chain_0_at_10 ≡ inside recorder program_super_chain (means_super_chain) (func_id 0) function_super_chain_0 (((codes "self"), (ref 2)) ∷ ((codes "x"), (v.Int (pos 4))) ∷ []) super_chain_0_at_10 = refl in same) (gives_same (leaves super_chain_0_at_10.frame ((Ok (v.None, (j.Plain false))), super_chain_0_at_1)) (in_frame recorder program_super_chain (func_id 0) function_super_chain_0 (((codes "self"), (ref 2)) ∷ ((codes "x"), (v.Int (pos 4))) ∷ []) (Ok (v.None, (j.Plain false))) super_chain_0_at_1 (then_ok (begins recorder (node 0)) _ tt (state_super_chain (Some (func_id 0)) (((codes "self"), (ref 2)) ∷ ((codes "x"), (v.Int (pos 4))) ∷ []) [] (object.Instance (Own 1) (((codes "x"), (v.Int (pos 3))) ∷ []) None ∷ object.Instance (Own 2) (((codes "x"), (v.Int (pos 4))) ∷ []) None ∷ object.Instance (Own 2) [] None ∷ []) 3 236 (began 26 ∷ began 27 ∷ began 28 ∷ began 29 ∷ began 30 ∷ began 31 ∷ began 32 ∷ began 0 ∷ began 1 ∷ began 3 ∷ began 2 ∷ began 33 ∷ began 10 ∷ began 11 ∷ began 12 ∷ began 13 ∷ began 14 ∷ began 4 ∷ began 5 ∷ began 6 ∷ began 7 ∷ began 8 ∷ began 9 ∷ began 15 ∷ began 34 ∷ began 35 ∷ began 36 ∷ began 16 ∷ began 17 ∷ began 18 ∷ began 19 ∷ began 0 ∷ began 1 ∷ began 3 ∷ began 2 ∷ began 20 ∷ began 21 ∷ began 22 ∷ began 23 ∷ began 24 ∷ began 10 ∷ began 11 ∷ began 12 ∷ began 13 ∷ began 14 ∷ began 4 ∷ began 5 ∷ began 6 ∷ began 7 ∷ began 8 ∷ began 9 ∷ began 15 ∷ began 25 ∷ began 37 ∷ began 38 ∷ began 39 ∷ began 16 ∷ began 17 ∷ began 18 ∷ began 19 ∷ began 0 ∷ [])) (leaf refl) (then_ok (means_super_chain super_chain_n1) _ (v.None, (j.Plain false)) super_chain_0_at_1 (stmt_node recorder program_super_chain super_chain_n1 235 (y.outs-Assign ((target.Attr super_chain_n2 (codes "x")) ∷ []) false None super_chain_n3) refl (then_ok (value_super_chain super_chain_n3) _ ((v.Int (pos 4)), (j.Plain true)) (state_super_chain (Some (func_id 0)) (((codes "self"), (ref 2)) ∷ ((codes "x"), (v.Int (pos 4))) ∷ []) [] (object.Instance (Own 1) (((codes "x"), (v.Int (pos 3))) ∷ []) None ∷ object.Instance (Own 2) (((codes "x"), (v.Int (pos 4))) ∷ []) None ∷ object.Instance (Own 2) [] None ∷ []) 3 234 (began 26 ∷ began 27 ∷ began 28 ∷ began 29 ∷ began 30 ∷ began 31 ∷ began 32 ∷ began 0 ∷ began 1 ∷ began 3 ∷ began 2 ∷ began 33 ∷ began 10 ∷ began 11 ∷ began 12 ∷ began 13 ∷ began 14 ∷ began 4 ∷ began 5 ∷ began 6 ∷ began 7 ∷ began 8 ∷ began 9 ∷ began 15 ∷ began 34 ∷ began 35 ∷ began 36 ∷ began 16 ∷ began 17 ∷ began 18 ∷ began 19 ∷ began 0 ∷ began 1 ∷ began 3 ∷ began 2 ∷ began 20 ∷ began 21 ∷ began 22 ∷ began 23 ∷ began 24 ∷ began 10 ∷ began 11 ∷ began 12 ∷ began 13 ∷ began 14 ∷ began 4 ∷ began 5 ∷ began 6 ∷ began 7 ∷ began 8 ∷ began 9 ∷ began 15 ∷ began 25 ∷ began 37 ∷ began 38 ∷ began 39 ∷ began 16 ∷ began 17 ∷ began 18 ∷ began 19 ∷ began 0 ∷ began 1 ∷ began 3 ∷ [])) (expr_node recorder program_super_chain super_chain_n3 234 (x.outs-Name (codes "x")) refl (leaf (simp views))) (then_ok (stores program_super_chain (value_super_chain) (target.Attr super_chain_n2 (codes "x")) (v.Int (pos 4))) _ (v.None, (j.Plain false)) super_chain_0_at_1 (then_ok (value_super_chain super_chain_n2) _ ((ref 2), (j.Plain true)) (state_super_chain (Some (func_id 0)) (((codes "self"), (ref 2)) ∷ ((codes "x"), (v.Int (pos 4))) ∷ []) [] (object.Instance (Own 1) (((codes "x"), (v.Int (pos 3))) ∷ []) None ∷ object.Instance (Own 2) (((codes "x"), (v.Int (pos 4))) ∷ []) None ∷ object.Instance (Own 2) [] None ∷ []) 3 233 super_chain_0_seen_1) (expr_node recorder program_super_chain super_chain_n2 233 (x.outs-Name (codes "self")) refl (leaf (simp views))) (leaf (first_of (simp views, simp tuples, search)))) (leaf refl)))) (leaf refl)))) (refl))))))) (leaf refl))) (leaf refl)))) (refl))) (leaf (first_of (simp views, simp tuples, search))))))))))) (then_ok (finds program_super_chain (ref 2) (codes "k")) _ (callee.Value (v.Int (pos 7))) super_chain_0_at_4 (leaf (first_of (simp views, simp tuples, search))) (leaf (first_of (simp views, simp tuples, search)))))) (leaf (first_of (simp views, simp tuples, search))))))) (leaf refl)))))) (simp views)))))))) (leaf refl))

abbrev value_super_of_class : Expr → Run Trail Finding
value_super_of_class = value_of recorder program_super_of_class

abbrev means_super_of_class : Stmt → Run Trail Finding
means_super_of_class = means recorder program_super_of_class

abbrev super_of_class_0_seen_1 : Trail
super_of_class_0_seen_1 = began 3 ∷ began 4 ∷ began 5 ∷ began 6 ∷ began 7 ∷ began 0 ∷ began 1 ∷ began 2 ∷ []

abbrev super_of_class_0_seen_2 : Trail
super_of_class_0_seen_2 = began 3 ∷ began 4 ∷ began 5 ∷ began 6 ∷ began 7 ∷ []

abbrev super_of_class_0_seen_3 : Trail
super_of_class_0_seen_3 = began 3 ∷ began 4 ∷ began 5 ∷ began 6 ∷ []

abbrev super_of_class_0_at_1 : State World Trail
super_of_class_0_at_1 = state_super_of_class (Some (func_id 0)) (((codes "self"), (v.Class (Own 0))) ∷ []) [] [] 2 289 super_of_class_0_seen_1

abbrev super_of_class_0_at_2 : State World Trail
super_of_class_0_at_2 = state_super_of_class (Some (func_id 1)) [] [] [] 1 289 super_of_class_0_seen_1

abbrev super_of_class_0_at_3 : State World Trail
super_of_class_0_at_3 = state_super_of_class (Some (func_id 1)) [] [] [] 1 293 super_of_class_0_seen_3

abbrev super_of_class_0_at_4 : State World Trail
super_of_class_0_at_4 = state_super_of_class (Some (func_id 1)) [] [] [] 1 292 super_of_class_0_seen_2

abbrev super_of_class_0_at_5 : State World Trail
super_of_class_0_at_5 = state_super_of_class None [] [] [] 0 289 super_of_class_0_seen_1

pub super_of_class_0 : Yields (means_super_of_class super_of_class_t3) (state_super_of_class None [] [] [] 0 300 []) ((Err (Left construct.SuperOfAClass)), super_of_class_0_at_5)
unfolding equal ordered
super_of_class_0 =
    stmt_node recorder program_super_of_class super_of_class_t3 299 (y.outs-Assign ((target.Name (codes "var_8")) ∷ []) false None super_of_class_t2) refl (then_err (value_super_of_class super_of_class_t2) _ (Left construct.SuperOfAClass) super_of_class_0_at_5 (expr_node recorder program_super_of_class super_of_class_t2 298 (x.outs-Method super_of_class_t1 (codes "f") (args [] [])) refl (then_ok (value_super_of_class super_of_class_t1) _ (v.ModuleRef, (j.Plain true)) (state_super_of_class None [] [] [] 0 297 []) (expr_node recorder program_super_of_class super_of_class_t1 297 (x.outs-Name (codes "module_0")) refl (leaf (simp views))) (then_ok (finds program_super_of_class v.ModuleRef (codes "f")) _ (callee.Value (v.Func (func_id 1))) (state_super_of_class None [] [] [] 0 297 []) (leaf (first_of (simp views, simp tuples, search))) (as_run (plain_arguments recorder program_super_of_class (value_super_of_class) (means_super_of_class) (callee.Value (v.Func (func_id 1))) [] [] []) (ap (λ args. plain_arguments recorder program_super_of_class (value_super_of_class) (means_super_of_class) (callee.Value (v.Func (func_id 1))) [] args.plain args.named (state_super_of_class None [] [] [] 0 297 [])) (out-roll-Args _)) (as_run (calls_function recorder program_super_of_class (means_super_of_class) (func_id 1) [] []) (ap (λ level. calls_value recorder program_super_of_class (means_super_of_class) level [] [] (state_super_of_class None [] [] [] 0 297 [])) (outs-Func _)) (as_run (inside recorder program_super_of_class (means_super_of_class) (func_id 1) function_super_of_class_1 []) (let same : calls_function recorder program_super_of_class (means_super_of_class) (func_id 1) [] [] (state_super_of_class None [] [] [] 0 297 []) ≡ inside recorder program_super_of_class (means_super_of_class) (func_id 1) function_super_of_class_1 [] (state_super_of_class None [] [] [] 0 297 []) = refl in same) (gives_same (leaves (state_super_of_class None [] [] [] 0 297 []).frame ((Err (Left construct.SuperOfAClass)), super_of_class_0_at_2)) (in_frame recorder program_super_of_class (func_id 1) function_super_of_class_1 [] (Err (Left construct.SuperOfAClass)) super_of_class_0_at_2 (then_ok (begins recorder (node 3)) _ tt (state_super_of_class (Some (func_id 1)) [] [] [] 1 296 (began 3 ∷ [])) (leaf refl) (then_err (means_super_of_class super_of_class_n4) _ (Left construct.SuperOfAClass) super_of_class_0_at_2 (stmt_node recorder program_super_of_class super_of_class_n4 295 (y.outs-Return (Some super_of_class_n5)) refl (then_err (value_super_of_class super_of_class_n5) _ (Left construct.SuperOfAClass) super_of_class_0_at_2 (expr_node recorder program_super_of_class super_of_class_n5 294 (x.outs-Method super_of_class_n6 (codes "m") (args (super_of_class_n7 ∷ []) [])) refl (then_ok (value_super_of_class super_of_class_n6) _ ((v.Class (Own 0)), (j.Plain true)) super_of_class_0_at_3 (expr_node recorder program_super_of_class super_of_class_n6 293 (x.outs-Name (codes "C")) refl (leaf (simp views))) (then_ok (finds program_super_of_class (v.Class (Own 0)) (codes "m")) _ (callee.Function (func_id 0)) super_of_class_0_at_3 (leaf (first_of (simp views, simp tuples, search))) (as_run (plain_arguments recorder program_super_of_class (value_super_of_class) (means_super_of_class) (callee.Function (func_id 0)) [] (super_of_class_n7 ∷ []) []) (ap (λ args. plain_arguments recorder program_super_of_class (value_super_of_class) (means_super_of_class) (callee.Function (func_id 0)) [] args.plain args.named super_of_class_0_at_3) (out-roll-Args _)) (then_ok (value_super_of_class super_of_class_n7) _ ((v.Class (Own 0)), (j.Plain true)) super_of_class_0_at_4 (expr_node recorder program_super_of_class super_of_class_n7 292 (x.outs-Name (codes "C")) refl (leaf (simp views))) (as_run (inside recorder program_super_of_class (means_super_of_class) (func_id 0) function_super_of_class_0 (((codes "self"), (v.Class (Own 0))) ∷ [])) (let same : calls_function recorder program_super_of_class (means_super_of_class) (func_id 0) ((v.Class (Own 0)) ∷ []) [] super_of_class_0_at_4 ≡ inside recorder program_super_of_class (means_super_of_class) (func_id 0) function_super_of_class_0 (((codes "self"), (v.Class (Own 0))) ∷ []) super_of_class_0_at_4 = refl in same) (gives_same (leaves super_of_class_0_at_4.frame ((Err (Left construct.SuperOfAClass)), super_of_class_0_at_1)) (in_frame recorder program_super_of_class (func_id 0) function_super_of_class_0 (((codes "self"), (v.Class (Own 0))) ∷ []) (Err (Left construct.SuperOfAClass)) super_of_class_0_at_1 (then_ok (begins recorder (node 0)) _ tt (state_super_of_class (Some (func_id 0)) (((codes "self"), (v.Class (Own 0))) ∷ []) [] [] 2 291 (began 3 ∷ began 4 ∷ began 5 ∷ began 6 ∷ began 7 ∷ began 0 ∷ [])) (leaf refl) (then_err (means_super_of_class super_of_class_n1) _ (Left construct.SuperOfAClass) super_of_class_0_at_1 (stmt_node recorder program_super_of_class super_of_class_n1 290 (y.outs-Return (Some super_of_class_n2)) refl (then_err (value_super_of_class super_of_class_n2) _ (Left construct.SuperOfAClass) super_of_class_0_at_1 (expr_node recorder program_super_of_class super_of_class_n2 289 (x.outs-Super (codes "m") (args [] [])) refl (then_err (finds_super recorder program_super_of_class (codes "m")) _ (Left construct.SuperOfAClass) super_of_class_0_at_1 (leaf (first_of (simp views, simp tuples, search)))))))))) (refl))))))))))))) (refl)))))))))

abbrev value_mro : Expr → Run Trail Finding
value_mro = value_of recorder program_mro

abbrev means_mro : Stmt → Run Trail Finding
means_mro = means recorder program_mro

abbrev mro_0_seen_1 : Trail
mro_0_seen_1 = began 10 ∷ began 11 ∷ began 12 ∷ began 13 ∷ []

abbrev mro_0_at_1 : State World Trail
mro_0_at_1 = state_mro (Some (func_id 2)) [] [] [] 1 293 mro_0_seen_1

abbrev mro_0_at_2 : State World Trail
mro_0_at_2 = state_mro None [] [] [] 0 293 mro_0_seen_1

pub mro_0 : Yields (means_mro mro_t5) (state_mro None [] [] [] 0 300 []) ((Err (Left construct.ClassAttribute)), mro_0_at_2)
unfolding equal ordered
mro_0 =
    stmt_node recorder program_mro mro_t5 299 (y.outs-Assign ((target.Name (codes "var_8")) ∷ []) false None mro_t4) refl (then_err (value_mro mro_t4) _ (Left construct.ClassAttribute) mro_0_at_2 (expr_node recorder program_mro mro_t4 298 (x.outs-Method mro_t3 (codes "f") (args [] [])) refl (then_ok (value_mro mro_t3) _ (v.ModuleRef, (j.Plain true)) (state_mro None [] [] [] 0 297 []) (expr_node recorder program_mro mro_t3 297 (x.outs-Name (codes "module_0")) refl (leaf (simp views))) (then_ok (finds program_mro v.ModuleRef (codes "f")) _ (callee.Value (v.Func (func_id 2))) (state_mro None [] [] [] 0 297 []) (leaf (first_of (simp views, simp tuples, search))) (as_run (plain_arguments recorder program_mro (value_mro) (means_mro) (callee.Value (v.Func (func_id 2))) [] [] []) (ap (λ args. plain_arguments recorder program_mro (value_mro) (means_mro) (callee.Value (v.Func (func_id 2))) [] args.plain args.named (state_mro None [] [] [] 0 297 [])) (out-roll-Args _)) (as_run (calls_function recorder program_mro (means_mro) (func_id 2) [] []) (ap (λ level. calls_value recorder program_mro (means_mro) level [] [] (state_mro None [] [] [] 0 297 [])) (outs-Func _)) (as_run (inside recorder program_mro (means_mro) (func_id 2) function_mro_2 []) (let same : calls_function recorder program_mro (means_mro) (func_id 2) [] [] (state_mro None [] [] [] 0 297 []) ≡ inside recorder program_mro (means_mro) (func_id 2) function_mro_2 [] (state_mro None [] [] [] 0 297 []) = refl in same) (gives_same (leaves (state_mro None [] [] [] 0 297 []).frame ((Err (Left construct.ClassAttribute)), mro_0_at_1)) (in_frame recorder program_mro (func_id 2) function_mro_2 [] (Err (Left construct.ClassAttribute)) mro_0_at_1 (then_ok (begins recorder (node 10)) _ tt (state_mro (Some (func_id 2)) [] [] [] 1 296 (began 10 ∷ [])) (leaf refl) (then_err (means_mro mro_n11) _ (Left construct.ClassAttribute) mro_0_at_1 (stmt_node recorder program_mro mro_n11 295 (y.outs-Return (Some mro_n12)) refl (then_err (value_mro mro_n12) _ (Left construct.ClassAttribute) mro_0_at_1 (expr_node recorder program_mro mro_n12 294 (x.outs-Attr mro_n13 (codes "mro")) refl (then_ok (value_mro mro_n13) _ ((v.Class (Own 0)), (j.Plain true)) mro_0_at_1 (expr_node recorder program_mro mro_n13 293 (x.outs-Name (codes "A")) refl (leaf (simp views))) (then_err (finds program_mro (v.Class (Own 0)) (codes "mro")) _ (Left construct.ClassAttribute) mro_0_at_1 (leaf (first_of (simp views, simp tuples, search))))))))))) (refl)))))))))

abbrev value_missing_of_class : Expr → Run Trail Finding
value_missing_of_class = value_of recorder program_missing_of_class

abbrev means_missing_of_class : Stmt → Run Trail Finding
means_missing_of_class = means recorder program_missing_of_class

abbrev missing_of_class_0_seen_1 : Trail
missing_of_class_0_seen_1 = began 10 ∷ began 11 ∷ began 12 ∷ began 13 ∷ []

abbrev missing_of_class_0_at_1 : State World Trail
missing_of_class_0_at_1 = state_missing_of_class (Some (func_id 2)) [] [] (object.Instance (Built built.AttributeError) [] None ∷ []) 1 293 missing_of_class_0_seen_1

abbrev missing_of_class_0_at_2 : State World Trail
missing_of_class_0_at_2 = state_missing_of_class None [] [] (object.Instance (Built built.AttributeError) [] None ∷ []) 0 293 missing_of_class_0_seen_1

pub missing_of_class_0 : Yields (means_missing_of_class missing_of_class_t5) (state_missing_of_class None [] [] [] 0 300 []) ((Err (Raised (id 0))), missing_of_class_0_at_2)
unfolding equal ordered
missing_of_class_0 =
    stmt_node recorder program_missing_of_class missing_of_class_t5 299 (y.outs-Assign ((target.Name (codes "var_8")) ∷ []) false None missing_of_class_t4) refl (then_err (value_missing_of_class missing_of_class_t4) _ (Raised (id 0)) missing_of_class_0_at_2 (expr_node recorder program_missing_of_class missing_of_class_t4 298 (x.outs-Method missing_of_class_t3 (codes "f") (args [] [])) refl (then_ok (value_missing_of_class missing_of_class_t3) _ (v.ModuleRef, (j.Plain true)) (state_missing_of_class None [] [] [] 0 297 []) (expr_node recorder program_missing_of_class missing_of_class_t3 297 (x.outs-Name (codes "module_0")) refl (leaf (simp views))) (then_ok (finds program_missing_of_class v.ModuleRef (codes "f")) _ (callee.Value (v.Func (func_id 2))) (state_missing_of_class None [] [] [] 0 297 []) (leaf (first_of (simp views, simp tuples, search))) (as_run (plain_arguments recorder program_missing_of_class (value_missing_of_class) (means_missing_of_class) (callee.Value (v.Func (func_id 2))) [] [] []) (ap (λ args. plain_arguments recorder program_missing_of_class (value_missing_of_class) (means_missing_of_class) (callee.Value (v.Func (func_id 2))) [] args.plain args.named (state_missing_of_class None [] [] [] 0 297 [])) (out-roll-Args _)) (as_run (calls_function recorder program_missing_of_class (means_missing_of_class) (func_id 2) [] []) (ap (λ level. calls_value recorder program_missing_of_class (means_missing_of_class) level [] [] (state_missing_of_class None [] [] [] 0 297 [])) (outs-Func _)) (as_run (inside recorder program_missing_of_class (means_missing_of_class) (func_id 2) function_missing_of_class_2 []) (let same : calls_function recorder program_missing_of_class (means_missing_of_class) (func_id 2) [] [] (state_missing_of_class None [] [] [] 0 297 []) ≡ inside recorder program_missing_of_class (means_missing_of_class) (func_id 2) function_missing_of_class_2 [] (state_missing_of_class None [] [] [] 0 297 []) = refl in same) (gives_same (leaves (state_missing_of_class None [] [] [] 0 297 []).frame ((Err (Raised (id 0))), missing_of_class_0_at_1)) (in_frame recorder program_missing_of_class (func_id 2) function_missing_of_class_2 [] (Err (Raised (id 0))) missing_of_class_0_at_1 (then_ok (begins recorder (node 10)) _ tt (state_missing_of_class (Some (func_id 2)) [] [] [] 1 296 (began 10 ∷ [])) (leaf refl) (then_err (means_missing_of_class missing_of_class_n11) _ (Raised (id 0)) missing_of_class_0_at_1 (stmt_node recorder program_missing_of_class missing_of_class_n11 295 (y.outs-Return (Some missing_of_class_n12)) refl (then_err (value_missing_of_class missing_of_class_n12) _ (Raised (id 0)) missing_of_class_0_at_1 (expr_node recorder program_missing_of_class missing_of_class_n12 294 (x.outs-Attr missing_of_class_n13 (codes "y")) refl (then_ok (value_missing_of_class missing_of_class_n13) _ ((v.Class (Own 0)), (j.Plain true)) (state_missing_of_class (Some (func_id 2)) [] [] [] 1 293 missing_of_class_0_seen_1) (expr_node recorder program_missing_of_class missing_of_class_n13 293 (x.outs-Name (codes "A")) refl (leaf (simp views))) (then_err (finds program_missing_of_class (v.Class (Own 0)) (codes "y")) _ (Raised (id 0)) missing_of_class_0_at_1 (leaf (first_of (simp views, simp tuples, search))))))))))) (refl)))))))))

abbrev value_set_class_attribute : Expr → Run Trail Finding
value_set_class_attribute = value_of recorder program_set_class_attribute

abbrev means_set_class_attribute : Stmt → Run Trail Finding
means_set_class_attribute = means recorder program_set_class_attribute

abbrev set_class_attribute_0_seen_1 : Trail
set_class_attribute_0_seen_1 = began 10 ∷ began 11 ∷ began 13 ∷ began 12 ∷ []

abbrev set_class_attribute_0_at_1 : State World Trail
set_class_attribute_0_at_1 = state_set_class_attribute (Some (func_id 2)) [] [] [] 1 293 set_class_attribute_0_seen_1

abbrev set_class_attribute_0_at_2 : State World Trail
set_class_attribute_0_at_2 = state_set_class_attribute None [] [] [] 0 293 set_class_attribute_0_seen_1

pub set_class_attribute_0 : Yields (means_set_class_attribute set_class_attribute_t5) (state_set_class_attribute None [] [] [] 0 300 []) ((Err (Left construct.ClassAttribute)), set_class_attribute_0_at_2)
unfolding equal ordered
set_class_attribute_0 =
    stmt_node recorder program_set_class_attribute set_class_attribute_t5 299 (y.outs-Assign ((target.Name (codes "var_8")) ∷ []) false None set_class_attribute_t4) refl (then_err (value_set_class_attribute set_class_attribute_t4) _ (Left construct.ClassAttribute) set_class_attribute_0_at_2 (expr_node recorder program_set_class_attribute set_class_attribute_t4 298 (x.outs-Method set_class_attribute_t3 (codes "f") (args [] [])) refl (then_ok (value_set_class_attribute set_class_attribute_t3) _ (v.ModuleRef, (j.Plain true)) (state_set_class_attribute None [] [] [] 0 297 []) (expr_node recorder program_set_class_attribute set_class_attribute_t3 297 (x.outs-Name (codes "module_0")) refl (leaf (simp views))) (then_ok (finds program_set_class_attribute v.ModuleRef (codes "f")) _ (callee.Value (v.Func (func_id 2))) (state_set_class_attribute None [] [] [] 0 297 []) (leaf (first_of (simp views, simp tuples, search))) (as_run (plain_arguments recorder program_set_class_attribute (value_set_class_attribute) (means_set_class_attribute) (callee.Value (v.Func (func_id 2))) [] [] []) (ap (λ args. plain_arguments recorder program_set_class_attribute (value_set_class_attribute) (means_set_class_attribute) (callee.Value (v.Func (func_id 2))) [] args.plain args.named (state_set_class_attribute None [] [] [] 0 297 [])) (out-roll-Args _)) (as_run (calls_function recorder program_set_class_attribute (means_set_class_attribute) (func_id 2) [] []) (ap (λ level. calls_value recorder program_set_class_attribute (means_set_class_attribute) level [] [] (state_set_class_attribute None [] [] [] 0 297 [])) (outs-Func _)) (as_run (inside recorder program_set_class_attribute (means_set_class_attribute) (func_id 2) function_set_class_attribute_2 []) (let same : calls_function recorder program_set_class_attribute (means_set_class_attribute) (func_id 2) [] [] (state_set_class_attribute None [] [] [] 0 297 []) ≡ inside recorder program_set_class_attribute (means_set_class_attribute) (func_id 2) function_set_class_attribute_2 [] (state_set_class_attribute None [] [] [] 0 297 []) = refl in same) (gives_same (leaves (state_set_class_attribute None [] [] [] 0 297 []).frame ((Err (Left construct.ClassAttribute)), set_class_attribute_0_at_1)) (in_frame recorder program_set_class_attribute (func_id 2) function_set_class_attribute_2 [] (Err (Left construct.ClassAttribute)) set_class_attribute_0_at_1 (then_ok (begins recorder (node 10)) _ tt (state_set_class_attribute (Some (func_id 2)) [] [] [] 1 296 (began 10 ∷ [])) (leaf refl) (then_err (means_set_class_attribute set_class_attribute_n11) _ (Left construct.ClassAttribute) set_class_attribute_0_at_1 (stmt_node recorder program_set_class_attribute set_class_attribute_n11 295 (y.outs-Assign ((target.Attr set_class_attribute_n12 (codes "k")) ∷ []) false None set_class_attribute_n13) refl (then_ok (value_set_class_attribute set_class_attribute_n13) _ ((v.Int (pos 2)), (j.Plain true)) (state_set_class_attribute (Some (func_id 2)) [] [] [] 1 294 (began 10 ∷ began 11 ∷ began 13 ∷ [])) (expr_node recorder program_set_class_attribute set_class_attribute_n13 294 (x.outs-IntLit (pos 2)) refl (leaf (simp views))) (then_err (stores program_set_class_attribute (value_set_class_attribute) (target.Attr set_class_attribute_n12 (codes "k")) (v.Int (pos 2))) _ (Left construct.ClassAttribute) set_class_attribute_0_at_1 (then_ok (value_set_class_attribute set_class_attribute_n12) _ ((v.Class (Own 0)), (j.Plain true)) set_class_attribute_0_at_1 (expr_node recorder program_set_class_attribute set_class_attribute_n12 293 (x.outs-Name (codes "A")) refl (leaf (simp views))) (leaf (first_of (simp views, simp tuples, search)))))))))) (refl)))))))))

abbrev value_inherited_constant : Expr → Run Trail Finding
value_inherited_constant = value_of recorder program_inherited_constant

abbrev means_inherited_constant : Stmt → Run Trail Finding
means_inherited_constant = means recorder program_inherited_constant

abbrev inherited_constant_0_seen_1 : Trail
inherited_constant_0_seen_1 = began 10 ∷ began 11 ∷ began 12 ∷ began 13 ∷ began 14 ∷ began 15 ∷ began 16 ∷ began 17 ∷ began 0 ∷ began 1 ∷ began 3 ∷ began 2 ∷ []

abbrev inherited_constant_0_seen_2 : Trail
inherited_constant_0_seen_2 = began 10 ∷ began 11 ∷ began 12 ∷ began 13 ∷ began 14 ∷ began 15 ∷ began 16 ∷ began 17 ∷ []

abbrev inherited_constant_0_seen_3 : Trail
inherited_constant_0_seen_3 = began 10 ∷ began 11 ∷ began 12 ∷ began 13 ∷ began 14 ∷ []

abbrev inherited_constant_0_at_1 : State World Trail
inherited_constant_0_at_1 = state_inherited_constant (Some (func_id 0)) (((codes "self"), (ref 0)) ∷ ((codes "x"), (v.Int (pos 1))) ∷ []) [] (object.Instance (Own 1) (((codes "x"), (v.Int (pos 1))) ∷ []) None ∷ []) 2 285 inherited_constant_0_seen_1

abbrev inherited_constant_0_at_2 : State World Trail
inherited_constant_0_at_2 = state_inherited_constant (Some (func_id 2)) [] [] (object.Instance (Own 1) (((codes "x"), (v.Int (pos 1))) ∷ []) None ∷ []) 1 283 inherited_constant_0_seen_1

abbrev inherited_constant_0_at_3 : State World Trail
inherited_constant_0_at_3 = state_inherited_constant (Some (func_id 2)) [] [] (object.Instance (Own 1) (((codes "x"), (v.Int (pos 1))) ∷ []) None ∷ []) 1 285 inherited_constant_0_seen_1

abbrev inherited_constant_0_at_4 : State World Trail
inherited_constant_0_at_4 = state_inherited_constant (Some (func_id 2)) [] [] (object.Instance (Own 1) [] None ∷ []) 1 289 inherited_constant_0_seen_2

abbrev inherited_constant_0_at_5 : State World Trail
inherited_constant_0_at_5 = state_inherited_constant (Some (func_id 2)) [] [] [] 1 292 inherited_constant_0_seen_3

abbrev inherited_constant_0_at_6 : State World Trail
inherited_constant_0_at_6 = state_inherited_constant (Some (func_id 2)) [] [] [] 1 289 inherited_constant_0_seen_2

pub inherited_constant_0 : Yields (means_inherited_constant inherited_constant_t5) (state_inherited_constant None [] [] [] 0 300 []) ((Ok (v.None, (j.Plain false))), (state_inherited_constant None (((codes "var_8"), (tuple ((v.Int (pos 7)) ∷ (v.Int (pos 7)) ∷ []))) ∷ []) [] (object.Instance (Own 1) (((codes "x"), (v.Int (pos 1))) ∷ []) None ∷ []) 0 283 inherited_constant_0_seen_1))
unfolding equal ordered
inherited_constant_0 =
    stmt_node recorder program_inherited_constant inherited_constant_t5 299 (y.outs-Assign ((target.Name (codes "var_8")) ∷ []) false None inherited_constant_t4) refl (then_ok (value_inherited_constant inherited_constant_t4) _ ((tuple ((v.Int (pos 7)) ∷ (v.Int (pos 7)) ∷ [])), (j.Plain true)) (state_inherited_constant None [] [] (object.Instance (Own 1) (((codes "x"), (v.Int (pos 1))) ∷ []) None ∷ []) 0 283 inherited_constant_0_seen_1) (expr_node recorder program_inherited_constant inherited_constant_t4 298 (x.outs-Method inherited_constant_t3 (codes "f") (args [] [])) refl (then_ok (value_inherited_constant inherited_constant_t3) _ (v.ModuleRef, (j.Plain true)) (state_inherited_constant None [] [] [] 0 297 []) (expr_node recorder program_inherited_constant inherited_constant_t3 297 (x.outs-Name (codes "module_0")) refl (leaf (simp views))) (then_ok (finds program_inherited_constant v.ModuleRef (codes "f")) _ (callee.Value (v.Func (func_id 2))) (state_inherited_constant None [] [] [] 0 297 []) (leaf (first_of (simp views, simp tuples, search))) (as_run (plain_arguments recorder program_inherited_constant (value_inherited_constant) (means_inherited_constant) (callee.Value (v.Func (func_id 2))) [] [] []) (ap (λ args. plain_arguments recorder program_inherited_constant (value_inherited_constant) (means_inherited_constant) (callee.Value (v.Func (func_id 2))) [] args.plain args.named (state_inherited_constant None [] [] [] 0 297 [])) (out-roll-Args _)) (as_run (calls_function recorder program_inherited_constant (means_inherited_constant) (func_id 2) [] []) (ap (λ level. calls_value recorder program_inherited_constant (means_inherited_constant) level [] [] (state_inherited_constant None [] [] [] 0 297 [])) (outs-Func _)) (as_run (inside recorder program_inherited_constant (means_inherited_constant) (func_id 2) function_inherited_constant_2 []) (let same : calls_function recorder program_inherited_constant (means_inherited_constant) (func_id 2) [] [] (state_inherited_constant None [] [] [] 0 297 []) ≡ inside recorder program_inherited_constant (means_inherited_constant) (func_id 2) function_inherited_constant_2 [] (state_inherited_constant None [] [] [] 0 297 []) = refl in same) (gives_same (leaves (state_inherited_constant None [] [] [] 0 297 []).frame ((Err (Returned (tuple ((v.Int (pos 7)) ∷ (v.Int (pos 7)) ∷ [])))), inherited_constant_0_at_2)) (in_frame recorder program_inherited_constant (func_id 2) function_inherited_constant_2 [] (Err (Returned (tuple ((v.Int (pos 7)) ∷ (v.Int (pos 7)) ∷ [])))) inherited_constant_0_at_2 (then_ok (begins recorder (node 10)) _ tt (state_inherited_constant (Some (func_id 2)) [] [] [] 1 296 (began 10 ∷ [])) (leaf refl) (then_err (means_inherited_constant inherited_constant_n11) _ (Returned (tuple ((v.Int (pos 7)) ∷ (v.Int (pos 7)) ∷ []))) inherited_constant_0_at_2 (stmt_node recorder program_inherited_constant inherited_constant_n11 295 (y.outs-Return (Some inherited_constant_n12)) refl (then_ok (value_inherited_constant inherited_constant_n12) _ ((tuple ((v.Int (pos 7)) ∷ (v.Int (pos 7)) ∷ [])), (j.Plain true)) inherited_constant_0_at_2 (expr_node recorder program_inherited_constant inherited_constant_n12 294 (x.outs-TupleLit (inherited_constant_n13 ∷ inherited_constant_n15 ∷ [])) refl (then_ok (value_inherited_constant inherited_constant_n13) _ ((v.Int (pos 7)), (j.Plain true)) inherited_constant_0_at_5 (expr_node recorder program_inherited_constant inherited_constant_n13 293 (x.outs-Attr inherited_constant_n14 (codes "k")) refl (then_ok (value_inherited_constant inherited_constant_n14) _ ((v.Class (Own 1)), (j.Plain true)) inherited_constant_0_at_5 (expr_node recorder program_inherited_constant inherited_constant_n14 292 (x.outs-Name (codes "D")) refl (leaf (simp views))) (then_ok (finds program_inherited_constant (v.Class (Own 1)) (codes "k")) _ (callee.Value (v.Int (pos 7))) inherited_constant_0_at_5 (leaf (first_of (simp views, simp tuples, search))) (leaf (first_of (simp views, simp tuples, search)))))) (then_ok (value_inherited_constant inherited_constant_n15) _ ((v.Int (pos 7)), (j.Plain true)) inherited_constant_0_at_3 (expr_node recorder program_inherited_constant inherited_constant_n15 291 (x.outs-Attr inherited_constant_n16 (codes "k")) refl (then_ok (value_inherited_constant inherited_constant_n16) _ ((ref 0), (j.Plain true)) inherited_constant_0_at_3 (expr_node recorder program_inherited_constant inherited_constant_n16 290 (x.outs-Call inherited_constant_n17 (args [] [])) refl (as_run (calls_meant recorder program_inherited_constant (value_inherited_constant) (means_inherited_constant) None inherited_constant_n17 (args [] [])) (ap (λ kind. calls_expr recorder program_inherited_constant (value_inherited_constant) (means_inherited_constant) kind inherited_constant_n17 (args [] []) (state_inherited_constant (Some (func_id 2)) [] [] [] 1 290 (began 10 ∷ began 11 ∷ began 12 ∷ began 13 ∷ began 14 ∷ began 15 ∷ began 16 ∷ []))) (x.outs-Name (codes "D"))) (then_ok (value_inherited_constant inherited_constant_n17) _ ((v.Class (Own 1)), (j.Plain true)) inherited_constant_0_at_6 (expr_node recorder program_inherited_constant inherited_constant_n17 289 (x.outs-Name (codes "D")) refl (leaf (simp views))) (as_run (plain_arguments recorder program_inherited_constant (value_inherited_constant) (means_inherited_constant) (callee.Value (v.Class (Own 1))) [] [] []) (ap (λ args. plain_arguments recorder program_inherited_constant (value_inherited_constant) (means_inherited_constant) (callee.Value (v.Class (Own 1))) [] args.plain args.named inherited_constant_0_at_6) (out-roll-Args _)) (as_run (calls_class recorder program_inherited_constant (means_inherited_constant) (Own 1) [] []) (ap (λ level. calls_value recorder program_inherited_constant (means_inherited_constant) level [] [] inherited_constant_0_at_6) (outs-Class _)) (as_run (makes_instance (Own 1) None >>= (λ id. initializes recorder program_inherited_constant (means_inherited_constant) id (func_id 0) [] [])) (let same : calls_class recorder program_inherited_constant (means_inherited_constant) (Own 1) [] [] inherited_constant_0_at_6 ≡ (makes_instance (Own 1) None >>= (λ id. initializes recorder program_inherited_constant (means_inherited_constant) id (func_id 0) [] [])) inherited_constant_0_at_6 = refl in same) (then_ok (makes_instance (Own 1) None) (λ id. initializes recorder program_inherited_constant (means_inherited_constant) id (func_id 0) [] []) (id 0) inherited_constant_0_at_4 (leaf refl) (then_ok (calls_function recorder program_inherited_constant (means_inherited_constant) (func_id 0) ((ref 0) ∷ []) []) (λ x. initialized (id 0) (out-Value x.0)) (v.None, (j.Plain false)) inherited_constant_0_at_3 (as_run (inside recorder program_inherited_constant (means_inherited_constant) (func_id 0) function_inherited_constant_0 (((codes "self"), (ref 0)) ∷ ((codes "x"), (v.Int (pos 1))) ∷ [])) (let same : calls_function recorder program_inherited_constant (means_inherited_constant) (func_id 0) ((ref 0) ∷ []) [] inherited_constant_0_at_4 ≡ inside recorder program_inherited_constant (means_inherited_constant) (func_id 0) function_inherited_constant_0 (((codes "self"), (ref 0)) ∷ ((codes "x"), (v.Int (pos 1))) ∷ []) inherited_constant_0_at_4 = refl in same) (gives_same (leaves inherited_constant_0_at_4.frame ((Ok (v.None, (j.Plain false))), inherited_constant_0_at_1)) (in_frame recorder program_inherited_constant (func_id 0) function_inherited_constant_0 (((codes "self"), (ref 0)) ∷ ((codes "x"), (v.Int (pos 1))) ∷ []) (Ok (v.None, (j.Plain false))) inherited_constant_0_at_1 (then_ok (begins recorder (node 0)) _ tt (state_inherited_constant (Some (func_id 0)) (((codes "self"), (ref 0)) ∷ ((codes "x"), (v.Int (pos 1))) ∷ []) [] (object.Instance (Own 1) [] None ∷ []) 2 288 (began 10 ∷ began 11 ∷ began 12 ∷ began 13 ∷ began 14 ∷ began 15 ∷ began 16 ∷ began 17 ∷ began 0 ∷ [])) (leaf refl) (then_ok (means_inherited_constant inherited_constant_n1) _ (v.None, (j.Plain false)) inherited_constant_0_at_1 (stmt_node recorder program_inherited_constant inherited_constant_n1 287 (y.outs-Assign ((target.Attr inherited_constant_n2 (codes "x")) ∷ []) false None inherited_constant_n3) refl (then_ok (value_inherited_constant inherited_constant_n3) _ ((v.Int (pos 1)), (j.Plain true)) (state_inherited_constant (Some (func_id 0)) (((codes "self"), (ref 0)) ∷ ((codes "x"), (v.Int (pos 1))) ∷ []) [] (object.Instance (Own 1) [] None ∷ []) 2 286 (began 10 ∷ began 11 ∷ began 12 ∷ began 13 ∷ began 14 ∷ began 15 ∷ began 16 ∷ began 17 ∷ began 0 ∷ began 1 ∷ began 3 ∷ [])) (expr_node recorder program_inherited_constant inherited_constant_n3 286 (x.outs-Name (codes "x")) refl (leaf (simp views))) (then_ok (stores program_inherited_constant (value_inherited_constant) (target.Attr inherited_constant_n2 (codes "x")) (v.Int (pos 1))) _ (v.None, (j.Plain false)) inherited_constant_0_at_1 (then_ok (value_inherited_constant inherited_constant_n2) _ ((ref 0), (j.Plain true)) (state_inherited_constant (Some (func_id 0)) (((codes "self"), (ref 0)) ∷ ((codes "x"), (v.Int (pos 1))) ∷ []) [] (object.Instance (Own 1) [] None ∷ []) 2 285 inherited_constant_0_seen_1) (expr_node recorder program_inherited_constant inherited_constant_n2 285 (x.outs-Name (codes "self")) refl (leaf (simp views))) (leaf (first_of (simp views, simp tuples, search)))) (leaf refl)))) (leaf refl)))) (refl))) (leaf (first_of (simp views, simp tuples, search))))))))))) (then_ok (finds program_inherited_constant (ref 0) (codes "k")) _ (callee.Value (v.Int (pos 7))) inherited_constant_0_at_3 (leaf (first_of (simp views, simp tuples, search))) (leaf (first_of (simp views, simp tuples, search)))))) (leaf (first_of (simp views, simp tuples, search)))))) (leaf refl)))))) (simp views)))))))) (leaf refl))

abbrev value_exception_init : Expr → Run Trail Finding
value_exception_init = value_of recorder program_exception_init

abbrev means_exception_init : Stmt → Run Trail Finding
means_exception_init = means recorder program_exception_init

shallow_seven : (p : Run Trail Finding) (s : State World Trail) → within_depth ((v.Int (pos 7)) ∷ []) p s ≡ p s
shallow_seven p s = ap (λ deep. (if nat_le deep tuple_limit then p else stop (Left construct.TupleDepth)) s) (let e : depth_over ((v.Int (pos 7)) ∷ []) ≡ 1 = simp views in e)

-- the call of its `__init__`
init_called : Yields (calls_function recorder program_exception_init (means_exception_init) (func_id 0) (v.Ref (id 0) ∷ ((v.Int (pos 7)) ∷ [])) []) (state_exception_init None [] [] seven_raised 0 296 []) (Ok (v.None, (j.Plain false)), (state_exception_init None [] [] seven_raised 0 294 (began 0 ∷ began 1 ∷ [])))
init_called =
    as_run (inside recorder program_exception_init (means_exception_init) (func_id 0) function_exception_init_0 (((codes "self"), (v.Ref (id 0))) ∷ ((codes "n"), (v.Int (pos 7))) ∷ [])) (let same : (calls_function recorder program_exception_init (means_exception_init) (func_id 0) (v.Ref (id 0) ∷ ((v.Int (pos 7)) ∷ [])) []) (state_exception_init None [] [] seven_raised 0 296 []) ≡ inside recorder program_exception_init (means_exception_init) (func_id 0) function_exception_init_0 (((codes "self"), (v.Ref (id 0))) ∷ ((codes "n"), (v.Int (pos 7))) ∷ []) (state_exception_init None [] [] seven_raised 0 296 []) = refl in same)
    (gives_same (leaves (state_exception_init None [] [] seven_raised 0 296 []).frame (Ok (v.None, (j.Plain false)), (state_exception_init (Some (func_id 0)) (((codes "self"), (v.Ref (id 0))) ∷ ((codes "n"), (v.Int (pos 7))) ∷ []) [] seven_raised 1 294 (began 0 ∷ began 1 ∷ [])))) (in_frame recorder program_exception_init (func_id 0) function_exception_init_0 (((codes "self"), (v.Ref (id 0))) ∷ ((codes "n"), (v.Int (pos 7))) ∷ []) (Ok (v.None, (j.Plain false))) (state_exception_init (Some (func_id 0)) (((codes "self"), (v.Ref (id 0))) ∷ ((codes "n"), (v.Int (pos 7))) ∷ []) [] seven_raised 1 294 (began 0 ∷ began 1 ∷ []))
    (then_ok (begins recorder (node 0)) _ tt (state_exception_init (Some (func_id 0)) (((codes "self"), (v.Ref (id 0))) ∷ ((codes "n"), (v.Int (pos 7))) ∷ []) [] seven_raised 1 295 (began 0 ∷ [])) (leaf refl) (then_ok (means_exception_init exception_init_n1) _ (v.None, (j.Plain false)) (state_exception_init (Some (func_id 0)) (((codes "self"), (v.Ref (id 0))) ∷ ((codes "n"), (v.Int (pos 7))) ∷ []) [] seven_raised 1 294 (began 0 ∷ began 1 ∷ []))
    (stmt_node recorder program_exception_init exception_init_n1 294 y.outs-Pass refl (leaf refl)) (leaf refl)))) refl)

pub exception_init_0 : Yields (means_exception_init exception_init_t4) (state_exception_init None [] [] [] 0 300 []) (Ok (v.None, (j.Plain false)), (state_exception_init None (((codes "var_0"), (v.Ref (id 0))) ∷ []) [] seven_raised 0 294 (began 0 ∷ began 1 ∷ [])))
exception_init_0 =
    stmt_node recorder program_exception_init exception_init_t4 299 (y.outs-Assign ((target.Name (codes "var_0")) ∷ []) false None exception_init_t3) refl (then_ok (value_exception_init exception_init_t3) _ ((v.Ref (id 0)), (j.Plain true)) (state_exception_init None [] [] seven_raised 0 294 (began 0 ∷ began 1 ∷ []))
    (expr_node recorder program_exception_init exception_init_t3 298 (x.outs-Method exception_init_t1 (codes "E") (args (exception_init_t2 ∷ []) [])) refl (then_ok (value_exception_init exception_init_t1) _ (v.ModuleRef, (j.Plain true)) (state_exception_init None [] [] [] 0 297 [])
    (expr_node recorder program_exception_init exception_init_t1 297 (x.outs-Name (codes "module_0")) refl (leaf (simp views))) (then_ok (finds program_exception_init v.ModuleRef (codes "E")) _ (callee.Value (v.Class (Own 0))) (state_exception_init None [] [] [] 0 297 []) (leaf (first_of (simp views, simp tuples, search)))
    (as_run (plain_arguments recorder program_exception_init (value_exception_init) (means_exception_init) (callee.Value (v.Class (Own 0))) [] (exception_init_t2 ∷ []) []) (ap (λ args. plain_arguments recorder program_exception_init (value_exception_init) (means_exception_init) (callee.Value (v.Class (Own 0))) [] args.plain args.named (state_exception_init None [] [] [] 0 297 [])) (out-roll-Args _))
    (then_ok (value_exception_init exception_init_t2) _ ((v.Int (pos 7)), (j.Plain true)) (state_exception_init None [] [] [] 0 296 []) (expr_node recorder program_exception_init exception_init_t2 296 (x.outs-IntLit (pos 7)) refl (leaf (simp views)))
    (as_run (instantiates recorder program_exception_init (means_exception_init) (Own 0) ((v.Int (pos 7)) ∷ []) []) (ap (λ level. calls_value recorder program_exception_init (means_exception_init) level ((v.Int (pos 7)) ∷ []) [] (state_exception_init None [] [] [] 0 296 [])) (outs-Class _))
    (as_run (makes_instance (Own 0) (Some (measured ((v.Int (pos 7)) ∷ []))) >>= (λ id. initializes recorder program_exception_init (means_exception_init) id (func_id 0) ((v.Int (pos 7)) ∷ []) [])) (shallow_seven (makes_instance (Own 0) (Some (measured ((v.Int (pos 7)) ∷ []))) >>= (λ id. initializes recorder program_exception_init (means_exception_init) id (func_id 0) ((v.Int (pos 7)) ∷ []) [])) (state_exception_init None [] [] [] 0 296 []))
    (then_ok (makes_instance (Own 0) (Some (measured ((v.Int (pos 7)) ∷ [])))) (λ id. initializes recorder program_exception_init means_exception_init id (func_id 0) ((v.Int (pos 7)) ∷ []) []) (id 0) (state_exception_init None [] [] seven_raised 0 296 []) (leaf refl)
    (then_ok (calls_function recorder program_exception_init (means_exception_init) (func_id 0) (v.Ref (id 0) ∷ ((v.Int (pos 7)) ∷ [])) []) (λ x. initialized (id 0) (out-Value x.0)) (v.None, (j.Plain false)) (state_exception_init None [] [] seven_raised 0 294 (began 0 ∷ began 1 ∷ [])) init_called (leaf (simp views)))))))))))
    (leaf refl))
