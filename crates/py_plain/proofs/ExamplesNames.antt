-- Derivations of the worked examples of names and scopes (Language Reference 4.2): each is a tree of the run, from rules of `Yields`.
use Rattle.py_meaning.specs.Equal.{equal}
use Rattle.py_meaning.specs.Examples.{id}
use Rattle.py_meaning.specs.Folds.{tuple-out, key_cost-Tuple, key_cost-out, as_key-Tuple, as_key-out, same_key-Tuple, same_key-out}
use Rattle.py_meaning.specs.Less.{ordered}
use Rattle.py_meaning.specs.Worlds.{World}
use Rattle.py_meaning.specs.declared.object.Object.TheVariants as object
use Rattle.py_meaning.specs.declared.value.Value.TheVariants as v
use Rattle.py_meaning.specs.declared.value.Value.TheVariants.{outs-None, outs-Bool, outs-Int, outs-Str, outs-Tuple, outs-Ref, outs-Class, outs-Func, outs-View, outs-ModuleRef}
use Rattle.py_plain.proofs.Yields.{Yields, leaf, as_run, gives_same, then_ok, then_err, stmt_node, expr_node, in_frame}
use Rattle.py_plain.specs.Attributes.{finds}
use Rattle.py_plain.specs.Calls.{leaves, inside, calls_function, calls_value, block}
use Rattle.py_plain.specs.Examples.{node, args, func_id, began}
use Rattle.py_plain.specs.ExamplesNames.{test_reads_the_module_t1, test_reads_the_module_t2, test_reads_the_module_t3, test_reads_the_module_t4, program_test_reads_the_module, state_test_reads_the_module, constant_n2, constant_n1, constant_t1, constant_t2, constant_t3, function_constant_0, program_constant, state_constant, builtin_value_n2, builtin_value_n1, builtin_value_t1, builtin_value_t2, builtin_value_t3, function_builtin_value_0, program_builtin_value, state_builtin_value, function_value_n5, function_value_n4, function_value_t1, function_value_t2, function_value_t3, function_function_value_1, program_function_value, state_function_value, unbound_local_n2, unbound_local_n1, unbound_local_t1, unbound_local_t2, unbound_local_t3, function_unbound_local_0, program_unbound_local, state_unbound_local, local_shadows_builtin_n2, local_shadows_builtin_n1, local_shadows_builtin_n4, local_shadows_builtin_n3, local_shadows_builtin_t1, local_shadows_builtin_t2, local_shadows_builtin_t3, function_local_shadows_builtin_0, program_local_shadows_builtin, state_local_shadows_builtin, unbound_in_one_branch_n2, unbound_in_one_branch_n3, unbound_in_one_branch_n1, unbound_in_one_branch_n6, unbound_in_one_branch_n5, unbound_in_one_branch_t1, unbound_in_one_branch_t2, unbound_in_one_branch_t3, unbound_in_one_branch_t4, function_unbound_in_one_branch_0, program_unbound_in_one_branch, state_unbound_in_one_branch}
use Rattle.py_plain.specs.Expressions.{plain_arguments}
use Rattle.py_plain.specs.Runs.{begins, decides, ◌>>◌, tests, Run, Finding}
use Rattle.py_plain.specs.Statements.{means, value_of, branches}
use Rattle.py_plain.specs.Tests.{recorder, Decided, Trail}
use Rattle.py_plain.specs.declared.judged.Judged.TheVariants as j
use Rattle.py_plain.specs.declared.run.Abrupt.TheVariants.{Raised, Returned, Left}
use Rattle.py_plain.specs.declared.run.Callee.TheVariants as callee
use Rattle.py_plain.specs.declared.state.State.{State}
use Rattle.py_syntax.specs.declared.expr.Args.{out-roll-Args}
use Rattle.py_syntax.specs.declared.expr.Expr.{Expr}
use Rattle.py_syntax.specs.declared.expr.ExprKind.TheVariants as x
use Rattle.py_syntax.specs.declared.stmt.Stmt.{Stmt}
use Rattle.py_syntax.specs.declared.stmt.StmtKind.TheVariants as y
use Rattle.py_syntax.specs.declared.stmt.Target.TheVariants as target
use Rattle.pyn_base.specs.declared.class.BuiltClass.TheVariants as built
use Rattle.pyn_base.specs.declared.class.ClassId.TheVariants.{Built}
use Rattle.pyn_base.specs.declared.construct.Construct.TheVariants as construct
use Rattle.std.proofs.Common.{◌≡◌, refl, ap}
use Rattle.std.specs.Prelude.{pos, true, false, [], ◌∷◌, Some, None, Ok, Err, codes, if◌then◌else◌}

ruleset views = (tuple-out, outs-None, outs-Bool, outs-Int, outs-Str, outs-Tuple, outs-Ref, outs-Class, outs-Func, outs-View, outs-ModuleRef)

ruleset tuples = (tuple-out, outs-None, outs-Bool, outs-Int, outs-Str, outs-Tuple, outs-Ref, outs-Class, outs-Func, outs-View, outs-ModuleRef, key_cost-Tuple, key_cost-out, as_key-Tuple, as_key-out, same_key-Tuple, same_key-out)

abbrev value_test_reads_the_module : Expr → Run Trail Finding
value_test_reads_the_module = value_of recorder program_test_reads_the_module

abbrev means_test_reads_the_module : Stmt → Run Trail Finding
means_test_reads_the_module = means recorder program_test_reads_the_module

pub test_reads_the_module_0 : Yields (means_test_reads_the_module test_reads_the_module_t3) (state_test_reads_the_module None [] [] [] 0 300 []) ((Ok (v.None, (j.Plain false))), (state_test_reads_the_module None (((codes "var_0"), (v.Int (pos 3))) ∷ []) [] [] 0 297 []))
unfolding equal ordered
test_reads_the_module_0 =
    stmt_node recorder program_test_reads_the_module test_reads_the_module_t3 299 (y.outs-Assign ((target.Name (codes "var_0")) ∷ []) false None test_reads_the_module_t2) refl (then_ok (value_test_reads_the_module test_reads_the_module_t2) _ ((v.Int (pos 3)), (j.Plain true)) (state_test_reads_the_module None [] [] [] 0 297 []) (expr_node recorder program_test_reads_the_module test_reads_the_module_t2 298 (x.outs-Attr test_reads_the_module_t1 (codes "C")) refl (then_ok (value_test_reads_the_module test_reads_the_module_t1) _ (v.ModuleRef, (j.Plain true)) (state_test_reads_the_module None [] [] [] 0 297 []) (expr_node recorder program_test_reads_the_module test_reads_the_module_t1 297 (x.outs-Name (codes "module_0")) refl (leaf (simp views))) (then_ok (finds program_test_reads_the_module v.ModuleRef (codes "C")) _ (callee.Value (v.Int (pos 3))) (state_test_reads_the_module None [] [] [] 0 297 []) (leaf (first_of (simp views, simp tuples, search))) (leaf (first_of (simp views, simp tuples, search)))))) (leaf refl))

pub test_reads_the_module_1 : Yields (means_test_reads_the_module test_reads_the_module_t4) (state_test_reads_the_module None (((codes "var_0"), (v.Int (pos 3))) ∷ []) [] [] 0 300 []) ((Ok (v.None, (j.Plain false))), (state_test_reads_the_module None (((codes "var_0"), (v.Int (pos 3))) ∷ ((codes "var_1"), v.ModuleRef) ∷ []) [] [] 0 298 []))
unfolding equal ordered
test_reads_the_module_1 =
    stmt_node recorder program_test_reads_the_module test_reads_the_module_t4 299 (y.outs-Assign ((target.Name (codes "var_1")) ∷ []) false None test_reads_the_module_t1) refl (then_ok (value_test_reads_the_module test_reads_the_module_t1) _ (v.ModuleRef, (j.Plain true)) (state_test_reads_the_module None (((codes "var_0"), (v.Int (pos 3))) ∷ []) [] [] 0 298 []) (expr_node recorder program_test_reads_the_module test_reads_the_module_t1 298 (x.outs-Name (codes "module_0")) refl (leaf (simp views))) (leaf refl))

abbrev value_constant : Expr → Run Trail Finding
value_constant = value_of recorder program_constant

abbrev means_constant : Stmt → Run Trail Finding
means_constant = means recorder program_constant

abbrev constant_0_at_1 : State World Trail
constant_0_at_1 = state_constant (Some (func_id 0)) [] [] [] 1 294 (began 0 ∷ began 1 ∷ began 2 ∷ [])

pub constant_0 : Yields (means_constant constant_t3) (state_constant None [] [] [] 0 300 []) ((Ok (v.None, (j.Plain false))), (state_constant None (((codes "var_8"), (v.Int (pos 5))) ∷ []) [] [] 0 294 (began 0 ∷ began 1 ∷ began 2 ∷ [])))
unfolding equal ordered
constant_0 =
    stmt_node recorder program_constant constant_t3 299 (y.outs-Assign ((target.Name (codes "var_8")) ∷ []) false None constant_t2) refl (then_ok (value_constant constant_t2) _ ((v.Int (pos 5)), (j.Plain true)) (state_constant None [] [] [] 0 294 (began 0 ∷ began 1 ∷ began 2 ∷ [])) (expr_node recorder program_constant constant_t2 298 (x.outs-Method constant_t1 (codes "f") (args [] [])) refl (then_ok (value_constant constant_t1) _ (v.ModuleRef, (j.Plain true)) (state_constant None [] [] [] 0 297 []) (expr_node recorder program_constant constant_t1 297 (x.outs-Name (codes "module_0")) refl (leaf (simp views))) (then_ok (finds program_constant v.ModuleRef (codes "f")) _ (callee.Value (v.Func (func_id 0))) (state_constant None [] [] [] 0 297 []) (leaf (first_of (simp views, simp tuples, search))) (as_run (plain_arguments recorder program_constant (value_constant) (means_constant) (callee.Value (v.Func (func_id 0))) [] [] []) (ap (λ args. plain_arguments recorder program_constant (value_constant) (means_constant) (callee.Value (v.Func (func_id 0))) [] args.plain args.named (state_constant None [] [] [] 0 297 [])) (out-roll-Args _)) (as_run (calls_function recorder program_constant (means_constant) (func_id 0) [] []) (ap (λ level. calls_value recorder program_constant (means_constant) level [] [] (state_constant None [] [] [] 0 297 [])) (outs-Func _)) (as_run (inside recorder program_constant (means_constant) (func_id 0) function_constant_0 []) (let same : calls_function recorder program_constant (means_constant) (func_id 0) [] [] (state_constant None [] [] [] 0 297 []) ≡ inside recorder program_constant (means_constant) (func_id 0) function_constant_0 [] (state_constant None [] [] [] 0 297 []) = refl in same) (gives_same (leaves (state_constant None [] [] [] 0 297 []).frame ((Err (Returned (v.Int (pos 5)))), constant_0_at_1)) (in_frame recorder program_constant (func_id 0) function_constant_0 [] (Err (Returned (v.Int (pos 5)))) constant_0_at_1 (then_ok (begins recorder (node 0)) _ tt (state_constant (Some (func_id 0)) [] [] [] 1 296 (began 0 ∷ [])) (leaf refl) (then_err (means_constant constant_n1) _ (Returned (v.Int (pos 5))) constant_0_at_1 (stmt_node recorder program_constant constant_n1 295 (y.outs-Return (Some constant_n2)) refl (then_ok (value_constant constant_n2) _ ((v.Int (pos 5)), (j.Plain true)) constant_0_at_1 (expr_node recorder program_constant constant_n2 294 (x.outs-Name (codes "C")) refl (leaf (simp views))) (leaf refl)))))) (simp views)))))))) (leaf refl))

abbrev value_builtin_value : Expr → Run Trail Finding
value_builtin_value = value_of recorder program_builtin_value

abbrev means_builtin_value : Stmt → Run Trail Finding
means_builtin_value = means recorder program_builtin_value

abbrev builtin_value_0_at_1 : State World Trail
builtin_value_0_at_1 = state_builtin_value (Some (func_id 0)) [] [] [] 1 294 (began 0 ∷ began 1 ∷ began 2 ∷ [])

abbrev builtin_value_0_at_2 : State World Trail
builtin_value_0_at_2 = state_builtin_value None [] [] [] 0 294 (began 0 ∷ began 1 ∷ began 2 ∷ [])

pub builtin_value_0 : Yields (means_builtin_value builtin_value_t3) (state_builtin_value None [] [] [] 0 300 []) ((Err (Left construct.BuiltinValue)), builtin_value_0_at_2)
unfolding equal ordered
builtin_value_0 =
    stmt_node recorder program_builtin_value builtin_value_t3 299 (y.outs-Assign ((target.Name (codes "var_8")) ∷ []) false None builtin_value_t2) refl (then_err (value_builtin_value builtin_value_t2) _ (Left construct.BuiltinValue) builtin_value_0_at_2 (expr_node recorder program_builtin_value builtin_value_t2 298 (x.outs-Method builtin_value_t1 (codes "f") (args [] [])) refl (then_ok (value_builtin_value builtin_value_t1) _ (v.ModuleRef, (j.Plain true)) (state_builtin_value None [] [] [] 0 297 []) (expr_node recorder program_builtin_value builtin_value_t1 297 (x.outs-Name (codes "module_0")) refl (leaf (simp views))) (then_ok (finds program_builtin_value v.ModuleRef (codes "f")) _ (callee.Value (v.Func (func_id 0))) (state_builtin_value None [] [] [] 0 297 []) (leaf (first_of (simp views, simp tuples, search))) (as_run (plain_arguments recorder program_builtin_value (value_builtin_value) (means_builtin_value) (callee.Value (v.Func (func_id 0))) [] [] []) (ap (λ args. plain_arguments recorder program_builtin_value (value_builtin_value) (means_builtin_value) (callee.Value (v.Func (func_id 0))) [] args.plain args.named (state_builtin_value None [] [] [] 0 297 [])) (out-roll-Args _)) (as_run (calls_function recorder program_builtin_value (means_builtin_value) (func_id 0) [] []) (ap (λ level. calls_value recorder program_builtin_value (means_builtin_value) level [] [] (state_builtin_value None [] [] [] 0 297 [])) (outs-Func _)) (as_run (inside recorder program_builtin_value (means_builtin_value) (func_id 0) function_builtin_value_0 []) (let same : calls_function recorder program_builtin_value (means_builtin_value) (func_id 0) [] [] (state_builtin_value None [] [] [] 0 297 []) ≡ inside recorder program_builtin_value (means_builtin_value) (func_id 0) function_builtin_value_0 [] (state_builtin_value None [] [] [] 0 297 []) = refl in same) (gives_same (leaves (state_builtin_value None [] [] [] 0 297 []).frame ((Err (Left construct.BuiltinValue)), builtin_value_0_at_1)) (in_frame recorder program_builtin_value (func_id 0) function_builtin_value_0 [] (Err (Left construct.BuiltinValue)) builtin_value_0_at_1 (then_ok (begins recorder (node 0)) _ tt (state_builtin_value (Some (func_id 0)) [] [] [] 1 296 (began 0 ∷ [])) (leaf refl) (then_err (means_builtin_value builtin_value_n1) _ (Left construct.BuiltinValue) builtin_value_0_at_1 (stmt_node recorder program_builtin_value builtin_value_n1 295 (y.outs-Assign ((target.Name (codes "x")) ∷ []) false None builtin_value_n2) refl (then_err (value_builtin_value builtin_value_n2) _ (Left construct.BuiltinValue) builtin_value_0_at_1 (expr_node recorder program_builtin_value builtin_value_n2 294 (x.outs-Name (codes "len")) refl (leaf refl))))))) (refl)))))))))

abbrev value_function_value : Expr → Run Trail Finding
value_function_value = value_of recorder program_function_value

abbrev means_function_value : Stmt → Run Trail Finding
means_function_value = means recorder program_function_value

abbrev function_value_0_at_1 : State World Trail
function_value_0_at_1 = state_function_value (Some (func_id 1)) [] [] [] 1 294 (began 3 ∷ began 4 ∷ began 5 ∷ [])

pub function_value_0 : Yields (means_function_value function_value_t3) (state_function_value None [] [] [] 0 300 []) ((Ok (v.None, (j.Plain false))), (state_function_value None (((codes "var_8"), (v.Func (func_id 0))) ∷ []) [] [] 0 294 (began 3 ∷ began 4 ∷ began 5 ∷ [])))
unfolding equal ordered
function_value_0 =
    stmt_node recorder program_function_value function_value_t3 299 (y.outs-Assign ((target.Name (codes "var_8")) ∷ []) false None function_value_t2) refl (then_ok (value_function_value function_value_t2) _ ((v.Func (func_id 0)), (j.Plain true)) (state_function_value None [] [] [] 0 294 (began 3 ∷ began 4 ∷ began 5 ∷ [])) (expr_node recorder program_function_value function_value_t2 298 (x.outs-Method function_value_t1 (codes "f") (args [] [])) refl (then_ok (value_function_value function_value_t1) _ (v.ModuleRef, (j.Plain true)) (state_function_value None [] [] [] 0 297 []) (expr_node recorder program_function_value function_value_t1 297 (x.outs-Name (codes "module_0")) refl (leaf (simp views))) (then_ok (finds program_function_value v.ModuleRef (codes "f")) _ (callee.Value (v.Func (func_id 1))) (state_function_value None [] [] [] 0 297 []) (leaf (first_of (simp views, simp tuples, search))) (as_run (plain_arguments recorder program_function_value (value_function_value) (means_function_value) (callee.Value (v.Func (func_id 1))) [] [] []) (ap (λ args. plain_arguments recorder program_function_value (value_function_value) (means_function_value) (callee.Value (v.Func (func_id 1))) [] args.plain args.named (state_function_value None [] [] [] 0 297 [])) (out-roll-Args _)) (as_run (calls_function recorder program_function_value (means_function_value) (func_id 1) [] []) (ap (λ level. calls_value recorder program_function_value (means_function_value) level [] [] (state_function_value None [] [] [] 0 297 [])) (outs-Func _)) (as_run (inside recorder program_function_value (means_function_value) (func_id 1) function_function_value_1 []) (let same : calls_function recorder program_function_value (means_function_value) (func_id 1) [] [] (state_function_value None [] [] [] 0 297 []) ≡ inside recorder program_function_value (means_function_value) (func_id 1) function_function_value_1 [] (state_function_value None [] [] [] 0 297 []) = refl in same) (gives_same (leaves (state_function_value None [] [] [] 0 297 []).frame ((Err (Returned (v.Func (func_id 0)))), function_value_0_at_1)) (in_frame recorder program_function_value (func_id 1) function_function_value_1 [] (Err (Returned (v.Func (func_id 0)))) function_value_0_at_1 (then_ok (begins recorder (node 3)) _ tt (state_function_value (Some (func_id 1)) [] [] [] 1 296 (began 3 ∷ [])) (leaf refl) (then_err (means_function_value function_value_n4) _ (Returned (v.Func (func_id 0))) function_value_0_at_1 (stmt_node recorder program_function_value function_value_n4 295 (y.outs-Return (Some function_value_n5)) refl (then_ok (value_function_value function_value_n5) _ ((v.Func (func_id 0)), (j.Plain true)) function_value_0_at_1 (expr_node recorder program_function_value function_value_n5 294 (x.outs-Name (codes "g")) refl (leaf (simp views))) (leaf refl)))))) (simp views)))))))) (leaf refl))

abbrev value_unbound_local : Expr → Run Trail Finding
value_unbound_local = value_of recorder program_unbound_local

abbrev means_unbound_local : Stmt → Run Trail Finding
means_unbound_local = means recorder program_unbound_local

abbrev unbound_local_0_at_1 : State World Trail
unbound_local_0_at_1 = state_unbound_local (Some (func_id 0)) [] [] (object.Instance (Built built.UnboundLocalError) [] None ∷ []) 1 294 (began 0 ∷ began 1 ∷ began 2 ∷ [])

abbrev unbound_local_0_at_2 : State World Trail
unbound_local_0_at_2 = state_unbound_local None [] [] (object.Instance (Built built.UnboundLocalError) [] None ∷ []) 0 294 (began 0 ∷ began 1 ∷ began 2 ∷ [])

pub unbound_local_0 : Yields (means_unbound_local unbound_local_t3) (state_unbound_local None [] [] [] 0 300 []) ((Err (Raised (id 0))), unbound_local_0_at_2)
unfolding equal ordered
unbound_local_0 =
    stmt_node recorder program_unbound_local unbound_local_t3 299 (y.outs-Assign ((target.Name (codes "var_8")) ∷ []) false None unbound_local_t2) refl (then_err (value_unbound_local unbound_local_t2) _ (Raised (id 0)) unbound_local_0_at_2 (expr_node recorder program_unbound_local unbound_local_t2 298 (x.outs-Method unbound_local_t1 (codes "f") (args [] [])) refl (then_ok (value_unbound_local unbound_local_t1) _ (v.ModuleRef, (j.Plain true)) (state_unbound_local None [] [] [] 0 297 []) (expr_node recorder program_unbound_local unbound_local_t1 297 (x.outs-Name (codes "module_0")) refl (leaf (simp views))) (then_ok (finds program_unbound_local v.ModuleRef (codes "f")) _ (callee.Value (v.Func (func_id 0))) (state_unbound_local None [] [] [] 0 297 []) (leaf (first_of (simp views, simp tuples, search))) (as_run (plain_arguments recorder program_unbound_local (value_unbound_local) (means_unbound_local) (callee.Value (v.Func (func_id 0))) [] [] []) (ap (λ args. plain_arguments recorder program_unbound_local (value_unbound_local) (means_unbound_local) (callee.Value (v.Func (func_id 0))) [] args.plain args.named (state_unbound_local None [] [] [] 0 297 [])) (out-roll-Args _)) (as_run (calls_function recorder program_unbound_local (means_unbound_local) (func_id 0) [] []) (ap (λ level. calls_value recorder program_unbound_local (means_unbound_local) level [] [] (state_unbound_local None [] [] [] 0 297 [])) (outs-Func _)) (as_run (inside recorder program_unbound_local (means_unbound_local) (func_id 0) function_unbound_local_0 []) (let same : calls_function recorder program_unbound_local (means_unbound_local) (func_id 0) [] [] (state_unbound_local None [] [] [] 0 297 []) ≡ inside recorder program_unbound_local (means_unbound_local) (func_id 0) function_unbound_local_0 [] (state_unbound_local None [] [] [] 0 297 []) = refl in same) (gives_same (leaves (state_unbound_local None [] [] [] 0 297 []).frame ((Err (Raised (id 0))), unbound_local_0_at_1)) (in_frame recorder program_unbound_local (func_id 0) function_unbound_local_0 [] (Err (Raised (id 0))) unbound_local_0_at_1 (then_ok (begins recorder (node 0)) _ tt (state_unbound_local (Some (func_id 0)) [] [] [] 1 296 (began 0 ∷ [])) (leaf refl) (then_err (means_unbound_local unbound_local_n1) _ (Raised (id 0)) unbound_local_0_at_1 (stmt_node recorder program_unbound_local unbound_local_n1 295 (y.outs-Assign ((target.Name (codes "x")) ∷ []) false None unbound_local_n2) refl (then_err (value_unbound_local unbound_local_n2) _ (Raised (id 0)) unbound_local_0_at_1 (expr_node recorder program_unbound_local unbound_local_n2 294 (x.outs-Name (codes "x")) refl (leaf refl))))))) (refl)))))))))

abbrev value_local_shadows_builtin : Expr → Run Trail Finding
value_local_shadows_builtin = value_of recorder program_local_shadows_builtin

abbrev means_local_shadows_builtin : Stmt → Run Trail Finding
means_local_shadows_builtin = means recorder program_local_shadows_builtin

abbrev local_shadows_builtin_0_seen_1 : Trail
local_shadows_builtin_0_seen_1 = began 0 ∷ began 1 ∷ began 2 ∷ began 3 ∷ began 4 ∷ []

abbrev local_shadows_builtin_0_at_1 : State World Trail
local_shadows_builtin_0_at_1 = state_local_shadows_builtin (Some (func_id 0)) (((codes "len"), (v.Int (pos 3))) ∷ []) [] [] 1 292 local_shadows_builtin_0_seen_1

pub local_shadows_builtin_0 : Yields (means_local_shadows_builtin local_shadows_builtin_t3) (state_local_shadows_builtin None [] [] [] 0 300 []) ((Ok (v.None, (j.Plain false))), (state_local_shadows_builtin None (((codes "var_8"), (v.Int (pos 3))) ∷ []) [] [] 0 292 local_shadows_builtin_0_seen_1))
unfolding equal ordered
local_shadows_builtin_0 =
    stmt_node recorder program_local_shadows_builtin local_shadows_builtin_t3 299 (y.outs-Assign ((target.Name (codes "var_8")) ∷ []) false None local_shadows_builtin_t2) refl (then_ok (value_local_shadows_builtin local_shadows_builtin_t2) _ ((v.Int (pos 3)), (j.Plain true)) (state_local_shadows_builtin None [] [] [] 0 292 local_shadows_builtin_0_seen_1) (expr_node recorder program_local_shadows_builtin local_shadows_builtin_t2 298 (x.outs-Method local_shadows_builtin_t1 (codes "f") (args [] [])) refl (then_ok (value_local_shadows_builtin local_shadows_builtin_t1) _ (v.ModuleRef, (j.Plain true)) (state_local_shadows_builtin None [] [] [] 0 297 []) (expr_node recorder program_local_shadows_builtin local_shadows_builtin_t1 297 (x.outs-Name (codes "module_0")) refl (leaf (simp views))) (then_ok (finds program_local_shadows_builtin v.ModuleRef (codes "f")) _ (callee.Value (v.Func (func_id 0))) (state_local_shadows_builtin None [] [] [] 0 297 []) (leaf (first_of (simp views, simp tuples, search))) (as_run (plain_arguments recorder program_local_shadows_builtin (value_local_shadows_builtin) (means_local_shadows_builtin) (callee.Value (v.Func (func_id 0))) [] [] []) (ap (λ args. plain_arguments recorder program_local_shadows_builtin (value_local_shadows_builtin) (means_local_shadows_builtin) (callee.Value (v.Func (func_id 0))) [] args.plain args.named (state_local_shadows_builtin None [] [] [] 0 297 [])) (out-roll-Args _)) (as_run (calls_function recorder program_local_shadows_builtin (means_local_shadows_builtin) (func_id 0) [] []) (ap (λ level. calls_value recorder program_local_shadows_builtin (means_local_shadows_builtin) level [] [] (state_local_shadows_builtin None [] [] [] 0 297 [])) (outs-Func _)) (as_run (inside recorder program_local_shadows_builtin (means_local_shadows_builtin) (func_id 0) function_local_shadows_builtin_0 []) (let same : calls_function recorder program_local_shadows_builtin (means_local_shadows_builtin) (func_id 0) [] [] (state_local_shadows_builtin None [] [] [] 0 297 []) ≡ inside recorder program_local_shadows_builtin (means_local_shadows_builtin) (func_id 0) function_local_shadows_builtin_0 [] (state_local_shadows_builtin None [] [] [] 0 297 []) = refl in same) (gives_same (leaves (state_local_shadows_builtin None [] [] [] 0 297 []).frame ((Err (Returned (v.Int (pos 3)))), local_shadows_builtin_0_at_1)) (in_frame recorder program_local_shadows_builtin (func_id 0) function_local_shadows_builtin_0 [] (Err (Returned (v.Int (pos 3)))) local_shadows_builtin_0_at_1 (then_ok (begins recorder (node 0)) _ tt (state_local_shadows_builtin (Some (func_id 0)) [] [] [] 1 296 (began 0 ∷ [])) (leaf refl) (then_ok (means_local_shadows_builtin local_shadows_builtin_n1) _ (v.None, (j.Plain false)) (state_local_shadows_builtin (Some (func_id 0)) (((codes "len"), (v.Int (pos 3))) ∷ []) [] [] 1 294 (began 0 ∷ began 1 ∷ began 2 ∷ [])) (stmt_node recorder program_local_shadows_builtin local_shadows_builtin_n1 295 (y.outs-Assign ((target.Name (codes "len")) ∷ []) false None local_shadows_builtin_n2) refl (then_ok (value_local_shadows_builtin local_shadows_builtin_n2) _ ((v.Int (pos 3)), (j.Plain true)) (state_local_shadows_builtin (Some (func_id 0)) [] [] [] 1 294 (began 0 ∷ began 1 ∷ began 2 ∷ [])) (expr_node recorder program_local_shadows_builtin local_shadows_builtin_n2 294 (x.outs-IntLit (pos 3)) refl (leaf (simp views))) (leaf refl))) (then_err (means_local_shadows_builtin local_shadows_builtin_n3) _ (Returned (v.Int (pos 3))) local_shadows_builtin_0_at_1 (stmt_node recorder program_local_shadows_builtin local_shadows_builtin_n3 293 (y.outs-Return (Some local_shadows_builtin_n4)) refl (then_ok (value_local_shadows_builtin local_shadows_builtin_n4) _ ((v.Int (pos 3)), (j.Plain true)) local_shadows_builtin_0_at_1 (expr_node recorder program_local_shadows_builtin local_shadows_builtin_n4 292 (x.outs-Name (codes "len")) refl (leaf (simp views))) (leaf refl))))))) (simp views)))))))) (leaf refl))

abbrev value_unbound_in_one_branch : Expr → Run Trail Finding
value_unbound_in_one_branch = value_of recorder program_unbound_in_one_branch

abbrev means_unbound_in_one_branch : Stmt → Run Trail Finding
means_unbound_in_one_branch = means recorder program_unbound_in_one_branch

abbrev unbound_in_one_branch_0_seen_1 : Trail
unbound_in_one_branch_0_seen_1 = began 0 ∷ began 1 ∷ began 2 ∷ Decided (node 2) (j.Plain false) false ∷ began 5 ∷ began 6 ∷ []

abbrev unbound_in_one_branch_0_seen_2 : Trail
unbound_in_one_branch_0_seen_2 = began 0 ∷ began 1 ∷ began 2 ∷ Decided (node 2) (j.Plain false) false ∷ []

abbrev unbound_in_one_branch_0_at_1 : State World Trail
unbound_in_one_branch_0_at_1 = state_unbound_in_one_branch (Some (func_id 0)) (((codes "a"), (v.Int (pos 0))) ∷ []) [] (object.Instance (Built built.UnboundLocalError) [] None ∷ []) 1 291 unbound_in_one_branch_0_seen_1

abbrev unbound_in_one_branch_0_at_2 : State World Trail
unbound_in_one_branch_0_at_2 = state_unbound_in_one_branch None [] [] (object.Instance (Built built.UnboundLocalError) [] None ∷ []) 0 291 unbound_in_one_branch_0_seen_1

abbrev unbound_in_one_branch_0_at_3 : State World Trail
unbound_in_one_branch_0_at_3 = state_unbound_in_one_branch (Some (func_id 0)) (((codes "a"), (v.Int (pos 0))) ∷ []) [] [] 1 293 (began 0 ∷ began 1 ∷ began 2 ∷ [])

abbrev unbound_in_one_branch_0_at_4 : State World Trail
unbound_in_one_branch_0_at_4 = state_unbound_in_one_branch (Some (func_id 0)) (((codes "a"), (v.Int (pos 0))) ∷ []) [] [] 1 293 unbound_in_one_branch_0_seen_2

pub unbound_in_one_branch_0 : Yields (means_unbound_in_one_branch unbound_in_one_branch_t4) (state_unbound_in_one_branch None [] [] [] 0 300 []) ((Err (Raised (id 0))), unbound_in_one_branch_0_at_2)
unfolding equal ordered
unbound_in_one_branch_0 =
    stmt_node recorder program_unbound_in_one_branch unbound_in_one_branch_t4 299 (y.outs-Assign ((target.Name (codes "var_8")) ∷ []) false None unbound_in_one_branch_t3) refl (then_err (value_unbound_in_one_branch unbound_in_one_branch_t3) _ (Raised (id 0)) unbound_in_one_branch_0_at_2 (expr_node recorder program_unbound_in_one_branch unbound_in_one_branch_t3 298 (x.outs-Method unbound_in_one_branch_t1 (codes "f") (args (unbound_in_one_branch_t2 ∷ []) [])) refl (then_ok (value_unbound_in_one_branch unbound_in_one_branch_t1) _ (v.ModuleRef, (j.Plain true)) (state_unbound_in_one_branch None [] [] [] 0 297 []) (expr_node recorder program_unbound_in_one_branch unbound_in_one_branch_t1 297 (x.outs-Name (codes "module_0")) refl (leaf (simp views))) (then_ok (finds program_unbound_in_one_branch v.ModuleRef (codes "f")) _ (callee.Value (v.Func (func_id 0))) (state_unbound_in_one_branch None [] [] [] 0 297 []) (leaf (first_of (simp views, simp tuples, search))) (as_run (plain_arguments recorder program_unbound_in_one_branch (value_unbound_in_one_branch) (means_unbound_in_one_branch) (callee.Value (v.Func (func_id 0))) [] (unbound_in_one_branch_t2 ∷ []) []) (ap (λ args. plain_arguments recorder program_unbound_in_one_branch (value_unbound_in_one_branch) (means_unbound_in_one_branch) (callee.Value (v.Func (func_id 0))) [] args.plain args.named (state_unbound_in_one_branch None [] [] [] 0 297 [])) (out-roll-Args _)) (then_ok (value_unbound_in_one_branch unbound_in_one_branch_t2) _ ((v.Int (pos 0)), (j.Plain false)) (state_unbound_in_one_branch None [] [] [] 0 296 []) (expr_node recorder program_unbound_in_one_branch unbound_in_one_branch_t2 296 (x.outs-IntLit (pos 0)) refl (leaf (simp views))) (as_run (calls_function recorder program_unbound_in_one_branch (means_unbound_in_one_branch) (func_id 0) ((v.Int (pos 0)) ∷ []) []) (ap (λ level. calls_value recorder program_unbound_in_one_branch (means_unbound_in_one_branch) level ((v.Int (pos 0)) ∷ []) [] (state_unbound_in_one_branch None [] [] [] 0 296 [])) (outs-Func _)) (as_run (inside recorder program_unbound_in_one_branch (means_unbound_in_one_branch) (func_id 0) function_unbound_in_one_branch_0 (((codes "a"), (v.Int (pos 0))) ∷ [])) (let same : calls_function recorder program_unbound_in_one_branch (means_unbound_in_one_branch) (func_id 0) ((v.Int (pos 0)) ∷ []) [] (state_unbound_in_one_branch None [] [] [] 0 296 []) ≡ inside recorder program_unbound_in_one_branch (means_unbound_in_one_branch) (func_id 0) function_unbound_in_one_branch_0 (((codes "a"), (v.Int (pos 0))) ∷ []) (state_unbound_in_one_branch None [] [] [] 0 296 []) = refl in same) (gives_same (leaves (state_unbound_in_one_branch None [] [] [] 0 296 []).frame ((Err (Raised (id 0))), unbound_in_one_branch_0_at_1)) (in_frame recorder program_unbound_in_one_branch (func_id 0) function_unbound_in_one_branch_0 (((codes "a"), (v.Int (pos 0))) ∷ []) (Err (Raised (id 0))) unbound_in_one_branch_0_at_1 (then_ok (begins recorder (node 0)) _ tt (state_unbound_in_one_branch (Some (func_id 0)) (((codes "a"), (v.Int (pos 0))) ∷ []) [] [] 1 295 (began 0 ∷ [])) (leaf refl) (then_ok (means_unbound_in_one_branch unbound_in_one_branch_n1) _ (v.None, (j.Plain false)) unbound_in_one_branch_0_at_4 (stmt_node recorder program_unbound_in_one_branch unbound_in_one_branch_n1 294 (y.outs-If ((unbound_in_one_branch_n2, (unbound_in_one_branch_n3 ∷ [])) ∷ []) None) refl (then_ok (value_unbound_in_one_branch unbound_in_one_branch_n2) _ ((v.Int (pos 0)), (j.Plain false)) unbound_in_one_branch_0_at_3 (expr_node recorder program_unbound_in_one_branch unbound_in_one_branch_n2 293 (x.outs-Name (codes "a")) refl (leaf (simp views))) (then_ok (tests (v.Int (pos 0))) (λ outcome. decides recorder (node 2) (j.Plain false) outcome >> (if outcome then (block recorder program_unbound_in_one_branch (means_unbound_in_one_branch) (unbound_in_one_branch_n3 ∷ [])) else (branches recorder program_unbound_in_one_branch (value_unbound_in_one_branch) (means_unbound_in_one_branch) [] None))) false unbound_in_one_branch_0_at_3 (leaf (first_of (simp views, simp tuples, search))) (then_ok (decides recorder (node 2) (j.Plain false) false) (λ _. (branches recorder program_unbound_in_one_branch (value_unbound_in_one_branch) (means_unbound_in_one_branch) [] None)) tt unbound_in_one_branch_0_at_4 (leaf refl) (leaf refl))))) (then_err (means_unbound_in_one_branch unbound_in_one_branch_n5) _ (Raised (id 0)) unbound_in_one_branch_0_at_1 (stmt_node recorder program_unbound_in_one_branch unbound_in_one_branch_n5 292 (y.outs-Return (Some unbound_in_one_branch_n6)) refl (then_err (value_unbound_in_one_branch unbound_in_one_branch_n6) _ (Raised (id 0)) unbound_in_one_branch_0_at_1 (expr_node recorder program_unbound_in_one_branch unbound_in_one_branch_n6 291 (x.outs-Name (codes "x")) refl (leaf refl)))))))) (refl))))))))))
