-- Derivations of the worked examples of loops (8.2 and 8.3): each is a tree of the run, from rules of `Yields`.
use Rattle.py_meaning.specs.Equal.{equal}
use Rattle.py_meaning.specs.Examples.{id, ref}
use Rattle.py_meaning.specs.Folds.{tuple-out, key_cost-Tuple, key_cost-out, as_key-Tuple, as_key-out, same_key-Tuple, same_key-out}
use Rattle.py_meaning.specs.Less.{ordered}
use Rattle.py_meaning.specs.Tuples.{tuple}
use Rattle.py_meaning.specs.Walk.{gives_new_tuples}
use Rattle.py_meaning.specs.Worlds.{World}
use Rattle.py_meaning.specs.declared.object.Object.TheVariants as object
use Rattle.py_meaning.specs.declared.value.Value.TheVariants as v
use Rattle.py_meaning.specs.declared.value.Value.TheVariants.{outs-None, outs-Bool, outs-Int, outs-Str, outs-Tuple, outs-Ref, outs-Class, outs-Func, outs-View, outs-ModuleRef}
use Rattle.py_meaning.specs.declared.value.Value.{out-Value}
use Rattle.py_plain.proofs.LoopLaws.{while_loop-out, for_walk-out, takes_element}
use Rattle.py_plain.proofs.Yields.{Yields, leaf, as_run, gives_same, then_ok, then_err, stmt_node, expr_node, in_frame, then_after, stmt_none}
use Rattle.py_plain.specs.Assignments.{stores, binds_names}
use Rattle.py_plain.specs.Attributes.{finds}
use Rattle.py_plain.specs.Calls.{leaves, inside, calls_function, calls_value, block}
use Rattle.py_plain.specs.Examples.{node, args, func_id, walk_at, began}
use Rattle.py_plain.specs.ExamplesLoops.{for_grows_n3, for_grows_n2, for_grows_n1, for_grows_n5, for_grows_n8, for_grows_n9, for_grows_n7, for_grows_n12, for_grows_n14, for_grows_n15, for_grows_n13, for_grows_n11, for_grows_n10, for_grows_n6, for_grows_n4, for_grows_n17, for_grows_n16, for_grows_t1, for_grows_t2, for_grows_t3, function_for_grows_0, program_for_grows, state_for_grows, for_dict_changed_n3, for_dict_changed_n4, for_dict_changed_n5, for_dict_changed_n6, for_dict_changed_n2, for_dict_changed_n1, for_dict_changed_n8, for_dict_changed_n10, for_dict_changed_n11, for_dict_changed_n9, for_dict_changed_n13, for_dict_changed_n14, for_dict_changed_n15, for_dict_changed_n12, for_dict_changed_n7, for_dict_changed_t1, for_dict_changed_t2, for_dict_changed_t3, function_for_dict_changed_0, program_for_dict_changed, state_for_dict_changed, for_empty_n2, for_empty_n3, for_empty_n1, for_empty_n5, for_empty_n4, for_empty_t1, for_empty_t2, for_empty_t3, function_for_empty_0, program_for_empty, state_for_empty, while_forever_n2, while_forever_n3, while_forever_n1, while_forever_t1, while_forever_t2, while_forever_t3, function_while_forever_0, program_while_forever, state_while_forever, for_not_walked_n2, for_not_walked_n3, for_not_walked_n1, for_not_walked_t1, for_not_walked_t2, for_not_walked_t3, function_for_not_walked_0, program_for_not_walked, state_for_not_walked, for_out_of_steps_n3, for_out_of_steps_n4, for_out_of_steps_n2, for_out_of_steps_n5, for_out_of_steps_n1, for_out_of_steps_t1, for_out_of_steps_t2, for_out_of_steps_t3, function_for_out_of_steps_0, program_for_out_of_steps, state_for_out_of_steps, while_return_n2, while_return_n4, while_return_n3, while_return_n1, while_return_t1, while_return_t2, while_return_t3, while_return_t4, function_while_return_0, program_while_return, state_while_return}
use Rattle.py_plain.specs.Expressions.{plain_arguments}
use Rattle.py_plain.specs.Loops.{after_turn, while_turn, while_loop, for_walk, for_turn, for_element, element_at, is_walked, size_at, changes_at, dict_walked, checks, makes_element}
use Rattle.py_plain.specs.Operators.{compares}
use Rattle.py_plain.specs.Runs.{begins, decides, after_end, ◌>>◌, tests, passes, takes, raises, Run, Finding}
use Rattle.py_plain.specs.Statements.{means, value_of, branches}
use Rattle.py_plain.specs.Tests.{recorder, Decided, Trail}
use Rattle.py_plain.specs.declared.judged.Judged.TheVariants as j
use Rattle.py_plain.specs.declared.run.Abrupt.TheVariants.{Raised, Returned, Left, OutOfSteps}
use Rattle.py_plain.specs.declared.run.Callee.TheVariants as callee
use Rattle.py_plain.specs.declared.state.State.{State}
use Rattle.py_syntax.specs.declared.expr.Args.{out-roll-Args}
use Rattle.py_syntax.specs.declared.expr.Expr.{Expr}
use Rattle.py_syntax.specs.declared.expr.ExprKind.TheVariants as x
use Rattle.py_syntax.specs.declared.operator.BinOp.TheVariants.{Add}
use Rattle.py_syntax.specs.declared.operator.CmpOp.TheVariants.{Lt}
use Rattle.py_syntax.specs.declared.stmt.Stmt.{Stmt}
use Rattle.py_syntax.specs.declared.stmt.StmtKind.TheVariants as y
use Rattle.py_syntax.specs.declared.stmt.Target.TheVariants as target
use Rattle.pyn_base.specs.declared.class.BuiltClass.TheVariants as built
use Rattle.pyn_base.specs.declared.class.ClassId.TheVariants.{Built}
use Rattle.pyn_base.specs.declared.construct.Construct.TheVariants as construct
use Rattle.std.proofs.Common.{◌≡◌, refl, ap}
use Rattle.std.specs.Prelude.{pos, true, false, [], ◌∷◌, Some, None, Ok, Err, codes, if◌then◌else◌}

ruleset views = (tuple-out, outs-None, outs-Bool, outs-Int, outs-Str, outs-Tuple, outs-Ref, outs-Class, outs-Func, outs-View, outs-ModuleRef)

ruleset tuples = (tuple-out, outs-None, outs-Bool, outs-Int, outs-Str, outs-Tuple, outs-Ref, outs-Class, outs-Func, outs-View, outs-ModuleRef, key_cost-Tuple, key_cost-out, as_key-Tuple, as_key-out, same_key-Tuple, same_key-out)

abbrev value_for_grows : Expr → Run Trail Finding
value_for_grows = value_of recorder program_for_grows

abbrev means_for_grows : Stmt → Run Trail Finding
means_for_grows = means recorder program_for_grows

abbrev for_grows_0_seen_1 : Trail
for_grows_0_seen_1 = began 0 ∷ began 1 ∷ began 2 ∷ began 3 ∷ began 4 ∷ began 5 ∷ Decided (node 4) (j.Plain true) true ∷ began 6 ∷ began 7 ∷ began 8 ∷ began 9 ∷ Decided (node 7) (j.Ints Lt (pos 1) (pos 4)) true ∷ began 10 ∷ began 11 ∷ began 12 ∷ began 13 ∷ began 14 ∷ began 15 ∷ Decided (node 4) (j.Plain true) true ∷ began 6 ∷ began 7 ∷ began 8 ∷ began 9 ∷ Decided (node 7) (j.Ints Lt (pos 2) (pos 4)) true ∷ began 10 ∷ began 11 ∷ began 12 ∷ began 13 ∷ began 14 ∷ began 15 ∷ Decided (node 4) (j.Plain true) true ∷ began 6 ∷ began 7 ∷ began 8 ∷ began 9 ∷ Decided (node 7) (j.Ints Lt (pos 3) (pos 4)) true ∷ began 10 ∷ began 11 ∷ began 12 ∷ began 13 ∷ began 14 ∷ began 15 ∷ Decided (node 4) (j.Plain true) true ∷ began 6 ∷ began 7 ∷ began 8 ∷ began 9 ∷ Decided (node 7) (j.Ints Lt (pos 4) (pos 4)) false ∷ Decided (node 4) (j.Plain false) false ∷ began 16 ∷ began 17 ∷ []

abbrev for_grows_0_seen_2 : Trail
for_grows_0_seen_2 = began 0 ∷ began 1 ∷ began 2 ∷ began 3 ∷ began 4 ∷ began 5 ∷ Decided (node 4) (j.Plain true) true ∷ began 6 ∷ began 7 ∷ began 8 ∷ began 9 ∷ Decided (node 7) (j.Ints Lt (pos 1) (pos 4)) true ∷ began 10 ∷ began 11 ∷ began 12 ∷ began 13 ∷ began 14 ∷ began 15 ∷ Decided (node 4) (j.Plain true) true ∷ began 6 ∷ began 7 ∷ began 8 ∷ began 9 ∷ Decided (node 7) (j.Ints Lt (pos 2) (pos 4)) true ∷ began 10 ∷ began 11 ∷ began 12 ∷ began 13 ∷ began 14 ∷ began 15 ∷ Decided (node 4) (j.Plain true) true ∷ began 6 ∷ began 7 ∷ began 8 ∷ began 9 ∷ Decided (node 7) (j.Ints Lt (pos 3) (pos 4)) true ∷ began 10 ∷ began 11 ∷ began 12 ∷ began 13 ∷ began 14 ∷ began 15 ∷ Decided (node 4) (j.Plain true) true ∷ began 6 ∷ began 7 ∷ began 8 ∷ began 9 ∷ Decided (node 7) (j.Ints Lt (pos 4) (pos 4)) false ∷ Decided (node 4) (j.Plain false) false ∷ []

abbrev for_grows_0_seen_3 : Trail
for_grows_0_seen_3 = began 0 ∷ began 1 ∷ began 2 ∷ began 3 ∷ began 4 ∷ began 5 ∷ Decided (node 4) (j.Plain true) true ∷ began 6 ∷ began 7 ∷ began 8 ∷ began 9 ∷ Decided (node 7) (j.Ints Lt (pos 1) (pos 4)) true ∷ began 10 ∷ began 11 ∷ began 12 ∷ began 13 ∷ began 14 ∷ began 15 ∷ Decided (node 4) (j.Plain true) true ∷ began 6 ∷ began 7 ∷ began 8 ∷ began 9 ∷ Decided (node 7) (j.Ints Lt (pos 2) (pos 4)) true ∷ began 10 ∷ began 11 ∷ began 12 ∷ began 13 ∷ began 14 ∷ began 15 ∷ Decided (node 4) (j.Plain true) true ∷ began 6 ∷ began 7 ∷ began 8 ∷ began 9 ∷ Decided (node 7) (j.Ints Lt (pos 3) (pos 4)) true ∷ began 10 ∷ began 11 ∷ began 12 ∷ began 13 ∷ began 14 ∷ began 15 ∷ Decided (node 4) (j.Plain true) true ∷ began 6 ∷ began 7 ∷ began 8 ∷ began 9 ∷ Decided (node 7) (j.Ints Lt (pos 4) (pos 4)) false ∷ []

abbrev for_grows_0_seen_4 : Trail
for_grows_0_seen_4 = began 0 ∷ began 1 ∷ began 2 ∷ began 3 ∷ began 4 ∷ began 5 ∷ Decided (node 4) (j.Plain true) true ∷ began 6 ∷ began 7 ∷ began 8 ∷ began 9 ∷ Decided (node 7) (j.Ints Lt (pos 1) (pos 4)) true ∷ began 10 ∷ began 11 ∷ began 12 ∷ began 13 ∷ began 14 ∷ began 15 ∷ Decided (node 4) (j.Plain true) true ∷ began 6 ∷ began 7 ∷ began 8 ∷ began 9 ∷ Decided (node 7) (j.Ints Lt (pos 2) (pos 4)) true ∷ began 10 ∷ began 11 ∷ began 12 ∷ began 13 ∷ began 14 ∷ began 15 ∷ Decided (node 4) (j.Plain true) true ∷ began 6 ∷ began 7 ∷ began 8 ∷ began 9 ∷ Decided (node 7) (j.Ints Lt (pos 3) (pos 4)) true ∷ began 10 ∷ began 11 ∷ began 12 ∷ began 13 ∷ began 14 ∷ began 15 ∷ Decided (node 4) (j.Plain true) true ∷ began 6 ∷ began 7 ∷ began 8 ∷ began 9 ∷ []

abbrev for_grows_0_seen_5 : Trail
for_grows_0_seen_5 = began 0 ∷ began 1 ∷ began 2 ∷ began 3 ∷ began 4 ∷ began 5 ∷ Decided (node 4) (j.Plain true) true ∷ began 6 ∷ began 7 ∷ began 8 ∷ began 9 ∷ Decided (node 7) (j.Ints Lt (pos 1) (pos 4)) true ∷ began 10 ∷ began 11 ∷ began 12 ∷ began 13 ∷ began 14 ∷ began 15 ∷ Decided (node 4) (j.Plain true) true ∷ began 6 ∷ began 7 ∷ began 8 ∷ began 9 ∷ Decided (node 7) (j.Ints Lt (pos 2) (pos 4)) true ∷ began 10 ∷ began 11 ∷ began 12 ∷ began 13 ∷ began 14 ∷ began 15 ∷ Decided (node 4) (j.Plain true) true ∷ began 6 ∷ began 7 ∷ began 8 ∷ began 9 ∷ Decided (node 7) (j.Ints Lt (pos 3) (pos 4)) true ∷ began 10 ∷ began 11 ∷ began 12 ∷ began 13 ∷ began 14 ∷ began 15 ∷ Decided (node 4) (j.Plain true) true ∷ []

abbrev for_grows_0_seen_6 : Trail
for_grows_0_seen_6 = began 0 ∷ began 1 ∷ began 2 ∷ began 3 ∷ began 4 ∷ began 5 ∷ Decided (node 4) (j.Plain true) true ∷ began 6 ∷ began 7 ∷ began 8 ∷ began 9 ∷ Decided (node 7) (j.Ints Lt (pos 1) (pos 4)) true ∷ began 10 ∷ began 11 ∷ began 12 ∷ began 13 ∷ began 14 ∷ began 15 ∷ Decided (node 4) (j.Plain true) true ∷ began 6 ∷ began 7 ∷ began 8 ∷ began 9 ∷ Decided (node 7) (j.Ints Lt (pos 2) (pos 4)) true ∷ began 10 ∷ began 11 ∷ began 12 ∷ began 13 ∷ began 14 ∷ began 15 ∷ Decided (node 4) (j.Plain true) true ∷ began 6 ∷ began 7 ∷ began 8 ∷ began 9 ∷ Decided (node 7) (j.Ints Lt (pos 3) (pos 4)) true ∷ began 10 ∷ began 11 ∷ began 12 ∷ began 13 ∷ began 14 ∷ began 15 ∷ []

abbrev for_grows_0_seen_7 : Trail
for_grows_0_seen_7 = began 0 ∷ began 1 ∷ began 2 ∷ began 3 ∷ began 4 ∷ began 5 ∷ Decided (node 4) (j.Plain true) true ∷ began 6 ∷ began 7 ∷ began 8 ∷ began 9 ∷ Decided (node 7) (j.Ints Lt (pos 1) (pos 4)) true ∷ began 10 ∷ began 11 ∷ began 12 ∷ began 13 ∷ began 14 ∷ began 15 ∷ Decided (node 4) (j.Plain true) true ∷ began 6 ∷ began 7 ∷ began 8 ∷ began 9 ∷ Decided (node 7) (j.Ints Lt (pos 2) (pos 4)) true ∷ began 10 ∷ began 11 ∷ began 12 ∷ began 13 ∷ began 14 ∷ began 15 ∷ Decided (node 4) (j.Plain true) true ∷ began 6 ∷ began 7 ∷ began 8 ∷ began 9 ∷ Decided (node 7) (j.Ints Lt (pos 3) (pos 4)) true ∷ began 10 ∷ began 11 ∷ began 12 ∷ []

abbrev for_grows_0_seen_8 : Trail
for_grows_0_seen_8 = began 0 ∷ began 1 ∷ began 2 ∷ began 3 ∷ began 4 ∷ began 5 ∷ Decided (node 4) (j.Plain true) true ∷ began 6 ∷ began 7 ∷ began 8 ∷ began 9 ∷ Decided (node 7) (j.Ints Lt (pos 1) (pos 4)) true ∷ began 10 ∷ began 11 ∷ began 12 ∷ began 13 ∷ began 14 ∷ began 15 ∷ Decided (node 4) (j.Plain true) true ∷ began 6 ∷ began 7 ∷ began 8 ∷ began 9 ∷ Decided (node 7) (j.Ints Lt (pos 2) (pos 4)) true ∷ began 10 ∷ began 11 ∷ began 12 ∷ began 13 ∷ began 14 ∷ began 15 ∷ Decided (node 4) (j.Plain true) true ∷ began 6 ∷ began 7 ∷ began 8 ∷ began 9 ∷ []

abbrev for_grows_0_seen_9 : Trail
for_grows_0_seen_9 = began 0 ∷ began 1 ∷ began 2 ∷ began 3 ∷ began 4 ∷ began 5 ∷ Decided (node 4) (j.Plain true) true ∷ began 6 ∷ began 7 ∷ began 8 ∷ began 9 ∷ Decided (node 7) (j.Ints Lt (pos 1) (pos 4)) true ∷ began 10 ∷ began 11 ∷ began 12 ∷ began 13 ∷ began 14 ∷ began 15 ∷ Decided (node 4) (j.Plain true) true ∷ began 6 ∷ began 7 ∷ began 8 ∷ began 9 ∷ Decided (node 7) (j.Ints Lt (pos 2) (pos 4)) true ∷ began 10 ∷ began 11 ∷ began 12 ∷ began 13 ∷ began 14 ∷ began 15 ∷ Decided (node 4) (j.Plain true) true ∷ []

abbrev for_grows_0_seen_10 : Trail
for_grows_0_seen_10 = began 0 ∷ began 1 ∷ began 2 ∷ began 3 ∷ began 4 ∷ began 5 ∷ Decided (node 4) (j.Plain true) true ∷ began 6 ∷ began 7 ∷ began 8 ∷ began 9 ∷ Decided (node 7) (j.Ints Lt (pos 1) (pos 4)) true ∷ began 10 ∷ began 11 ∷ began 12 ∷ began 13 ∷ began 14 ∷ began 15 ∷ Decided (node 4) (j.Plain true) true ∷ began 6 ∷ began 7 ∷ began 8 ∷ began 9 ∷ Decided (node 7) (j.Ints Lt (pos 2) (pos 4)) true ∷ began 10 ∷ began 11 ∷ began 12 ∷ began 13 ∷ began 14 ∷ began 15 ∷ []

abbrev for_grows_0_seen_11 : Trail
for_grows_0_seen_11 = began 0 ∷ began 1 ∷ began 2 ∷ began 3 ∷ began 4 ∷ began 5 ∷ Decided (node 4) (j.Plain true) true ∷ began 6 ∷ began 7 ∷ began 8 ∷ began 9 ∷ Decided (node 7) (j.Ints Lt (pos 1) (pos 4)) true ∷ began 10 ∷ began 11 ∷ began 12 ∷ began 13 ∷ began 14 ∷ began 15 ∷ Decided (node 4) (j.Plain true) true ∷ began 6 ∷ began 7 ∷ began 8 ∷ began 9 ∷ Decided (node 7) (j.Ints Lt (pos 2) (pos 4)) true ∷ began 10 ∷ began 11 ∷ began 12 ∷ []

abbrev for_grows_0_seen_12 : Trail
for_grows_0_seen_12 = began 0 ∷ began 1 ∷ began 2 ∷ began 3 ∷ began 4 ∷ began 5 ∷ Decided (node 4) (j.Plain true) true ∷ began 6 ∷ began 7 ∷ began 8 ∷ began 9 ∷ Decided (node 7) (j.Ints Lt (pos 1) (pos 4)) true ∷ began 10 ∷ began 11 ∷ began 12 ∷ began 13 ∷ began 14 ∷ began 15 ∷ Decided (node 4) (j.Plain true) true ∷ began 6 ∷ began 7 ∷ began 8 ∷ began 9 ∷ []

abbrev for_grows_0_seen_13 : Trail
for_grows_0_seen_13 = began 0 ∷ began 1 ∷ began 2 ∷ began 3 ∷ began 4 ∷ began 5 ∷ Decided (node 4) (j.Plain true) true ∷ began 6 ∷ began 7 ∷ began 8 ∷ began 9 ∷ Decided (node 7) (j.Ints Lt (pos 1) (pos 4)) true ∷ began 10 ∷ began 11 ∷ began 12 ∷ began 13 ∷ began 14 ∷ began 15 ∷ Decided (node 4) (j.Plain true) true ∷ []

abbrev for_grows_0_seen_14 : Trail
for_grows_0_seen_14 = began 0 ∷ began 1 ∷ began 2 ∷ began 3 ∷ began 4 ∷ began 5 ∷ Decided (node 4) (j.Plain true) true ∷ began 6 ∷ began 7 ∷ began 8 ∷ began 9 ∷ Decided (node 7) (j.Ints Lt (pos 1) (pos 4)) true ∷ began 10 ∷ began 11 ∷ began 12 ∷ began 13 ∷ began 14 ∷ began 15 ∷ []

abbrev for_grows_0_seen_15 : Trail
for_grows_0_seen_15 = began 0 ∷ began 1 ∷ began 2 ∷ began 3 ∷ began 4 ∷ began 5 ∷ Decided (node 4) (j.Plain true) true ∷ began 6 ∷ began 7 ∷ began 8 ∷ began 9 ∷ Decided (node 7) (j.Ints Lt (pos 1) (pos 4)) true ∷ began 10 ∷ began 11 ∷ began 12 ∷ []

abbrev for_grows_0_seen_16 : Trail
for_grows_0_seen_16 = began 0 ∷ began 1 ∷ began 2 ∷ began 3 ∷ began 4 ∷ began 5 ∷ Decided (node 4) (j.Plain true) true ∷ began 6 ∷ began 7 ∷ began 8 ∷ began 9 ∷ []

abbrev for_grows_0_seen_17 : Trail
for_grows_0_seen_17 = began 0 ∷ began 1 ∷ began 2 ∷ began 3 ∷ began 4 ∷ began 5 ∷ Decided (node 4) (j.Plain true) true ∷ []

abbrev for_grows_0_seen_18 : Trail
for_grows_0_seen_18 = began 0 ∷ began 1 ∷ began 2 ∷ began 3 ∷ began 4 ∷ began 5 ∷ []

abbrev for_grows_0_seen_19 : Trail
for_grows_0_seen_19 = began 0 ∷ began 1 ∷ began 2 ∷ began 3 ∷ []

abbrev for_grows_0_at_1 : State World Trail
for_grows_0_at_1 = state_for_grows (Some (func_id 0)) (((codes "a"), (ref 0)) ∷ ((codes "x"), (v.Int (pos 4))) ∷ []) [] (object.List ((v.Int (pos 1)) ∷ (v.Int (pos 2)) ∷ (v.Int (pos 3)) ∷ (v.Int (pos 4)) ∷ []) ∷ []) 1 247 for_grows_0_seen_1

abbrev for_grows_0_at_2 : State World Trail
for_grows_0_at_2 = state_for_grows (Some (func_id 0)) (((codes "a"), (ref 0)) ∷ ((codes "x"), (v.Int (pos 4))) ∷ []) [] (object.List ((v.Int (pos 1)) ∷ (v.Int (pos 2)) ∷ (v.Int (pos 3)) ∷ (v.Int (pos 4)) ∷ []) ∷ []) 1 249 for_grows_0_seen_2

abbrev for_grows_0_at_3 : State World Trail
for_grows_0_at_3 = state_for_grows (Some (func_id 0)) (((codes "a"), (ref 0)) ∷ ((codes "x"), (v.Int (pos 3))) ∷ []) [] (object.List ((v.Int (pos 1)) ∷ (v.Int (pos 2)) ∷ (v.Int (pos 3)) ∷ (v.Int (pos 4)) ∷ []) ∷ []) 1 254 for_grows_0_seen_6

abbrev for_grows_0_at_4 : State World Trail
for_grows_0_at_4 = state_for_grows (Some (func_id 0)) (((codes "a"), (ref 0)) ∷ ((codes "x"), (v.Int (pos 3))) ∷ []) [] (object.List ((v.Int (pos 1)) ∷ (v.Int (pos 2)) ∷ (v.Int (pos 3)) ∷ (v.Int (pos 4)) ∷ []) ∷ []) 1 253 for_grows_0_seen_6

abbrev for_grows_0_at_5 : State World Trail
for_grows_0_at_5 = state_for_grows (Some (func_id 0)) (((codes "a"), (ref 0)) ∷ ((codes "x"), (v.Int (pos 4))) ∷ []) [] (object.List ((v.Int (pos 1)) ∷ (v.Int (pos 2)) ∷ (v.Int (pos 3)) ∷ (v.Int (pos 4)) ∷ []) ∷ []) 1 249 for_grows_0_seen_3

abbrev for_grows_0_at_6 : State World Trail
for_grows_0_at_6 = state_for_grows (Some (func_id 0)) (((codes "a"), (ref 0)) ∷ ((codes "x"), (v.Int (pos 4))) ∷ []) [] (object.List ((v.Int (pos 1)) ∷ (v.Int (pos 2)) ∷ (v.Int (pos 3)) ∷ (v.Int (pos 4)) ∷ []) ∷ []) 1 249 for_grows_0_seen_4

abbrev for_grows_0_at_7 : State World Trail
for_grows_0_at_7 = state_for_grows (Some (func_id 0)) (((codes "a"), (ref 0)) ∷ ((codes "x"), (v.Int (pos 2))) ∷ []) [] (object.List ((v.Int (pos 1)) ∷ (v.Int (pos 2)) ∷ (v.Int (pos 3)) ∷ []) ∷ []) 1 266 for_grows_0_seen_10

abbrev for_grows_0_at_8 : State World Trail
for_grows_0_at_8 = state_for_grows (Some (func_id 0)) (((codes "a"), (ref 0)) ∷ ((codes "x"), (v.Int (pos 2))) ∷ []) [] (object.List ((v.Int (pos 1)) ∷ (v.Int (pos 2)) ∷ (v.Int (pos 3)) ∷ []) ∷ []) 1 265 for_grows_0_seen_10

abbrev for_grows_0_at_9 : State World Trail
for_grows_0_at_9 = state_for_grows (Some (func_id 0)) (((codes "a"), (ref 0)) ∷ ((codes "x"), (v.Int (pos 3))) ∷ []) [] (object.List ((v.Int (pos 1)) ∷ (v.Int (pos 2)) ∷ (v.Int (pos 3)) ∷ []) ∷ []) 1 261 for_grows_0_seen_8

abbrev for_grows_0_at_10 : State World Trail
for_grows_0_at_10 = state_for_grows (Some (func_id 0)) (((codes "a"), (ref 0)) ∷ ((codes "x"), (v.Int (pos 3))) ∷ []) [] (object.List ((v.Int (pos 1)) ∷ (v.Int (pos 2)) ∷ (v.Int (pos 3)) ∷ []) ∷ []) 1 258 for_grows_0_seen_7

abbrev for_grows_0_at_11 : State World Trail
for_grows_0_at_11 = state_for_grows (Some (func_id 0)) (((codes "a"), (ref 0)) ∷ ((codes "x"), (v.Int (pos 3))) ∷ []) [] (object.List ((v.Int (pos 1)) ∷ (v.Int (pos 2)) ∷ (v.Int (pos 3)) ∷ []) ∷ []) 1 255 for_grows_0_seen_6

abbrev for_grows_0_at_12 : State World Trail
for_grows_0_at_12 = state_for_grows (Some (func_id 0)) (((codes "a"), (ref 0)) ∷ ((codes "x"), (v.Int (pos 1))) ∷ []) [] (object.List ((v.Int (pos 1)) ∷ (v.Int (pos 2)) ∷ []) ∷ []) 1 278 for_grows_0_seen_14

abbrev for_grows_0_at_13 : State World Trail
for_grows_0_at_13 = state_for_grows (Some (func_id 0)) (((codes "a"), (ref 0)) ∷ ((codes "x"), (v.Int (pos 1))) ∷ []) [] (object.List ((v.Int (pos 1)) ∷ (v.Int (pos 2)) ∷ []) ∷ []) 1 277 for_grows_0_seen_14

abbrev for_grows_0_at_14 : State World Trail
for_grows_0_at_14 = state_for_grows (Some (func_id 0)) (((codes "a"), (ref 0)) ∷ ((codes "x"), (v.Int (pos 2))) ∷ []) [] (object.List ((v.Int (pos 1)) ∷ (v.Int (pos 2)) ∷ []) ∷ []) 1 273 for_grows_0_seen_12

abbrev for_grows_0_at_15 : State World Trail
for_grows_0_at_15 = state_for_grows (Some (func_id 0)) (((codes "a"), (ref 0)) ∷ ((codes "x"), (v.Int (pos 2))) ∷ []) [] (object.List ((v.Int (pos 1)) ∷ (v.Int (pos 2)) ∷ []) ∷ []) 1 270 for_grows_0_seen_11

abbrev for_grows_0_at_16 : State World Trail
for_grows_0_at_16 = state_for_grows (Some (func_id 0)) (((codes "a"), (ref 0)) ∷ ((codes "x"), (v.Int (pos 2))) ∷ []) [] (object.List ((v.Int (pos 1)) ∷ (v.Int (pos 2)) ∷ []) ∷ []) 1 267 for_grows_0_seen_10

abbrev for_grows_0_at_17 : State World Trail
for_grows_0_at_17 = state_for_grows (Some (func_id 0)) (((codes "a"), (ref 0)) ∷ ((codes "x"), (v.Int (pos 1))) ∷ []) [] (object.List ((v.Int (pos 1)) ∷ []) ∷ []) 1 285 for_grows_0_seen_16

abbrev for_grows_0_at_18 : State World Trail
for_grows_0_at_18 = state_for_grows (Some (func_id 0)) (((codes "a"), (ref 0)) ∷ ((codes "x"), (v.Int (pos 1))) ∷ []) [] (object.List ((v.Int (pos 1)) ∷ []) ∷ []) 1 282 for_grows_0_seen_15

abbrev for_grows_0_at_19 : State World Trail
for_grows_0_at_19 = state_for_grows (Some (func_id 0)) (((codes "a"), (ref 0)) ∷ ((codes "x"), (v.Int (pos 1))) ∷ []) [] (object.List ((v.Int (pos 1)) ∷ []) ∷ []) 1 279 for_grows_0_seen_14

abbrev for_grows_0_at_20 : State World Trail
for_grows_0_at_20 = state_for_grows (Some (func_id 0)) (((codes "a"), (ref 0)) ∷ []) [] (object.List ((v.Int (pos 1)) ∷ []) ∷ []) 1 290 for_grows_0_seen_18

abbrev for_grows_0_at_21 : State World Trail
for_grows_0_at_21 = state_for_grows (Some (func_id 0)) (((codes "a"), (ref 0)) ∷ []) [] (object.List ((v.Int (pos 1)) ∷ []) ∷ []) 1 289 for_grows_0_seen_18

pub for_grows_0 : Yields (means_for_grows for_grows_t3) (state_for_grows None [] [] [] 0 300 []) ((Ok (v.None, (j.Plain false))), (state_for_grows None (((codes "var_8"), (ref 0)) ∷ []) [] (object.List ((v.Int (pos 1)) ∷ (v.Int (pos 2)) ∷ (v.Int (pos 3)) ∷ (v.Int (pos 4)) ∷ []) ∷ []) 0 247 for_grows_0_seen_1))
unfolding equal ordered
for_grows_0 =
    stmt_node recorder program_for_grows for_grows_t3 299 (y.outs-Assign ((target.Name (codes "var_8")) ∷ []) false None for_grows_t2) refl (then_ok (value_for_grows for_grows_t2) _ ((ref 0), (j.Plain true)) (state_for_grows None [] [] (object.List ((v.Int (pos 1)) ∷ (v.Int (pos 2)) ∷ (v.Int (pos 3)) ∷ (v.Int (pos 4)) ∷ []) ∷ []) 0 247 for_grows_0_seen_1) (expr_node recorder program_for_grows for_grows_t2 298 (x.outs-Method for_grows_t1 (codes "f") (args [] [])) refl (then_ok (value_for_grows for_grows_t1) _ (v.ModuleRef, (j.Plain true)) (state_for_grows None [] [] [] 0 297 []) (expr_node recorder program_for_grows for_grows_t1 297 (x.outs-Name (codes "module_0")) refl (leaf (simp views))) (then_ok (finds program_for_grows v.ModuleRef (codes "f")) _ (callee.Value (v.Func (func_id 0))) (state_for_grows None [] [] [] 0 297 []) (leaf (first_of (simp views, simp tuples, search))) (as_run (plain_arguments recorder program_for_grows (value_for_grows) (means_for_grows) (callee.Value (v.Func (func_id 0))) [] [] []) (ap (λ args. plain_arguments recorder program_for_grows (value_for_grows) (means_for_grows) (callee.Value (v.Func (func_id 0))) [] args.plain args.named (state_for_grows None [] [] [] 0 297 [])) (out-roll-Args _)) (as_run (calls_function recorder program_for_grows (means_for_grows) (func_id 0) [] []) (ap (λ level. calls_value recorder program_for_grows (means_for_grows) level [] [] (state_for_grows None [] [] [] 0 297 [])) (outs-Func _)) (as_run (inside recorder program_for_grows (means_for_grows) (func_id 0) function_for_grows_0 []) (let same : calls_function recorder program_for_grows (means_for_grows) (func_id 0) [] [] (state_for_grows None [] [] [] 0 297 []) ≡ inside recorder program_for_grows (means_for_grows) (func_id 0) function_for_grows_0 [] (state_for_grows None [] [] [] 0 297 []) = refl in same) (gives_same (leaves (state_for_grows None [] [] [] 0 297 []).frame ((Err (Returned (ref 0))), for_grows_0_at_1)) (in_frame recorder program_for_grows (func_id 0) function_for_grows_0 [] (Err (Returned (ref 0))) for_grows_0_at_1 (then_ok (begins recorder (node 0)) _ tt (state_for_grows (Some (func_id 0)) [] [] [] 1 296 (began 0 ∷ [])) (leaf refl) (then_ok (means_for_grows for_grows_n1) _ (v.None, (j.Plain false)) (state_for_grows (Some (func_id 0)) (((codes "a"), (ref 0)) ∷ []) [] (object.List ((v.Int (pos 1)) ∷ []) ∷ []) 1 292 for_grows_0_seen_19) (stmt_node recorder program_for_grows for_grows_n1 295 (y.outs-Assign ((target.Name (codes "a")) ∷ []) false None for_grows_n2) refl (then_ok (value_for_grows for_grows_n2) _ ((ref 0), (j.Plain true)) (state_for_grows (Some (func_id 0)) [] [] (object.List ((v.Int (pos 1)) ∷ []) ∷ []) 1 292 for_grows_0_seen_19) (expr_node recorder program_for_grows for_grows_n2 294 (x.outs-ListLit (for_grows_n3 ∷ [])) refl (then_ok (value_for_grows for_grows_n3) _ ((v.Int (pos 1)), (j.Plain true)) (state_for_grows (Some (func_id 0)) [] [] [] 1 293 for_grows_0_seen_19) (expr_node recorder program_for_grows for_grows_n3 293 (x.outs-IntLit (pos 1)) refl (leaf (simp views))) (leaf (first_of (simp views, simp tuples, search))))) (leaf refl))) (then_ok (means_for_grows for_grows_n4) _ (v.None, (j.Plain false)) for_grows_0_at_2 (stmt_node recorder program_for_grows for_grows_n4 291 (y.outs-For ((codes "x") ∷ []) false for_grows_n5 (for_grows_n6 ∷ [])) refl (then_ok (value_for_grows for_grows_n5) _ ((ref 0), (j.Plain true)) for_grows_0_at_20 (expr_node recorder program_for_grows for_grows_n5 290 (x.outs-Name (codes "a")) refl (leaf (simp views))) (as_run (for_walk recorder program_for_grows (value_for_grows) (means_for_grows) (node 4) ((codes "x") ∷ []) false (for_grows_n6 ∷ []) (walk_at (ref 0) 0 0 0)) (ap (λ level. (if is_walked (object.List ((v.Int (pos 1)) ∷ []) ∷ []) level then for_walk recorder program_for_grows (value_for_grows) (means_for_grows) (node 4) ((codes "x") ∷ []) false (for_grows_n6 ∷ []) (walk_at (ref 0) (size_at (object.List ((v.Int (pos 1)) ∷ []) ∷ []) (dict_walked (object.List ((v.Int (pos 1)) ∷ []) ∷ []) level)) (changes_at (object.List ((v.Int (pos 1)) ∷ []) ∷ []) (dict_walked (object.List ((v.Int (pos 1)) ∷ []) ∷ []) level)) 0) else raises built.TypeError) for_grows_0_at_20) (v.outs-Ref _)) (as_run (for_turn recorder program_for_grows (value_for_grows) (means_for_grows) (node 4) (λ next. for_walk recorder program_for_grows (value_for_grows) (means_for_grows) (node 4) ((codes "x") ∷ []) false (for_grows_n6 ∷ []) next) ((codes "x") ∷ []) false (for_grows_n6 ∷ []) (walk_at (ref 0) 0 0 0)) (for_walk-out recorder program_for_grows (node 4) ((codes "x") ∷ []) false (for_grows_n6 ∷ []) (walk_at (ref 0) 0 0 0) for_grows_0_at_20) (then_ok (checks (walk_at (ref 0) 0 0 0)) _ tt for_grows_0_at_20 (leaf (first_of (simp views, simp tuples, search))) (as_run (for_element recorder program_for_grows (value_for_grows) (means_for_grows) (node 4) (λ next. for_walk recorder program_for_grows (value_for_grows) (means_for_grows) (node 4) ((codes "x") ∷ []) false (for_grows_n6 ∷ []) next) ((codes "x") ∷ []) false (for_grows_n6 ∷ []) (walk_at (ref 0) 0 0 0) (Some (v.Int (pos 1)))) (ap (λ level. for_element recorder program_for_grows (value_for_grows) (means_for_grows) (node 4) (λ next. for_walk recorder program_for_grows (value_for_grows) (means_for_grows) (node 4) ((codes "x") ∷ []) false (for_grows_n6 ∷ []) next) ((codes "x") ∷ []) false (for_grows_n6 ∷ []) (walk_at (ref 0) 0 0 0) (element_at (object.List ((v.Int (pos 1)) ∷ []) ∷ []) level 0) for_grows_0_at_20) (v.outs-Ref _)) (then_ok (takes 1) (λ _. takes_element recorder program_for_grows (node 4) ((codes "x") ∷ []) false (for_grows_n6 ∷ []) (for_walk recorder program_for_grows (value_for_grows) (means_for_grows) (node 4) ((codes "x") ∷ []) false (for_grows_n6 ∷ []) (walk_at (ref 0) 0 0 1)) (walk_at (ref 0) 0 0 0) (v.Int (pos 1))) tt for_grows_0_at_21 (leaf refl) (then_ok (makes_element (gives_new_tuples (out-Value (ref 0))) (v.Int (pos 1))) (λ _. decides recorder (node 4) (j.Plain true) true >> (binds_names false ((codes "x") ∷ []) (v.Int (pos 1)) >> (after_end (block recorder program_for_grows (means_for_grows) (for_grows_n6 ∷ [])) (after_turn (for_walk recorder program_for_grows (value_for_grows) (means_for_grows) (node 4) ((codes "x") ∷ []) false (for_grows_n6 ∷ []) (walk_at (ref 0) 0 0 1)))))) tt for_grows_0_at_21 (leaf (first_of (simp views, simp tuples, search))) (then_ok (decides recorder (node 4) (j.Plain true) true) (λ _. binds_names false ((codes "x") ∷ []) (v.Int (pos 1)) >> (after_end (block recorder program_for_grows (means_for_grows) (for_grows_n6 ∷ [])) (after_turn (for_walk recorder program_for_grows (value_for_grows) (means_for_grows) (node 4) ((codes "x") ∷ []) false (for_grows_n6 ∷ []) (walk_at (ref 0) 0 0 1))))) tt (state_for_grows (Some (func_id 0)) (((codes "a"), (ref 0)) ∷ []) [] (object.List ((v.Int (pos 1)) ∷ []) ∷ []) 1 289 for_grows_0_seen_17) (leaf refl) (then_ok (binds_names false ((codes "x") ∷ []) (v.Int (pos 1))) (λ _. (after_end (block recorder program_for_grows (means_for_grows) (for_grows_n6 ∷ [])) (after_turn (for_walk recorder program_for_grows (value_for_grows) (means_for_grows) (node 4) ((codes "x") ∷ []) false (for_grows_n6 ∷ []) (walk_at (ref 0) 0 0 1))))) (v.None, (j.Plain false)) (state_for_grows (Some (func_id 0)) (((codes "a"), (ref 0)) ∷ ((codes "x"), (v.Int (pos 1))) ∷ []) [] (object.List ((v.Int (pos 1)) ∷ []) ∷ []) 1 289 for_grows_0_seen_17) (leaf (first_of (simp views, simp tuples, search))) (then_after (block recorder program_for_grows (means_for_grows) (for_grows_n6 ∷ [])) (after_turn (for_walk recorder program_for_grows (value_for_grows) (means_for_grows) (node 4) ((codes "x") ∷ []) false (for_grows_n6 ∷ []) (walk_at (ref 0) 0 0 1))) (Ok (v.None, (j.Plain false))) for_grows_0_at_12 (then_ok (means_for_grows for_grows_n6) _ (v.None, (j.Plain false)) for_grows_0_at_12 (stmt_node recorder program_for_grows for_grows_n6 288 (y.outs-If ((for_grows_n7, (for_grows_n10 ∷ [])) ∷ []) None) refl (then_ok (value_for_grows for_grows_n7) _ ((v.Bool true), (j.Ints Lt (pos 1) (pos 4))) for_grows_0_at_17 (expr_node recorder program_for_grows for_grows_n7 287 (x.outs-Compare for_grows_n8 ((Lt, for_grows_n9) ∷ [])) refl (then_ok (value_for_grows for_grows_n8) _ ((v.Int (pos 1)), (j.Plain true)) (state_for_grows (Some (func_id 0)) (((codes "a"), (ref 0)) ∷ ((codes "x"), (v.Int (pos 1))) ∷ []) [] (object.List ((v.Int (pos 1)) ∷ []) ∷ []) 1 286 (began 0 ∷ began 1 ∷ began 2 ∷ began 3 ∷ began 4 ∷ began 5 ∷ Decided (node 4) (j.Plain true) true ∷ began 6 ∷ began 7 ∷ began 8 ∷ [])) (expr_node recorder program_for_grows for_grows_n8 286 (x.outs-Name (codes "x")) refl (leaf (simp views))) (then_ok (value_for_grows for_grows_n9) _ ((v.Int (pos 4)), (j.Plain true)) for_grows_0_at_17 (expr_node recorder program_for_grows for_grows_n9 285 (x.outs-IntLit (pos 4)) refl (leaf (simp views))) (then_ok (compares Lt (v.Int (pos 1)) (v.Int (pos 4))) _ true for_grows_0_at_17 (leaf (first_of (simp views, simp tuples, search))) (leaf (first_of (simp views, simp tuples, search))))))) (then_ok (tests (v.Bool true)) (λ outcome. decides recorder (node 7) (j.Ints Lt (pos 1) (pos 4)) outcome >> (if outcome then (block recorder program_for_grows (means_for_grows) (for_grows_n10 ∷ [])) else (branches recorder program_for_grows (value_for_grows) (means_for_grows) [] None))) true for_grows_0_at_17 (leaf (first_of (simp views, simp tuples, search))) (then_ok (decides recorder (node 7) (j.Ints Lt (pos 1) (pos 4)) true) (λ _. (block recorder program_for_grows (means_for_grows) (for_grows_n10 ∷ []))) tt (state_for_grows (Some (func_id 0)) (((codes "a"), (ref 0)) ∷ ((codes "x"), (v.Int (pos 1))) ∷ []) [] (object.List ((v.Int (pos 1)) ∷ []) ∷ []) 1 285 (began 0 ∷ began 1 ∷ began 2 ∷ began 3 ∷ began 4 ∷ began 5 ∷ Decided (node 4) (j.Plain true) true ∷ began 6 ∷ began 7 ∷ began 8 ∷ began 9 ∷ Decided (node 7) (j.Ints Lt (pos 1) (pos 4)) true ∷ [])) (leaf refl) (then_ok (means_for_grows for_grows_n10) _ (v.None, (j.Plain false)) for_grows_0_at_12 (stmt_node recorder program_for_grows for_grows_n10 284 (y.outs-Bare for_grows_n11) refl (then_ok (value_for_grows for_grows_n11) _ (v.None, (j.Plain false)) for_grows_0_at_12 (expr_node recorder program_for_grows for_grows_n11 283 (x.outs-Method for_grows_n12 (codes "append") (args (for_grows_n13 ∷ []) [])) refl (then_ok (value_for_grows for_grows_n12) _ ((ref 0), (j.Plain true)) for_grows_0_at_18 (expr_node recorder program_for_grows for_grows_n12 282 (x.outs-Name (codes "a")) refl (leaf (simp views))) (then_ok (finds program_for_grows (ref 0) (codes "append")) _ (callee.Method (ref 0) (codes "append")) for_grows_0_at_18 (leaf (first_of (simp views, simp tuples, search))) (as_run (plain_arguments recorder program_for_grows (value_for_grows) (means_for_grows) (callee.Method (ref 0) (codes "append")) [] (for_grows_n13 ∷ []) []) (ap (λ args. plain_arguments recorder program_for_grows (value_for_grows) (means_for_grows) (callee.Method (ref 0) (codes "append")) [] args.plain args.named for_grows_0_at_18) (out-roll-Args _)) (then_ok (value_for_grows for_grows_n13) _ ((v.Int (pos 2)), (j.Plain true)) for_grows_0_at_19 (expr_node recorder program_for_grows for_grows_n13 281 (x.outs-Binary Add for_grows_n14 for_grows_n15) refl (then_ok (value_for_grows for_grows_n14) _ ((v.Int (pos 1)), (j.Plain true)) (state_for_grows (Some (func_id 0)) (((codes "a"), (ref 0)) ∷ ((codes "x"), (v.Int (pos 1))) ∷ []) [] (object.List ((v.Int (pos 1)) ∷ []) ∷ []) 1 280 (began 0 ∷ began 1 ∷ began 2 ∷ began 3 ∷ began 4 ∷ began 5 ∷ Decided (node 4) (j.Plain true) true ∷ began 6 ∷ began 7 ∷ began 8 ∷ began 9 ∷ Decided (node 7) (j.Ints Lt (pos 1) (pos 4)) true ∷ began 10 ∷ began 11 ∷ began 12 ∷ began 13 ∷ began 14 ∷ [])) (expr_node recorder program_for_grows for_grows_n14 280 (x.outs-Name (codes "x")) refl (leaf (simp views))) (then_ok (value_for_grows for_grows_n15) _ ((v.Int (pos 1)), (j.Plain true)) for_grows_0_at_19 (expr_node recorder program_for_grows for_grows_n15 279 (x.outs-IntLit (pos 1)) refl (leaf (simp views))) (leaf (first_of (simp views, simp tuples, search)))))) (leaf (first_of (simp views, simp tuples, search)))))))) (leaf refl))) (leaf refl)))))) (leaf refl)) (as_run (for_turn recorder program_for_grows (value_for_grows) (means_for_grows) (node 4) (λ next. for_walk recorder program_for_grows (value_for_grows) (means_for_grows) (node 4) ((codes "x") ∷ []) false (for_grows_n6 ∷ []) next) ((codes "x") ∷ []) false (for_grows_n6 ∷ []) (walk_at (ref 0) 0 0 1)) (for_walk-out recorder program_for_grows (node 4) ((codes "x") ∷ []) false (for_grows_n6 ∷ []) (walk_at (ref 0) 0 0 1) for_grows_0_at_12) (then_ok (checks (walk_at (ref 0) 0 0 1)) _ tt for_grows_0_at_12 (leaf (first_of (simp views, simp tuples, search))) (as_run (for_element recorder program_for_grows (value_for_grows) (means_for_grows) (node 4) (λ next. for_walk recorder program_for_grows (value_for_grows) (means_for_grows) (node 4) ((codes "x") ∷ []) false (for_grows_n6 ∷ []) next) ((codes "x") ∷ []) false (for_grows_n6 ∷ []) (walk_at (ref 0) 0 0 1) (Some (v.Int (pos 2)))) (ap (λ level. for_element recorder program_for_grows (value_for_grows) (means_for_grows) (node 4) (λ next. for_walk recorder program_for_grows (value_for_grows) (means_for_grows) (node 4) ((codes "x") ∷ []) false (for_grows_n6 ∷ []) next) ((codes "x") ∷ []) false (for_grows_n6 ∷ []) (walk_at (ref 0) 0 0 1) (element_at (object.List ((v.Int (pos 1)) ∷ (v.Int (pos 2)) ∷ []) ∷ []) level 1) for_grows_0_at_12) (v.outs-Ref _)) (then_ok (takes 1) (λ _. takes_element recorder program_for_grows (node 4) ((codes "x") ∷ []) false (for_grows_n6 ∷ []) (for_walk recorder program_for_grows (value_for_grows) (means_for_grows) (node 4) ((codes "x") ∷ []) false (for_grows_n6 ∷ []) (walk_at (ref 0) 0 0 2)) (walk_at (ref 0) 0 0 1) (v.Int (pos 2))) tt for_grows_0_at_13 (leaf refl) (then_ok (makes_element (gives_new_tuples (out-Value (ref 0))) (v.Int (pos 2))) (λ _. decides recorder (node 4) (j.Plain true) true >> (binds_names false ((codes "x") ∷ []) (v.Int (pos 2)) >> (after_end (block recorder program_for_grows (means_for_grows) (for_grows_n6 ∷ [])) (after_turn (for_walk recorder program_for_grows (value_for_grows) (means_for_grows) (node 4) ((codes "x") ∷ []) false (for_grows_n6 ∷ []) (walk_at (ref 0) 0 0 2)))))) tt for_grows_0_at_13 (leaf (first_of (simp views, simp tuples, search))) (then_ok (decides recorder (node 4) (j.Plain true) true) (λ _. binds_names false ((codes "x") ∷ []) (v.Int (pos 2)) >> (after_end (block recorder program_for_grows (means_for_grows) (for_grows_n6 ∷ [])) (after_turn (for_walk recorder program_for_grows (value_for_grows) (means_for_grows) (node 4) ((codes "x") ∷ []) false (for_grows_n6 ∷ []) (walk_at (ref 0) 0 0 2))))) tt (state_for_grows (Some (func_id 0)) (((codes "a"), (ref 0)) ∷ ((codes "x"), (v.Int (pos 1))) ∷ []) [] (object.List ((v.Int (pos 1)) ∷ (v.Int (pos 2)) ∷ []) ∷ []) 1 277 for_grows_0_seen_13) (leaf refl) (then_ok (binds_names false ((codes "x") ∷ []) (v.Int (pos 2))) (λ _. (after_end (block recorder program_for_grows (means_for_grows) (for_grows_n6 ∷ [])) (after_turn (for_walk recorder program_for_grows (value_for_grows) (means_for_grows) (node 4) ((codes "x") ∷ []) false (for_grows_n6 ∷ []) (walk_at (ref 0) 0 0 2))))) (v.None, (j.Plain false)) (state_for_grows (Some (func_id 0)) (((codes "a"), (ref 0)) ∷ ((codes "x"), (v.Int (pos 2))) ∷ []) [] (object.List ((v.Int (pos 1)) ∷ (v.Int (pos 2)) ∷ []) ∷ []) 1 277 for_grows_0_seen_13) (leaf (first_of (simp views, simp tuples, search))) (then_after (block recorder program_for_grows (means_for_grows) (for_grows_n6 ∷ [])) (after_turn (for_walk recorder program_for_grows (value_for_grows) (means_for_grows) (node 4) ((codes "x") ∷ []) false (for_grows_n6 ∷ []) (walk_at (ref 0) 0 0 2))) (Ok (v.None, (j.Plain false))) for_grows_0_at_7 (then_ok (means_for_grows for_grows_n6) _ (v.None, (j.Plain false)) for_grows_0_at_7 (stmt_node recorder program_for_grows for_grows_n6 276 (y.outs-If ((for_grows_n7, (for_grows_n10 ∷ [])) ∷ []) None) refl (then_ok (value_for_grows for_grows_n7) _ ((v.Bool true), (j.Ints Lt (pos 2) (pos 4))) for_grows_0_at_14 (expr_node recorder program_for_grows for_grows_n7 275 (x.outs-Compare for_grows_n8 ((Lt, for_grows_n9) ∷ [])) refl (then_ok (value_for_grows for_grows_n8) _ ((v.Int (pos 2)), (j.Plain true)) (state_for_grows (Some (func_id 0)) (((codes "a"), (ref 0)) ∷ ((codes "x"), (v.Int (pos 2))) ∷ []) [] (object.List ((v.Int (pos 1)) ∷ (v.Int (pos 2)) ∷ []) ∷ []) 1 274 (began 0 ∷ began 1 ∷ began 2 ∷ began 3 ∷ began 4 ∷ began 5 ∷ Decided (node 4) (j.Plain true) true ∷ began 6 ∷ began 7 ∷ began 8 ∷ began 9 ∷ Decided (node 7) (j.Ints Lt (pos 1) (pos 4)) true ∷ began 10 ∷ began 11 ∷ began 12 ∷ began 13 ∷ began 14 ∷ began 15 ∷ Decided (node 4) (j.Plain true) true ∷ began 6 ∷ began 7 ∷ began 8 ∷ [])) (expr_node recorder program_for_grows for_grows_n8 274 (x.outs-Name (codes "x")) refl (leaf (simp views))) (then_ok (value_for_grows for_grows_n9) _ ((v.Int (pos 4)), (j.Plain true)) for_grows_0_at_14 (expr_node recorder program_for_grows for_grows_n9 273 (x.outs-IntLit (pos 4)) refl (leaf (simp views))) (then_ok (compares Lt (v.Int (pos 2)) (v.Int (pos 4))) _ true for_grows_0_at_14 (leaf (first_of (simp views, simp tuples, search))) (leaf (first_of (simp views, simp tuples, search))))))) (then_ok (tests (v.Bool true)) (λ outcome. decides recorder (node 7) (j.Ints Lt (pos 2) (pos 4)) outcome >> (if outcome then (block recorder program_for_grows (means_for_grows) (for_grows_n10 ∷ [])) else (branches recorder program_for_grows (value_for_grows) (means_for_grows) [] None))) true for_grows_0_at_14 (leaf (first_of (simp views, simp tuples, search))) (then_ok (decides recorder (node 7) (j.Ints Lt (pos 2) (pos 4)) true) (λ _. (block recorder program_for_grows (means_for_grows) (for_grows_n10 ∷ []))) tt (state_for_grows (Some (func_id 0)) (((codes "a"), (ref 0)) ∷ ((codes "x"), (v.Int (pos 2))) ∷ []) [] (object.List ((v.Int (pos 1)) ∷ (v.Int (pos 2)) ∷ []) ∷ []) 1 273 (began 0 ∷ began 1 ∷ began 2 ∷ began 3 ∷ began 4 ∷ began 5 ∷ Decided (node 4) (j.Plain true) true ∷ began 6 ∷ began 7 ∷ began 8 ∷ began 9 ∷ Decided (node 7) (j.Ints Lt (pos 1) (pos 4)) true ∷ began 10 ∷ began 11 ∷ began 12 ∷ began 13 ∷ began 14 ∷ began 15 ∷ Decided (node 4) (j.Plain true) true ∷ began 6 ∷ began 7 ∷ began 8 ∷ began 9 ∷ Decided (node 7) (j.Ints Lt (pos 2) (pos 4)) true ∷ [])) (leaf refl) (then_ok (means_for_grows for_grows_n10) _ (v.None, (j.Plain false)) for_grows_0_at_7 (stmt_node recorder program_for_grows for_grows_n10 272 (y.outs-Bare for_grows_n11) refl (then_ok (value_for_grows for_grows_n11) _ (v.None, (j.Plain false)) for_grows_0_at_7 (expr_node recorder program_for_grows for_grows_n11 271 (x.outs-Method for_grows_n12 (codes "append") (args (for_grows_n13 ∷ []) [])) refl (then_ok (value_for_grows for_grows_n12) _ ((ref 0), (j.Plain true)) for_grows_0_at_15 (expr_node recorder program_for_grows for_grows_n12 270 (x.outs-Name (codes "a")) refl (leaf (simp views))) (then_ok (finds program_for_grows (ref 0) (codes "append")) _ (callee.Method (ref 0) (codes "append")) for_grows_0_at_15 (leaf (first_of (simp views, simp tuples, search))) (as_run (plain_arguments recorder program_for_grows (value_for_grows) (means_for_grows) (callee.Method (ref 0) (codes "append")) [] (for_grows_n13 ∷ []) []) (ap (λ args. plain_arguments recorder program_for_grows (value_for_grows) (means_for_grows) (callee.Method (ref 0) (codes "append")) [] args.plain args.named for_grows_0_at_15) (out-roll-Args _)) (then_ok (value_for_grows for_grows_n13) _ ((v.Int (pos 3)), (j.Plain true)) for_grows_0_at_16 (expr_node recorder program_for_grows for_grows_n13 269 (x.outs-Binary Add for_grows_n14 for_grows_n15) refl (then_ok (value_for_grows for_grows_n14) _ ((v.Int (pos 2)), (j.Plain true)) (state_for_grows (Some (func_id 0)) (((codes "a"), (ref 0)) ∷ ((codes "x"), (v.Int (pos 2))) ∷ []) [] (object.List ((v.Int (pos 1)) ∷ (v.Int (pos 2)) ∷ []) ∷ []) 1 268 (began 0 ∷ began 1 ∷ began 2 ∷ began 3 ∷ began 4 ∷ began 5 ∷ Decided (node 4) (j.Plain true) true ∷ began 6 ∷ began 7 ∷ began 8 ∷ began 9 ∷ Decided (node 7) (j.Ints Lt (pos 1) (pos 4)) true ∷ began 10 ∷ began 11 ∷ began 12 ∷ began 13 ∷ began 14 ∷ began 15 ∷ Decided (node 4) (j.Plain true) true ∷ began 6 ∷ began 7 ∷ began 8 ∷ began 9 ∷ Decided (node 7) (j.Ints Lt (pos 2) (pos 4)) true ∷ began 10 ∷ began 11 ∷ began 12 ∷ began 13 ∷ began 14 ∷ [])) (expr_node recorder program_for_grows for_grows_n14 268 (x.outs-Name (codes "x")) refl (leaf (simp views))) (then_ok (value_for_grows for_grows_n15) _ ((v.Int (pos 1)), (j.Plain true)) for_grows_0_at_16 (expr_node recorder program_for_grows for_grows_n15 267 (x.outs-IntLit (pos 1)) refl (leaf (simp views))) (leaf (first_of (simp views, simp tuples, search)))))) (leaf (first_of (simp views, simp tuples, search)))))))) (leaf refl))) (leaf refl)))))) (leaf refl)) (as_run (for_turn recorder program_for_grows (value_for_grows) (means_for_grows) (node 4) (λ next. for_walk recorder program_for_grows (value_for_grows) (means_for_grows) (node 4) ((codes "x") ∷ []) false (for_grows_n6 ∷ []) next) ((codes "x") ∷ []) false (for_grows_n6 ∷ []) (walk_at (ref 0) 0 0 2)) (for_walk-out recorder program_for_grows (node 4) ((codes "x") ∷ []) false (for_grows_n6 ∷ []) (walk_at (ref 0) 0 0 2) for_grows_0_at_7) (then_ok (checks (walk_at (ref 0) 0 0 2)) _ tt for_grows_0_at_7 (leaf (first_of (simp views, simp tuples, search))) (as_run (for_element recorder program_for_grows (value_for_grows) (means_for_grows) (node 4) (λ next. for_walk recorder program_for_grows (value_for_grows) (means_for_grows) (node 4) ((codes "x") ∷ []) false (for_grows_n6 ∷ []) next) ((codes "x") ∷ []) false (for_grows_n6 ∷ []) (walk_at (ref 0) 0 0 2) (Some (v.Int (pos 3)))) (ap (λ level. for_element recorder program_for_grows (value_for_grows) (means_for_grows) (node 4) (λ next. for_walk recorder program_for_grows (value_for_grows) (means_for_grows) (node 4) ((codes "x") ∷ []) false (for_grows_n6 ∷ []) next) ((codes "x") ∷ []) false (for_grows_n6 ∷ []) (walk_at (ref 0) 0 0 2) (element_at (object.List ((v.Int (pos 1)) ∷ (v.Int (pos 2)) ∷ (v.Int (pos 3)) ∷ []) ∷ []) level 2) for_grows_0_at_7) (v.outs-Ref _)) (then_ok (takes 1) (λ _. takes_element recorder program_for_grows (node 4) ((codes "x") ∷ []) false (for_grows_n6 ∷ []) (for_walk recorder program_for_grows (value_for_grows) (means_for_grows) (node 4) ((codes "x") ∷ []) false (for_grows_n6 ∷ []) (walk_at (ref 0) 0 0 3)) (walk_at (ref 0) 0 0 2) (v.Int (pos 3))) tt for_grows_0_at_8 (leaf refl) (then_ok (makes_element (gives_new_tuples (out-Value (ref 0))) (v.Int (pos 3))) (λ _. decides recorder (node 4) (j.Plain true) true >> (binds_names false ((codes "x") ∷ []) (v.Int (pos 3)) >> (after_end (block recorder program_for_grows (means_for_grows) (for_grows_n6 ∷ [])) (after_turn (for_walk recorder program_for_grows (value_for_grows) (means_for_grows) (node 4) ((codes "x") ∷ []) false (for_grows_n6 ∷ []) (walk_at (ref 0) 0 0 3)))))) tt for_grows_0_at_8 (leaf (first_of (simp views, simp tuples, search))) (then_ok (decides recorder (node 4) (j.Plain true) true) (λ _. binds_names false ((codes "x") ∷ []) (v.Int (pos 3)) >> (after_end (block recorder program_for_grows (means_for_grows) (for_grows_n6 ∷ [])) (after_turn (for_walk recorder program_for_grows (value_for_grows) (means_for_grows) (node 4) ((codes "x") ∷ []) false (for_grows_n6 ∷ []) (walk_at (ref 0) 0 0 3))))) tt (state_for_grows (Some (func_id 0)) (((codes "a"), (ref 0)) ∷ ((codes "x"), (v.Int (pos 2))) ∷ []) [] (object.List ((v.Int (pos 1)) ∷ (v.Int (pos 2)) ∷ (v.Int (pos 3)) ∷ []) ∷ []) 1 265 for_grows_0_seen_9) (leaf refl) (then_ok (binds_names false ((codes "x") ∷ []) (v.Int (pos 3))) (λ _. (after_end (block recorder program_for_grows (means_for_grows) (for_grows_n6 ∷ [])) (after_turn (for_walk recorder program_for_grows (value_for_grows) (means_for_grows) (node 4) ((codes "x") ∷ []) false (for_grows_n6 ∷ []) (walk_at (ref 0) 0 0 3))))) (v.None, (j.Plain false)) (state_for_grows (Some (func_id 0)) (((codes "a"), (ref 0)) ∷ ((codes "x"), (v.Int (pos 3))) ∷ []) [] (object.List ((v.Int (pos 1)) ∷ (v.Int (pos 2)) ∷ (v.Int (pos 3)) ∷ []) ∷ []) 1 265 for_grows_0_seen_9) (leaf (first_of (simp views, simp tuples, search))) (then_after (block recorder program_for_grows (means_for_grows) (for_grows_n6 ∷ [])) (after_turn (for_walk recorder program_for_grows (value_for_grows) (means_for_grows) (node 4) ((codes "x") ∷ []) false (for_grows_n6 ∷ []) (walk_at (ref 0) 0 0 3))) (Ok (v.None, (j.Plain false))) for_grows_0_at_3 (then_ok (means_for_grows for_grows_n6) _ (v.None, (j.Plain false)) for_grows_0_at_3 (stmt_node recorder program_for_grows for_grows_n6 264 (y.outs-If ((for_grows_n7, (for_grows_n10 ∷ [])) ∷ []) None) refl (then_ok (value_for_grows for_grows_n7) _ ((v.Bool true), (j.Ints Lt (pos 3) (pos 4))) for_grows_0_at_9 (expr_node recorder program_for_grows for_grows_n7 263 (x.outs-Compare for_grows_n8 ((Lt, for_grows_n9) ∷ [])) refl (then_ok (value_for_grows for_grows_n8) _ ((v.Int (pos 3)), (j.Plain true)) (state_for_grows (Some (func_id 0)) (((codes "a"), (ref 0)) ∷ ((codes "x"), (v.Int (pos 3))) ∷ []) [] (object.List ((v.Int (pos 1)) ∷ (v.Int (pos 2)) ∷ (v.Int (pos 3)) ∷ []) ∷ []) 1 262 (began 0 ∷ began 1 ∷ began 2 ∷ began 3 ∷ began 4 ∷ began 5 ∷ Decided (node 4) (j.Plain true) true ∷ began 6 ∷ began 7 ∷ began 8 ∷ began 9 ∷ Decided (node 7) (j.Ints Lt (pos 1) (pos 4)) true ∷ began 10 ∷ began 11 ∷ began 12 ∷ began 13 ∷ began 14 ∷ began 15 ∷ Decided (node 4) (j.Plain true) true ∷ began 6 ∷ began 7 ∷ began 8 ∷ began 9 ∷ Decided (node 7) (j.Ints Lt (pos 2) (pos 4)) true ∷ began 10 ∷ began 11 ∷ began 12 ∷ began 13 ∷ began 14 ∷ began 15 ∷ Decided (node 4) (j.Plain true) true ∷ began 6 ∷ began 7 ∷ began 8 ∷ [])) (expr_node recorder program_for_grows for_grows_n8 262 (x.outs-Name (codes "x")) refl (leaf (simp views))) (then_ok (value_for_grows for_grows_n9) _ ((v.Int (pos 4)), (j.Plain true)) for_grows_0_at_9 (expr_node recorder program_for_grows for_grows_n9 261 (x.outs-IntLit (pos 4)) refl (leaf (simp views))) (then_ok (compares Lt (v.Int (pos 3)) (v.Int (pos 4))) _ true for_grows_0_at_9 (leaf (first_of (simp views, simp tuples, search))) (leaf (first_of (simp views, simp tuples, search))))))) (then_ok (tests (v.Bool true)) (λ outcome. decides recorder (node 7) (j.Ints Lt (pos 3) (pos 4)) outcome >> (if outcome then (block recorder program_for_grows (means_for_grows) (for_grows_n10 ∷ [])) else (branches recorder program_for_grows (value_for_grows) (means_for_grows) [] None))) true for_grows_0_at_9 (leaf (first_of (simp views, simp tuples, search))) (then_ok (decides recorder (node 7) (j.Ints Lt (pos 3) (pos 4)) true) (λ _. (block recorder program_for_grows (means_for_grows) (for_grows_n10 ∷ []))) tt (state_for_grows (Some (func_id 0)) (((codes "a"), (ref 0)) ∷ ((codes "x"), (v.Int (pos 3))) ∷ []) [] (object.List ((v.Int (pos 1)) ∷ (v.Int (pos 2)) ∷ (v.Int (pos 3)) ∷ []) ∷ []) 1 261 (began 0 ∷ began 1 ∷ began 2 ∷ began 3 ∷ began 4 ∷ began 5 ∷ Decided (node 4) (j.Plain true) true ∷ began 6 ∷ began 7 ∷ began 8 ∷ began 9 ∷ Decided (node 7) (j.Ints Lt (pos 1) (pos 4)) true ∷ began 10 ∷ began 11 ∷ began 12 ∷ began 13 ∷ began 14 ∷ began 15 ∷ Decided (node 4) (j.Plain true) true ∷ began 6 ∷ began 7 ∷ began 8 ∷ began 9 ∷ Decided (node 7) (j.Ints Lt (pos 2) (pos 4)) true ∷ began 10 ∷ began 11 ∷ began 12 ∷ began 13 ∷ began 14 ∷ began 15 ∷ Decided (node 4) (j.Plain true) true ∷ began 6 ∷ began 7 ∷ began 8 ∷ began 9 ∷ Decided (node 7) (j.Ints Lt (pos 3) (pos 4)) true ∷ [])) (leaf refl) (then_ok (means_for_grows for_grows_n10) _ (v.None, (j.Plain false)) for_grows_0_at_3 (stmt_node recorder program_for_grows for_grows_n10 260 (y.outs-Bare for_grows_n11) refl (then_ok (value_for_grows for_grows_n11) _ (v.None, (j.Plain false)) for_grows_0_at_3 (expr_node recorder program_for_grows for_grows_n11 259 (x.outs-Method for_grows_n12 (codes "append") (args (for_grows_n13 ∷ []) [])) refl (then_ok (value_for_grows for_grows_n12) _ ((ref 0), (j.Plain true)) for_grows_0_at_10 (expr_node recorder program_for_grows for_grows_n12 258 (x.outs-Name (codes "a")) refl (leaf (simp views))) (then_ok (finds program_for_grows (ref 0) (codes "append")) _ (callee.Method (ref 0) (codes "append")) for_grows_0_at_10 (leaf (first_of (simp views, simp tuples, search))) (as_run (plain_arguments recorder program_for_grows (value_for_grows) (means_for_grows) (callee.Method (ref 0) (codes "append")) [] (for_grows_n13 ∷ []) []) (ap (λ args. plain_arguments recorder program_for_grows (value_for_grows) (means_for_grows) (callee.Method (ref 0) (codes "append")) [] args.plain args.named for_grows_0_at_10) (out-roll-Args _)) (then_ok (value_for_grows for_grows_n13) _ ((v.Int (pos 4)), (j.Plain true)) for_grows_0_at_11 (expr_node recorder program_for_grows for_grows_n13 257 (x.outs-Binary Add for_grows_n14 for_grows_n15) refl (then_ok (value_for_grows for_grows_n14) _ ((v.Int (pos 3)), (j.Plain true)) (state_for_grows (Some (func_id 0)) (((codes "a"), (ref 0)) ∷ ((codes "x"), (v.Int (pos 3))) ∷ []) [] (object.List ((v.Int (pos 1)) ∷ (v.Int (pos 2)) ∷ (v.Int (pos 3)) ∷ []) ∷ []) 1 256 (began 0 ∷ began 1 ∷ began 2 ∷ began 3 ∷ began 4 ∷ began 5 ∷ Decided (node 4) (j.Plain true) true ∷ began 6 ∷ began 7 ∷ began 8 ∷ began 9 ∷ Decided (node 7) (j.Ints Lt (pos 1) (pos 4)) true ∷ began 10 ∷ began 11 ∷ began 12 ∷ began 13 ∷ began 14 ∷ began 15 ∷ Decided (node 4) (j.Plain true) true ∷ began 6 ∷ began 7 ∷ began 8 ∷ began 9 ∷ Decided (node 7) (j.Ints Lt (pos 2) (pos 4)) true ∷ began 10 ∷ began 11 ∷ began 12 ∷ began 13 ∷ began 14 ∷ began 15 ∷ Decided (node 4) (j.Plain true) true ∷ began 6 ∷ began 7 ∷ began 8 ∷ began 9 ∷ Decided (node 7) (j.Ints Lt (pos 3) (pos 4)) true ∷ began 10 ∷ began 11 ∷ began 12 ∷ began 13 ∷ began 14 ∷ [])) (expr_node recorder program_for_grows for_grows_n14 256 (x.outs-Name (codes "x")) refl (leaf (simp views))) (then_ok (value_for_grows for_grows_n15) _ ((v.Int (pos 1)), (j.Plain true)) for_grows_0_at_11 (expr_node recorder program_for_grows for_grows_n15 255 (x.outs-IntLit (pos 1)) refl (leaf (simp views))) (leaf (first_of (simp views, simp tuples, search)))))) (leaf (first_of (simp views, simp tuples, search)))))))) (leaf refl))) (leaf refl)))))) (leaf refl)) (as_run (for_turn recorder program_for_grows (value_for_grows) (means_for_grows) (node 4) (λ next. for_walk recorder program_for_grows (value_for_grows) (means_for_grows) (node 4) ((codes "x") ∷ []) false (for_grows_n6 ∷ []) next) ((codes "x") ∷ []) false (for_grows_n6 ∷ []) (walk_at (ref 0) 0 0 3)) (for_walk-out recorder program_for_grows (node 4) ((codes "x") ∷ []) false (for_grows_n6 ∷ []) (walk_at (ref 0) 0 0 3) for_grows_0_at_3) (then_ok (checks (walk_at (ref 0) 0 0 3)) _ tt for_grows_0_at_3 (leaf (first_of (simp views, simp tuples, search))) (as_run (for_element recorder program_for_grows (value_for_grows) (means_for_grows) (node 4) (λ next. for_walk recorder program_for_grows (value_for_grows) (means_for_grows) (node 4) ((codes "x") ∷ []) false (for_grows_n6 ∷ []) next) ((codes "x") ∷ []) false (for_grows_n6 ∷ []) (walk_at (ref 0) 0 0 3) (Some (v.Int (pos 4)))) (ap (λ level. for_element recorder program_for_grows (value_for_grows) (means_for_grows) (node 4) (λ next. for_walk recorder program_for_grows (value_for_grows) (means_for_grows) (node 4) ((codes "x") ∷ []) false (for_grows_n6 ∷ []) next) ((codes "x") ∷ []) false (for_grows_n6 ∷ []) (walk_at (ref 0) 0 0 3) (element_at (object.List ((v.Int (pos 1)) ∷ (v.Int (pos 2)) ∷ (v.Int (pos 3)) ∷ (v.Int (pos 4)) ∷ []) ∷ []) level 3) for_grows_0_at_3) (v.outs-Ref _)) (then_ok (takes 1) (λ _. takes_element recorder program_for_grows (node 4) ((codes "x") ∷ []) false (for_grows_n6 ∷ []) (for_walk recorder program_for_grows (value_for_grows) (means_for_grows) (node 4) ((codes "x") ∷ []) false (for_grows_n6 ∷ []) (walk_at (ref 0) 0 0 4)) (walk_at (ref 0) 0 0 3) (v.Int (pos 4))) tt for_grows_0_at_4 (leaf refl) (then_ok (makes_element (gives_new_tuples (out-Value (ref 0))) (v.Int (pos 4))) (λ _. decides recorder (node 4) (j.Plain true) true >> (binds_names false ((codes "x") ∷ []) (v.Int (pos 4)) >> (after_end (block recorder program_for_grows (means_for_grows) (for_grows_n6 ∷ [])) (after_turn (for_walk recorder program_for_grows (value_for_grows) (means_for_grows) (node 4) ((codes "x") ∷ []) false (for_grows_n6 ∷ []) (walk_at (ref 0) 0 0 4)))))) tt for_grows_0_at_4 (leaf (first_of (simp views, simp tuples, search))) (then_ok (decides recorder (node 4) (j.Plain true) true) (λ _. binds_names false ((codes "x") ∷ []) (v.Int (pos 4)) >> (after_end (block recorder program_for_grows (means_for_grows) (for_grows_n6 ∷ [])) (after_turn (for_walk recorder program_for_grows (value_for_grows) (means_for_grows) (node 4) ((codes "x") ∷ []) false (for_grows_n6 ∷ []) (walk_at (ref 0) 0 0 4))))) tt (state_for_grows (Some (func_id 0)) (((codes "a"), (ref 0)) ∷ ((codes "x"), (v.Int (pos 3))) ∷ []) [] (object.List ((v.Int (pos 1)) ∷ (v.Int (pos 2)) ∷ (v.Int (pos 3)) ∷ (v.Int (pos 4)) ∷ []) ∷ []) 1 253 for_grows_0_seen_5) (leaf refl) (then_ok (binds_names false ((codes "x") ∷ []) (v.Int (pos 4))) (λ _. (after_end (block recorder program_for_grows (means_for_grows) (for_grows_n6 ∷ [])) (after_turn (for_walk recorder program_for_grows (value_for_grows) (means_for_grows) (node 4) ((codes "x") ∷ []) false (for_grows_n6 ∷ []) (walk_at (ref 0) 0 0 4))))) (v.None, (j.Plain false)) (state_for_grows (Some (func_id 0)) (((codes "a"), (ref 0)) ∷ ((codes "x"), (v.Int (pos 4))) ∷ []) [] (object.List ((v.Int (pos 1)) ∷ (v.Int (pos 2)) ∷ (v.Int (pos 3)) ∷ (v.Int (pos 4)) ∷ []) ∷ []) 1 253 for_grows_0_seen_5) (leaf (first_of (simp views, simp tuples, search))) (then_after (block recorder program_for_grows (means_for_grows) (for_grows_n6 ∷ [])) (after_turn (for_walk recorder program_for_grows (value_for_grows) (means_for_grows) (node 4) ((codes "x") ∷ []) false (for_grows_n6 ∷ []) (walk_at (ref 0) 0 0 4))) (Ok (v.None, (j.Plain false))) for_grows_0_at_5 (then_ok (means_for_grows for_grows_n6) _ (v.None, (j.Plain false)) for_grows_0_at_5 (stmt_node recorder program_for_grows for_grows_n6 252 (y.outs-If ((for_grows_n7, (for_grows_n10 ∷ [])) ∷ []) None) refl (then_ok (value_for_grows for_grows_n7) _ ((v.Bool false), (j.Ints Lt (pos 4) (pos 4))) for_grows_0_at_6 (expr_node recorder program_for_grows for_grows_n7 251 (x.outs-Compare for_grows_n8 ((Lt, for_grows_n9) ∷ [])) refl (then_ok (value_for_grows for_grows_n8) _ ((v.Int (pos 4)), (j.Plain true)) (state_for_grows (Some (func_id 0)) (((codes "a"), (ref 0)) ∷ ((codes "x"), (v.Int (pos 4))) ∷ []) [] (object.List ((v.Int (pos 1)) ∷ (v.Int (pos 2)) ∷ (v.Int (pos 3)) ∷ (v.Int (pos 4)) ∷ []) ∷ []) 1 250 (began 0 ∷ began 1 ∷ began 2 ∷ began 3 ∷ began 4 ∷ began 5 ∷ Decided (node 4) (j.Plain true) true ∷ began 6 ∷ began 7 ∷ began 8 ∷ began 9 ∷ Decided (node 7) (j.Ints Lt (pos 1) (pos 4)) true ∷ began 10 ∷ began 11 ∷ began 12 ∷ began 13 ∷ began 14 ∷ began 15 ∷ Decided (node 4) (j.Plain true) true ∷ began 6 ∷ began 7 ∷ began 8 ∷ began 9 ∷ Decided (node 7) (j.Ints Lt (pos 2) (pos 4)) true ∷ began 10 ∷ began 11 ∷ began 12 ∷ began 13 ∷ began 14 ∷ began 15 ∷ Decided (node 4) (j.Plain true) true ∷ began 6 ∷ began 7 ∷ began 8 ∷ began 9 ∷ Decided (node 7) (j.Ints Lt (pos 3) (pos 4)) true ∷ began 10 ∷ began 11 ∷ began 12 ∷ began 13 ∷ began 14 ∷ began 15 ∷ Decided (node 4) (j.Plain true) true ∷ began 6 ∷ began 7 ∷ began 8 ∷ [])) (expr_node recorder program_for_grows for_grows_n8 250 (x.outs-Name (codes "x")) refl (leaf (simp views))) (then_ok (value_for_grows for_grows_n9) _ ((v.Int (pos 4)), (j.Plain true)) for_grows_0_at_6 (expr_node recorder program_for_grows for_grows_n9 249 (x.outs-IntLit (pos 4)) refl (leaf (simp views))) (then_ok (compares Lt (v.Int (pos 4)) (v.Int (pos 4))) _ false for_grows_0_at_6 (leaf (first_of (simp views, simp tuples, search))) (leaf (first_of (simp views, simp tuples, search))))))) (then_ok (tests (v.Bool false)) (λ outcome. decides recorder (node 7) (j.Ints Lt (pos 4) (pos 4)) outcome >> (if outcome then (block recorder program_for_grows (means_for_grows) (for_grows_n10 ∷ [])) else (branches recorder program_for_grows (value_for_grows) (means_for_grows) [] None))) false for_grows_0_at_6 (leaf (first_of (simp views, simp tuples, search))) (then_ok (decides recorder (node 7) (j.Ints Lt (pos 4) (pos 4)) false) (λ _. (branches recorder program_for_grows (value_for_grows) (means_for_grows) [] None)) tt for_grows_0_at_5 (leaf refl) (leaf refl))))) (leaf refl)) (as_run (for_turn recorder program_for_grows (value_for_grows) (means_for_grows) (node 4) (λ next. for_walk recorder program_for_grows (value_for_grows) (means_for_grows) (node 4) ((codes "x") ∷ []) false (for_grows_n6 ∷ []) next) ((codes "x") ∷ []) false (for_grows_n6 ∷ []) (walk_at (ref 0) 0 0 4)) (for_walk-out recorder program_for_grows (node 4) ((codes "x") ∷ []) false (for_grows_n6 ∷ []) (walk_at (ref 0) 0 0 4) for_grows_0_at_5) (then_ok (checks (walk_at (ref 0) 0 0 4)) _ tt for_grows_0_at_5 (leaf (first_of (simp views, simp tuples, search))) (as_run (for_element recorder program_for_grows (value_for_grows) (means_for_grows) (node 4) (λ next. for_walk recorder program_for_grows (value_for_grows) (means_for_grows) (node 4) ((codes "x") ∷ []) false (for_grows_n6 ∷ []) next) ((codes "x") ∷ []) false (for_grows_n6 ∷ []) (walk_at (ref 0) 0 0 4) None) (ap (λ level. for_element recorder program_for_grows (value_for_grows) (means_for_grows) (node 4) (λ next. for_walk recorder program_for_grows (value_for_grows) (means_for_grows) (node 4) ((codes "x") ∷ []) false (for_grows_n6 ∷ []) next) ((codes "x") ∷ []) false (for_grows_n6 ∷ []) (walk_at (ref 0) 0 0 4) (element_at (object.List ((v.Int (pos 1)) ∷ (v.Int (pos 2)) ∷ (v.Int (pos 3)) ∷ (v.Int (pos 4)) ∷ []) ∷ []) level 4) for_grows_0_at_5) (v.outs-Ref _)) (then_ok (decides recorder (node 4) (j.Plain false) false) (λ _. passes) tt for_grows_0_at_2 (leaf refl) (leaf refl)))))))))))))))))))))))))))))))))))))))) (then_err (means_for_grows for_grows_n16) _ (Returned (ref 0)) for_grows_0_at_1 (stmt_node recorder program_for_grows for_grows_n16 248 (y.outs-Return (Some for_grows_n17)) refl (then_ok (value_for_grows for_grows_n17) _ ((ref 0), (j.Plain true)) for_grows_0_at_1 (expr_node recorder program_for_grows for_grows_n17 247 (x.outs-Name (codes "a")) refl (leaf (simp views))) (leaf refl)))))))) (simp views)))))))) (leaf refl))

abbrev value_for_dict_changed : Expr → Run Trail Finding
value_for_dict_changed = value_of recorder program_for_dict_changed

abbrev means_for_dict_changed : Stmt → Run Trail Finding
means_for_dict_changed = means recorder program_for_dict_changed

abbrev for_dict_changed_0_seen_1 : Trail
for_dict_changed_0_seen_1 = began 0 ∷ began 1 ∷ began 2 ∷ began 3 ∷ began 4 ∷ began 5 ∷ began 6 ∷ began 7 ∷ began 8 ∷ Decided (node 7) (j.Plain true) true ∷ began 9 ∷ began 10 ∷ began 11 ∷ began 12 ∷ began 15 ∷ began 13 ∷ began 14 ∷ []

abbrev for_dict_changed_0_seen_2 : Trail
for_dict_changed_0_seen_2 = began 0 ∷ began 1 ∷ began 2 ∷ began 3 ∷ began 4 ∷ began 5 ∷ began 6 ∷ began 7 ∷ began 8 ∷ Decided (node 7) (j.Plain true) true ∷ began 9 ∷ began 10 ∷ began 11 ∷ []

abbrev for_dict_changed_0_seen_3 : Trail
for_dict_changed_0_seen_3 = began 0 ∷ began 1 ∷ began 2 ∷ began 3 ∷ began 4 ∷ began 5 ∷ began 6 ∷ began 7 ∷ began 8 ∷ Decided (node 7) (j.Plain true) true ∷ []

abbrev for_dict_changed_0_seen_4 : Trail
for_dict_changed_0_seen_4 = began 0 ∷ began 1 ∷ began 2 ∷ began 3 ∷ began 4 ∷ began 5 ∷ began 6 ∷ began 7 ∷ began 8 ∷ []

abbrev for_dict_changed_0_seen_5 : Trail
for_dict_changed_0_seen_5 = began 0 ∷ began 1 ∷ began 2 ∷ began 3 ∷ began 4 ∷ began 5 ∷ began 6 ∷ []

abbrev for_dict_changed_0_at_1 : State World Trail
for_dict_changed_0_at_1 = state_for_dict_changed (Some (func_id 0)) (((codes "d"), (ref 0)) ∷ ((codes "k"), (v.Int (pos 1))) ∷ []) [] (object.Dict (((v.Int (pos 3)), (v.Int (pos 4))) ∷ ((v.Int (pos 9)), (v.Int (pos 1))) ∷ []) 4 ∷ []) 1 274 for_dict_changed_0_seen_1

abbrev for_dict_changed_0_at_2 : State World Trail
for_dict_changed_0_at_2 = state_for_dict_changed (Some (func_id 0)) (((codes "d"), (ref 0)) ∷ []) [] (object.Dict (((v.Int (pos 1)), (v.Int (pos 2))) ∷ ((v.Int (pos 3)), (v.Int (pos 4))) ∷ []) 2 ∷ []) 1 286 for_dict_changed_0_seen_4

abbrev for_dict_changed_0_at_3 : State World Trail
for_dict_changed_0_at_3 = state_for_dict_changed (Some (func_id 0)) (((codes "d"), (ref 0)) ∷ []) [] (object.Dict (((v.Int (pos 1)), (v.Int (pos 2))) ∷ ((v.Int (pos 3)), (v.Int (pos 4))) ∷ []) 2 ∷ []) 1 285 for_dict_changed_0_seen_4

abbrev for_dict_changed_0_at_4 : State World Trail
for_dict_changed_0_at_4 = state_for_dict_changed None [] [] (object.Dict (((v.Int (pos 3)), (v.Int (pos 4))) ∷ ((v.Int (pos 9)), (v.Int (pos 1))) ∷ []) 4 ∷ []) 0 274 for_dict_changed_0_seen_1

pub for_dict_changed_0 : Yields (means_for_dict_changed for_dict_changed_t3) (state_for_dict_changed None [] [] [] 0 300 []) ((Err (Left construct.DictChanged)), for_dict_changed_0_at_4)
unfolding equal ordered
for_dict_changed_0 =
    stmt_node recorder program_for_dict_changed for_dict_changed_t3 299 (y.outs-Assign ((target.Name (codes "var_8")) ∷ []) false None for_dict_changed_t2) refl (then_err (value_for_dict_changed for_dict_changed_t2) _ (Left construct.DictChanged) for_dict_changed_0_at_4 (expr_node recorder program_for_dict_changed for_dict_changed_t2 298 (x.outs-Method for_dict_changed_t1 (codes "f") (args [] [])) refl (then_ok (value_for_dict_changed for_dict_changed_t1) _ (v.ModuleRef, (j.Plain true)) (state_for_dict_changed None [] [] [] 0 297 []) (expr_node recorder program_for_dict_changed for_dict_changed_t1 297 (x.outs-Name (codes "module_0")) refl (leaf (simp views))) (then_ok (finds program_for_dict_changed v.ModuleRef (codes "f")) _ (callee.Value (v.Func (func_id 0))) (state_for_dict_changed None [] [] [] 0 297 []) (leaf (first_of (simp views, simp tuples, search))) (as_run (plain_arguments recorder program_for_dict_changed (value_for_dict_changed) (means_for_dict_changed) (callee.Value (v.Func (func_id 0))) [] [] []) (ap (λ args. plain_arguments recorder program_for_dict_changed (value_for_dict_changed) (means_for_dict_changed) (callee.Value (v.Func (func_id 0))) [] args.plain args.named (state_for_dict_changed None [] [] [] 0 297 [])) (out-roll-Args _)) (as_run (calls_function recorder program_for_dict_changed (means_for_dict_changed) (func_id 0) [] []) (ap (λ level. calls_value recorder program_for_dict_changed (means_for_dict_changed) level [] [] (state_for_dict_changed None [] [] [] 0 297 [])) (outs-Func _)) (as_run (inside recorder program_for_dict_changed (means_for_dict_changed) (func_id 0) function_for_dict_changed_0 []) (let same : calls_function recorder program_for_dict_changed (means_for_dict_changed) (func_id 0) [] [] (state_for_dict_changed None [] [] [] 0 297 []) ≡ inside recorder program_for_dict_changed (means_for_dict_changed) (func_id 0) function_for_dict_changed_0 [] (state_for_dict_changed None [] [] [] 0 297 []) = refl in same) (gives_same (leaves (state_for_dict_changed None [] [] [] 0 297 []).frame ((Err (Left construct.DictChanged)), for_dict_changed_0_at_1)) (in_frame recorder program_for_dict_changed (func_id 0) function_for_dict_changed_0 [] (Err (Left construct.DictChanged)) for_dict_changed_0_at_1 (then_ok (begins recorder (node 0)) _ tt (state_for_dict_changed (Some (func_id 0)) [] [] [] 1 296 (began 0 ∷ [])) (leaf refl) (then_ok (means_for_dict_changed for_dict_changed_n1) _ (v.None, (j.Plain false)) (state_for_dict_changed (Some (func_id 0)) (((codes "d"), (ref 0)) ∷ []) [] (object.Dict (((v.Int (pos 1)), (v.Int (pos 2))) ∷ ((v.Int (pos 3)), (v.Int (pos 4))) ∷ []) 2 ∷ []) 1 288 for_dict_changed_0_seen_5) (stmt_node recorder program_for_dict_changed for_dict_changed_n1 295 (y.outs-Assign ((target.Name (codes "d")) ∷ []) false None for_dict_changed_n2) refl (then_ok (value_for_dict_changed for_dict_changed_n2) _ ((ref 0), (j.Plain true)) (state_for_dict_changed (Some (func_id 0)) [] [] (object.Dict (((v.Int (pos 1)), (v.Int (pos 2))) ∷ ((v.Int (pos 3)), (v.Int (pos 4))) ∷ []) 2 ∷ []) 1 288 for_dict_changed_0_seen_5) (expr_node recorder program_for_dict_changed for_dict_changed_n2 294 (x.outs-DictLit ((for_dict_changed_n3, for_dict_changed_n4) ∷ (for_dict_changed_n5, for_dict_changed_n6) ∷ [])) refl (then_ok (value_for_dict_changed for_dict_changed_n3) _ ((v.Int (pos 1)), (j.Plain true)) (state_for_dict_changed (Some (func_id 0)) [] [] [] 1 293 (began 0 ∷ began 1 ∷ began 2 ∷ began 3 ∷ [])) (expr_node recorder program_for_dict_changed for_dict_changed_n3 293 (x.outs-IntLit (pos 1)) refl (leaf (simp views))) (then_ok (value_for_dict_changed for_dict_changed_n4) _ ((v.Int (pos 2)), (j.Plain true)) (state_for_dict_changed (Some (func_id 0)) [] [] [] 1 292 (began 0 ∷ began 1 ∷ began 2 ∷ began 3 ∷ began 4 ∷ [])) (expr_node recorder program_for_dict_changed for_dict_changed_n4 292 (x.outs-IntLit (pos 2)) refl (leaf (simp views))) (then_ok (value_for_dict_changed for_dict_changed_n5) _ ((v.Int (pos 3)), (j.Plain true)) (state_for_dict_changed (Some (func_id 0)) [] [] [] 1 291 (began 0 ∷ began 1 ∷ began 2 ∷ began 3 ∷ began 4 ∷ began 5 ∷ [])) (expr_node recorder program_for_dict_changed for_dict_changed_n5 291 (x.outs-IntLit (pos 3)) refl (leaf (simp views))) (then_ok (value_for_dict_changed for_dict_changed_n6) _ ((v.Int (pos 4)), (j.Plain true)) (state_for_dict_changed (Some (func_id 0)) [] [] [] 1 290 for_dict_changed_0_seen_5) (expr_node recorder program_for_dict_changed for_dict_changed_n6 290 (x.outs-IntLit (pos 4)) refl (leaf (simp views))) (leaf (first_of (simp views, simp tuples, search)))))))) (leaf refl))) (then_err (means_for_dict_changed for_dict_changed_n7) _ (Left construct.DictChanged) for_dict_changed_0_at_1 (stmt_node recorder program_for_dict_changed for_dict_changed_n7 287 (y.outs-For ((codes "k") ∷ []) false for_dict_changed_n8 (for_dict_changed_n9 ∷ for_dict_changed_n12 ∷ [])) refl (then_ok (value_for_dict_changed for_dict_changed_n8) _ ((ref 0), (j.Plain true)) for_dict_changed_0_at_2 (expr_node recorder program_for_dict_changed for_dict_changed_n8 286 (x.outs-Name (codes "d")) refl (leaf (simp views))) (as_run (for_walk recorder program_for_dict_changed (value_for_dict_changed) (means_for_dict_changed) (node 7) ((codes "k") ∷ []) false (for_dict_changed_n9 ∷ for_dict_changed_n12 ∷ []) (walk_at (ref 0) 2 2 0)) (ap (λ level. (if is_walked (object.Dict (((v.Int (pos 1)), (v.Int (pos 2))) ∷ ((v.Int (pos 3)), (v.Int (pos 4))) ∷ []) 2 ∷ []) level then for_walk recorder program_for_dict_changed (value_for_dict_changed) (means_for_dict_changed) (node 7) ((codes "k") ∷ []) false (for_dict_changed_n9 ∷ for_dict_changed_n12 ∷ []) (walk_at (ref 0) (size_at (object.Dict (((v.Int (pos 1)), (v.Int (pos 2))) ∷ ((v.Int (pos 3)), (v.Int (pos 4))) ∷ []) 2 ∷ []) (dict_walked (object.Dict (((v.Int (pos 1)), (v.Int (pos 2))) ∷ ((v.Int (pos 3)), (v.Int (pos 4))) ∷ []) 2 ∷ []) level)) (changes_at (object.Dict (((v.Int (pos 1)), (v.Int (pos 2))) ∷ ((v.Int (pos 3)), (v.Int (pos 4))) ∷ []) 2 ∷ []) (dict_walked (object.Dict (((v.Int (pos 1)), (v.Int (pos 2))) ∷ ((v.Int (pos 3)), (v.Int (pos 4))) ∷ []) 2 ∷ []) level)) 0) else raises built.TypeError) for_dict_changed_0_at_2) (v.outs-Ref _)) (as_run (for_turn recorder program_for_dict_changed (value_for_dict_changed) (means_for_dict_changed) (node 7) (λ next. for_walk recorder program_for_dict_changed (value_for_dict_changed) (means_for_dict_changed) (node 7) ((codes "k") ∷ []) false (for_dict_changed_n9 ∷ for_dict_changed_n12 ∷ []) next) ((codes "k") ∷ []) false (for_dict_changed_n9 ∷ for_dict_changed_n12 ∷ []) (walk_at (ref 0) 2 2 0)) (for_walk-out recorder program_for_dict_changed (node 7) ((codes "k") ∷ []) false (for_dict_changed_n9 ∷ for_dict_changed_n12 ∷ []) (walk_at (ref 0) 2 2 0) for_dict_changed_0_at_2) (then_ok (checks (walk_at (ref 0) 2 2 0)) _ tt for_dict_changed_0_at_2 (leaf (first_of (simp views, simp tuples, search))) (as_run (for_element recorder program_for_dict_changed (value_for_dict_changed) (means_for_dict_changed) (node 7) (λ next. for_walk recorder program_for_dict_changed (value_for_dict_changed) (means_for_dict_changed) (node 7) ((codes "k") ∷ []) false (for_dict_changed_n9 ∷ for_dict_changed_n12 ∷ []) next) ((codes "k") ∷ []) false (for_dict_changed_n9 ∷ for_dict_changed_n12 ∷ []) (walk_at (ref 0) 2 2 0) (Some (v.Int (pos 1)))) (ap (λ level. for_element recorder program_for_dict_changed (value_for_dict_changed) (means_for_dict_changed) (node 7) (λ next. for_walk recorder program_for_dict_changed (value_for_dict_changed) (means_for_dict_changed) (node 7) ((codes "k") ∷ []) false (for_dict_changed_n9 ∷ for_dict_changed_n12 ∷ []) next) ((codes "k") ∷ []) false (for_dict_changed_n9 ∷ for_dict_changed_n12 ∷ []) (walk_at (ref 0) 2 2 0) (element_at (object.Dict (((v.Int (pos 1)), (v.Int (pos 2))) ∷ ((v.Int (pos 3)), (v.Int (pos 4))) ∷ []) 2 ∷ []) level 0) for_dict_changed_0_at_2) (v.outs-Ref _)) (then_ok (takes 1) (λ _. takes_element recorder program_for_dict_changed (node 7) ((codes "k") ∷ []) false (for_dict_changed_n9 ∷ for_dict_changed_n12 ∷ []) (for_walk recorder program_for_dict_changed (value_for_dict_changed) (means_for_dict_changed) (node 7) ((codes "k") ∷ []) false (for_dict_changed_n9 ∷ for_dict_changed_n12 ∷ []) (walk_at (ref 0) 2 2 1)) (walk_at (ref 0) 2 2 0) (v.Int (pos 1))) tt for_dict_changed_0_at_3 (leaf refl) (then_ok (makes_element (gives_new_tuples (out-Value (ref 0))) (v.Int (pos 1))) (λ _. decides recorder (node 7) (j.Plain true) true >> (binds_names false ((codes "k") ∷ []) (v.Int (pos 1)) >> (after_end (block recorder program_for_dict_changed (means_for_dict_changed) (for_dict_changed_n9 ∷ for_dict_changed_n12 ∷ [])) (after_turn (for_walk recorder program_for_dict_changed (value_for_dict_changed) (means_for_dict_changed) (node 7) ((codes "k") ∷ []) false (for_dict_changed_n9 ∷ for_dict_changed_n12 ∷ []) (walk_at (ref 0) 2 2 1)))))) tt for_dict_changed_0_at_3 (leaf (first_of (simp views, simp tuples, search))) (then_ok (decides recorder (node 7) (j.Plain true) true) (λ _. binds_names false ((codes "k") ∷ []) (v.Int (pos 1)) >> (after_end (block recorder program_for_dict_changed (means_for_dict_changed) (for_dict_changed_n9 ∷ for_dict_changed_n12 ∷ [])) (after_turn (for_walk recorder program_for_dict_changed (value_for_dict_changed) (means_for_dict_changed) (node 7) ((codes "k") ∷ []) false (for_dict_changed_n9 ∷ for_dict_changed_n12 ∷ []) (walk_at (ref 0) 2 2 1))))) tt (state_for_dict_changed (Some (func_id 0)) (((codes "d"), (ref 0)) ∷ []) [] (object.Dict (((v.Int (pos 1)), (v.Int (pos 2))) ∷ ((v.Int (pos 3)), (v.Int (pos 4))) ∷ []) 2 ∷ []) 1 285 for_dict_changed_0_seen_3) (leaf refl) (then_ok (binds_names false ((codes "k") ∷ []) (v.Int (pos 1))) (λ _. (after_end (block recorder program_for_dict_changed (means_for_dict_changed) (for_dict_changed_n9 ∷ for_dict_changed_n12 ∷ [])) (after_turn (for_walk recorder program_for_dict_changed (value_for_dict_changed) (means_for_dict_changed) (node 7) ((codes "k") ∷ []) false (for_dict_changed_n9 ∷ for_dict_changed_n12 ∷ []) (walk_at (ref 0) 2 2 1))))) (v.None, (j.Plain false)) (state_for_dict_changed (Some (func_id 0)) (((codes "d"), (ref 0)) ∷ ((codes "k"), (v.Int (pos 1))) ∷ []) [] (object.Dict (((v.Int (pos 1)), (v.Int (pos 2))) ∷ ((v.Int (pos 3)), (v.Int (pos 4))) ∷ []) 2 ∷ []) 1 285 for_dict_changed_0_seen_3) (leaf (first_of (simp views, simp tuples, search))) (then_after (block recorder program_for_dict_changed (means_for_dict_changed) (for_dict_changed_n9 ∷ for_dict_changed_n12 ∷ [])) (after_turn (for_walk recorder program_for_dict_changed (value_for_dict_changed) (means_for_dict_changed) (node 7) ((codes "k") ∷ []) false (for_dict_changed_n9 ∷ for_dict_changed_n12 ∷ []) (walk_at (ref 0) 2 2 1))) (Ok (v.None, (j.Plain false))) for_dict_changed_0_at_1 (then_ok (means_for_dict_changed for_dict_changed_n9) _ (v.None, (j.Plain false)) (state_for_dict_changed (Some (func_id 0)) (((codes "d"), (ref 0)) ∷ ((codes "k"), (v.Int (pos 1))) ∷ []) [] (object.Dict (((v.Int (pos 3)), (v.Int (pos 4))) ∷ []) 3 ∷ []) 1 279 for_dict_changed_0_seen_2) (stmt_node recorder program_for_dict_changed for_dict_changed_n9 284 (y.outs-Del for_dict_changed_n10 for_dict_changed_n11) refl (then_ok (value_for_dict_changed for_dict_changed_n10) _ ((ref 0), (j.Plain true)) (state_for_dict_changed (Some (func_id 0)) (((codes "d"), (ref 0)) ∷ ((codes "k"), (v.Int (pos 1))) ∷ []) [] (object.Dict (((v.Int (pos 1)), (v.Int (pos 2))) ∷ ((v.Int (pos 3)), (v.Int (pos 4))) ∷ []) 2 ∷ []) 1 283 (began 0 ∷ began 1 ∷ began 2 ∷ began 3 ∷ began 4 ∷ began 5 ∷ began 6 ∷ began 7 ∷ began 8 ∷ Decided (node 7) (j.Plain true) true ∷ began 9 ∷ began 10 ∷ [])) (expr_node recorder program_for_dict_changed for_dict_changed_n10 283 (x.outs-Name (codes "d")) refl (leaf (simp views))) (then_ok (value_for_dict_changed for_dict_changed_n11) _ ((v.Int (pos 1)), (j.Plain true)) (state_for_dict_changed (Some (func_id 0)) (((codes "d"), (ref 0)) ∷ ((codes "k"), (v.Int (pos 1))) ∷ []) [] (object.Dict (((v.Int (pos 1)), (v.Int (pos 2))) ∷ ((v.Int (pos 3)), (v.Int (pos 4))) ∷ []) 2 ∷ []) 1 282 for_dict_changed_0_seen_2) (expr_node recorder program_for_dict_changed for_dict_changed_n11 282 (x.outs-Name (codes "k")) refl (leaf (simp views))) (leaf (first_of (simp views, simp tuples, search)))))) (then_ok (means_for_dict_changed for_dict_changed_n12) _ (v.None, (j.Plain false)) for_dict_changed_0_at_1 (stmt_node recorder program_for_dict_changed for_dict_changed_n12 278 (y.outs-Assign ((target.Index for_dict_changed_n13 for_dict_changed_n14) ∷ []) false None for_dict_changed_n15) refl (then_ok (value_for_dict_changed for_dict_changed_n15) _ ((v.Int (pos 1)), (j.Plain true)) (state_for_dict_changed (Some (func_id 0)) (((codes "d"), (ref 0)) ∷ ((codes "k"), (v.Int (pos 1))) ∷ []) [] (object.Dict (((v.Int (pos 3)), (v.Int (pos 4))) ∷ []) 3 ∷ []) 1 277 (began 0 ∷ began 1 ∷ began 2 ∷ began 3 ∷ began 4 ∷ began 5 ∷ began 6 ∷ began 7 ∷ began 8 ∷ Decided (node 7) (j.Plain true) true ∷ began 9 ∷ began 10 ∷ began 11 ∷ began 12 ∷ began 15 ∷ [])) (expr_node recorder program_for_dict_changed for_dict_changed_n15 277 (x.outs-IntLit (pos 1)) refl (leaf (simp views))) (then_ok (stores program_for_dict_changed (value_for_dict_changed) (target.Index for_dict_changed_n13 for_dict_changed_n14) (v.Int (pos 1))) _ (v.None, (j.Plain false)) for_dict_changed_0_at_1 (then_ok (value_for_dict_changed for_dict_changed_n13) _ ((ref 0), (j.Plain true)) (state_for_dict_changed (Some (func_id 0)) (((codes "d"), (ref 0)) ∷ ((codes "k"), (v.Int (pos 1))) ∷ []) [] (object.Dict (((v.Int (pos 3)), (v.Int (pos 4))) ∷ []) 3 ∷ []) 1 276 (began 0 ∷ began 1 ∷ began 2 ∷ began 3 ∷ began 4 ∷ began 5 ∷ began 6 ∷ began 7 ∷ began 8 ∷ Decided (node 7) (j.Plain true) true ∷ began 9 ∷ began 10 ∷ began 11 ∷ began 12 ∷ began 15 ∷ began 13 ∷ [])) (expr_node recorder program_for_dict_changed for_dict_changed_n13 276 (x.outs-Name (codes "d")) refl (leaf (simp views))) (then_ok (value_for_dict_changed for_dict_changed_n14) _ ((v.Int (pos 9)), (j.Plain true)) (state_for_dict_changed (Some (func_id 0)) (((codes "d"), (ref 0)) ∷ ((codes "k"), (v.Int (pos 1))) ∷ []) [] (object.Dict (((v.Int (pos 3)), (v.Int (pos 4))) ∷ []) 3 ∷ []) 1 275 for_dict_changed_0_seen_1) (expr_node recorder program_for_dict_changed for_dict_changed_n14 275 (x.outs-IntLit (pos 9)) refl (leaf (simp views))) (leaf (first_of (simp views, simp tuples, search))))) (leaf refl)))) (leaf refl))) (as_run (for_turn recorder program_for_dict_changed (value_for_dict_changed) (means_for_dict_changed) (node 7) (λ next. for_walk recorder program_for_dict_changed (value_for_dict_changed) (means_for_dict_changed) (node 7) ((codes "k") ∷ []) false (for_dict_changed_n9 ∷ for_dict_changed_n12 ∷ []) next) ((codes "k") ∷ []) false (for_dict_changed_n9 ∷ for_dict_changed_n12 ∷ []) (walk_at (ref 0) 2 2 1)) (for_walk-out recorder program_for_dict_changed (node 7) ((codes "k") ∷ []) false (for_dict_changed_n9 ∷ for_dict_changed_n12 ∷ []) (walk_at (ref 0) 2 2 1) for_dict_changed_0_at_1) (then_err (checks (walk_at (ref 0) 2 2 1)) _ (Left construct.DictChanged) for_dict_changed_0_at_1 (leaf (first_of (simp views, simp tuples, search)))))))))))))))))))) (refl)))))))))

abbrev value_for_empty : Expr → Run Trail Finding
value_for_empty = value_of recorder program_for_empty

abbrev means_for_empty : Stmt → Run Trail Finding
means_for_empty = means recorder program_for_empty

abbrev for_empty_0_seen_1 : Trail
for_empty_0_seen_1 = began 0 ∷ began 1 ∷ began 2 ∷ Decided (node 1) (j.Plain false) false ∷ began 4 ∷ began 5 ∷ []

abbrev for_empty_0_seen_2 : Trail
for_empty_0_seen_2 = began 0 ∷ began 1 ∷ began 2 ∷ Decided (node 1) (j.Plain false) false ∷ []

abbrev for_empty_0_at_1 : State World Trail
for_empty_0_at_1 = state_for_empty (Some (func_id 0)) [] [] [] 1 294 (began 0 ∷ began 1 ∷ began 2 ∷ [])

abbrev for_empty_0_at_2 : State World Trail
for_empty_0_at_2 = state_for_empty (Some (func_id 0)) [] [] [] 1 292 for_empty_0_seen_1

abbrev for_empty_0_at_3 : State World Trail
for_empty_0_at_3 = state_for_empty (Some (func_id 0)) [] [] [] 1 294 for_empty_0_seen_2

pub for_empty_0 : Yields (means_for_empty for_empty_t3) (state_for_empty None [] [] [] 0 300 []) ((Ok (v.None, (j.Plain false))), (state_for_empty None (((codes "var_8"), (v.Int (pos 1))) ∷ []) [] [] 0 292 for_empty_0_seen_1))
unfolding equal ordered
for_empty_0 =
    stmt_node recorder program_for_empty for_empty_t3 299 (y.outs-Assign ((target.Name (codes "var_8")) ∷ []) false None for_empty_t2) refl (then_ok (value_for_empty for_empty_t2) _ ((v.Int (pos 1)), (j.Plain true)) (state_for_empty None [] [] [] 0 292 for_empty_0_seen_1) (expr_node recorder program_for_empty for_empty_t2 298 (x.outs-Method for_empty_t1 (codes "f") (args [] [])) refl (then_ok (value_for_empty for_empty_t1) _ (v.ModuleRef, (j.Plain true)) (state_for_empty None [] [] [] 0 297 []) (expr_node recorder program_for_empty for_empty_t1 297 (x.outs-Name (codes "module_0")) refl (leaf (simp views))) (then_ok (finds program_for_empty v.ModuleRef (codes "f")) _ (callee.Value (v.Func (func_id 0))) (state_for_empty None [] [] [] 0 297 []) (leaf (first_of (simp views, simp tuples, search))) (as_run (plain_arguments recorder program_for_empty (value_for_empty) (means_for_empty) (callee.Value (v.Func (func_id 0))) [] [] []) (ap (λ args. plain_arguments recorder program_for_empty (value_for_empty) (means_for_empty) (callee.Value (v.Func (func_id 0))) [] args.plain args.named (state_for_empty None [] [] [] 0 297 [])) (out-roll-Args _)) (as_run (calls_function recorder program_for_empty (means_for_empty) (func_id 0) [] []) (ap (λ level. calls_value recorder program_for_empty (means_for_empty) level [] [] (state_for_empty None [] [] [] 0 297 [])) (outs-Func _)) (as_run (inside recorder program_for_empty (means_for_empty) (func_id 0) function_for_empty_0 []) (let same : calls_function recorder program_for_empty (means_for_empty) (func_id 0) [] [] (state_for_empty None [] [] [] 0 297 []) ≡ inside recorder program_for_empty (means_for_empty) (func_id 0) function_for_empty_0 [] (state_for_empty None [] [] [] 0 297 []) = refl in same) (gives_same (leaves (state_for_empty None [] [] [] 0 297 []).frame ((Err (Returned (v.Int (pos 1)))), for_empty_0_at_2)) (in_frame recorder program_for_empty (func_id 0) function_for_empty_0 [] (Err (Returned (v.Int (pos 1)))) for_empty_0_at_2 (then_ok (begins recorder (node 0)) _ tt (state_for_empty (Some (func_id 0)) [] [] [] 1 296 (began 0 ∷ [])) (leaf refl) (then_ok (means_for_empty for_empty_n1) _ (v.None, (j.Plain false)) for_empty_0_at_3 (stmt_node recorder program_for_empty for_empty_n1 295 (y.outs-For ((codes "c") ∷ []) false for_empty_n2 (for_empty_n3 ∷ [])) refl (then_ok (value_for_empty for_empty_n2) _ ((v.Str []), (j.Plain false)) for_empty_0_at_1 (expr_node recorder program_for_empty for_empty_n2 294 (x.outs-StrLit []) refl (leaf (simp views))) (as_run (for_walk recorder program_for_empty (value_for_empty) (means_for_empty) (node 1) ((codes "c") ∷ []) false (for_empty_n3 ∷ []) (walk_at (v.Str []) 0 0 0)) (ap (λ level. (if is_walked [] level then for_walk recorder program_for_empty (value_for_empty) (means_for_empty) (node 1) ((codes "c") ∷ []) false (for_empty_n3 ∷ []) (walk_at (v.Str []) (size_at [] (dict_walked [] level)) (changes_at [] (dict_walked [] level)) 0) else raises built.TypeError) for_empty_0_at_1) (v.outs-Str _)) (as_run (for_turn recorder program_for_empty (value_for_empty) (means_for_empty) (node 1) (λ next. for_walk recorder program_for_empty (value_for_empty) (means_for_empty) (node 1) ((codes "c") ∷ []) false (for_empty_n3 ∷ []) next) ((codes "c") ∷ []) false (for_empty_n3 ∷ []) (walk_at (v.Str []) 0 0 0)) (for_walk-out recorder program_for_empty (node 1) ((codes "c") ∷ []) false (for_empty_n3 ∷ []) (walk_at (v.Str []) 0 0 0) for_empty_0_at_1) (then_ok (checks (walk_at (v.Str []) 0 0 0)) _ tt for_empty_0_at_1 (leaf (first_of (simp views, simp tuples, search))) (as_run (for_element recorder program_for_empty (value_for_empty) (means_for_empty) (node 1) (λ next. for_walk recorder program_for_empty (value_for_empty) (means_for_empty) (node 1) ((codes "c") ∷ []) false (for_empty_n3 ∷ []) next) ((codes "c") ∷ []) false (for_empty_n3 ∷ []) (walk_at (v.Str []) 0 0 0) None) (ap (λ level. for_element recorder program_for_empty (value_for_empty) (means_for_empty) (node 1) (λ next. for_walk recorder program_for_empty (value_for_empty) (means_for_empty) (node 1) ((codes "c") ∷ []) false (for_empty_n3 ∷ []) next) ((codes "c") ∷ []) false (for_empty_n3 ∷ []) (walk_at (v.Str []) 0 0 0) (element_at [] level 0) for_empty_0_at_1) (v.outs-Str _)) (then_ok (decides recorder (node 1) (j.Plain false) false) (λ _. passes) tt for_empty_0_at_3 (leaf refl) (leaf refl)))))))) (then_err (means_for_empty for_empty_n4) _ (Returned (v.Int (pos 1))) for_empty_0_at_2 (stmt_node recorder program_for_empty for_empty_n4 293 (y.outs-Return (Some for_empty_n5)) refl (then_ok (value_for_empty for_empty_n5) _ ((v.Int (pos 1)), (j.Plain true)) for_empty_0_at_2 (expr_node recorder program_for_empty for_empty_n5 292 (x.outs-IntLit (pos 1)) refl (leaf (simp views))) (leaf refl))))))) (simp views)))))))) (leaf refl))

abbrev value_while_forever : Expr → Run Trail Finding
value_while_forever = value_of recorder program_while_forever

abbrev means_while_forever : Stmt → Run Trail Finding
means_while_forever = means recorder program_while_forever

abbrev while_forever_0_seen_1 : Trail
while_forever_0_seen_1 = began 0 ∷ began 1 ∷ began 2 ∷ Decided (node 2) (j.Plain true) true ∷ began 3 ∷ began 2 ∷ Decided (node 2) (j.Plain true) true ∷ began 3 ∷ began 2 ∷ Decided (node 2) (j.Plain true) true ∷ began 3 ∷ began 2 ∷ Decided (node 2) (j.Plain true) true ∷ began 3 ∷ began 2 ∷ Decided (node 2) (j.Plain true) true ∷ began 3 ∷ began 2 ∷ Decided (node 2) (j.Plain true) true ∷ began 3 ∷ began 2 ∷ Decided (node 2) (j.Plain true) true ∷ began 3 ∷ began 2 ∷ Decided (node 2) (j.Plain true) true ∷ began 3 ∷ began 2 ∷ Decided (node 2) (j.Plain true) true ∷ began 3 ∷ began 2 ∷ Decided (node 2) (j.Plain true) true ∷ began 3 ∷ began 2 ∷ Decided (node 2) (j.Plain true) true ∷ began 3 ∷ began 2 ∷ Decided (node 2) (j.Plain true) true ∷ began 3 ∷ began 2 ∷ Decided (node 2) (j.Plain true) true ∷ began 3 ∷ began 2 ∷ Decided (node 2) (j.Plain true) true ∷ began 3 ∷ began 2 ∷ Decided (node 2) (j.Plain true) true ∷ began 3 ∷ began 2 ∷ Decided (node 2) (j.Plain true) true ∷ began 3 ∷ began 2 ∷ Decided (node 2) (j.Plain true) true ∷ began 3 ∷ began 2 ∷ Decided (node 2) (j.Plain true) true ∷ []

abbrev while_forever_0_seen_2 : Trail
while_forever_0_seen_2 = began 0 ∷ began 1 ∷ began 2 ∷ Decided (node 2) (j.Plain true) true ∷ began 3 ∷ began 2 ∷ Decided (node 2) (j.Plain true) true ∷ began 3 ∷ began 2 ∷ Decided (node 2) (j.Plain true) true ∷ began 3 ∷ began 2 ∷ Decided (node 2) (j.Plain true) true ∷ began 3 ∷ began 2 ∷ Decided (node 2) (j.Plain true) true ∷ began 3 ∷ began 2 ∷ Decided (node 2) (j.Plain true) true ∷ began 3 ∷ began 2 ∷ Decided (node 2) (j.Plain true) true ∷ began 3 ∷ began 2 ∷ Decided (node 2) (j.Plain true) true ∷ began 3 ∷ began 2 ∷ Decided (node 2) (j.Plain true) true ∷ began 3 ∷ began 2 ∷ Decided (node 2) (j.Plain true) true ∷ began 3 ∷ began 2 ∷ Decided (node 2) (j.Plain true) true ∷ began 3 ∷ began 2 ∷ Decided (node 2) (j.Plain true) true ∷ began 3 ∷ began 2 ∷ Decided (node 2) (j.Plain true) true ∷ began 3 ∷ began 2 ∷ Decided (node 2) (j.Plain true) true ∷ began 3 ∷ began 2 ∷ Decided (node 2) (j.Plain true) true ∷ began 3 ∷ began 2 ∷ Decided (node 2) (j.Plain true) true ∷ began 3 ∷ began 2 ∷ Decided (node 2) (j.Plain true) true ∷ began 3 ∷ began 2 ∷ []

abbrev while_forever_0_seen_3 : Trail
while_forever_0_seen_3 = began 0 ∷ began 1 ∷ began 2 ∷ Decided (node 2) (j.Plain true) true ∷ began 3 ∷ began 2 ∷ Decided (node 2) (j.Plain true) true ∷ began 3 ∷ began 2 ∷ Decided (node 2) (j.Plain true) true ∷ began 3 ∷ began 2 ∷ Decided (node 2) (j.Plain true) true ∷ began 3 ∷ began 2 ∷ Decided (node 2) (j.Plain true) true ∷ began 3 ∷ began 2 ∷ Decided (node 2) (j.Plain true) true ∷ began 3 ∷ began 2 ∷ Decided (node 2) (j.Plain true) true ∷ began 3 ∷ began 2 ∷ Decided (node 2) (j.Plain true) true ∷ began 3 ∷ began 2 ∷ Decided (node 2) (j.Plain true) true ∷ began 3 ∷ began 2 ∷ Decided (node 2) (j.Plain true) true ∷ began 3 ∷ began 2 ∷ Decided (node 2) (j.Plain true) true ∷ began 3 ∷ began 2 ∷ Decided (node 2) (j.Plain true) true ∷ began 3 ∷ began 2 ∷ Decided (node 2) (j.Plain true) true ∷ began 3 ∷ began 2 ∷ Decided (node 2) (j.Plain true) true ∷ began 3 ∷ began 2 ∷ Decided (node 2) (j.Plain true) true ∷ began 3 ∷ began 2 ∷ Decided (node 2) (j.Plain true) true ∷ began 3 ∷ began 2 ∷ Decided (node 2) (j.Plain true) true ∷ began 3 ∷ []

abbrev while_forever_0_seen_4 : Trail
while_forever_0_seen_4 = began 0 ∷ began 1 ∷ began 2 ∷ Decided (node 2) (j.Plain true) true ∷ began 3 ∷ began 2 ∷ Decided (node 2) (j.Plain true) true ∷ began 3 ∷ began 2 ∷ Decided (node 2) (j.Plain true) true ∷ began 3 ∷ began 2 ∷ Decided (node 2) (j.Plain true) true ∷ began 3 ∷ began 2 ∷ Decided (node 2) (j.Plain true) true ∷ began 3 ∷ began 2 ∷ Decided (node 2) (j.Plain true) true ∷ began 3 ∷ began 2 ∷ Decided (node 2) (j.Plain true) true ∷ began 3 ∷ began 2 ∷ Decided (node 2) (j.Plain true) true ∷ began 3 ∷ began 2 ∷ Decided (node 2) (j.Plain true) true ∷ began 3 ∷ began 2 ∷ Decided (node 2) (j.Plain true) true ∷ began 3 ∷ began 2 ∷ Decided (node 2) (j.Plain true) true ∷ began 3 ∷ began 2 ∷ Decided (node 2) (j.Plain true) true ∷ began 3 ∷ began 2 ∷ Decided (node 2) (j.Plain true) true ∷ began 3 ∷ began 2 ∷ Decided (node 2) (j.Plain true) true ∷ began 3 ∷ began 2 ∷ Decided (node 2) (j.Plain true) true ∷ began 3 ∷ began 2 ∷ Decided (node 2) (j.Plain true) true ∷ began 3 ∷ began 2 ∷ []

abbrev while_forever_0_seen_5 : Trail
while_forever_0_seen_5 = began 0 ∷ began 1 ∷ began 2 ∷ Decided (node 2) (j.Plain true) true ∷ began 3 ∷ began 2 ∷ Decided (node 2) (j.Plain true) true ∷ began 3 ∷ began 2 ∷ Decided (node 2) (j.Plain true) true ∷ began 3 ∷ began 2 ∷ Decided (node 2) (j.Plain true) true ∷ began 3 ∷ began 2 ∷ Decided (node 2) (j.Plain true) true ∷ began 3 ∷ began 2 ∷ Decided (node 2) (j.Plain true) true ∷ began 3 ∷ began 2 ∷ Decided (node 2) (j.Plain true) true ∷ began 3 ∷ began 2 ∷ Decided (node 2) (j.Plain true) true ∷ began 3 ∷ began 2 ∷ Decided (node 2) (j.Plain true) true ∷ began 3 ∷ began 2 ∷ Decided (node 2) (j.Plain true) true ∷ began 3 ∷ began 2 ∷ Decided (node 2) (j.Plain true) true ∷ began 3 ∷ began 2 ∷ Decided (node 2) (j.Plain true) true ∷ began 3 ∷ began 2 ∷ Decided (node 2) (j.Plain true) true ∷ began 3 ∷ began 2 ∷ Decided (node 2) (j.Plain true) true ∷ began 3 ∷ began 2 ∷ Decided (node 2) (j.Plain true) true ∷ began 3 ∷ began 2 ∷ Decided (node 2) (j.Plain true) true ∷ began 3 ∷ []

abbrev while_forever_0_seen_6 : Trail
while_forever_0_seen_6 = began 0 ∷ began 1 ∷ began 2 ∷ Decided (node 2) (j.Plain true) true ∷ began 3 ∷ began 2 ∷ Decided (node 2) (j.Plain true) true ∷ began 3 ∷ began 2 ∷ Decided (node 2) (j.Plain true) true ∷ began 3 ∷ began 2 ∷ Decided (node 2) (j.Plain true) true ∷ began 3 ∷ began 2 ∷ Decided (node 2) (j.Plain true) true ∷ began 3 ∷ began 2 ∷ Decided (node 2) (j.Plain true) true ∷ began 3 ∷ began 2 ∷ Decided (node 2) (j.Plain true) true ∷ began 3 ∷ began 2 ∷ Decided (node 2) (j.Plain true) true ∷ began 3 ∷ began 2 ∷ Decided (node 2) (j.Plain true) true ∷ began 3 ∷ began 2 ∷ Decided (node 2) (j.Plain true) true ∷ began 3 ∷ began 2 ∷ Decided (node 2) (j.Plain true) true ∷ began 3 ∷ began 2 ∷ Decided (node 2) (j.Plain true) true ∷ began 3 ∷ began 2 ∷ Decided (node 2) (j.Plain true) true ∷ began 3 ∷ began 2 ∷ Decided (node 2) (j.Plain true) true ∷ began 3 ∷ began 2 ∷ Decided (node 2) (j.Plain true) true ∷ began 3 ∷ began 2 ∷ []

abbrev while_forever_0_seen_7 : Trail
while_forever_0_seen_7 = began 0 ∷ began 1 ∷ began 2 ∷ Decided (node 2) (j.Plain true) true ∷ began 3 ∷ began 2 ∷ Decided (node 2) (j.Plain true) true ∷ began 3 ∷ began 2 ∷ Decided (node 2) (j.Plain true) true ∷ began 3 ∷ began 2 ∷ Decided (node 2) (j.Plain true) true ∷ began 3 ∷ began 2 ∷ Decided (node 2) (j.Plain true) true ∷ began 3 ∷ began 2 ∷ Decided (node 2) (j.Plain true) true ∷ began 3 ∷ began 2 ∷ Decided (node 2) (j.Plain true) true ∷ began 3 ∷ began 2 ∷ Decided (node 2) (j.Plain true) true ∷ began 3 ∷ began 2 ∷ Decided (node 2) (j.Plain true) true ∷ began 3 ∷ began 2 ∷ Decided (node 2) (j.Plain true) true ∷ began 3 ∷ began 2 ∷ Decided (node 2) (j.Plain true) true ∷ began 3 ∷ began 2 ∷ Decided (node 2) (j.Plain true) true ∷ began 3 ∷ began 2 ∷ Decided (node 2) (j.Plain true) true ∷ began 3 ∷ began 2 ∷ Decided (node 2) (j.Plain true) true ∷ began 3 ∷ began 2 ∷ Decided (node 2) (j.Plain true) true ∷ began 3 ∷ []

abbrev while_forever_0_seen_8 : Trail
while_forever_0_seen_8 = began 0 ∷ began 1 ∷ began 2 ∷ Decided (node 2) (j.Plain true) true ∷ began 3 ∷ began 2 ∷ Decided (node 2) (j.Plain true) true ∷ began 3 ∷ began 2 ∷ Decided (node 2) (j.Plain true) true ∷ began 3 ∷ began 2 ∷ Decided (node 2) (j.Plain true) true ∷ began 3 ∷ began 2 ∷ Decided (node 2) (j.Plain true) true ∷ began 3 ∷ began 2 ∷ Decided (node 2) (j.Plain true) true ∷ began 3 ∷ began 2 ∷ Decided (node 2) (j.Plain true) true ∷ began 3 ∷ began 2 ∷ Decided (node 2) (j.Plain true) true ∷ began 3 ∷ began 2 ∷ Decided (node 2) (j.Plain true) true ∷ began 3 ∷ began 2 ∷ Decided (node 2) (j.Plain true) true ∷ began 3 ∷ began 2 ∷ Decided (node 2) (j.Plain true) true ∷ began 3 ∷ began 2 ∷ Decided (node 2) (j.Plain true) true ∷ began 3 ∷ began 2 ∷ Decided (node 2) (j.Plain true) true ∷ began 3 ∷ began 2 ∷ Decided (node 2) (j.Plain true) true ∷ began 3 ∷ began 2 ∷ []

abbrev while_forever_0_seen_9 : Trail
while_forever_0_seen_9 = began 0 ∷ began 1 ∷ began 2 ∷ Decided (node 2) (j.Plain true) true ∷ began 3 ∷ began 2 ∷ Decided (node 2) (j.Plain true) true ∷ began 3 ∷ began 2 ∷ Decided (node 2) (j.Plain true) true ∷ began 3 ∷ began 2 ∷ Decided (node 2) (j.Plain true) true ∷ began 3 ∷ began 2 ∷ Decided (node 2) (j.Plain true) true ∷ began 3 ∷ began 2 ∷ Decided (node 2) (j.Plain true) true ∷ began 3 ∷ began 2 ∷ Decided (node 2) (j.Plain true) true ∷ began 3 ∷ began 2 ∷ Decided (node 2) (j.Plain true) true ∷ began 3 ∷ began 2 ∷ Decided (node 2) (j.Plain true) true ∷ began 3 ∷ began 2 ∷ Decided (node 2) (j.Plain true) true ∷ began 3 ∷ began 2 ∷ Decided (node 2) (j.Plain true) true ∷ began 3 ∷ began 2 ∷ Decided (node 2) (j.Plain true) true ∷ began 3 ∷ began 2 ∷ Decided (node 2) (j.Plain true) true ∷ began 3 ∷ began 2 ∷ Decided (node 2) (j.Plain true) true ∷ began 3 ∷ []

abbrev while_forever_0_seen_10 : Trail
while_forever_0_seen_10 = began 0 ∷ began 1 ∷ began 2 ∷ Decided (node 2) (j.Plain true) true ∷ began 3 ∷ began 2 ∷ Decided (node 2) (j.Plain true) true ∷ began 3 ∷ began 2 ∷ Decided (node 2) (j.Plain true) true ∷ began 3 ∷ began 2 ∷ Decided (node 2) (j.Plain true) true ∷ began 3 ∷ began 2 ∷ Decided (node 2) (j.Plain true) true ∷ began 3 ∷ began 2 ∷ Decided (node 2) (j.Plain true) true ∷ began 3 ∷ began 2 ∷ Decided (node 2) (j.Plain true) true ∷ began 3 ∷ began 2 ∷ Decided (node 2) (j.Plain true) true ∷ began 3 ∷ began 2 ∷ Decided (node 2) (j.Plain true) true ∷ began 3 ∷ began 2 ∷ Decided (node 2) (j.Plain true) true ∷ began 3 ∷ began 2 ∷ Decided (node 2) (j.Plain true) true ∷ began 3 ∷ began 2 ∷ Decided (node 2) (j.Plain true) true ∷ began 3 ∷ began 2 ∷ Decided (node 2) (j.Plain true) true ∷ began 3 ∷ began 2 ∷ []

abbrev while_forever_0_seen_11 : Trail
while_forever_0_seen_11 = began 0 ∷ began 1 ∷ began 2 ∷ Decided (node 2) (j.Plain true) true ∷ began 3 ∷ began 2 ∷ Decided (node 2) (j.Plain true) true ∷ began 3 ∷ began 2 ∷ Decided (node 2) (j.Plain true) true ∷ began 3 ∷ began 2 ∷ Decided (node 2) (j.Plain true) true ∷ began 3 ∷ began 2 ∷ Decided (node 2) (j.Plain true) true ∷ began 3 ∷ began 2 ∷ Decided (node 2) (j.Plain true) true ∷ began 3 ∷ began 2 ∷ Decided (node 2) (j.Plain true) true ∷ began 3 ∷ began 2 ∷ Decided (node 2) (j.Plain true) true ∷ began 3 ∷ began 2 ∷ Decided (node 2) (j.Plain true) true ∷ began 3 ∷ began 2 ∷ Decided (node 2) (j.Plain true) true ∷ began 3 ∷ began 2 ∷ Decided (node 2) (j.Plain true) true ∷ began 3 ∷ began 2 ∷ Decided (node 2) (j.Plain true) true ∷ began 3 ∷ began 2 ∷ Decided (node 2) (j.Plain true) true ∷ began 3 ∷ []

abbrev while_forever_0_seen_12 : Trail
while_forever_0_seen_12 = began 0 ∷ began 1 ∷ began 2 ∷ Decided (node 2) (j.Plain true) true ∷ began 3 ∷ began 2 ∷ Decided (node 2) (j.Plain true) true ∷ began 3 ∷ began 2 ∷ Decided (node 2) (j.Plain true) true ∷ began 3 ∷ began 2 ∷ Decided (node 2) (j.Plain true) true ∷ began 3 ∷ began 2 ∷ Decided (node 2) (j.Plain true) true ∷ began 3 ∷ began 2 ∷ Decided (node 2) (j.Plain true) true ∷ began 3 ∷ began 2 ∷ Decided (node 2) (j.Plain true) true ∷ began 3 ∷ began 2 ∷ Decided (node 2) (j.Plain true) true ∷ began 3 ∷ began 2 ∷ Decided (node 2) (j.Plain true) true ∷ began 3 ∷ began 2 ∷ Decided (node 2) (j.Plain true) true ∷ began 3 ∷ began 2 ∷ Decided (node 2) (j.Plain true) true ∷ began 3 ∷ began 2 ∷ Decided (node 2) (j.Plain true) true ∷ began 3 ∷ began 2 ∷ []

abbrev while_forever_0_seen_13 : Trail
while_forever_0_seen_13 = began 0 ∷ began 1 ∷ began 2 ∷ Decided (node 2) (j.Plain true) true ∷ began 3 ∷ began 2 ∷ Decided (node 2) (j.Plain true) true ∷ began 3 ∷ began 2 ∷ Decided (node 2) (j.Plain true) true ∷ began 3 ∷ began 2 ∷ Decided (node 2) (j.Plain true) true ∷ began 3 ∷ began 2 ∷ Decided (node 2) (j.Plain true) true ∷ began 3 ∷ began 2 ∷ Decided (node 2) (j.Plain true) true ∷ began 3 ∷ began 2 ∷ Decided (node 2) (j.Plain true) true ∷ began 3 ∷ began 2 ∷ Decided (node 2) (j.Plain true) true ∷ began 3 ∷ began 2 ∷ Decided (node 2) (j.Plain true) true ∷ began 3 ∷ began 2 ∷ Decided (node 2) (j.Plain true) true ∷ began 3 ∷ began 2 ∷ Decided (node 2) (j.Plain true) true ∷ began 3 ∷ began 2 ∷ Decided (node 2) (j.Plain true) true ∷ began 3 ∷ []

abbrev while_forever_0_seen_14 : Trail
while_forever_0_seen_14 = began 0 ∷ began 1 ∷ began 2 ∷ Decided (node 2) (j.Plain true) true ∷ began 3 ∷ began 2 ∷ Decided (node 2) (j.Plain true) true ∷ began 3 ∷ began 2 ∷ Decided (node 2) (j.Plain true) true ∷ began 3 ∷ began 2 ∷ Decided (node 2) (j.Plain true) true ∷ began 3 ∷ began 2 ∷ Decided (node 2) (j.Plain true) true ∷ began 3 ∷ began 2 ∷ Decided (node 2) (j.Plain true) true ∷ began 3 ∷ began 2 ∷ Decided (node 2) (j.Plain true) true ∷ began 3 ∷ began 2 ∷ Decided (node 2) (j.Plain true) true ∷ began 3 ∷ began 2 ∷ Decided (node 2) (j.Plain true) true ∷ began 3 ∷ began 2 ∷ Decided (node 2) (j.Plain true) true ∷ began 3 ∷ began 2 ∷ Decided (node 2) (j.Plain true) true ∷ began 3 ∷ began 2 ∷ []

abbrev while_forever_0_seen_15 : Trail
while_forever_0_seen_15 = began 0 ∷ began 1 ∷ began 2 ∷ Decided (node 2) (j.Plain true) true ∷ began 3 ∷ began 2 ∷ Decided (node 2) (j.Plain true) true ∷ began 3 ∷ began 2 ∷ Decided (node 2) (j.Plain true) true ∷ began 3 ∷ began 2 ∷ Decided (node 2) (j.Plain true) true ∷ began 3 ∷ began 2 ∷ Decided (node 2) (j.Plain true) true ∷ began 3 ∷ began 2 ∷ Decided (node 2) (j.Plain true) true ∷ began 3 ∷ began 2 ∷ Decided (node 2) (j.Plain true) true ∷ began 3 ∷ began 2 ∷ Decided (node 2) (j.Plain true) true ∷ began 3 ∷ began 2 ∷ Decided (node 2) (j.Plain true) true ∷ began 3 ∷ began 2 ∷ Decided (node 2) (j.Plain true) true ∷ began 3 ∷ began 2 ∷ Decided (node 2) (j.Plain true) true ∷ began 3 ∷ []

abbrev while_forever_0_seen_16 : Trail
while_forever_0_seen_16 = began 0 ∷ began 1 ∷ began 2 ∷ Decided (node 2) (j.Plain true) true ∷ began 3 ∷ began 2 ∷ Decided (node 2) (j.Plain true) true ∷ began 3 ∷ began 2 ∷ Decided (node 2) (j.Plain true) true ∷ began 3 ∷ began 2 ∷ Decided (node 2) (j.Plain true) true ∷ began 3 ∷ began 2 ∷ Decided (node 2) (j.Plain true) true ∷ began 3 ∷ began 2 ∷ Decided (node 2) (j.Plain true) true ∷ began 3 ∷ began 2 ∷ Decided (node 2) (j.Plain true) true ∷ began 3 ∷ began 2 ∷ Decided (node 2) (j.Plain true) true ∷ began 3 ∷ began 2 ∷ Decided (node 2) (j.Plain true) true ∷ began 3 ∷ began 2 ∷ Decided (node 2) (j.Plain true) true ∷ began 3 ∷ began 2 ∷ []

abbrev while_forever_0_seen_17 : Trail
while_forever_0_seen_17 = began 0 ∷ began 1 ∷ began 2 ∷ Decided (node 2) (j.Plain true) true ∷ began 3 ∷ began 2 ∷ Decided (node 2) (j.Plain true) true ∷ began 3 ∷ began 2 ∷ Decided (node 2) (j.Plain true) true ∷ began 3 ∷ began 2 ∷ Decided (node 2) (j.Plain true) true ∷ began 3 ∷ began 2 ∷ Decided (node 2) (j.Plain true) true ∷ began 3 ∷ began 2 ∷ Decided (node 2) (j.Plain true) true ∷ began 3 ∷ began 2 ∷ Decided (node 2) (j.Plain true) true ∷ began 3 ∷ began 2 ∷ Decided (node 2) (j.Plain true) true ∷ began 3 ∷ began 2 ∷ Decided (node 2) (j.Plain true) true ∷ began 3 ∷ began 2 ∷ Decided (node 2) (j.Plain true) true ∷ began 3 ∷ []

abbrev while_forever_0_seen_18 : Trail
while_forever_0_seen_18 = began 0 ∷ began 1 ∷ began 2 ∷ Decided (node 2) (j.Plain true) true ∷ began 3 ∷ began 2 ∷ Decided (node 2) (j.Plain true) true ∷ began 3 ∷ began 2 ∷ Decided (node 2) (j.Plain true) true ∷ began 3 ∷ began 2 ∷ Decided (node 2) (j.Plain true) true ∷ began 3 ∷ began 2 ∷ Decided (node 2) (j.Plain true) true ∷ began 3 ∷ began 2 ∷ Decided (node 2) (j.Plain true) true ∷ began 3 ∷ began 2 ∷ Decided (node 2) (j.Plain true) true ∷ began 3 ∷ began 2 ∷ Decided (node 2) (j.Plain true) true ∷ began 3 ∷ began 2 ∷ Decided (node 2) (j.Plain true) true ∷ began 3 ∷ began 2 ∷ []

abbrev while_forever_0_seen_19 : Trail
while_forever_0_seen_19 = began 0 ∷ began 1 ∷ began 2 ∷ Decided (node 2) (j.Plain true) true ∷ began 3 ∷ began 2 ∷ Decided (node 2) (j.Plain true) true ∷ began 3 ∷ began 2 ∷ Decided (node 2) (j.Plain true) true ∷ began 3 ∷ began 2 ∷ Decided (node 2) (j.Plain true) true ∷ began 3 ∷ began 2 ∷ Decided (node 2) (j.Plain true) true ∷ began 3 ∷ began 2 ∷ Decided (node 2) (j.Plain true) true ∷ began 3 ∷ began 2 ∷ Decided (node 2) (j.Plain true) true ∷ began 3 ∷ began 2 ∷ Decided (node 2) (j.Plain true) true ∷ began 3 ∷ began 2 ∷ Decided (node 2) (j.Plain true) true ∷ began 3 ∷ []

abbrev while_forever_0_seen_20 : Trail
while_forever_0_seen_20 = began 0 ∷ began 1 ∷ began 2 ∷ Decided (node 2) (j.Plain true) true ∷ began 3 ∷ began 2 ∷ Decided (node 2) (j.Plain true) true ∷ began 3 ∷ began 2 ∷ Decided (node 2) (j.Plain true) true ∷ began 3 ∷ began 2 ∷ Decided (node 2) (j.Plain true) true ∷ began 3 ∷ began 2 ∷ Decided (node 2) (j.Plain true) true ∷ began 3 ∷ began 2 ∷ Decided (node 2) (j.Plain true) true ∷ began 3 ∷ began 2 ∷ Decided (node 2) (j.Plain true) true ∷ began 3 ∷ began 2 ∷ Decided (node 2) (j.Plain true) true ∷ began 3 ∷ began 2 ∷ []

abbrev while_forever_0_seen_21 : Trail
while_forever_0_seen_21 = began 0 ∷ began 1 ∷ began 2 ∷ Decided (node 2) (j.Plain true) true ∷ began 3 ∷ began 2 ∷ Decided (node 2) (j.Plain true) true ∷ began 3 ∷ began 2 ∷ Decided (node 2) (j.Plain true) true ∷ began 3 ∷ began 2 ∷ Decided (node 2) (j.Plain true) true ∷ began 3 ∷ began 2 ∷ Decided (node 2) (j.Plain true) true ∷ began 3 ∷ began 2 ∷ Decided (node 2) (j.Plain true) true ∷ began 3 ∷ began 2 ∷ Decided (node 2) (j.Plain true) true ∷ began 3 ∷ began 2 ∷ Decided (node 2) (j.Plain true) true ∷ began 3 ∷ []

abbrev while_forever_0_seen_22 : Trail
while_forever_0_seen_22 = began 0 ∷ began 1 ∷ began 2 ∷ Decided (node 2) (j.Plain true) true ∷ began 3 ∷ began 2 ∷ Decided (node 2) (j.Plain true) true ∷ began 3 ∷ began 2 ∷ Decided (node 2) (j.Plain true) true ∷ began 3 ∷ began 2 ∷ Decided (node 2) (j.Plain true) true ∷ began 3 ∷ began 2 ∷ Decided (node 2) (j.Plain true) true ∷ began 3 ∷ began 2 ∷ Decided (node 2) (j.Plain true) true ∷ began 3 ∷ began 2 ∷ Decided (node 2) (j.Plain true) true ∷ began 3 ∷ began 2 ∷ []

abbrev while_forever_0_seen_23 : Trail
while_forever_0_seen_23 = began 0 ∷ began 1 ∷ began 2 ∷ Decided (node 2) (j.Plain true) true ∷ began 3 ∷ began 2 ∷ Decided (node 2) (j.Plain true) true ∷ began 3 ∷ began 2 ∷ Decided (node 2) (j.Plain true) true ∷ began 3 ∷ began 2 ∷ Decided (node 2) (j.Plain true) true ∷ began 3 ∷ began 2 ∷ Decided (node 2) (j.Plain true) true ∷ began 3 ∷ began 2 ∷ Decided (node 2) (j.Plain true) true ∷ began 3 ∷ began 2 ∷ Decided (node 2) (j.Plain true) true ∷ began 3 ∷ []

abbrev while_forever_0_seen_24 : Trail
while_forever_0_seen_24 = began 0 ∷ began 1 ∷ began 2 ∷ Decided (node 2) (j.Plain true) true ∷ began 3 ∷ began 2 ∷ Decided (node 2) (j.Plain true) true ∷ began 3 ∷ began 2 ∷ Decided (node 2) (j.Plain true) true ∷ began 3 ∷ began 2 ∷ Decided (node 2) (j.Plain true) true ∷ began 3 ∷ began 2 ∷ Decided (node 2) (j.Plain true) true ∷ began 3 ∷ began 2 ∷ Decided (node 2) (j.Plain true) true ∷ began 3 ∷ began 2 ∷ []

abbrev while_forever_0_seen_25 : Trail
while_forever_0_seen_25 = began 0 ∷ began 1 ∷ began 2 ∷ Decided (node 2) (j.Plain true) true ∷ began 3 ∷ began 2 ∷ Decided (node 2) (j.Plain true) true ∷ began 3 ∷ began 2 ∷ Decided (node 2) (j.Plain true) true ∷ began 3 ∷ began 2 ∷ Decided (node 2) (j.Plain true) true ∷ began 3 ∷ began 2 ∷ Decided (node 2) (j.Plain true) true ∷ began 3 ∷ began 2 ∷ Decided (node 2) (j.Plain true) true ∷ began 3 ∷ []

abbrev while_forever_0_seen_26 : Trail
while_forever_0_seen_26 = began 0 ∷ began 1 ∷ began 2 ∷ Decided (node 2) (j.Plain true) true ∷ began 3 ∷ began 2 ∷ Decided (node 2) (j.Plain true) true ∷ began 3 ∷ began 2 ∷ Decided (node 2) (j.Plain true) true ∷ began 3 ∷ began 2 ∷ Decided (node 2) (j.Plain true) true ∷ began 3 ∷ began 2 ∷ Decided (node 2) (j.Plain true) true ∷ began 3 ∷ began 2 ∷ []

abbrev while_forever_0_seen_27 : Trail
while_forever_0_seen_27 = began 0 ∷ began 1 ∷ began 2 ∷ Decided (node 2) (j.Plain true) true ∷ began 3 ∷ began 2 ∷ Decided (node 2) (j.Plain true) true ∷ began 3 ∷ began 2 ∷ Decided (node 2) (j.Plain true) true ∷ began 3 ∷ began 2 ∷ Decided (node 2) (j.Plain true) true ∷ began 3 ∷ began 2 ∷ Decided (node 2) (j.Plain true) true ∷ began 3 ∷ []

abbrev while_forever_0_seen_28 : Trail
while_forever_0_seen_28 = began 0 ∷ began 1 ∷ began 2 ∷ Decided (node 2) (j.Plain true) true ∷ began 3 ∷ began 2 ∷ Decided (node 2) (j.Plain true) true ∷ began 3 ∷ began 2 ∷ Decided (node 2) (j.Plain true) true ∷ began 3 ∷ began 2 ∷ Decided (node 2) (j.Plain true) true ∷ began 3 ∷ began 2 ∷ []

abbrev while_forever_0_seen_29 : Trail
while_forever_0_seen_29 = began 0 ∷ began 1 ∷ began 2 ∷ Decided (node 2) (j.Plain true) true ∷ began 3 ∷ began 2 ∷ Decided (node 2) (j.Plain true) true ∷ began 3 ∷ began 2 ∷ Decided (node 2) (j.Plain true) true ∷ began 3 ∷ began 2 ∷ Decided (node 2) (j.Plain true) true ∷ began 3 ∷ []

abbrev while_forever_0_seen_30 : Trail
while_forever_0_seen_30 = began 0 ∷ began 1 ∷ began 2 ∷ Decided (node 2) (j.Plain true) true ∷ began 3 ∷ began 2 ∷ Decided (node 2) (j.Plain true) true ∷ began 3 ∷ began 2 ∷ Decided (node 2) (j.Plain true) true ∷ began 3 ∷ began 2 ∷ []

abbrev while_forever_0_seen_31 : Trail
while_forever_0_seen_31 = began 0 ∷ began 1 ∷ began 2 ∷ Decided (node 2) (j.Plain true) true ∷ began 3 ∷ began 2 ∷ Decided (node 2) (j.Plain true) true ∷ began 3 ∷ began 2 ∷ Decided (node 2) (j.Plain true) true ∷ began 3 ∷ []

abbrev while_forever_0_seen_32 : Trail
while_forever_0_seen_32 = began 0 ∷ began 1 ∷ began 2 ∷ Decided (node 2) (j.Plain true) true ∷ began 3 ∷ began 2 ∷ Decided (node 2) (j.Plain true) true ∷ began 3 ∷ began 2 ∷ []

abbrev while_forever_0_seen_33 : Trail
while_forever_0_seen_33 = began 0 ∷ began 1 ∷ began 2 ∷ Decided (node 2) (j.Plain true) true ∷ began 3 ∷ began 2 ∷ Decided (node 2) (j.Plain true) true ∷ began 3 ∷ []

abbrev while_forever_0_seen_34 : Trail
while_forever_0_seen_34 = began 0 ∷ began 1 ∷ began 2 ∷ Decided (node 2) (j.Plain true) true ∷ began 3 ∷ began 2 ∷ []

abbrev while_forever_0_seen_35 : Trail
while_forever_0_seen_35 = began 0 ∷ began 1 ∷ began 2 ∷ Decided (node 2) (j.Plain true) true ∷ began 3 ∷ []

abbrev while_forever_0_at_1 : State World Trail
while_forever_0_at_1 = state_while_forever (Some (func_id 0)) [] [] [] 1 34 (began 0 ∷ began 1 ∷ began 2 ∷ [])

abbrev while_forever_0_at_2 : State World Trail
while_forever_0_at_2 = state_while_forever (Some (func_id 0)) [] [] [] 1 33 while_forever_0_seen_35

abbrev while_forever_0_at_3 : State World Trail
while_forever_0_at_3 = state_while_forever (Some (func_id 0)) [] [] [] 1 32 while_forever_0_seen_34

abbrev while_forever_0_at_4 : State World Trail
while_forever_0_at_4 = state_while_forever (Some (func_id 0)) [] [] [] 1 31 while_forever_0_seen_33

abbrev while_forever_0_at_5 : State World Trail
while_forever_0_at_5 = state_while_forever (Some (func_id 0)) [] [] [] 1 30 while_forever_0_seen_32

abbrev while_forever_0_at_6 : State World Trail
while_forever_0_at_6 = state_while_forever (Some (func_id 0)) [] [] [] 1 29 while_forever_0_seen_31

abbrev while_forever_0_at_7 : State World Trail
while_forever_0_at_7 = state_while_forever (Some (func_id 0)) [] [] [] 1 28 while_forever_0_seen_30

abbrev while_forever_0_at_8 : State World Trail
while_forever_0_at_8 = state_while_forever (Some (func_id 0)) [] [] [] 1 27 while_forever_0_seen_29

abbrev while_forever_0_at_9 : State World Trail
while_forever_0_at_9 = state_while_forever (Some (func_id 0)) [] [] [] 1 26 while_forever_0_seen_28

abbrev while_forever_0_at_10 : State World Trail
while_forever_0_at_10 = state_while_forever (Some (func_id 0)) [] [] [] 1 25 while_forever_0_seen_27

abbrev while_forever_0_at_11 : State World Trail
while_forever_0_at_11 = state_while_forever (Some (func_id 0)) [] [] [] 1 24 while_forever_0_seen_26

abbrev while_forever_0_at_12 : State World Trail
while_forever_0_at_12 = state_while_forever (Some (func_id 0)) [] [] [] 1 23 while_forever_0_seen_25

abbrev while_forever_0_at_13 : State World Trail
while_forever_0_at_13 = state_while_forever (Some (func_id 0)) [] [] [] 1 22 while_forever_0_seen_24

abbrev while_forever_0_at_14 : State World Trail
while_forever_0_at_14 = state_while_forever (Some (func_id 0)) [] [] [] 1 21 while_forever_0_seen_23

abbrev while_forever_0_at_15 : State World Trail
while_forever_0_at_15 = state_while_forever (Some (func_id 0)) [] [] [] 1 20 while_forever_0_seen_22

abbrev while_forever_0_at_16 : State World Trail
while_forever_0_at_16 = state_while_forever (Some (func_id 0)) [] [] [] 1 19 while_forever_0_seen_21

abbrev while_forever_0_at_17 : State World Trail
while_forever_0_at_17 = state_while_forever (Some (func_id 0)) [] [] [] 1 18 while_forever_0_seen_20

abbrev while_forever_0_at_18 : State World Trail
while_forever_0_at_18 = state_while_forever (Some (func_id 0)) [] [] [] 1 17 while_forever_0_seen_19

abbrev while_forever_0_at_19 : State World Trail
while_forever_0_at_19 = state_while_forever (Some (func_id 0)) [] [] [] 1 16 while_forever_0_seen_18

abbrev while_forever_0_at_20 : State World Trail
while_forever_0_at_20 = state_while_forever (Some (func_id 0)) [] [] [] 1 15 while_forever_0_seen_17

abbrev while_forever_0_at_21 : State World Trail
while_forever_0_at_21 = state_while_forever (Some (func_id 0)) [] [] [] 1 14 while_forever_0_seen_16

abbrev while_forever_0_at_22 : State World Trail
while_forever_0_at_22 = state_while_forever (Some (func_id 0)) [] [] [] 1 13 while_forever_0_seen_15

abbrev while_forever_0_at_23 : State World Trail
while_forever_0_at_23 = state_while_forever (Some (func_id 0)) [] [] [] 1 12 while_forever_0_seen_14

abbrev while_forever_0_at_24 : State World Trail
while_forever_0_at_24 = state_while_forever (Some (func_id 0)) [] [] [] 1 11 while_forever_0_seen_13

abbrev while_forever_0_at_25 : State World Trail
while_forever_0_at_25 = state_while_forever (Some (func_id 0)) [] [] [] 1 10 while_forever_0_seen_12

abbrev while_forever_0_at_26 : State World Trail
while_forever_0_at_26 = state_while_forever (Some (func_id 0)) [] [] [] 1 9 while_forever_0_seen_11

abbrev while_forever_0_at_27 : State World Trail
while_forever_0_at_27 = state_while_forever (Some (func_id 0)) [] [] [] 1 8 while_forever_0_seen_10

abbrev while_forever_0_at_28 : State World Trail
while_forever_0_at_28 = state_while_forever (Some (func_id 0)) [] [] [] 1 0 while_forever_0_seen_1

abbrev while_forever_0_at_29 : State World Trail
while_forever_0_at_29 = state_while_forever (Some (func_id 0)) [] [] [] 1 7 while_forever_0_seen_9

abbrev while_forever_0_at_30 : State World Trail
while_forever_0_at_30 = state_while_forever (Some (func_id 0)) [] [] [] 1 6 while_forever_0_seen_8

abbrev while_forever_0_at_31 : State World Trail
while_forever_0_at_31 = state_while_forever (Some (func_id 0)) [] [] [] 1 5 while_forever_0_seen_7

abbrev while_forever_0_at_32 : State World Trail
while_forever_0_at_32 = state_while_forever (Some (func_id 0)) [] [] [] 1 4 while_forever_0_seen_6

abbrev while_forever_0_at_33 : State World Trail
while_forever_0_at_33 = state_while_forever (Some (func_id 0)) [] [] [] 1 3 while_forever_0_seen_5

abbrev while_forever_0_at_34 : State World Trail
while_forever_0_at_34 = state_while_forever (Some (func_id 0)) [] [] [] 1 2 while_forever_0_seen_4

abbrev while_forever_0_at_35 : State World Trail
while_forever_0_at_35 = state_while_forever (Some (func_id 0)) [] [] [] 1 1 while_forever_0_seen_3

abbrev while_forever_0_at_36 : State World Trail
while_forever_0_at_36 = state_while_forever (Some (func_id 0)) [] [] [] 1 0 while_forever_0_seen_2

abbrev while_forever_0_at_37 : State World Trail
while_forever_0_at_37 = state_while_forever None [] [] [] 0 0 while_forever_0_seen_1

pub while_forever_0 : Yields (means_while_forever while_forever_t3) (state_while_forever None [] [] [] 0 40 []) ((Err OutOfSteps), while_forever_0_at_37)
unfolding equal ordered
while_forever_0 =
    stmt_node recorder program_while_forever while_forever_t3 39 (y.outs-Assign ((target.Name (codes "var_8")) ∷ []) false None while_forever_t2) refl (then_err (value_while_forever while_forever_t2) _ OutOfSteps while_forever_0_at_37 (expr_node recorder program_while_forever while_forever_t2 38 (x.outs-Method while_forever_t1 (codes "f") (args [] [])) refl (then_ok (value_while_forever while_forever_t1) _ (v.ModuleRef, (j.Plain true)) (state_while_forever None [] [] [] 0 37 []) (expr_node recorder program_while_forever while_forever_t1 37 (x.outs-Name (codes "module_0")) refl (leaf (simp views))) (then_ok (finds program_while_forever v.ModuleRef (codes "f")) _ (callee.Value (v.Func (func_id 0))) (state_while_forever None [] [] [] 0 37 []) (leaf (first_of (simp views, simp tuples, search))) (as_run (plain_arguments recorder program_while_forever (value_while_forever) (means_while_forever) (callee.Value (v.Func (func_id 0))) [] [] []) (ap (λ args. plain_arguments recorder program_while_forever (value_while_forever) (means_while_forever) (callee.Value (v.Func (func_id 0))) [] args.plain args.named (state_while_forever None [] [] [] 0 37 [])) (out-roll-Args _)) (as_run (calls_function recorder program_while_forever (means_while_forever) (func_id 0) [] []) (ap (λ level. calls_value recorder program_while_forever (means_while_forever) level [] [] (state_while_forever None [] [] [] 0 37 [])) (outs-Func _)) (as_run (inside recorder program_while_forever (means_while_forever) (func_id 0) function_while_forever_0 []) (let same : calls_function recorder program_while_forever (means_while_forever) (func_id 0) [] [] (state_while_forever None [] [] [] 0 37 []) ≡ inside recorder program_while_forever (means_while_forever) (func_id 0) function_while_forever_0 [] (state_while_forever None [] [] [] 0 37 []) = refl in same) (gives_same (leaves (state_while_forever None [] [] [] 0 37 []).frame ((Err OutOfSteps), while_forever_0_at_28)) (in_frame recorder program_while_forever (func_id 0) function_while_forever_0 [] (Err OutOfSteps) while_forever_0_at_28 (then_ok (begins recorder (node 0)) _ tt (state_while_forever (Some (func_id 0)) [] [] [] 1 36 (began 0 ∷ [])) (leaf refl) (then_err (means_while_forever while_forever_n1) _ OutOfSteps while_forever_0_at_28 (stmt_node recorder program_while_forever while_forever_n1 35 (y.outs-While while_forever_n2 (while_forever_n3 ∷ [])) refl (as_run (while_turn recorder program_while_forever (value_while_forever) (means_while_forever) (while_loop recorder program_while_forever (value_while_forever) (means_while_forever) while_forever_n2 (while_forever_n3 ∷ [])) while_forever_n2 (while_forever_n3 ∷ [])) (while_loop-out recorder program_while_forever while_forever_n2 (while_forever_n3 ∷ []) (state_while_forever (Some (func_id 0)) [] [] [] 1 35 (began 0 ∷ began 1 ∷ []))) (then_ok (value_while_forever while_forever_n2) _ ((v.Bool true), (j.Plain true)) while_forever_0_at_1 (expr_node recorder program_while_forever while_forever_n2 34 (x.outs-BoolLit true) refl (leaf (simp views))) (then_ok (tests (v.Bool true)) (λ outcome. decides recorder (node 2) (j.Plain true) outcome >> (if outcome then (after_end (block recorder program_while_forever (means_while_forever) (while_forever_n3 ∷ [])) (after_turn (while_loop recorder program_while_forever (value_while_forever) (means_while_forever) while_forever_n2 (while_forever_n3 ∷ [])))) else passes)) true while_forever_0_at_1 (leaf (first_of (simp views, simp tuples, search))) (then_ok (decides recorder (node 2) (j.Plain true) true) (λ _. (after_end (block recorder program_while_forever (means_while_forever) (while_forever_n3 ∷ [])) (after_turn (while_loop recorder program_while_forever (value_while_forever) (means_while_forever) while_forever_n2 (while_forever_n3 ∷ []))))) tt (state_while_forever (Some (func_id 0)) [] [] [] 1 34 (began 0 ∷ began 1 ∷ began 2 ∷ Decided (node 2) (j.Plain true) true ∷ [])) (leaf refl) (then_after (block recorder program_while_forever (means_while_forever) (while_forever_n3 ∷ [])) (after_turn (while_loop recorder program_while_forever (value_while_forever) (means_while_forever) while_forever_n2 (while_forever_n3 ∷ []))) (Ok (v.None, (j.Plain false))) while_forever_0_at_2 (then_ok (means_while_forever while_forever_n3) _ (v.None, (j.Plain false)) while_forever_0_at_2 (stmt_node recorder program_while_forever while_forever_n3 33 (y.outs-Pass) refl (leaf refl)) (leaf refl)) (as_run (while_turn recorder program_while_forever (value_while_forever) (means_while_forever) (while_loop recorder program_while_forever (value_while_forever) (means_while_forever) while_forever_n2 (while_forever_n3 ∷ [])) while_forever_n2 (while_forever_n3 ∷ [])) (while_loop-out recorder program_while_forever while_forever_n2 (while_forever_n3 ∷ []) while_forever_0_at_2) (then_ok (value_while_forever while_forever_n2) _ ((v.Bool true), (j.Plain true)) while_forever_0_at_3 (expr_node recorder program_while_forever while_forever_n2 32 (x.outs-BoolLit true) refl (leaf (simp views))) (then_ok (tests (v.Bool true)) (λ outcome. decides recorder (node 2) (j.Plain true) outcome >> (if outcome then (after_end (block recorder program_while_forever (means_while_forever) (while_forever_n3 ∷ [])) (after_turn (while_loop recorder program_while_forever (value_while_forever) (means_while_forever) while_forever_n2 (while_forever_n3 ∷ [])))) else passes)) true while_forever_0_at_3 (leaf (first_of (simp views, simp tuples, search))) (then_ok (decides recorder (node 2) (j.Plain true) true) (λ _. (after_end (block recorder program_while_forever (means_while_forever) (while_forever_n3 ∷ [])) (after_turn (while_loop recorder program_while_forever (value_while_forever) (means_while_forever) while_forever_n2 (while_forever_n3 ∷ []))))) tt (state_while_forever (Some (func_id 0)) [] [] [] 1 32 (began 0 ∷ began 1 ∷ began 2 ∷ Decided (node 2) (j.Plain true) true ∷ began 3 ∷ began 2 ∷ Decided (node 2) (j.Plain true) true ∷ [])) (leaf refl) (then_after (block recorder program_while_forever (means_while_forever) (while_forever_n3 ∷ [])) (after_turn (while_loop recorder program_while_forever (value_while_forever) (means_while_forever) while_forever_n2 (while_forever_n3 ∷ []))) (Ok (v.None, (j.Plain false))) while_forever_0_at_4 (then_ok (means_while_forever while_forever_n3) _ (v.None, (j.Plain false)) while_forever_0_at_4 (stmt_node recorder program_while_forever while_forever_n3 31 (y.outs-Pass) refl (leaf refl)) (leaf refl)) (as_run (while_turn recorder program_while_forever (value_while_forever) (means_while_forever) (while_loop recorder program_while_forever (value_while_forever) (means_while_forever) while_forever_n2 (while_forever_n3 ∷ [])) while_forever_n2 (while_forever_n3 ∷ [])) (while_loop-out recorder program_while_forever while_forever_n2 (while_forever_n3 ∷ []) while_forever_0_at_4) (then_ok (value_while_forever while_forever_n2) _ ((v.Bool true), (j.Plain true)) while_forever_0_at_5 (expr_node recorder program_while_forever while_forever_n2 30 (x.outs-BoolLit true) refl (leaf (simp views))) (then_ok (tests (v.Bool true)) (λ outcome. decides recorder (node 2) (j.Plain true) outcome >> (if outcome then (after_end (block recorder program_while_forever (means_while_forever) (while_forever_n3 ∷ [])) (after_turn (while_loop recorder program_while_forever (value_while_forever) (means_while_forever) while_forever_n2 (while_forever_n3 ∷ [])))) else passes)) true while_forever_0_at_5 (leaf (first_of (simp views, simp tuples, search))) (then_ok (decides recorder (node 2) (j.Plain true) true) (λ _. (after_end (block recorder program_while_forever (means_while_forever) (while_forever_n3 ∷ [])) (after_turn (while_loop recorder program_while_forever (value_while_forever) (means_while_forever) while_forever_n2 (while_forever_n3 ∷ []))))) tt (state_while_forever (Some (func_id 0)) [] [] [] 1 30 (began 0 ∷ began 1 ∷ began 2 ∷ Decided (node 2) (j.Plain true) true ∷ began 3 ∷ began 2 ∷ Decided (node 2) (j.Plain true) true ∷ began 3 ∷ began 2 ∷ Decided (node 2) (j.Plain true) true ∷ [])) (leaf refl) (then_after (block recorder program_while_forever (means_while_forever) (while_forever_n3 ∷ [])) (after_turn (while_loop recorder program_while_forever (value_while_forever) (means_while_forever) while_forever_n2 (while_forever_n3 ∷ []))) (Ok (v.None, (j.Plain false))) while_forever_0_at_6 (then_ok (means_while_forever while_forever_n3) _ (v.None, (j.Plain false)) while_forever_0_at_6 (stmt_node recorder program_while_forever while_forever_n3 29 (y.outs-Pass) refl (leaf refl)) (leaf refl)) (as_run (while_turn recorder program_while_forever (value_while_forever) (means_while_forever) (while_loop recorder program_while_forever (value_while_forever) (means_while_forever) while_forever_n2 (while_forever_n3 ∷ [])) while_forever_n2 (while_forever_n3 ∷ [])) (while_loop-out recorder program_while_forever while_forever_n2 (while_forever_n3 ∷ []) while_forever_0_at_6) (then_ok (value_while_forever while_forever_n2) _ ((v.Bool true), (j.Plain true)) while_forever_0_at_7 (expr_node recorder program_while_forever while_forever_n2 28 (x.outs-BoolLit true) refl (leaf (simp views))) (then_ok (tests (v.Bool true)) (λ outcome. decides recorder (node 2) (j.Plain true) outcome >> (if outcome then (after_end (block recorder program_while_forever (means_while_forever) (while_forever_n3 ∷ [])) (after_turn (while_loop recorder program_while_forever (value_while_forever) (means_while_forever) while_forever_n2 (while_forever_n3 ∷ [])))) else passes)) true while_forever_0_at_7 (leaf (first_of (simp views, simp tuples, search))) (then_ok (decides recorder (node 2) (j.Plain true) true) (λ _. (after_end (block recorder program_while_forever (means_while_forever) (while_forever_n3 ∷ [])) (after_turn (while_loop recorder program_while_forever (value_while_forever) (means_while_forever) while_forever_n2 (while_forever_n3 ∷ []))))) tt (state_while_forever (Some (func_id 0)) [] [] [] 1 28 (began 0 ∷ began 1 ∷ began 2 ∷ Decided (node 2) (j.Plain true) true ∷ began 3 ∷ began 2 ∷ Decided (node 2) (j.Plain true) true ∷ began 3 ∷ began 2 ∷ Decided (node 2) (j.Plain true) true ∷ began 3 ∷ began 2 ∷ Decided (node 2) (j.Plain true) true ∷ [])) (leaf refl) (then_after (block recorder program_while_forever (means_while_forever) (while_forever_n3 ∷ [])) (after_turn (while_loop recorder program_while_forever (value_while_forever) (means_while_forever) while_forever_n2 (while_forever_n3 ∷ []))) (Ok (v.None, (j.Plain false))) while_forever_0_at_8 (then_ok (means_while_forever while_forever_n3) _ (v.None, (j.Plain false)) while_forever_0_at_8 (stmt_node recorder program_while_forever while_forever_n3 27 (y.outs-Pass) refl (leaf refl)) (leaf refl)) (as_run (while_turn recorder program_while_forever (value_while_forever) (means_while_forever) (while_loop recorder program_while_forever (value_while_forever) (means_while_forever) while_forever_n2 (while_forever_n3 ∷ [])) while_forever_n2 (while_forever_n3 ∷ [])) (while_loop-out recorder program_while_forever while_forever_n2 (while_forever_n3 ∷ []) while_forever_0_at_8) (then_ok (value_while_forever while_forever_n2) _ ((v.Bool true), (j.Plain true)) while_forever_0_at_9 (expr_node recorder program_while_forever while_forever_n2 26 (x.outs-BoolLit true) refl (leaf (simp views))) (then_ok (tests (v.Bool true)) (λ outcome. decides recorder (node 2) (j.Plain true) outcome >> (if outcome then (after_end (block recorder program_while_forever (means_while_forever) (while_forever_n3 ∷ [])) (after_turn (while_loop recorder program_while_forever (value_while_forever) (means_while_forever) while_forever_n2 (while_forever_n3 ∷ [])))) else passes)) true while_forever_0_at_9 (leaf (first_of (simp views, simp tuples, search))) (then_ok (decides recorder (node 2) (j.Plain true) true) (λ _. (after_end (block recorder program_while_forever (means_while_forever) (while_forever_n3 ∷ [])) (after_turn (while_loop recorder program_while_forever (value_while_forever) (means_while_forever) while_forever_n2 (while_forever_n3 ∷ []))))) tt (state_while_forever (Some (func_id 0)) [] [] [] 1 26 (began 0 ∷ began 1 ∷ began 2 ∷ Decided (node 2) (j.Plain true) true ∷ began 3 ∷ began 2 ∷ Decided (node 2) (j.Plain true) true ∷ began 3 ∷ began 2 ∷ Decided (node 2) (j.Plain true) true ∷ began 3 ∷ began 2 ∷ Decided (node 2) (j.Plain true) true ∷ began 3 ∷ began 2 ∷ Decided (node 2) (j.Plain true) true ∷ [])) (leaf refl) (then_after (block recorder program_while_forever (means_while_forever) (while_forever_n3 ∷ [])) (after_turn (while_loop recorder program_while_forever (value_while_forever) (means_while_forever) while_forever_n2 (while_forever_n3 ∷ []))) (Ok (v.None, (j.Plain false))) while_forever_0_at_10 (then_ok (means_while_forever while_forever_n3) _ (v.None, (j.Plain false)) while_forever_0_at_10 (stmt_node recorder program_while_forever while_forever_n3 25 (y.outs-Pass) refl (leaf refl)) (leaf refl)) (as_run (while_turn recorder program_while_forever (value_while_forever) (means_while_forever) (while_loop recorder program_while_forever (value_while_forever) (means_while_forever) while_forever_n2 (while_forever_n3 ∷ [])) while_forever_n2 (while_forever_n3 ∷ [])) (while_loop-out recorder program_while_forever while_forever_n2 (while_forever_n3 ∷ []) while_forever_0_at_10) (then_ok (value_while_forever while_forever_n2) _ ((v.Bool true), (j.Plain true)) while_forever_0_at_11 (expr_node recorder program_while_forever while_forever_n2 24 (x.outs-BoolLit true) refl (leaf (simp views))) (then_ok (tests (v.Bool true)) (λ outcome. decides recorder (node 2) (j.Plain true) outcome >> (if outcome then (after_end (block recorder program_while_forever (means_while_forever) (while_forever_n3 ∷ [])) (after_turn (while_loop recorder program_while_forever (value_while_forever) (means_while_forever) while_forever_n2 (while_forever_n3 ∷ [])))) else passes)) true while_forever_0_at_11 (leaf (first_of (simp views, simp tuples, search))) (then_ok (decides recorder (node 2) (j.Plain true) true) (λ _. (after_end (block recorder program_while_forever (means_while_forever) (while_forever_n3 ∷ [])) (after_turn (while_loop recorder program_while_forever (value_while_forever) (means_while_forever) while_forever_n2 (while_forever_n3 ∷ []))))) tt (state_while_forever (Some (func_id 0)) [] [] [] 1 24 (began 0 ∷ began 1 ∷ began 2 ∷ Decided (node 2) (j.Plain true) true ∷ began 3 ∷ began 2 ∷ Decided (node 2) (j.Plain true) true ∷ began 3 ∷ began 2 ∷ Decided (node 2) (j.Plain true) true ∷ began 3 ∷ began 2 ∷ Decided (node 2) (j.Plain true) true ∷ began 3 ∷ began 2 ∷ Decided (node 2) (j.Plain true) true ∷ began 3 ∷ began 2 ∷ Decided (node 2) (j.Plain true) true ∷ [])) (leaf refl) (then_after (block recorder program_while_forever (means_while_forever) (while_forever_n3 ∷ [])) (after_turn (while_loop recorder program_while_forever (value_while_forever) (means_while_forever) while_forever_n2 (while_forever_n3 ∷ []))) (Ok (v.None, (j.Plain false))) while_forever_0_at_12 (then_ok (means_while_forever while_forever_n3) _ (v.None, (j.Plain false)) while_forever_0_at_12 (stmt_node recorder program_while_forever while_forever_n3 23 (y.outs-Pass) refl (leaf refl)) (leaf refl)) (as_run (while_turn recorder program_while_forever (value_while_forever) (means_while_forever) (while_loop recorder program_while_forever (value_while_forever) (means_while_forever) while_forever_n2 (while_forever_n3 ∷ [])) while_forever_n2 (while_forever_n3 ∷ [])) (while_loop-out recorder program_while_forever while_forever_n2 (while_forever_n3 ∷ []) while_forever_0_at_12) (then_ok (value_while_forever while_forever_n2) _ ((v.Bool true), (j.Plain true)) while_forever_0_at_13 (expr_node recorder program_while_forever while_forever_n2 22 (x.outs-BoolLit true) refl (leaf (simp views))) (then_ok (tests (v.Bool true)) (λ outcome. decides recorder (node 2) (j.Plain true) outcome >> (if outcome then (after_end (block recorder program_while_forever (means_while_forever) (while_forever_n3 ∷ [])) (after_turn (while_loop recorder program_while_forever (value_while_forever) (means_while_forever) while_forever_n2 (while_forever_n3 ∷ [])))) else passes)) true while_forever_0_at_13 (leaf (first_of (simp views, simp tuples, search))) (then_ok (decides recorder (node 2) (j.Plain true) true) (λ _. (after_end (block recorder program_while_forever (means_while_forever) (while_forever_n3 ∷ [])) (after_turn (while_loop recorder program_while_forever (value_while_forever) (means_while_forever) while_forever_n2 (while_forever_n3 ∷ []))))) tt (state_while_forever (Some (func_id 0)) [] [] [] 1 22 (began 0 ∷ began 1 ∷ began 2 ∷ Decided (node 2) (j.Plain true) true ∷ began 3 ∷ began 2 ∷ Decided (node 2) (j.Plain true) true ∷ began 3 ∷ began 2 ∷ Decided (node 2) (j.Plain true) true ∷ began 3 ∷ began 2 ∷ Decided (node 2) (j.Plain true) true ∷ began 3 ∷ began 2 ∷ Decided (node 2) (j.Plain true) true ∷ began 3 ∷ began 2 ∷ Decided (node 2) (j.Plain true) true ∷ began 3 ∷ began 2 ∷ Decided (node 2) (j.Plain true) true ∷ [])) (leaf refl) (then_after (block recorder program_while_forever (means_while_forever) (while_forever_n3 ∷ [])) (after_turn (while_loop recorder program_while_forever (value_while_forever) (means_while_forever) while_forever_n2 (while_forever_n3 ∷ []))) (Ok (v.None, (j.Plain false))) while_forever_0_at_14 (then_ok (means_while_forever while_forever_n3) _ (v.None, (j.Plain false)) while_forever_0_at_14 (stmt_node recorder program_while_forever while_forever_n3 21 (y.outs-Pass) refl (leaf refl)) (leaf refl)) (as_run (while_turn recorder program_while_forever (value_while_forever) (means_while_forever) (while_loop recorder program_while_forever (value_while_forever) (means_while_forever) while_forever_n2 (while_forever_n3 ∷ [])) while_forever_n2 (while_forever_n3 ∷ [])) (while_loop-out recorder program_while_forever while_forever_n2 (while_forever_n3 ∷ []) while_forever_0_at_14) (then_ok (value_while_forever while_forever_n2) _ ((v.Bool true), (j.Plain true)) while_forever_0_at_15 (expr_node recorder program_while_forever while_forever_n2 20 (x.outs-BoolLit true) refl (leaf (simp views))) (then_ok (tests (v.Bool true)) (λ outcome. decides recorder (node 2) (j.Plain true) outcome >> (if outcome then (after_end (block recorder program_while_forever (means_while_forever) (while_forever_n3 ∷ [])) (after_turn (while_loop recorder program_while_forever (value_while_forever) (means_while_forever) while_forever_n2 (while_forever_n3 ∷ [])))) else passes)) true while_forever_0_at_15 (leaf (first_of (simp views, simp tuples, search))) (then_ok (decides recorder (node 2) (j.Plain true) true) (λ _. (after_end (block recorder program_while_forever (means_while_forever) (while_forever_n3 ∷ [])) (after_turn (while_loop recorder program_while_forever (value_while_forever) (means_while_forever) while_forever_n2 (while_forever_n3 ∷ []))))) tt (state_while_forever (Some (func_id 0)) [] [] [] 1 20 (began 0 ∷ began 1 ∷ began 2 ∷ Decided (node 2) (j.Plain true) true ∷ began 3 ∷ began 2 ∷ Decided (node 2) (j.Plain true) true ∷ began 3 ∷ began 2 ∷ Decided (node 2) (j.Plain true) true ∷ began 3 ∷ began 2 ∷ Decided (node 2) (j.Plain true) true ∷ began 3 ∷ began 2 ∷ Decided (node 2) (j.Plain true) true ∷ began 3 ∷ began 2 ∷ Decided (node 2) (j.Plain true) true ∷ began 3 ∷ began 2 ∷ Decided (node 2) (j.Plain true) true ∷ began 3 ∷ began 2 ∷ Decided (node 2) (j.Plain true) true ∷ [])) (leaf refl) (then_after (block recorder program_while_forever (means_while_forever) (while_forever_n3 ∷ [])) (after_turn (while_loop recorder program_while_forever (value_while_forever) (means_while_forever) while_forever_n2 (while_forever_n3 ∷ []))) (Ok (v.None, (j.Plain false))) while_forever_0_at_16 (then_ok (means_while_forever while_forever_n3) _ (v.None, (j.Plain false)) while_forever_0_at_16 (stmt_node recorder program_while_forever while_forever_n3 19 (y.outs-Pass) refl (leaf refl)) (leaf refl)) (as_run (while_turn recorder program_while_forever (value_while_forever) (means_while_forever) (while_loop recorder program_while_forever (value_while_forever) (means_while_forever) while_forever_n2 (while_forever_n3 ∷ [])) while_forever_n2 (while_forever_n3 ∷ [])) (while_loop-out recorder program_while_forever while_forever_n2 (while_forever_n3 ∷ []) while_forever_0_at_16) (then_ok (value_while_forever while_forever_n2) _ ((v.Bool true), (j.Plain true)) while_forever_0_at_17 (expr_node recorder program_while_forever while_forever_n2 18 (x.outs-BoolLit true) refl (leaf (simp views))) (then_ok (tests (v.Bool true)) (λ outcome. decides recorder (node 2) (j.Plain true) outcome >> (if outcome then (after_end (block recorder program_while_forever (means_while_forever) (while_forever_n3 ∷ [])) (after_turn (while_loop recorder program_while_forever (value_while_forever) (means_while_forever) while_forever_n2 (while_forever_n3 ∷ [])))) else passes)) true while_forever_0_at_17 (leaf (first_of (simp views, simp tuples, search))) (then_ok (decides recorder (node 2) (j.Plain true) true) (λ _. (after_end (block recorder program_while_forever (means_while_forever) (while_forever_n3 ∷ [])) (after_turn (while_loop recorder program_while_forever (value_while_forever) (means_while_forever) while_forever_n2 (while_forever_n3 ∷ []))))) tt (state_while_forever (Some (func_id 0)) [] [] [] 1 18 (began 0 ∷ began 1 ∷ began 2 ∷ Decided (node 2) (j.Plain true) true ∷ began 3 ∷ began 2 ∷ Decided (node 2) (j.Plain true) true ∷ began 3 ∷ began 2 ∷ Decided (node 2) (j.Plain true) true ∷ began 3 ∷ began 2 ∷ Decided (node 2) (j.Plain true) true ∷ began 3 ∷ began 2 ∷ Decided (node 2) (j.Plain true) true ∷ began 3 ∷ began 2 ∷ Decided (node 2) (j.Plain true) true ∷ began 3 ∷ began 2 ∷ Decided (node 2) (j.Plain true) true ∷ began 3 ∷ began 2 ∷ Decided (node 2) (j.Plain true) true ∷ began 3 ∷ began 2 ∷ Decided (node 2) (j.Plain true) true ∷ [])) (leaf refl) (then_after (block recorder program_while_forever (means_while_forever) (while_forever_n3 ∷ [])) (after_turn (while_loop recorder program_while_forever (value_while_forever) (means_while_forever) while_forever_n2 (while_forever_n3 ∷ []))) (Ok (v.None, (j.Plain false))) while_forever_0_at_18 (then_ok (means_while_forever while_forever_n3) _ (v.None, (j.Plain false)) while_forever_0_at_18 (stmt_node recorder program_while_forever while_forever_n3 17 (y.outs-Pass) refl (leaf refl)) (leaf refl)) (as_run (while_turn recorder program_while_forever (value_while_forever) (means_while_forever) (while_loop recorder program_while_forever (value_while_forever) (means_while_forever) while_forever_n2 (while_forever_n3 ∷ [])) while_forever_n2 (while_forever_n3 ∷ [])) (while_loop-out recorder program_while_forever while_forever_n2 (while_forever_n3 ∷ []) while_forever_0_at_18) (then_ok (value_while_forever while_forever_n2) _ ((v.Bool true), (j.Plain true)) while_forever_0_at_19 (expr_node recorder program_while_forever while_forever_n2 16 (x.outs-BoolLit true) refl (leaf (simp views))) (then_ok (tests (v.Bool true)) (λ outcome. decides recorder (node 2) (j.Plain true) outcome >> (if outcome then (after_end (block recorder program_while_forever (means_while_forever) (while_forever_n3 ∷ [])) (after_turn (while_loop recorder program_while_forever (value_while_forever) (means_while_forever) while_forever_n2 (while_forever_n3 ∷ [])))) else passes)) true while_forever_0_at_19 (leaf (first_of (simp views, simp tuples, search))) (then_ok (decides recorder (node 2) (j.Plain true) true) (λ _. (after_end (block recorder program_while_forever (means_while_forever) (while_forever_n3 ∷ [])) (after_turn (while_loop recorder program_while_forever (value_while_forever) (means_while_forever) while_forever_n2 (while_forever_n3 ∷ []))))) tt (state_while_forever (Some (func_id 0)) [] [] [] 1 16 (began 0 ∷ began 1 ∷ began 2 ∷ Decided (node 2) (j.Plain true) true ∷ began 3 ∷ began 2 ∷ Decided (node 2) (j.Plain true) true ∷ began 3 ∷ began 2 ∷ Decided (node 2) (j.Plain true) true ∷ began 3 ∷ began 2 ∷ Decided (node 2) (j.Plain true) true ∷ began 3 ∷ began 2 ∷ Decided (node 2) (j.Plain true) true ∷ began 3 ∷ began 2 ∷ Decided (node 2) (j.Plain true) true ∷ began 3 ∷ began 2 ∷ Decided (node 2) (j.Plain true) true ∷ began 3 ∷ began 2 ∷ Decided (node 2) (j.Plain true) true ∷ began 3 ∷ began 2 ∷ Decided (node 2) (j.Plain true) true ∷ began 3 ∷ began 2 ∷ Decided (node 2) (j.Plain true) true ∷ [])) (leaf refl) (then_after (block recorder program_while_forever (means_while_forever) (while_forever_n3 ∷ [])) (after_turn (while_loop recorder program_while_forever (value_while_forever) (means_while_forever) while_forever_n2 (while_forever_n3 ∷ []))) (Ok (v.None, (j.Plain false))) while_forever_0_at_20 (then_ok (means_while_forever while_forever_n3) _ (v.None, (j.Plain false)) while_forever_0_at_20 (stmt_node recorder program_while_forever while_forever_n3 15 (y.outs-Pass) refl (leaf refl)) (leaf refl)) (as_run (while_turn recorder program_while_forever (value_while_forever) (means_while_forever) (while_loop recorder program_while_forever (value_while_forever) (means_while_forever) while_forever_n2 (while_forever_n3 ∷ [])) while_forever_n2 (while_forever_n3 ∷ [])) (while_loop-out recorder program_while_forever while_forever_n2 (while_forever_n3 ∷ []) while_forever_0_at_20) (then_ok (value_while_forever while_forever_n2) _ ((v.Bool true), (j.Plain true)) while_forever_0_at_21 (expr_node recorder program_while_forever while_forever_n2 14 (x.outs-BoolLit true) refl (leaf (simp views))) (then_ok (tests (v.Bool true)) (λ outcome. decides recorder (node 2) (j.Plain true) outcome >> (if outcome then (after_end (block recorder program_while_forever (means_while_forever) (while_forever_n3 ∷ [])) (after_turn (while_loop recorder program_while_forever (value_while_forever) (means_while_forever) while_forever_n2 (while_forever_n3 ∷ [])))) else passes)) true while_forever_0_at_21 (leaf (first_of (simp views, simp tuples, search))) (then_ok (decides recorder (node 2) (j.Plain true) true) (λ _. (after_end (block recorder program_while_forever (means_while_forever) (while_forever_n3 ∷ [])) (after_turn (while_loop recorder program_while_forever (value_while_forever) (means_while_forever) while_forever_n2 (while_forever_n3 ∷ []))))) tt (state_while_forever (Some (func_id 0)) [] [] [] 1 14 (began 0 ∷ began 1 ∷ began 2 ∷ Decided (node 2) (j.Plain true) true ∷ began 3 ∷ began 2 ∷ Decided (node 2) (j.Plain true) true ∷ began 3 ∷ began 2 ∷ Decided (node 2) (j.Plain true) true ∷ began 3 ∷ began 2 ∷ Decided (node 2) (j.Plain true) true ∷ began 3 ∷ began 2 ∷ Decided (node 2) (j.Plain true) true ∷ began 3 ∷ began 2 ∷ Decided (node 2) (j.Plain true) true ∷ began 3 ∷ began 2 ∷ Decided (node 2) (j.Plain true) true ∷ began 3 ∷ began 2 ∷ Decided (node 2) (j.Plain true) true ∷ began 3 ∷ began 2 ∷ Decided (node 2) (j.Plain true) true ∷ began 3 ∷ began 2 ∷ Decided (node 2) (j.Plain true) true ∷ began 3 ∷ began 2 ∷ Decided (node 2) (j.Plain true) true ∷ [])) (leaf refl) (then_after (block recorder program_while_forever (means_while_forever) (while_forever_n3 ∷ [])) (after_turn (while_loop recorder program_while_forever (value_while_forever) (means_while_forever) while_forever_n2 (while_forever_n3 ∷ []))) (Ok (v.None, (j.Plain false))) while_forever_0_at_22 (then_ok (means_while_forever while_forever_n3) _ (v.None, (j.Plain false)) while_forever_0_at_22 (stmt_node recorder program_while_forever while_forever_n3 13 (y.outs-Pass) refl (leaf refl)) (leaf refl)) (as_run (while_turn recorder program_while_forever (value_while_forever) (means_while_forever) (while_loop recorder program_while_forever (value_while_forever) (means_while_forever) while_forever_n2 (while_forever_n3 ∷ [])) while_forever_n2 (while_forever_n3 ∷ [])) (while_loop-out recorder program_while_forever while_forever_n2 (while_forever_n3 ∷ []) while_forever_0_at_22) (then_ok (value_while_forever while_forever_n2) _ ((v.Bool true), (j.Plain true)) while_forever_0_at_23 (expr_node recorder program_while_forever while_forever_n2 12 (x.outs-BoolLit true) refl (leaf (simp views))) (then_ok (tests (v.Bool true)) (λ outcome. decides recorder (node 2) (j.Plain true) outcome >> (if outcome then (after_end (block recorder program_while_forever (means_while_forever) (while_forever_n3 ∷ [])) (after_turn (while_loop recorder program_while_forever (value_while_forever) (means_while_forever) while_forever_n2 (while_forever_n3 ∷ [])))) else passes)) true while_forever_0_at_23 (leaf (first_of (simp views, simp tuples, search))) (then_ok (decides recorder (node 2) (j.Plain true) true) (λ _. (after_end (block recorder program_while_forever (means_while_forever) (while_forever_n3 ∷ [])) (after_turn (while_loop recorder program_while_forever (value_while_forever) (means_while_forever) while_forever_n2 (while_forever_n3 ∷ []))))) tt (state_while_forever (Some (func_id 0)) [] [] [] 1 12 (began 0 ∷ began 1 ∷ began 2 ∷ Decided (node 2) (j.Plain true) true ∷ began 3 ∷ began 2 ∷ Decided (node 2) (j.Plain true) true ∷ began 3 ∷ began 2 ∷ Decided (node 2) (j.Plain true) true ∷ began 3 ∷ began 2 ∷ Decided (node 2) (j.Plain true) true ∷ began 3 ∷ began 2 ∷ Decided (node 2) (j.Plain true) true ∷ began 3 ∷ began 2 ∷ Decided (node 2) (j.Plain true) true ∷ began 3 ∷ began 2 ∷ Decided (node 2) (j.Plain true) true ∷ began 3 ∷ began 2 ∷ Decided (node 2) (j.Plain true) true ∷ began 3 ∷ began 2 ∷ Decided (node 2) (j.Plain true) true ∷ began 3 ∷ began 2 ∷ Decided (node 2) (j.Plain true) true ∷ began 3 ∷ began 2 ∷ Decided (node 2) (j.Plain true) true ∷ began 3 ∷ began 2 ∷ Decided (node 2) (j.Plain true) true ∷ [])) (leaf refl) (then_after (block recorder program_while_forever (means_while_forever) (while_forever_n3 ∷ [])) (after_turn (while_loop recorder program_while_forever (value_while_forever) (means_while_forever) while_forever_n2 (while_forever_n3 ∷ []))) (Ok (v.None, (j.Plain false))) while_forever_0_at_24 (then_ok (means_while_forever while_forever_n3) _ (v.None, (j.Plain false)) while_forever_0_at_24 (stmt_node recorder program_while_forever while_forever_n3 11 (y.outs-Pass) refl (leaf refl)) (leaf refl)) (as_run (while_turn recorder program_while_forever (value_while_forever) (means_while_forever) (while_loop recorder program_while_forever (value_while_forever) (means_while_forever) while_forever_n2 (while_forever_n3 ∷ [])) while_forever_n2 (while_forever_n3 ∷ [])) (while_loop-out recorder program_while_forever while_forever_n2 (while_forever_n3 ∷ []) while_forever_0_at_24) (then_ok (value_while_forever while_forever_n2) _ ((v.Bool true), (j.Plain true)) while_forever_0_at_25 (expr_node recorder program_while_forever while_forever_n2 10 (x.outs-BoolLit true) refl (leaf (simp views))) (then_ok (tests (v.Bool true)) (λ outcome. decides recorder (node 2) (j.Plain true) outcome >> (if outcome then (after_end (block recorder program_while_forever (means_while_forever) (while_forever_n3 ∷ [])) (after_turn (while_loop recorder program_while_forever (value_while_forever) (means_while_forever) while_forever_n2 (while_forever_n3 ∷ [])))) else passes)) true while_forever_0_at_25 (leaf (first_of (simp views, simp tuples, search))) (then_ok (decides recorder (node 2) (j.Plain true) true) (λ _. (after_end (block recorder program_while_forever (means_while_forever) (while_forever_n3 ∷ [])) (after_turn (while_loop recorder program_while_forever (value_while_forever) (means_while_forever) while_forever_n2 (while_forever_n3 ∷ []))))) tt (state_while_forever (Some (func_id 0)) [] [] [] 1 10 (began 0 ∷ began 1 ∷ began 2 ∷ Decided (node 2) (j.Plain true) true ∷ began 3 ∷ began 2 ∷ Decided (node 2) (j.Plain true) true ∷ began 3 ∷ began 2 ∷ Decided (node 2) (j.Plain true) true ∷ began 3 ∷ began 2 ∷ Decided (node 2) (j.Plain true) true ∷ began 3 ∷ began 2 ∷ Decided (node 2) (j.Plain true) true ∷ began 3 ∷ began 2 ∷ Decided (node 2) (j.Plain true) true ∷ began 3 ∷ began 2 ∷ Decided (node 2) (j.Plain true) true ∷ began 3 ∷ began 2 ∷ Decided (node 2) (j.Plain true) true ∷ began 3 ∷ began 2 ∷ Decided (node 2) (j.Plain true) true ∷ began 3 ∷ began 2 ∷ Decided (node 2) (j.Plain true) true ∷ began 3 ∷ began 2 ∷ Decided (node 2) (j.Plain true) true ∷ began 3 ∷ began 2 ∷ Decided (node 2) (j.Plain true) true ∷ began 3 ∷ began 2 ∷ Decided (node 2) (j.Plain true) true ∷ [])) (leaf refl) (then_after (block recorder program_while_forever (means_while_forever) (while_forever_n3 ∷ [])) (after_turn (while_loop recorder program_while_forever (value_while_forever) (means_while_forever) while_forever_n2 (while_forever_n3 ∷ []))) (Ok (v.None, (j.Plain false))) while_forever_0_at_26 (then_ok (means_while_forever while_forever_n3) _ (v.None, (j.Plain false)) while_forever_0_at_26 (stmt_node recorder program_while_forever while_forever_n3 9 (y.outs-Pass) refl (leaf refl)) (leaf refl)) (as_run (while_turn recorder program_while_forever (value_while_forever) (means_while_forever) (while_loop recorder program_while_forever (value_while_forever) (means_while_forever) while_forever_n2 (while_forever_n3 ∷ [])) while_forever_n2 (while_forever_n3 ∷ [])) (while_loop-out recorder program_while_forever while_forever_n2 (while_forever_n3 ∷ []) while_forever_0_at_26) (then_ok (value_while_forever while_forever_n2) _ ((v.Bool true), (j.Plain true)) while_forever_0_at_27 (expr_node recorder program_while_forever while_forever_n2 8 (x.outs-BoolLit true) refl (leaf (simp views))) (then_ok (tests (v.Bool true)) (λ outcome. decides recorder (node 2) (j.Plain true) outcome >> (if outcome then (after_end (block recorder program_while_forever (means_while_forever) (while_forever_n3 ∷ [])) (after_turn (while_loop recorder program_while_forever (value_while_forever) (means_while_forever) while_forever_n2 (while_forever_n3 ∷ [])))) else passes)) true while_forever_0_at_27 (leaf (first_of (simp views, simp tuples, search))) (then_ok (decides recorder (node 2) (j.Plain true) true) (λ _. (after_end (block recorder program_while_forever (means_while_forever) (while_forever_n3 ∷ [])) (after_turn (while_loop recorder program_while_forever (value_while_forever) (means_while_forever) while_forever_n2 (while_forever_n3 ∷ []))))) tt (state_while_forever (Some (func_id 0)) [] [] [] 1 8 (began 0 ∷ began 1 ∷ began 2 ∷ Decided (node 2) (j.Plain true) true ∷ began 3 ∷ began 2 ∷ Decided (node 2) (j.Plain true) true ∷ began 3 ∷ began 2 ∷ Decided (node 2) (j.Plain true) true ∷ began 3 ∷ began 2 ∷ Decided (node 2) (j.Plain true) true ∷ began 3 ∷ began 2 ∷ Decided (node 2) (j.Plain true) true ∷ began 3 ∷ began 2 ∷ Decided (node 2) (j.Plain true) true ∷ began 3 ∷ began 2 ∷ Decided (node 2) (j.Plain true) true ∷ began 3 ∷ began 2 ∷ Decided (node 2) (j.Plain true) true ∷ began 3 ∷ began 2 ∷ Decided (node 2) (j.Plain true) true ∷ began 3 ∷ began 2 ∷ Decided (node 2) (j.Plain true) true ∷ began 3 ∷ began 2 ∷ Decided (node 2) (j.Plain true) true ∷ began 3 ∷ began 2 ∷ Decided (node 2) (j.Plain true) true ∷ began 3 ∷ began 2 ∷ Decided (node 2) (j.Plain true) true ∷ began 3 ∷ began 2 ∷ Decided (node 2) (j.Plain true) true ∷ [])) (leaf refl) (then_after (block recorder program_while_forever (means_while_forever) (while_forever_n3 ∷ [])) (after_turn (while_loop recorder program_while_forever (value_while_forever) (means_while_forever) while_forever_n2 (while_forever_n3 ∷ []))) (Ok (v.None, (j.Plain false))) while_forever_0_at_29 (then_ok (means_while_forever while_forever_n3) _ (v.None, (j.Plain false)) while_forever_0_at_29 (stmt_node recorder program_while_forever while_forever_n3 7 (y.outs-Pass) refl (leaf refl)) (leaf refl)) (as_run (while_turn recorder program_while_forever (value_while_forever) (means_while_forever) (while_loop recorder program_while_forever (value_while_forever) (means_while_forever) while_forever_n2 (while_forever_n3 ∷ [])) while_forever_n2 (while_forever_n3 ∷ [])) (while_loop-out recorder program_while_forever while_forever_n2 (while_forever_n3 ∷ []) while_forever_0_at_29) (then_ok (value_while_forever while_forever_n2) _ ((v.Bool true), (j.Plain true)) while_forever_0_at_30 (expr_node recorder program_while_forever while_forever_n2 6 (x.outs-BoolLit true) refl (leaf (simp views))) (then_ok (tests (v.Bool true)) (λ outcome. decides recorder (node 2) (j.Plain true) outcome >> (if outcome then (after_end (block recorder program_while_forever (means_while_forever) (while_forever_n3 ∷ [])) (after_turn (while_loop recorder program_while_forever (value_while_forever) (means_while_forever) while_forever_n2 (while_forever_n3 ∷ [])))) else passes)) true while_forever_0_at_30 (leaf (first_of (simp views, simp tuples, search))) (then_ok (decides recorder (node 2) (j.Plain true) true) (λ _. (after_end (block recorder program_while_forever (means_while_forever) (while_forever_n3 ∷ [])) (after_turn (while_loop recorder program_while_forever (value_while_forever) (means_while_forever) while_forever_n2 (while_forever_n3 ∷ []))))) tt (state_while_forever (Some (func_id 0)) [] [] [] 1 6 (began 0 ∷ began 1 ∷ began 2 ∷ Decided (node 2) (j.Plain true) true ∷ began 3 ∷ began 2 ∷ Decided (node 2) (j.Plain true) true ∷ began 3 ∷ began 2 ∷ Decided (node 2) (j.Plain true) true ∷ began 3 ∷ began 2 ∷ Decided (node 2) (j.Plain true) true ∷ began 3 ∷ began 2 ∷ Decided (node 2) (j.Plain true) true ∷ began 3 ∷ began 2 ∷ Decided (node 2) (j.Plain true) true ∷ began 3 ∷ began 2 ∷ Decided (node 2) (j.Plain true) true ∷ began 3 ∷ began 2 ∷ Decided (node 2) (j.Plain true) true ∷ began 3 ∷ began 2 ∷ Decided (node 2) (j.Plain true) true ∷ began 3 ∷ began 2 ∷ Decided (node 2) (j.Plain true) true ∷ began 3 ∷ began 2 ∷ Decided (node 2) (j.Plain true) true ∷ began 3 ∷ began 2 ∷ Decided (node 2) (j.Plain true) true ∷ began 3 ∷ began 2 ∷ Decided (node 2) (j.Plain true) true ∷ began 3 ∷ began 2 ∷ Decided (node 2) (j.Plain true) true ∷ began 3 ∷ began 2 ∷ Decided (node 2) (j.Plain true) true ∷ [])) (leaf refl) (then_after (block recorder program_while_forever (means_while_forever) (while_forever_n3 ∷ [])) (after_turn (while_loop recorder program_while_forever (value_while_forever) (means_while_forever) while_forever_n2 (while_forever_n3 ∷ []))) (Ok (v.None, (j.Plain false))) while_forever_0_at_31 (then_ok (means_while_forever while_forever_n3) _ (v.None, (j.Plain false)) while_forever_0_at_31 (stmt_node recorder program_while_forever while_forever_n3 5 (y.outs-Pass) refl (leaf refl)) (leaf refl)) (as_run (while_turn recorder program_while_forever (value_while_forever) (means_while_forever) (while_loop recorder program_while_forever (value_while_forever) (means_while_forever) while_forever_n2 (while_forever_n3 ∷ [])) while_forever_n2 (while_forever_n3 ∷ [])) (while_loop-out recorder program_while_forever while_forever_n2 (while_forever_n3 ∷ []) while_forever_0_at_31) (then_ok (value_while_forever while_forever_n2) _ ((v.Bool true), (j.Plain true)) while_forever_0_at_32 (expr_node recorder program_while_forever while_forever_n2 4 (x.outs-BoolLit true) refl (leaf (simp views))) (then_ok (tests (v.Bool true)) (λ outcome. decides recorder (node 2) (j.Plain true) outcome >> (if outcome then (after_end (block recorder program_while_forever (means_while_forever) (while_forever_n3 ∷ [])) (after_turn (while_loop recorder program_while_forever (value_while_forever) (means_while_forever) while_forever_n2 (while_forever_n3 ∷ [])))) else passes)) true while_forever_0_at_32 (leaf (first_of (simp views, simp tuples, search))) (then_ok (decides recorder (node 2) (j.Plain true) true) (λ _. (after_end (block recorder program_while_forever (means_while_forever) (while_forever_n3 ∷ [])) (after_turn (while_loop recorder program_while_forever (value_while_forever) (means_while_forever) while_forever_n2 (while_forever_n3 ∷ []))))) tt (state_while_forever (Some (func_id 0)) [] [] [] 1 4 (began 0 ∷ began 1 ∷ began 2 ∷ Decided (node 2) (j.Plain true) true ∷ began 3 ∷ began 2 ∷ Decided (node 2) (j.Plain true) true ∷ began 3 ∷ began 2 ∷ Decided (node 2) (j.Plain true) true ∷ began 3 ∷ began 2 ∷ Decided (node 2) (j.Plain true) true ∷ began 3 ∷ began 2 ∷ Decided (node 2) (j.Plain true) true ∷ began 3 ∷ began 2 ∷ Decided (node 2) (j.Plain true) true ∷ began 3 ∷ began 2 ∷ Decided (node 2) (j.Plain true) true ∷ began 3 ∷ began 2 ∷ Decided (node 2) (j.Plain true) true ∷ began 3 ∷ began 2 ∷ Decided (node 2) (j.Plain true) true ∷ began 3 ∷ began 2 ∷ Decided (node 2) (j.Plain true) true ∷ began 3 ∷ began 2 ∷ Decided (node 2) (j.Plain true) true ∷ began 3 ∷ began 2 ∷ Decided (node 2) (j.Plain true) true ∷ began 3 ∷ began 2 ∷ Decided (node 2) (j.Plain true) true ∷ began 3 ∷ began 2 ∷ Decided (node 2) (j.Plain true) true ∷ began 3 ∷ began 2 ∷ Decided (node 2) (j.Plain true) true ∷ began 3 ∷ began 2 ∷ Decided (node 2) (j.Plain true) true ∷ [])) (leaf refl) (then_after (block recorder program_while_forever (means_while_forever) (while_forever_n3 ∷ [])) (after_turn (while_loop recorder program_while_forever (value_while_forever) (means_while_forever) while_forever_n2 (while_forever_n3 ∷ []))) (Ok (v.None, (j.Plain false))) while_forever_0_at_33 (then_ok (means_while_forever while_forever_n3) _ (v.None, (j.Plain false)) while_forever_0_at_33 (stmt_node recorder program_while_forever while_forever_n3 3 (y.outs-Pass) refl (leaf refl)) (leaf refl)) (as_run (while_turn recorder program_while_forever (value_while_forever) (means_while_forever) (while_loop recorder program_while_forever (value_while_forever) (means_while_forever) while_forever_n2 (while_forever_n3 ∷ [])) while_forever_n2 (while_forever_n3 ∷ [])) (while_loop-out recorder program_while_forever while_forever_n2 (while_forever_n3 ∷ []) while_forever_0_at_33) (then_ok (value_while_forever while_forever_n2) _ ((v.Bool true), (j.Plain true)) while_forever_0_at_34 (expr_node recorder program_while_forever while_forever_n2 2 (x.outs-BoolLit true) refl (leaf (simp views))) (then_ok (tests (v.Bool true)) (λ outcome. decides recorder (node 2) (j.Plain true) outcome >> (if outcome then (after_end (block recorder program_while_forever (means_while_forever) (while_forever_n3 ∷ [])) (after_turn (while_loop recorder program_while_forever (value_while_forever) (means_while_forever) while_forever_n2 (while_forever_n3 ∷ [])))) else passes)) true while_forever_0_at_34 (leaf (first_of (simp views, simp tuples, search))) (then_ok (decides recorder (node 2) (j.Plain true) true) (λ _. (after_end (block recorder program_while_forever (means_while_forever) (while_forever_n3 ∷ [])) (after_turn (while_loop recorder program_while_forever (value_while_forever) (means_while_forever) while_forever_n2 (while_forever_n3 ∷ []))))) tt (state_while_forever (Some (func_id 0)) [] [] [] 1 2 (began 0 ∷ began 1 ∷ began 2 ∷ Decided (node 2) (j.Plain true) true ∷ began 3 ∷ began 2 ∷ Decided (node 2) (j.Plain true) true ∷ began 3 ∷ began 2 ∷ Decided (node 2) (j.Plain true) true ∷ began 3 ∷ began 2 ∷ Decided (node 2) (j.Plain true) true ∷ began 3 ∷ began 2 ∷ Decided (node 2) (j.Plain true) true ∷ began 3 ∷ began 2 ∷ Decided (node 2) (j.Plain true) true ∷ began 3 ∷ began 2 ∷ Decided (node 2) (j.Plain true) true ∷ began 3 ∷ began 2 ∷ Decided (node 2) (j.Plain true) true ∷ began 3 ∷ began 2 ∷ Decided (node 2) (j.Plain true) true ∷ began 3 ∷ began 2 ∷ Decided (node 2) (j.Plain true) true ∷ began 3 ∷ began 2 ∷ Decided (node 2) (j.Plain true) true ∷ began 3 ∷ began 2 ∷ Decided (node 2) (j.Plain true) true ∷ began 3 ∷ began 2 ∷ Decided (node 2) (j.Plain true) true ∷ began 3 ∷ began 2 ∷ Decided (node 2) (j.Plain true) true ∷ began 3 ∷ began 2 ∷ Decided (node 2) (j.Plain true) true ∷ began 3 ∷ began 2 ∷ Decided (node 2) (j.Plain true) true ∷ began 3 ∷ began 2 ∷ Decided (node 2) (j.Plain true) true ∷ [])) (leaf refl) (then_after (block recorder program_while_forever (means_while_forever) (while_forever_n3 ∷ [])) (after_turn (while_loop recorder program_while_forever (value_while_forever) (means_while_forever) while_forever_n2 (while_forever_n3 ∷ []))) (Ok (v.None, (j.Plain false))) while_forever_0_at_35 (then_ok (means_while_forever while_forever_n3) _ (v.None, (j.Plain false)) while_forever_0_at_35 (stmt_node recorder program_while_forever while_forever_n3 1 (y.outs-Pass) refl (leaf refl)) (leaf refl)) (as_run (while_turn recorder program_while_forever (value_while_forever) (means_while_forever) (while_loop recorder program_while_forever (value_while_forever) (means_while_forever) while_forever_n2 (while_forever_n3 ∷ [])) while_forever_n2 (while_forever_n3 ∷ [])) (while_loop-out recorder program_while_forever while_forever_n2 (while_forever_n3 ∷ []) while_forever_0_at_35) (then_ok (value_while_forever while_forever_n2) _ ((v.Bool true), (j.Plain true)) while_forever_0_at_36 (expr_node recorder program_while_forever while_forever_n2 0 (x.outs-BoolLit true) refl (leaf (simp views))) (then_ok (tests (v.Bool true)) (λ outcome. decides recorder (node 2) (j.Plain true) outcome >> (if outcome then (after_end (block recorder program_while_forever (means_while_forever) (while_forever_n3 ∷ [])) (after_turn (while_loop recorder program_while_forever (value_while_forever) (means_while_forever) while_forever_n2 (while_forever_n3 ∷ [])))) else passes)) true while_forever_0_at_36 (leaf (first_of (simp views, simp tuples, search))) (then_ok (decides recorder (node 2) (j.Plain true) true) (λ _. (after_end (block recorder program_while_forever (means_while_forever) (while_forever_n3 ∷ [])) (after_turn (while_loop recorder program_while_forever (value_while_forever) (means_while_forever) while_forever_n2 (while_forever_n3 ∷ []))))) tt while_forever_0_at_28 (leaf refl) (then_after (block recorder program_while_forever (means_while_forever) (while_forever_n3 ∷ [])) (after_turn (while_loop recorder program_while_forever (value_while_forever) (means_while_forever) while_forever_n2 (while_forever_n3 ∷ []))) (Err OutOfSteps) while_forever_0_at_28 (then_err (means_while_forever while_forever_n3) _ OutOfSteps while_forever_0_at_28 (stmt_none recorder program_while_forever while_forever_n3 refl)) (leaf refl))))))))))))))))))))))))))))))))))))))))))))))))))))))))))))))))))))))))))))))))))))))))))))))) (refl)))))))))

abbrev value_for_not_walked : Expr → Run Trail Finding
value_for_not_walked = value_of recorder program_for_not_walked

abbrev means_for_not_walked : Stmt → Run Trail Finding
means_for_not_walked = means recorder program_for_not_walked

abbrev for_not_walked_0_at_1 : State World Trail
for_not_walked_0_at_1 = state_for_not_walked (Some (func_id 0)) [] [] (object.Instance (Built built.TypeError) [] None ∷ []) 1 294 (began 0 ∷ began 1 ∷ began 2 ∷ [])

abbrev for_not_walked_0_at_2 : State World Trail
for_not_walked_0_at_2 = state_for_not_walked None [] [] (object.Instance (Built built.TypeError) [] None ∷ []) 0 294 (began 0 ∷ began 1 ∷ began 2 ∷ [])

pub for_not_walked_0 : Yields (means_for_not_walked for_not_walked_t3) (state_for_not_walked None [] [] [] 0 300 []) ((Err (Raised (id 0))), for_not_walked_0_at_2)
unfolding equal ordered
for_not_walked_0 =
    stmt_node recorder program_for_not_walked for_not_walked_t3 299 (y.outs-Assign ((target.Name (codes "var_8")) ∷ []) false None for_not_walked_t2) refl (then_err (value_for_not_walked for_not_walked_t2) _ (Raised (id 0)) for_not_walked_0_at_2 (expr_node recorder program_for_not_walked for_not_walked_t2 298 (x.outs-Method for_not_walked_t1 (codes "f") (args [] [])) refl (then_ok (value_for_not_walked for_not_walked_t1) _ (v.ModuleRef, (j.Plain true)) (state_for_not_walked None [] [] [] 0 297 []) (expr_node recorder program_for_not_walked for_not_walked_t1 297 (x.outs-Name (codes "module_0")) refl (leaf (simp views))) (then_ok (finds program_for_not_walked v.ModuleRef (codes "f")) _ (callee.Value (v.Func (func_id 0))) (state_for_not_walked None [] [] [] 0 297 []) (leaf (first_of (simp views, simp tuples, search))) (as_run (plain_arguments recorder program_for_not_walked (value_for_not_walked) (means_for_not_walked) (callee.Value (v.Func (func_id 0))) [] [] []) (ap (λ args. plain_arguments recorder program_for_not_walked (value_for_not_walked) (means_for_not_walked) (callee.Value (v.Func (func_id 0))) [] args.plain args.named (state_for_not_walked None [] [] [] 0 297 [])) (out-roll-Args _)) (as_run (calls_function recorder program_for_not_walked (means_for_not_walked) (func_id 0) [] []) (ap (λ level. calls_value recorder program_for_not_walked (means_for_not_walked) level [] [] (state_for_not_walked None [] [] [] 0 297 [])) (outs-Func _)) (as_run (inside recorder program_for_not_walked (means_for_not_walked) (func_id 0) function_for_not_walked_0 []) (let same : calls_function recorder program_for_not_walked (means_for_not_walked) (func_id 0) [] [] (state_for_not_walked None [] [] [] 0 297 []) ≡ inside recorder program_for_not_walked (means_for_not_walked) (func_id 0) function_for_not_walked_0 [] (state_for_not_walked None [] [] [] 0 297 []) = refl in same) (gives_same (leaves (state_for_not_walked None [] [] [] 0 297 []).frame ((Err (Raised (id 0))), for_not_walked_0_at_1)) (in_frame recorder program_for_not_walked (func_id 0) function_for_not_walked_0 [] (Err (Raised (id 0))) for_not_walked_0_at_1 (then_ok (begins recorder (node 0)) _ tt (state_for_not_walked (Some (func_id 0)) [] [] [] 1 296 (began 0 ∷ [])) (leaf refl) (then_err (means_for_not_walked for_not_walked_n1) _ (Raised (id 0)) for_not_walked_0_at_1 (stmt_node recorder program_for_not_walked for_not_walked_n1 295 (y.outs-For ((codes "a") ∷ []) false for_not_walked_n2 (for_not_walked_n3 ∷ [])) refl (then_ok (value_for_not_walked for_not_walked_n2) _ ((v.Int (pos 5)), (j.Plain true)) (state_for_not_walked (Some (func_id 0)) [] [] [] 1 294 (began 0 ∷ began 1 ∷ began 2 ∷ [])) (expr_node recorder program_for_not_walked for_not_walked_n2 294 (x.outs-IntLit (pos 5)) refl (leaf (simp views))) (leaf (first_of (simp views, simp tuples, search)))))))) (refl)))))))))

abbrev value_for_out_of_steps : Expr → Run Trail Finding
value_for_out_of_steps = value_of recorder program_for_out_of_steps

abbrev means_for_out_of_steps : Stmt → Run Trail Finding
means_for_out_of_steps = means recorder program_for_out_of_steps

abbrev for_out_of_steps_0_seen_1 : Trail
for_out_of_steps_0_seen_1 = began 0 ∷ began 1 ∷ began 2 ∷ began 3 ∷ began 4 ∷ Decided (node 1) (j.Plain true) true ∷ began 5 ∷ []

abbrev for_out_of_steps_0_seen_2 : Trail
for_out_of_steps_0_seen_2 = began 0 ∷ began 1 ∷ began 2 ∷ began 3 ∷ began 4 ∷ Decided (node 1) (j.Plain true) true ∷ []

abbrev for_out_of_steps_0_seen_3 : Trail
for_out_of_steps_0_seen_3 = began 0 ∷ began 1 ∷ began 2 ∷ began 3 ∷ began 4 ∷ []

abbrev for_out_of_steps_0_at_1 : State World Trail
for_out_of_steps_0_at_1 = state_for_out_of_steps (Some (func_id 0)) (((codes "i"), (v.Int (pos 4))) ∷ []) [] [] 1 0 for_out_of_steps_0_seen_1

abbrev for_out_of_steps_0_at_2 : State World Trail
for_out_of_steps_0_at_2 = state_for_out_of_steps (Some (func_id 0)) [] [] [] 1 2 for_out_of_steps_0_seen_3

abbrev for_out_of_steps_0_at_3 : State World Trail
for_out_of_steps_0_at_3 = state_for_out_of_steps (Some (func_id 0)) [] [] [] 1 1 for_out_of_steps_0_seen_3

abbrev for_out_of_steps_0_at_4 : State World Trail
for_out_of_steps_0_at_4 = state_for_out_of_steps None [] [] [] 0 0 for_out_of_steps_0_seen_1

pub for_out_of_steps_0 : Yields (means_for_out_of_steps for_out_of_steps_t3) (state_for_out_of_steps None [] [] [] 0 12 []) ((Err OutOfSteps), for_out_of_steps_0_at_4)
unfolding equal ordered
for_out_of_steps_0 =
    stmt_node recorder program_for_out_of_steps for_out_of_steps_t3 11 (y.outs-Assign ((target.Name (codes "var_8")) ∷ []) false None for_out_of_steps_t2) refl (then_err (value_for_out_of_steps for_out_of_steps_t2) _ OutOfSteps for_out_of_steps_0_at_4 (expr_node recorder program_for_out_of_steps for_out_of_steps_t2 10 (x.outs-Method for_out_of_steps_t1 (codes "f") (args [] [])) refl (then_ok (value_for_out_of_steps for_out_of_steps_t1) _ (v.ModuleRef, (j.Plain true)) (state_for_out_of_steps None [] [] [] 0 9 []) (expr_node recorder program_for_out_of_steps for_out_of_steps_t1 9 (x.outs-Name (codes "module_0")) refl (leaf (simp views))) (then_ok (finds program_for_out_of_steps v.ModuleRef (codes "f")) _ (callee.Value (v.Func (func_id 0))) (state_for_out_of_steps None [] [] [] 0 9 []) (leaf (first_of (simp views, simp tuples, search))) (as_run (plain_arguments recorder program_for_out_of_steps (value_for_out_of_steps) (means_for_out_of_steps) (callee.Value (v.Func (func_id 0))) [] [] []) (ap (λ args. plain_arguments recorder program_for_out_of_steps (value_for_out_of_steps) (means_for_out_of_steps) (callee.Value (v.Func (func_id 0))) [] args.plain args.named (state_for_out_of_steps None [] [] [] 0 9 [])) (out-roll-Args _)) (as_run (calls_function recorder program_for_out_of_steps (means_for_out_of_steps) (func_id 0) [] []) (ap (λ level. calls_value recorder program_for_out_of_steps (means_for_out_of_steps) level [] [] (state_for_out_of_steps None [] [] [] 0 9 [])) (outs-Func _)) (as_run (inside recorder program_for_out_of_steps (means_for_out_of_steps) (func_id 0) function_for_out_of_steps_0 []) (let same : calls_function recorder program_for_out_of_steps (means_for_out_of_steps) (func_id 0) [] [] (state_for_out_of_steps None [] [] [] 0 9 []) ≡ inside recorder program_for_out_of_steps (means_for_out_of_steps) (func_id 0) function_for_out_of_steps_0 [] (state_for_out_of_steps None [] [] [] 0 9 []) = refl in same) (gives_same (leaves (state_for_out_of_steps None [] [] [] 0 9 []).frame ((Err OutOfSteps), for_out_of_steps_0_at_1)) (in_frame recorder program_for_out_of_steps (func_id 0) function_for_out_of_steps_0 [] (Err OutOfSteps) for_out_of_steps_0_at_1 (then_ok (begins recorder (node 0)) _ tt (state_for_out_of_steps (Some (func_id 0)) [] [] [] 1 8 (began 0 ∷ [])) (leaf refl) (then_err (means_for_out_of_steps for_out_of_steps_n1) _ OutOfSteps for_out_of_steps_0_at_1 (stmt_node recorder program_for_out_of_steps for_out_of_steps_n1 7 (y.outs-For ((codes "i") ∷ []) false for_out_of_steps_n2 (for_out_of_steps_n5 ∷ [])) refl (then_ok (value_for_out_of_steps for_out_of_steps_n2) _ ((tuple ((v.Int (pos 4)) ∷ (v.Int (pos 5)) ∷ [])), (j.Plain true)) for_out_of_steps_0_at_2 (expr_node recorder program_for_out_of_steps for_out_of_steps_n2 6 (x.outs-TupleLit (for_out_of_steps_n3 ∷ for_out_of_steps_n4 ∷ [])) refl (then_ok (value_for_out_of_steps for_out_of_steps_n3) _ ((v.Int (pos 4)), (j.Plain true)) (state_for_out_of_steps (Some (func_id 0)) [] [] [] 1 5 (began 0 ∷ began 1 ∷ began 2 ∷ began 3 ∷ [])) (expr_node recorder program_for_out_of_steps for_out_of_steps_n3 5 (x.outs-IntLit (pos 4)) refl (leaf (simp views))) (then_ok (value_for_out_of_steps for_out_of_steps_n4) _ ((v.Int (pos 5)), (j.Plain true)) (state_for_out_of_steps (Some (func_id 0)) [] [] [] 1 4 for_out_of_steps_0_seen_3) (expr_node recorder program_for_out_of_steps for_out_of_steps_n4 4 (x.outs-IntLit (pos 5)) refl (leaf (simp views))) (leaf (first_of (simp views, simp tuples, search)))))) (as_run (for_walk recorder program_for_out_of_steps (value_for_out_of_steps) (means_for_out_of_steps) (node 1) ((codes "i") ∷ []) false (for_out_of_steps_n5 ∷ []) (walk_at (tuple ((v.Int (pos 4)) ∷ (v.Int (pos 5)) ∷ [])) 0 0 0)) (ap (λ level. (if is_walked [] level then for_walk recorder program_for_out_of_steps (value_for_out_of_steps) (means_for_out_of_steps) (node 1) ((codes "i") ∷ []) false (for_out_of_steps_n5 ∷ []) (walk_at (tuple ((v.Int (pos 4)) ∷ (v.Int (pos 5)) ∷ [])) (size_at [] (dict_walked [] level)) (changes_at [] (dict_walked [] level)) 0) else raises built.TypeError) for_out_of_steps_0_at_2) (tuple-out _)) (as_run (for_turn recorder program_for_out_of_steps (value_for_out_of_steps) (means_for_out_of_steps) (node 1) (λ next. for_walk recorder program_for_out_of_steps (value_for_out_of_steps) (means_for_out_of_steps) (node 1) ((codes "i") ∷ []) false (for_out_of_steps_n5 ∷ []) next) ((codes "i") ∷ []) false (for_out_of_steps_n5 ∷ []) (walk_at (tuple ((v.Int (pos 4)) ∷ (v.Int (pos 5)) ∷ [])) 0 0 0)) (for_walk-out recorder program_for_out_of_steps (node 1) ((codes "i") ∷ []) false (for_out_of_steps_n5 ∷ []) (walk_at (tuple ((v.Int (pos 4)) ∷ (v.Int (pos 5)) ∷ [])) 0 0 0) for_out_of_steps_0_at_2) (then_ok (checks (walk_at (tuple ((v.Int (pos 4)) ∷ (v.Int (pos 5)) ∷ [])) 0 0 0)) _ tt for_out_of_steps_0_at_2 (leaf (first_of (simp views, simp tuples, search))) (as_run (for_element recorder program_for_out_of_steps (value_for_out_of_steps) (means_for_out_of_steps) (node 1) (λ next. for_walk recorder program_for_out_of_steps (value_for_out_of_steps) (means_for_out_of_steps) (node 1) ((codes "i") ∷ []) false (for_out_of_steps_n5 ∷ []) next) ((codes "i") ∷ []) false (for_out_of_steps_n5 ∷ []) (walk_at (tuple ((v.Int (pos 4)) ∷ (v.Int (pos 5)) ∷ [])) 0 0 0) (Some (v.Int (pos 4)))) (ap (λ level. for_element recorder program_for_out_of_steps (value_for_out_of_steps) (means_for_out_of_steps) (node 1) (λ next. for_walk recorder program_for_out_of_steps (value_for_out_of_steps) (means_for_out_of_steps) (node 1) ((codes "i") ∷ []) false (for_out_of_steps_n5 ∷ []) next) ((codes "i") ∷ []) false (for_out_of_steps_n5 ∷ []) (walk_at (tuple ((v.Int (pos 4)) ∷ (v.Int (pos 5)) ∷ [])) 0 0 0) (element_at [] level 0) for_out_of_steps_0_at_2) (tuple-out _)) (then_ok (takes 1) (λ _. takes_element recorder program_for_out_of_steps (node 1) ((codes "i") ∷ []) false (for_out_of_steps_n5 ∷ []) (for_walk recorder program_for_out_of_steps (value_for_out_of_steps) (means_for_out_of_steps) (node 1) ((codes "i") ∷ []) false (for_out_of_steps_n5 ∷ []) (walk_at (tuple ((v.Int (pos 4)) ∷ (v.Int (pos 5)) ∷ [])) 0 0 1)) (walk_at (tuple ((v.Int (pos 4)) ∷ (v.Int (pos 5)) ∷ [])) 0 0 0) (v.Int (pos 4))) tt for_out_of_steps_0_at_3 (leaf refl) (then_ok (makes_element (gives_new_tuples (out-Value (tuple ((v.Int (pos 4)) ∷ (v.Int (pos 5)) ∷ [])))) (v.Int (pos 4))) (λ _. decides recorder (node 1) (j.Plain true) true >> (binds_names false ((codes "i") ∷ []) (v.Int (pos 4)) >> (after_end (block recorder program_for_out_of_steps (means_for_out_of_steps) (for_out_of_steps_n5 ∷ [])) (after_turn (for_walk recorder program_for_out_of_steps (value_for_out_of_steps) (means_for_out_of_steps) (node 1) ((codes "i") ∷ []) false (for_out_of_steps_n5 ∷ []) (walk_at (tuple ((v.Int (pos 4)) ∷ (v.Int (pos 5)) ∷ [])) 0 0 1)))))) tt for_out_of_steps_0_at_3 (leaf (first_of (simp views, simp tuples, search))) (then_ok (decides recorder (node 1) (j.Plain true) true) (λ _. binds_names false ((codes "i") ∷ []) (v.Int (pos 4)) >> (after_end (block recorder program_for_out_of_steps (means_for_out_of_steps) (for_out_of_steps_n5 ∷ [])) (after_turn (for_walk recorder program_for_out_of_steps (value_for_out_of_steps) (means_for_out_of_steps) (node 1) ((codes "i") ∷ []) false (for_out_of_steps_n5 ∷ []) (walk_at (tuple ((v.Int (pos 4)) ∷ (v.Int (pos 5)) ∷ [])) 0 0 1))))) tt (state_for_out_of_steps (Some (func_id 0)) [] [] [] 1 1 for_out_of_steps_0_seen_2) (leaf refl) (then_ok (binds_names false ((codes "i") ∷ []) (v.Int (pos 4))) (λ _. (after_end (block recorder program_for_out_of_steps (means_for_out_of_steps) (for_out_of_steps_n5 ∷ [])) (after_turn (for_walk recorder program_for_out_of_steps (value_for_out_of_steps) (means_for_out_of_steps) (node 1) ((codes "i") ∷ []) false (for_out_of_steps_n5 ∷ []) (walk_at (tuple ((v.Int (pos 4)) ∷ (v.Int (pos 5)) ∷ [])) 0 0 1))))) (v.None, (j.Plain false)) (state_for_out_of_steps (Some (func_id 0)) (((codes "i"), (v.Int (pos 4))) ∷ []) [] [] 1 1 for_out_of_steps_0_seen_2) (leaf (first_of (simp views, simp tuples, search))) (then_after (block recorder program_for_out_of_steps (means_for_out_of_steps) (for_out_of_steps_n5 ∷ [])) (after_turn (for_walk recorder program_for_out_of_steps (value_for_out_of_steps) (means_for_out_of_steps) (node 1) ((codes "i") ∷ []) false (for_out_of_steps_n5 ∷ []) (walk_at (tuple ((v.Int (pos 4)) ∷ (v.Int (pos 5)) ∷ [])) 0 0 1))) (Ok (v.None, (j.Plain false))) for_out_of_steps_0_at_1 (then_ok (means_for_out_of_steps for_out_of_steps_n5) _ (v.None, (j.Plain false)) for_out_of_steps_0_at_1 (stmt_node recorder program_for_out_of_steps for_out_of_steps_n5 0 (y.outs-Pass) refl (leaf refl)) (leaf refl)) (as_run (for_turn recorder program_for_out_of_steps (value_for_out_of_steps) (means_for_out_of_steps) (node 1) (λ next. for_walk recorder program_for_out_of_steps (value_for_out_of_steps) (means_for_out_of_steps) (node 1) ((codes "i") ∷ []) false (for_out_of_steps_n5 ∷ []) next) ((codes "i") ∷ []) false (for_out_of_steps_n5 ∷ []) (walk_at (tuple ((v.Int (pos 4)) ∷ (v.Int (pos 5)) ∷ [])) 0 0 1)) (for_walk-out recorder program_for_out_of_steps (node 1) ((codes "i") ∷ []) false (for_out_of_steps_n5 ∷ []) (walk_at (tuple ((v.Int (pos 4)) ∷ (v.Int (pos 5)) ∷ [])) 0 0 1) for_out_of_steps_0_at_1) (then_ok (checks (walk_at (tuple ((v.Int (pos 4)) ∷ (v.Int (pos 5)) ∷ [])) 0 0 1)) _ tt for_out_of_steps_0_at_1 (leaf (first_of (simp views, simp tuples, search))) (as_run (for_element recorder program_for_out_of_steps (value_for_out_of_steps) (means_for_out_of_steps) (node 1) (λ next. for_walk recorder program_for_out_of_steps (value_for_out_of_steps) (means_for_out_of_steps) (node 1) ((codes "i") ∷ []) false (for_out_of_steps_n5 ∷ []) next) ((codes "i") ∷ []) false (for_out_of_steps_n5 ∷ []) (walk_at (tuple ((v.Int (pos 4)) ∷ (v.Int (pos 5)) ∷ [])) 0 0 1) (Some (v.Int (pos 5)))) (ap (λ level. for_element recorder program_for_out_of_steps (value_for_out_of_steps) (means_for_out_of_steps) (node 1) (λ next. for_walk recorder program_for_out_of_steps (value_for_out_of_steps) (means_for_out_of_steps) (node 1) ((codes "i") ∷ []) false (for_out_of_steps_n5 ∷ []) next) ((codes "i") ∷ []) false (for_out_of_steps_n5 ∷ []) (walk_at (tuple ((v.Int (pos 4)) ∷ (v.Int (pos 5)) ∷ [])) 0 0 1) (element_at [] level 1) for_out_of_steps_0_at_1) (tuple-out _)) (then_err (takes 1) (λ _. takes_element recorder program_for_out_of_steps (node 1) ((codes "i") ∷ []) false (for_out_of_steps_n5 ∷ []) (for_walk recorder program_for_out_of_steps (value_for_out_of_steps) (means_for_out_of_steps) (node 1) ((codes "i") ∷ []) false (for_out_of_steps_n5 ∷ []) (walk_at (tuple ((v.Int (pos 4)) ∷ (v.Int (pos 5)) ∷ [])) 0 0 2)) (walk_at (tuple ((v.Int (pos 4)) ∷ (v.Int (pos 5)) ∷ [])) 0 0 1) (v.Int (pos 5))) OutOfSteps for_out_of_steps_0_at_1 (leaf refl))))))))))))))))))) (refl)))))))))

abbrev value_while_return : Expr → Run Trail Finding
value_while_return = value_of recorder program_while_return

abbrev means_while_return : Stmt → Run Trail Finding
means_while_return = means recorder program_while_return

abbrev while_return_0_seen_1 : Trail
while_return_0_seen_1 = began 0 ∷ began 1 ∷ began 2 ∷ Decided (node 2) (j.Plain true) true ∷ began 3 ∷ began 4 ∷ []

abbrev while_return_0_at_1 : State World Trail
while_return_0_at_1 = state_while_return (Some (func_id 0)) (((codes "n"), (v.Int (pos 5))) ∷ []) [] [] 1 293 (began 0 ∷ began 1 ∷ began 2 ∷ [])

abbrev while_return_0_at_2 : State World Trail
while_return_0_at_2 = state_while_return (Some (func_id 0)) (((codes "n"), (v.Int (pos 5))) ∷ []) [] [] 1 291 while_return_0_seen_1

pub while_return_0 : Yields (means_while_return while_return_t4) (state_while_return None [] [] [] 0 300 []) ((Ok (v.None, (j.Plain false))), (state_while_return None (((codes "var_8"), (v.Int (pos 5))) ∷ []) [] [] 0 291 while_return_0_seen_1))
unfolding equal ordered
while_return_0 =
    stmt_node recorder program_while_return while_return_t4 299 (y.outs-Assign ((target.Name (codes "var_8")) ∷ []) false None while_return_t3) refl (then_ok (value_while_return while_return_t3) _ ((v.Int (pos 5)), (j.Plain true)) (state_while_return None [] [] [] 0 291 while_return_0_seen_1) (expr_node recorder program_while_return while_return_t3 298 (x.outs-Method while_return_t1 (codes "f") (args (while_return_t2 ∷ []) [])) refl (then_ok (value_while_return while_return_t1) _ (v.ModuleRef, (j.Plain true)) (state_while_return None [] [] [] 0 297 []) (expr_node recorder program_while_return while_return_t1 297 (x.outs-Name (codes "module_0")) refl (leaf (simp views))) (then_ok (finds program_while_return v.ModuleRef (codes "f")) _ (callee.Value (v.Func (func_id 0))) (state_while_return None [] [] [] 0 297 []) (leaf (first_of (simp views, simp tuples, search))) (as_run (plain_arguments recorder program_while_return (value_while_return) (means_while_return) (callee.Value (v.Func (func_id 0))) [] (while_return_t2 ∷ []) []) (ap (λ args. plain_arguments recorder program_while_return (value_while_return) (means_while_return) (callee.Value (v.Func (func_id 0))) [] args.plain args.named (state_while_return None [] [] [] 0 297 [])) (out-roll-Args _)) (then_ok (value_while_return while_return_t2) _ ((v.Int (pos 5)), (j.Plain true)) (state_while_return None [] [] [] 0 296 []) (expr_node recorder program_while_return while_return_t2 296 (x.outs-IntLit (pos 5)) refl (leaf (simp views))) (as_run (calls_function recorder program_while_return (means_while_return) (func_id 0) ((v.Int (pos 5)) ∷ []) []) (ap (λ level. calls_value recorder program_while_return (means_while_return) level ((v.Int (pos 5)) ∷ []) [] (state_while_return None [] [] [] 0 296 [])) (outs-Func _)) (as_run (inside recorder program_while_return (means_while_return) (func_id 0) function_while_return_0 (((codes "n"), (v.Int (pos 5))) ∷ [])) (let same : calls_function recorder program_while_return (means_while_return) (func_id 0) ((v.Int (pos 5)) ∷ []) [] (state_while_return None [] [] [] 0 296 []) ≡ inside recorder program_while_return (means_while_return) (func_id 0) function_while_return_0 (((codes "n"), (v.Int (pos 5))) ∷ []) (state_while_return None [] [] [] 0 296 []) = refl in same) (gives_same (leaves (state_while_return None [] [] [] 0 296 []).frame ((Err (Returned (v.Int (pos 5)))), while_return_0_at_2)) (in_frame recorder program_while_return (func_id 0) function_while_return_0 (((codes "n"), (v.Int (pos 5))) ∷ []) (Err (Returned (v.Int (pos 5)))) while_return_0_at_2 (then_ok (begins recorder (node 0)) _ tt (state_while_return (Some (func_id 0)) (((codes "n"), (v.Int (pos 5))) ∷ []) [] [] 1 295 (began 0 ∷ [])) (leaf refl) (then_err (means_while_return while_return_n1) _ (Returned (v.Int (pos 5))) while_return_0_at_2 (stmt_node recorder program_while_return while_return_n1 294 (y.outs-While while_return_n2 (while_return_n3 ∷ [])) refl (as_run (while_turn recorder program_while_return (value_while_return) (means_while_return) (while_loop recorder program_while_return (value_while_return) (means_while_return) while_return_n2 (while_return_n3 ∷ [])) while_return_n2 (while_return_n3 ∷ [])) (while_loop-out recorder program_while_return while_return_n2 (while_return_n3 ∷ []) (state_while_return (Some (func_id 0)) (((codes "n"), (v.Int (pos 5))) ∷ []) [] [] 1 294 (began 0 ∷ began 1 ∷ []))) (then_ok (value_while_return while_return_n2) _ ((v.Int (pos 5)), (j.Plain true)) while_return_0_at_1 (expr_node recorder program_while_return while_return_n2 293 (x.outs-Name (codes "n")) refl (leaf (simp views))) (then_ok (tests (v.Int (pos 5))) (λ outcome. decides recorder (node 2) (j.Plain true) outcome >> (if outcome then (after_end (block recorder program_while_return (means_while_return) (while_return_n3 ∷ [])) (after_turn (while_loop recorder program_while_return (value_while_return) (means_while_return) while_return_n2 (while_return_n3 ∷ [])))) else passes)) true while_return_0_at_1 (leaf (first_of (simp views, simp tuples, search))) (then_ok (decides recorder (node 2) (j.Plain true) true) (λ _. (after_end (block recorder program_while_return (means_while_return) (while_return_n3 ∷ [])) (after_turn (while_loop recorder program_while_return (value_while_return) (means_while_return) while_return_n2 (while_return_n3 ∷ []))))) tt (state_while_return (Some (func_id 0)) (((codes "n"), (v.Int (pos 5))) ∷ []) [] [] 1 293 (began 0 ∷ began 1 ∷ began 2 ∷ Decided (node 2) (j.Plain true) true ∷ [])) (leaf refl) (then_after (block recorder program_while_return (means_while_return) (while_return_n3 ∷ [])) (after_turn (while_loop recorder program_while_return (value_while_return) (means_while_return) while_return_n2 (while_return_n3 ∷ []))) (Err (Returned (v.Int (pos 5)))) while_return_0_at_2 (then_err (means_while_return while_return_n3) _ (Returned (v.Int (pos 5))) while_return_0_at_2 (stmt_node recorder program_while_return while_return_n3 292 (y.outs-Return (Some while_return_n4)) refl (then_ok (value_while_return while_return_n4) _ ((v.Int (pos 5)), (j.Plain true)) while_return_0_at_2 (expr_node recorder program_while_return while_return_n4 291 (x.outs-Name (codes "n")) refl (leaf (simp views))) (leaf refl)))) (leaf refl)))))))))) (simp views))))))))) (leaf refl))
