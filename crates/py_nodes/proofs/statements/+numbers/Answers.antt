use Rattle.std.proofs.Common.{◌∙◌, refl, sym, ap, ap₂, map}
use Rattle.py_syntax.specs.declared.stmt.StmtKind.TheVariants as s
use Rattle.py_language.specs.TreesNumbers.{in_order}
use Rattle.py_nodes.specs.Expressions.{expr}
use Rattle.py_nodes.specs.Numbers.{clause}
use Rattle.py_nodes.specs.CodeStatements.{arm_of, block_of, maybe_block_of}
use Rattle.py_nodes.proofs.Steps.{made_is, both, then_is, all_done}
use Rattle.py_nodes.proofs.StmtParts.{if_is, while_is, for_is, try_is}
use Rattle.py_nodes.proofs.statements.+numbers.Goals as goal

pub branches-returns : goal.branches-returns
branches-returns t c =
    let counted = c.args.counted in
    let arms = c.as_slice-arms.result.now in
    let other = c.in-If.other in
    made_is (λ q. s.If q.0 q.1) (both (in_order (map (arm_of counted) arms)) (maybe_block_of counted other)) c.args.number _ _ _ _
    (if_is counted _ arms other c.args.number (c.in-If.is ∙ ap (λ xs. s.If xs other) (sym c.as_slice-arms.ensures)))
    (then_is (in_order (map (arm_of counted) arms)) (maybe_block_of counted other) _ _ _ _ _ (all_done (arm_of counted) arms c.loop-arm.arm-index c.loop-arm.done c.loop-arm.next _ c.loop-arm-test.false c.loop-arm.invariant) c.in_ok-other-in-If.ensures) refl

pub kind-returns-in_ok-body-in-While : goal.kind-returns-in_ok-body-in-While
kind-returns-in_ok-body-in-While t c =
    let counted = c.args.counted in
    let x = c.in-While.x in
    let body = c.as_slice.result.now in
    made_is (λ q. s.While q.0 q.1) (both (expr counted x) (block_of counted body)) c.args.number _ _ _ _
    (while_is counted _ x body c.args.number (c.in-While.is ∙ ap (λ xs. s.While x xs) (sym c.as_slice.ensures)))
    (then_is (expr counted x) (block_of counted body) _ _ _ _ _ c.in_ok-test-in-While.ensures c.in_ok-body-in-While.ensures) refl

pub kind-returns-in_ok-body-in-For : goal.kind-returns-in_ok-body-in-For
kind-returns-in_ok-body-in-For t c =
    let counted = c.args.counted in
    let x = c.in-For.x in
    let names = c.in-For.names in
    let is_tuple = c.in-For.is_tuple in
    let body = c.as_slice-in-For-2.result.now in
    made_is (λ q. s.For names is_tuple q.0 q.1) (both (expr counted x) (block_of counted body)) c.args.number _ _ _ _
    (for_is counted _ names is_tuple x body c.args.number (c.in-For.is ∙ ap (λ xs. s.For names is_tuple x xs) (sym c.as_slice-in-For-2.ensures)))
    (then_is (expr counted x) (block_of counted body) _ _ _ _ _ c.in_ok-walked-in-For.ensures c.in_ok-body-in-For.ensures)
    (ap (λ ns. s.For ns is_tuple c.in_ok-walked-in-For.walked c.in_ok-body-in-For.body) (c.in_ok-names-in-For.ensures ∙ c.as_slice-in-For.ensures))

pub kind-returns-in_ok-last-in-Try : goal.kind-returns-in_ok-last-in-Try
kind-returns-in_ok-last-in-Try t c =
    let counted = c.args.counted in
    let body = c.as_slice-in-Try.result.now in
    let clauses = c.as_slice-in-Try-2.result.now in
    let other = c.in-Try.other in
    let last = c.in-Try.last in
    let first = both (block_of counted body) (in_order (map (clause counted) clauses)) in
    let second = both first (maybe_block_of counted other) in
    made_is (λ q. s.Try q.0.0.0 q.0.0.1 q.0.1 q.1) (both second (maybe_block_of counted last)) c.args.number _ _ _ _
    (try_is counted _ body clauses other last c.args.number (c.in-Try.is ∙ ap₂ (λ b cs. s.Try b cs other last) (sym c.as_slice-in-Try.ensures) (sym c.as_slice-in-Try-2.ensures)))
    (then_is second (maybe_block_of counted last) _ _ _ _ _
    (then_is first (maybe_block_of counted other) _ _ _ _ _
    (then_is (block_of counted body) (in_order (map (clause counted) clauses)) _ _ _ _ _ c.in_ok-body-in-Try.ensures c.in_ok-clauses-in-Try.ensures)
    c.in_ok-other-in-Try.ensures) c.in_ok-last-in-Try.ensures) refl
