use Rattle.std.proofs.Common.{◌+◌, ◌++◌, drop, sym, ap, ap₂, ◌∙◌}
use Rattle.suite_model.specs.Callables.{callables_from}
use Rattle.test_chromosome.specs.Counts.{item_callables}
use Rattle.test_chromosome.proofs.Counting.{item_step, stepped}
use Rattle.test_chromosome.proofs.listing.callables.Goals as goal

pub loop-item-preserved : goal.loop-item-preserved
loop-item-preserved c =
    let items = c.args.tree.now.items in
    let list = c.loop-item.list.items in
    let functions = c.loop-item.functions in
    let classes = c.loop-item.classes in
    let one = c.item-item.result in
    let rest = drop (c.loop-item.item-index + 1) items in
    let step = stepped items c.loop-item.item-index one (rw c.as_slice-item-items.ensures at c.loop-item-test.true) (rw c.as_slice-item-items.ensures at c.item-item.is) in
    ap (λ xs. xs ++ callables_from c.in_ok-functions.functions c.in_ok-classes.classes rest) c.in_ok-add_item.ensures
    ∙ ap₂ (λ f k. (list ++ item_callables functions classes one) ++ callables_from f k rest) c.in_ok-functions.ensures c.in_ok-classes.ensures
    ∙ item_step list functions classes one rest
    ∙ ap (λ xs. list ++ callables_from functions classes xs) (sym step)
    ∙ c.loop-item.invariant
