use Rattle.std.proofs.Common.{◌++◌, length, sym, ap, ◌∙◌}
use Rattle.py_plain.specs.Program.{functions_from, classes_from}
use Rattle.py_tables.proofs.Counts.{functions_step, classes_step, stepped}
use Rattle.py_tables.proofs.tables.Tables.new.Goals as goal

pub loop-item-preserved : goal.loop-item-preserved
loop-item-preserved c =
    let items = c.args.tree.now.items in
    let fs = c.loop-item.functions.items in
    let cs = c.loop-item.classes in
    let one = c.item-item.result in
    let step = stepped items c.loop-item.item-index one (rw c.as_slice-item-items.ensures at c.loop-item-test.true) (rw c.as_slice-item-items.ensures at c.item-item.is) in
    record {
      functions = rw (c.in_ok-add_item.ensures.functions, c.in_ok-add_item.ensures.classes)
          (functions_step fs cs one _ ∙ ap (λ xs. fs ++ functions_from (length cs) xs) (sym step) ∙ c.loop-item.invariant.functions);
      classes = rw (c.in_ok-add_item.ensures.functions, c.in_ok-add_item.ensures.classes)
          (classes_step fs cs one _ ∙ ap (λ xs. classes_from cs (length fs) xs) (sym step) ∙ c.loop-item.invariant.classes);
    }
