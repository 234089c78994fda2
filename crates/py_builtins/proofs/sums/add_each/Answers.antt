use Rattle.std.proofs.Common.{◌+◌, drop, ap, sym, ◌∙◌, arith}
use Rattle.py_meaning.specs.declared.op.Op.TheVariants as op
use Rattle.py_meaning.specs.Builtins.{add_all}
use Rattle.py_builtins.proofs.Kept.{next, next_sum, faulted, still_kept, kept_sum}
use Rattle.py_builtins.proofs.sums.add_each.Goals as goal

pub returns-in_default-clause-meant : goal.returns-in_default-clause-meant
returns-in_default-clause-meant c = let loop = c.loop-item in
    faulted loop.total c.item-item.result (drop (loop.item-index + 1) c.args.items.now) loop.objects _ _ loop.fuel _
    (ap (λ xs. add_all loop.total xs loop.objects loop.fuel) (sym (next c.args.items.now loop.item-index c.item-item.result c.loop-item-test.true c.item-item.is)) ∙ loop.invariant.left)
    c.in_default.not-Done c.add.ensures.meant

pub loop-item-preserved : goal.loop-item-preserved
loop-item-preserved c = let loop = c.loop-item in record {
  left = sym (next_sum loop.total c.item-item.result (drop (loop.item-index + 1) c.args.items.now) loop.objects _ (op.Done c.in-Done.sum) loop.fuel _ c.in-Done.ensures.meant)
      ∙ ap (λ xs. add_all loop.total xs loop.objects loop.fuel) (sym (next c.args.items.now loop.item-index c.item-item.result c.loop-item-test.true c.item-item.is)) ∙ loop.invariant.left;
  kept = still_kept c.args.objects.now loop.objects _ loop.invariant.kept (kept_sum loop.objects _ loop.total c.item-item.result c.in-Done.sum loop.fuel _ c.in-Done.ensures.meant);
  fuel = omega (arith, loop.invariant.fuel, c.add.ensures.fuel);
}
