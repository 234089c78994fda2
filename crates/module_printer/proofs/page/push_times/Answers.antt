use Rattle.std.proofs.Common.{◌∙◌, sym, ap, ◌∷◌, ◌++◌, [], append-nil, append_assoc, arith}
use Rattle.std.specs.Prelude.{replicate}
use Rattle.module_printer.proofs.Pages.{one_more}
use Rattle.module_printer.proofs.page.push_times.Goals as goal

pub loop-i-init : goal.loop-i-init
loop-i-init c = sym (append-nil _)

pub loop-i-preserved : goal.loop-i-preserved
loop-i-preserved g =
    g.in_ok-push.ensures.ok ∙ ap (λ z. z ++ g.args.c ∷ []) g.loop-i.invariant ∙ append_assoc g.args.to.now (replicate g.loop-i._i g.args.c) (g.args.c ∷ []) ∙ ap (λ z. g.args.to.now ++ z) (one_more g.loop-i._i g.args.c)

pub returns : goal.returns
returns g = g.loop-i.invariant ∙ ap (λ n. g.args.to.now ++ replicate n g.args.c) (omega arith)
