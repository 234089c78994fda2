use Rattle.std.proofs.Common.{◌-◌, if◌then◌else◌, length, sym, ◌∙◌, ap}
use Rattle.py_builtins.proofs.Integers.{of_ascii}
use Rattle.py_builtins.proofs.numbers.integer_of_text.Goals as goal

pub returns-then-is_ascii-clause-meant : goal.returns-then-is_ascii-clause-meant
returns-then-is_ascii-clause-meant c = of_ascii c.args.text.now c.args.fuel.now _ _ (sym c.if-not-take.ensures.enough) (sym c.is_ascii.ensures ∙ c.if-is_ascii.true)
    (c.take.ensures.left ∙ ap (λ b. if b then c.args.fuel.now - length c.args.text.now else c.args.fuel.now) (sym c.if-not-take.ensures.enough)) (c.spelled.ensures _)
