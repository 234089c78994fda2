use Rattle.py_effects.proofs.Performing.{performed}
use Rattle.py_effects.proofs.answers.settle_change.Goals as goal

pub returns-clause-meant : goal.returns-clause-meant
returns-clause-meant g c change before had h = performed change before had c.args.s.now c.args.answer (c.in_ok-end.end, c.settle.new.s) c.in_ok-end.ensures.meant h
