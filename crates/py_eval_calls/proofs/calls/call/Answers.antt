use Rattle.std.proofs.Common.{refl}
use Rattle.py_plain.specs.Runs.{watched_by}
use Rattle.py_eval_calls.proofs.calls.call.Goals as goal

pub returns-clause-meant : goal.returns-clause-meant
returns-clause-meant g c = rw (c.in-BaseInit.is, c.in_ok-end-in-BaseInit.ensures.meant (watched_by g.P.Probe.after_began g.P.Probe.after_judged)) refl
