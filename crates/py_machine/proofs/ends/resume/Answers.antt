use Rattle.std.proofs.Common.{ap, sym, arith}
use Rattle.py_plain.specs.Runs.{watched_by}
use Rattle.py_frames.specs.Rest.{finish}
use Rattle.py_machine.proofs.Lightness.{pending_weighs, kept_load}
use Rattle.py_machine.proofs.ends.resume.Goals as goal

pub returns-in-Then-clause-falls : goal.returns-in-Then-clause-falls
returns-in-Then-clause-falls g c =
    let weighs = pending_weighs c.in-Then.pending in
    rw (c.in-Then.is, c.in-Err.is) (record { fewer = omega arith; lighter = λ e. omega (arith, weighs) })

pub returns-clause-meant : goal.returns-clause-meant
returns-clause-meant g c =
    rw (c.in-Keep.is) (ap (finish (watched_by g.P.Probe.after_began g.P.Probe.after_judged) c.args.tables.now c.args.stack.now.items) (sym (c.end_last.ensures c.args.s.now)))

pub returns-clause-falls : goal.returns-clause-falls
returns-clause-falls g c =
    let lighter = kept_load c.in-Keep.before c.args.end c.end_last.result c.args.s.now (c.end_last.ensures c.args.s.now) in
    rw (c.in-Keep.is) (record { fewer = omega arith; lighter = λ e. omega (arith, lighter) })
