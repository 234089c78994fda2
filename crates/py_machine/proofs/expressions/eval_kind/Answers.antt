use Rattle.std.proofs.Common.{ap, sym}
use Rattle.py_syntax.specs.declared.expr.ExprKind.TheVariants.{outs-BoolLit, outs-IntLit, outs-StrLit, outs-Name, outs-Attr, outs-Index, outs-Slice, outs-Call, outs-Method, outs-Super, outs-Unary, outs-Not, outs-Binary, outs-And, outs-Or, outs-Compare, outs-Cond}
use Rattle.py_plain.specs.Runs.{watched_by}
use Rattle.py_frames.specs.Rest.{finish}
use Rattle.py_machine.proofs.expressions.eval_kind.Goals as goal

pub returns-in-BoolLit-clause-meant : goal.returns-in-BoolLit-clause-meant
returns-in-BoolLit-clause-meant g c = rw (c.in-BoolLit.is, outs-BoolLit) (ap (finish (watched_by g.P.Probe.after_began g.P.Probe.after_judged) c.args.tables.now c.args.stack.now.items) (sym c.give-in-BoolLit.ensures))

pub returns-in-IntLit-clause-meant : goal.returns-in-IntLit-clause-meant
returns-in-IntLit-clause-meant g c = rw (c.in-IntLit.is, outs-IntLit) (ap (finish (watched_by g.P.Probe.after_began g.P.Probe.after_judged) c.args.tables.now c.args.stack.now.items) (sym c.give-in-IntLit.ensures))

pub returns-in_ok-x-in-StrLit-clause-meant : goal.returns-in_ok-x-in-StrLit-clause-meant
returns-in_ok-x-in-StrLit-clause-meant g c = rw (c.in-StrLit.is, outs-StrLit, sym c.in_ok-x-in-StrLit.ensures) (ap (finish (watched_by g.P.Probe.after_began g.P.Probe.after_judged) c.args.tables.now c.args.stack.now.items) (sym c.give-in-StrLit.ensures))

pub returns-in_ok-end-in-Name-clause-meant : goal.returns-in_ok-end-in-Name-clause-meant
returns-in_ok-end-in-Name-clause-meant g c = rw (c.in-Name.is, outs-Name) (ap (finish (watched_by g.P.Probe.after_began g.P.Probe.after_judged) c.args.tables.now c.args.stack.now.items) (sym c.in_ok-end-in-Name.ensures.meant))

pub returns-in_ok-next-in-Attr-clause-meant : goal.returns-in_ok-next-in-Attr-clause-meant
returns-in_ok-next-in-Attr-clause-meant g c = rw (c.in-Attr.is, outs-Attr) (c.in_ok-next-in-Attr.ensures (watched_by g.P.Probe.after_began g.P.Probe.after_judged) c.args.tables.now c.args.s.now)

pub returns-in_ok-next-in-Index-clause-meant : goal.returns-in_ok-next-in-Index-clause-meant
returns-in_ok-next-in-Index-clause-meant g c = rw (c.in-Index.is, outs-Index) (c.in_ok-next-in-Index.ensures (watched_by g.P.Probe.after_began g.P.Probe.after_judged) c.args.tables.now c.args.s.now)

pub returns-in_ok-next-in-Slice-clause-meant : goal.returns-in_ok-next-in-Slice-clause-meant
returns-in_ok-next-in-Slice-clause-meant g c = rw (c.in-Slice.is, outs-Slice) (c.in_ok-next-in-Slice.ensures (watched_by g.P.Probe.after_began g.P.Probe.after_judged) c.args.tables.now c.args.s.now)

pub returns-in_ok-next-in-Method-clause-meant : goal.returns-in_ok-next-in-Method-clause-meant
returns-in_ok-next-in-Method-clause-meant g c = rw (c.in-Method.is, outs-Method) (c.in_ok-next-in-Method.ensures (watched_by g.P.Probe.after_began g.P.Probe.after_judged) c.args.tables.now c.args.s.now)

pub returns-in_ok-next-in-Unary-clause-meant : goal.returns-in_ok-next-in-Unary-clause-meant
returns-in_ok-next-in-Unary-clause-meant g c = rw (c.in-Unary.is, outs-Unary) (c.in_ok-next-in-Unary.ensures (watched_by g.P.Probe.after_began g.P.Probe.after_judged) c.args.tables.now c.args.s.now)

pub returns-in_ok-next-in-Not-clause-meant : goal.returns-in_ok-next-in-Not-clause-meant
returns-in_ok-next-in-Not-clause-meant g c = rw (c.in-Not.is, outs-Not) (c.in_ok-next-in-Not.ensures (watched_by g.P.Probe.after_began g.P.Probe.after_judged) c.args.tables.now c.args.s.now)

pub returns-in_ok-next-in-Binary-clause-meant : goal.returns-in_ok-next-in-Binary-clause-meant
returns-in_ok-next-in-Binary-clause-meant g c = rw (c.in-Binary.is, outs-Binary) (c.in_ok-next-in-Binary.ensures (watched_by g.P.Probe.after_began g.P.Probe.after_judged) c.args.tables.now c.args.s.now)

pub returns-in_ok-next-in-Compare-clause-meant : goal.returns-in_ok-next-in-Compare-clause-meant
returns-in_ok-next-in-Compare-clause-meant g c = rw (c.in-Compare.is, outs-Compare) (c.in_ok-next-in-Compare.ensures (watched_by g.P.Probe.after_began g.P.Probe.after_judged) c.args.tables.now c.args.s.now)

pub returns-in_ok-next-in-Cond-clause-meant : goal.returns-in_ok-next-in-Cond-clause-meant
returns-in_ok-next-in-Cond-clause-meant g c = rw (c.in-Cond.is, outs-Cond) (c.in_ok-next-in-Cond.ensures (watched_by g.P.Probe.after_began g.P.Probe.after_judged) c.args.tables.now c.args.s.now)

pub returns-in_ok-next-in-Call-clause-meant : goal.returns-in_ok-next-in-Call-clause-meant
returns-in_ok-next-in-Call-clause-meant g c = rw (c.in-Call.is, outs-Call) c.in_ok-next-in-Call.ensures.meant

pub returns-in_ok-next-in-Super-clause-meant : goal.returns-in_ok-next-in-Super-clause-meant
returns-in_ok-next-in-Super-clause-meant g c = rw (c.in-Super.is, outs-Super) c.in_ok-next-in-Super.ensures.meant

pub returns-in_ok-next-in-And-clause-meant : goal.returns-in_ok-next-in-And-clause-meant
returns-in_ok-next-in-And-clause-meant g c = rw (c.in-And.is, outs-And) (c.in_ok-next-in-And.ensures (watched_by g.P.Probe.after_began g.P.Probe.after_judged) c.args.tables.now)

pub returns-in_ok-next-in-Or-clause-meant : goal.returns-in_ok-next-in-Or-clause-meant
returns-in_ok-next-in-Or-clause-meant g c = rw (c.in-Or.is, outs-Or) (c.in_ok-next-in-Or.ensures (watched_by g.P.Probe.after_began g.P.Probe.after_judged) c.args.tables.now)
