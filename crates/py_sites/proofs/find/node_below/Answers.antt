use Rattle.std.proofs.Common.{◌∙◌, sym, Some}
use Rattle.py_sites.specs.Nodes.{number}
use Rattle.py_sites.specs.Refs.{seen}
use Rattle.py_sites.specs.Walks.{node_part}
use Rattle.py_sites.proofs.Search.{smaller, is_in_part, is_nowhere, ends_here, other_number}
use Rattle.py_sites.proofs.find.node_below.Goals as goal

pub returns-in-None : goal.returns-in-None
unfolding node_part
returns-in-None c = λ a.
    let here = seen c.loop-here.here in
    let i = c.loop-here.invariant a in
    let other = other_number (number here) c.args.number c.number_of.result c.number_of.ensures c.loop-here-test.true in
    sym (i.1 ∙ is_nowhere c.args.number here i.0 other (sym c.in-None.ensures))

pub loop-here-smaller : goal.loop-here-smaller
unfolding node_part
loop-here-smaller c = smaller (Some c.args.number) (seen c.loop-here.here) (seen c.in-Some.part) (sym c.in-Some.ensures)

pub loop-here-preserved : goal.loop-here-preserved
unfolding node_part
loop-here-preserved c = λ a.
    let here = seen c.loop-here.here in
    let i = c.loop-here.invariant a in
    let other = other_number (number here) c.args.number c.number_of.result c.number_of.ensures c.loop-here-test.true in
    let d = is_in_part c.args.number here (seen c.in-Some.part) i.0 other (sym c.in-Some.ensures) in
    (d.0, i.1 ∙ d.1)

pub returns : goal.returns
returns c = λ a. sym ((c.loop-here.invariant a).1 ∙ ends_here c.args.number (seen c.loop-here.here) (sym c.number_of.ensures ∙ c.loop-here-test.false))
