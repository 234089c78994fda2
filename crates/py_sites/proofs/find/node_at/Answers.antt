use Rattle.std.proofs.Common.{◌∙◌, sym, map, Some}
use Rattle.py_sites.specs.Nodes.{all_functions, function}
use Rattle.py_sites.specs.Refs.{seen}
use Rattle.py_sites.proofs.Lists.{tops_are}
use Rattle.py_sites.proofs.Search.{is_in_top, is_in_no_top}
use Rattle.py_sites.proofs.find.node_at.Goals as goal

pub returns-in-None : goal.returns-in-None
returns-in-None c = λ a.
    let m = c.args.tree.now in
    sym (is_in_no_top c.args.node.0 (map function (all_functions m)) a (sym (tops_are (Some c.args.node.0) m.items) ∙ sym c.in-None.ensures))

pub returns-in-Some : goal.returns-in-Some
returns-in-Some c = λ a.
    let m = c.args.tree.now in
    let i = is_in_top c.args.node.0 (map function (all_functions m)) (seen c.in-Some.top) a (sym (tops_are (Some c.args.node.0) m.items) ∙ sym c.in-Some.ensures) in
    c.node_below.ensures i.0 ∙ sym i.1
