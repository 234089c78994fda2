-- What a reference to a node refers to.
use Rattle.std.specs.Prelude.{Option}
use Rattle.std.specs.Option.{option_map}
use Rattle.py_sites.specs.declared.node_ref.NodeRef.{NodeRef}
use Rattle.py_sites.specs.declared.node_ref.NodeRef.TheVariants as ref
use Rattle.py_sites.specs.Nodes.{Node, function, statement, clause, expression}

abbrev pub seen : NodeRef → Node
seen (ref.Func f) = function f.now
seen (ref.Stmt s) = statement s.now
seen (ref.Clause c) = clause c.now
seen (ref.Expr e) = expression e.now

abbrev pub seen_option : Option NodeRef → Option Node
seen_option = option_map seen
