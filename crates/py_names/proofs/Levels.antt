-- The worked examples, by the laws.
use Rattle.py_syntax.specs.declared.stmt.Clause.{out-roll-Clause}
use Rattle.py_syntax.specs.declared.stmt.StmtKind.TheVariants.{outs-Assign, outs-Augment, outs-If, outs-While, outs-For, outs-Try}
use Rattle.py_names.specs.Examples.{Targets, Branches, Loops, Handlers}
use Rattle.py_names.specs.Folds.{by_statement, by_clause}

ruleset levels = (by_statement, by_clause, out-roll-Clause, outs-Assign, outs-Augment, outs-If, outs-While, outs-For, outs-Try)

pub targets : Targets
targets = simp levels

pub branches : Branches
branches = simp levels

pub loops : Loops
loops = simp levels

pub handlers : Handlers
handlers = simp levels
