-- The worked examples, by the laws.
use Rattle.py_syntax.specs.declared.stmt.Clause.{out-roll-Clause}
use Rattle.py_syntax.specs.declared.stmt.StmtKind.TheVariants.{outs-Pass, outs-Assert, outs-If, outs-While, outs-For, outs-Try}
use Rattle.goal_model.specs.Examples.{OneLine, Taken, Branches, Chains, Targets, Loops, Handlers}
use Rattle.goal_model.specs.Folds.{by_statement, by_kind, by_clause}

ruleset levels = (by_statement, by_kind, by_clause, out-roll-Clause, outs-Pass, outs-Assert, outs-If, outs-While, outs-For, outs-Try)

pub one_line : OneLine
one_line = simp levels

pub taken : Taken
taken = simp levels

pub branches : Branches
branches = simp levels

pub chains : Chains
chains = simp levels

pub targets : Targets
targets = simp levels

pub loops : Loops
loops = simp levels

pub handlers : Handlers
handlers = simp levels
