use Rattle.std.proofs.Common.{◌≡◌, ◌++◌, drop}
use Rattle.suite_model.specs.Statements.{statements_from, statements_of}
use Rattle.test_chromosome.proofs.syntax.to_syntax.Given as goal

abbrev pub invariant-loop-step : goal.invariant-loop-step
invariant-loop-step l = record {
  stmts : l.stmts ++ statements_from l.tables l.number (drop l.step-index l.test.steps) ≡ statements_of l.tables l.test;
  at : l.number ≡ l.step-index;
}
