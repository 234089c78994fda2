use Rattle.std.proofs.Common.{List, ◌++◌, map, sym, ◌∙◌}
use Rattle.std.proofs.lemmas.List.{append-nil, at_drop_all}
use Rattle.std.specs.Borrow.{Bor}
use Rattle.py_syntax.specs.declared.module.Func.{Func}
use Rattle.goal_graph.specs.Lines.{goals_of_trees}
use Rattle.goal_graph.proofs.LinesLeft.{all_goals}
use Rattle.goal_graph.proofs.build.rows_of.Goals as goal

pub returns : goal.returns
returns c =
    let rows = c.loop-f.rows.items in
    sym (append-nil rows)
    ∙ sym (at_drop_all (λ (ys : List (Bor Func)). rows ++ goals_of_trees c.loop-f.number (map (λ (f : Bor Func). f.now) ys)) c.deref-f-items.result.now c.loop-f.f-index c.loop-f-test.false)
    ∙ c.loop-f.invariant.rows
    ∙ sym (all_goals c.args.tree.now.items)
