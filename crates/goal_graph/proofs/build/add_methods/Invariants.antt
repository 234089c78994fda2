use Rattle.std.proofs.Common.{◌≡◌, ◌++◌, drop, map}
use Rattle.std.specs.List.{filter_map}
use Rattle.goal_graph.specs.Lines.{method_tree}
use Rattle.goal_graph.proofs.build.add_methods.Given as goal

abbrev pub invariant-loop-member : goal.invariant-loop-member
invariant-loop-member l = map (λ f. f.now) l.functions.items ++ filter_map method_tree (drop l.member-index l.members) ≡ map (λ f. f.now) l.fn.functions.items ++ filter_map method_tree l.members
