use Rattle.std.proofs.Common.{◌≡◌, ◌++◌, drop}
use Rattle.std.specs.List.{flat_map}
use Rattle.py_scopes.specs.ModuleRows.{statement_in_member}
use Rattle.py_module_rules.proofs.statements.add_members.Given as goal

abbrev pub invariant-loop-member : goal.invariant-loop-member
invariant-loop-member l = l.lines ++ flat_map (statement_in_member l.names) (drop l.member-index l.members) ≡ l.fn.lines ++ flat_map (statement_in_member l.names) l.members
