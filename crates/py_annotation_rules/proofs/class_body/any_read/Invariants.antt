use Rattle.std.proofs.Common.{◌≡◌, drop}
use Rattle.std.specs.List.{list_any}
use Rattle.py_scopes.specs.ModuleRows.{names_some, read_by}
use Rattle.py_annotation_rules.proofs.class_body.any_read.Given as goal

abbrev pub invariant-loop-used : goal.invariant-loop-used
invariant-loop-used l = list_any (λ u. names_some l.names (read_by u.use')) (drop l.used-index l.uses) ≡ list_any (λ u. names_some l.names (read_by u.use')) l.uses
