use Rattle.std.proofs.Common.{◌≡◌, drop}
use Rattle.std.specs.List.{list_any}
use Rattle.py_annotation_rules.specs.Found.{faulty_at}
use Rattle.py_annotation_rules.specs.Seen.{where_seen}
use Rattle.py_annotation_rules.proofs.annotation.+annotations.Given as goal

abbrev pub invariant-any_faulty-loop-part : goal.invariant-any_faulty-loop-part
invariant-any_faulty-loop-part l = list_any (faulty_at l.scope (where_seen l.at)) (drop l.part-index l.parts) ≡ list_any (faulty_at l.scope (where_seen l.at)) l.parts
