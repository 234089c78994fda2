use Rattle.std.proofs.Common.{◌≡◌, drop}
use Rattle.std.specs.List.{list_any}
use Rattle.std.specs.Option.{option_copied}
use Rattle.py_annotation_rules.specs.Found.{names_unquoted, with_own}
use Rattle.py_annotation_rules.proofs.class_body.+unquoted.Given as goal

abbrev pub invariant-any_unquoted-loop-part : goal.invariant-any_unquoted-loop-part
invariant-any_unquoted-loop-part l = list_any (names_unquoted (with_own (option_copied l.own) l.names)) (drop l.part-index l.parts) ≡ list_any (names_unquoted (with_own (option_copied l.own) l.names)) l.parts
