-- What the code's own types stand for.
use Rattle.py_scopes.specs.Annotations.{Parts as Numbers, NoParts, NoneOr, Exactly, AtLeastOne, AnyNumber, Where as Around}
use Rattle.py_annotation_rules.specs.declared.parts.Parts.{Parts}
use Rattle.py_annotation_rules.specs.declared.parts.Parts.TheVariants as parts
use Rattle.py_annotation_rules.specs.declared.annotation.Where.{Where}

abbrev pub parts_seen : Parts → Numbers
parts_seen parts.NoParts = NoParts
parts_seen (parts.NoneOr k) = NoneOr k
parts_seen (parts.Exactly k) = Exactly k
parts_seen parts.AtLeastOne = AtLeastOne
parts_seen parts.AnyNumber = AnyNumber

abbrev pub where_seen : Where → Around
where_seen at = record { inside = at.inside; quoted = at.quoted; evaluated = at.evaluated }
