-- Names that underscores make special or private.
use Rattle.std.specs.Prelude.{ℕ, Bool, List}
use Rattle.std.specs.List.{list_any}
use Rattle.py_syntax.specs.declared.stmt.Annotation.{Annotation}
use Rattle.py_scopes.specs.Annotations.{names_in}
use Rattle.py_scopes.specs.NameRows.{is_special, is_private}
use Rattle.py_name_rules.specs.declared.underscores.Spelling.{Spelling}
use Rattle.py_name_rules.specs.declared.underscores.Spelling.TheVariants.{Special, Private}

abbrev pub is_spelled : Spelling → List ℕ → Bool
is_spelled Special name = is_special name
is_spelled Private name = is_private name

abbrev pub any_spelled : Spelling → Annotation → Bool
any_spelled spelling annotation = list_any (is_spelled spelling) (names_in annotation)
