use Rattle.std.proofs.Common.{◌∙◌, ap}
use Rattle.std.specs.Prelude.{nat_eq}
use Rattle.std.specs.List.{starts_with}
use Rattle.std.proofs.lemmas.Str.Pattern.{starts_text}
use Rattle.py_name_rules.proofs.Texts.{marks, begins_same}
use Rattle.py_name_rules.proofs.underscores.begins_private.Goals as goal

pub returns : goal.returns
returns c = starts_text _ marks c.as_str.result.now c.starts_with.ensures.cases ∙ begins_same c.as_str.result.now c.as_str.utf8 ∙ ap (λ cs. starts_with nat_eq cs marks) c.as_str.ensures.chars
