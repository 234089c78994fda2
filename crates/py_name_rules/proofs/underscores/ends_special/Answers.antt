use Rattle.std.proofs.Common.{◌∙◌, ap}
use Rattle.std.specs.Prelude.{nat_eq}
use Rattle.std.specs.List.{ends_with}
use Rattle.std.proofs.lemmas.Str.Pattern.{ends_text}
use Rattle.py_name_rules.proofs.Texts.{marks, ends_same}
use Rattle.py_name_rules.proofs.underscores.ends_special.Goals as goal

pub returns : goal.returns
returns c = ends_text _ marks c.as_str.result.now c.ends_with.ensures.cases ∙ ends_same c.as_str.result.now c.as_str.utf8 ∙ ap (λ cs. ends_with nat_eq cs marks) c.as_str.ensures.chars
