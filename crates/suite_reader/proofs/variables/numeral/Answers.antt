use Rattle.std.proofs.Common.{◌∙◌, sym, ap, subst}
use Rattle.std.specs.Str.Parse.{ParsesUnsigned}
use Rattle.suite_file.specs.Spelled.{is_numeral}
use Rattle.suite_reader.proofs.Numerals.{too_great}
use Rattle.suite_reader.proofs.variables.numeral.Goals as goal

pub returns-in-Err : goal.returns-in-Err
returns-in-Err c = too_great c.args.text.now c.in-Err.field-0 (subst (λ r. ParsesUnsigned 32 10 c.args.text.now r) c.in-Err.is c.parse.ensures.value.0) (ap is_numeral (sym c.as_bytes.ensures.value) ∙ sym c.is_numeral.ensures ∙ c.if-not-is_numeral.false)
