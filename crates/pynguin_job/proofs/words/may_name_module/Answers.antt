use Rattle.std.proofs.Common.{◌∙◌, ap, bytes_eq, sym, is_some}
use Rattle.py_language.specs.TokensNames.{keywords, listed}
use Rattle.pynguin_job.proofs.Identifiers.{no_module, module_or_pytest}
use Rattle.pynguin_job.proofs.Literals.{pytest_word}
use Rattle.pynguin_job.proofs.words.may_name_module.Goals as goal

pub returns-then-is_some : goal.returns-then-is_some
returns-then-is_some c =
    no_module c.args.name.now c.as_str.result.now c.is_some.result c.requires c.as_str.ensures.bytes
    (c.is_some.ensures ∙ ap is_some c.keyword_of.ensures ∙ ap (λ text. is_some (listed keywords text)) c.as_bytes.ensures.value)
    (sym c.if-is_some.true)

pub returns : goal.returns
returns c =
    module_or_pytest c.args.name.now c.as_str.result.now c.is_some.result c.is.result c.requires c.as_str.ensures.bytes
    (c.is_some.ensures ∙ ap is_some c.keyword_of.ensures ∙ ap (λ text. is_some (listed keywords text)) c.as_bytes.ensures.value)
    c.if-is_some.false
    (c.is.ensures ∙ ap (bytes_eq c.args.name.now) pytest_word)
