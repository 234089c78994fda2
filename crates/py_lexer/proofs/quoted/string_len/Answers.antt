use Rattle.std.proofs.Common.{◌∙◌, ap, false}
use Rattle.py_language.specs.TokensStrings.{plus, closing}
use Rattle.py_lexer.proofs.StringLemmas.{opening_within, string_len_is}
use Rattle.py_lexer.proofs.quoted.string_len.Goals as goal

pub split_at-requires : goal.split_at-requires
split_at-requires c = opening_within c.args.quote c.args.text.now c.begins_twice-is_long.result c.quotes_len-width.result c.begins_twice-is_long.ensures.value (c.quotes_len-width.ensures.value c.args.quote)

pub returns-in_err-len-clause-value : goal.returns-in_err-len-clause-value
returns-in_err-len-clause-value c =
    c.from_residual.ensures ∙ (ap (plus c.quotes_len-width.result) (c.in_err-len.ensures.value ∙ ap (closing c.args.quote c.begins_twice-is_long.result false) c.split_at.ensures.back)
    ∙ string_len_is c.args.quote c.args.text.now c.begins_twice-is_long.result c.quotes_len-width.result c.begins_twice-is_long.ensures.value (c.quotes_len-width.ensures.value c.args.quote))

pub returns-clause-value : goal.returns-clause-value
returns-clause-value c =
    ap (plus c.quotes_len-width.result) (c.in_ok-len.ensures.value ∙ ap (closing c.args.quote c.begins_twice-is_long.result false) c.split_at.ensures.back)
    ∙ string_len_is c.args.quote c.args.text.now c.begins_twice-is_long.result c.quotes_len-width.result c.begins_twice-is_long.ensures.value (c.quotes_len-width.ensures.value c.args.quote)
