use Rattle.std.proofs.Common.{◌≡◌, ◌∙◌, ap, subst, take}
use Rattle.std.specs.Prelude.{IfOk}
use Rattle.py_language.specs.TokensStrings.{Content}
use Rattle.py_lexer.specs.Scan.{content_of}
use Rattle.py_lexer.proofs.StringLemmas.{opening_within, content_is}
use Rattle.py_lexer.proofs.content.string_content.Goals as goal

pub split_at-requires : goal.split_at-requires
split_at-requires c = opening_within c.args.quote c.args.text.now c.begins_twice.result c.quotes_len-width.result c.begins_twice.ensures.value (c.quotes_len-width.ensures.value c.args.quote)

pub returns : goal.returns
returns c =
    subst (λ (x : Content). IfOk c.content.result (λ r. r ≡ x))
    (ap content_of (c.split_at-2.ensures.front ∙ (ap (λ n. take n c.split_at.result.1.now) c.saturating_sub-len.ensures ∙ ap (take _) c.split_at.ensures.back))
    ∙ content_is c.args.quote c.args.text.now c.begins_twice.result c.quotes_len-width.result c.begins_twice.ensures.value (c.quotes_len-width.ensures.value c.args.quote)) c.content.ensures
