use Rattle.std.proofs.Common.{◌∙◌, ap, length, take, min}
use Rattle.std.specs.List.{prefix_len}
use Rattle.py_lexer.proofs.DecodeLemmas.{is_high, more_is}
use Rattle.py_lexer.proofs.bytes.more_len.Goals as goal

pub returns-clause-value : goal.returns-clause-value
returns-clause-value c =
    ap (λ n. take n c.args.rest.now) (c.high_len.ensures.value ∙ ap (prefix_len is_high) (c.split_at.ensures.front ∙ ap (λ n. take n c.args.rest.now) (c.min-most.ensures ∙ ap (λ n. min n (length c.args.rest.now)) c.continuation_len.ensures)))
    ∙ more_is c.args.b c.args.rest.now
