use Rattle.std.proofs.Common.{◌∙◌, ap, arith}
use Rattle.py_language.specs.TokensStrings.{string_content}
use Rattle.py_lexer.proofs.StringLemmas.{string_open, string_closed}
use Rattle.py_lexer.proofs.piece.string_piece.Goals as goal

pub returns-in_default : goal.returns-in_default
returns-in_default c = λ h. string_open h c.args.first c.args.rest.now (omega arith) c.requires.first c.in_default.ensures.value

pub returns : goal.returns
returns c = λ h. string_closed h c.args.first c.args.rest.now c.in-Some.len c.in_ok-content.content c.content_found.result (omega arith) c.requires.first c.in-Some.ensures.value c.in-Some.ensures.within.0 c.in-Some.ensures.within.1
    (c.in_ok-content.ensures ∙ ap (string_content c.args.first) c.split_at.ensures.front) c.content_found.ensures
