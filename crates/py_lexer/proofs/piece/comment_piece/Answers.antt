use Rattle.std.proofs.Common.{◌∙◌, ap}
use Rattle.py_lexer.specs.Found.{comment_found}
use Rattle.py_lexer.proofs.PieceLemmas.{word_is, comment_at}
use Rattle.py_lexer.proofs.piece.comment_piece.Goals as goal

pub returns : goal.returns
returns c = comment_at c.args.has_mark c.args.rest.now c.line_len-more.result c.comment_found.result c.line_len-more.ensures.value
    (c.comment_found.ensures ∙ ap (comment_found c.args.has_mark) (c.split_at.ensures.front ∙ word_is c.args.text.now c.args.rest.now 35 c.line_len-more.result c.requires))
