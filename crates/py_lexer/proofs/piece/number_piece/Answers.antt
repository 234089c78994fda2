use Rattle.std.proofs.Common.{arith}
use Rattle.py_lexer.specs.Found.{number_found}
use Rattle.py_lexer.proofs.PieceLemmas.{found_same, number_at}
use Rattle.py_lexer.proofs.piece.number_piece.Goals as goal

pub returns : goal.returns
returns c = λ h. number_at h c.args.first c.args.rest.now c.integer_more-more.result c.number_found.result (omega arith) c.requires.first c.integer_more-more.ensures.value
    (found_same number_found c.args.text.now c.args.rest.now c.split_at.result.0.now c.split_at-2.result.1.now c.args.first c.integer_more-more.result c.number_found.result c.requires.text c.split_at.ensures.front c.split_at-2.ensures.back c.number_found.ensures)
