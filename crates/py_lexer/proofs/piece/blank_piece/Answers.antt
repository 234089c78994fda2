use Rattle.std.proofs.Common.{arith}
use Rattle.py_lexer.specs.Found.{blanks_found}
use Rattle.py_lexer.proofs.PieceLemmas.{found_same, blank_at}
use Rattle.py_lexer.proofs.piece.blank_piece.Goals as goal

pub returns : goal.returns
returns c = λ h. blank_at h c.args.first c.args.rest.now c.blank_len-more.result c.blanks_found.result (omega arith) c.requires.first c.blank_len-more.ensures.value
    (found_same blanks_found c.args.text.now c.args.rest.now c.split_at.result.0.now c.split_at-2.result.1.now c.args.first c.blank_len-more.result c.blanks_found.result c.requires.text c.split_at.ensures.front c.split_at-2.ensures.back c.blanks_found.ensures)
