use Rattle.std.proofs.Common.{sym, subst}
use Rattle.py_lexer.specs.declared.piece.Piece.TheVariants as p
use Rattle.py_lexer.specs.Found.{FrontIs}
use Rattle.py_lexer.proofs.PieceLemmas.{line_end_at}
use Rattle.py_lexer.proofs.piece.next_piece.Goals as goal

pub returns-in-10 : goal.returns-in-10
returns-in-10 c = subst (λ xs. FrontIs c.args.has_mark xs p.LineEnd 0) (sym c.in-Some.ensures.cases.0) (line_end_at c.args.has_mark c.in-Some.first.now c.in-Some.rest.now c.in-10.is)
