use Rattle.py_lexer.proofs.CommentLemmas.{declared_here}
use Rattle.py_lexer.proofs.comment.declared_encoding.Goals as goal

pub returns-then-not-is_empty : goal.returns-then-not-is_empty
returns-then-not-is_empty c = declared_here c.loop-more.rest.now c.in-Some.more.now c.encoding_here-name.result.now c.in-Some.field-0-0.now _ c.in-Some.ensures.cases.0 c.encoding_here-name.ensures c.if-not-is_empty.ensures c.loop-more.invariant
