use Rattle.std.proofs.Common.{arith}
use Rattle.py_lexer.proofs.ItemLemmas.{item_escape, item_no_escape, escape_takes}
use Rattle.py_lexer.proofs.content.escape_item.Goals as goal

pub overflow_add-result : goal.overflow_add-result
overflow_add-result c = let two = escape_takes c.args.more.now c.in-Some.c c.in-Some.len c.in-Some.ensures in omega (arith, two.1)

pub returns-in-Some : goal.returns-in-Some
returns-in-Some c = item_escape c.args.more.now c.in-Some.c c.in-Some.len c.line_ends_at.result c.in-Some.ensures c.line_ends_at.ensures

pub returns-in-None : goal.returns-in-None
returns-in-None c = item_no_escape c.args.more.now c.in-None.ensures
