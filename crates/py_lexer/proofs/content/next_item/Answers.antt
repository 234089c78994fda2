use Rattle.std.proofs.Common.{refl, arith}
use Rattle.py_lexer.proofs.ItemLemmas.{item_plain, item_refused}
use Rattle.py_lexer.proofs.content.next_item.Goals as goal

pub returns-in-13 : goal.returns-in-13
returns-in-13 c = item_refused c.args.text.now c.in-Some.more.now c.in-Some.b.now 13 c.in-Some.ensures.cases.0 c.in-13.is (omega arith) refl

pub returns-in-12 : goal.returns-in-12
returns-in-12 c = item_refused c.args.text.now c.in-Some.more.now c.in-Some.b.now 12 c.in-Some.ensures.cases.0 c.in-12.is (omega arith) refl

pub returns-in_default-b : goal.returns-in_default-b
returns-in_default-b c = item_plain c.args.text.now c.in-Some.more.now c.in-Some.b.now c.line_ends_at.result c.in-Some.ensures.cases.0 (omega arith) (λ e. omega arith) (λ e. omega arith) (λ e. omega arith) c.line_ends_at.ensures
