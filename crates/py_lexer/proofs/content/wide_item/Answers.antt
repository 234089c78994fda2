use Rattle.py_lexer.proofs.ItemLemmas.{wide_good, wide_bad}
use Rattle.py_lexer.proofs.content.wide_item.Goals as goal

pub returns-in-Some : goal.returns-in-Some
returns-in-Some c = wide_good c.args.text.now c.args.more.now c.in-Some.s.now c.args.first c.requires.text c.requires.high c.in-Some.ensures.found c.in-Some.ensures.is_character c.in-Some.ensures.within

pub returns-in-None : goal.returns-in-None
returns-in-None c = wide_bad c.args.text.now c.args.more.now c.args.first c.requires.text c.requires.high c.in-None.ensures.none
