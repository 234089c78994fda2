use Rattle.py_lexer.proofs.HexLemmas.{front_is, is_front, no_front}
use Rattle.std.proofs.Common.{◌∙◌}
use Rattle.py_lexer.proofs.content.character_at.Goals as goal

pub returns-in-Ok-clause-is_character : goal.returns-in-Ok-clause-is_character
returns-in-Ok-clause-is_character c = is_front _ _ (c.split_at.ensures.front ∙ front_is c.args.text.now c.in-Some.more.now c.in-Some.b.now c.more_len-n.result c.in-Some.ensures.cases.0 c.more_len-n.ensures.value) c.in-Ok.ensures.cases.1

pub returns-in-Err-clause-none : goal.returns-in-Err-clause-none
returns-in-Err-clause-none c = no_front _ _ (c.split_at.ensures.front ∙ front_is c.args.text.now c.in-Some.more.now c.in-Some.b.now c.more_len-n.result c.in-Some.ensures.cases.0 c.more_len-n.ensures.value) c.in-Err.ensures.cases.0
