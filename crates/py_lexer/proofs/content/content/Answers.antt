use Rattle.std.proofs.Common.{arith}
use Rattle.std.proofs.lemmas.Bool.Decides.{nat_tests}
use Rattle.py_lexer.proofs.ContentLemmas.{content_all}
use Rattle.py_lexer.proofs.content.content.Goals as goal

pub returns : goal.returns
returns c = content_all c.loop-rest.all c.loop-rest.rest.now c.loop-rest.lines _ (grind (arith, nat_tests, c.loop-rest-test.ensures, c.is_empty.ensures, c.loop-rest-test.false)) c.loop-rest.invariant.value
