use Rattle.py_lexer.proofs.NumberLemmas.{stays_large}
use Rattle.py_lexer.proofs.number.value_of.Goals as goal

pub returns-in-None-clause-value : goal.returns-in-None-clause-value
returns-in-None-clause-value c = stays_large c.args.base c.loop-b.n c.loop-b.b-index c.args.digits.now c.requires c.loop-b-test.true c.in-None.ensures c.loop-b.invariant.value
