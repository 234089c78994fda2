use Rattle.py_meaning.specs.Outcomes.{asked_left}
use Rattle.py_meaning.specs.Equal.{equal}
use Rattle.py_meaning.specs.Questions.{equal_asks}
use Rattle.py_objects.proofs.objects.Objects.equal.Goals as goal

pub returns-clause-fuel : goal.returns-clause-fuel
unfolding equal
returns-clause-fuel c = asked_left _ (equal_asks c.args.self.now c.args.a.now c.args.b.now) _ _ _ c.equal_within.ensures
