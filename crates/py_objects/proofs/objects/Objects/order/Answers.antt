use Rattle.py_meaning.specs.Outcomes.{asked_left}
use Rattle.py_meaning.specs.Less.{ordered}
use Rattle.py_meaning.specs.Questions.{ordered_asks}
use Rattle.py_objects.proofs.objects.Objects.order.Goals as goal

pub returns-clause-fuel : goal.returns-clause-fuel
unfolding ordered
returns-clause-fuel c = asked_left _ (ordered_asks c.args.self.now c.args.order c.args.a.now c.args.b.now) _ _ _ c.ordered_within.ensures
