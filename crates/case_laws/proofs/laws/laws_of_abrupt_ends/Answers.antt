use Rattle.case_laws.proofs.Alone.{abrupt_alone}
use Rattle.case_laws.proofs.laws.laws_of_abrupt_ends.Goals as goal

pub returns : goal.returns
returns g c watcher program node line other name annotation e s why h =
    abrupt_alone c.laws_of_meaning.ensures.statements watcher program node line other name annotation e s why h
