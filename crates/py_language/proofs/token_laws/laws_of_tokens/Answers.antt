use Rattle.py_language.proofs.TokenLaws.{cut, one_way, joined, numbered}
use Rattle.py_language.proofs.token_laws.laws_of_tokens.Goals as goal

pub returns-clause-cut : goal.returns-clause-cut
returns-clause-cut c = cut

pub returns-clause-one_way : goal.returns-clause-one_way
returns-clause-one_way c = one_way

pub returns-clause-joined : goal.returns-clause-joined
returns-clause-joined c = joined

pub returns-clause-numbered : goal.returns-clause-numbered
returns-clause-numbered c = numbered
