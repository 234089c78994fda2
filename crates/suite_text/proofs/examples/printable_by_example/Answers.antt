use Rattle.py_language.specs.TokensNames.{keywords_of_2, keywords_of_3, keywords_of_4, keywords_of_5, keywords_of_6, keywords_of_7, keywords_of_8}
use Rattle.suite_text.proofs.ExampleRules.{depths}
use Rattle.suite_text.proofs.examples.printable_by_example.Goals as goal

pub returns-clause-depths : goal.returns-clause-depths
returns-clause-depths c = simp depths

pub returns-clause-printable : goal.returns-clause-printable
unfolding keywords_of_2 keywords_of_3 keywords_of_4 keywords_of_5 keywords_of_6 keywords_of_7 keywords_of_8
returns-clause-printable c = simp depths
