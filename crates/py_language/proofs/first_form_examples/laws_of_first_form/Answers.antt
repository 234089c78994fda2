use Rattle.py_language.proofs.FirstFormLaws.{law_of_refusal}
use Rattle.py_language.proofs.FirstFormFronts.{law_of_first}
use Rattle.py_language.proofs.first_form_examples.laws_of_first_form.Goals as goal

pub returns : goal.returns
returns c = record { refused = law_of_refusal; first = law_of_first }
