use Rattle.std.proofs.Common.{◌≡◌, ◌<◌, ℕ, List, true, length, map}
use Rattle.py_language.specs.FirstForm.{first_form, lines_of, is_among, is_distinct, name_of}
use Rattle.py_first_form.specs.Names.{knows}
use Rattle.py_language.proofs.FirstFormLemmas.{awaited}
use Rattle.py_first_form.proofs.first_form.read_functions.Given as goal

abbrev pub invariant-loop-names : goal.invariant-loop-names
invariant-loop-names l = record {
  awaited : first_form l.text ≡ awaited l.functions.items (lines_of l.left);
  names : (name : List ℕ) → knows l.names name ≡ is_among (map name_of l.functions.items) name;
  distinct : is_distinct (map name_of l.functions.items) ≡ true;
  few : length l.functions.items < 2000;
}

abbrev pub decreases-loop-names : goal.decreases-loop-names
decreases-loop-names l = length l.left
