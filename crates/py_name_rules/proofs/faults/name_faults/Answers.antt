use Rattle.std.proofs.Common.{refl}
use Rattle.py_name_rules.proofs.faults.name_faults.Goals as goal

pub returns-clause-typing_name : goal.returns-clause-typing_name
returns-clause-typing_name c = rw (c.least_line-4.ensures, c.in_ok-imported.ensures, c.as_slice-2.ensures, c.as_slice-all.ensures.value, c.in_ok-sites.ensures, c.as_slice-3.ensures.value, c.in_ok-pieces.ensures) refl

pub returns-clause-unknown_name : goal.returns-clause-unknown_name
returns-clause-unknown_name c = rw (c.least_line-10.ensures, c.in_ok-names.ensures, c.as_slice.ensures, c.as_slice-all.ensures.value, c.in_ok-sites.ensures, c.as_slice-3.ensures.value, c.in_ok-pieces.ensures) refl
