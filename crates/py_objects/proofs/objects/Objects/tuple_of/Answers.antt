use Rattle.std.proofs.Common.{sym, ◌∙◌}
use Rattle.py_objects.proofs.Tupled.{tupled_paid}
use Rattle.py_objects.proofs.objects.Objects.tuple_of.Goals as goal

pub returns-clause-meant : goal.returns-clause-meant
returns-clause-meant c = tupled_paid _ _ _ _ _ (sym c.length.ensures ∙ c.in-Some.is) (sym c.are_parts.ensures ∙ c.if-not-are_parts.false) (sym c.if-not-take.false ∙ c.take.ensures.enough) c.take.ensures.left c.tuple_of_parts.ensures
