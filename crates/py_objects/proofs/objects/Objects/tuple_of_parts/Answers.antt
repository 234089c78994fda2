use Rattle.py_objects.proofs.Walks.{parts_kept}
use Rattle.py_objects.proofs.objects.Objects.tuple_of_parts.Goals as goal

pub collected-requires : goal.collected-requires
collected-requires c = parts_kept _ _ c.requires
