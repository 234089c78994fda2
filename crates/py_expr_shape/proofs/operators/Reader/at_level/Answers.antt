use Rattle.std.proofs.Common.{refl}
use Rattle.py_expr_shape.specs.Levels.{level_of}
use Rattle.py_expr_shape.proofs.LoneLemmas.{lone_atom}
use Rattle.py_expr_shape.proofs.PrimaryLemmas.{primary}
use Rattle.py_expr_shape.proofs.operators.Reader.at_level.Goals as goal

pub returns-in-Some : goal.returns-in-Some
returns-in-Some g c = rw (c.in-Some.ensures, lone_atom _ (level_of c.args.level) c.in-Some.atom.now) c.leaf.ensures

pub returns-then-is_primary : goal.returns-then-is_primary
returns-then-is_primary g c = rw (primary _ _ (c.if-is_primary.ensures refl) (level_of c.args.level)) c.postfix.ensures
