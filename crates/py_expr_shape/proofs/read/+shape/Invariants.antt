use Rattle.py_expr_shape.proofs.read.+shape.Given as goal

abbrev pub decreases-shape : goal.decreases-shape
decreases-shape l = l.limit
