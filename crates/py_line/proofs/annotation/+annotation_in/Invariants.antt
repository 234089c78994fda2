use Rattle.py_line.proofs.annotation.+annotation_in.Given as goal

abbrev pub decreases-annotation_in : goal.decreases-annotation_in
decreases-annotation_in l = l.depth
