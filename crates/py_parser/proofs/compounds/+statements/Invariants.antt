use Rattle.py_parser.proofs.compounds.+statements.Given as goal

abbrev pub decreases-statements : goal.decreases-statements
decreases-statements l = l.blocks
