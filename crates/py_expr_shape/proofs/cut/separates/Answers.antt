use Rattle.py_expr_shape.proofs.cut.separates.Goals as goal

pub returns-in-Closing : goal.returns-in-Closing
returns-in-Closing c = rw c.in-Closing.is (c.closes.ensures c.args.after)

pub returns-in-Colon : goal.returns-in-Colon
returns-in-Colon c = rw c.in-Colon.is (c.is_colon.ensures c.args.after)
