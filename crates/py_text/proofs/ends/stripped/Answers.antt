use Rattle.std.proofs.Common.{arith}
use Rattle.std.proofs.lemmas.List.Sums.{prefix_len-le-length}
use Rattle.py_text.proofs.ends.stripped.Goals as goal

pub split_at-requires : goal.split_at-requires
split_at-requires g c = omega (arith, c.front.ensures, prefix_len-le-length (g.T.Test.passes c.args.test.now) c.args.text.now)
