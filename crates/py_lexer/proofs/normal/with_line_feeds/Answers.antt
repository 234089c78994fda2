use Rattle.std.proofs.Common.{◌∙◌, ◌++◌, ap}
use Rattle.py_lexer.proofs.NormalLemmas.{copied}
use Rattle.py_lexer.proofs.normal.with_line_feeds.Goals as goal

pub returns-then-not-contains : goal.returns-then-not-contains
returns-then-not-contains c = copied c.args.text.now _ c.args.lacks_end c.if-not-contains.ensures (c.in_ok-extend_from_slice.ensures.items ∙ ap (λ ys. ys ++ c.args.text.now) c.in_ok-lines.ensures.items)
