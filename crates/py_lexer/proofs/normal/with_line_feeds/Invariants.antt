use Rattle.std.proofs.Common.{◌≡◌, ◌++◌, [], ◌∷◌, cond, length}
use Rattle.py_language.specs.TokensCharacters.{with_line_feeds}
use Rattle.py_lexer.proofs.normal.with_line_feeds.Given as goal

abbrev pub invariant-loop-b : goal.invariant-loop-b
invariant-loop-b l = l.lines.items ++ with_line_feeds (l.rest ++ cond l.lacks_end (10 ∷ []) []) ≡ with_line_feeds (l.initial.rest ++ cond l.lacks_end (10 ∷ []) [])

abbrev pub decreases-loop-b : goal.decreases-loop-b
decreases-loop-b l = length l.rest
