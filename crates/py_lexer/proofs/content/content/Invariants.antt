use Rattle.std.proofs.Common.{◌≡◌, ◌+◌, ◌≤◌, length}
use Rattle.py_language.specs.TokensStrings.{behind, lines_on}
use Rattle.py_lexer.specs.Scan.{content_of}
use Rattle.py_lexer.proofs.content.content.Given as goal

abbrev pub invariant-loop-rest : goal.invariant-loop-rest
invariant-loop-rest l = record {
  value : behind l.all (lines_on l.lines (content_of l.rest)) ≡ content_of l.text;
  few : l.lines + length l.rest ≤ length l.text;
}

abbrev pub decreases-loop-rest : goal.decreases-loop-rest
decreases-loop-rest l = length l.rest
