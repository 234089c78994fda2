use Rattle.std.proofs.Common.{◌≡◌, ◌+◌, ◌≤◌, drop}
use Rattle.py_language.specs.TokensLines.{line_feeds}
use Rattle.py_lexer.proofs.bytes.line_feeds.Given as goal

abbrev pub invariant-loop-b : goal.invariant-loop-b
invariant-loop-b l = record {
  value : l.count + line_feeds (drop l.b-index l.text) ≡ line_feeds l.text;
  few : l.count ≤ l.b-index;
}
