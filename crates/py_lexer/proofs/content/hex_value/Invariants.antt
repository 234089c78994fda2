use Rattle.std.proofs.Common.{◌≡◌, ◌-◌, ◌<◌, ◌^◌}
use Rattle.py_language.specs.TokensStrings.{hex_value}
use Rattle.py_lexer.proofs.content.hex_value.Given as goal

abbrev pub invariant-loop-i : goal.invariant-loop-i
invariant-loop-i l = record {
  value : hex_value (l.n - l._i) l.value l.rest ≡ hex_value l.n 0 l.text;
  small : l.value < 16 ^ l._i;
}
