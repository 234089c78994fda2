use Rattle.std.proofs.Common.{◌≡◌, ◌<◌, ◌^◌, drop}
use Rattle.py_language.specs.TokensNumbers.{number_from}
use Rattle.py_lexer.proofs.number.value_of.Given as goal

abbrev pub invariant-loop-b : goal.invariant-loop-b
invariant-loop-b l = record {
  value : number_from l.base l.n (drop l.b-index l.digits) ≡ number_from l.base 0 l.digits;
  small : l.n < 2 ^ 127;
}
