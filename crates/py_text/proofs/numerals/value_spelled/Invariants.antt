use Rattle.std.proofs.Common.{◌≡◌, take, ◌^◌, min}
use Rattle.py_meaning.specs.Numerals.{digits_of, value_of_digits}
use Rattle.py_text.proofs.numerals.value_spelled.Given as goal

abbrev pub invariant-loop-c : goal.invariant-loop-c
invariant-loop-c l = l.value ≡ min (value_of_digits (digits_of (take l.c-index l.text))) (2 ^ 127)
