use Rattle.std.proofs.Common.{◌≡◌, ◌<◌, ◌^◌, ◌+◌, ◌*◌, ◌-◌, take, fold}
use Rattle.py_first_form.proofs.literal.number_of.Given as goal

abbrev pub invariant-loop-digit : goal.invariant-loop-digit
invariant-loop-digit l = record {
  value : l.number ≡ fold (λ n digit. 10 * n + (digit - 48)) 0 (take l.digit-index l.digits);
  small : l.number < 10 ^ l.digit-index;
}
