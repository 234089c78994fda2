use Rattle.std.proofs.Common.{ap, ◌∙◌}
use Rattle.py_meaning.specs.Builtins.{range_row}
use Rattle.py_builtins.proofs.Arguments.{one, two, three}
use Rattle.py_builtins.proofs.ranges.range_row.Goals as goal

pub returns-in-len1 : goal.returns-in-len1
returns-in-len1 c left = ap (λ args. range_row args left) (one c.args.args.now _ c.in-len1.len_at_least c.in-len1.len_below c.stop-item.is) ∙ c.range_to.ensures left

pub returns-in-len2 : goal.returns-in-len2
returns-in-len2 c left = ap (λ args. range_row args left) (two c.args.args.now _ _ c.in-len2.len_at_least c.in-len2.len_below c.start-item.is c.stop-item-then-args-lt3.is) ∙ c.range_between.ensures left

pub returns-in-len3 : goal.returns-in-len3
returns-in-len3 c left = ap (λ args. range_row args left) (three c.args.args.now _ _ _ c.in-len3.len_at_least c.in-len3.len_below c.start-item-then-args-lt4.is c.stop-item-then-args-lt4.is c.step-item.is)
    ∙ rw (← c.number.ensures, ← c.number-in-len3.ensures, ← c.number-in-len3-2.ensures) (c.range_of.ensures left)
