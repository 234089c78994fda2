use Rattle.std.proofs.Common.{rules}
use Rattle.std.proofs.lemmas.Iterator.Splits.{YieldsList-from_slice_split}
use Rattle.std.proofs.lemmas.Iterator.Search.{all_from_yields_List}
use Rattle.std.specs.Bool.{◌==◌}
use Rattle.py_meaning.specs.Texts.{are_digits}
use Rattle.py_meaning.specs.Numerals.{underscore}
use Rattle.py_text.proofs.numerals.is_numeral.Goals as goal

pub returns : goal.returns
returns c =
    all_from_yields_List are_digits _ _ _ c.all.ensures.ran
    (YieldsList-from_slice_split _ (λ d. d == underscore) c.args.text.now c.split.ensures.rest c.split.ensures.done c.split.ensures.closure (λ x b q k. search rules))
    (λ x b q k. search rules)
