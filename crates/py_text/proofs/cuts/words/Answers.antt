use Rattle.std.proofs.Common.{◌∙◌, ap, filter, rules}
use Rattle.std.proofs.lemmas.Iterator.Splits.{YieldsList-from_slice_split}
use Rattle.std.proofs.lemmas.Iterator.Consumers.{YieldsList-end}
use Rattle.py_meaning.specs.Walk.{is_filled}
use Rattle.py_meaning.specs.Texts.{is_blank}
use Rattle.py_text.proofs.cuts.words.Goals as goal

pub returns : goal.returns
returns c =
    c.loop-word.invariant
    ∙ ap (filter is_filled) (YieldsList-end (YieldsList-from_slice_split _ is_blank c.args.text.now (cc) (cc) (cc) (λ x b q k. search rules)) c.loop-word.yielded _ c.loop-word.yielded_by _ _ c.in-None.is c.next.ensures.steps).0
