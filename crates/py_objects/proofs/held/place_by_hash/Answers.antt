use Rattle.std.proofs.Common.{sym, ◌∙◌, ap}
use Rattle.py_meaning.specs.Keys.{same_key}
use Rattle.py_objects.proofs.ByHash.{no_place, place_if}
use Rattle.py_objects.proofs.held.place_by_hash.Goals as goal

pub returns-then-is_same_key : goal.returns-then-is_same_key
returns-then-is_same_key c = place_if _ _ _ _ c.requires c.len-len.ensures.unique c.key_hash-hash.ensures _ _ _ _ c.get_index_of.ensures.index c.in-Some.is c.index-pairs-place.is
    (ap (λ pair. same_key c.args.key.now pair.0) c.index-pairs-place.is ∙ sym c.is_same_key.ensures ∙ c.if-is_same_key.true)

pub returns-else-is_same_key : goal.returns-else-is_same_key
returns-else-is_same_key c = place_if _ _ _ _ c.requires c.len-len.ensures.unique c.key_hash-hash.ensures _ _ _ _ c.get_index_of.ensures.index c.in-Some.is c.index-pairs-place.is
    (ap (λ pair. same_key c.args.key.now pair.0) c.index-pairs-place.is ∙ sym c.is_same_key.ensures ∙ c.if-is_same_key.false)

pub returns-in-None : goal.returns-in-None
returns-in-None c = no_place _ _ _ _ c.requires c.len-len.ensures.unique c.key_hash-hash.ensures _ c.get_index_of.ensures.index c.in-None.is
