-- The definitions that go over all levels of a value, one level at a time: lemmas that crates above cite.
use Rattle.std.proofs.Common.{◌≡◌, ℕ, ◌+◌, Bool, ◌&&◌, List, map, ◌∙◌, ap, sym, refl}
use Rattle.std.specs.List.{sum_by, list_all}
use Rattle.std.proofs.lemmas.Simd.{map-map}
use Rattle.std.proofs.lemmas.List.Sums.{sum-map}
use Rattle.std.proofs.lemmas.List.Folds.{list_all-map}
use Rattle.py_meaning.specs.declared.measured.Measured.{Measured}
use Rattle.py_meaning.specs.declared.op.Op.{Op}
use Rattle.py_meaning.specs.declared.value.Value.{Value, Value-F, out-Value, fold_out-Value, roll-Value, roll-out-Value}
use Rattle.py_meaning.specs.declared.value.Value.TheFolds.{map-Value, para-roll-Value}
use Rattle.py_meaning.specs.declared.value.Value.TheVariants as value
use Rattle.py_meaning.specs.declared.value.Value.TheVariants.{outs-None, outs-Bool, outs-Int, outs-Str, outs-Tuple, outs-Ref, outs-Class, outs-Func, outs-View, outs-ModuleRef}
use Rattle.py_meaning.specs.Tuples.{depth, is_measured, measured, tuple}
use Rattle.py_meaning.specs.Keys.{key_cost, key_cost_by, as_key, as_key_by, all_keys, same_key, same_key_by}
use Rattle.py_meaning.specs.Worlds.{World, sound, sound_by}

pub key_cost-out : (v : Value) → key_cost v ≡ key_cost_by (map-Value Value ℕ key_cost (out-Value v))
unfolding key_cost
key_cost-out v = fold_out-Value ℕ key_cost_by v

pub key_cost-Tuple : (tuple : Measured Value) → key_cost (value.Tuple tuple) ≡ 1 + sum_by key_cost tuple.parts
key_cost-Tuple tuple = key_cost-out (value.Tuple tuple) ∙ ap (λ k. key_cost_by (map-Value Value ℕ key_cost k)) (outs-Tuple tuple) ∙ ap (λ n. 1 + n) (sum-map key_cost tuple.parts)

pub as_key-out : (world : World) (v : Value) → as_key world v ≡ as_key_by world (map-Value Value (Op (Unit {0})) (as_key world) (out-Value v))
unfolding as_key
as_key-out world v = fold_out-Value (Op (Unit {0})) (as_key_by world) v

pub same_key-out : (a b : Value) → same_key a b ≡ same_key_by (map-Value Value (Value → Bool) same_key (out-Value a)) (out-Value b)
unfolding same_key
same_key-out a b = ap (λ f. f b) (fold_out-Value (Value → Bool) (λ x y. same_key_by x (out-Value y)) a)

pub as_key-Tuple : (world : World) (tuple : Measured Value) → as_key world (value.Tuple tuple) ≡ all_keys (map (as_key world) tuple.parts)
as_key-Tuple world tuple = as_key-out world (value.Tuple tuple) ∙ ap (λ k. as_key_by world (map-Value Value (Op (Unit {0})) (as_key world) k)) (outs-Tuple tuple)

pub same_key-Tuple : (tuple : Measured Value) (b : Value) → same_key (value.Tuple tuple) b ≡ same_key_by (map-Value Value (Value → Bool) same_key (Value-F.Tuple tuple)) (out-Value b)
same_key-Tuple tuple b = same_key-out (value.Tuple tuple) b ∙ ap (λ k. same_key_by (map-Value Value (Value → Bool) same_key k) (out-Value b)) (outs-Tuple tuple)

-- What is found of the parts of a mapped level is found of its own.
pub sound_by-map : {E F : Type 0} (p : E → F) (f : F → Bool) (g : F → ℕ) (marks : List Bool) (k : Value-F E) → sound_by f g marks (map-Value E F p k) ≡ sound_by (λ e. f (p e)) (λ e. g (p e)) marks k
sound_by-map p f g marks (Value-F.Tuple t) = ap (λ b. b && is_measured t.depth (map g (map p t.parts))) (list_all-map f p t.parts) ∙ ap (λ ds. list_all (λ e. f (p e)) t.parts && is_measured t.depth ds) (map-map g p t.parts)
sound_by-map p f g marks _ = refl

pub sound-roll : (marks : List Bool) (k : Value-F Value) → sound marks (roll-Value k) ≡ sound_by (sound marks) depth marks k
unfolding sound
sound-roll marks k = para-roll-Value Bool (sound_by (λ part. part.1) (λ part. depth part.0) marks) k
    ∙ sound_by-map (λ part. (part, sound marks part)) (λ part. part.1) (λ part. depth part.0) marks k

pub sound-out : (marks : List Bool) (v : Value) → sound marks v ≡ sound_by (sound marks) depth marks (out-Value v)
sound-out marks v = ap (sound marks) (sym (roll-out-Value v)) ∙ sound-roll marks (out-Value v)

-- a tuple that was made
pub tuple-out : (parts : List Value) → out-Value (tuple parts) ≡ Value-F.Tuple (measured parts)
unfolding tuple
tuple-out parts = outs-Tuple (measured parts)

-- a value's one level, by its variant
pub ruleset views = (tuple-out, outs-None, outs-Bool, outs-Int, outs-Str, outs-Tuple, outs-Ref, outs-Class, outs-Func, outs-View, outs-ModuleRef)

pub ruleset as_keys = (as_key-Tuple, as_key-out)

pub ruleset same_keys = (same_key-Tuple, same_key-out)

pub ruleset levels = (key_cost-out, as_key-out, same_key-out, sound-out)
