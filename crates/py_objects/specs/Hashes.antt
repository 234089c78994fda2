-- Hashes of keys: keys that are the same have one hash. It's a number of 64 bits, made part by part.
use Rattle.std.specs.Prelude.{◌≡◌, ℕ, ◌+◌, ◌*◌, ◌/◌, ◌%◌, ◌^◌, ℤ, pos, negsuc, List, map, Option, Some, None}
use Rattle.std.specs.List.{fold}
use Rattle.pyn_base.specs.declared.class.ClassId.{ClassId}
use Rattle.pyn_base.specs.declared.class.ClassId.TheVariants.{Built, Own}
use Rattle.py_objects.specs.declared.held.Hashes.{Hashes}
use Rattle.py_objects.specs.declared.held.Hashes.TheVariants as hashes
use Rattle.py_meaning.specs.declared.value.Value.{Value, Value-F, fold-Value}
use Rattle.py_meaning.specs.Values.{number_of, place_of_class}
use Rattle.py_meaning.specs.Worlds.{Pairs}

-- a hash with one part more
unfoldable pub mixed : ℕ → ℕ → ℕ
mixed hash part = (hash * 11400714819323198485 % 2 ^ 64 + part) % 2 ^ 64

-- By the sign and both halves of the size.
unfoldable pub hash_of_size : ℕ → ℕ → ℕ
hash_of_size sign size = mixed (mixed sign (size / 2 ^ 64)) (size % 2 ^ 64)

abbrev pub hash_of_number : ℤ → ℕ
hash_of_number (pos n) = hash_of_size 3 n
hash_of_number (negsuc n) = hash_of_size 4 n

-- the hash of what is no number, no string and no tuple: of what names nothing, 0
abbrev pub hash_of_class : ClassId → ℕ
hash_of_class (Built class) = mixed 5 (place_of_class class)
hash_of_class (Own class) = mixed 6 class

abbrev pub hash_of_counted : Option ℤ → ℕ
hash_of_counted (Some n) = hash_of_number n
hash_of_counted None = 0

abbrev pub hash_of_single : {A : Type 0} → Value-F A → ℕ
hash_of_single (Value-F.Ref id) = mixed 7 id.0
hash_of_single (Value-F.Class class) = hash_of_class class
hash_of_single (Value-F.Func func) = mixed 8 func.0
hash_of_single v = hash_of_counted (number_of v)

abbrev pub hash_of_parts : ℕ → List ℕ → ℕ
hash_of_parts start parts = fold mixed start parts

abbrev pub key_hash_by : Value-F ℕ → ℕ
key_hash_by (Value-F.Str s) = hash_of_parts 1 s
key_hash_by (Value-F.Tuple tuple) = hash_of_parts 2 tuple.parts
key_hash_by v = hash_of_single v

unfoldable pub key_hash : Value → ℕ
key_hash = fold-Value ℕ key_hash_by

-- the hashes of a dict's keys, in the order of its pairs
abbrev pub hashes_of : Pairs → List ℕ
hashes_of pairs = map (λ pair. key_hash pair.0) pairs

-- what is known of a dict's keys is these hashes, or nothing
abbrev pub Holds : Hashes → List ℕ → Type 0
Holds hashes.Unknown known = Unit {0}
Holds (hashes.Few few) known = few.items ≡ known
Holds (hashes.Many many) known = many.value.keys ≡ known
