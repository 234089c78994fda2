-- Tuples: how deep they are, and the one way in which they are made.
use Rattle.std.specs.Prelude.{ℕ, suc, max, Bool, ◌&&◌, nat_le, ◌==◌, if◌then◌else◌, List, [], ◌∷◌, map, Option, Some, None}
use Rattle.pyn_base.specs.declared.construct.Construct.TheVariants.{TupleDepth}
use Rattle.py_meaning.specs.declared.measured.Measured.{Measured}
use Rattle.py_meaning.specs.declared.value.Value.{Value, Value-F, out-Value}
use Rattle.py_meaning.specs.declared.value.Value.TheVariants as value
use Rattle.py_meaning.specs.Steps.{Costing, done, leaves}

-- A tuple says how deep it is, and everything else has depth 0.
abbrev pub depth_by : {A : Type 0} → Value-F A → ℕ
depth_by (Value-F.Tuple tuple) = tuple.depth
depth_by _ = 0

abbrev pub depth : Value → ℕ
depth v = depth_by (out-Value v)

abbrev pub deepest : List ℕ → ℕ
deepest [] = 0
deepest (d ∷ ds) = max d (deepest ds)

-- how deep a tuple of these parts is
abbrev pub depth_over : List Value → ℕ
depth_over parts = suc (deepest (map depth parts))

-- A tuple is no deeper than this.
abbrev pub tuple_limit : ℕ
tuple_limit = 50

-- a tuple's number is that of its parts, and isn't above the limit
abbrev pub is_measured : ℕ → List ℕ → Bool
is_measured number depths = number == suc (deepest depths) && nat_le number tuple_limit

abbrev pub measured : List Value → Measured Value
measured parts = record { parts = parts; depth = depth_over parts }

-- the tuple of these parts
unfoldable pub tuple : List Value → Value
tuple parts = value.Tuple (measured parts)

abbrev pub measured_within_limit : List Value → Option (Measured Value)
measured_within_limit parts = if nat_le (depth_over parts) tuple_limit then Some (measured parts) else None

-- The tuple of these parts, unless it is too deep. This makes every tuple of an operation.
abbrev pub new_tuple : List Value → Costing Value
new_tuple parts = if nat_le (depth_over parts) tuple_limit then done (tuple parts) else leaves TupleDepth
