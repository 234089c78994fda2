-- Values: numbers, sameness and lengths.
use Rattle.std.specs.Prelude.{ℕ, zero, suc, ◌+◌, ◌/◌, ℤ, pos, negsuc, ◌-ℤ◌, int_lt, nat_abs, Bool, true, false, if◌then◌else◌, ◌==◌, bytes_eq, List, slice_get, Option, Some, None}
use Rattle.std.specs.Ordering.{int_eq}
use Rattle.pyn_base.specs.declared.class.BuiltClass.{BuiltClass}
use Rattle.pyn_base.specs.declared.class.BuiltClass.TheVariants as built
use Rattle.pyn_base.specs.declared.class.ClassId.{ClassId}
use Rattle.pyn_base.specs.declared.class.ClassId.TheVariants.{Built, Own}
use Rattle.py_meaning.specs.declared.value.Value.{Value-F}

-- A truth value counts as 0 or 1 wherever an integer does.
abbrev pub number_of_truth : Bool → ℤ
number_of_truth true = pos 1
number_of_truth false = pos 0

abbrev pub number_of : {A : Type 0} → Value-F A → Option ℤ
number_of (Value-F.Bool b) = Some (number_of_truth b)
number_of (Value-F.Int n) = Some n
number_of _ = None

abbrev pub is_view : {A : Type 0} → Value-F A → Bool
is_view (Value-F.View view) = true
is_view _ = false

-- a built-in class's place in the list of them
abbrev pub place_of_class : BuiltClass → ℕ
place_of_class built.Object = 0
place_of_class built.Int = 1
place_of_class built.Bool = 2
place_of_class built.Str = 3
place_of_class built.List = 4
place_of_class built.Dict = 5
place_of_class built.Tuple = 6
place_of_class built.Exception = 7
place_of_class built.ArithmeticError = 8
place_of_class built.ZeroDivisionError = 9
place_of_class built.LookupError = 10
place_of_class built.IndexError = 11
place_of_class built.KeyError = 12
place_of_class built.ValueError = 13
place_of_class built.TypeError = 14
place_of_class built.AttributeError = 15
place_of_class built.NameError = 16
place_of_class built.UnboundLocalError = 17
place_of_class built.AssertionError = 18
place_of_class built.RuntimeError = 19
place_of_class built.NotImplementedError = 20

abbrev pub same_class : ClassId → ClassId → Bool
same_class (Built a) (Built b) = place_of_class a == place_of_class b
same_class (Own a) (Own b) = a == b
same_class _ _ = false

abbrev pub same_number : Option ℤ → Option ℤ → Bool
same_number (Some a) (Some b) = int_eq a b
same_number _ _ = false

-- Whether two values of which not both are tuples are the same: by number, by characters, or by what they name.
abbrev pub same_single : {A B : Type 0} → Value-F A → Value-F B → Bool
same_single Value-F.None Value-F.None = true
same_single (Value-F.Str s) (Value-F.Str t) = bytes_eq s t
same_single (Value-F.Ref i) (Value-F.Ref j) = i.0 == j.0
same_single (Value-F.Class c) (Value-F.Class d) = same_class c d
same_single (Value-F.Func f) (Value-F.Func g) = f.0 == g.0
same_single Value-F.ModuleRef Value-F.ModuleRef = true
same_single a b = same_number (number_of a) (number_of b)

-- what is at a place, if one is given
abbrev pub at_place : {A : Type 0} → List A → Option ℕ → Option A
at_place xs None = None
at_place xs (Some at) = slice_get xs at

-- how many steps of a size lead over a distance, the last one perhaps beyond its end
abbrev pub steps_over : ℕ → ℕ → ℕ
steps_over distance zero = 0
steps_over distance (suc size) = (distance + size) / suc size

-- The number of integers of a range (the manual, "Ranges"). A step of 0 is in no range.
abbrev pub range_length : ℤ → ℤ → ℤ → ℕ
range_length start stop (pos step) = if int_lt start stop then steps_over (nat_abs (stop -ℤ start)) step else 0
range_length start stop (negsuc step) = if int_lt stop start then steps_over (nat_abs (start -ℤ stop)) (suc step) else 0
