-- The built-in functions (the manual, "Built-in Functions"), one equation a row. A number of arguments that no row has raises
-- TypeError, and further arguments of Python's own leave `argument`.
use Rattle.std.specs.Prelude.{ℕ, ℤ, pos, nat_abs, Bool, false, not, nat_le, ◌&&◌, if◌then◌else◌, List, [], ◌∷◌, length, codes, Option, Some, None}
use Rattle.std.specs.Option.{option_map}
use Rattle.std.specs.Ordering.{int_eq}
use Rattle.pyn_base.specs.Int.{in_range}
use Rattle.pyn_base.specs.declared.class.BuiltClass.TheVariants.{TypeError, ValueError, KeyError}
use Rattle.pyn_base.specs.declared.class.ClassId.TheVariants.{Built}
use Rattle.pyn_base.specs.declared.construct.Construct.TheVariants as construct
use Rattle.pyn_base.specs.declared.ids.ObjId.{ObjId}
use Rattle.py_meaning.specs.declared.builtin.Builtin.{Builtin}
use Rattle.py_meaning.specs.declared.builtin.Builtin.TheVariants as builtin
use Rattle.py_meaning.specs.declared.object.Object.TheVariants as object
use Rattle.py_meaning.specs.declared.object.ObjKind.{ObjKind}
use Rattle.py_meaning.specs.declared.object.ObjKind.TheVariants as kind
use Rattle.py_meaning.specs.declared.order.Order.TheVariants.{Less}
use Rattle.py_meaning.specs.declared.value.Value.{Value, Value-F, out-Value}
use Rattle.py_meaning.specs.declared.value.Value.TheVariants as value
use Rattle.py_meaning.specs.declared.value.View.TheVariants.{Range}
use Rattle.py_meaning.specs.Steps.{Costing, Change, aside, done, raises, leaves, costs, ◌>>=◌}
use Rattle.py_meaning.specs.Values.{number_of, same_class}
use Rattle.py_meaning.specs.Tuples.{depth_over, tuple_limit, tuple}
use Rattle.py_meaning.specs.Worlds.{World, object_at, within_machine}
use Rattle.py_meaning.specs.Operations.{made, kind_of, args_of, make_dict, dict_copy}
use Rattle.py_meaning.specs.Walk.{truth, walked, walk, gives_new_tuples, shallow}
use Rattle.py_meaning.specs.Less.{ordered}
use Rattle.py_meaning.specs.Sums.{add, as_value, or_range}
use Rattle.py_meaning.specs.Texts.{is_ascii}
use Rattle.py_meaning.specs.Numerals.{integer_spelled, integer_text, truth_text}

-- what reads the world and leaves it
abbrev pub reading : {A : Type 0} → (World → Costing A) → Change World A
reading read world = aside (read world) world

abbrev pub or_type_error : Option ℕ → Costing Value
or_type_error None = raises TypeError
or_type_error (Some n) = done (value.Int (pos n))

-- What has a length is what is walked.
abbrev pub len_row : List Value → World → Costing Value
len_row (x ∷ []) world = or_type_error (option_map length (walked world x))
len_row _ world = raises TypeError

abbrev pub absolute : Option ℤ → Costing Value
absolute None = raises TypeError
absolute (Some n) = done (value.Int (pos (nat_abs n)))

abbrev pub abs_row : List Value → Costing Value
abs_row (x ∷ []) = absolute (number_of (out-Value x))
abs_row _ = raises TypeError

-- The first of the least or the greatest, where `better x b` tells that x is put in b's place.
abbrev pub best_from : (Value → Value → Costing Bool) → Value → List Value → Costing Value
best_from better b [] = done b
best_from better b (x ∷ xs) = better x b >>= (λ yes. if yes then best_from better x xs else best_from better b xs)

abbrev pub best : (Value → Value → Costing Bool) → List Value → Costing Value
best better [] = raises ValueError
best better (x ∷ xs) = best_from better x xs

abbrev pub best_row : (Value → Value → Costing Bool) → List Value → World → Costing Value
best_row better [] world = raises TypeError
best_row better (x ∷ []) world = walk world x >>= (λ items. best better items)
best_row better (x ∷ y ∷ more) world = costs (length (x ∷ y ∷ more)) (best better (x ∷ y ∷ more))

abbrev pub is_less_than : World → Value → Value → Costing Bool
is_less_than world x b = ordered world Less x b

abbrev pub is_more_than : World → Value → Value → Costing Bool
is_more_than world x b = ordered world Less b x

abbrev pub add_all : Value → List Value → Change World Value
add_all total [] world = done (total, world)
add_all total (x ∷ xs) world = add total x world >>= (λ added. add_all added.0 xs added.1)

-- A sum of texts is refused.
abbrev pub add_all_to : Value-F Value → Value → List Value → Change World Value
add_all_to (Value-F.Str s) start items world = raises TypeError
add_all_to _ start items world = add_all start items world

abbrev pub sum_of : Value → Value → Change World Value
sum_of x start world = walk world x >>= (λ items. add_all_to (out-Value start) start items world)

abbrev pub sum_row : List Value → Change World Value
sum_row (x ∷ []) = sum_of x (value.Int (pos 0))
sum_row (x ∷ start ∷ []) = sum_of x start
sum_row _ = aside (raises TypeError)

-- The text of None, a bool, an integer or a string.
abbrev pub plain_text : Value-F Value → Option (List ℕ)
plain_text Value-F.None = Some (codes "None")
plain_text (Value-F.Bool b) = Some (truth_text b)
plain_text (Value-F.Int n) = Some (integer_text n)
plain_text (Value-F.Str s) = Some s
plain_text _ = None

-- at a step for each character of the text
abbrev pub text_or_leaves : Option (List ℕ) → Costing Value
text_or_leaves None = leaves construct.StrOf
text_or_leaves (Some s) = costs (length s) (done (value.Str s))

-- The text of an exception with no argument, or one that has a plain text. What the interpreter gave as arguments isn't known.
abbrev pub text_of_args : Option (List Value) → Costing Value
text_of_args None = leaves construct.ExceptionText
text_of_args (Some []) = text_or_leaves (Some [])
text_of_args (Some (x ∷ [])) = text_or_leaves (plain_text (out-Value x))
text_of_args (Some (x ∷ y ∷ more)) = leaves construct.StrOf

abbrev pub text_of_object : ObjKind → Option (List Value) → Costing Value
text_of_object (kind.Instance (Built class)) args = if same_class (Built class) (Built KeyError) then leaves construct.StrOf else text_of_args args
text_of_object _ args = leaves construct.StrOf

abbrev pub text_of_value : Value-F Value → World → Costing Value
text_of_value (Value-F.Ref id) world = text_of_object (kind_of (object_at world id)) (option_map (λ args. args.parts) (args_of (object_at world id)))
text_of_value v world = text_or_leaves (plain_text v)

abbrev pub str_row : List Value → World → Costing Value
str_row [] world = done (value.Str [])
str_row (x ∷ []) world = text_of_value (out-Value x) world
str_row (x ∷ y ∷ []) world = leaves construct.Argument
str_row (x ∷ y ∷ z ∷ []) world = leaves construct.Argument
str_row _ world = raises TypeError

abbrev pub spelled : Option ℤ → Costing Value
spelled None = raises ValueError
spelled (Some n) = or_range (in_range n)

abbrev pub integer_of_text : List ℕ → Costing Value
integer_of_text s = costs (length s) (if is_ascii s then spelled (integer_spelled s) else leaves construct.NonAsciiText)

abbrev pub integer_or_type_error : Option ℤ → Costing Value
integer_or_type_error None = raises TypeError
integer_or_type_error (Some n) = done (value.Int n)

abbrev pub integer_of : Value-F Value → Costing Value
integer_of (Value-F.Str s) = integer_of_text s
integer_of v = integer_or_type_error (number_of v)

abbrev pub int_row : List Value → Costing Value
int_row [] = done (value.Int (pos 0))
int_row (x ∷ []) = integer_of (out-Value x)
int_row (x ∷ y ∷ []) = leaves construct.Argument
int_row _ = raises TypeError

abbrev pub bool_row : List Value → World → Costing Value
bool_row [] world = done (value.Bool false)
bool_row (x ∷ []) world = done (value.Bool (truth world x))
bool_row _ world = raises TypeError

-- A new list of what is walked. A tuple that the walk makes and that is too deep leaves before anything is paid.
abbrev pub listed : Bool → Option (List Value) → Change World Value
listed new_tuples None world = raises TypeError
listed new_tuples (Some items) world = if new_tuples && not (shallow items) then leaves construct.TupleDepth else costs (length items) (done (as_value (made (object.List items) world)))

abbrev pub list_of : Value → Change World Value
list_of x world = listed (gives_new_tuples (out-Value x)) (walked world x) world

abbrev pub list_row : List Value → Change World Value
list_row [] world = done (as_value (made (object.List []) world))
list_row (x ∷ []) world = list_of x world
list_row _ world = raises TypeError

-- A tuple of these parts, unless it is too deep.
abbrev pub tuple_of_parts : List Value → Costing Value
tuple_of_parts parts = if nat_le (depth_over parts) tuple_limit then costs (length parts) (done (tuple parts)) else leaves construct.TupleDepth

abbrev pub tupled : Option (List Value) → Costing Value
tupled None = raises TypeError
tupled (Some parts) = tuple_of_parts parts

abbrev pub tuple_row : List Value → World → Costing Value
tuple_row [] world = done (tuple [])
tuple_row (x ∷ []) world = tupled (walked world x)
tuple_row _ world = raises TypeError

-- A copy of a dict; other arguments leave.
abbrev pub dict_of_object : ObjKind → ObjId → Change World Value
dict_of_object kind.Dict id world = dict_copy id world >>= (λ copy. done (as_value copy))
dict_of_object _ id world = leaves construct.Argument

abbrev pub dict_of_value : Value-F Value → Change World Value
dict_of_value (Value-F.Ref id) world = dict_of_object (kind_of (object_at world id)) id world
dict_of_value _ world = leaves construct.Argument

abbrev pub dict_row : List Value → Change World Value
dict_row [] world = make_dict [] world >>= (λ new. done (as_value new))
dict_row (x ∷ []) world = dict_of_value (out-Value x) world
dict_row _ world = raises TypeError

-- Kinds come before positions, and these before the step that isn't 0.
abbrev pub range_of : Option ℤ → Option ℤ → Option ℤ → Costing Value
range_of (Some start) (Some stop) (Some step) = if within_machine start && (within_machine stop && within_machine step)
    then (if int_eq step (pos 0) then raises ValueError else done (value.View (Range start stop step)))
    else leaves construct.MachineSize
range_of _ _ _ = raises TypeError

abbrev pub range_row : List Value → Costing Value
range_row (stop ∷ []) = range_of (Some (pos 0)) (number_of (out-Value stop)) (Some (pos 1))
range_row (start ∷ stop ∷ []) = range_of (number_of (out-Value start)) (number_of (out-Value stop)) (Some (pos 1))
range_row (start ∷ stop ∷ step ∷ []) = range_of (number_of (out-Value start)) (number_of (out-Value stop)) (number_of (out-Value step))
range_row _ = raises TypeError

-- A call of a built-in function or type. `isinstance` isn't among them: it asks for the module's classes, which are in no world.
abbrev pub call_builtin : Builtin → List Value → Change World Value
call_builtin builtin.Len args = reading (len_row args)
call_builtin builtin.Abs args = aside (abs_row args)
call_builtin builtin.Min args = reading (λ world. best_row (is_less_than world) args world)
call_builtin builtin.Max args = reading (λ world. best_row (is_more_than world) args world)
call_builtin builtin.Sum args = sum_row args
call_builtin builtin.Str args = reading (str_row args)
call_builtin builtin.Int args = aside (int_row args)
call_builtin builtin.Bool args = reading (bool_row args)
call_builtin builtin.List args = list_row args
call_builtin builtin.Tuple args = reading (tuple_row args)
call_builtin builtin.Dict args = dict_row args
call_builtin builtin.Range args = aside (range_row args)
call_builtin builtin.Isinstance args = aside (leaves construct.Argument)
call_builtin builtin.Print args = aside (done value.None)
call_builtin builtin.Object args = aside (leaves construct.Argument)
