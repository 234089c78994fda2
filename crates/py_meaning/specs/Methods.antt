-- Methods of the built-in types, by their names (the manual, "Built-in Types").
use Rattle.std.specs.Prelude.{ℕ, Bool, if◌then◌else◌, bytes_eq, codes, List, [], ◌∷◌, Option, Some, None}
use Rattle.std.specs.List.{list_any}
use Rattle.pyn_base.specs.declared.class.BuiltClass.TheVariants.{AttributeError}
use Rattle.pyn_base.specs.declared.construct.Construct.TheVariants as construct
use Rattle.pyn_base.specs.declared.ids.ObjId.{ObjId}
use Rattle.py_meaning.specs.declared.builtin.ListMethod.{ListMethod}
use Rattle.py_meaning.specs.declared.builtin.ListMethod.TheVariants as list
use Rattle.py_meaning.specs.declared.builtin.DictMethod.{DictMethod}
use Rattle.py_meaning.specs.declared.builtin.DictMethod.TheVariants as dict
use Rattle.py_meaning.specs.declared.builtin.TextMethod.{TextMethod}
use Rattle.py_meaning.specs.declared.builtin.TextMethod.TheVariants as text
use Rattle.py_meaning.specs.declared.object.ObjKind.{ObjKind}
use Rattle.py_meaning.specs.declared.object.ObjKind.TheVariants as kind
use Rattle.py_meaning.specs.declared.value.Value.{Value, Value-F, out-Value}
use Rattle.py_meaning.specs.Steps.{Change, aside, raises, leaves}
use Rattle.py_meaning.specs.Worlds.{World, object_at}
use Rattle.py_meaning.specs.Operations.{kind_of}
use Rattle.py_meaning.specs.ListMethods.{list_method}
use Rattle.py_meaning.specs.DictMethods.{dict_method}
use Rattle.py_meaning.specs.TextMethods.{text_method}

-- what a table has under a name
abbrev pub Names : Type 0 → Type 0
Names M = List (List ℕ × M)

abbrev pub named : {M : Type 0} → Names M → List ℕ → Option M
named [] name = None
named (row ∷ rows) name = if bytes_eq name row.0 then Some row.1 else named rows name

abbrev pub list_methods : Names ListMethod
list_methods = (codes "append", list.Append) ∷ (codes "pop", list.Pop) ∷ (codes "insert", list.Insert) ∷ (codes "extend", list.Extend)
    ∷ (codes "remove", list.Remove) ∷ (codes "index", list.Index) ∷ (codes "count", list.Count) ∷ (codes "clear", list.Clear)
    ∷ (codes "copy", list.Copy) ∷ (codes "reverse", list.Reverse) ∷ []

abbrev pub dict_methods : Names DictMethod
dict_methods = (codes "get", dict.Get) ∷ (codes "setdefault", dict.SetDefault) ∷ (codes "pop", dict.Pop) ∷ (codes "keys", dict.Keys)
    ∷ (codes "values", dict.Values) ∷ (codes "items", dict.Items) ∷ (codes "clear", dict.Clear) ∷ (codes "copy", dict.Copy) ∷ []

abbrev pub text_methods : Names TextMethod
text_methods = (codes "upper", text.Upper) ∷ (codes "lower", text.Lower) ∷ (codes "isdigit", text.IsDigit) ∷ (codes "strip", text.Strip)
    ∷ (codes "split", text.Split) ∷ (codes "join", text.Join) ∷ (codes "startswith", text.StartsWith) ∷ (codes "endswith", text.EndsWith)
    ∷ (codes "replace", text.Replace) ∷ (codes "find", text.Find) ∷ []

-- Methods of Python's that a call leaves the subset by.
abbrev pub left_of_list : List (List ℕ)
left_of_list = codes "sort" ∷ []

abbrev pub left_of_dict : List (List ℕ)
left_of_dict = codes "fromkeys" ∷ codes "popitem" ∷ codes "update" ∷ []

abbrev pub left_of_tuple : List (List ℕ)
left_of_tuple = codes "count" ∷ codes "index" ∷ []

abbrev pub left_of_integer : List (List ℕ)
left_of_integer = codes "as_integer_ratio" ∷ codes "bit_count" ∷ codes "bit_length" ∷ codes "conjugate" ∷ codes "denominator"
    ∷ codes "from_bytes" ∷ codes "imag" ∷ codes "numerator" ∷ codes "real" ∷ codes "to_bytes" ∷ []

abbrev pub left_of_text : List (List ℕ)
left_of_text = codes "capitalize" ∷ codes "casefold" ∷ codes "center" ∷ codes "count" ∷ codes "encode" ∷ codes "expandtabs" ∷ codes "format"
    ∷ codes "format_map" ∷ codes "index" ∷ codes "isalnum" ∷ codes "isalpha" ∷ codes "isascii" ∷ codes "isdecimal" ∷ codes "isidentifier"
    ∷ codes "islower" ∷ codes "isnumeric" ∷ codes "isprintable" ∷ codes "isspace" ∷ codes "istitle" ∷ codes "isupper" ∷ codes "ljust"
    ∷ codes "lstrip" ∷ codes "maketrans" ∷ codes "partition" ∷ codes "removeprefix" ∷ codes "removesuffix" ∷ codes "rfind" ∷ codes "rindex"
    ∷ codes "rjust" ∷ codes "rpartition" ∷ codes "rsplit" ∷ codes "rstrip" ∷ codes "splitlines" ∷ codes "swapcase" ∷ codes "title"
    ∷ codes "translate" ∷ codes "zfill" ∷ []

abbrev pub is_among : List (List ℕ) → List ℕ → Bool
is_among names name = list_any (λ other. bytes_eq name other) names

-- a name that is no method of the subset
abbrev pub no_method : List (List ℕ) → List ℕ → Change World Value
no_method left name = if is_among left name then aside (leaves construct.Method) else aside (raises AttributeError)

abbrev pub by_method : {M : Type 0} → List (List ℕ) → List ℕ → (M → Change World Value) → Option M → Change World Value
by_method left name row None = no_method left name
by_method left name row (Some method) = row method

abbrev pub call_on_text : List ℕ → List ℕ → List Value → Change World Value
call_on_text s name args = by_method left_of_text name (λ method. text_method method s args) (named text_methods name)

abbrev pub call_on_list : ObjId → List ℕ → List Value → Change World Value
call_on_list id name args = by_method left_of_list name (λ method. list_method method id args) (named list_methods name)

abbrev pub call_on_dict : ObjId → List ℕ → List Value → Change World Value
call_on_dict id name args = by_method left_of_dict name (λ method. dict_method method id args) (named dict_methods name)

-- Attributes of instances are the module's own.
abbrev pub call_on_object : ObjKind → ObjId → List ℕ → List Value → Change World Value
call_on_object kind.List id name args = call_on_list id name args
call_on_object kind.Dict id name args = call_on_dict id name args
call_on_object (kind.Instance class) id name args = aside (raises AttributeError)

abbrev pub call_on_value : Value-F Value → List ℕ → List Value → Change World Value
call_on_value (Value-F.Str s) name args world = call_on_text s name args world
call_on_value (Value-F.Ref id) name args world = call_on_object (kind_of (object_at world id)) id name args world
call_on_value (Value-F.Tuple parts) name args world = no_method left_of_tuple name world
call_on_value (Value-F.Int n) name args world = no_method left_of_integer name world
call_on_value (Value-F.Bool b) name args world = no_method left_of_integer name world
call_on_value (Value-F.View view) name args world = leaves construct.Method
call_on_value _ name args world = raises AttributeError

-- A call of a method of a built-in type. Every name on a view leaves; another name that a type hasn't raises AttributeError.
abbrev pub call_method : Value → List ℕ → List Value → Change World Value
call_method receiver name args = call_on_value (out-Value receiver) name args
