-- The methods of strings (the manual, "String Methods"), one equation a row. n is the receiver's length.
use Rattle.std.specs.Prelude.{ℕ, ◌+◌, pos, negsuc, Bool, if◌then◌else◌, List, [], ◌∷◌, length, map, Option, Some, None}
use Rattle.pyn_base.specs.declared.class.BuiltClass.TheVariants.{TypeError, ValueError}
use Rattle.pyn_base.specs.declared.construct.Construct.TheVariants as construct
use Rattle.py_meaning.specs.declared.builtin.TextMethod.{TextMethod}
use Rattle.py_meaning.specs.declared.builtin.TextMethod.TheVariants as method
use Rattle.py_meaning.specs.declared.object.Object.TheVariants as object
use Rattle.py_meaning.specs.declared.value.Value.{Value, Value-F, out-Value}
use Rattle.py_meaning.specs.declared.value.Value.TheVariants as value
use Rattle.py_meaning.specs.Steps.{Costing, Change, aside, done, raises, leaves, costs, ◌>>=◌}
use Rattle.py_meaning.specs.Worlds.{World}
use Rattle.py_meaning.specs.Operations.{made}
use Rattle.py_meaning.specs.Walk.{walk}
use Rattle.py_meaning.specs.Sums.{as_value}
use Rattle.py_meaning.specs.Texts.{begins_with, finishes_with, first_place, pieces, joined, replaced, words, is_blank, is_one_of, stripped, is_ascii, upper, lower, are_digits}

-- Only of ASCII.
abbrev pub of_ascii : {A : Type 0} → List ℕ → Costing A → Costing A
of_ascii s next = costs (length s) (if is_ascii s then next else leaves construct.NonAsciiText)

abbrev pub text : List ℕ → Costing Value
text s = done (value.Str s)

-- blanks, or the characters of a text
abbrev pub strip_by : Value-F Value → List ℕ → Costing Value
strip_by Value-F.None s = of_ascii s (text (stripped is_blank s))
strip_by (Value-F.Str chars) s = costs (length s) (text (stripped (is_one_of chars) s))
strip_by _ s = costs (length s) (raises TypeError)

abbrev pub list_of_texts : List (List ℕ) → Change World Value
list_of_texts texts world = done (as_value (made (object.List (map value.Str texts)) world))

abbrev pub cut_at : List ℕ → List ℕ → Change World Value
cut_at [] s world = raises ValueError
cut_at (c ∷ part) s world = list_of_texts (pieces (c ∷ part) s) world

-- at runs of blanks, or at a text
abbrev pub split_by : Value-F Value → List ℕ → Change World Value
split_by Value-F.None s world = of_ascii s (list_of_texts (words s) world)
split_by (Value-F.Str part) s world = costs (length s) (cut_at part s world)
split_by _ s world = costs (length s) (raises TypeError)

-- the texts of values, if all are strings
abbrev pub text_and : Value-F Value → Option (List (List ℕ)) → Option (List (List ℕ))
text_and (Value-F.Str s) (Some texts) = Some (s ∷ texts)
text_and _ _ = None

abbrev pub texts_of : List Value → Option (List (List ℕ))
texts_of [] = Some []
texts_of (x ∷ xs) = text_and (out-Value x) (texts_of xs)

abbrev pub join_texts : List ℕ → Option (List (List ℕ)) → Costing Value
join_texts s None = raises TypeError
join_texts s (Some texts) = costs (length (joined s texts)) (text (joined s texts))

abbrev pub join_walked : List ℕ → Value → World → Costing Value
join_walked s x world = walk world x >>= (λ items. join_texts s (texts_of items))

-- a test of a string, at its length
abbrev pub test_by : (List ℕ → Bool) → Value-F Value → Costing Value
test_by test (Value-F.Str part) = costs (length part) (done (value.Bool (test part)))
test_by test (Value-F.Tuple parts) = leaves construct.Argument
test_by test _ = raises TypeError

abbrev pub replace_by : Value-F Value → Value-F Value → List ℕ → Costing Value
replace_by (Value-F.Str part) (Value-F.Str new) s = costs (length s + length (replaced part new s)) (text (replaced part new s))
replace_by _ _ s = costs (length s) (raises TypeError)

-- the first place, or -1
abbrev pub or_minus_one : Option ℕ → Costing Value
or_minus_one None = done (value.Int (negsuc 0))
or_minus_one (Some at) = done (value.Int (pos at))

abbrev pub find_by : Value-F Value → List ℕ → Costing Value
find_by (Value-F.Str part) s = costs (length s + length part) (or_minus_one (first_place part s))
find_by _ s = costs (length s) (raises TypeError)

abbrev pub text_method : TextMethod → List ℕ → List Value → Change World Value
text_method method.Upper s [] = aside (of_ascii s (text (map upper s)))
text_method method.Lower s [] = aside (of_ascii s (text (map lower s)))
text_method method.IsDigit s [] = aside (of_ascii s (done (value.Bool (are_digits s))))
text_method method.Strip s [] = aside (strip_by Value-F.None s)
text_method method.Strip s (x ∷ []) = aside (strip_by (out-Value x) s)
text_method method.Split s [] = split_by Value-F.None s
text_method method.Split s (x ∷ []) = split_by (out-Value x) s
text_method method.Split s (x ∷ most ∷ []) = aside (leaves construct.Argument)
text_method method.Join s (x ∷ []) = λ world. aside (join_walked s x world) world
text_method method.StartsWith s (x ∷ []) = aside (test_by (begins_with s) (out-Value x))
text_method method.StartsWith s (x ∷ start ∷ []) = aside (leaves construct.Argument)
text_method method.StartsWith s (x ∷ start ∷ stop ∷ []) = aside (leaves construct.Argument)
text_method method.EndsWith s (x ∷ []) = aside (test_by (finishes_with s) (out-Value x))
text_method method.EndsWith s (x ∷ start ∷ []) = aside (leaves construct.Argument)
text_method method.EndsWith s (x ∷ start ∷ stop ∷ []) = aside (leaves construct.Argument)
text_method method.Replace s (part ∷ new ∷ []) = aside (replace_by (out-Value part) (out-Value new) s)
text_method method.Replace s (part ∷ new ∷ most ∷ []) = aside (leaves construct.Argument)
text_method method.Find s (x ∷ []) = aside (find_by (out-Value x) s)
text_method method.Find s (x ∷ start ∷ []) = aside (leaves construct.Argument)
text_method method.Find s (x ∷ start ∷ stop ∷ []) = aside (leaves construct.Argument)
text_method _ s _ = aside (raises TypeError)
