-- The methods of lists (the manual, "Mutable Sequence Types", "Lists"), one equation a row.
use Rattle.std.specs.Prelude.{ℕ, suc, ◌+◌, ◌*◌, pos, if◌then◌else◌, List, [], ◌∷◌, length, Option, Some, None}
use Rattle.pyn_base.specs.declared.class.BuiltClass.TheVariants.{TypeError, ValueError}
use Rattle.pyn_base.specs.declared.construct.Construct.TheVariants as construct
use Rattle.pyn_base.specs.declared.ids.ObjId.{ObjId}
use Rattle.py_meaning.specs.declared.builtin.ListMethod.{ListMethod}
use Rattle.py_meaning.specs.declared.builtin.ListMethod.TheVariants as method
use Rattle.py_meaning.specs.declared.value.Value.{Value, out-Value}
use Rattle.py_meaning.specs.declared.value.Value.TheVariants as value
use Rattle.py_meaning.specs.Steps.{Costing, Change, aside, answering, done, raises, leaves, costs, ◌>>=◌}
use Rattle.py_meaning.specs.Values.{number_of}
use Rattle.py_meaning.specs.Worlds.{World, elements}
use Rattle.py_meaning.specs.Operations.{list_extend, list_extend_free, list_pop, list_insert_free, list_remove_free, list_reverse, make_list, clear}
use Rattle.py_meaning.specs.Walk.{walk}
use Rattle.py_meaning.specs.Equal.{equal}
use Rattle.py_meaning.specs.Sums.{as_value}
use Rattle.py_meaning.specs.Arithmetic.{in_machine}
use Rattle.py_meaning.specs.Membership.{equal_place}

abbrev pub giving_none : {A : Type 0} → Change World A → Change World Value
giving_none change = answering value.None change

-- the item of an index, at a step for each item
abbrev pub pop_at : ObjId → Value → Change World Value
pop_at list at world = costs (length (elements world list)) (in_machine (number_of (out-Value at)) (λ n. list_remove_free list n world))

abbrev pub insert_at : ObjId → Value → Value → Change World Value
insert_at list at new world = costs (length (elements world list) + 1)
    (in_machine (number_of (out-Value at)) (λ n. done (value.None, list_insert_free list n new world)))

-- grows by what is walked, which is taken first
abbrev pub extend_by : ObjId → Value → Change World Value
extend_by list x world = walk world x >>= (λ items. done (value.None, list_extend_free list items world))

abbrev pub removed : ObjId → Option ℕ → Change World Value
removed list None world = raises ValueError
removed list (Some at) world = answering value.None (list_remove_free list (pos at)) world

-- The first equal one is removed. Two steps for each item come before the comparisons, whatever they find.
abbrev pub remove_equal : ObjId → Value → Change World Value
remove_equal list x world = costs (2 * length (elements world list)) (equal_place 0 world x 0 (elements world list) >>= (λ place. removed list place world))

abbrev pub or_value_error : Option ℕ → Costing Value
or_value_error None = raises ValueError
or_value_error (Some at) = done (value.Int (pos at))

-- the place of the first equal one, at a step for each that is looked at
abbrev pub index_equal : ObjId → Value → World → Costing Value
index_equal list x world = equal_place 1 world x 0 (elements world list) >>= or_value_error

-- how many are equal, each the left operand
abbrev pub equals_from : World → Value → ℕ → List Value → Costing Value
equals_from world x count [] = done (value.Int (pos count))
equals_from world x count (y ∷ ys) = equal world y x >>= (λ same. equals_from world x (if same then suc count else count) ys)

abbrev pub count_equal : ObjId → Value → World → Costing Value
count_equal list x world = costs (length (elements world list)) (equals_from world x 0 (elements world list))

abbrev pub clear_list : ObjId → Change World Value
clear_list list world = costs (length (elements world list)) (done (value.None, clear list world))

abbrev pub copy_list : ObjId → Change World Value
copy_list list world = make_list (elements world list) world >>= (λ new. done (as_value new))

abbrev pub list_method : ListMethod → ObjId → List Value → Change World Value
list_method method.Append list (x ∷ []) = giving_none (list_extend list (x ∷ []))
list_method method.Pop list [] = list_pop list
list_method method.Pop list (at ∷ []) = pop_at list at
list_method method.Insert list (at ∷ x ∷ []) = insert_at list at x
list_method method.Extend list (x ∷ []) = extend_by list x
list_method method.Remove list (x ∷ []) = remove_equal list x
list_method method.Index list (x ∷ []) = λ world. aside (index_equal list x world) world
list_method method.Index list (x ∷ start ∷ []) = aside (leaves construct.Argument)
list_method method.Index list (x ∷ start ∷ stop ∷ []) = aside (leaves construct.Argument)
list_method method.Count list (x ∷ []) = λ world. aside (count_equal list x world) world
list_method method.Clear list [] = clear_list list
list_method method.Copy list [] = copy_list list
list_method method.Reverse list [] = giving_none (list_reverse list)
list_method _ list _ = aside (raises TypeError)
