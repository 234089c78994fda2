-- Parts of sound states are sound: variables, attributes, constants, elements, and what reads them.
use Rattle.std.proofs.Common.{◌≡◌, ℕ, zero, suc, Bool, true, false, List, [], ◌∷◌, ◌++◌, length, refl, sym, ap, ◌∙◌, ℤ, Option, Some, None}
use Rattle.std.specs.Prelude.{if◌then◌else◌, nat_lt, nat_le, slice_get, IsTrue}
use Rattle.std.specs.List.{list_all}
use Rattle.std.specs.Option.{option_map, option_or}
use Rattle.pyn_base.specs.declared.class.ClassId.{ClassId}
use Rattle.pyn_base.specs.declared.class.ClassId.TheVariants.{Built, Own}
use Rattle.pyn_base.specs.declared.class.BuiltClass.TheVariants.{KeyError}
use Rattle.pyn_base.specs.declared.construct.Construct.{Construct}
use Rattle.pyn_base.specs.declared.construct.Construct.TheVariants as construct
use Rattle.pyn_base.specs.declared.ids.FuncId.{FuncId}
use Rattle.pyn_base.specs.declared.ids.ObjId.{ObjId}
use Rattle.py_syntax.specs.declared.operator.Sign.{Sign}
use Rattle.py_meaning.specs.declared.object.Object.{Object}
use Rattle.py_meaning.specs.declared.object.Object.TheVariants as object
use Rattle.py_meaning.specs.declared.object.ObjKind.{ObjKind}
use Rattle.py_meaning.specs.declared.object.ObjKind.TheVariants as kind
use Rattle.py_meaning.specs.declared.value.Value.{Value, Value-F, out-Value}
use Rattle.py_meaning.specs.declared.value.Value.TheVariants as v
use Rattle.py_meaning.specs.declared.value.View.TheVariants as view
use Rattle.py_meaning.specs.Arithmetic.{unary, sign_number}
use Rattle.py_meaning.specs.Builtins.{str_row, text_of_args, text_or_leaves, text_of_value as plain_text_of_value, text_of_object as plain_text_of_object, plain_text}
use Rattle.py_meaning.specs.Folds.{levels, views}
use Rattle.py_meaning.specs.Operations.{kind_of, attribute_place, with_attribute}
use Rattle.py_meaning.specs.Outcomes.{gives_costs}
use Rattle.py_meaning.specs.SoundRuns.{Fits, AllFit, Gives, Answers}
use Rattle.py_meaning.specs.Steps.{Costing, done, leaves}
use Rattle.py_meaning.specs.Tuples.{tuple_limit, depth}
use Rattle.py_meaning.specs.Values.{at_place, number_of, is_view, range_length, same_class}
use Rattle.py_meaning.specs.Walk.{shallow, gives_new_tuples}
use Rattle.py_meaning.specs.Worlds.{World, Pairs, Attributes, object_at, elements, pairs, sound, sound_world, dicts}
use Rattle.py_meaning.proofs.Soundness.{both, first, second, all_join, all_one, all_remove, all_second_alone}
use Rattle.py_meaning.proofs.SoundKinds.{SoundKind, level_sound, sound_tuple, tuple_depth, sound_Str, sound_Int}
use Rattle.py_meaning.proofs.SoundWalks.{elements_fit, pairs_fit, pair_fits}
use Rattle.py_plain.specs.declared.run.Callee.{Callee}
use Rattle.py_plain.specs.declared.run.Callee.TheVariants as callee
use Rattle.py_plain.specs.declared.state.Space.{Space}
use Rattle.py_plain.specs.Attributes.{bound_method}
use Rattle.py_plain.specs.Builtins.{text_row, text_of_value, text_of_object}
use Rattle.py_plain.specs.Classes.{member_named, member_of, member_along, class_member, method_of, resolution_order, or_no_constants, derives, is_exception}
use Rattle.py_plain.specs.Exceptions.{last_of}
use Rattle.py_plain.specs.Loops.{element_at, element_of_object, pair_item}
use Rattle.py_plain.specs.Names.{lookup, bound_to, without}
use Rattle.py_plain.specs.Program.{Program}
use Rattle.py_plain.specs.SoundStates.{NamesFit, AllNamesFit, SoundSpace}

-- what may be there
abbrev pub Maybe : {A : Type 0} → (A → Type 0) → Option A → Type 0
Maybe P None = Unit {0}
Maybe P (Some x) = P x

-- what a call will call
abbrev pub CalleeFits : World → Callee → Type 0
CalleeFits world (callee.Value x) = Fits world x
CalleeFits world (callee.Function f) = Unit {0}
CalleeFits world (callee.Bound id f) = Fits world (v.Ref id)
CalleeFits world (callee.Method x name) = Fits world x
CalleeFits world (callee.Builtin builtin) = Unit {0}
CalleeFits world (callee.BaseInit id) = Fits world (v.Ref id)

-- An element that a view of items makes is sound where it isn't too deep.
abbrev pub ElementFits : World → Bool → Value → Type 0
ElementFits world true x = shallow (x ∷ []) ≡ true → Fits world x
ElementFits world false x = Fits world x

module _ (world : World) where
  pub fits_Ref : (id : ObjId) → IsTrue (nat_lt id.0 (length (dicts world))) → Fits world (v.Ref id)
  fits_Ref id h = level_sound (dicts world) (v.Ref id) (simp views h)

  pub fits_Class : (class : ClassId) → Fits world (v.Class class)
  fits_Class class = simp (levels, views)

  pub fits_Module : Fits world v.ModuleRef
  fits_Module = simp (levels, views)

  pub got : {A : Type 0} (p : A → Bool) (xs : List A) (at : ℕ) → IsTrue (list_all p xs) → Maybe (λ x. IsTrue (p x)) (slice_get xs at)
  got p [] at h = tt
  got p (x ∷ xs) zero h = first (p x) (list_all p xs) h
  got p (x ∷ xs) (suc at) h = got p xs at (second (p x) (list_all p xs) h)

  pub mapped_fits : {A : Type 0} (P : A → Type 0) (f : A → Value) (x : Option A) → ((a : A) → P a → Fits world (f a)) → Maybe P x → Maybe (Fits world) (option_map f x)
  mapped_fits P f None k h = tt
  mapped_fits P f (Some a) k h = k a h

  -- ---- names

  place_fits : (bound : Attributes) (place : Option ℕ) → NamesFit world bound → Maybe (Fits world) (option_map (λ row. row.1) (at_place bound place))
  place_fits bound None h = tt
  place_fits bound (Some at) h = mapped_fits (λ row. Fits world row.1) (λ row. row.1) (slice_get bound at) (λ row k. k) (got (λ row. sound (dicts world) row.1) bound at h)

  pub lookup_fits : (name : List ℕ) (bound : Attributes) → NamesFit world bound → Maybe (Fits world) (lookup name bound)
  lookup_fits name bound h = place_fits bound (attribute_place name bound) h

  pub one_more_fits : (bound : Attributes) (name : List ℕ) (x : Value) → NamesFit world bound → Fits world x → NamesFit world (bound ++ (name, x) ∷ [])
  one_more_fits bound name x h k = all_join (λ row. sound (dicts world) row.1) bound ((name, x) ∷ []) h (all_one {A = List ℕ × Value} (λ row. sound (dicts world) row.1) (name, x) k)

  pub one_more_value : (items : List Value) (x : Value) → AllFit world items → Fits world x → AllFit world (items ++ x ∷ [])
  one_more_value items x h k = all_join (sound (dicts world)) items (x ∷ []) h (all_one (sound (dicts world)) x k)

  pub one_first : (x : Value) (items : List Value) → Fits world x → AllFit world items → AllFit world (x ∷ items)
  one_first x items h k = both (sound (dicts world) x) (list_all (sound (dicts world)) items) h k

  abbrev pub PairsFit : Pairs → Type 0
  PairsFit held = IsTrue (list_all (pair_fits (dicts world)) held)

  pub one_more_pair : (held : Pairs) (key x : Value) → PairsFit held → Fits world key → Fits world x → PairsFit (held ++ (key, x) ∷ [])
  one_more_pair held key x h k l = all_join (pair_fits (dicts world)) held ((key, x) ∷ []) h (all_one (pair_fits (dicts world)) (key, x) (both (sound (dicts world) key) (sound (dicts world) x) k l))

  with_fits : (name : List ℕ) (x : Value) (bound : Attributes) (place : Option ℕ) → NamesFit world bound → Fits world x → NamesFit world (with_attribute name x bound place)
  with_fits name x bound None h k = one_more_fits bound name x h k
  with_fits name x bound (Some at) h k = all_second_alone (sound (dicts world)) bound at x h k

  pub bound_fits : (name : List ℕ) (x : Value) (bound : Attributes) → NamesFit world bound → Fits world x → NamesFit world (bound_to name x bound)
  bound_fits name x bound h k = with_fits name x bound (attribute_place name bound) h k

  pub without_fits : (bound : Attributes) (place : Option ℕ) → NamesFit world bound → NamesFit world (without bound place)
  without_fits bound None h = h
  without_fits bound (Some at) h = all_remove (λ row. sound (dicts world) row.1) bound at h

  pub last_fits : (handled : List ObjId) → IsTrue (list_all (λ id. sound (dicts world) (v.Ref id)) handled) → Maybe (λ id. Fits world (v.Ref id)) (last_of handled)
  last_fits [] h = tt
  last_fits (x ∷ []) h = first (sound (dicts world) (v.Ref x)) true h
  last_fits (x ∷ y ∷ rest) h = last_fits (y ∷ rest) (second (sound (dicts world) (v.Ref x)) (list_all (λ id. sound (dicts world) (v.Ref id)) (y ∷ rest)) h)

  -- ---- classes

  pub constants_fit : (all : List Attributes) (k : ℕ) → AllNamesFit world all → NamesFit world (or_no_constants (slice_get all k))
  constants_fit all k h = by_one (slice_get all k) (got (list_all (λ row. sound (dicts world) row.1)) all k h)
    where
      by_one : (one : Option Attributes) → Maybe (NamesFit world) one → NamesFit world (or_no_constants one)
      by_one None h = refl
      by_one (Some bound) h = h

  named_fits : (method : Option FuncId) (constant : Option Value) → Maybe (Fits world) constant → Maybe (CalleeFits world) (member_named method constant)
  named_fits None None h = tt
  named_fits None (Some x) h = h
  named_fits (Some f) constant h = tt

  either_fits : (a b : Option Callee) → Maybe (CalleeFits world) a → Maybe (CalleeFits world) b → Maybe (CalleeFits world) (option_or a b)
  either_fits None b h k = k
  either_fits (Some x) b h k = h

  module _ (program : Program) (space : Space) (h : SoundSpace world space) where
    member_fits : (class : ClassId) (name : List ℕ) → Maybe (CalleeFits world) (member_of program space class name)
    member_fits (Built class) name = tt
    member_fits (Own k) name = named_fits (method_of program (Own k) name) (lookup name (or_no_constants (slice_get space.constants k))) (lookup_fits name (or_no_constants (slice_get space.constants k)) (constants_fit space.constants k h.constants))

    along_fits : (classes : List ClassId) (name : List ℕ) → Maybe (CalleeFits world) (member_along program space classes name)
    along_fits [] name = tt
    along_fits (class ∷ classes) name = either_fits (member_of program space class name) (member_along program space classes name) (member_fits class name) (along_fits classes name)

    pub class_member_fits : (class : ClassId) (name : List ℕ) → Maybe (CalleeFits world) (class_member program space class name)
    class_member_fits class name = along_fits (resolution_order program class) name

  pub bound_method_fits : (id : ObjId) (found : Callee) → Fits world (v.Ref id) → CalleeFits world found → CalleeFits world (bound_method id found)
  bound_method_fits id (callee.Value x) h k = k
  bound_method_fits id (callee.Function f) h k = h
  bound_method_fits id (callee.Bound other f) h k = k
  bound_method_fits id (callee.Method x name) h k = k
  bound_method_fits id (callee.Builtin builtin) h k = k
  bound_method_fits id (callee.BaseInit other) h k = k

  -- ---- elements

  pair_first : (pair : Value × Value) → IsTrue (pair_fits (dicts world) pair) → Fits world pair.0
  pair_first pair h = first (sound (dicts world) pair.0) (sound (dicts world) pair.1) h

  pair_second : (pair : Value × Value) → IsTrue (pair_fits (dicts world) pair) → Fits world pair.1
  pair_second pair h = second (sound (dicts world) pair.0) (sound (dicts world) pair.1) h

  pair_tuple : (pair : Value × Value) → IsTrue (pair_fits (dicts world) pair) → ElementFits world true (pair_item pair)
  pair_tuple pair h deep = let parts = pair.0 ∷ pair.1 ∷ [] in
      sound_tuple (dicts world) parts (one_first pair.0 (pair.1 ∷ []) (pair_first pair h) (all_one (sound (dicts world)) pair.1 (pair_second pair h)))
      (ap (λ d. nat_le d tuple_limit) (sym (tuple_depth parts)) ∙ first (nat_le (depth (pair_item pair)) tuple_limit) true deep)

  item_fits : (at : Option (Value × Value)) → Maybe (λ pair. IsTrue (pair_fits (dicts world) pair)) at → Maybe (ElementFits world true) (option_map pair_item at)
  item_fits None h = tt
  item_fits (Some pair) h = pair_tuple pair h

  object_element : (id : ObjId) (held : ObjKind) (at : ℕ) → IsTrue (sound_world world) → Maybe (Fits world) (element_of_object world id held at)
  object_element id kind.List at h = got (sound (dicts world)) (elements world id) at (elements_fit world id h)
  object_element id kind.Dict at h = mapped_fits (λ pair. IsTrue (pair_fits (dicts world) pair)) (λ pair. pair.0) (slice_get (pairs world id) at) pair_first (got (pair_fits (dicts world)) (pairs world id) at (pairs_fit world id h))
  object_element id (kind.Instance class) at h = tt

  text_element : (c : Option ℕ) → Maybe (Fits world) (option_map (λ c. v.Str (c ∷ [])) c)
  text_element None = tt
  text_element (Some c) = sound_Str (dicts world) (c ∷ [])

  in_range : (b : Bool) (n : ℤ) → Maybe (Fits world) (if b then Some (v.Int n) else None)
  in_range true n = sound_Int (dicts world) n
  in_range false n = tt

  pub element_fits : (x : Value-F Value) (at : ℕ) → IsTrue (sound_world world) → SoundKind (dicts world) x → Maybe (ElementFits world (gives_new_tuples x)) (element_at world x at)
  element_fits (Value-F.Str s) at h k = text_element (slice_get s at)
  element_fits (Value-F.Tuple t) at h k = got (sound (dicts world)) t.parts at k
  element_fits (Value-F.Ref id) at h k = object_element id (kind_of (object_at world id)) at h
  element_fits (Value-F.View (view.Range start end step)) at h k = in_range (nat_lt at (range_length start end step)) _
  element_fits (Value-F.View (view.Keys dict)) at h k = mapped_fits (λ pair. IsTrue (pair_fits (dicts world) pair)) (λ pair. pair.0) (slice_get (pairs world dict) at) pair_first (got (pair_fits (dicts world)) (pairs world dict) at (pairs_fit world dict h))
  element_fits (Value-F.View (view.Values dict)) at h k = mapped_fits (λ pair. IsTrue (pair_fits (dicts world) pair)) (λ pair. pair.1) (slice_get (pairs world dict) at) pair_second (got (pair_fits (dicts world)) (pairs world dict) at (pairs_fit world dict h))
  element_fits (Value-F.View (view.Items dict)) at h k = item_fits (slice_get (pairs world dict) at) (got (pair_fits (dicts world)) (pairs world dict) at (pairs_fit world dict h))
  element_fits Value-F.None at h k = tt
  element_fits (Value-F.Bool b) at h k = tt
  element_fits (Value-F.Int n) at h k = tt
  element_fits (Value-F.Class class) at h k = tt
  element_fits (Value-F.Func f) at h k = tt
  element_fits Value-F.ModuleRef at h k = tt

  -- ---- signs and texts

  sign_fits : (sign : Sign) (n : Option ℤ) → Gives (Fits world) (sign_number sign n)
  sign_fits sign None left = tt
  sign_fits sign (Some n) left = sound_Int (dicts world) _

  pub unary_fits : (sign : Sign) (x : Value) → Gives (Fits world) (unary sign x)
  unary_fits sign x left = by_view (is_view (out-Value x))
    where
      by_view : (b : Bool) → Answers (Fits world) ((if b then leaves construct.View else sign_number sign (number_of (out-Value x))) left).0
      by_view true = tt
      by_view false = sign_fits sign (number_of (out-Value x)) left

  text_fits : (text : Option (List ℕ)) → Gives (Fits world) (text_or_leaves text)
  text_fits None left = tt
  text_fits (Some s) left = gives_costs (Fits world) (length s) (done (v.Str s)) (λ less. sound_Str (dicts world) s) left

  args_fits : (args : Option (List Value)) → Gives (Fits world) (text_of_args args)
  args_fits None left = tt
  args_fits (Some []) left = text_fits (Some []) left
  args_fits (Some (x ∷ [])) left = text_fits (plain_text (out-Value x)) left
  args_fits (Some (x ∷ y ∷ rest)) left = tt

  if_fits : (b : Bool) (p q : Costing Value) → Gives (Fits world) p → Gives (Fits world) q → Gives (Fits world) (if b then p else q)
  if_fits true p q h k = h
  if_fits false p q h k = k

  leaves_fits : (why : Construct) → Gives (Fits world) (leaves why)
  leaves_fits why left = tt

  plain_object_fits : (held : ObjKind) (args : Option (List Value)) → Gives (Fits world) (plain_text_of_object held args)
  plain_object_fits (kind.Instance (Built class)) args = if_fits (same_class (Built class) (Built KeyError)) _ _ (leaves_fits construct.StrOf) (args_fits args)
  plain_object_fits (kind.Instance (Own k)) args = leaves_fits construct.StrOf
  plain_object_fits kind.List args = leaves_fits construct.StrOf
  plain_object_fits kind.Dict args = leaves_fits construct.StrOf

  plain_value_fits : (x : Value-F Value) → Gives (Fits world) (plain_text_of_value x world)
  plain_value_fits (Value-F.Ref id) = plain_object_fits (kind_of (object_at world id)) _
  plain_value_fits x = text_fits (plain_text x)

  str_fits : (arguments : List Value) → Gives (Fits world) (str_row arguments world)
  str_fits [] left = sound_Str (dicts world) []
  str_fits (x ∷ []) left = plain_value_fits (out-Value x) left
  str_fits (x ∷ y ∷ []) left = tt
  str_fits (x ∷ y ∷ z ∷ []) left = tt
  str_fits (x ∷ y ∷ z ∷ u ∷ rest) left = tt

  module _ (program : Program) where
    own_object_fits : (held : Object) (arguments : List Value) → Gives (Fits world) (text_of_object program held arguments world)
    own_object_fits (object.Instance class attributes args) arguments = if_fits (derives program class (Built KeyError)) _ _ (leaves_fits construct.StrOf) (if_fits (is_exception program class) _ _ (args_fits _) (leaves_fits construct.StrOf))
    own_object_fits (object.List items) arguments = str_fits arguments
    own_object_fits (object.Dict held changes) arguments = str_fits arguments

    own_value_fits : (x : Value-F Value) (arguments : List Value) → Gives (Fits world) (text_of_value program x arguments world)
    own_value_fits (Value-F.Ref id) arguments = own_object_fits (object_at world id) arguments
    own_value_fits _ arguments = str_fits arguments

    pub text_row_fits : (arguments : List Value) → Gives (Fits world) (text_row program arguments world)
    text_row_fits [] = str_fits []
    text_row_fits (x ∷ []) = own_value_fits (out-Value x) (x ∷ [])
    text_row_fits (x ∷ y ∷ rest) = str_fits (x ∷ y ∷ rest)
