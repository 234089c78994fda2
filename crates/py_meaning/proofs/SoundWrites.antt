-- Writes of sound values keep a world sound, and what they hand out is sound in it.
use Rattle.std.proofs.Common.{◌≡◌, ℕ, Bool, false, List, refl, length, ℤ, negsuc, Option, Some, None, ◌+◌}
use Rattle.std.specs.Prelude.{IsTrue, slice_get}
use Rattle.std.specs.List.{list_all}
use Rattle.pyn_base.specs.declared.ids.ObjId.{ObjId}
use Rattle.py_meaning.specs.declared.measured.Measured.{Measured}
use Rattle.py_meaning.specs.declared.object.Object.{Object}
use Rattle.py_meaning.specs.declared.object.Object.TheVariants as object
use Rattle.py_meaning.specs.declared.value.Value.{Value}
use Rattle.py_meaning.specs.declared.value.Value.TheVariants as value
use Rattle.py_meaning.specs.Steps.{Costing, Change, answering, costs, done}
use Rattle.py_meaning.specs.Worlds.{World, Pairs, object_at, elements, with_object, sound, sound_object, sound_world, dicts, is_dict, pairs}
use Rattle.py_meaning.specs.Keys.{key_cost, as_key, key_place}
use Rattle.py_meaning.specs.Operations.{on_object, index_place, list_set, list_insert, list_insert_free, list_remove, list_remove_free, list_pop, list_extend, list_extend_free, list_reverse, set_at, set_item, remove_item, remove_at, taken_at, grown, inserted, turned, for_key, put_pair, dict_put, dict_put_free, dict_delete, dict_delete_free, delete_pair, delete_at, taken_pair, attr_set, set_attribute, set_args, with_args, clear, cleared}
use Rattle.py_meaning.specs.Sums.{is_list}
use Rattle.py_meaning.specs.SoundRuns.{AllFit, Fits, Gives, Holds, WorldSound}
use Rattle.py_meaning.proofs.Soundness.{second, all_got, all_remove, all_set}
use Rattle.py_meaning.proofs.Keeping.{Stays, written_world, object_sound, put_pair_stays, grown_stays, inserted_stays, turned_stays, cleared_stays, set_attribute_stays, with_args_stays}
use Rattle.py_meaning.specs.Outcomes.{gives_costs, gives_then, gives_weaker}
use Rattle.py_meaning.proofs.SoundWalks.{pair_fits, for_key_gives}

pub holds_sound : (world : World) (run : Costing (Value × World)) → Gives (Holds world) run → Gives (WorldSound world) run
holds_sound world run k = gives_weaker (Holds world) (WorldSound world) (λ made h. h.0) run k

-- An object taken apart: what is handed out, and what stays of it.
abbrev pub Parted : List Bool → Object → Value × Object → Type 0
Parted marks o made = Stays marks o made.1 × IsTrue (sound marks made.0)

module _ (world : World) (h : IsTrue (sound_world world)) where
  -- a write of one object
  pub written_holds : (id : ObjId) (o : Object) (v : Value) → Stays (dicts world) (object_at world id) o → Fits world v → Holds world (v, with_object world id o)
  written_holds id o v s f = let w = written_world v world id o h s in (w, w.1 v f)

  on_object_holds : (id : ObjId) (change : Change Object Value) → Gives (Parted (dicts world) (object_at world id)) (change (object_at world id)) → Gives (Holds world) (on_object id change world)
  on_object_holds id change k = gives_then (Parted (dicts world) (object_at world id)) (Holds world) (λ made. done (made.0, with_object world id made.1)) (λ made p left. written_holds id made.1 made.0 p.0 p.1) (change (object_at world id)) k

  set_stays : (v : Value) (items : List Value) (place : Option ℕ) → AllFit world items → Fits world v → Gives (λ made. Stays (dicts world) (object.List items) made.1) (set_at v items place)
  set_stays v items None k f = λ left. tt
  set_stays v items (Some at) k f = λ left. (refl, all_set (sound (dicts world)) items at v k f)

  set_item_stays : (at : ℤ) (v : Value) (o : Object) → IsTrue (sound_object (dicts world) o) → Fits world v → Gives (λ made. Stays (dicts world) o made.1) (set_item at v o)
  set_item_stays at v (object.List items) k f = set_stays v items (index_place at (length items)) k f
  set_item_stays at v (object.Dict ps n) k f = λ left. tt
  set_item_stays at v (object.Instance class attributes args) k f = λ left. tt

  pub list_set_sound : (list : ObjId) (at : ℤ) (v : Value) → Fits world v → Gives (WorldSound world) (list_set list at v world)
  list_set_sound list at v f = gives_then (λ made. Stays (dicts world) (object_at world list) made.1) (WorldSound world) (λ made. done (made.0, with_object world list made.1))
      (λ made s left. written_world made.0 world list made.1 h s) (set_item at v (object_at world list)) (set_item_stays at v (object_at world list) (object_sound world list h) f)

  -- the object that a free write leaves
  grown_at : (list : ObjId) (items : List Value) → AllFit world items → Stays (dicts world) (object_at world list) (grown items (object_at world list))
  grown_at list items f = grown_stays (dicts world) items (object_at world list) (object_sound world list h) f

  inserted_at : (list : ObjId) (at : ℤ) (v : Value) → Fits world v → Stays (dicts world) (object_at world list) (inserted at v (object_at world list))
  inserted_at list at v f = inserted_stays (dicts world) at v (object_at world list) (object_sound world list h) f

  put_in_place : (dict : ObjId) (key v : Value) → Fits world key → Fits world v → Stays (dicts world) (object_at world dict) (put_pair key v (object_at world dict))
  put_in_place dict key v f g = put_pair_stays (dicts world) key v (object_at world dict) (object_sound world dict h) f g

  -- a write that costs something
  paid_write : (n : ℕ) (id : ObjId) (o : Object) → Stays (dicts world) (object_at world id) o → Gives (WorldSound world) (costs n (done (tt {0}, with_object world id o)))
  paid_write n id o s = gives_costs (WorldSound world) n (done (tt {0}, with_object world id o)) (λ left. written_world (tt {0}) world id o h s)

  pub list_insert_sound : (list : ObjId) (at : ℤ) (v : Value) → Fits world v → Gives (WorldSound world) (list_insert list at v world)
  list_insert_sound list at v f = paid_write (length (elements world list) + 1) list (inserted at v (object_at world list)) (inserted_at list at v f)

  pub list_extend_sound : (list : ObjId) (items : List Value) → AllFit world items → Gives (WorldSound world) (list_extend list items world)
  list_extend_sound list items f = paid_write (length items) list (grown items (object_at world list)) (grown_at list items f)

  pub list_reverse_sound : (list : ObjId) → Gives (WorldSound world) (list_reverse list world)
  list_reverse_sound list = paid_write (length (elements world list)) list (turned (object_at world list)) (turned_stays (dicts world) (object_at world list) (object_sound world list h))

  taken_parted : (items : List Value) (at : ℕ) (found : Option Value) → IsTrue (list_all (sound (dicts world)) items) → ((v : Value) → found ≡ Some v → Fits world v) → Gives (Parted (dicts world) (object.List items)) (taken_at items at found)
  taken_parted items at None k f = λ left. tt
  taken_parted items at (Some v) k f = λ left. ((refl, all_remove (sound (dicts world)) items at k), f v refl)

  removed_parted : (items : List Value) (place : Option ℕ) → IsTrue (list_all (sound (dicts world)) items) → Gives (Parted (dicts world) (object.List items)) (remove_at items place)
  removed_parted items None k = λ left. tt
  removed_parted items (Some at) k = taken_parted items at (slice_get items at) k (λ v e. all_got (sound (dicts world)) items at v k e)

  remove_parted : (at : ℤ) (o : Object) → IsTrue (sound_object (dicts world) o) → Gives (Parted (dicts world) o) (remove_item at o)
  remove_parted at (object.List items) k = removed_parted items (index_place at (length items)) k
  remove_parted at (object.Dict ps n) k = λ left. tt
  remove_parted at (object.Instance class attributes args) k = λ left. tt

  pub list_remove_free_holds : (list : ObjId) (at : ℤ) → Gives (Holds world) (list_remove_free list at world)
  list_remove_free_holds list at = on_object_holds list (remove_item at) (remove_parted at (object_at world list) (object_sound world list h))

  pub list_remove_holds : (list : ObjId) (at : ℤ) → Gives (Holds world) (list_remove list at world)
  list_remove_holds list at = gives_costs (Holds world) (length (elements world list)) (list_remove_free list at world) (list_remove_free_holds list at)

  pub list_pop_holds : (list : ObjId) → Gives (Holds world) (list_pop list world)
  list_pop_holds list = gives_costs (Holds world) 1 (list_remove_free list (negsuc 0) world) (list_remove_free_holds list (negsuc 0))

  pub dict_put_sound : (dict : ObjId) (key v : Value) → Fits world key → Fits world v → Gives (WorldSound world) (dict_put dict key v world)
  dict_put_sound dict key v f g = let put = done (tt {0}, dict_put_free dict key v world) in
      gives_costs (WorldSound world) (key_cost key) (for_key (as_key world key) put)
      (for_key_gives world (WorldSound world) key put (λ left. written_world (tt {0}) world dict (put_pair key v (object_at world dict)) h (put_in_place dict key v f g)))

  taken_pair_parted : (ps : Pairs) (n at : ℕ) (found : Option (Value × Value)) → IsTrue (list_all (pair_fits (dicts world)) ps) → ((pair : Value × Value) → found ≡ Some pair → IsTrue (pair_fits (dicts world) pair)) → Gives (Parted (dicts world) (object.Dict ps n)) (taken_pair ps n at found)
  taken_pair_parted ps n at None k f = λ left. tt
  taken_pair_parted ps n at (Some pair) k f = λ left. ((refl, all_remove (pair_fits (dicts world)) ps at k), second (sound (dicts world) pair.0) (sound (dicts world) pair.1) (f pair refl))

  deleted_parted : (ps : Pairs) (n : ℕ) (place : Option ℕ) → IsTrue (list_all (pair_fits (dicts world)) ps) → Gives (Parted (dicts world) (object.Dict ps n)) (delete_at ps n place)
  deleted_parted ps n None k = λ left. tt
  deleted_parted ps n (Some at) k = taken_pair_parted ps n at (slice_get ps at) k (λ pair e. all_got (pair_fits (dicts world)) ps at pair k e)

  delete_parted : (key : Value) (o : Object) → IsTrue (sound_object (dicts world) o) → Gives (Parted (dicts world) o) (delete_pair key o)
  delete_parted key (object.List items) k = λ left. tt
  delete_parted key (object.Dict ps n) k = deleted_parted ps n (key_place key ps) k
  delete_parted key (object.Instance class attributes args) k = λ left. tt

  pub dict_delete_free_holds : (dict : ObjId) (key : Value) → Gives (Holds world) (dict_delete_free dict key world)
  dict_delete_free_holds dict key = on_object_holds dict (delete_pair key) (delete_parted key (object_at world dict) (object_sound world dict h))

  pub dict_delete_holds : (dict : ObjId) (key : Value) → Gives (Holds world) (dict_delete dict key world)
  dict_delete_holds dict key = gives_costs (Holds world) (key_cost key + length (pairs world dict)) (for_key (as_key world key) (dict_delete_free dict key world))
      (for_key_gives world (Holds world) key (dict_delete_free dict key world) (dict_delete_free_holds dict key))

  pub extended_holds : (list : ObjId) (items : List Value) (v : Value) → AllFit world items → Fits world v → Holds world (v, list_extend_free list items world)
  extended_holds list items v f g = written_holds list (grown items (object_at world list)) v (grown_at list items f) g

  pub inserted_holds : (list : ObjId) (at : ℤ) (new v : Value) → Fits world new → Fits world v → Holds world (v, list_insert_free list at new world)
  inserted_holds list at new v f g = written_holds list (inserted at new (object_at world list)) v (inserted_at list at new f) g

  pub put_holds : (dict : ObjId) (key new v : Value) → Fits world key → Fits world new → Fits world v → Holds world (v, dict_put_free dict key new world)
  put_holds dict key new v f g k = written_holds dict (put_pair key new (object_at world dict)) v (put_in_place dict key new f g) k

  -- an instance's writes
  pub attr_set_sound : (instance : ObjId) (name : List ℕ) (v : Value) → Fits world v → WorldSound world (tt {0}, attr_set instance name v world)
  attr_set_sound instance name v f = written_world (tt {0}) world instance (set_attribute name v (object_at world instance)) h (set_attribute_stays (dicts world) name v (object_at world instance) (object_sound world instance h) f)

  pub set_args_sound : (instance : ObjId) (args : Measured Value) → Fits world (value.Tuple args) → WorldSound world (tt {0}, set_args instance args world)
  set_args_sound instance args f = written_world (tt {0}) world instance (with_args args (object_at world instance)) h (with_args_stays (dicts world) args (object_at world instance) (object_sound world instance h) f)

  pub list_insert_free_sound : (list : ObjId) (at : ℤ) (v : Value) → Fits world v → WorldSound world (tt {0}, list_insert_free list at v world)
  list_insert_free_sound list at v f = written_world (tt {0}) world list (inserted at v (object_at world list)) h (inserted_at list at v f)

  pub list_extend_free_sound : (list : ObjId) (items : List Value) → AllFit world items → WorldSound world (tt {0}, list_extend_free list items world)
  list_extend_free_sound list items f = written_world (tt {0}) world list (grown items (object_at world list)) h (grown_at list items f)

  pub clear_sound : (id : ObjId) → WorldSound world (tt {0}, clear id world)
  clear_sound id = written_world (tt {0}) world id (cleared (object_at world id)) h (cleared_stays (dicts world) (object_at world id) (object_sound world id h))

  pub clear_holds : (id : ObjId) (v : Value) → Fits world v → Holds world (v, clear id world)
  clear_holds id v f = written_holds id (cleared (object_at world id)) v (cleared_stays (dicts world) (object_at world id) (object_sound world id h)) f

  -- a change whose answer is read otherwise
  pub answering_sound : {A B : Type 0} (b : B) (change : Change World A) → Gives (WorldSound world) (change world) → Gives (WorldSound world) (answering b change world)
  answering_sound b change k = gives_then (WorldSound world) (WorldSound world) (λ made. done (b, made.1)) (λ made p left. p) (change world) k

is_no_dict : (o : Object) → IsTrue (is_list o) → false ≡ is_dict o
is_no_dict (object.List items) e = refl
is_no_dict (object.Dict ps n) e = cc
is_no_dict (object.Instance class attributes args) e = refl

-- a list with other items
pub other_elements : (world : World) (list : ObjId) (items : List Value) → IsTrue (is_list (object_at world list)) → AllFit world items → Stays (dicts world) (object_at world list) (object.List items)
other_elements world list items l f = (is_no_dict (object_at world list) l, f)
