use Rattle.std.proofs.Common.{[], length}
use Rattle.py_meaning.specs.declared.object.Object.TheVariants.{List, Instance}
use Rattle.py_meaning.specs.Worlds.{elements}
use Rattle.py_meaning.specs.Operations.{index_place}
use Rattle.py_meaning.proofs.Keeping.{written_world}
use Rattle.py_meaning.proofs.SoundWalks.{list_made, dict_made, copy_made, made_holds, at_fits, elements_fit, dict_get_gives, attr_get_fits, args_fit}
use Rattle.py_meaning.proofs.SoundSums.{add_holds}
use Rattle.py_meaning.proofs.SoundWrites.{list_set_sound, list_insert_sound, list_insert_free_sound, list_extend_sound, list_extend_free_sound, other_elements, list_reverse_sound, list_remove_holds, list_remove_free_holds, list_pop_holds, dict_put_sound, dict_delete_holds, attr_set_sound, set_args_sound, clear_sound}
use Rattle.py_meaning.proofs.SoundMethods.{set_default_holds}
use Rattle.py_meaning.proofs.object_laws.laws_of_objects.Goals as goal

pub returns-clause-lists : goal.returns-clause-lists
returns-clause-lists c items world h f = list_made world items h f

pub returns-clause-dicts : goal.returns-clause-dicts
returns-clause-dicts c held world h f = dict_made world held h f

pub returns-clause-copies : goal.returns-clause-copies
returns-clause-copies c dict world h = copy_made world dict h

pub returns-clause-instances : goal.returns-clause-instances
returns-clause-instances c class args world h f = made_holds world (Instance class [] args) h f

pub returns-clause-items : goal.returns-clause-items
returns-clause-items c list at world h = at_fits world (elements world list) (index_place at (length (elements world list))) (elements_fit world list h)

pub returns-clause-elements : goal.returns-clause-elements
returns-clause-elements c list world h = elements_fit world list h

pub returns-clause-keys : goal.returns-clause-keys
returns-clause-keys c dict key world h = dict_get_gives world dict key h

pub returns-clause-attributes : goal.returns-clause-attributes
returns-clause-attributes c instance name world h = attr_get_fits world instance name h

pub returns-clause-arguments : goal.returns-clause-arguments
returns-clause-arguments c instance world h = args_fit world instance h

pub returns-clause-list_set : goal.returns-clause-list_set
returns-clause-list_set c list at v world h f = list_set_sound world h list at v f

pub returns-clause-list_insert : goal.returns-clause-list_insert
returns-clause-list_insert c list at v world h f = list_insert_sound world h list at v f

pub returns-clause-list_insert_free : goal.returns-clause-list_insert_free
returns-clause-list_insert_free c list at v world h f = list_insert_free_sound world h list at v f

pub returns-clause-list_extend : goal.returns-clause-list_extend
returns-clause-list_extend c list items world h f = list_extend_sound world h list items f

pub returns-clause-list_extend_free : goal.returns-clause-list_extend_free
returns-clause-list_extend_free c list items world h f = list_extend_free_sound world h list items f

pub returns-clause-set_elements : goal.returns-clause-set_elements
returns-clause-set_elements c list items world h l f = written_world (tt {0}) world list (List items) h (other_elements world list items l f)

pub returns-clause-list_reverse : goal.returns-clause-list_reverse
returns-clause-list_reverse c list world h = list_reverse_sound world h list

pub returns-clause-list_remove : goal.returns-clause-list_remove
returns-clause-list_remove c list at world h = list_remove_holds world h list at

pub returns-clause-list_remove_free : goal.returns-clause-list_remove_free
returns-clause-list_remove_free c list at world h = list_remove_free_holds world h list at

pub returns-clause-list_pop : goal.returns-clause-list_pop
returns-clause-list_pop c list world h = list_pop_holds world h list

pub returns-clause-dict_put : goal.returns-clause-dict_put
returns-clause-dict_put c dict key v world h f g = dict_put_sound world h dict key v f g

pub returns-clause-set_default : goal.returns-clause-set_default
returns-clause-set_default c dict key v world h f g = set_default_holds world h dict key v f g

pub returns-clause-dict_delete : goal.returns-clause-dict_delete
returns-clause-dict_delete c dict key world h = dict_delete_holds world h dict key

pub returns-clause-attr_set : goal.returns-clause-attr_set
returns-clause-attr_set c instance name v world h f = attr_set_sound world h instance name v f

pub returns-clause-set_args : goal.returns-clause-set_args
returns-clause-set_args c instance args world h f = set_args_sound world h instance args f

pub returns-clause-clear : goal.returns-clause-clear
returns-clause-clear c id world h = clear_sound world h id

pub returns-clause-sums : goal.returns-clause-sums
returns-clause-sums c a b world h f g = add_holds world a b h f g
