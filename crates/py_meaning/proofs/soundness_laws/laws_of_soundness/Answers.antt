use Rattle.py_meaning.proofs.SoundWalks.{walk_gives}
use Rattle.py_meaning.proofs.Comparisons.{compare_answers, unary_answers}
use Rattle.py_meaning.proofs.SoundOperators.{binary_holds, augment_holds, get_item_gives, put_item_sound, delete_item_sound, slice_holds}
use Rattle.py_meaning.proofs.SoundBuiltins.{call_builtin_holds}
use Rattle.py_meaning.proofs.SoundMethods.{call_method_holds}
use Rattle.py_meaning.proofs.soundness_laws.laws_of_soundness.Goals as goal

pub returns-clause-walks : goal.returns-clause-walks
returns-clause-walks c v world h f = walk_gives world v h f

pub returns-clause-operators : goal.returns-clause-operators
returns-clause-operators c op a b world h f g = binary_holds world h op a b f g

pub returns-clause-augmented : goal.returns-clause-augmented
returns-clause-augmented c op a b world h f g = augment_holds world h op a b f g

pub returns-clause-subscriptions : goal.returns-clause-subscriptions
returns-clause-subscriptions c of at world h f = get_item_gives world h of at f

pub returns-clause-stores : goal.returns-clause-stores
returns-clause-stores c of at new world h f g = put_item_sound world h of at new f g

pub returns-clause-deletions : goal.returns-clause-deletions
returns-clause-deletions c of at world h = delete_item_sound world h of at

pub returns-clause-slices : goal.returns-clause-slices
returns-clause-slices c of low high world h f = slice_holds world h of low high f

pub returns-clause-builtins : goal.returns-clause-builtins
returns-clause-builtins c id args world h f = call_builtin_holds world h id args f

pub returns-clause-methods : goal.returns-clause-methods
returns-clause-methods c receiver name args world h f = call_method_holds world h receiver name args f

pub returns-clause-signs : goal.returns-clause-signs
returns-clause-signs c sign a = unary_answers sign a

pub returns-clause-comparisons : goal.returns-clause-comparisons
returns-clause-comparisons c op a b world = compare_answers world op a b
