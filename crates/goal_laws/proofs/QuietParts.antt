-- What calls, displays, assignments, loops and clauses do beside their parts tells nothing.
use Rattle.std.proofs.Common.{Bool, Err, List, None, Ok, Option, Some, [], false, length, not, refl, true, ℕ, ◌&&◌, ◌||◌, ◌∷◌}
use Rattle.std.specs.Prelude.{bytes_eq, codes, nat_le, ◌==◌}
use Rattle.pyn_base.specs.declared.class.ClassId.{ClassId}
use Rattle.pyn_base.specs.declared.class.ClassId.TheVariants.{Own}
use Rattle.pyn_base.specs.declared.ids.ObjId.{ObjId}
use Rattle.py_names.specs.Bound.{parameters}
use Rattle.py_meaning.specs.Builtins.{tuple_of_parts}
use Rattle.py_meaning.specs.Operations.{kind_of, make_dict, make_list}
use Rattle.py_meaning.specs.Steps.{aside}
use Rattle.py_meaning.specs.Tuples.{depth_over, tuple_limit}
use Rattle.py_meaning.specs.Walk.{shallow, walk}
use Rattle.py_meaning.specs.Worlds.{Attributes, Pairs, object_at}
use Rattle.py_meaning.specs.declared.object.ObjKind.{ObjKind}
use Rattle.py_meaning.specs.declared.object.ObjKind.TheVariants as kind
use Rattle.py_meaning.specs.declared.value.Value.{Value, Value-F, out-Value}
use Rattle.py_meaning.specs.declared.value.Value.TheVariants as v
use Rattle.py_plain.specs.Assignments.{binds_all, binds_names, counted, unpacks}
use Rattle.py_plain.specs.Calls.{calls_base, finds_super, first_parameter, initialized, initializes_base, is_filled, super_by, super_in, super_of, super_of_instance, super_of_object, within_depth, without_named}
use Rattle.py_plain.specs.Classes.{base_of_class, class_of_object, derives, initializer, is_exception}
use Rattle.py_plain.specs.Decisions.{negates}
use Rattle.py_plain.specs.Displays.{makes_dict, makes_list, makes_tuple}
use Rattle.py_plain.specs.Exceptions.{after_clause, binds_as, enters_clause, kept, last_of, leaves_clause, raises_last, raises_object, reraises, unbinds_as}
use Rattle.py_plain.specs.Loops.{changes_at, checks, dict_walked, makes_element, size_at, unchanged}
use Rattle.py_plain.specs.Names.{function_at, is_some}
use Rattle.py_plain.specs.Program.{Function, Program}
use Rattle.py_plain.specs.Runs.{Finding, Outcome, nothing}
use Rattle.py_plain.specs.Tests.{Trail, recorder}
use Rattle.py_plain.specs.declared.judged.Judged.TheVariants as j
use Rattle.py_plain.specs.declared.run.Walk.{Walk}
use Rattle.goal_laws.proofs.Kept.{Does, Quiet, quiet_asks, quiet_bind, quiet_gives, quiet_if, quiet_performs, quiet_pure, quiet_raises, quiet_stop, quiet_tests, quiet_value}
use Rattle.goal_laws.proofs.QuietValues.{binds_quiet, finds_above_quiet, unbinds_quiet}

module _ (program : Program) where
  -- ---- calls, displays and assignments

  without_named_quiet : (named : Attributes) (p : Does Finding) → Quiet p → Quiet (without_named named p)
  without_named_quiet [] p h = h
  without_named_quiet (argument ∷ more) p h = quiet_stop _

  pub within_depth_quiet : (parts : List Value) (p : Does Finding) → Quiet p → Quiet (within_depth parts p)
  within_depth_quiet parts p h = quiet_if (nat_le (depth_over parts) tuple_limit) _ _ h (quiet_stop _)

  pub initialized_quiet : (id : ObjId) (view : Value-F Value) → Quiet (initialized id view)
  initialized_quiet id Value-F.None = quiet_gives _
  initialized_quiet id _ = quiet_raises _

  initializes_base_quiet : (id : ObjId) (exception : Bool) (plain : List Value) (named : Attributes) → Quiet (initializes_base recorder program id exception plain named)
  initializes_base_quiet id true plain named = without_named_quiet named _ (within_depth_quiet plain _ (record { still = λ s. refl }))
  initializes_base_quiet id false plain named = quiet_if (is_filled plain || is_filled named) _ _ (quiet_raises _) (quiet_pure nothing)

  pub calls_base_quiet : (id : ObjId) (plain : List Value) (named : Attributes) → Quiet (calls_base recorder program id plain named)
  calls_base_quiet id plain named = record { still = λ s. (initializes_base_quiet id (is_exception program (class_of_object (object_at s.objects id))) plain named).still s }

  super_of_instance_quiet : (class : ClassId) (id : ObjId) (own : ClassId) (name : List ℕ) → Quiet (super_of_instance recorder program class id own name)
  super_of_instance_quiet class id own name = quiet_if (not (derives program own class)) _ _ (quiet_raises _)
      (quiet_if (bytes_eq name (codes "__init__") && not (is_some (initializer program (base_of_class program class)))) _ _ (quiet_pure _) (finds_above_quiet program id own (base_of_class program class) name))

  super_of_object_quiet : (class : ClassId) (id : ObjId) (kind : ObjKind) (name : List ℕ) → Quiet (super_of_object recorder program class id kind name)
  super_of_object_quiet class id (kind.Instance own) name = super_of_instance_quiet class id own name
  super_of_object_quiet class id _ name = quiet_raises _

  super_of_quiet : (class : ClassId) (view : Value-F Value) (name : List ℕ) → Quiet (super_of recorder program class view name)
  super_of_quiet class (Value-F.Ref id) name = record { still = λ s. (super_of_object_quiet class id (kind_of (object_at s.objects id)) name).still s }
  super_of_quiet class (Value-F.Class other) name = quiet_if (derives program other class) _ _ (quiet_stop _) (quiet_raises _)
  super_of_quiet class _ name = quiet_raises _

  super_by_quiet : (owner : Option ℕ) (first : Option Value) (name : List ℕ) → Quiet (super_by recorder program owner first name)
  super_by_quiet (Some class) (Some x) name = super_of_quiet (Own class) (out-Value x) name
  super_by_quiet (Some class) None name = quiet_stop _
  super_by_quiet None first name = quiet_stop _

  super_in_quiet : (f : Option Function) (variables : Attributes) (name : List ℕ) → Quiet (super_in recorder program f variables name)
  super_in_quiet None variables name = quiet_stop _
  super_in_quiet (Some f) variables name = super_by_quiet f.owner (first_parameter recorder program (parameters f.tree) variables) name

  pub finds_super_quiet : (name : List ℕ) → Quiet (finds_super recorder program name)
  finds_super_quiet name = record { still = λ s. (super_in_quiet (function_at program s.frame.function) s.frame.variables name).still s }

  pub makes_list_quiet : (items : List Value) → Quiet (makes_list items)
  makes_list_quiet items = quiet_bind _ _ (quiet_performs (make_list items)) (λ id. quiet_gives (v.Ref id))

  pub makes_tuple_quiet : (parts : List Value) → Quiet (makes_tuple parts)
  makes_tuple_quiet parts = quiet_value (aside (tuple_of_parts parts))

  pub makes_dict_quiet : (pairs : Pairs) → Quiet (makes_dict pairs)
  makes_dict_quiet pairs = quiet_bind _ _ (quiet_performs (make_dict pairs)) (λ id. quiet_gives (v.Ref id))

  counted_quiet : (count : ℕ) (items : List Value) → Quiet (counted count items)
  counted_quiet count items = quiet_if (length items == count) _ _ (quiet_pure _) (quiet_raises _)

  pub unpacks_quiet : (count : ℕ) (x : Value) → Quiet (unpacks count x)
  unpacks_quiet count x = quiet_bind _ _ (quiet_asks (λ world. walk world x)) (counted_quiet count)

  binds_all_quiet : (names : List (List ℕ)) (items : List Value) → Quiet (binds_all names items)
  binds_all_quiet [] items = quiet_pure nothing
  binds_all_quiet (name ∷ names) [] = quiet_pure nothing
  binds_all_quiet (name ∷ names) (x ∷ xs) = quiet_bind _ _ (binds_quiet program name x) (λ _. binds_all_quiet names xs)

  pub binds_names_quiet : (is_tuple : Bool) (names : List (List ℕ)) (x : Value) → Quiet (binds_names is_tuple names x)
  binds_names_quiet true names x = quiet_bind _ _ (unpacks_quiet (length names) x) (binds_all_quiet names)
  binds_names_quiet false names x = binds_all_quiet names (x ∷ [])

  pub negates_quiet : (x : Finding) → Quiet (negates x)
  negates_quiet x = quiet_bind _ _ (quiet_tests x.0) (λ holds. quiet_pure (v.Bool (not holds), j.Not x.1))

  -- ---- loops and exceptions

  unchanged_quiet : (walk : Walk) (size changes : ℕ) → Quiet (unchanged walk size changes)
  unchanged_quiet walk size changes = quiet_if (size == walk.size) _ _ (quiet_if (changes == walk.changes) _ _ (quiet_pure tt) (quiet_stop _)) (quiet_raises _)

  pub checks_quiet : (walk : Walk) → Quiet (checks walk)
  checks_quiet walk = record { still = λ s. (unchanged_quiet walk (size_at s.objects (dict_walked s.objects (out-Value walk.of))) (changes_at s.objects (dict_walked s.objects (out-Value walk.of)))).still s }

  pub makes_element_quiet : (made : Bool) (x : Value) → Quiet (makes_element made x)
  makes_element_quiet made x = quiet_if made _ _ (quiet_if (shallow (x ∷ [])) _ _ (quiet_pure tt) (quiet_stop _)) (quiet_pure tt)

  pub raises_object_quiet : (view : Value-F Value) → Quiet (raises_object view)
  raises_object_quiet (Value-F.Ref id) = quiet_stop _
  raises_object_quiet _ = quiet_raises _

  raises_last_quiet : (id : Option ObjId) → Quiet (raises_last id)
  raises_last_quiet None = quiet_stop _
  raises_last_quiet (Some id) = quiet_stop _

  pub reraises_quiet : Quiet (reraises {W = Trail})
  reraises_quiet = record { still = λ s. (raises_last_quiet (last_of s.frame.handled)).still s }

  pub binds_as_quiet : (name : Option (List ℕ)) (id : ObjId) → Quiet (binds_as name id)
  binds_as_quiet None id = quiet_pure nothing
  binds_as_quiet (Some name) id = binds_quiet program name (v.Ref id)

  unbinds_as_quiet : (name : Option (List ℕ)) → Quiet (unbinds_as name)
  unbinds_as_quiet None = quiet_pure nothing
  unbinds_as_quiet (Some name) = unbinds_quiet program name

  leaves_clause_quiet : Quiet (leaves_clause {W = Trail})
  leaves_clause_quiet = record { still = λ s. refl }

  pub enters_clause_quiet : (id : ObjId) → Quiet (enters_clause {W = Trail} id)
  enters_clause_quiet id = record { still = λ s. refl }

  -- an end that is known
  pub ends_quiet : (end : Outcome Finding) → Quiet {A = Finding} (λ s. (end, s))
  ends_quiet end = record { still = λ s. refl }

  pub after_clause_quiet : (name : Option (List ℕ)) (end : Outcome Finding) → Quiet (after_clause name end)
  after_clause_quiet name end = quiet_bind _ _ leaves_clause_quiet (λ _. quiet_bind _ _ (unbinds_as_quiet name) (λ _. ends_quiet end))

  pub kept_quiet : (before end : Outcome Finding) → Quiet (kept before end)
  kept_quiet before (Ok x) = ends_quiet before
  kept_quiet before (Err why) = quiet_stop why
