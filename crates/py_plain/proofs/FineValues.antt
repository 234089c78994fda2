-- Names, attributes, operators and calls of built-in functions, as `Fine` claims of them.
use Rattle.std.proofs.Common.{◌≡◌, ℕ, zero, suc, ◌≤◌, ◌&&◌, Ok, Err, Bool, true, false, List, [], ◌∷◌, length, refl, ap, arith, Option, Some, None}
use Rattle.std.specs.Prelude.{bytes_eq, codes, slice_set, nat_le, IsTrue, IfSome}
use Rattle.pyn_base.specs.declared.class.BuiltClass.{BuiltClass}
use Rattle.pyn_base.specs.declared.class.ClassId.{ClassId}
use Rattle.pyn_base.specs.declared.class.ClassId.TheVariants.{Built, Own}
use Rattle.pyn_base.specs.declared.construct.Construct.TheVariants as construct
use Rattle.pyn_base.specs.declared.ids.ObjId.{ObjId}
use Rattle.py_syntax.specs.declared.operator.BinOp.{BinOp}
use Rattle.py_syntax.specs.declared.operator.CmpOp.{CmpOp}
use Rattle.py_syntax.specs.declared.operator.Sign.{Sign}
use Rattle.py_meaning.specs.declared.builtin.Builtin.{Builtin}
use Rattle.py_meaning.specs.declared.builtin.Builtin.TheVariants as builtin
use Rattle.py_meaning.specs.declared.measured.Measured.{Measured}
use Rattle.py_meaning.specs.declared.object.ObjKind.{ObjKind}
use Rattle.py_meaning.specs.declared.object.ObjKind.TheVariants as kind
use Rattle.py_meaning.specs.declared.op.Op.{Op}
use Rattle.py_meaning.specs.declared.op.Op.TheVariants as op
use Rattle.py_meaning.specs.declared.value.Value.{Value, Value-F, out-Value}
use Rattle.py_meaning.specs.declared.value.Value.TheVariants as v
use Rattle.py_meaning.specs.Arithmetic.{unary}
use Rattle.py_meaning.specs.Builtins.{call_builtin, reading}
use Rattle.py_meaning.specs.Methods.{Names, named, is_among, call_method, list_methods, dict_methods, text_methods, left_of_list, left_of_dict, left_of_tuple, left_of_integer, left_of_text}
use Rattle.py_meaning.specs.Operations.{kind_of, args_of, attr_get, attr_set, make_list, make_dict, attribute_place}
use Rattle.py_meaning.specs.Operators.{binary, augment, compare}
use Rattle.py_meaning.specs.SoundRuns.{Fits, AllFit, Answers, Holds, Made, WorldSound}
use Rattle.py_meaning.specs.Steps.{Costing, Change, aside, done, go_on as then_on}
use Rattle.py_meaning.specs.Subscripts.{get_item, put_item, delete_item, slice}
use Rattle.py_meaning.specs.Worlds.{World, Pairs, object_at, sound, sound_world, dicts}
use Rattle.py_meaning.proofs.SoundKinds.{SoundKind, sound_kind, sound_Bool, sound_None}
use Rattle.py_meaning.proofs.Soundness.{all_weaker}
use Rattle.py_meaning.proofs.SoundWalks.{attr_get_fits, args_fit}
use Rattle.py_meaning.proofs.SoundWrites.{attr_set_sound}
use Rattle.py_meaning.proofs.SoundOperators.{binary_holds, augment_holds, get_item_gives, put_item_sound, delete_item_sound, slice_holds}
use Rattle.py_meaning.proofs.SoundBuiltins.{call_builtin_holds}
use Rattle.py_meaning.proofs.SoundMethods.{call_method_holds}
use Rattle.std.proofs.lemmas.Bool.Decides.{nat_tests}
use Rattle.py_plain.specs.declared.run.Abrupt.{Abrupt}
use Rattle.py_plain.specs.declared.run.Abrupt.TheVariants.{Left}
use Rattle.py_plain.specs.declared.run.Callee.{Callee}
use Rattle.py_plain.specs.declared.run.Callee.TheVariants as callee
use Rattle.py_plain.specs.declared.state.Frame.{Frame}
use Rattle.py_plain.specs.declared.state.Space.{Space}
use Rattle.py_plain.specs.declared.state.State.{State}
use Rattle.py_plain.specs.Attributes.{finds_method, finds_none, bound_method, known_args, missing_member, missing_of_class, found_or, bound_or, value_or, finds_above, finds_in_instance, finds_in_class, finds_in_object, finds_in_module, finds_in, finds, read_found, sets_in_instance, sets_in_object, sets_in, sets_attribute}
use Rattle.py_plain.specs.Builtins.{isinstance_row, text_row, calls_builtin}
use Rattle.py_plain.specs.Classes.{is_exception, class_member}
use Rattle.py_plain.specs.Names.{lookup, is_some, is_local, globals, function_at, builtin_meant, bound_to, without, found_local, found_class, found_global, reads_in, reads_unless, reads, reads_name, binds, unbinds}
use Rattle.py_plain.specs.Operators.{signs, operates, augments, gets_item, sets_item, deletes_item, gets_slice, compares}
use Rattle.py_plain.specs.Program.{Function, Program}
use Rattle.py_plain.specs.Runs.{Run, nothing, gives, pure, stop, performs_value, asks}
use Rattle.py_plain.specs.SoundStates.{SoundFrame, SoundSpace, SoundState, NamesFit, Widens, EndFits, FindingFits}
use Rattle.py_plain.proofs.Fine.{Claim, Paid, Growth, On, IdFits, Anything, Answered, Counted, Fine, more, fine_bind, fine_at, fine_if, fine_more, fine_end, fine_stop, fine_gives, fine_raises, fine_writes, fine_frame, fine_performs}
use Rattle.py_plain.proofs.Like.{Frugal, frugal_aside}
use Rattle.py_plain.proofs.LikeValues.{Operations}
use Rattle.py_plain.proofs.SoundParts.{Maybe, CalleeFits, fits_Ref, fits_Class, fits_Module, lookup_fits, class_member_fits, bound_method_fits, bound_fits, without_fits, unary_fits, text_row_fits}

-- How many objects operations make above twice the steps that they take.
pub record Counts : Type 0 where
  pub binaries : (op : BinOp) (x y : Value) (world : World) (left : ℕ) → Counted 1 world left (binary op x y world left).0 (binary op x y world left).1
  pub augmented : (op : BinOp) (x y : Value) (world : World) (left : ℕ) → Counted 1 world left (augment op x y world left).0 (augment op x y world left).1
  pub puts : (of at x : Value) (world : World) (left : ℕ) → Counted 0 world left (put_item of at x world left).0 (put_item of at x world left).1
  pub deletes : (of at : Value) (world : World) (left : ℕ) → Counted 0 world left (delete_item of at world left).0 (delete_item of at world left).1
  pub slices : (of low high : Value) (world : World) (left : ℕ) → Counted 1 world left (slice of low high world left).0 (slice of low high world left).1
  pub lists : (items : List Value) (world : World) (left : ℕ) → Counted 1 world left (make_list items world left).0 (make_list items world left).1
  pub dict : (pairs : Pairs) (world : World) (left : ℕ) → Counted 1 world left (make_dict pairs world left).0 (make_dict pairs world left).1
  pub builtins : (builtin : Builtin) (arguments : List Value) (world : World) (left : ℕ) → Counted 1 world left (call_builtin builtin arguments world left).0 (call_builtin builtin arguments world left).1
  pub methods : (receiver : Value) (name : List ℕ) (arguments : List Value) (world : World) (left : ℕ) → Counted 1 world left (call_method receiver name arguments world left).0 (call_method receiver name arguments world left).1

-- ---- answers of operations

answered_value : (world : World) (answer : Op (Value × World)) → Answers (Holds world) answer → Answered Fits world answer
answered_value world (op.Done new) h = h
answered_value world (op.Raises class) h = tt
answered_value world (op.Leaves construct) h = tt
answered_value world op.OutOfSteps h = tt
answered_value world op.Memory h = tt

pub answered_id : (world : World) (answer : Op (ObjId × World)) → Answers (Made world) answer → Answered IdFits world answer
answered_id world (op.Done new) h = h
answered_id world (op.Raises class) h = tt
answered_id world (op.Leaves construct) h = tt
answered_id world op.OutOfSteps h = tt
answered_id world op.Memory h = tt

answered_world : {A : Type 0} (world : World) (answer : Op (A × World)) → Answers (WorldSound world) answer → Answered Anything world answer
answered_world world (op.Done new) h = (h, tt)
answered_world world (op.Raises class) h = tt
answered_world world (op.Leaves construct) h = tt
answered_world world op.OutOfSteps h = tt
answered_world world op.Memory h = tt

answered_aside : {A : Type 0} (fits : World → A → Type 0) (world : World) (answer : Op A) (left : ℕ) → IsTrue (sound_world world) → Answers (fits world) answer → Answered fits world (then_on {B = A × World} answer left (λ x. done (x, world))).0
answered_aside fits world (op.Done a) left h k = ((h, λ x y. y), k)
answered_aside fits world (op.Raises class) left h k = tt
answered_aside fits world (op.Leaves construct) left h k = tt
answered_aside fits world op.OutOfSteps left h k = tt
answered_aside fits world op.Memory left h k = tt

-- where nothing is asked of the answer
answered_any : {A : Type 0} (world : World) (answer : Op A) (left : ℕ) → IsTrue (sound_world world) → Answered Anything world (then_on {B = A × World} answer left (λ x. done (x, world))).0
answered_any world (op.Done a) left h = ((h, λ x y. y), tt)
answered_any world (op.Raises class) left h = tt
answered_any world (op.Leaves construct) left h = tt
answered_any world op.OutOfSteps left h = tt
answered_any world op.Memory left h = tt

counted_aside : {A : Type 0} (world : World) (answer : Op A) (left had : ℕ) → left ≤ had → Counted 0 world had (then_on {B = A × World} answer left (λ x. done (x, world))).0 (then_on {B = A × World} answer left (λ x. done (x, world))).1
counted_aside world (op.Done a) left had le = omega (arith, le)
counted_aside world (op.Raises class) left had le = le
counted_aside world (op.Leaves construct) left had le = le
counted_aside world op.OutOfSteps left had le = le
counted_aside world op.Memory left had le = le

pub callee_widens : (w w' : World) (found : Callee) → Widens w w' → CalleeFits w found → CalleeFits w' found
callee_widens w w' (callee.Value x) f h = f x h
callee_widens w w' (callee.Function id) f h = tt
callee_widens w w' (callee.Bound id method) f h = f (v.Ref id) h
callee_widens w w' (callee.Method x name) f h = f x h
callee_widens w w' (callee.Builtin builtin) f h = tt
callee_widens w w' (callee.BaseInit id) f h = f (v.Ref id) h

maybe_from : {A : Type 0} (P : A → Type 0) (x : Option A) → IfSome x P → Maybe P x
maybe_from P None h = tt
maybe_from P (Some a) h = h

pub length_set : {A : Type 0} (xs : List A) (at : ℕ) (x : A) → length (slice_set xs at x) ≡ length xs
length_set [] at x = refl
length_set (y ∷ xs) zero x = refl
length_set (y ∷ xs) (suc at) x = ap suc (length_set xs at x)

module _ {W : Type 0} (g : Growth W) (claim : Claim) where
  abbrev pub Runs : {A : Type 0} → ℕ → World → (World → A → Type 0) → Run W A → Type 0
  Runs c w fits p = Fine g claim c w fits p p

  pub asks_fine : {A : Type 0} (fits : World → A → Type 0) (w : World) (read : World → Costing A) → ((w' : World) (left : ℕ) → On claim (Widens w w') → On claim (IsTrue (sound_world w')) → On claim (Answers (fits w') (read w' left).0)) → ((world : World) → Frugal (read world)) → Runs 1 w fits (asks read)
  asks_fine fits w read h k = fine_performs g claim {n = 0} (reading read) (record {
    answers = λ w' left wide whole on. answered_aside fits w' (read w' left).0 (read w' left).1 (whole on) (h w' left wide whole on);
    counts = λ on w' left. counted_aside w' (read w' left).0 (read w' left).1 left ((k w').frugal left);
    frugal = λ w'. frugal_aside (read w') w' (k w');
  })

  pub asks_any_fine : {A : Type 0} (w : World) (read : World → Costing A) → ((world : World) → Frugal (read world)) → Runs 1 w Anything (asks read)
  asks_any_fine w read k = fine_performs g claim {n = 0} (reading read) (record {
    answers = λ w' left wide whole on. answered_any w' (read w' left).0 (read w' left).1 (whole on);
    counts = λ on w' left. counted_aside w' (read w' left).0 (read w' left).1 left ((k w').frugal left);
    frugal = λ w'. frugal_aside (read w') w' (k w');
  })

  pub value_fine : (w : World) (change : Change World Value) → ((w' : World) (left : ℕ) → On claim (Widens w w') → On claim (IsTrue (sound_world w')) → On claim (Answers (Holds w') (change w' left).0)) → (claim ≡ Paid → (w' : World) (left : ℕ) → Counted 1 w' left (change w' left).0 (change w' left).1) → ((world : World) → Frugal (change world)) → Runs 2 w FindingFits (performs_value change)
  value_fine w change h c k = fine_bind g claim _ _ gives gives
      (fine_performs g claim {fits = Fits} {n = 1} change (record { answers = λ w' left wide whole on. answered_value w' (change w' left).0 (h w' left wide whole on); counts = c; frugal = k }))
      (λ w' x wide fits. fine_gives g claim x fits) refl

  pub aside_fine : (w : World) (run : Costing Value) → ((w' : World) (left : ℕ) → On claim (Widens w w') → On claim (Answers (Fits w') (run left).0)) → Frugal run → Runs 1 w FindingFits (performs_value (aside run))
  aside_fine w run h k = fine_bind g claim _ _ gives gives
      (fine_performs g claim {fits = Fits} {n = 0} (aside run) (record {
        answers = λ w' left wide whole on. answered_aside Fits w' (run left).0 (run left).1 (whole on) (h w' left wide on);
        counts = λ on w' left. counted_aside w' (run left).0 (run left).1 left (k.frugal left);
        frugal = λ w'. frugal_aside run w' k;
      }))
      (λ w' x wide fits. fine_gives g claim x fits) refl

  -- a choice by the state
  pub at_fine : {A : Type 0} {fits : World → A → Type 0} {c : ℕ} {w : World} (p : State World W → Run W A) → ((s : State World W) (m : ℕ) → On claim (Widens w s.objects) → On claim (SoundState s) → Fine g claim c s.objects fits (p s) (p (more m s))) → Runs c w fits (λ s. p s s)
  at_fine p h = fine_at g claim p p h

  pub free : {A : Type 0} {fits : World → A → Type 0} {w : World} (c : ℕ) (p : Run W A) → nat_le 0 c ≡ true → Runs 0 w fits p → Runs c w fits p
  free c p le h = fine_more g claim {c = 0} p p le h

  no_less : (c : ℕ) → nat_le 0 c ≡ true
  no_less c = grind (arith, nat_tests)

  pub stops_fine : {A : Type 0} {fits : World → A → Type 0} {w : World} {c : ℕ} (why : Abrupt) → ((w' : World) → On claim (EndFits {A = A} fits w' (Err why))) → Runs c w fits (stop why)
  stops_fine {c = c} why h = free c _ (no_less c) (fine_stop g claim why h)

  module _ (program : Program) (operations : Operations program) (counts : claim ≡ Paid → Counts) where
    -- ---- names

    found_local_fine : (w : World) (found : Option Value) → On claim (Maybe (Fits w) found) → Runs 1 w FindingFits (found_local found)
    found_local_fine w None h = fine_raises g claim _
    found_local_fine w (Some x) h = free 1 _ refl (fine_gives g claim x h)

    found_class_fine : (w : World) (found : Option BuiltClass) → Runs 1 w FindingFits (found_class found)
    found_class_fine w None = free 1 _ refl (fine_stop g claim _ (λ w' on. tt))
    found_class_fine w (Some class) = free 1 _ refl (fine_gives g claim (v.Class (Built class)) (λ on. fits_Class w (Built class)))

    found_global_fine : (w : World) (name : List ℕ) (found : Option Value) → On claim (Maybe (Fits w) found) → Runs 1 w FindingFits (found_global name found)
    found_global_fine w name None h = found_class_fine w _
    found_global_fine w name (Some x) h = free 1 _ refl (fine_gives g claim x h)

    globals_fit : (w : World) (f : Option Function) (space : Space) → SoundSpace w space → NamesFit w (globals f space)
    globals_fit w None space h = fits_one (codes "module_0") v.ModuleRef (fits_Module w)
      where
        fits_one : (name : List ℕ) (x : Value) → Fits w x → NamesFit w ((name, x) ∷ [])
        fits_one name x k = bound_fits w name x [] refl k
    globals_fit w (Some f) space h = h.names

    reads_in_fine : (w : World) (f : Option Function) (frame : Frame) (space : Space) (name : List ℕ) → On claim (SoundFrame w frame) → On claim (SoundSpace w space) → Runs 1 w FindingFits (reads_in f frame space name)
    reads_in_fine w f frame space name h k = fine_if g claim (is_local f name frame.variables) _ _ _ _ (found_local_fine w _ (λ on. lookup_fits w name frame.variables (h on).variables)) (found_global_fine w name _ (λ on. lookup_fits w name (globals f space) (globals_fit w f space (k on))))

    pub reads_fine : (w : World) (name : List ℕ) → Runs 1 w FindingFits (reads program name)
    reads_fine w name = at_fine (λ s. reads_in (function_at program s.frame.function) s.frame s.space name) (λ s m wide now. reads_in_fine s.objects (function_at program s.frame.function) s.frame s.space name (λ on. (now on).frame) (λ on. (now on).space))

    reads_unless_fine : (w : World) (found : Option Builtin) (name : List ℕ) → Runs 1 w FindingFits (reads_unless found (reads program name))
    reads_unless_fine w None name = reads_fine w name
    reads_unless_fine w (Some builtin) name = free 1 _ refl (fine_stop g claim _ (λ w' on. tt))

    pub reads_name_fine : (w : World) (name : List ℕ) → Runs 1 w FindingFits (reads_name program name)
    reads_name_fine w name = at_fine (λ s. reads_unless (builtin_meant program s name) (reads program name)) (λ s m wide now. reads_unless_fine s.objects (builtin_meant program s name) name)

    pub binds_fine : (w : World) (name : List ℕ) (x : Value) → On claim (Fits w x) → Runs 0 w FindingFits (binds name x)
    binds_fine w name x h = fine_frame g claim (λ frame. record frame { variables = bound_to name x frame.variables }) (λ w' frame wide now on. record { variables = bound_fits w' name x frame.variables (now on).variables (wide on x (h on)); handled = (now on).handled })

    pub unbinds_fine : (w : World) (name : List ℕ) → Runs 0 w FindingFits (unbinds name)
    unbinds_fine w name = fine_frame g claim (λ frame. record frame { variables = without frame.variables (attribute_place name frame.variables) }) (λ w' frame wide now on. record { variables = without_fits w' frame.variables (attribute_place name frame.variables) (now on).variables; handled = (now on).handled })

    -- ---- attributes

    finds_method_fine : {M : Type 0} (w : World) (methods : Names M) (left : List (List ℕ)) (receiver : Value) (name : List ℕ) → On claim (Fits w receiver) → Runs 1 w CalleeFits (finds_method methods left receiver name)
    finds_method_fine w methods left receiver name h = fine_if g claim (is_some (named methods name)) _ _ _ _ (free 1 _ refl (fine_end g claim (Ok (callee.Method receiver name)) (λ w' wide on. wide on receiver (h on))))
        (fine_if g claim (is_among left name) _ _ _ _ (free 1 _ refl (fine_stop g claim _ (λ w' on. tt))) (fine_raises g claim _))

    finds_none_fine : (w : World) (left : List (List ℕ)) (name : List ℕ) → Runs 1 w CalleeFits (finds_none left name)
    finds_none_fine w left name = fine_if g claim (is_among left name) _ _ _ _ (free 1 _ refl (fine_stop g claim _ (λ w' on. tt))) (fine_raises g claim _)

    known_args_fine : (w : World) (args : Option (Measured Value)) → On claim (Maybe (λ args. Fits w (v.Tuple args)) args) → Runs 1 w CalleeFits (known_args args)
    known_args_fine w None h = free 1 _ refl (fine_stop g claim _ (λ w' on. tt))
    known_args_fine w (Some args) h = free 1 _ refl (fine_end g claim (Ok (callee.Value (v.Tuple args))) (λ w' wide on. wide on (v.Tuple args) (h on)))

    missing_member_fine : (w : World) (exception : Bool) (name : List ℕ) (args : Option (Measured Value)) → On claim (Maybe (λ args. Fits w (v.Tuple args)) args) → Runs 1 w CalleeFits (missing_member exception name args)
    missing_member_fine w true name args h = fine_if g claim (bytes_eq name (codes "args")) _ _ _ _ (known_args_fine w args h) (free 1 _ refl (fine_stop g claim _ (λ w' on. tt)))
    missing_member_fine w false name args h = fine_raises g claim _

    missing_of_class_fine : (w : World) (exception : Bool) (name : List ℕ) → Runs 1 w CalleeFits (missing_of_class exception name)
    missing_of_class_fine w exception name = fine_if g claim (bytes_eq name (codes "mro")) _ _ _ _ (free 1 _ refl (fine_stop g claim _ (λ w' on. tt))) (fine_if g claim exception _ _ _ _ (free 1 _ refl (fine_stop g claim _ (λ w' on. tt))) (fine_raises g claim _))

    found_or_fine : (w : World) (p : Run W Callee) (found : Option Callee) → On claim (Maybe (CalleeFits w) found) → Runs 1 w CalleeFits p → Runs 1 w CalleeFits (found_or p found)
    found_or_fine w p None h k = k
    found_or_fine w p (Some found) h k = free 1 _ refl (fine_end g claim (Ok found) (λ w' wide on. callee_widens w w' found (wide on) (h on)))

    bound_or_fine : (w : World) (id : ObjId) (p : Run W Callee) (found : Option Callee) → On claim (Fits w (v.Ref id)) → On claim (Maybe (CalleeFits w) found) → Runs 1 w CalleeFits p → Runs 1 w CalleeFits (bound_or id p found)
    bound_or_fine w id p None r h k = k
    bound_or_fine w id p (Some found) r h k = free 1 _ refl (fine_end g claim (Ok (bound_method id found)) (λ w' wide on. callee_widens w w' (bound_method id found) (wide on) (bound_method_fits w id found (r on) (h on))))

    value_or_fine : (w : World) (p : Run W Callee) (found : Option Value) → On claim (Maybe (Fits w) found) → Runs 1 w CalleeFits p → Runs 1 w CalleeFits (value_or p found)
    value_or_fine w p None h k = k
    value_or_fine w p (Some x) h k = free 1 _ refl (fine_end g claim (Ok (callee.Value x)) (λ w' wide on. wide on x (h on)))

    pub finds_above_fine : (w : World) (id : ObjId) (class from : ClassId) (name : List ℕ) → On claim (Fits w (v.Ref id)) → Runs 1 w CalleeFits (finds_above program id class from name)
    finds_above_fine w id class from name h =
        at_fine (λ s. bound_or id (missing_member (is_exception program class) name (args_of (object_at s.objects id))) (class_member program s.space from name))
        (λ s m wide now. bound_or_fine s.objects id _ (class_member program s.space from name) (λ on. wide on (v.Ref id) (h on)) (λ on. class_member_fits s.objects program s.space (now on).space from name)
        (missing_member_fine s.objects (is_exception program class) name (args_of (object_at s.objects id)) (λ on. maybe_from (λ args. Fits s.objects (v.Tuple args)) (args_of (object_at s.objects id)) (args_fit s.objects id (now on).world))))

    finds_in_instance_fine : (w : World) (id : ObjId) (class : ClassId) (name : List ℕ) → On claim (Fits w (v.Ref id)) → Runs 1 w CalleeFits (finds_in_instance program id class name)
    finds_in_instance_fine w id class name h = at_fine (λ s. value_or (finds_above program id class class name) (attr_get id name s.objects))
        (λ s m wide now. value_or_fine s.objects _ (attr_get id name s.objects) (λ on. maybe_from (Fits s.objects) (attr_get id name s.objects) (attr_get_fits s.objects id name (now on).world)) (finds_above_fine s.objects id class class name (λ on. wide on (v.Ref id) (h on))))

    finds_in_class_fine : (w : World) (class : ClassId) (name : List ℕ) → Runs 1 w CalleeFits (finds_in_class program class name)
    finds_in_class_fine w (Built class) name = free 1 _ refl (fine_stop g claim _ (λ w' on. tt))
    finds_in_class_fine w (Own n) name = at_fine (λ s. found_or (missing_of_class (is_exception program (Own n)) name) (class_member program s.space (Own n) name))
        (λ s m wide now. found_or_fine s.objects _ (class_member program s.space (Own n) name) (λ on. class_member_fits s.objects program s.space (now on).space (Own n) name) (missing_of_class_fine s.objects (is_exception program (Own n)) name))

    finds_in_object_fine : (w : World) (id : ObjId) (kind : ObjKind) (name : List ℕ) → On claim (Fits w (v.Ref id)) → Runs 1 w CalleeFits (finds_in_object program id kind name)
    finds_in_object_fine w id kind.List name h = finds_method_fine w list_methods left_of_list (v.Ref id) name h
    finds_in_object_fine w id kind.Dict name h = finds_method_fine w dict_methods left_of_dict (v.Ref id) name h
    finds_in_object_fine w id (kind.Instance class) name h = finds_in_instance_fine w id class name h

    finds_in_module_fine : (w : World) (name : List ℕ) → Runs 1 w CalleeFits (finds_in_module program name)
    finds_in_module_fine w name = at_fine (λ s. value_or (stop (Left construct.UnknownName)) (lookup name s.space.names))
        (λ s m wide now. value_or_fine s.objects _ (lookup name s.space.names) (λ on. lookup_fits s.objects name s.space.names (now on).space.names) (free 1 _ refl (fine_stop g claim _ (λ w' on. tt))))

    finds_in_fine : (w : World) (x : Value) (view : Value-F Value) (name : List ℕ) → On claim (Fits w x) → On claim (SoundKind (dicts w) view) → Runs 1 w CalleeFits (finds_in program x view name)
    finds_in_fine w x (Value-F.Str text) name h k = finds_method_fine w text_methods left_of_text x name h
    finds_in_fine w x (Value-F.Tuple parts) name h k = finds_none_fine w left_of_tuple name
    finds_in_fine w x (Value-F.Bool b) name h k = finds_none_fine w left_of_integer name
    finds_in_fine w x (Value-F.Int n) name h k = finds_none_fine w left_of_integer name
    finds_in_fine w x Value-F.None name h k = fine_raises g claim _
    finds_in_fine w x (Value-F.Ref id) name h k = at_fine (λ s. finds_in_object program id (kind_of (object_at s.objects id)) name) (λ s m wide now. finds_in_object_fine s.objects id (kind_of (object_at s.objects id)) name (λ on. wide on (v.Ref id) (fits_Ref w id (k on))))
    finds_in_fine w x (Value-F.Class class) name h k = finds_in_class_fine w class name
    finds_in_fine w x (Value-F.Func f) name h k = free 1 _ refl (fine_stop g claim _ (λ w' on. tt))
    finds_in_fine w x (Value-F.View view) name h k = free 1 _ refl (fine_stop g claim _ (λ w' on. tt))
    finds_in_fine w x Value-F.ModuleRef name h k = finds_in_module_fine w name

    pub finds_fine : (w : World) (x : Value) (name : List ℕ) → On claim (Fits w x) → Runs 1 w CalleeFits (finds program x name)
    finds_fine w x name h = finds_in_fine w x (out-Value x) name h (λ on. sound_kind (dicts w) x (h on))

    pub read_found_fine : (w : World) (found : Callee) → On claim (CalleeFits w found) → Runs 0 w FindingFits (read_found found)
    read_found_fine w (callee.Value x) h = fine_gives g claim x h
    read_found_fine w (callee.Function f) h = fine_stop g claim _ (λ w' on. tt)
    read_found_fine w (callee.Bound id f) h = fine_stop g claim _ (λ w' on. tt)
    read_found_fine w (callee.Method x name) h = fine_stop g claim _ (λ w' on. tt)
    read_found_fine w (callee.Builtin builtin) h = fine_stop g claim _ (λ w' on. tt)
    read_found_fine w (callee.BaseInit id) h = fine_stop g claim _ (λ w' on. tt)

    sets_in_instance_fine : (w : World) (exception : Bool) (id : ObjId) (name : List ℕ) (x : Value) → On claim (Fits w x) → Runs 1 w FindingFits (sets_in_instance exception id name x)
    sets_in_instance_fine w exception id name x h = fine_if g claim (exception && bytes_eq name (codes "args")) _ _ _ _ (free 1 _ refl (fine_stop g claim _ (λ w' on. tt)))
        (free 1 _ refl (fine_writes g claim (attr_set id name x) (λ w'. length_set w' id.0 _) (λ w' wide whole on. attr_set_sound w' (whole on) id name x (wide on x (h on)))))

    sets_in_object_fine : (w : World) (id : ObjId) (kind : ObjKind) (name : List ℕ) (x : Value) → On claim (Fits w x) → Runs 1 w FindingFits (sets_in_object program id kind name x)
    sets_in_object_fine w id (kind.Instance class) name x h = sets_in_instance_fine w (is_exception program class) id name x h
    sets_in_object_fine w id kind.List name x h = fine_raises g claim _
    sets_in_object_fine w id kind.Dict name x h = fine_raises g claim _

    sets_in_fine : (w : World) (view : Value-F Value) (name : List ℕ) (x : Value) → On claim (Fits w x) → Runs 1 w FindingFits (sets_in program view name x)
    sets_in_fine w (Value-F.Class class) name x h = free 1 _ refl (fine_stop g claim _ (λ w' on. tt))
    sets_in_fine w (Value-F.Func f) name x h = free 1 _ refl (fine_stop g claim _ (λ w' on. tt))
    sets_in_fine w (Value-F.View view) name x h = free 1 _ refl (fine_stop g claim _ (λ w' on. tt))
    sets_in_fine w (Value-F.Ref id) name x h = at_fine (λ s. sets_in_object program id (kind_of (object_at s.objects id)) name x) (λ s m wide now. sets_in_object_fine s.objects id (kind_of (object_at s.objects id)) name x (λ on. wide on x (h on)))
    sets_in_fine w _ name x h = fine_raises g claim _

    pub sets_attribute_fine : (w : World) (of : Value) (name : List ℕ) (x : Value) → On claim (Fits w x) → Runs 1 w FindingFits (sets_attribute program of name x)
    sets_attribute_fine w of name x h = sets_in_fine w (out-Value of) name x h

    -- ---- operators and built-in functions

    pub signs_fine : (w : World) (sign : Sign) (x : Value) → Runs 1 w FindingFits (signs sign x)
    signs_fine w sign x = aside_fine w (unary sign x) (λ w' left wide on. unary_fits w' sign x left) (operations.unary_frugal sign x)

    pub operates_fine : (w : World) (op : BinOp) (x y : Value) → On claim (Fits w x) → On claim (Fits w y) → Runs 2 w FindingFits (operates op x y)
    operates_fine w op x y h k = value_fine w (binary op x y) (λ w' left wide whole on. binary_holds w' (whole on) op x y (wide on x (h on)) (wide on y (k on)) left) (λ on. (counts on).binaries op x y) (operations.binary_frugal op x y)

    pub augments_fine : (w : World) (op : BinOp) (x y : Value) → On claim (Fits w x) → On claim (Fits w y) → Runs 2 w FindingFits (augments op x y)
    augments_fine w op x y h k = value_fine w (augment op x y) (λ w' left wide whole on. augment_holds w' (whole on) op x y (wide on x (h on)) (wide on y (k on)) left) (λ on. (counts on).augmented op x y) (operations.augment_frugal op x y)

    pub gets_item_fine : (w : World) (of at : Value) → On claim (Fits w of) → Runs 1 w FindingFits (gets_item of at)
    gets_item_fine w of at h = fine_bind g claim _ _ gives gives (asks_fine Fits w (get_item of at) (λ w' left wide whole on. get_item_gives w' (whole on) of at (wide on of (h on)) left) (operations.get_frugal of at)) (λ w' x wide fits. fine_gives g claim x fits) refl

    pub passes_fine : (w : World) → Runs 0 w FindingFits (pure nothing)
    passes_fine w = fine_end g claim (Ok nothing) (λ w' wide on. sound_None (dicts w'))

    pub sets_item_fine : (w : World) (of at x : Value) → On claim (Fits w at) → On claim (Fits w x) → Runs 1 w FindingFits (sets_item of at x)
    sets_item_fine w of at x h k = fine_bind g claim _ _ _ _ (fine_performs g claim {fits = Anything} {n = 0} (put_item of at x) (record {
      answers = λ w' left wide whole on. answered_world w' (put_item of at x w' left).0 (put_item_sound w' (whole on) of at x (wide on at (h on)) (wide on x (k on)) left);
      counts = λ on. (counts on).puts of at x;
      frugal = operations.put_frugal of at x;
    })) (λ w' a wide fits. passes_fine w') refl

    pub deletes_item_fine : (w : World) (of at : Value) → Runs 1 w FindingFits (deletes_item of at)
    deletes_item_fine w of at = fine_bind g claim _ _ _ _ (fine_performs g claim {fits = Anything} {n = 0} (delete_item of at) (record {
      answers = λ w' left wide whole on. answered_world w' (delete_item of at w' left).0 (delete_item_sound w' (whole on) of at left);
      counts = λ on. (counts on).deletes of at;
      frugal = operations.delete_frugal of at;
    })) (λ w' a wide fits. passes_fine w') refl

    pub gets_slice_fine : (w : World) (of low high : Value) → On claim (Fits w of) → Runs 2 w FindingFits (gets_slice of low high)
    gets_slice_fine w of low high h = value_fine w (slice of low high) (λ w' left wide whole on. slice_holds w' (whole on) of low high (wide on of (h on)) left) (λ on. (counts on).slices of low high) (operations.slice_frugal of low high)

    pub compares_fine : (w : World) (op : CmpOp) (x y : Value) → Runs 1 w Anything (compares op x y)
    compares_fine w op x y = asks_any_fine w (compare op x y) (operations.compare_frugal op x y)

    pub all_widen : (w w' : World) (items : List Value) → Widens w w' → AllFit w items → AllFit w' items
    all_widen w w' items f h = all_weaker (sound (dicts w)) (sound (dicts w')) f items h

    builtin_fine : (w : World) (builtin : Builtin) (arguments : List Value) → On claim (AllFit w arguments) → Runs 2 w FindingFits (performs_value (call_builtin builtin arguments))
    builtin_fine w builtin arguments h = value_fine w (call_builtin builtin arguments) (λ w' left wide whole on. call_builtin_holds w' (whole on) builtin arguments (all_widen w w' arguments (wide on) (h on)) left) (λ on. (counts on).builtins builtin arguments) (operations.builtin_frugal builtin arguments)

    pub calls_builtin_fine : (w : World) (builtin : Builtin) (arguments : List Value) → On claim (AllFit w arguments) → Runs 2 w FindingFits (calls_builtin program builtin arguments)
    calls_builtin_fine w builtin.Isinstance arguments h = fine_bind g claim _ _ _ _ (asks_any_fine w (isinstance_row program arguments) (operations.isinstance_frugal arguments)) (λ w' yes wide fits. fine_gives g claim (v.Bool yes) (λ on. sound_Bool (dicts w') yes)) refl
    calls_builtin_fine w builtin.Str arguments h = fine_bind g claim _ _ gives gives (asks_fine Fits w (text_row program arguments) (λ w' left wide whole on. text_row_fits w' program arguments left) (operations.text_frugal arguments)) (λ w' x wide fits. fine_gives g claim x fits) refl
    calls_builtin_fine w other arguments h = builtin_fine w other arguments h

    pub method_fine : (w : World) (receiver : Value) (name : List ℕ) (arguments : List Value) → On claim (AllFit w arguments) → Runs 2 w FindingFits (performs_value (call_method receiver name arguments))
    method_fine w receiver name arguments h = value_fine w (call_method receiver name arguments) (λ w' left wide whole on. call_method_holds w' (whole on) receiver name arguments (all_widen w w' arguments (wide on) (h on)) left) (λ on. (counts on).methods receiver name arguments) (operations.method_frugal receiver name arguments)
