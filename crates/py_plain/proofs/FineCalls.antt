-- Calls, displays, decisions and expressions, as `Fine` claims of them.
use Rattle.std.proofs.Common.{ℕ, ◌+◌, Bool, true, false, ◌&&◌, ◌||◌, not, List, [], ◌∷◌, ◌++◌, length, refl, ap, arith, Option, Some, None, ◌≡◌, Ok, Err}
use Rattle.std.specs.Prelude.{◌==◌, nat_lt, nat_le, bytes_eq, codes, slice_get, zip, IsTrue, if◌then◌else◌}
use Rattle.pyn_base.specs.declared.class.BuiltClass.{BuiltClass}
use Rattle.pyn_base.specs.declared.class.ClassId.{ClassId}
use Rattle.pyn_base.specs.declared.class.ClassId.TheVariants.{Built, Own}
use Rattle.pyn_base.specs.declared.ids.FuncId.{FuncId}
use Rattle.pyn_base.specs.declared.ids.NodeId.{NodeId}
use Rattle.pyn_base.specs.declared.ids.ObjId.{ObjId}
use Rattle.py_syntax.specs.declared.expr.Args.{Args, out-Args}
use Rattle.py_syntax.specs.declared.expr.Expr.{Expr}
use Rattle.py_syntax.specs.declared.expr.ExprKind.{ExprKind, ExprKind-F}
use Rattle.py_syntax.specs.declared.operator.CmpOp.{CmpOp}
use Rattle.py_syntax.specs.declared.stmt.Stmt.{Stmt}
use Rattle.py_meaning.specs.declared.builtin.Builtin.{Builtin}
use Rattle.py_meaning.specs.declared.object.ObjKind.{ObjKind}
use Rattle.py_meaning.specs.declared.object.ObjKind.TheVariants as kind
use Rattle.py_meaning.specs.declared.value.Value.{Value, Value-F, out-Value}
use Rattle.py_meaning.specs.declared.value.Value.TheVariants as v
use Rattle.py_meaning.specs.Builtins.{tuple_of_parts}
use Rattle.py_meaning.specs.Operations.{kind_of, make_list, make_dict, set_args}
use Rattle.py_meaning.specs.Tuples.{depth_over, tuple_limit, measured, tuple}
use Rattle.py_meaning.specs.declared.measured.Measured.{Measured}
use Rattle.py_meaning.specs.Walk.{walk, truth}
use Rattle.py_meaning.specs.Worlds.{Attributes, Pairs, object_at, World, sound, dicts}
use Rattle.py_plain.specs.declared.judged.Judged.{Judged}
use Rattle.py_plain.specs.declared.judged.Judged.TheVariants as j
use Rattle.pyn_base.specs.declared.construct.Construct.TheVariants as construct
use Rattle.py_plain.specs.declared.run.Callee.{Callee}
use Rattle.py_plain.specs.declared.run.Callee.TheVariants as callee
use Rattle.py_plain.specs.Assignments.{counted, unpacks, binds_all, binds_names}
use Rattle.py_plain.specs.BuiltNames.{called_type}
use Rattle.py_plain.specs.Calls.{bound_arguments, call_limit, leaves, or_no_defaults, without_named, within_depth, is_filled, makes_instance, initialized, initializes_base, calls_base, super_of_instance, super_of_object, super_of, super_by, super_in, first_parameter, finds_super, block, body, inside, enters, calls_known, calls_function, initializes, instantiates_by, instantiates, calls_type, calls_class, calls_value, calls, with_named, with_defaults, defaulted, and_then, answer}
use Rattle.py_plain.specs.Classes.{class_of_object, base_of_class, derives, is_exception, initializer}
use Rattle.py_plain.specs.Decisions.{judged_chain, negates, conjunction, disjunction, conjoins, disjoins, chain, conditional, decided}
use Rattle.py_plain.specs.Displays.{makes_list, makes_tuple, makes_dict, list_display, tuple_display, dict_display}
use Rattle.py_plain.specs.Expressions.{named_arguments, plain_arguments, arguments, calls_meant, calls_expr, bound, value_by}
use Rattle.py_plain.specs.Names.{is_some, function_at, builtin_meant, lookup, is_bound}
use Rattle.py_plain.specs.Nodes.{kind_of_expr}
use Rattle.py_plain.specs.Operators.{judged_comparison}
use Rattle.py_names.specs.Bound.{parameters}
use Rattle.py_plain.specs.Program.{Function, Program}
use Rattle.py_plain.specs.Runs.{Run, Finding, Ran, Outcome, ◌>>=◌, stop, tests}
use Rattle.std.specs.List.{list_all}
use Rattle.py_meaning.specs.SoundRuns.{Fits, AllFit, Answers}
use Rattle.py_meaning.proofs.Soundness.{all_weaker, both, first, second}
use Rattle.py_meaning.proofs.SoundKinds.{SoundKind, sound_kind, sound_tuple, sound_None, sound_Bool, sound_Int, sound_Str}
use Rattle.py_meaning.specs.Outcomes.{gives_costs}
use Rattle.py_meaning.specs.Steps.{costs, done, leaves as leaves_at}
use Rattle.py_meaning.proofs.SoundWalks.{list_made, dict_made, walk_gives, pair_fits}
use Rattle.py_meaning.proofs.SoundWrites.{set_args_sound}
use Rattle.py_plain.specs.declared.run.Abrupt.TheVariants.{Raised, Returned, Left}
use Rattle.py_plain.specs.declared.state.Frame.{Frame}
use Rattle.py_plain.specs.declared.state.State.{State}
use Rattle.py_plain.specs.SoundStates.{NamesFit, Widens, EndFits, FindingFits}
use Rattle.py_plain.proofs.Fine.{Claim, Paid, Growth, On, IdFits, Anything, Fine, Steady, Same, Out, may, allowed_none, frame_widens, fine_bind, fine_at, fine_if, fine_more, fine_says, fine_end, fine_gives, fine_raises, fine_instance, fine_writes, fine_performs, fine_begins, fine_decides}
use Rattle.py_plain.proofs.FineValues.{Counts, callee_widens, Runs, length_set, answered_id, asks_fine, aside_fine, at_fine, free, stops_fine, reads_name_fine, binds_fine, finds_above_fine, finds_fine, read_found_fine, signs_fine, operates_fine, gets_item_fine, gets_slice_fine, compares_fine, calls_builtin_fine, method_fine, passes_fine, all_widen}
use Rattle.py_plain.proofs.LikeValues.{Operations}
use Rattle.py_plain.proofs.SoundParts.{Maybe, CalleeFits, fits_Ref, lookup_fits, got, one_more_fits, one_more_value, one_first, one_more_pair, PairsFit}

-- ---- arguments that fit parameters

module _ (w : World) where
  maybe_if : (b : Bool) (x y : Option Attributes) → Maybe (NamesFit w) x → Maybe (NamesFit w) y → Maybe (NamesFit w) (if b then x else y)
  maybe_if true x y h k = h
  maybe_if false x y h k = k

  maybe_then : (x : Option Attributes) (next : Attributes → Option Attributes) → Maybe (NamesFit w) x → ((done : Attributes) → NamesFit w done → Maybe (NamesFit w) (next done)) → Maybe (NamesFit w) (and_then x next)
  maybe_then None next h k = tt
  maybe_then (Some done) next h k = k done h

  with_named_fits : (params : List (List ℕ)) (done named : Attributes) → NamesFit w done → NamesFit w named → Maybe (NamesFit w) (with_named params done named)
  with_named_fits params done [] h k = h
  with_named_fits params done (argument ∷ rest) h k =
      let row = sound (dicts w) argument.1 in let rows = list_all (λ row. sound (dicts w) row.1) rest in
      maybe_if _ _ None (with_named_fits params (done ++ argument ∷ []) rest (one_more_fits w done argument.0 argument.1 h (first row rows k)) (second row rows k)) tt

  defaulted_fits : (found : Option Value) (name : List ℕ) (done : Attributes) → Maybe (Fits w) found → NamesFit w done → Maybe (NamesFit w) (defaulted found name done)
  defaulted_fits None name done h k = tt
  defaulted_fits (Some x) name done h k = one_more_fits w done name x k h

  with_defaults_fits : (defaults : Attributes) → NamesFit w defaults → (names : List (List ℕ)) (done : Attributes) → NamesFit w done → Maybe (NamesFit w) (with_defaults defaults done names)
  with_defaults_fits defaults d [] done h = h
  with_defaults_fits defaults d (name ∷ names) done h = maybe_if (is_bound name done) _ _ (with_defaults_fits defaults d names done h)
      (maybe_then _ _ (defaulted_fits (lookup name defaults) name done (lookup_fits w name defaults d) h) (λ bound k. with_defaults_fits defaults d names bound k))

  zip_fits : (params : List (List ℕ)) (plain : List Value) → AllFit w plain → NamesFit w (zip params plain)
  zip_fits [] plain h = refl
  zip_fits (name ∷ names) [] h = refl
  zip_fits (name ∷ names) (x ∷ xs) h =
      let one = sound (dicts w) x in let rest = list_all (sound (dicts w)) xs in
      both one (list_all (λ row. sound (dicts w) row.1) (zip names xs)) (first one rest h) (zip_fits names xs (second one rest h))

  arguments_fit : (params : List (List ℕ)) (defaults : Attributes) (plain : List Value) (named : Attributes) → NamesFit w defaults → AllFit w plain → NamesFit w named → Maybe (NamesFit w) (bound_arguments params defaults plain named)
  arguments_fit params defaults plain named d h k = maybe_if (nat_le (length plain) (length params)) _ None
      (maybe_then _ _ (with_named_fits params (zip params plain) named (zip_fits params plain h) k) (λ bound b. with_defaults_fits defaults d params bound b)) tt

  defaults_fit : (all : Option Attributes) → Maybe (NamesFit w) all → NamesFit w (or_no_defaults all)
  defaults_fit None h = refl
  defaults_fit (Some bound) h = h

names_widen : (w w' : World) (bound : Attributes) → Widens w w' → NamesFit w bound → NamesFit w' bound
names_widen w w' bound f h = all_weaker (λ row. sound (dicts w) row.1) (λ row. sound (dicts w') row.1) (λ row. f row.1) bound h

pairs_widen : (w w' : World) (held : Pairs) → Widens w w' → PairsFit w held → PairsFit w' held
pairs_widen w w' held f h = all_weaker (pair_fits (dicts w)) (pair_fits (dicts w'))
    (λ pair k. both (sound (dicts w') pair.0) (sound (dicts w') pair.1) (f pair.0 (first (sound (dicts w) pair.0) (sound (dicts w) pair.1) k)) (f pair.1 (second (sound (dicts w) pair.0) (sound (dicts w) pair.1) k))) held h

-- a tuple that isn't too deep
measured_fits : (w : World) (parts : List Value) → AllFit w parts → IsTrue (nat_le (depth_over parts) tuple_limit) → Fits w (v.Tuple (measured parts))
unfolding tuple
measured_fits w parts h k = sound_tuple (dicts w) parts h k

tuple_answers : (w : World) (parts : List Value) (left : ℕ) → AllFit w parts → Answers (Fits w) (tuple_of_parts parts left).0
tuple_answers w parts left h = by_depth (nat_le (depth_over parts) tuple_limit) refl
  where
    by_depth : (b : Bool) → nat_le (depth_over parts) tuple_limit ≡ b → Answers (Fits w) ((if b then costs (length parts) (done (tuple parts)) else leaves_at construct.TupleDepth) left).0
    by_depth true e = gives_costs (Fits w) (length parts) (done (tuple parts)) (λ less. sound_tuple (dicts w) parts h e) left
    by_depth false e = tt

abbrev pub ItemsFit : World → List Value → Type 0
ItemsFit w items = AllFit w items

module _ {W : Type 0} (g : Growth W) (claim : Claim) where
  -- what parts mean, with fewer steps at most and with more
  pub record Parts (value value' : Expr → Run W Finding) (does does' : Stmt → Run W Finding) : Type 0 where
    pub values : (w : World) (e : Expr) → Fine g claim 0 w FindingFits (value e) (value' e)
    pub statements : (w : World) (stmt : Stmt) → Fine g claim 0 w FindingFits (does stmt) (does' stmt)

  pub up : {A : Type 0} {fits : World → A → Type 0} {w : World} (c : ℕ) (p q : Run W A) → nat_le c 2 ≡ true → Fine g claim c w fits p q → Fine g claim 2 w fits p q
  up c p q le h = fine_more g claim {c = c} p q le h

  pub tests_fine : (w : World) (x : Value) → Runs g claim 0 w Anything (tests x)
  tests_fine w x = fine_says g claim (λ world. Ok (truth world x)) (λ w' wide on. tt)

  pub without_named_fine : {w : World} {c : ℕ} (named : Attributes) (p q : Run W Finding) → Fine g claim c w FindingFits p q → Fine g claim c w FindingFits (without_named named p) (without_named named q)
  without_named_fine [] p q h = h
  without_named_fine (argument ∷ rest) p q h = stops_fine g claim _ (λ w' on. tt)

  pub within_depth_fine : {w : World} {c : ℕ} (parts : List Value) (p q : Run W Finding) → On claim (AllFit w parts) → (On claim (Fits w (v.Tuple (measured parts))) → Fine g claim c w FindingFits p q) → Fine g claim c w FindingFits (within_depth parts p) (within_depth parts q)
  within_depth_fine {w} {c} parts p q h k = by_depth (nat_le (depth_over parts) tuple_limit) refl
    where
      by_depth : (b : Bool) → nat_le (depth_over parts) tuple_limit ≡ b → Fine g claim c w FindingFits (if b then p else stop (Left construct.TupleDepth)) (if b then q else stop (Left construct.TupleDepth))
      by_depth true e = k (λ on. measured_fits w parts (h on) e)
      by_depth false e = stops_fine g claim _ (λ w' on. tt)

  module _ (program : Program) (operations : Operations program) (counts : claim ≡ Paid → Counts) where
    initialized_fine : (w : World) (id : ObjId) (view : Value-F Value) → On claim (Fits w (v.Ref id)) → Runs g claim 1 w FindingFits (initialized id view)
    initialized_fine w id Value-F.None h = free g claim 1 _ refl (fine_gives g claim (v.Ref id) h)
    initialized_fine w id _ h = fine_raises g claim _

    initializes_base_fine : (w : World) (id : ObjId) (exception : Bool) (plain : List Value) (named : Attributes) → On claim (AllFit w plain) → Runs g claim 1 w FindingFits (initializes_base g.watcher program id exception plain named)
    initializes_base_fine w id true plain named h = without_named_fine named _ _ (within_depth_fine plain _ _ h (λ fits. free g claim 1 _ refl (fine_writes g claim (set_args id (measured plain)) (λ w'. length_set w' id.0 _) (λ w' wide whole on. set_args_sound w' (whole on) id (measured plain) (wide on (v.Tuple (measured plain)) (fits on))))))
    initializes_base_fine w id false plain named h = fine_if g claim (is_filled plain || is_filled named) _ _ _ _ (fine_raises g claim _) (free g claim 1 _ refl (passes_fine g claim program operations counts w))

    calls_base_fine : (w : World) (id : ObjId) (plain : List Value) (named : Attributes) → On claim (AllFit w plain) → Runs g claim 1 w FindingFits (calls_base g.watcher program id plain named)
    calls_base_fine w id plain named h = at_fine g claim (λ s. initializes_base g.watcher program id (is_exception program (class_of_object (object_at s.objects id))) plain named)
        (λ s m wide now. initializes_base_fine s.objects id (is_exception program (class_of_object (object_at s.objects id))) plain named (λ on. all_widen g claim program operations counts w s.objects plain (wide on) (h on)))

    super_of_instance_fine : (w : World) (class : ClassId) (id : ObjId) (own : ClassId) (name : List ℕ) → On claim (Fits w (v.Ref id)) → Runs g claim 1 w CalleeFits (super_of_instance g.watcher program class id own name)
    super_of_instance_fine w class id own name h = fine_if g claim (not (derives program own class)) _ _ _ _ (fine_raises g claim _)
        (fine_if g claim (bytes_eq name (codes "__init__") && not (is_some (initializer program (base_of_class program class)))) _ _ _ _ (free g claim 1 _ refl (fine_end g claim (Ok (callee.BaseInit id)) (λ w' wide on. wide on (v.Ref id) (h on))))
        (finds_above_fine g claim program operations counts w id own (base_of_class program class) name h))

    super_of_object_fine : (w : World) (class : ClassId) (id : ObjId) (kind : ObjKind) (name : List ℕ) → On claim (Fits w (v.Ref id)) → Runs g claim 1 w CalleeFits (super_of_object g.watcher program class id kind name)
    super_of_object_fine w class id (kind.Instance own) name h = super_of_instance_fine w class id own name h
    super_of_object_fine w class id kind.List name h = fine_raises g claim _
    super_of_object_fine w class id kind.Dict name h = fine_raises g claim _

    super_of_fine : (w : World) (class : ClassId) (view : Value-F Value) (name : List ℕ) → On claim (SoundKind (dicts w) view) → Runs g claim 1 w CalleeFits (super_of g.watcher program class view name)
    super_of_fine w class (Value-F.Ref id) name h = at_fine g claim (λ s. super_of_object g.watcher program class id (kind_of (object_at s.objects id)) name)
        (λ s m wide now. super_of_object_fine s.objects class id (kind_of (object_at s.objects id)) name (λ on. wide on (v.Ref id) (fits_Ref w id (h on))))
    super_of_fine w class (Value-F.Class other) name h = fine_if g claim (derives program other class) _ _ _ _ (stops_fine g claim _ (λ w' on. tt)) (fine_raises g claim _)
    super_of_fine w class _ name h = fine_raises g claim _

    super_by_fine : (w : World) (owner : Option ℕ) (found : Option Value) (name : List ℕ) → On claim (Maybe (Fits w) found) → Runs g claim 1 w CalleeFits (super_by g.watcher program owner found name)
    super_by_fine w (Some class) (Some x) name h = super_of_fine w (Own class) (out-Value x) name (λ on. sound_kind (dicts w) x (h on))
    super_by_fine w (Some class) None name h = stops_fine g claim _ (λ w' on. tt)
    super_by_fine w None found name h = stops_fine g claim _ (λ w' on. tt)

    first_fits : (w : World) (params : List (List ℕ)) (variables : Attributes) → NamesFit w variables → Maybe (Fits w) (first_parameter g.watcher program params variables)
    first_fits w [] variables h = tt
    first_fits w (name ∷ names) variables h = lookup_fits w name variables h

    super_in_fine : (w : World) (f : Option Function) (variables : Attributes) (name : List ℕ) → On claim (NamesFit w variables) → Runs g claim 1 w CalleeFits (super_in g.watcher program f variables name)
    super_in_fine w None variables name h = stops_fine g claim _ (λ w' on. tt)
    super_in_fine w (Some f) variables name h = super_by_fine w f.owner (first_parameter g.watcher program (parameters f.tree) variables) name (λ on. first_fits w (parameters f.tree) variables (h on))

    finds_super_fine : (w : World) (name : List ℕ) → Runs g claim 1 w CalleeFits (finds_super g.watcher program name)
    finds_super_fine w name = at_fine g claim (λ s. super_in g.watcher program (function_at program s.frame.function) s.frame.variables name)
        (λ s m wide now. super_in_fine s.objects (function_at program s.frame.function) s.frame.variables name (λ on. (now on).frame.variables))

    -- ---- displays

    makes_list_fine : (w : World) (items : List Value) → On claim (AllFit w items) → Runs g claim 2 w FindingFits (makes_list items)
    makes_list_fine w items h = fine_bind g claim _ _ _ _ (fine_performs g claim {fits = IdFits} {n = 1} (make_list items) (record {
      answers = λ w' left wide whole on. answered_id w' (make_list items w' left).0 (list_made w' items (whole on) (all_widen g claim program operations counts w w' items (wide on) (h on)) left);
      counts = λ on. (counts on).lists items;
      frugal = operations.list_frugal items;
    })) (λ w' id wide fits. fine_gives g claim (v.Ref id) fits) refl

    makes_tuple_fine : (w : World) (parts : List Value) → On claim (AllFit w parts) → Runs g claim 1 w FindingFits (makes_tuple parts)
    makes_tuple_fine w parts h = aside_fine g claim w (tuple_of_parts parts) (λ w' left wide on. tuple_answers w' parts left (all_widen g claim program operations counts w w' parts (wide on) (h on))) (operations.tuple_frugal parts)

    makes_dict_fine : (w : World) (held : Pairs) → On claim (PairsFit w held) → Runs g claim 2 w FindingFits (makes_dict held)
    makes_dict_fine w held h = fine_bind g claim _ _ _ _ (fine_performs g claim {fits = IdFits} {n = 1} (make_dict held) (record {
      answers = λ w' left wide whole on. answered_id w' (make_dict held w' left).0 (dict_made w' held (whole on) (pairs_widen w w' held (wide on) (h on)) left);
      counts = λ on. (counts on).dict held;
      frugal = operations.dict_frugal held;
    })) (λ w' id wide fits. fine_gives g claim (v.Ref id) fits) refl

    -- ---- names that are bound

    counted_fine : (w : World) (count : ℕ) (items : List Value) → On claim (AllFit w items) → Runs g claim 1 w ItemsFit (counted count items)
    counted_fine w count items h = fine_if g claim (length items == count) _ _ _ _ (free g claim 1 _ refl (fine_end g claim (Ok items) (λ w' wide on. all_widen g claim program operations counts w w' items (wide on) (h on)))) (fine_raises g claim _)

    pub unpacks_fine : (w : World) (count : ℕ) (x : Value) → On claim (Fits w x) → Runs g claim 1 w ItemsFit (unpacks count x)
    unpacks_fine w count x h = fine_bind g claim _ _ _ _ (asks_fine g claim ItemsFit w (λ world. walk world x) (λ w' left wide whole on. walk_gives w' x (whole on) (wide on x (h on)) left) (operations.walk_frugal x)) (λ w' items wide fits. counted_fine w' count items fits) refl

    pub binds_all_fine : (w : World) (names : List (List ℕ)) (items : List Value) → On claim (AllFit w items) → Runs g claim 0 w FindingFits (binds_all names items)
    binds_all_fine w [] items h = passes_fine g claim program operations counts w
    binds_all_fine w (name ∷ names) [] h = passes_fine g claim program operations counts w
    binds_all_fine w (name ∷ names) (x ∷ xs) h =
        let one = sound (dicts w) x in let rest = list_all (sound (dicts w)) xs in
        fine_bind g claim _ _ _ _ (binds_fine g claim program operations counts w name x (λ on. first one rest (h on)))
        (λ w' _ wide fits. binds_all_fine w' names xs (λ on. all_widen g claim program operations counts w w' xs (wide on) (second one rest (h on)))) refl

    pub binds_names_fine : (w : World) (is_tuple : Bool) (names : List (List ℕ)) (x : Value) → On claim (Fits w x) → Runs g claim 1 w FindingFits (binds_names is_tuple names x)
    binds_names_fine w true names x h = fine_bind g claim _ _ _ _ (unpacks_fine w (length names) x h) (λ w' items wide fits. binds_all_fine w' names items fits) refl
    binds_names_fine w false names x h = free g claim 1 _ refl (binds_all_fine w names (x ∷ []) (λ on. one_first w x [] (h on) refl))

    -- ---- decisions

    negates_fine : (w : World) (x : Finding) → Runs g claim 0 w FindingFits (negates x)
    negates_fine w x = fine_bind g claim _ _ _ _ (tests_fine w x.0) (λ w' holds wide fits. fine_end g claim (Ok (v.Bool (not holds), j.Not x.1)) (λ w'' wide' on. sound_Bool (dicts w'') (not holds))) refl

    pub decided_fine : {w : World} {c : ℕ} (node : NodeId) (p q p' q' : Run W Finding) (x : Finding) → may 0 c c ≡ true → ((w' : World) → On claim (Widens w w') → Fine g claim c w' FindingFits p p') → ((w' : World) → On claim (Widens w w') → Fine g claim c w' FindingFits q q')
        → Fine g claim c w FindingFits (decided g.watcher node p q x) (decided g.watcher node p' q' x)
    decided_fine {w} {c} node p q p' q' x may0 h k = fine_bind g claim {c = 0} {d = c} _ _ _ _ (tests_fine w x.0) (λ w' outcome wide _. fine_bind g claim {c = 0} {d = c} _ _ _ _ (fine_decides g claim node x.1 outcome)
        (λ w'' _ wide' _. fine_if g claim outcome p q p' q' (h w'' (λ on x y. wide' on x (wide on x y))) (k w'' (λ on x y. wide' on x (wide on x y)))) may0) may0

    -- ---- by parts

    module _ (value value' : Expr → Run W Finding) (does does' : Stmt → Run W Finding) (parts : Parts value value' does does') where
      pub block_fine : (w : World) (body : List Stmt) → Fine g claim 0 w FindingFits (block g.watcher program does body) (block g.watcher program does' body)
      block_fine w [] = passes_fine g claim program operations counts w
      block_fine w (stmt ∷ rest) = fine_bind g claim _ _ _ _ (parts.statements w stmt) (λ w' _ wide _. block_fine w' rest) refl

      body_fine : (w : World) (f : Function) → Fine g claim 0 w FindingFits (body g.watcher program does f) (body g.watcher program does' f)
      body_fine w f = fine_bind g claim _ _ _ _ (fine_begins g claim f.tree.node) (λ w' _ wide _. block_fine w' f.tree.body) refl

      answer_fits : (world : World) (end : Outcome Finding) → EndFits FindingFits world end → EndFits FindingFits world (answer world end)
      answer_fits world (Ok x) h = sound_None (dicts world)
      answer_fits world (Err (Returned x)) h = h
      answer_fits world (Err (Raised id)) h = h
      answer_fits world (Err other) h = tt

      leaves_steady : (m : ℕ) (caller : Frame) (r r' : Ran W Finding) → Steady g claim m r r' → Steady g claim m (leaves caller r) (leaves caller r')
      leaves_steady m caller r r' (Same e) = Same (ap (leaves caller) e)
      leaves_steady m caller r r' (Out e follows) = Out (ap (answer r.1.objects) e) follows

      abbrev entered : FuncId → Attributes → State World W → State World W
      entered id variables s = record s { frame = record { function = Some id; variables = variables; handled = [] }; depth = s.depth + 1 }

      inside_fine : (w : World) (id : FuncId) (f : Function) (variables : Attributes) → On claim (NamesFit w variables) → Fine g claim 0 w FindingFits (inside g.watcher program does id f variables) (inside g.watcher program does' id f variables)
      inside_fine w id f variables h = record {
        grows = λ on s. (body_fine w f).grows on (entered id variables s);
        at = λ s m ready.
            let r = body g.watcher program does f (entered id variables s) in
            let inner = (body_fine w f).at (entered id variables s) m (λ on. (
              (ready on).0,
              record {
                world = (ready on).1.world;
                frame = record { variables = names_widen w s.objects variables (ready on).0 (h on); handled = refl };
                space = (ready on).1.space;
              },
            )) in
            record {
              sound = λ on. let kept = inner.sound on in record {
                state = record { world = kept.state.world; frame = frame_widens s.objects r.1.objects s.frame kept.widens (ready on).1.frame; space = kept.state.space };
                widens = kept.widens;
                end = answer_fits r.1.objects r.0 kept.end;
              };
              paid = λ on. let now = inner.paid on in let none = allowed_none g claim r.0 in omega (arith, now, none);
              steady = λ on. leaves_steady m s.frame r _ (inner.steady on);
            };
      }

      enters_fine : (w : World) (id : FuncId) (f : Function) (variables : Option Attributes) → On claim (Maybe (NamesFit w) variables) → Fine g claim 1 w FindingFits (enters g.watcher program does id f variables) (enters g.watcher program does' id f variables)
      enters_fine w id f None h = fine_raises g claim _
      enters_fine w id f (Some variables) h = fine_at g claim (λ s. if nat_lt s.depth call_limit then inside g.watcher program does id f variables else stop (Left construct.CallDepth)) (λ s. if nat_lt s.depth call_limit then inside g.watcher program does' id f variables else stop (Left construct.CallDepth))
          (λ s m wide now. fine_if g claim (nat_lt s.depth call_limit) _ _ _ _ (fine_more g claim {c = 0} _ _ refl (inside_fine s.objects id f variables (λ on. names_widen w s.objects variables (wide on) (h on)))) (stops_fine g claim _ (λ w' on. tt)))

      calls_known_fine : (w : World) (id : FuncId) (f : Option Function) (plain : List Value) (named : Attributes) → On claim (AllFit w plain) → On claim (NamesFit w named) → Fine g claim 1 w FindingFits (calls_known g.watcher program does id f plain named) (calls_known g.watcher program does' id f plain named)
      calls_known_fine w id None plain named h k = stops_fine g claim _ (λ w' on. tt)
      calls_known_fine w id (Some f) plain named h k = fine_at g claim (λ s. enters g.watcher program does id f (bound_arguments (parameters f.tree) (or_no_defaults (slice_get s.space.defaults id.0)) plain named)) (λ s. enters g.watcher program does' id f (bound_arguments (parameters f.tree) (or_no_defaults (slice_get s.space.defaults id.0)) plain named))
          (λ s m wide now. enters_fine s.objects id f _ (λ on. arguments_fit s.objects (parameters f.tree) (or_no_defaults (slice_get s.space.defaults id.0)) plain named
          (defaults_fit s.objects (slice_get s.space.defaults id.0) (got s.objects (list_all (λ row. sound (dicts s.objects) row.1)) s.space.defaults id.0 (now on).space.defaults))
          (all_widen g claim program operations counts w s.objects plain (wide on) (h on)) (names_widen w s.objects named (wide on) (k on))))

      calls_function_fine : (w : World) (id : FuncId) (plain : List Value) (named : Attributes) → On claim (AllFit w plain) → On claim (NamesFit w named) → Fine g claim 1 w FindingFits (calls_function g.watcher program does id plain named) (calls_function g.watcher program does' id plain named)
      calls_function_fine w id plain named h k = calls_known_fine w id (slice_get program.functions id.0) plain named h k

      bound_call_fine : (w : World) (id : ObjId) (f : FuncId) (plain : List Value) (named : Attributes) → On claim (Fits w (v.Ref id)) → On claim (AllFit w plain) → On claim (NamesFit w named) → Fine g claim 1 w FindingFits (calls_function g.watcher program does f (v.Ref id ∷ plain) named) (calls_function g.watcher program does' f (v.Ref id ∷ plain) named)
      bound_call_fine w id f plain named r h k = calls_function_fine w f (v.Ref id ∷ plain) named (λ on. one_first w (v.Ref id) plain (r on) (h on)) k

      initializes_fine : (w : World) (id : ObjId) (f : FuncId) (plain : List Value) (named : Attributes) → On claim (Fits w (v.Ref id)) → On claim (AllFit w plain) → On claim (NamesFit w named) → Fine g claim 1 w FindingFits (initializes g.watcher program does id f plain named) (initializes g.watcher program does' id f plain named)
      initializes_fine w id f plain named r h k = fine_bind g claim _ _ _ _ (bound_call_fine w id f plain named r h k) (λ w' x wide fits. initialized_fine w' id (out-Value x.0) (λ on. wide on (v.Ref id) (r on))) refl

      made_fine : (w : World) (class : ClassId) (args : Option (Measured Value)) (p p' : ObjId → Run W Finding) → On claim (Maybe (λ args. Fits w (v.Tuple args)) args) → ((w' : World) (id : ObjId) → On claim (Widens w w') → On claim (Fits w' (v.Ref id)) → Fine g claim 1 w' FindingFits (p id) (p' id)) → Fine g claim 2 w FindingFits (makes_instance class args >>= p) (makes_instance class args >>= p')
      made_fine w class None p p' h k = fine_bind g claim _ _ _ _ (fine_instance g claim class None (λ w' wide on. refl)) k refl
      made_fine w class (Some args) p p' h k = fine_bind g claim _ _ _ _ (fine_instance g claim class (Some args) (λ w' wide on. wide on (v.Tuple args) (h on))) k refl

      instantiates_by_fine : (w : World) (class : ClassId) (exception : Bool) (init : Option FuncId) (plain : List Value) (named : Attributes) → On claim (AllFit w plain) → On claim (NamesFit w named) → Fine g claim 2 w FindingFits (instantiates_by g.watcher program does class exception init plain named) (instantiates_by g.watcher program does' class exception init plain named)
      instantiates_by_fine w class false None plain named h k = fine_if g claim (is_filled plain || is_filled named) _ _ _ _ (up 1 _ _ refl (fine_raises g claim _)) (made_fine w class None _ _ (λ on. tt) (λ w' id wide fits. free g claim 1 _ refl (fine_gives g claim (v.Ref id) fits)))
      instantiates_by_fine w class false (Some f) plain named h k = made_fine w class None _ _ (λ on. tt) (λ w' id wide fits. initializes_fine w' id f plain named fits (λ on. all_widen g claim program operations counts w w' plain (wide on) (h on)) (λ on. names_widen w w' named (wide on) (k on)))
      instantiates_by_fine w class true None plain named h k = without_named_fine named _ _ (within_depth_fine plain _ _ h (λ deep. made_fine w class (Some (measured plain)) _ _ deep (λ w' id wide fits. free g claim 1 _ refl (fine_gives g claim (v.Ref id) fits))))
      instantiates_by_fine w class true (Some f) plain named h k = within_depth_fine plain _ _ h (λ deep. made_fine w class (Some (measured plain)) _ _ deep (λ w' id wide fits. initializes_fine w' id f plain named fits (λ on. all_widen g claim program operations counts w w' plain (wide on) (h on)) (λ on. names_widen w w' named (wide on) (k on))))

      pub instantiates_fine : (w : World) (class : ClassId) (plain : List Value) (named : Attributes) → On claim (AllFit w plain) → On claim (NamesFit w named) → Fine g claim 2 w FindingFits (instantiates g.watcher program does class plain named) (instantiates g.watcher program does' class plain named)
      instantiates_fine w class plain named h k = instantiates_by_fine w class (is_exception program class) (initializer program class) plain named h k

      calls_type_fine : (w : World) (type : Option Builtin) (class : BuiltClass) (plain : List Value) (named : Attributes) → On claim (AllFit w plain) → On claim (NamesFit w named) → Fine g claim 2 w FindingFits (calls_type g.watcher program does type class plain named) (calls_type g.watcher program does' type class plain named)
      calls_type_fine w None class plain named h k = instantiates_fine w (Built class) plain named h k
      calls_type_fine w (Some builtin) class plain named h k = without_named_fine named _ _ (calls_builtin_fine g claim program operations counts w builtin plain h)

      calls_class_fine : (w : World) (class : ClassId) (plain : List Value) (named : Attributes) → On claim (AllFit w plain) → On claim (NamesFit w named) → Fine g claim 2 w FindingFits (calls_class g.watcher program does class plain named) (calls_class g.watcher program does' class plain named)
      calls_class_fine w (Built class) plain named h k = calls_type_fine w (called_type class) class plain named h k
      calls_class_fine w (Own n) plain named h k = instantiates_fine w (Own n) plain named h k

      calls_value_fine : (w : World) (view : Value-F Value) (plain : List Value) (named : Attributes) → On claim (AllFit w plain) → On claim (NamesFit w named) → Fine g claim 2 w FindingFits (calls_value g.watcher program does view plain named) (calls_value g.watcher program does' view plain named)
      calls_value_fine w (Value-F.Func f) plain named h k = up 1 _ _ refl (calls_function_fine w f plain named h k)
      calls_value_fine w (Value-F.Class class) plain named h k = calls_class_fine w class plain named h k
      calls_value_fine w _ plain named h k = up 1 _ _ refl (fine_raises g claim _)

      calls_fine : (w : World) (f : Callee) (plain : List Value) (named : Attributes) → On claim (CalleeFits w f) → On claim (AllFit w plain) → On claim (NamesFit w named) → Fine g claim 2 w FindingFits (calls g.watcher program does f plain named) (calls g.watcher program does' f plain named)
      calls_fine w (callee.Value x) plain named r h k = calls_value_fine w (out-Value x) plain named h k
      calls_fine w (callee.Function f) plain named r h k = up 1 _ _ refl (calls_function_fine w f plain named h k)
      calls_fine w (callee.Bound id f) plain named r h k = up 1 _ _ refl (bound_call_fine w id f plain named r h k)
      calls_fine w (callee.Method receiver name) plain named r h k = without_named_fine named _ _ (method_fine g claim program operations counts w receiver name plain h)
      calls_fine w (callee.Builtin builtin) plain named r h k = without_named_fine named _ _ (calls_builtin_fine g claim program operations counts w builtin plain h)
      calls_fine w (callee.BaseInit id) plain named r h k = up 1 _ _ refl (calls_base_fine w id plain named h)

      -- ---- displays and decisions

      list_display_fine : (w : World) (done : List Value) (items : List Expr) → On claim (AllFit w done) → Fine g claim 2 w FindingFits (list_display value done items) (list_display value' done items)
      list_display_fine w done [] h = makes_list_fine w done h
      list_display_fine w done (e ∷ rest) h = fine_bind g claim _ _ _ _ (parts.values w e) (λ w' x wide fits. list_display_fine w' (done ++ x.0 ∷ []) rest (λ on. one_more_value w' done x.0 (all_widen g claim program operations counts w w' done (wide on) (h on)) (fits on))) refl

      tuple_display_fine : (w : World) (done : List Value) (items : List Expr) → On claim (AllFit w done) → Fine g claim 2 w FindingFits (tuple_display value done items) (tuple_display value' done items)
      tuple_display_fine w done [] h = up 1 _ _ refl (makes_tuple_fine w done h)
      tuple_display_fine w done (e ∷ rest) h = fine_bind g claim _ _ _ _ (parts.values w e) (λ w' x wide fits. tuple_display_fine w' (done ++ x.0 ∷ []) rest (λ on. one_more_value w' done x.0 (all_widen g claim program operations counts w w' done (wide on) (h on)) (fits on))) refl

      dict_display_fine : (w : World) (done : Pairs) (pairs : List (Expr × Expr)) → On claim (PairsFit w done) → Fine g claim 2 w FindingFits (dict_display value done pairs) (dict_display value' done pairs)
      dict_display_fine w done [] h = makes_dict_fine w done h
      dict_display_fine w done (pair ∷ rest) h = fine_bind g claim {d = 2} _ _ _ _ (parts.values w pair.0) (λ w' key wide kfits. fine_bind g claim _ _ _ _ (parts.values w' pair.1)
          (λ w'' x wide' fits. dict_display_fine w'' (done ++ (key.0, x.0) ∷ []) rest (λ on. one_more_pair w'' done key.0 x.0 (pairs_widen w w'' done (λ y z. wide' on y (wide on y z)) (h on)) (wide' on key.0 (kfits on)) (fits on))) refl) refl

      conjunction_fine : (w : World) (done : List Judged) (x : Finding) (rest : List Expr) → On claim (FindingFits w x) → Fine g claim 0 w FindingFits (conjunction value done x rest) (conjunction value' done x rest)
      conjunction_fine w done x [] h = fine_end g claim (Ok _) (λ w' wide on. wide on x.0 (h on))
      conjunction_fine w done x (e ∷ rest) h = fine_bind g claim _ _ _ _ (tests_fine w x.0) (λ w' holds wide _. fine_if g claim holds _ _ _ _ (fine_bind g claim _ _ _ _ (parts.values w' e) (λ w'' y wide' fits. conjunction_fine w'' (done ++ x.1 ∷ []) y rest fits) refl)
          (fine_end g claim (Ok (x.0, j.All (done ++ x.1 ∷ []) (length (e ∷ rest)))) (λ w'' wide' on. wide' on x.0 (wide on x.0 (h on))))) refl

      disjunction_fine : (w : World) (done : List Judged) (x : Finding) (rest : List Expr) → On claim (FindingFits w x) → Fine g claim 0 w FindingFits (disjunction value done x rest) (disjunction value' done x rest)
      disjunction_fine w done x [] h = fine_end g claim (Ok _) (λ w' wide on. wide on x.0 (h on))
      disjunction_fine w done x (e ∷ rest) h = fine_bind g claim _ _ _ _ (tests_fine w x.0) (λ w' holds wide _. fine_if g claim holds _ _ _ _ (fine_end g claim (Ok (x.0, j.Any (done ++ x.1 ∷ []) (length (e ∷ rest)))) (λ w'' wide' on. wide' on x.0 (wide on x.0 (h on))))
          (fine_bind g claim _ _ _ _ (parts.values w' e) (λ w'' y wide' fits. disjunction_fine w'' (done ++ x.1 ∷ []) y rest fits) refl)) refl

      conjoins_fine : (w : World) (items : List Expr) → Fine g claim 0 w FindingFits (conjoins value items) (conjoins value' items)
      conjoins_fine w [] = fine_gives g claim _ (λ on. sound_Bool (dicts w) true)
      conjoins_fine w (e ∷ rest) = fine_bind g claim _ _ _ _ (parts.values w e) (λ w' x wide fits. conjunction_fine w' [] x rest fits) refl

      disjoins_fine : (w : World) (items : List Expr) → Fine g claim 0 w FindingFits (disjoins value items) (disjoins value' items)
      disjoins_fine w [] = fine_gives g claim _ (λ on. sound_Bool (dicts w) false)
      disjoins_fine w (e ∷ rest) = fine_bind g claim _ _ _ _ (parts.values w e) (λ w' x wide fits. disjunction_fine w' [] x rest fits) refl

      chain_fine : (w : World) (done : List Judged) (x : Value) (others : List (CmpOp × Expr)) → Fine g claim 1 w FindingFits (chain value done x others) (chain value' done x others)
      chain_fine w done x [] = free g claim 1 _ refl (fine_end g claim (Ok (v.Bool true, judged_chain done 0)) (λ w' wide on. sound_Bool (dicts w') true))
      chain_fine w done x (part ∷ rest) = fine_bind g claim {d = 1} _ _ _ _ (parts.values w part.1) (λ w' y wide fits. fine_bind g claim _ _ _ _ (compares_fine g claim program operations counts w' part.0 x y.0) (λ w'' holds wide' _. fine_if g claim holds _ _ _ _ (chain_fine w'' (done ++ judged_comparison part.0 x y.0 true ∷ []) y.0 rest)
          (free g claim 1 _ refl (fine_end g claim (Ok (v.Bool false, judged_chain (done ++ judged_comparison part.0 x y.0 false ∷ []) (length rest))) (λ w3 wide3 on. sound_Bool (dicts w3) false)))) refl) refl

      conditional_fine : (w : World) (e test other : Expr) → Fine g claim 0 w FindingFits (conditional value e test other) (conditional value' e test other)
      conditional_fine w e test other = fine_bind g claim {d = 0} _ _ _ _ (parts.values w test) (λ w' x wide fits. fine_bind g claim {d = 0} _ _ _ _ (tests_fine w' x.0) (λ w'' holds wide' _. fine_bind g claim _ _ _ _ (fine_if g claim holds _ _ _ _ (parts.values w'' e) (parts.values w'' other)) (λ w3 y wide3 fits3. fine_gives g claim y.0 fits3) refl) refl) refl

      -- ---- expressions

      named_fine : (w : World) (f : Callee) (plain : List Value) (done : Attributes) (named : List (List ℕ × Expr)) → On claim (CalleeFits w f) → On claim (AllFit w plain) → On claim (NamesFit w done) → Fine g claim 2 w FindingFits (named_arguments g.watcher program value does f plain done named) (named_arguments g.watcher program value' does' f plain done named)
      named_fine w f plain done [] r h k = calls_fine w f plain done r h k
      named_fine w f plain done (argument ∷ rest) r h k = fine_bind g claim _ _ _ _ (parts.values w argument.1) (λ w' x wide fits. named_fine w' f plain (done ++ (argument.0, x.0) ∷ []) rest (λ on. callee_widens w w' f (wide on) (r on)) (λ on. all_widen g claim program operations counts w w' plain (wide on) (h on)) (λ on. one_more_fits w' done argument.0 x.0 (names_widen w w' done (wide on) (k on)) (fits on))) refl

      plain_fine : (w : World) (f : Callee) (done : List Value) (items : List Expr) (named : List (List ℕ × Expr)) → On claim (CalleeFits w f) → On claim (AllFit w done) → Fine g claim 2 w FindingFits (plain_arguments g.watcher program value does f done items named) (plain_arguments g.watcher program value' does' f done items named)
      plain_fine w f done [] named r h = named_fine w f done [] named r h (λ on. refl)
      plain_fine w f done (e ∷ rest) named r h = fine_bind g claim _ _ _ _ (parts.values w e) (λ w' x wide fits. plain_fine w' f (done ++ x.0 ∷ []) rest named (λ on. callee_widens w w' f (wide on) (r on)) (λ on. one_more_value w' done x.0 (all_widen g claim program operations counts w w' done (wide on) (h on)) (fits on))) refl

      arguments_fine : (w : World) (args : Args) (f : Callee) → On claim (CalleeFits w f) → Fine g claim 2 w FindingFits (arguments g.watcher program value does args f) (arguments g.watcher program value' does' args f)
      arguments_fine w args f r = plain_fine w f [] (out-Args args).plain (out-Args args).named r (λ on. refl)

      calls_meant_fine : (w : World) (meant : Option Builtin) (e : Expr) (args : Args) → Fine g claim 2 w FindingFits (calls_meant g.watcher program value does meant e args) (calls_meant g.watcher program value' does' meant e args)
      calls_meant_fine w None e args = fine_bind g claim _ _ _ _ (parts.values w e) (λ w' x wide fits. arguments_fine w' args (callee.Value x.0) fits) refl
      calls_meant_fine w (Some builtin) e args = fine_bind g claim _ _ _ _ (fine_begins g claim e.node) (λ w' _ wide _. arguments_fine w' args (callee.Builtin builtin) (λ on. tt)) refl

      calls_expr_fine : (w : World) (kind : ExprKind-F ExprKind Args Expr) (e : Expr) (args : Args) → Fine g claim 2 w FindingFits (calls_expr g.watcher program value does kind e args) (calls_expr g.watcher program value' does' kind e args)
      calls_expr_fine w (ExprKind-F.Name name) e args = fine_at g claim (λ s. calls_meant g.watcher program value does (builtin_meant program s name) e args) (λ s. calls_meant g.watcher program value' does' (builtin_meant program s name) e args) (λ s m wide now. calls_meant_fine s.objects (builtin_meant program s name) e args)
      calls_expr_fine w _ e args = calls_meant_fine w None e args

      bound_fine : (w : World) (e : Option Expr) → Fine g claim 0 w FindingFits (bound g.watcher program value does e) (bound g.watcher program value' does' e)
      bound_fine w None = passes_fine g claim program operations counts w
      bound_fine w (Some e) = parts.values w e

      pub value_by_fine : (w : World) (kind : ExprKind-F ExprKind Args Expr) → Fine g claim 2 w FindingFits (value_by g.watcher program value does kind) (value_by g.watcher program value' does' kind)
      value_by_fine w ExprKind-F.NoneLit = up 0 _ _ refl (fine_gives g claim _ (λ on. sound_None (dicts w)))
      value_by_fine w (ExprKind-F.BoolLit b) = up 0 _ _ refl (fine_gives g claim _ (λ on. sound_Bool (dicts w) b))
      value_by_fine w (ExprKind-F.IntLit n) = up 0 _ _ refl (fine_gives g claim _ (λ on. sound_Int (dicts w) n))
      value_by_fine w (ExprKind-F.StrLit text) = up 0 _ _ refl (fine_gives g claim _ (λ on. sound_Str (dicts w) text))
      value_by_fine w (ExprKind-F.Name name) = up 1 _ _ refl (reads_name_fine g claim program operations counts w name)
      value_by_fine w (ExprKind-F.ListLit items) = list_display_fine w [] items (λ on. refl)
      value_by_fine w (ExprKind-F.TupleLit items) = tuple_display_fine w [] items (λ on. refl)
      value_by_fine w (ExprKind-F.DictLit pairs) = dict_display_fine w [] pairs (λ on. refl)
      value_by_fine w (ExprKind-F.Attr e name) = up 1 _ _ refl (fine_bind g claim {d = 1} _ _ _ _ (parts.values w e) (λ w' x wide fits. fine_bind g claim _ _ _ _ (finds_fine g claim program operations counts w' x.0 name fits) (λ w'' found wide' ffits. read_found_fine g claim program operations counts w'' found ffits) refl) refl)
      value_by_fine w (ExprKind-F.Index of at) = up 1 _ _ refl (fine_bind g claim {d = 1} _ _ _ _ (parts.values w of) (λ w' x wide fits. fine_bind g claim _ _ _ _ (parts.values w' at) (λ w'' i wide' ifits. gets_item_fine g claim program operations counts w'' x.0 i.0 (λ on. wide' on x.0 (fits on))) refl) refl)
      value_by_fine w (ExprKind-F.Slice of low high) = fine_bind g claim {d = 2} _ _ _ _ (parts.values w of) (λ w' x wide fits. fine_bind g claim {d = 2} _ _ _ _ (bound_fine w' low) (λ w'' a wide' _. fine_bind g claim _ _ _ _ (bound_fine w'' high) (λ w3 b wide3 _. gets_slice_fine g claim program operations counts w3 x.0 a.0 b.0 (λ on. wide3 on x.0 (wide' on x.0 (fits on)))) refl) refl) refl
      value_by_fine w (ExprKind-F.Call e args) = calls_expr_fine w (kind_of_expr e) e args
      value_by_fine w (ExprKind-F.Method e name args) = fine_bind g claim {d = 2} _ _ _ _ (parts.values w e) (λ w' x wide fits. fine_bind g claim _ _ _ _ (finds_fine g claim program operations counts w' x.0 name fits) (λ w'' found wide' ffits. arguments_fine w'' args found ffits) refl) refl
      value_by_fine w (ExprKind-F.Super name args) = fine_bind g claim _ _ _ _ (finds_super_fine w name) (λ w' found wide fits. arguments_fine w' args found fits) refl
      value_by_fine w (ExprKind-F.Unary sign e) = up 1 _ _ refl (fine_bind g claim _ _ _ _ (parts.values w e) (λ w' x wide fits. signs_fine g claim program operations counts w' sign x.0) refl)
      value_by_fine w (ExprKind-F.Not e) = up 0 _ _ refl (fine_bind g claim _ _ _ _ (parts.values w e) (λ w' x wide fits. negates_fine w' x) refl)
      value_by_fine w (ExprKind-F.Binary op a b) = fine_bind g claim {d = 2} _ _ _ _ (parts.values w a) (λ w' x wide fits. fine_bind g claim _ _ _ _ (parts.values w' b) (λ w'' y wide' yfits. operates_fine g claim program operations counts w'' op x.0 y.0 (λ on. wide' on x.0 (fits on)) yfits) refl) refl
      value_by_fine w (ExprKind-F.And items) = up 0 _ _ refl (conjoins_fine w items)
      value_by_fine w (ExprKind-F.Or items) = up 0 _ _ refl (disjoins_fine w items)
      value_by_fine w (ExprKind-F.Compare subject others) = up 1 _ _ refl (fine_bind g claim _ _ _ _ (parts.values w subject) (λ w' x wide fits. chain_fine w' [] x.0 others) refl)
      value_by_fine w (ExprKind-F.Cond e test other) = up 0 _ _ refl (conditional_fine w e test other)
