-- Assignments, turns of loops and exceptions, as `Fine` claims of them.
use Rattle.std.proofs.Common.{ℕ, ◌+◌, Bool, true, false, List, [], ◌∷◌, refl, Option, Some, None, Ok, Err, length, ◌≡◌, ◌-◌, ◌++◌}
use Rattle.std.specs.Prelude.{if◌then◌else◌, ◌==◌, take}
use Rattle.pyn_base.specs.declared.class.BuiltClass.TheVariants.{AssertionError}
use Rattle.pyn_base.specs.declared.class.ClassId.{ClassId}
use Rattle.pyn_base.specs.declared.class.ClassId.TheVariants.{Built}
use Rattle.pyn_base.specs.declared.ids.NodeId.{NodeId}
use Rattle.pyn_base.specs.declared.ids.ObjId.{ObjId}
use Rattle.py_syntax.specs.declared.expr.Expr.{Expr}
use Rattle.py_syntax.specs.declared.operator.BinOp.{BinOp}
use Rattle.py_syntax.specs.declared.stmt.Clause.{Clause, out-Clause}
use Rattle.py_syntax.specs.declared.stmt.Stmt.{Stmt}
use Rattle.py_syntax.specs.declared.stmt.StmtKind.{StmtKind, StmtKind-F}
use Rattle.py_syntax.specs.declared.stmt.Target.{Target}
use Rattle.py_syntax.specs.declared.stmt.Target.TheVariants as target
use Rattle.py_meaning.specs.declared.object.ObjKind.{ObjKind}
use Rattle.py_meaning.specs.declared.object.ObjKind.TheVariants as kind
use Rattle.py_meaning.specs.Tuples.{measured}
use Rattle.py_meaning.specs.declared.value.Value.{Value, Value-F, out-Value}
use Rattle.py_meaning.specs.declared.value.Value.TheVariants as v
use Rattle.py_meaning.specs.Operations.{kind_of}
use Rattle.py_meaning.specs.Walk.{gives_new_tuples, shallow}
use Rattle.py_meaning.specs.Worlds.{object_at, World, sound, dicts}
use Rattle.py_plain.specs.declared.judged.Judged.TheVariants as j
use Rattle.py_plain.specs.declared.run.Abrupt.TheVariants.{Raised, Returned, Broke, Continued, Left, OutOfSteps}
use Rattle.py_plain.specs.declared.run.Walk.{Walk}
use Rattle.py_plain.specs.Assignments.{stores, stores_all, stores_to, augments_attribute, augments_item, augments_target}
use Rattle.py_plain.specs.Classes.{class_of_object, is_exception}
use Rattle.py_plain.specs.Exceptions.{raises_object, raises_last, last_of, reraises, handles, binds_as, unbinds_as, enters_clause, leaves_clause, after_clause, is_final, kept, raises_class, raises_instance, raises_value, raise, fails, fails_with, maybe_block, runs_clause, matched, tries_clauses, after_body, finally, tries}
use Rattle.py_plain.specs.Loops.{after_turn, dict_walked, element_at, size_at, changes_at, unchanged, checks, makes_element, while_turn, while_loop, for_element, for_turn, for_value}
use Rattle.py_plain.specs.Nodes.{body_of_clause}
use Rattle.py_plain.specs.Runs.{Outcome, Run, Finding, pure, stop}
use Rattle.py_plain.specs.Statements.{branches, does_by}
use Rattle.std.specs.List.{list_all}
use Rattle.pyn_base.specs.declared.construct.Construct.TheVariants as construct
use Rattle.py_meaning.specs.SoundRuns.{Fits, AllFit}
use Rattle.py_meaning.proofs.Soundness.{all_join, all_one, all_take, first, second}
use Rattle.py_meaning.proofs.SoundKinds.{SoundKind, sound_kind, sound_None}
use Rattle.py_plain.specs.declared.run.Abrupt.{Abrupt}
use Rattle.py_plain.specs.Calls.{block}
use Rattle.py_plain.specs.Decisions.{chooses}
use Rattle.py_plain.specs.Program.{Program}
use Rattle.py_plain.specs.SoundStates.{Widens, EndFits, FindingFits}
use Rattle.py_plain.proofs.Fine.{Claim, Paid, Growth, On, Anything, Fine, may, fine_bind, fine_after, fine_at, fine_if, fine_end, fine_stop, fine_raises, fine_instance, fine_frame, fine_takes, fine_begins, fine_decides, Passes}
use Rattle.py_plain.proofs.FineValues.{Counts, Runs, at_fine, free, stops_fine, reads_fine, binds_fine, unbinds_fine, finds_fine, read_found_fine, sets_attribute_fine, augments_fine, gets_item_fine, sets_item_fine, deletes_item_fine, passes_fine, all_widen}
use Rattle.py_plain.proofs.FineCalls.{Parts, up, within_depth_fine, unpacks_fine, binds_names_fine, decided_fine, block_fine, instantiates_fine}
use Rattle.py_plain.proofs.LikeValues.{Operations}
use Rattle.py_plain.proofs.SoundParts.{Maybe, ElementFits, fits_Ref, last_fits, element_fits, one_more_value}

element_widens : (w w' : World) (made : Bool) (x : Value) → Widens w w' → ElementFits w made x → ElementFits w' made x
element_widens w w' true x f h = λ deep. f x (h deep)
element_widens w w' false x f h = f x h

module _ {W : Type 0} (g : Growth W) (claim : Claim) (program : Program) (operations : Operations program) (counts : claim ≡ Paid → Counts) where
  -- ---- what needs no part

  end_fine : (w : World) (end : Outcome Finding) → On claim (EndFits FindingFits w end) → Runs g claim 0 w FindingFits (λ s. (end, s))
  end_fine w (Ok x) h = fine_end g claim (Ok x) (λ w' wide on. wide on x.0 (h on))
  end_fine w (Err (Raised id)) h = fine_end g claim (Err (Raised id)) (λ w' wide on. wide on (v.Ref id) (h on))
  end_fine w (Err (Returned x)) h = fine_end g claim (Err (Returned x)) (λ w' wide on. wide on x (h on))
  end_fine w (Err Broke) h = fine_end g claim (Err Broke) (λ w' wide on. tt)
  end_fine w (Err Continued) h = fine_end g claim (Err Continued) (λ w' wide on. tt)
  end_fine w (Err OutOfSteps) h = fine_end g claim (Err OutOfSteps) (λ w' wide on. tt)
  end_fine w (Err (Left construct)) h = fine_end g claim (Err (Left construct)) (λ w' wide on. tt)

  stop_fine : (w : World) (why : Abrupt) → On claim (EndFits FindingFits w (Err why)) → Runs g claim 0 w FindingFits (stop why)
  stop_fine w why h = end_fine w (Err why) h

  pub after_turn_fine : {c : ℕ} (w : World) (p q : Run W Finding) → ((r : Run W Finding) → Runs g claim 0 w FindingFits r → Runs g claim c w FindingFits r) → Fine g claim c w FindingFits p q → (end : Outcome Finding) → On claim (EndFits FindingFits w end) → Fine g claim c w FindingFits (after_turn p end) (after_turn q end)
  after_turn_fine w p q widen h (Ok x) k = h
  after_turn_fine w p q widen h (Err Continued) k = h
  after_turn_fine w p q widen h (Err Broke) k = widen _ (passes_fine g claim program operations counts w)
  after_turn_fine w p q widen h (Err (Raised id)) k = widen _ (stop_fine w (Raised id) k)
  after_turn_fine w p q widen h (Err (Returned x)) k = widen _ (stop_fine w (Returned x) k)
  after_turn_fine w p q widen h (Err OutOfSteps) k = widen _ (stop_fine w OutOfSteps k)
  after_turn_fine w p q widen h (Err (Left why)) k = widen _ (stop_fine w (Left why) k)

  unchanged_fine : (w : World) (walk : Walk) (size changes : ℕ) → Runs g claim 1 w Anything (unchanged walk size changes)
  unchanged_fine w walk size changes = fine_if g claim (size == walk.size) _ _ _ _ (fine_if g claim (changes == walk.changes) _ _ _ _ (free g claim 1 _ refl (fine_end g claim (Ok tt) (λ w' wide on. tt))) (stops_fine g claim _ (λ w' on. tt))) (fine_raises g claim _)

  pub checks_fine : (w : World) (walk : Walk) → Runs g claim 1 w Anything (checks walk)
  checks_fine w walk = at_fine g claim (λ s. unchanged walk (size_at s.objects (dict_walked s.objects (out-Value walk.of))) (changes_at s.objects (dict_walked s.objects (out-Value walk.of))))
      (λ s m wide now. unchanged_fine s.objects walk _ _)

  pub makes_element_fine : (w : World) (made : Bool) (x : Value) → On claim (ElementFits w made x) → Runs g claim 0 w (λ w' _. Fits w' x) (makes_element made x)
  makes_element_fine w true x h = by_depth (shallow (x ∷ [])) refl
    where
      by_depth : (b : Bool) → shallow (x ∷ []) ≡ b → Runs g claim 0 w (λ w' _. Fits w' x) (if b then pure (tt {0}) else stop (Left construct.TupleDepth))
      by_depth true e = fine_end g claim (Ok tt) (λ w' wide on. wide on x (h on e))
      by_depth false e = fine_stop g claim _ (λ w' on. tt)
  makes_element_fine w false x h = fine_end g claim (Ok tt) (λ w' wide on. wide on x (h on))

  raises_object_fine : (w : World) (view : Value-F Value) → On claim (SoundKind (dicts w) view) → Runs g claim 1 w FindingFits (raises_object view)
  raises_object_fine w (Value-F.Ref id) h = free g claim 1 _ refl (stop_fine w (Raised id) (λ on. fits_Ref w id (h on)))
  raises_object_fine w _ h = fine_raises g claim _

  raises_last_fine : (w : World) (id : Option ObjId) → On claim (Maybe (λ id. Fits w (v.Ref id)) id) → Runs g claim 0 w FindingFits (raises_last id)
  raises_last_fine w None h = fine_stop g claim _ (λ w' on. tt)
  raises_last_fine w (Some id) h = stop_fine w (Raised id) h

  reraises_fine : (w : World) → Runs g claim 0 w FindingFits reraises
  reraises_fine w = at_fine g claim (λ s. raises_last (last_of s.frame.handled)) (λ s m wide now. raises_last_fine s.objects (last_of s.frame.handled) (λ on. last_fits s.objects s.frame.handled (now on).frame.handled))

  binds_as_fine : (w : World) (name : Option (List ℕ)) (id : ObjId) → On claim (Fits w (v.Ref id)) → Runs g claim 0 w FindingFits (binds_as name id)
  binds_as_fine w None id h = passes_fine g claim program operations counts w
  binds_as_fine w (Some name) id h = binds_fine g claim program operations counts w name (v.Ref id) h

  unbinds_as_fine : (w : World) (name : Option (List ℕ)) → Runs g claim 0 w FindingFits (unbinds_as name)
  unbinds_as_fine w None = passes_fine g claim program operations counts w
  unbinds_as_fine w (Some name) = unbinds_fine g claim program operations counts w name

  leaves_clause_fine : (w : World) → Runs g claim 0 w FindingFits leaves_clause
  leaves_clause_fine w = fine_frame g claim (λ frame. record frame { handled = take (length frame.handled - 1) frame.handled })
      (λ w' frame wide now on. record { variables = (now on).variables; handled = all_take (λ id. sound (dicts w') (v.Ref id)) (length frame.handled - 1) frame.handled (now on).handled })

  enters_clause_fine : (w : World) (id : ObjId) → On claim (Fits w (v.Ref id)) → Runs g claim 0 w FindingFits (enters_clause id)
  enters_clause_fine w id h = fine_frame g claim (λ frame. record frame { handled = frame.handled ++ id ∷ [] })
      (λ w' frame wide now on. let test : ObjId → Bool = λ id. sound (dicts w') (v.Ref id) in record { variables = (now on).variables; handled = all_join test frame.handled (id ∷ []) (now on).handled (all_one test id (wide on (v.Ref id) (h on))) })

  ends_widen : (w w' : World) (end : Outcome Finding) → Widens w w' → EndFits FindingFits w end → EndFits FindingFits w' end
  ends_widen w w' (Ok x) f h = f x.0 h
  ends_widen w w' (Err (Raised id)) f h = f (v.Ref id) h
  ends_widen w w' (Err (Returned x)) f h = f x h
  ends_widen w w' (Err Broke) f h = tt
  ends_widen w w' (Err Continued) f h = tt
  ends_widen w w' (Err OutOfSteps) f h = tt
  ends_widen w w' (Err (Left construct)) f h = tt

  after_clause_fine : (w : World) (name : Option (List ℕ)) (end : Outcome Finding) → On claim (EndFits FindingFits w end) → Runs g claim 0 w FindingFits (after_clause name end)
  after_clause_fine w name end h = fine_bind g claim {d = 0} _ _ _ _ (leaves_clause_fine w) (λ w' _ wide _. fine_bind g claim {d = 0} _ _ _ _ (unbinds_as_fine w' name)
      (λ w'' _ wide' _. end_fine w'' end (λ on. ends_widen w w'' end (λ x y. wide' on x (wide on x y)) (h on))) refl) refl

  kept_fine : (w : World) (before end : Outcome Finding) → On claim (EndFits FindingFits w before) → On claim (EndFits FindingFits w end) → Runs g claim 0 w FindingFits (kept before end)
  kept_fine w before (Ok x) h k = end_fine w before h
  kept_fine w before (Err why) h k = stop_fine w why k

  through_turn : (p : Run W Finding) → Passes g claim (after_turn p)
  through_turn p s = (refl, refl)

  module _ (value value' : Expr → Run W Finding) (does does' : Stmt → Run W Finding) (parts : Parts g claim value value' does does') where
    abbrev Both : ℕ → World → Run W Finding → Run W Finding → Type 0
    Both c w p q = Fine g claim c w FindingFits p q

    a_block : (w : World) (body : List Stmt) → Both 0 w (block g.watcher program does body) (block g.watcher program does' body)
    a_block w body = block_fine g claim program operations counts value value' does does' parts w body

    -- ---- assignments

    stores_fine : (w : World) (t : Target) (x : Value) → On claim (Fits w x) → Both 1 w (stores program value t x) (stores program value' t x)
    stores_fine w (target.Name name) x h = free g claim 1 _ refl (binds_fine g claim program operations counts w name x h)
    stores_fine w (target.Attr of name) x h = fine_bind g claim _ _ _ _ (parts.values w of) (λ w' y wide fits. sets_attribute_fine g claim program operations counts w' y.0 name x (λ on. wide on x (h on))) refl
    stores_fine w (target.Index of at) x h = fine_bind g claim {d = 1} _ _ _ _ (parts.values w of) (λ w' y wide fits. fine_bind g claim _ _ _ _ (parts.values w' at) (λ w'' i wide' ifits. sets_item_fine g claim program operations counts w'' y.0 i.0 x ifits (λ on. wide' on x (wide on x (h on)))) refl) refl

    stores_all_fine : (w : World) (targets : List Target) (items : List Value) → On claim (AllFit w items) → Both 1 w (stores_all program value targets items) (stores_all program value' targets items)
    stores_all_fine w [] items h = free g claim 1 _ refl (passes_fine g claim program operations counts w)
    stores_all_fine w (t ∷ ts) [] h = free g claim 1 _ refl (passes_fine g claim program operations counts w)
    stores_all_fine w (t ∷ ts) (x ∷ xs) h =
        let one = sound (dicts w) x in let rest = list_all (sound (dicts w)) xs in
        fine_bind g claim _ _ _ _ (stores_fine w t x (λ on. first one rest (h on))) (λ w' _ wide _. stores_all_fine w' ts xs (λ on. all_widen g claim program operations counts w w' xs (wide on) (second one rest (h on)))) refl

    stores_to_fine : (w : World) (is_tuple : Bool) (targets : List Target) (x : Value) → On claim (Fits w x) → Both 1 w (stores_to program value is_tuple targets x) (stores_to program value' is_tuple targets x)
    stores_to_fine w true targets x h = fine_bind g claim _ _ _ _ (unpacks_fine g claim program operations counts w (length targets) x h) (λ w' items wide fits. stores_all_fine w' targets items fits) refl
    stores_to_fine w false targets x h = stores_all_fine w targets (x ∷ []) (λ on. one_more_value w [] x refl (h on))

    augments_attribute_fine : (w : World) (of : Value) (name : List ℕ) (op : BinOp) (e : Expr) → On claim (Fits w of) → Both 2 w (augments_attribute program value of name op e) (augments_attribute program value' of name op e)
    augments_attribute_fine w of name op e h = fine_bind g claim {d = 2} _ _ _ _ (finds_fine g claim program operations counts w of name h) (λ w1 found wide1 ffits. fine_bind g claim {d = 2} _ _ _ _ (read_found_fine g claim program operations counts w1 found ffits)
        (λ w2 old wide2 ofits. fine_bind g claim {d = 2} _ _ _ _ (parts.values w2 e) (λ w3 x wide3 fits. fine_bind g claim _ _ _ _ (augments_fine g claim program operations counts w3 op old.0 x.0 (λ on. wide3 on old.0 (ofits on)) fits)
        (λ w4 new wide4 nfits. sets_attribute_fine g claim program operations counts w4 of name new.0 nfits) refl) refl) refl) refl

    augments_item_fine : (w : World) (of at : Value) (op : BinOp) (e : Expr) → On claim (Fits w of) → On claim (Fits w at) → Both 2 w (augments_item program value of at op e) (augments_item program value' of at op e)
    augments_item_fine w of at op e h k = fine_bind g claim {d = 2} _ _ _ _ (gets_item_fine g claim program operations counts w of at h) (λ w1 old wide1 ofits. fine_bind g claim {d = 2} _ _ _ _ (parts.values w1 e)
        (λ w2 x wide2 fits. fine_bind g claim _ _ _ _ (augments_fine g claim program operations counts w2 op old.0 x.0 (λ on. wide2 on old.0 (ofits on)) fits)
        (λ w3 new wide3 nfits. sets_item_fine g claim program operations counts w3 of at new.0 (λ on. wide3 on at (wide2 on at (wide1 on at (k on)))) nfits) refl) refl) refl

    augments_target_fine : (w : World) (t : Target) (op : BinOp) (e : Expr) → Both 2 w (augments_target program value t op e) (augments_target program value' t op e)
    augments_target_fine w (target.Name name) op e = fine_bind g claim {d = 2} _ _ _ _ (reads_fine g claim program operations counts w name) (λ w1 old wide1 ofits. fine_bind g claim {d = 2} _ _ _ _ (parts.values w1 e)
        (λ w2 x wide2 fits. fine_bind g claim _ _ _ _ (augments_fine g claim program operations counts w2 op old.0 x.0 (λ on. wide2 on old.0 (ofits on)) fits) (λ w3 new wide3 nfits. binds_fine g claim program operations counts w3 name new.0 nfits) refl) refl) refl
    augments_target_fine w (target.Attr of name) op e = fine_bind g claim _ _ _ _ (parts.values w of) (λ w' y wide fits. augments_attribute_fine w' y.0 name op e fits) refl
    augments_target_fine w (target.Index of at) op e = fine_bind g claim {d = 2} _ _ _ _ (parts.values w of) (λ w' y wide fits. fine_bind g claim _ _ _ _ (parts.values w' at) (λ w'' i wide' ifits. augments_item_fine w'' y.0 i.0 op e (λ on. wide' on y.0 (fits on)) ifits) refl) refl

    -- ---- choices and turns of loops

    pub chooses_fine : {c : ℕ} (w : World) (test : Expr) (p q p' q' : Run W Finding) → may 0 c c ≡ true → ((w' : World) → On claim (Widens w w') → Both c w' p p') → ((w' : World) → On claim (Widens w w') → Both c w' q q') → Both c w (chooses g.watcher value test p q) (chooses g.watcher value' test p' q')
    chooses_fine {c} w test p q p' q' may0 h k = fine_bind g claim {c = 0} {d = c} _ _ _ _ (parts.values w test) (λ w' x wide fits. decided_fine g claim program operations counts test.node p q p' q' x may0 (λ w'' wide'. h w'' (λ on y z. wide' on y (wide on y z))) (λ w'' wide'. k w'' (λ on y z. wide' on y (wide on y z)))) may0

    pub while_turn_fine : (w : World) (p q : Run W Finding) (test : Expr) (body : List Stmt) → ((w' : World) → Both 0 w' p q) → Both 0 w (while_turn g.watcher program value does p test body) (while_turn g.watcher program value' does' q test body)
    while_turn_fine w p q test body h = chooses_fine {c = 0} w test _ _ _ _ refl
        (λ w' wide. fine_after g claim _ _ (after_turn p) (after_turn q) (through_turn p) (a_block w' body) (λ w'' end wide' fits. after_turn_fine w'' p q (λ r k. k) (h w'') end fits))
        (λ w' wide. passes_fine g claim program operations counts w')

    for_element_fine : (w : World) (node : NodeId) (again again' : Walk → Run W Finding) (names : List (List ℕ)) (is_tuple : Bool) (body : List Stmt) (walk : Walk) (element : Option Value) → On claim (Fits w walk.of) → On claim (Maybe (ElementFits w (gives_new_tuples (out-Value walk.of))) element)
        → ((w' : World) (next : Walk) → On claim (Fits w' next.of) → Both 1 w' (again next) (again' next)) → Both 1 w (for_element g.watcher program value does node again names is_tuple body walk element) (for_element g.watcher program value' does' node again' names is_tuple body walk element)
    for_element_fine w node again again' names is_tuple body walk None f k h = free g claim 1 _ refl (fine_bind g claim {d = 0} _ _ _ _ (fine_decides g claim node (j.Plain false) false) (λ w' _ wide _. passes_fine g claim program operations counts w') refl)
    for_element_fine w node again again' names is_tuple body walk (Some x) f k h =
        let next : Walk = record walk { at = walk.at + 1 } in let made = gives_new_tuples (out-Value walk.of) in
        fine_bind g claim {d = 1} _ _ _ _ (fine_takes g claim 1) (λ w1 _ wide1 _. fine_bind g claim {d = 1} _ _ _ _ (makes_element_fine w1 made x (λ on. element_widens w w1 made x (wide1 on) (k on)))
        (λ w2 _ wide2 fits. fine_bind g claim {d = 1} _ _ _ _ (fine_decides g claim node (j.Plain true) true) (λ w3 _ wide3 _. fine_bind g claim {d = 1} _ _ _ _ (binds_names_fine g claim program operations counts w3 is_tuple names x (λ on. wide3 on x (fits on)))
        (λ w4 _ wide4 _. fine_after g claim _ _ (after_turn (again next)) (after_turn (again' next)) (through_turn (again next)) (a_block w4 body)
        (λ w5 end wide5 efits. after_turn_fine w5 (again next) (again' next) (λ r l. free g claim 1 r refl l) (h w5 next (λ on. wide5 on walk.of (wide4 on walk.of (wide3 on walk.of (wide2 on walk.of (wide1 on walk.of (f on))))))) end efits)) refl) refl) refl) refl

    pub for_turn_fine : (w : World) (node : NodeId) (again again' : Walk → Run W Finding) (names : List (List ℕ)) (is_tuple : Bool) (body : List Stmt) (walk : Walk) → On claim (Fits w walk.of) → ((w' : World) (next : Walk) → On claim (Fits w' next.of) → Both 1 w' (again next) (again' next))
        → Both 1 w (for_turn g.watcher program value does node again names is_tuple body walk) (for_turn g.watcher program value' does' node again' names is_tuple body walk)
    for_turn_fine w node again again' names is_tuple body walk f h = fine_bind g claim {d = 1} _ _ _ _ (checks_fine w walk) (λ w' _ wide _. fine_at g claim
        (λ s. for_element g.watcher program value does node again names is_tuple body walk (element_at s.objects (out-Value walk.of) walk.at)) (λ s. for_element g.watcher program value' does' node again' names is_tuple body walk (element_at s.objects (out-Value walk.of) walk.at))
        (λ s m wide' now. for_element_fine s.objects node again again' names is_tuple body walk _ (λ on. wide' on walk.of (wide on walk.of (f on)))
        (λ on. element_fits s.objects (out-Value walk.of) walk.at (now on).world (sound_kind (dicts s.objects) walk.of (wide' on walk.of (wide on walk.of (f on))))) h)) refl

    -- ---- exceptions

    raises_class_fine : (w : World) (class : ClassId) → Both 2 w (raises_class g.watcher program value does class) (raises_class g.watcher program value' does' class)
    raises_class_fine w class = fine_if g claim (is_exception program class) _ _ _ _ (fine_bind g claim _ _ _ _ (instantiates_fine g claim program operations counts value value' does does' parts w class [] [] (λ on. refl) (λ on. refl))
        (λ w' x wide fits. raises_object_fine w' (out-Value x.0) (λ on. sound_kind (dicts w') x.0 (fits on))) refl) (up g claim 1 _ _ refl (fine_raises g claim _))

    raises_instance_fine : (w : World) (id : ObjId) (kind : ObjKind) → On claim (Fits w (v.Ref id)) → Both 1 w (raises_instance g.watcher program value does id kind) (raises_instance g.watcher program value' does' id kind)
    raises_instance_fine w id (kind.Instance class) h = fine_if g claim (is_exception program class) _ _ _ _ (free g claim 1 _ refl (stop_fine w (Raised id) h)) (fine_raises g claim _)
    raises_instance_fine w id kind.List h = fine_raises g claim _
    raises_instance_fine w id kind.Dict h = fine_raises g claim _

    raises_value_fine : (w : World) (view : Value-F Value) → On claim (SoundKind (dicts w) view) → Both 2 w (raises_value g.watcher program value does view) (raises_value g.watcher program value' does' view)
    raises_value_fine w (Value-F.Class class) h = raises_class_fine w class
    raises_value_fine w (Value-F.Ref id) h = up g claim 1 _ _ refl (fine_at g claim (λ s. raises_instance g.watcher program value does id (kind_of (object_at s.objects id))) (λ s. raises_instance g.watcher program value' does' id (kind_of (object_at s.objects id)))
        (λ s m wide now. raises_instance_fine s.objects id (kind_of (object_at s.objects id)) (λ on. wide on (v.Ref id) (fits_Ref w id (h on)))))
    raises_value_fine w _ h = up g claim 1 _ _ refl (fine_raises g claim _)

    raise_fine : (w : World) (e : Option Expr) → Both 2 w (raise g.watcher program value does e) (raise g.watcher program value' does' e)
    raise_fine w None = up g claim 0 _ _ refl (reraises_fine w)
    raise_fine w (Some e) = fine_bind g claim _ _ _ _ (parts.values w e) (λ w' x wide fits. raises_value_fine w' (out-Value x.0) (λ on. sound_kind (dicts w') x.0 (fits on))) refl

    fails_fine : (w : World) (args : List Value) → On claim (AllFit w args) → Both 2 w (fails g.watcher program value does args) (fails g.watcher program value' does' args)
    fails_fine w args h = within_depth_fine g claim args _ _ h (λ deep. fine_bind g claim _ _ _ _ (fine_instance g claim (Built AssertionError) (Some (measured args)) (λ w' wide on. wide on (v.Tuple (measured args)) (deep on)))
        (λ w' id wide fits. stop_fine w' (Raised id) fits) refl)

    fails_with_fine : (w : World) (message : Option Expr) → Both 2 w (fails_with g.watcher program value does message) (fails_with g.watcher program value' does' message)
    fails_with_fine w None = fails_fine w [] (λ on. refl)
    fails_with_fine w (Some e) = fine_bind g claim _ _ _ _ (parts.values w e) (λ w' x wide fits. fails_fine w' (x.0 ∷ []) (λ on. one_more_value w' [] x.0 refl (fits on))) refl

    maybe_block_fine : (w : World) (body : Option (List Stmt)) → Both 0 w (maybe_block g.watcher program value does body) (maybe_block g.watcher program value' does' body)
    maybe_block_fine w None = passes_fine g claim program operations counts w
    maybe_block_fine w (Some body) = a_block w body

    runs_clause_fine : (w : World) (clause : Clause) (id : ObjId) → On claim (Fits w (v.Ref id)) → Both 0 w (runs_clause g.watcher program value does clause id) (runs_clause g.watcher program value' does' clause id)
    runs_clause_fine w clause id h = fine_bind g claim {d = 0} _ _ _ _ (binds_as_fine w (out-Clause clause).name id h) (λ w' _ wide _. fine_bind g claim {d = 0} _ _ _ _ (enters_clause_fine w' id (λ on. wide on (v.Ref id) (h on)))
        (λ w'' _ wide' _. fine_after g claim _ _ (after_clause (out-Clause clause).name) (after_clause (out-Clause clause).name) (through_clause (out-Clause clause).name) (a_block w'' (body_of_clause clause)) (λ w3 end wide3 fits. after_clause_fine w3 (out-Clause clause).name end fits)) refl) refl
      where
        through_clause : (name : Option (List ℕ)) → Passes g claim (after_clause {W = W} name)
        through_clause None s = (refl, refl)
        through_clause (Some name) s = (refl, refl)

    matched_fine : (w : World) (clause : Clause) (id : ObjId) (p q : Run W Finding) (outcome : Bool) → On claim (Fits w (v.Ref id)) → ((w' : World) → On claim (Widens w w') → Both 0 w' p q) → Both 0 w (matched g.watcher program value does clause id p outcome) (matched g.watcher program value' does' clause id q outcome)
    matched_fine w clause id p q outcome h k = fine_bind g claim {d = 0} _ _ _ _ (fine_decides g claim (out-Clause clause).node (j.Plain outcome) outcome) (λ w' _ wide _. fine_if g claim outcome _ _ _ _ (runs_clause_fine w' clause id (λ on. wide on (v.Ref id) (h on))) (k w' wide)) refl

    tries_clauses_fine : (w : World) (clauses : List Clause) (id : ObjId) → On claim (Fits w (v.Ref id)) → Both 0 w (tries_clauses g.watcher program value does clauses id) (tries_clauses g.watcher program value' does' clauses id)
    tries_clauses_fine w [] id h = stop_fine w (Raised id) h
    tries_clauses_fine w (clause ∷ rest) id h = fine_bind g claim {d = 0} _ _ _ _ (fine_begins g claim (out-Clause clause).node) (λ w' _ wide _. fine_at g claim
        (λ s. matched g.watcher program value does clause id (tries_clauses g.watcher program value does rest id) (handles program s.space (class_of_object (object_at s.objects id)) (out-Clause clause).classes))
        (λ s. matched g.watcher program value' does' clause id (tries_clauses g.watcher program value' does' rest id) (handles program s.space (class_of_object (object_at s.objects id)) (out-Clause clause).classes))
        (λ s m wide' now. matched_fine s.objects clause id _ _ (handles program s.space (class_of_object (object_at s.objects id)) (out-Clause clause).classes) (λ on. wide' on (v.Ref id) (wide on (v.Ref id) (h on)))
        (λ w'' wide''. tries_clauses_fine w'' rest id (λ on. wide'' on (v.Ref id) (wide' on (v.Ref id) (wide on (v.Ref id) (h on))))))) refl

    after_body_fine : (w : World) (clauses : List Clause) (other : Option (List Stmt)) (end : Outcome Finding) → On claim (EndFits FindingFits w end) → Both 0 w (after_body g.watcher program value does clauses other end) (after_body g.watcher program value' does' clauses other end)
    after_body_fine w clauses other (Ok x) h = maybe_block_fine w other
    after_body_fine w clauses other (Err (Raised id)) h = tries_clauses_fine w clauses id h
    after_body_fine w clauses other (Err (Returned x)) h = stop_fine w (Returned x) h
    after_body_fine w clauses other (Err Broke) h = stop_fine w Broke h
    after_body_fine w clauses other (Err Continued) h = stop_fine w Continued h
    after_body_fine w clauses other (Err OutOfSteps) h = stop_fine w OutOfSteps h
    after_body_fine w clauses other (Err (Left why)) h = stop_fine w (Left why) h

    finally_fine : (w : World) (last : Option (List Stmt)) (before : Outcome Finding) → On claim (EndFits FindingFits w before) → Both 0 w (finally g.watcher program value does last before) (finally g.watcher program value' does' last before)
    finally_fine w None before h = end_fine w before h
    finally_fine w (Some body) before h = fine_if g claim (is_final before) _ _ _ _ (end_fine w before h) (fine_after g claim _ _ (kept before) (kept before) (λ s. (refl, refl)) (a_block w body)
        (λ w' end wide fits. kept_fine w' before end (λ on. ends_widen w w' before (wide on) (h on)) fits))

    pub tries_fine : (w : World) (body : List Stmt) (clauses : List Clause) (other last : Option (List Stmt)) → Both 0 w (tries g.watcher program value does body clauses other last) (tries g.watcher program value' does' body clauses other last)
    tries_fine w body clauses other last = fine_after g claim _ _ _ _ (through_finally last)
        (fine_after g claim _ _ _ _ (λ s. (refl, refl)) (a_block w body) (λ w' end wide fits. after_body_fine w' clauses other end fits)) (λ w' end wide fits. finally_fine w' last end fits)
      where
        through_finally : (last : Option (List Stmt)) → Passes g claim (finally g.watcher program value does last)
        through_finally None s = (refl, refl)
        through_finally (Some body) s = (refl, refl)

    branches_fine : (w : World) (arms : List (Expr × List Stmt)) (other : Option (List Stmt)) → Both 0 w (branches g.watcher program value does arms other) (branches g.watcher program value' does' arms other)
    branches_fine w [] other = maybe_block_fine w other
    branches_fine w (arm ∷ rest) other = chooses_fine {c = 0} w arm.0 _ _ _ _ refl (λ w' wide. a_block w' arm.1) (λ w' wide. branches_fine w' rest other)

    -- ---- statements whose loops are known

    module _ (loops : (w : World) (test : Expr) (body : List Stmt) → Both 2 w (while_loop g.watcher program value does test body) (while_loop g.watcher program value' does' test body))
        (walks : (w : World) (node : NodeId) (names : List (List ℕ)) (is_tuple : Bool) (body : List Stmt) (x : Value) → On claim (Fits w x) → Both 2 w (for_value g.watcher program value does node names is_tuple body x) (for_value g.watcher program value' does' node names is_tuple body x)) where
      pub does_by_fine : (w : World) (node : NodeId) (kind : StmtKind-F StmtKind Clause Stmt) → Both 2 w (does_by g.watcher program value does node kind) (does_by g.watcher program value' does' node kind)
      does_by_fine w node StmtKind-F.Pass = up g claim 0 _ _ refl (passes_fine g claim program operations counts w)
      does_by_fine w node StmtKind-F.Break = up g claim 0 _ _ refl (stop_fine w Broke (λ on. tt))
      does_by_fine w node StmtKind-F.Continue = up g claim 0 _ _ refl (stop_fine w Continued (λ on. tt))
      does_by_fine w node (StmtKind-F.Return None) = up g claim 0 _ _ refl (stop_fine w (Returned v.None) (λ on. sound_None (dicts w)))
      does_by_fine w node (StmtKind-F.Return (Some e)) = up g claim 0 _ _ refl (fine_bind g claim _ _ _ _ (parts.values w e) (λ w' x wide fits. stop_fine w' (Returned x.0) fits) refl)
      does_by_fine w node (StmtKind-F.Raise e) = raise_fine w e
      does_by_fine w node (StmtKind-F.Assert test message) = chooses_fine {c = 2} w test _ _ _ _ refl (λ w' wide. up g claim 0 _ _ refl (passes_fine g claim program operations counts w')) (λ w' wide. fails_with_fine w' message)
      does_by_fine w node (StmtKind-F.Del of at) = up g claim 1 _ _ refl (fine_bind g claim {d = 1} _ _ _ _ (parts.values w of) (λ w' y wide fits. fine_bind g claim _ _ _ _ (parts.values w' at) (λ w'' i wide' ifits. deletes_item_fine g claim program operations counts w'' y.0 i.0) refl) refl)
      does_by_fine w node (StmtKind-F.Assign targets is_tuple annotation e) = up g claim 1 _ _ refl (fine_bind g claim _ _ _ _ (parts.values w e) (λ w' x wide fits. stores_to_fine w' is_tuple targets x.0 fits) refl)
      does_by_fine w node (StmtKind-F.Augment target op e) = augments_target_fine w target op e
      does_by_fine w node (StmtKind-F.Bare e) = up g claim 0 _ _ refl (fine_bind g claim _ _ _ _ (parts.values w e) (λ w' _ wide _. passes_fine g claim program operations counts w') refl)
      does_by_fine w node (StmtKind-F.If arms other) = up g claim 0 _ _ refl (branches_fine w arms other)
      does_by_fine w node (StmtKind-F.While test body) = loops w test body
      does_by_fine w node (StmtKind-F.For names is_tuple e body) = fine_bind g claim _ _ _ _ (parts.values w e) (λ w' x wide fits. walks w' node names is_tuple body x.0 fits) refl
      does_by_fine w node (StmtKind-F.Try body clauses other last) = up g claim 0 _ _ refl (tries_fine w body clauses other last)
