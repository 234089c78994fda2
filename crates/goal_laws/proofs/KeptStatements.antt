-- Assignments, loops, exceptions and statements keep the rule where their parts do.
use Rattle.std.proofs.Common.{Bool, Err, List, None, Ok, Option, Some, [], false, length, map, subst, suc, true, zero, ℕ, ◌++◌, ◌+◌, ◌∷◌}
use Rattle.std.specs.List.{AllByRecursion, flat_map}
use Rattle.std.specs.Option.{option_to_list}
use Rattle.std.specs.Prelude.{if◌then◌else◌}
use Rattle.pyn_base.specs.declared.class.BuiltClass.TheVariants.{AssertionError, TypeError}
use Rattle.pyn_base.specs.declared.class.ClassId.{ClassId}
use Rattle.pyn_base.specs.declared.class.ClassId.TheVariants.{Built}
use Rattle.pyn_base.specs.declared.ids.FuncId.{FuncId}
use Rattle.pyn_base.specs.declared.ids.NodeId.{NodeId}
use Rattle.pyn_base.specs.declared.ids.ObjId.{ObjId}
use Rattle.py_syntax.specs.declared.expr.Expr.{Expr}
use Rattle.py_syntax.specs.declared.operator.BinOp.{BinOp}
use Rattle.py_syntax.specs.declared.stmt.Clause.{Clause, out-Clause}
use Rattle.py_syntax.specs.declared.stmt.Stmt.{Stmt}
use Rattle.py_syntax.specs.declared.stmt.StmtKind.{StmtKind, StmtKind-F}
use Rattle.py_syntax.specs.declared.stmt.Target.{Target}
use Rattle.py_syntax.specs.declared.stmt.Target.TheVariants as target
use Rattle.py_meaning.specs.Operations.{kind_of}
use Rattle.py_meaning.specs.Tuples.{measured}
use Rattle.py_meaning.specs.Walk.{gives_new_tuples}
use Rattle.py_meaning.specs.Worlds.{object_at}
use Rattle.py_meaning.specs.declared.object.ObjKind.{ObjKind}
use Rattle.py_meaning.specs.declared.object.ObjKind.TheVariants as kind
use Rattle.py_meaning.specs.declared.value.Value.{Value, Value-F, out-Value}
use Rattle.py_plain.specs.Assignments.{augments_attribute, augments_item, augments_target, stores, stores_all, stores_to}
use Rattle.py_plain.specs.Calls.{block}
use Rattle.py_plain.specs.Classes.{class_of_object, is_exception}
use Rattle.py_plain.specs.Exceptions.{after_body, fails, fails_with, finally, handles, is_final, matched, maybe_block, raise, raises_class, raises_instance, raises_value, runs_clause, tries, tries_clauses}
use Rattle.py_plain.specs.Loops.{after_turn, element_at, for_element, for_turn, for_turns, for_value, for_walk, is_walked, walk_from_start, while_loop, while_turns}
use Rattle.py_plain.specs.Nodes.{body_of_clause}
use Rattle.py_plain.specs.Runs.{Finding, Outcome, after_end, decides, nothing, ◌>>◌}
use Rattle.py_plain.specs.Statements.{branches, does_by}
use Rattle.py_plain.specs.Tests.{Trail, recorder}
use Rattle.py_plain.specs.declared.judged.Judged.TheVariants as j
use Rattle.py_plain.specs.declared.run.Abrupt.TheVariants.{Broke, Continued, Raised, Returned}
use Rattle.py_plain.specs.declared.run.Walk.{Walk}
use Rattle.py_sites.specs.Nodes.{Node, block_or_none, clause, expression, statement, stmt_parts, target_parts}
use Rattle.goal_model.specs.Folds.{by_clause}
use Rattle.goal_model.specs.Laws.{parts_of_kind}
use Rattle.goal_model.specs.Points.{Points, arms, block as block_points, maybe_block as maybe_block_points, points, points_by, points_in_clause}
use Rattle.goal_model.specs.declared.kind.GoalKind.{GoalKind}
use Rattle.goal_model.specs.declared.kind.GoalKind.TheVariants.{Branch}
use Rattle.goal_model.specs.declared.point.Point.{Point}
use Rattle.goal_model.specs.declared.point.Point.TheVariants.{Decision}
use Rattle.goal_laws.proofs.Blocks.{Arm, arm_nodes, arm_parts, maybe_parts}
use Rattle.goal_laws.proofs.Held.{Bodies, Fits, Held, HeldExpr, HeldStmt, Parts, Placed, PlacedClause, block_placed, held_clause, held_parts}
use Rattle.goal_laws.proofs.Kept.{Does, Kept, Quiet, always, kept_after, kept_begins, kept_bind, kept_decides, kept_if, kept_then, later, quiet, quiet_bind, quiet_if, quiet_makes, quiet_pure, quiet_raises, quiet_stop, quiet_takes}
use Rattle.goal_laws.proofs.KeptCalls.{block_kept, chooses_kept, instantiates_kept}
use Rattle.goal_laws.proofs.Lists.{all_back, all_flat, all_front, all_mapped}
use Rattle.goal_laws.proofs.QuietParts.{after_clause_quiet, binds_as_quiet, binds_names_quiet, checks_quiet, ends_quiet, enters_clause_quiet, kept_quiet, makes_element_quiet, raises_object_quiet, reraises_quiet, unpacks_quiet, within_depth_quiet}
use Rattle.goal_laws.proofs.QuietValues.{augments_quiet, binds_quiet, deletes_item_quiet, finds_quiet, gets_item_quiet, read_found_quiet, reads_quiet, sets_attribute_quiet, sets_item_quiet}
use Rattle.goal_laws.proofs.Trails.{Grows, Reaches, Rule, grows_both, grows_itself, reaches_grows}

module _ (r : Rule) (bodies : Bodies r) (value : Expr → Does Finding) (does : Stmt → Does Finding) (parts : Parts r value does) (f : Option FuncId) where
  abbrev Keeps : {A : Type 0} → Does A → Type 0
  Keeps p = Kept r f [] p

  -- ---- assignments

  abbrev TargetHeld : Target → Type 0
  TargetHeld target = AllByRecursion (Held r f) (target_parts expression target)

  stores_kept : (t : Target) (x : Value) → TargetHeld t → Keeps (stores r.program value t x)
  stores_kept (target.Name name) x h = quiet r _ (binds_quiet r.program name x)
  stores_kept (target.Attr of name) x h = kept_then r _ _ (parts.values f of h.0) (λ y. quiet r _ (sets_attribute_quiet r.program y.0 name x))
  stores_kept (target.Index of at) x h = kept_then r _ _ (parts.values f of h.0) (λ y. kept_then r _ _ (parts.values f at h.1.0) (λ i. quiet r _ (sets_item_quiet r.program y.0 i.0 x)))

  stores_all_kept : (targets : List Target) (items : List Value) → AllByRecursion TargetHeld targets → Keeps (stores_all r.program value targets items)
  stores_all_kept [] items h = quiet r _ (quiet_pure nothing)
  stores_all_kept (t ∷ ts) [] h = quiet r _ (quiet_pure nothing)
  stores_all_kept (t ∷ ts) (x ∷ xs) h = kept_then r _ _ (stores_kept t x h.0) (λ _. stores_all_kept ts xs h.1)

  stores_to_kept : (is_tuple : Bool) (targets : List Target) (x : Value) → AllByRecursion TargetHeld targets → Keeps (stores_to r.program value is_tuple targets x)
  stores_to_kept true targets x h = kept_then r _ _ (quiet r _ (unpacks_quiet r.program (length targets) x)) (λ items. stores_all_kept targets items h)
  stores_to_kept false targets x h = stores_all_kept targets (x ∷ []) h

  augments_attribute_kept : (of : Value) (name : List ℕ) (op : BinOp) (e : Expr) → HeldExpr r f e → Keeps (augments_attribute r.program value of name op e)
  augments_attribute_kept of name op e h = kept_then r _ _ (quiet r _ (finds_quiet r.program of name)) (λ found. kept_then r _ _ (quiet r _ (read_found_quiet r.program found)) (λ old. kept_then r _ _ (parts.values f e h)
      (λ x. quiet r _ (quiet_bind _ _ (augments_quiet r.program op old.0 x.0) (λ new. sets_attribute_quiet r.program of name new.0)))))

  augments_item_kept : (of at : Value) (op : BinOp) (e : Expr) → HeldExpr r f e → Keeps (augments_item r.program value of at op e)
  augments_item_kept of at op e h = kept_then r _ _ (quiet r _ (gets_item_quiet r.program of at)) (λ old. kept_then r _ _ (parts.values f e h)
      (λ x. quiet r _ (quiet_bind _ _ (augments_quiet r.program op old.0 x.0) (λ new. sets_item_quiet r.program of at new.0))))

  augments_target_kept : (t : Target) (op : BinOp) (e : Expr) → TargetHeld t → HeldExpr r f e → Keeps (augments_target r.program value t op e)
  augments_target_kept (target.Name name) op e h k = kept_then r _ _ (quiet r _ (reads_quiet r.program name)) (λ old. kept_then r _ _ (parts.values f e k)
      (λ x. quiet r _ (quiet_bind _ _ (augments_quiet r.program op old.0 x.0) (λ new. binds_quiet r.program name new.0))))
  augments_target_kept (target.Attr of name) op e h k = kept_then r _ _ (parts.values f of h.0) (λ y. augments_attribute_kept y.0 name op e k)
  augments_target_kept (target.Index of at) op e h k = kept_then r _ _ (parts.values f of h.0) (λ y. kept_then r _ _ (parts.values f at h.1.0) (λ i. augments_item_kept y.0 i.0 op e k))

  -- ---- loops

  after_turn_kept : (t : Trail) (again : Does Finding) (end : Outcome Finding) → Kept r f t again → Kept r f t (after_turn again end)
  after_turn_kept t again (Ok x) h = h
  after_turn_kept t again (Err Continued) h = h
  after_turn_kept t again (Err Broke) h = quiet r _ (quiet_pure nothing)
  after_turn_kept t again (Err why) h = quiet r _ (quiet_stop why)

  -- a turn's block, and what is done again after it
  turn_kept : (t : Trail) (governor : GoalKind) (body : List Stmt) (again : Does Finding) → AllByRecursion (HeldStmt r f) body → AllByRecursion (Placed r f governor) body → Reaches r f t governor → Kept r f t again
      → Kept r f t (after_end (block recorder r.program does body) (after_turn again))
  turn_kept t governor body again h p reach k = kept_after r _ _ (block_kept r bodies value does parts f t governor body h p reach) (λ u grown end. after_turn_kept u again end (later r u again grown k))

  module _ (t : Trail) (line : ℕ) (governor : GoalKind) (test : Expr) (body : List Stmt) (held : HeldExpr r f test) (h : AllByRecursion (HeldStmt r f) body)
      (fits : Fits r f (Decision test.node line governor)) (p : AllByRecursion (Placed r f (Branch test.node true)) body) (reach : Reaches r f t governor) where
    while_turns_kept : (n : ℕ) → Kept r f t (while_turns recorder r.program value does n test body)
    while_turns_kept zero = quiet r _ (quiet_stop _)
    while_turns_kept (suc n) = chooses_kept r bodies value does parts f t line governor test _ _ held fits reach
        (λ u grown came. turn_kept u (Branch test.node true) body _ h p came (later r u _ grown (while_turns_kept n))) (λ u grown came. quiet r _ (quiet_pure nothing))

    while_loop_kept : Kept r f t (while_loop recorder r.program value does test body)
    while_loop_kept = record { at = λ s e o grown. (while_turns_kept s.left).at s e o grown }

  module _ (t : Trail) (node : NodeId) (line : ℕ) (governor : GoalKind) (names : List (List ℕ)) (is_tuple : Bool) (body : List Stmt) (h : AllByRecursion (HeldStmt r f) body)
      (fits : Fits r f (Decision node line governor)) (p : AllByRecursion (Placed r f (Branch node true)) body) (reach : Reaches r f t governor) where
    told_kept : (u : Trail) → Grows t u → (outcome : Bool) (next : Does Finding) → ((w : Trail) → Grows u w → Reaches r f w (Branch node outcome) → Kept r f w next) → Kept r f u (decides recorder node (j.Plain outcome) outcome >> next)
    told_kept u grown outcome next k = kept_decides r node (j.Plain outcome) outcome (λ _. next) (λ w more. fits w (reaches_grows r f t w governor (grows_both t u w grown more) reach) (j.Plain outcome) outcome) k

    for_element_kept : (again : Walk → Does Finding) (walk : Walk) (element : Option Value) → ((next : Walk) → Kept r f t (again next)) → Kept r f t (for_element recorder r.program value does node again names is_tuple body walk element)
    for_element_kept again walk None k = told_kept t (grows_itself t) false _ (λ u grown came. quiet r _ (quiet_pure nothing))
    for_element_kept again walk (Some x) k =
        let next : Walk = record walk { at = walk.at + 1 } in
        kept_bind r _ _ (quiet r _ (quiet_takes 1)) (λ u grown _. kept_bind r _ _ (quiet r _ (makes_element_quiet r.program (gives_new_tuples (out-Value walk.of)) x))
        (λ w more _. told_kept w (grows_both t u w grown more) true _ (λ y again' came. kept_bind r _ _ (quiet r _ (binds_names_quiet r.program is_tuple names x))
        (λ z last _. let whole = grows_both t w z (grows_both t u w grown more) (grows_both w y z again' last) in
        turn_kept z (Branch node true) body (again next) h p (reaches_grows r f y z (Branch node true) last came) (later r z (again next) whole (k next))))))

    for_turn_kept : (again : Walk → Does Finding) (walk : Walk) → ((next : Walk) → Kept r f t (again next)) → Kept r f t (for_turn recorder r.program value does node again names is_tuple body walk)
    for_turn_kept again walk k = kept_bind r _ _ (quiet r _ (checks_quiet r.program walk)) (λ u grown _. later r u _ grown (record {
      at = λ s e o more. (for_element_kept again walk (element_at s.objects (out-Value walk.of) walk.at) k).at s e o more;
    }))

    for_turns_kept : (n : ℕ) (walk : Walk) → Kept r f t (for_turns recorder r.program value does n node names is_tuple body walk)
    for_turns_kept zero walk = quiet r _ (quiet_stop _)
    for_turns_kept (suc n) walk = for_turn_kept _ walk (for_turns_kept n)

    for_walk_kept : (walk : Walk) → Kept r f t (for_walk recorder r.program value does node names is_tuple body walk)
    for_walk_kept walk = record { at = λ s e o grown. (for_turns_kept (suc s.left) walk).at s e o grown }

    for_value_kept : (x : Value) → Kept r f t (for_value recorder r.program value does node names is_tuple body x)
    for_value_kept x = record { at = λ s e o grown. (kept_if r (is_walked s.objects (out-Value x)) _ _ (for_walk_kept (walk_from_start s.objects x)) (quiet r _ (quiet_raises TypeError))).at s e o grown }

  -- ---- exceptions

  raises_class_kept : (class : ClassId) → Keeps (raises_class recorder r.program value does class)
  raises_class_kept class = kept_if r (is_exception r.program class) _ _ (kept_then r _ _ (instantiates_kept r bodies value does parts f class [] []) (λ x. quiet r _ (raises_object_quiet r.program (out-Value x.0)))) (quiet r _ (quiet_raises _))

  raises_instance_quiet : (id : ObjId) (kind : ObjKind) → Quiet (raises_instance recorder r.program value does id kind)
  raises_instance_quiet id (kind.Instance class) = quiet_if (is_exception r.program class) _ _ (quiet_stop _) (quiet_raises _)
  raises_instance_quiet id kind.List = quiet_raises _
  raises_instance_quiet id kind.Dict = quiet_raises _

  raises_value_kept : (view : Value-F Value) → Keeps (raises_value recorder r.program value does view)
  raises_value_kept (Value-F.Class class) = raises_class_kept class
  raises_value_kept (Value-F.Ref id) = quiet r _ (record { still = λ s. (raises_instance_quiet id (kind_of (object_at s.objects id))).still s })
  raises_value_kept _ = quiet r _ (quiet_raises _)

  raise_kept : (e : Option Expr) → AllByRecursion (Held r f) (map expression (option_to_list e)) → Keeps (raise recorder r.program value does e)
  raise_kept None h = quiet r _ (reraises_quiet r.program)
  raise_kept (Some e) h = kept_then r _ _ (parts.values f e h.0) (λ x. raises_value_kept (out-Value x.0))

  fails_quiet : (args : List Value) → Quiet (fails recorder r.program value does args)
  fails_quiet args = within_depth_quiet r.program args _ (quiet_bind _ _ (quiet_makes (Built AssertionError) (Some (measured args))) (λ id. quiet_stop (Raised id)))

  fails_with_kept : (message : Option Expr) → AllByRecursion (Held r f) (map expression (option_to_list message)) → Keeps (fails_with recorder r.program value does message)
  fails_with_kept None h = quiet r _ (fails_quiet [])
  fails_with_kept (Some e) h = kept_then r _ _ (parts.values f e h.0) (λ x. quiet r _ (fails_quiet (x.0 ∷ [])))

  -- ---- blocks, with what they have

  abbrev AllFit : List Point → Type 0
  AllFit all = AllByRecursion (Fits r f) all

  abbrev AllIn : List Node → Type 0
  AllIn all = AllByRecursion (Held r f) all

  bodies_held : (body : List Stmt) → AllIn (map statement body) → AllByRecursion (HeldStmt r f) body
  bodies_held body h = all_mapped (Held r f) statement body h

  clauses_placed : (governor : GoalKind) (clauses : List Clause) → AllFit (block_points (map points_in_clause clauses) governor) → AllByRecursion (PlacedClause r f governor) clauses
  clauses_placed governor clauses h = all_mapped (λ (part : Points). AllFit (part governor)) points_in_clause clauses (all_flat (Fits r f) (λ (part : Points). part governor) (map points_in_clause clauses) h)

  a_block : (t : Trail) (governor : GoalKind) (body : List Stmt) → AllIn (map statement body) → AllFit (block_points (map points body) governor) → Reaches r f t governor → Kept r f t (block recorder r.program does body)
  a_block t governor body h p reach = block_kept r bodies value does parts f t governor body (bodies_held body h) (block_placed r f governor body p) reach

  maybe_block_kept : (t : Trail) (governor : GoalKind) (body : Option (List Stmt)) → AllIn (block_or_none statement body) → AllFit (maybe_block_points (maybe_parts body) governor) → Reaches r f t governor → Kept r f t (maybe_block recorder r.program value does body)
  maybe_block_kept t governor None h p reach = quiet r _ (quiet_pure nothing)
  maybe_block_kept t governor (Some body) h p reach = a_block t governor body h p reach

  -- ---- `if`

  branches_kept : (t : Trail) (governor : GoalKind) (all : List Arm) (other : Option (List Stmt)) → AllIn (flat_map arm_nodes all) → AllIn (block_or_none statement other)
      → AllFit (arms (map arm_parts all) (maybe_parts other) governor) → Reaches r f t governor → Kept r f t (branches recorder r.program value does all other)
  branches_kept t governor [] other h k p reach = maybe_block_kept t governor other k p reach
  branches_kept t governor (arm ∷ more) other h k p reach =
      let node = arm.0.node in
      let inner = block_points (map points arm.1) (Branch node true) in
      let rest = arms (map arm_parts more) (maybe_parts other) (Branch node false) in
      chooses_kept r bodies value does parts f t arm.0.line governor arm.0 _ _ h.0 p.0 reach
      (λ u grown came. a_block u (Branch node true) arm.1 (all_front (Held r f) (map statement arm.1) (flat_map arm_nodes more) h.1) (all_front (Fits r f) inner rest p.1) came)
      (λ u grown came. branches_kept u (Branch node false) more other (all_back (Held r f) (map statement arm.1) (flat_map arm_nodes more) h.1) k (all_back (Fits r f) inner rest p.1) came)

  -- ---- `try`

  abbrev ClauseOk : GoalKind → Clause → Type 0
  ClauseOk governor c = Held r f (clause c) × PlacedClause r f governor c

  runs_clause_kept : (t : Trail) (c : Clause) (id : ObjId) → AllIn (map statement (out-Clause c).body) → AllFit (block_points (map points (out-Clause c).body) (Branch (out-Clause c).node true)) → Reaches r f t (Branch (out-Clause c).node true)
      → Kept r f t (runs_clause recorder r.program value does c id)
  runs_clause_kept t c id h p reach =
      let governor = Branch (out-Clause c).node true in
      kept_bind r _ _ (quiet r _ (binds_as_quiet r.program (out-Clause c).name id)) (λ u grown _. kept_bind r _ _ (quiet r _ (enters_clause_quiet r.program id))
      (λ w more _. kept_after r _ _ (a_block w governor (body_of_clause c) h p (reaches_grows r f t w governor (grows_both t u w grown more) reach))
      (λ y last end. quiet r _ (after_clause_quiet r.program (out-Clause c).name end))))

  clause_placed : (governor : GoalKind) (c : Clause) → PlacedClause r f governor c
      → Fits r f (Decision (out-Clause c).node (out-Clause c).line governor) × AllFit (block_points (map points (out-Clause c).body) (Branch (out-Clause c).node true))
  clause_placed governor c p = let h = subst AllFit (by_clause c governor) p in (h.0, h.1)

  matched_kept : (t : Trail) (governor : GoalKind) (c : Clause) (id : ObjId) (others : Does Finding) (outcome : Bool) → ClauseOk governor c → Reaches r f t governor → Kept r f t others → Kept r f t (matched recorder r.program value does c id others outcome)
  matched_kept t governor c id others outcome ok reach k =
      let placed = clause_placed governor c ok.1 in
      kept_decides r (out-Clause c).node (j.Plain outcome) outcome (λ _. if outcome then runs_clause recorder r.program value does c id else others)
      (λ u grown. placed.0 u (reaches_grows r f t u governor grown reach) (j.Plain outcome) outcome) (chosen outcome placed.1)
    where
      chosen : (outcome : Bool) → AllFit (block_points (map points (out-Clause c).body) (Branch (out-Clause c).node true)) → (u : Trail) → Grows t u → Reaches r f u (Branch (out-Clause c).node outcome)
          → Kept r f u (if outcome then runs_clause recorder r.program value does c id else others)
      chosen true p u grown came = runs_clause_kept u c id (held_parts r f (clause c) ok.0) p came
      chosen false p u grown came = later r u others grown k

  tries_clauses_kept : (t : Trail) (governor : GoalKind) (clauses : List Clause) (id : ObjId) → AllIn (map clause clauses) → AllByRecursion (PlacedClause r f governor) clauses → Reaches r f t governor
      → Kept r f t (tries_clauses recorder r.program value does clauses id)
  tries_clauses_kept t governor [] id h p reach = quiet r _ (quiet_stop _)
  tries_clauses_kept t governor (c ∷ more) id h p reach = kept_bind r _ _ (kept_begins r (out-Clause c).node (λ u grown. held_clause r f c h.0 u)) (λ u grown _. record {
    at = λ s e o further. (matched_kept u governor c id _ (handles r.program s.space (class_of_object (object_at s.objects id)) (out-Clause c).classes) (h.0, p.0) (reaches_grows r f t u governor grown reach)
        (later r u _ grown (tries_clauses_kept t governor more id h.1 p.1 reach))).at s e o further;
  })

  after_body_kept : (t : Trail) (governor : GoalKind) (clauses : List Clause) (other : Option (List Stmt)) → AllIn (map clause clauses) → AllByRecursion (PlacedClause r f governor) clauses
      → AllIn (block_or_none statement other) → AllFit (maybe_block_points (maybe_parts other) governor) → Reaches r f t governor → (end : Outcome Finding) → Kept r f t (after_body recorder r.program value does clauses other end)
  after_body_kept t governor clauses other h p k q reach (Ok x) = maybe_block_kept t governor other k q reach
  after_body_kept t governor clauses other h p k q reach (Err (Raised id)) = tries_clauses_kept t governor clauses id h p reach
  after_body_kept t governor clauses other h p k q reach (Err why) = quiet r _ (quiet_stop why)

  finally_kept : (t : Trail) (governor : GoalKind) (last : Option (List Stmt)) (before : Outcome Finding) → AllIn (block_or_none statement last) → AllFit (maybe_block_points (maybe_parts last) governor) → Reaches r f t governor
      → Kept r f t (finally recorder r.program value does last before)
  finally_kept t governor None before h p reach = quiet r _ (ends_quiet r.program before)
  finally_kept t governor (Some body) before h p reach = kept_if r (is_final before) _ _ (quiet r _ (ends_quiet r.program before))
      (kept_after r _ _ (a_block t governor body h p reach) (λ u grown end. quiet r _ (kept_quiet r.program before end)))

  tries_kept : (t : Trail) (governor : GoalKind) (body : List Stmt) (clauses : List Clause) (other last : Option (List Stmt))
      → AllIn (map statement body ++ map clause clauses ++ block_or_none statement other ++ block_or_none statement last)
      → AllFit (block_points (map points body) governor ++ block_points (map points_in_clause clauses) governor ++ maybe_block_points (maybe_parts other) governor ++ maybe_block_points (maybe_parts last) governor)
      → Reaches r f t governor → Kept r f t (tries recorder r.program value does body clauses other last)
  tries_kept t governor body clauses other last h p reach =
      let b = map statement body in let c = map clause clauses in let o = block_or_none statement other in let l = block_or_none statement last in
      let b' = block_points (map points body) governor in let c' = block_points (map points_in_clause clauses) governor in
      let o' = maybe_block_points (maybe_parts other) governor in let l' = maybe_block_points (maybe_parts last) governor in
      let h3 = all_front (Held r f) (b ++ c ++ o) l h in let h2 = all_front (Held r f) (b ++ c) o h3 in
      let p3 = all_front (Fits r f) (b' ++ c' ++ o') l' p in let p2 = all_front (Fits r f) (b' ++ c') o' p3 in
      kept_after r _ _ (kept_after r _ _ (a_block t governor body (all_front (Held r f) b c h2) (all_front (Fits r f) b' c' p2) reach)
      (λ u grown end. after_body_kept u governor clauses other (all_back (Held r f) b c h2) (clauses_placed governor clauses (all_back (Fits r f) b' c' p2))
      (all_back (Held r f) (b ++ c) o h3) (all_back (Fits r f) (b' ++ c') o' p3) (reaches_grows r f t u governor grown reach) end))
      (λ u grown end. finally_kept u governor last end (all_back (Held r f) (b ++ c ++ o) l h) (all_back (Fits r f) (b' ++ c' ++ o') l' p) (reaches_grows r f t u governor grown reach))

  -- ---- statements

  pub does_by_kept : (t : Trail) (governor : GoalKind) (node : NodeId) (line : ℕ) (kind : StmtKind-F StmtKind Clause Stmt) → AllIn (stmt_parts expression statement clause kind)
      → AllFit (points_by (parts_of_kind kind) node line governor) → Reaches r f t governor → Kept r f t (does_by recorder r.program value does node kind)
  does_by_kept t governor node line StmtKind-F.Pass h p reach = quiet r _ (quiet_pure nothing)
  does_by_kept t governor node line StmtKind-F.Break h p reach = quiet r _ (quiet_stop _)
  does_by_kept t governor node line StmtKind-F.Continue h p reach = quiet r _ (quiet_stop _)
  does_by_kept t governor node line (StmtKind-F.Return None) h p reach = quiet r _ (quiet_stop _)
  does_by_kept t governor node line (StmtKind-F.Return (Some e)) h p reach = always r _ (kept_then r _ _ (parts.values f e h.0) (λ x. quiet r _ (quiet_stop (Returned x.0))))
  does_by_kept t governor node line (StmtKind-F.Raise e) h p reach = always r _ (raise_kept e h)
  does_by_kept t governor node line (StmtKind-F.Assert test message) h p reach = chooses_kept r bodies value does parts f t test.line governor test _ _ h.0 p.0 reach
      (λ u grown came. quiet r _ (quiet_pure nothing)) (λ u grown came. always r _ (fails_with_kept message h.1))
  does_by_kept t governor node line (StmtKind-F.Del of at) h p reach = always r _ (kept_then r _ _ (parts.values f of h.0) (λ y. kept_then r _ _ (parts.values f at h.1.0) (λ i. quiet r _ (deletes_item_quiet r.program y.0 i.0))))
  does_by_kept t governor node line (StmtKind-F.Assign targets is_tuple annotation e) h p reach =
      let front = all_front (Held r f) (flat_map (target_parts expression) targets) (expression e ∷ []) h in
      let back = all_back (Held r f) (flat_map (target_parts expression) targets) (expression e ∷ []) h in
      always r _ (kept_then r _ _ (parts.values f e back.0) (λ x. stores_to_kept is_tuple targets x.0 (all_flat (Held r f) (target_parts expression) targets front)))
  does_by_kept t governor node line (StmtKind-F.Augment target op e) h p reach =
      always r _ (augments_target_kept target op e (all_front (Held r f) (target_parts expression target) (expression e ∷ []) h) (all_back (Held r f) (target_parts expression target) (expression e ∷ []) h).0)
  does_by_kept t governor node line (StmtKind-F.Bare e) h p reach = always r _ (kept_then r _ _ (parts.values f e h.0) (λ x. quiet r _ (quiet_pure nothing)))
  does_by_kept t governor node line (StmtKind-F.If all None) h p reach =
      branches_kept t governor all None (all_front (Held r f) (flat_map arm_nodes all) [] h) tt p reach
  does_by_kept t governor node line (StmtKind-F.If all (Some other)) h p reach =
      branches_kept t governor all (Some other) (all_front (Held r f) (flat_map arm_nodes all) (map statement other) h) (all_back (Held r f) (flat_map arm_nodes all) (map statement other) h) p reach
  does_by_kept t governor node line (StmtKind-F.While test body) h p reach =
      while_loop_kept t test.line governor test body h.0 (bodies_held body h.1) p.0 (block_placed r f (Branch test.node true) body p.1) reach
  does_by_kept t governor node line (StmtKind-F.For names is_tuple e body) h p reach = kept_bind r _ _ (always r _ (parts.values f e h.0))
      (λ u grown x. for_value_kept u node line governor names is_tuple body (bodies_held body h.1) p.0 (block_placed r f (Branch node true) body p.1) (reaches_grows r f t u governor grown reach) x.0)
  does_by_kept t governor node line (StmtKind-F.Try body clauses None None) h p reach = tries_kept t governor body clauses None None h p reach
  does_by_kept t governor node line (StmtKind-F.Try body clauses None (Some last)) h p reach = tries_kept t governor body clauses None (Some last) h p reach
  does_by_kept t governor node line (StmtKind-F.Try body clauses (Some other) None) h p reach = tries_kept t governor body clauses (Some other) None h p reach
  does_by_kept t governor node line (StmtKind-F.Try body clauses (Some other) (Some last)) h p reach = tries_kept t governor body clauses (Some other) (Some last) h p reach
