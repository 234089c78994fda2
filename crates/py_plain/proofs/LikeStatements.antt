-- Assignments, loops, exceptions and all statements do the same for both watchers, and gain no steps.
use Rattle.std.proofs.Common.{ℕ, zero, suc, ◌+◌, Bool, true, false, List, [], ◌∷◌, refl, arith, Option, Some, None, Ok, Err, length}
use Rattle.std.specs.Prelude.{if◌then◌else◌, ◌==◌}
use Rattle.pyn_base.specs.declared.class.BuiltClass.TheVariants.{AssertionError, TypeError}
use Rattle.pyn_base.specs.declared.class.ClassId.{ClassId}
use Rattle.pyn_base.specs.declared.class.ClassId.TheVariants.{Built}
use Rattle.pyn_base.specs.declared.ids.NodeId.{NodeId}
use Rattle.pyn_base.specs.declared.ids.ObjId.{ObjId}
use Rattle.py_syntax.specs.declared.expr.Expr.{Expr}
use Rattle.py_syntax.specs.declared.operator.BinOp.{BinOp}
use Rattle.py_syntax.specs.declared.stmt.Clause.{Clause, out-Clause}
use Rattle.py_syntax.specs.declared.stmt.Stmt.{Stmt}
use Rattle.py_syntax.specs.declared.stmt.StmtKind.{StmtKind, StmtKind-F}
use Rattle.py_syntax.specs.declared.stmt.Target.{Target}
use Rattle.py_syntax.specs.declared.stmt.Target.TheVariants as target
use Rattle.py_meaning.specs.declared.object.ObjKind.{ObjKind}
use Rattle.py_meaning.specs.declared.object.ObjKind.TheVariants as kind
use Rattle.py_meaning.specs.Tuples.{measured}
use Rattle.py_meaning.specs.declared.value.Value.{Value, Value-F, out-Value}
use Rattle.py_meaning.specs.declared.value.Value.TheVariants as v
use Rattle.py_meaning.specs.Operations.{kind_of}
use Rattle.py_meaning.specs.Walk.{gives_new_tuples, shallow}
use Rattle.py_meaning.specs.Worlds.{object_at}
use Rattle.py_plain.specs.declared.judged.Judged.TheVariants as j
use Rattle.py_plain.specs.declared.run.Abrupt.TheVariants.{Raised, Returned, Broke, Continued}
use Rattle.py_plain.specs.declared.run.Walk.{Walk}
use Rattle.py_plain.specs.Assignments.{stores, stores_all, stores_to, augments_attribute, augments_item, augments_target}
use Rattle.py_plain.specs.Classes.{class_of_object, is_exception}
use Rattle.py_plain.specs.Exceptions.{raises_object, raises_last, last_of, reraises, handles, binds_as, unbinds_as, enters_clause, leaves_clause, after_clause, is_final, kept, raises_class, raises_instance, raises_value, raise, fails, fails_with, maybe_block, runs_clause, matched, tries_clauses, after_body, finally}
use Rattle.py_plain.specs.Loops.{after_turn, dict_walked, element_at, is_walked, size_at, changes_at, walk_from_start, unchanged, checks, makes_element, while_turn, while_turns, while_loop, for_element, for_turn, for_turns, for_walk, for_value}
use Rattle.py_plain.specs.Nodes.{body_of_clause}
use Rattle.py_plain.specs.Runs.{Outcome, Run, Finding, raises}
use Rattle.py_plain.specs.Statements.{branches, does_by}
use Rattle.py_plain.proofs.Like.{Like, like_bind, like_after, like_act, like_pure, like_stop, like_if, like_passes, like_raises, like_takes}
use Rattle.py_plain.proofs.LikeCalls.{within_depth_like, makes_instance_like, unpacks_like, binds_names_like, block_like, instantiates_like, chooses_like}
use Rattle.py_plain.proofs.LikeValues.{Sides, Parts, begins_like, decides_like, reads_like, binds_like, unbinds_like, finds_like, read_found_like, sets_attribute_like, augments_like, gets_item_like, sets_item_like, deletes_item_like}

module _ {W W' : Type 0} (sides : Sides W W') (k : ℕ) where
  -- ---- what needs no part

  pub after_turn_like : (p : Run W Finding) (q : Run W' Finding) → Like sides.keep k p q → (end : Outcome Finding) → Like sides.keep k (after_turn p end) (after_turn q end)
  after_turn_like p q h (Ok x) = h
  after_turn_like p q h (Err Continued) = h
  after_turn_like p q h (Err Broke) = like_passes sides.keep k
  after_turn_like p q h (Err why) = like_stop sides.keep k why

  unchanged_like : (walk : Walk) (size changes : ℕ) → Like sides.keep k (unchanged walk size changes) (unchanged walk size changes)
  unchanged_like walk size changes = like_if sides.keep k (size == walk.size) _ _ _ _ (like_if sides.keep k (changes == walk.changes) _ _ _ _ (like_pure sides.keep k tt) (like_stop sides.keep k _)) (like_raises sides.keep k _)

  pub checks_like : (walk : Walk) → Like sides.keep k (checks walk) (checks walk)
  checks_like walk = record {
    agree = λ s le. (unchanged_like walk (size_at s.objects (dict_walked s.objects (out-Value walk.of))) (changes_at s.objects (dict_walked s.objects (out-Value walk.of)))).agree s le;
    spends = λ s. (unchanged_like walk (size_at s.objects (dict_walked s.objects (out-Value walk.of))) (changes_at s.objects (dict_walked s.objects (out-Value walk.of)))).spends s;
  }

  pub makes_element_like : (made : Bool) (x : Value) → Like sides.keep k (makes_element made x) (makes_element made x)
  makes_element_like made x = like_if sides.keep k made _ _ _ _ (like_if sides.keep k (shallow (x ∷ [])) _ _ _ _ (like_pure sides.keep k tt) (like_stop sides.keep k _)) (like_pure sides.keep k tt)

  raises_object_like : (view : Value-F Value) → Like sides.keep k (raises_object view) (raises_object view)
  raises_object_like (Value-F.Ref id) = like_stop sides.keep k _
  raises_object_like _ = like_raises sides.keep k _

  raises_last_like : (id : Option ObjId) → Like sides.keep k (raises_last id) (raises_last id)
  raises_last_like None = like_stop sides.keep k _
  raises_last_like (Some id) = like_stop sides.keep k _

  reraises_like : Like sides.keep k (reraises {W = W}) (reraises {W = W'})
  reraises_like = record { agree = λ s le. (raises_last_like (last_of s.frame.handled)).agree s le; spends = λ s. (raises_last_like (last_of s.frame.handled)).spends s }

  binds_as_like : (name : Option (List ℕ)) (id : ObjId) → Like sides.keep k (binds_as name id) (binds_as name id)
  binds_as_like None id = like_passes sides.keep k
  binds_as_like (Some name) id = binds_like sides k name (v.Ref id)

  unbinds_as_like : (name : Option (List ℕ)) → Like sides.keep k (unbinds_as name) (unbinds_as name)
  unbinds_as_like None = like_passes sides.keep k
  unbinds_as_like (Some name) = unbinds_like sides k name

  leaves_clause_like : Like sides.keep k (leaves_clause {W = W}) (leaves_clause {W = W'})
  leaves_clause_like = like_act sides.keep k leaves_clause leaves_clause (λ s. refl) (λ s. omega arith)

  enters_clause_like : (id : ObjId) → Like sides.keep k (enters_clause {W = W} id) (enters_clause {W = W'} id)
  enters_clause_like id = like_act sides.keep k (enters_clause id) (enters_clause id) (λ s. refl) (λ s. omega arith)

  -- an end that is known
  ends_like : (end : Outcome Finding) → Like {W = W} {W' = W'} sides.keep k (λ s. (end, s)) (λ s. (end, s))
  ends_like end = record { agree = λ s le. refl; spends = λ s. omega arith }

  after_clause_like : (name : Option (List ℕ)) (end : Outcome Finding) → Like sides.keep k (after_clause name end) (after_clause name end)
  after_clause_like name end = like_bind sides.keep k _ _ _ _ leaves_clause_like (λ _. like_bind sides.keep k _ _ _ _ (unbinds_as_like name) (λ _. ends_like end))

  kept_like : (before end : Outcome Finding) → Like sides.keep k (kept before end) (kept before end)
  kept_like before (Ok x) = ends_like before
  kept_like before (Err why) = like_stop sides.keep k why

  module _ (parts : Parts sides k) where
    -- ---- assignments

    stores_like : (t : Target) (x : Value) → Like sides.keep k (stores sides.program parts.value t x) (stores sides.program parts.value' t x)
    stores_like (target.Name name) x = binds_like sides k name x
    stores_like (target.Attr of name) x = like_bind sides.keep k _ _ _ _ (parts.value_like of) (λ y. sets_attribute_like sides k y.0 name x)
    stores_like (target.Index of at) x = like_bind sides.keep k _ _ _ _ (parts.value_like of) (λ y. like_bind sides.keep k _ _ _ _ (parts.value_like at) (λ i. sets_item_like sides k y.0 i.0 x))

    stores_all_like : (targets : List Target) (items : List Value) → Like sides.keep k (stores_all sides.program parts.value targets items) (stores_all sides.program parts.value' targets items)
    stores_all_like [] items = like_passes sides.keep k
    stores_all_like (t ∷ ts) [] = like_passes sides.keep k
    stores_all_like (t ∷ ts) (x ∷ xs) = like_bind sides.keep k _ _ _ _ (stores_like t x) (λ _. stores_all_like ts xs)

    stores_to_like : (is_tuple : Bool) (targets : List Target) (x : Value) → Like sides.keep k (stores_to sides.program parts.value is_tuple targets x) (stores_to sides.program parts.value' is_tuple targets x)
    stores_to_like true targets x = like_bind sides.keep k _ _ _ _ (unpacks_like sides k (length targets) x) (stores_all_like targets)
    stores_to_like false targets x = stores_all_like targets (x ∷ [])

    augments_attribute_like : (of : Value) (name : List ℕ) (op : BinOp) (e : Expr) → Like sides.keep k (augments_attribute sides.program parts.value of name op e) (augments_attribute sides.program parts.value' of name op e)
    augments_attribute_like of name op e = like_bind sides.keep k _ _ _ _ (finds_like sides k of name) (λ found. like_bind sides.keep k _ _ _ _ (read_found_like sides k found) (λ old. like_bind sides.keep k _ _ _ _ (parts.value_like e) (λ x. like_bind sides.keep k _ _ _ _ (augments_like sides k op old.0 x.0) (λ new. sets_attribute_like sides k of name new.0))))

    augments_item_like : (of at : Value) (op : BinOp) (e : Expr) → Like sides.keep k (augments_item sides.program parts.value of at op e) (augments_item sides.program parts.value' of at op e)
    augments_item_like of at op e = like_bind sides.keep k _ _ _ _ (gets_item_like sides k of at) (λ old. like_bind sides.keep k _ _ _ _ (parts.value_like e) (λ x. like_bind sides.keep k _ _ _ _ (augments_like sides k op old.0 x.0) (λ new. sets_item_like sides k of at new.0)))

    augments_target_like : (t : Target) (op : BinOp) (e : Expr) → Like sides.keep k (augments_target sides.program parts.value t op e) (augments_target sides.program parts.value' t op e)
    augments_target_like (target.Name name) op e = like_bind sides.keep k _ _ _ _ (reads_like sides k name) (λ old. like_bind sides.keep k _ _ _ _ (parts.value_like e) (λ x. like_bind sides.keep k _ _ _ _ (augments_like sides k op old.0 x.0) (λ new. binds_like sides k name new.0)))
    augments_target_like (target.Attr of name) op e = like_bind sides.keep k _ _ _ _ (parts.value_like of) (λ y. augments_attribute_like y.0 name op e)
    augments_target_like (target.Index of at) op e = like_bind sides.keep k _ _ _ _ (parts.value_like of) (λ y. like_bind sides.keep k _ _ _ _ (parts.value_like at) (λ i. augments_item_like y.0 i.0 op e))

    -- ---- loops

    pub while_turn_like : (p : Run W Finding) (q : Run W' Finding) (test : Expr) (body : List Stmt) → Like sides.keep k p q → Like sides.keep k (while_turn sides.watcher sides.program parts.value parts.does p test body) (while_turn sides.watcher' sides.program parts.value' parts.does' q test body)
    while_turn_like p q test body h = chooses_like sides k parts test _ _ _ _ (like_after sides.keep k _ _ (after_turn p) (after_turn q) (block_like sides k parts body) (after_turn_like p q h)) (like_passes sides.keep k)

    while_turns_like : (n : ℕ) (test : Expr) (body : List Stmt) → Like sides.keep k (while_turns sides.watcher sides.program parts.value parts.does n test body) (while_turns sides.watcher' sides.program parts.value' parts.does' n test body)
    while_turns_like zero test body = like_stop sides.keep k _
    while_turns_like (suc n) test body = while_turn_like _ _ test body (while_turns_like n test body)

    while_loop_like : (test : Expr) (body : List Stmt) → Like sides.keep k (while_loop sides.watcher sides.program parts.value parts.does test body) (while_loop sides.watcher' sides.program parts.value' parts.does' test body)
    while_loop_like test body = record { agree = λ s le. (while_turns_like s.left test body).agree s le; spends = λ s. (while_turns_like s.left test body).spends s }

    for_element_like : (node : NodeId) (again : Walk → Run W Finding) (again' : Walk → Run W' Finding) (names : List (List ℕ)) (is_tuple : Bool) (body : List Stmt) (walk : Walk) (element : Option Value) → ((next : Walk) → Like sides.keep k (again next) (again' next))
        → Like sides.keep k (for_element sides.watcher sides.program parts.value parts.does node again names is_tuple body walk element) (for_element sides.watcher' sides.program parts.value' parts.does' node again' names is_tuple body walk element)
    for_element_like node again again' names is_tuple body walk None h = like_bind sides.keep k _ _ _ _ (decides_like sides k node _ false) (λ _. like_passes sides.keep k)
    for_element_like node again again' names is_tuple body walk (Some x) h =
        let next : Walk = record walk { at = walk.at + 1 } in
        like_bind sides.keep k _ _ _ _ (like_takes sides.keep k 1) (λ _. like_bind sides.keep k _ _ _ _ (makes_element_like (gives_new_tuples (out-Value walk.of)) x)
        (λ _. like_bind sides.keep k _ _ _ _ (decides_like sides k node (j.Plain true) true) (λ _. like_bind sides.keep k _ _ _ _ (binds_names_like sides k is_tuple names x)
        (λ _. like_after sides.keep k _ _ (after_turn (again next)) (after_turn (again' next)) (block_like sides k parts body) (after_turn_like (again next) (again' next) (h next))))))

    pub for_turn_like : (node : NodeId) (again : Walk → Run W Finding) (again' : Walk → Run W' Finding) (names : List (List ℕ)) (is_tuple : Bool) (body : List Stmt) (walk : Walk) → ((next : Walk) → Like sides.keep k (again next) (again' next))
        → Like sides.keep k (for_turn sides.watcher sides.program parts.value parts.does node again names is_tuple body walk) (for_turn sides.watcher' sides.program parts.value' parts.does' node again' names is_tuple body walk)
    for_turn_like node again again' names is_tuple body walk h = like_bind sides.keep k _ _ _ _ (checks_like walk) (λ _. record {
      agree = λ s le. (for_element_like node again again' names is_tuple body walk (element_at s.objects (out-Value walk.of) walk.at) h).agree s le;
      spends = λ s. (for_element_like node again again' names is_tuple body walk (element_at s.objects (out-Value walk.of) walk.at) h).spends s;
    })

    pub for_turns_like : (n : ℕ) (node : NodeId) (names : List (List ℕ)) (is_tuple : Bool) (body : List Stmt) (walk : Walk) → Like sides.keep k (for_turns sides.watcher sides.program parts.value parts.does n node names is_tuple body walk) (for_turns sides.watcher' sides.program parts.value' parts.does' n node names is_tuple body walk)
    for_turns_like zero node names is_tuple body walk = like_stop sides.keep k _
    for_turns_like (suc n) node names is_tuple body walk = for_turn_like node _ _ names is_tuple body walk (λ next. for_turns_like n node names is_tuple body next)

    for_walk_like : (node : NodeId) (names : List (List ℕ)) (is_tuple : Bool) (body : List Stmt) (walk : Walk) → Like sides.keep k (for_walk sides.watcher sides.program parts.value parts.does node names is_tuple body walk) (for_walk sides.watcher' sides.program parts.value' parts.does' node names is_tuple body walk)
    for_walk_like node names is_tuple body walk = record { agree = λ s le. (for_turns_like (suc s.left) node names is_tuple body walk).agree s le; spends = λ s. (for_turns_like (suc s.left) node names is_tuple body walk).spends s }

    walks_like : (walks : Bool) (node : NodeId) (names : List (List ℕ)) (is_tuple : Bool) (body : List Stmt) (walk : Walk) → Like sides.keep k (if walks then for_walk sides.watcher sides.program parts.value parts.does node names is_tuple body walk else raises TypeError) (if walks then for_walk sides.watcher' sides.program parts.value' parts.does' node names is_tuple body walk else raises TypeError)
    walks_like walks node names is_tuple body walk = like_if sides.keep k walks _ _ _ _ (for_walk_like node names is_tuple body walk) (like_raises sides.keep k TypeError)

    for_value_like : (node : NodeId) (names : List (List ℕ)) (is_tuple : Bool) (body : List Stmt) (x : Value) → Like sides.keep k (for_value sides.watcher sides.program parts.value parts.does node names is_tuple body x) (for_value sides.watcher' sides.program parts.value' parts.does' node names is_tuple body x)
    for_value_like node names is_tuple body x = record {
      agree = λ s le. (walks_like (is_walked s.objects (out-Value x)) node names is_tuple body (walk_from_start s.objects x)).agree s le;
      spends = λ s. (walks_like (is_walked s.objects (out-Value x)) node names is_tuple body (walk_from_start s.objects x)).spends s;
    }

    -- ---- exceptions

    raises_class_like : (class : ClassId) → Like sides.keep k (raises_class sides.watcher sides.program parts.value parts.does class) (raises_class sides.watcher' sides.program parts.value' parts.does' class)
    raises_class_like class = like_if sides.keep k (is_exception sides.program class) _ _ _ _ (like_bind sides.keep k _ _ _ _ (instantiates_like sides k parts class [] []) (λ x. raises_object_like (out-Value x.0))) (like_raises sides.keep k _)

    raises_instance_like : (id : ObjId) (kind : ObjKind) → Like sides.keep k (raises_instance sides.watcher sides.program parts.value parts.does id kind) (raises_instance sides.watcher' sides.program parts.value' parts.does' id kind)
    raises_instance_like id (kind.Instance class) = like_if sides.keep k (is_exception sides.program class) _ _ _ _ (like_stop sides.keep k _) (like_raises sides.keep k _)
    raises_instance_like id _ = like_raises sides.keep k _

    raises_value_like : (view : Value-F Value) → Like sides.keep k (raises_value sides.watcher sides.program parts.value parts.does view) (raises_value sides.watcher' sides.program parts.value' parts.does' view)
    raises_value_like (Value-F.Class class) = raises_class_like class
    raises_value_like (Value-F.Ref id) = record {
      agree = λ s le. (raises_instance_like id (kind_of (object_at s.objects id))).agree s le;
      spends = λ s. (raises_instance_like id (kind_of (object_at s.objects id))).spends s;
    }
    raises_value_like _ = like_raises sides.keep k _

    raise_like : (e : Option Expr) → Like sides.keep k (raise sides.watcher sides.program parts.value parts.does e) (raise sides.watcher' sides.program parts.value' parts.does' e)
    raise_like None = reraises_like
    raise_like (Some e) = like_bind sides.keep k _ _ _ _ (parts.value_like e) (λ x. raises_value_like (out-Value x.0))

    fails_like : (args : List Value) → Like sides.keep k (fails sides.watcher sides.program parts.value parts.does args) (fails sides.watcher' sides.program parts.value' parts.does' args)
    fails_like args = within_depth_like sides k args _ _ (like_bind sides.keep k _ _ _ _ (makes_instance_like sides k (Built AssertionError) (Some (measured args))) (λ id. like_stop sides.keep k (Raised id)))

    fails_with_like : (message : Option Expr) → Like sides.keep k (fails_with sides.watcher sides.program parts.value parts.does message) (fails_with sides.watcher' sides.program parts.value' parts.does' message)
    fails_with_like None = fails_like []
    fails_with_like (Some e) = like_bind sides.keep k _ _ _ _ (parts.value_like e) (λ x. fails_like (x.0 ∷ []))

    maybe_block_like : (body : Option (List Stmt)) → Like sides.keep k (maybe_block sides.watcher sides.program parts.value parts.does body) (maybe_block sides.watcher' sides.program parts.value' parts.does' body)
    maybe_block_like None = like_passes sides.keep k
    maybe_block_like (Some body) = block_like sides k parts body

    runs_clause_like : (clause : Clause) (id : ObjId) → Like sides.keep k (runs_clause sides.watcher sides.program parts.value parts.does clause id) (runs_clause sides.watcher' sides.program parts.value' parts.does' clause id)
    runs_clause_like clause id = like_bind sides.keep k _ _ _ _ (binds_as_like (out-Clause clause).name id) (λ _. like_bind sides.keep k _ _ _ _ (enters_clause_like id)
        (λ _. like_after sides.keep k _ _ _ _ (block_like sides k parts (body_of_clause clause)) (after_clause_like (out-Clause clause).name)))

    matched_like : (clause : Clause) (id : ObjId) (p : Run W Finding) (q : Run W' Finding) (outcome : Bool) → Like sides.keep k p q → Like sides.keep k (matched sides.watcher sides.program parts.value parts.does clause id p outcome) (matched sides.watcher' sides.program parts.value' parts.does' clause id q outcome)
    matched_like clause id p q outcome h = like_bind sides.keep k _ _ _ _ (decides_like sides k (out-Clause clause).node (j.Plain outcome) outcome) (λ _. like_if sides.keep k outcome _ _ _ _ (runs_clause_like clause id) h)

    tries_clauses_like : (clauses : List Clause) (id : ObjId) → Like sides.keep k (tries_clauses sides.watcher sides.program parts.value parts.does clauses id) (tries_clauses sides.watcher' sides.program parts.value' parts.does' clauses id)
    tries_clauses_like [] id = like_stop sides.keep k _
    tries_clauses_like (clause ∷ more) id = like_bind sides.keep k _ _ _ _ (begins_like sides k (out-Clause clause).node) (λ _. record {
      agree = λ s le. (matched_like clause id _ _ (handles sides.program s.space (class_of_object (object_at s.objects id)) (out-Clause clause).classes) (tries_clauses_like more id)).agree s le;
      spends = λ s. (matched_like clause id _ _ (handles sides.program s.space (class_of_object (object_at s.objects id)) (out-Clause clause).classes) (tries_clauses_like more id)).spends s;
    })

    after_body_like : (clauses : List Clause) (other : Option (List Stmt)) (end : Outcome Finding) → Like sides.keep k (after_body sides.watcher sides.program parts.value parts.does clauses other end) (after_body sides.watcher' sides.program parts.value' parts.does' clauses other end)
    after_body_like clauses other (Ok x) = maybe_block_like other
    after_body_like clauses other (Err (Raised id)) = tries_clauses_like clauses id
    after_body_like clauses other (Err why) = like_stop sides.keep k why

    finally_like : (last : Option (List Stmt)) (before : Outcome Finding) → Like sides.keep k (finally sides.watcher sides.program parts.value parts.does last before) (finally sides.watcher' sides.program parts.value' parts.does' last before)
    finally_like None before = ends_like before
    finally_like (Some body) before = like_if sides.keep k (is_final before) _ _ _ _ (ends_like before) (like_after sides.keep k _ _ (kept before) (kept before) (block_like sides k parts body) (kept_like before))

    -- ---- statements

    branches_like : (arms : List (Expr × List Stmt)) (other : Option (List Stmt)) → Like sides.keep k (branches sides.watcher sides.program parts.value parts.does arms other) (branches sides.watcher' sides.program parts.value' parts.does' arms other)
    branches_like [] other = maybe_block_like other
    branches_like (arm ∷ more) other = chooses_like sides k parts arm.0 _ _ _ _ (block_like sides k parts arm.1) (branches_like more other)

    pub does_by_like : (node : NodeId) (kind : StmtKind-F StmtKind Clause Stmt) → Like sides.keep k (does_by sides.watcher sides.program parts.value parts.does node kind) (does_by sides.watcher' sides.program parts.value' parts.does' node kind)
    does_by_like node StmtKind-F.Pass = like_passes sides.keep k
    does_by_like node StmtKind-F.Break = like_stop sides.keep k _
    does_by_like node StmtKind-F.Continue = like_stop sides.keep k _
    does_by_like node (StmtKind-F.Return None) = like_stop sides.keep k _
    does_by_like node (StmtKind-F.Return (Some e)) = like_bind sides.keep k _ _ _ _ (parts.value_like e) (λ x. like_stop sides.keep k (Returned x.0))
    does_by_like node (StmtKind-F.Raise e) = raise_like e
    does_by_like node (StmtKind-F.Assert test message) = chooses_like sides k parts test _ _ _ _ (like_passes sides.keep k) (fails_with_like message)
    does_by_like node (StmtKind-F.Del of at) = like_bind sides.keep k _ _ _ _ (parts.value_like of) (λ y. like_bind sides.keep k _ _ _ _ (parts.value_like at) (λ i. deletes_item_like sides k y.0 i.0))
    does_by_like node (StmtKind-F.Assign targets is_tuple annotation e) = like_bind sides.keep k _ _ _ _ (parts.value_like e) (λ x. stores_to_like is_tuple targets x.0)
    does_by_like node (StmtKind-F.Augment target op e) = augments_target_like target op e
    does_by_like node (StmtKind-F.Bare e) = like_bind sides.keep k _ _ _ _ (parts.value_like e) (λ _. like_passes sides.keep k)
    does_by_like node (StmtKind-F.If arms other) = branches_like arms other
    does_by_like node (StmtKind-F.While test body) = while_loop_like test body
    does_by_like node (StmtKind-F.For names is_tuple e body) = like_bind sides.keep k _ _ _ _ (parts.value_like e) (λ x. for_value_like node names is_tuple body x.0)
    does_by_like node (StmtKind-F.Try body clauses other last) = like_after sides.keep k _ _ _ _ (like_after sides.keep k _ _ _ _ (block_like sides k parts body) (after_body_like clauses other)) (finally_like last)
