-- Laws of stacks: an entry that is pushed is the first to resume, and each node that is begun with its entry under it goes on as its kind means.
use Rattle.std.specs.Prelude.{◌≡◌, ℕ, ◌+◌, Bool, List, [], ◌∷◌, ◌++◌, Option, Some, None}
use Rattle.std.specs.Borrow.{Bor}
use Rattle.pyn_base.specs.declared.ids.FuncId.{FuncId}
use Rattle.pyn_base.specs.declared.ids.NodeId.{NodeId}
use Rattle.py_syntax.specs.declared.expr.Args.{Args}
use Rattle.py_syntax.specs.declared.expr.Expr.{Expr}
use Rattle.py_syntax.specs.declared.expr.ExprKind.{ExprKind-F, ExprKind}
use Rattle.py_syntax.specs.declared.operator.BinOp.{BinOp}
use Rattle.py_syntax.specs.declared.operator.CmpOp.{CmpOp}
use Rattle.py_syntax.specs.declared.operator.Sign.{Sign}
use Rattle.py_syntax.specs.declared.stmt.Annotation.{Annotation}
use Rattle.py_syntax.specs.declared.stmt.Clause.{Clause}
use Rattle.py_syntax.specs.declared.stmt.Stmt.{Stmt}
use Rattle.py_syntax.specs.declared.stmt.StmtKind.{StmtKind-F, StmtKind}
use Rattle.py_syntax.specs.declared.stmt.Target.{Target}
use Rattle.py_syntax.specs.declared.stmt.Target.TheVariants as target
use Rattle.py_meaning.specs.declared.value.Value.{Value}
use Rattle.py_meaning.specs.Worlds.{World, Attributes, Pairs}
use Rattle.py_plain.specs.declared.judged.Judged.{Judged}
use Rattle.py_plain.specs.declared.run.Callee.{Callee}
use Rattle.py_plain.specs.declared.run.Walk.{Walk}
use Rattle.py_plain.specs.declared.state.State.{State}
use Rattle.py_plain.specs.Assignments.{stores, stores_all}
use Rattle.py_plain.specs.Calls.{block, body, inside}
use Rattle.py_plain.specs.Decisions.{chain}
use Rattle.py_plain.specs.Displays.{list_display, tuple_display, dict_display}
use Rattle.py_plain.specs.Exceptions.{fails_with, after_clause, kept, tries}
use Rattle.py_plain.specs.Expressions.{value_by, plain_arguments, named_arguments, calls_meant}
use Rattle.py_plain.specs.Loops.{after_turn, while_turn, while_loop, for_walk}
use Rattle.py_plain.specs.Operators.{gets_item}
use Rattle.py_plain.specs.Program.{Function, Program}
use Rattle.py_plain.specs.Runs.{Watcher, Outcome, Ran, Run, Finding, after_end, ◌>>=◌}
use Rattle.py_plain.specs.Statements.{does_by, branches, value_of, means}
use Rattle.py_frames.specs.declared.control.Control.{Control}
use Rattle.py_frames.specs.declared.control.Control.TheVariants as c
use Rattle.py_frames.specs.declared.pending.Argument.TheVariants as argument
use Rattle.py_frames.specs.declared.pending.Decision.TheVariants as decision
use Rattle.py_frames.specs.declared.pending.Operand.TheVariants as operand
use Rattle.py_frames.specs.declared.pending.Pending.{Pending}
use Rattle.py_frames.specs.declared.pending.Pending.TheVariants as p
use Rattle.py_frames.specs.declared.pending.Step.TheVariants as step
use Rattle.py_frames.specs.declared.pending.Store.TheVariants as store
use Rattle.py_frames.specs.Rest.{resumes, finish}

module _ (W : Type 0) where
  -- An entry that is pushed is the first to resume.
  abbrev pub PushedIsNext : Type 0
  PushedIsNext = (watcher : Watcher W) (program : Program) (stack : List Control) (entry : Control) (r : Ran W Finding)
      → finish watcher program (stack ++ entry ∷ []) r ≡ finish watcher program stack (resumes watcher program entry r.0 r.1)

module _ {W : Type 0} (watcher : Watcher W) (program : Program) where
  abbrev value : Expr → Run W Finding
  value = value_of watcher program

  abbrev does : Stmt → Run W Finding
  does = means watcher program

  -- A part that runs with this entry under it does, under any stack, what the whole does.
  abbrev pub Under : Control → Run W Finding → Run W Finding → Type 0
  Under entry part whole = (stack : List Control) (s : State World W) → finish watcher program (stack ++ entry ∷ []) (part s) ≡ finish watcher program stack (whole s)

  -- an entry that waits for a value
  abbrev pub Waits : Pending → Run W Finding → Run W Finding → Type 0
  Waits pending part whole = Under (c.Then pending) part whole

  abbrev expr_by : ExprKind-F ExprKind Args Expr → Run W Finding
  expr_by kind = value_by watcher program value does kind

  abbrev stmt_by : NodeId → StmtKind-F StmtKind Clause Stmt → Run W Finding
  stmt_by node kind = does_by watcher program value does node kind

  -- expressions, by what is pushed when their first part begins, and then when each further part does
  pub record ExpressionsWait : Type 0 where
    pub attribute : (of : Expr) (name : Bor (List ℕ)) → Waits (p.Operand (operand.Attribute name)) (value of) (expr_by (ExprKind-F.Attr of name.now))
    pub index : (of : Expr) (at : Bor Expr) → Waits (p.Operand (operand.Index at)) (value of) (expr_by (ExprKind-F.Index of at.now))
    pub item : (of : Value) (at : Expr) → Waits (p.Operand (operand.ItemOf of)) (value at) (value at >>= (λ i. gets_item of i.0))
    pub slice : (of : Expr) (low high : Bor (Option Expr)) → Waits (p.Operand (operand.Bounds low high)) (value of) (expr_by (ExprKind-F.Slice of low.now high.now))
    pub unary : (sign : Sign) (e : Expr) → Waits (p.Operand (operand.Sign sign)) (value e) (expr_by (ExprKind-F.Unary sign e))
    pub binary : (op : BinOp) (a : Expr) (b : Bor Expr) → Waits (p.Operand (operand.Right op b)) (value a) (expr_by (ExprKind-F.Binary op a b.now))
    pub list : (done : List Value) (e : Expr) (more : List Expr) → Waits (p.Operand (operand.ListItem done more)) (value e) (list_display value done (e ∷ more))
    pub tuple : (done : List Value) (e : Expr) (more : List Expr) → Waits (p.Operand (operand.TuplePart done more)) (value e) (tuple_display value done (e ∷ more))
    pub dict : (done : Pairs) (pair : Bor (Expr × Expr)) (more : List (Expr × Expr)) → Waits (p.Operand (operand.DictKey done pair more)) (value pair.now.0) (dict_display value done (pair.now ∷ more))
    pub negation : (e : Expr) → Waits (p.Decision decision.Not) (value e) (expr_by (ExprKind-F.Not e))
    pub conjunction : (e : Expr) (more : List Expr) → Waits (p.Decision (decision.And [] more)) (value e) (expr_by (ExprKind-F.And (e ∷ more)))
    pub disjunction : (e : Expr) (more : List Expr) → Waits (p.Decision (decision.Or [] more)) (value e) (expr_by (ExprKind-F.Or (e ∷ more)))
    pub comparison : (first : Expr) (others : Bor (List (CmpOp × Expr))) → Waits (p.Decision (decision.Compare others)) (value first) (expr_by (ExprKind-F.Compare first others.now))
    pub link : (done : List Judged) (x : Value) (op : CmpOp) (e : Expr) (more : List (CmpOp × Expr)) → Waits (p.Decision (decision.Link done op x more)) (value e) (chain value done x ((op, e) ∷ more))
    pub conditional : (e : Bor Expr) (test : Expr) (other : Bor Expr) → Waits (p.Decision (decision.Choose e other)) (value test) (expr_by (ExprKind-F.Cond e.now test other.now))
    pub method : (of : Expr) (name : Bor (List ℕ)) (args : Bor Args) → Waits (p.Argument (argument.Receiver name args)) (value of) (expr_by (ExprKind-F.Method of name.now args.now))
    pub call : (f : Expr) (args : Bor Args) → Waits (p.Argument (argument.Callee args)) (value f) (calls_meant watcher program value does None f args.now)
    pub plain : (f : Callee) (done : List Value) (e : Expr) (more : List Expr) (named : Bor (List (List ℕ × Expr)))
        → Waits (p.Argument (argument.Plain f done more named)) (value e) (plain_arguments watcher program value does f done (e ∷ more) named.now)
    pub named : (f : Callee) (plain : List Value) (done : Attributes) (name : Bor (List ℕ)) (e : Expr) (more : List (List ℕ × Expr))
        → Waits (p.Argument (argument.Named f plain done name more)) (value e) (named_arguments watcher program value does f plain done ((name.now, e) ∷ more))

  -- assignments, augmented assignments and deletions
  pub record StoresWait : Type 0 where
    pub assigned : (node : NodeId) (targets : Bor (List Target)) (is_tuple : Bool) (annotation : Option Annotation) (e : Expr)
        → Waits (p.Store (store.Targets targets is_tuple)) (value e) (stmt_by node (StmtKind-F.Assign targets.now is_tuple annotation e))
    pub others : (t : Target) (ts : List Target) (x : Value) (xs : List Value) → Waits (p.Store (store.Others ts xs)) (stores program value t x) (stores_all program value (t ∷ ts) (x ∷ xs))
    pub attribute : (of : Expr) (name : Bor (List ℕ)) (x : Value) → Waits (p.Store (store.AttributeOf name x)) (value of) (stores program value (target.Attr of name.now) x)
    pub item : (of : Expr) (at : Bor Expr) (x : Value) → Waits (p.Store (store.IndexOf at x)) (value of) (stores program value (target.Index of at.now) x)
    pub augmented_attribute : (node : NodeId) (of : Expr) (name : Bor (List ℕ)) (op : BinOp) (e : Bor Expr)
        → Waits (p.Store (store.AugmentAttributeOf name op e)) (value of) (stmt_by node (StmtKind-F.Augment (target.Attr of name.now) op e.now))
    pub augmented_item : (node : NodeId) (of : Expr) (at : Bor Expr) (op : BinOp) (e : Bor Expr)
        → Waits (p.Store (store.AugmentIndexOf at op e)) (value of) (stmt_by node (StmtKind-F.Augment (target.Index of at.now) op e.now))
    pub deleted : (node : NodeId) (of : Expr) (at : Bor Expr) → Waits (p.Store (store.DeleteIndex at)) (value of) (stmt_by node (StmtKind-F.Del of at.now))

  -- the other statements
  pub record StepsWait : Type 0 where
    pub bare : (node : NodeId) (e : Expr) → Waits (p.Step step.Bare) (value e) (stmt_by node (StmtKind-F.Bare e))
    pub returned : (node : NodeId) (e : Expr) → Waits (p.Step step.Return) (value e) (stmt_by node (StmtKind-F.Return (Some e)))
    pub raised : (node : NodeId) (e : Expr) → Waits (p.Step step.Raise) (value e) (stmt_by node (StmtKind-F.Raise (Some e)))
    pub asserted : (node : NodeId) (test : Expr) (message : Bor (Option Expr)) → Waits (p.Step (step.Assert test.node message)) (value test) (stmt_by node (StmtKind-F.Assert test message.now))
    pub message : (e : Expr) → Waits (p.Step step.Message) (value e) (fails_with watcher program value does (Some e))
    pub block : (stmt : Stmt) (more : List Stmt) → Waits (p.Step (step.Block more)) (does stmt) (block watcher program does (stmt ∷ more))
    pub branch : (test : Expr) (body : Bor (List Stmt)) (more : List (Expr × List Stmt)) (other : Bor (Option (List Stmt)))
        → Waits (p.Step (step.If test.node body more other)) (value test) (branches watcher program value does ((test, body.now) ∷ more) other.now)
    pub walked : (node : NodeId) (names : Bor (List (List ℕ))) (is_tuple : Bool) (e : Expr) (body : Bor (List Stmt))
        → Waits (p.Step (step.For node names is_tuple body)) (value e) (stmt_by node (StmtKind-F.For names.now is_tuple e body.now))
    pub turned : (test : Bor Expr) (body : Bor (List Stmt))
        → Waits (p.Step (step.While test body)) (value test.now) (while_turn watcher program value does (while_loop watcher program value does test.now body.now) test.now body.now)

  -- what any end of a part is waited for by
  pub record EndsWait : Type 0 where
    -- a function's body, in a frame of its own
    pub entered : (id : FuncId) (f : Function) (variables : Attributes) (stack : List Control) (s : State World W)
        → finish watcher program (stack ++ c.Leave s.frame ∷ []) (body watcher program does f (record s { frame = record { function = Some id; variables = variables; handled = [] }; depth = s.depth + 1 }))
        ≡ finish watcher program stack (inside watcher program does id f variables s)
    pub while_body : (test : Bor Expr) (body : Bor (List Stmt)) → let turn = block watcher program does body.now in
        Under (c.WhileBody test body) turn (after_end turn (after_turn (while_loop watcher program value does test.now body.now)))
    pub for_body : (node : NodeId) (names : Bor (List (List ℕ))) (is_tuple : Bool) (body : Bor (List Stmt)) (walk : Walk) → let turn = block watcher program does body.now in
        Under (c.ForBody node names is_tuple body walk) turn (after_end turn (after_turn (for_walk watcher program value does node names.now is_tuple body.now walk)))
    pub clause_body : (name : Bor (Option (List ℕ))) (body : List Stmt) → let run = block watcher program does body in Under (c.ClauseBody name) run (after_end run (after_clause name.now))
    pub kept_end : (before : Outcome Finding) (body : List Stmt) → let run = block watcher program does body in Under (c.Keep before) run (after_end run (kept before))
    -- A `try` pushes two entries: what follows the body, and over it the end of all.
    pub tried : (body : List Stmt) (clauses : Bor (List Clause)) (other last : Bor (Option (List Stmt))) (stack : List Control) (s : State World W)
        → finish watcher program ((stack ++ c.TryLast last ∷ []) ++ c.TryBody clauses other ∷ []) (block watcher program does body s)
        ≡ finish watcher program stack (tries watcher program value does body clauses.now other.now last.now s)

-- Each node's first part runs over its entry.
module _ (W : Type 0) where
  abbrev pub NodesWait : Type 0
  NodesWait = (watcher : Watcher W) (program : Program) → ExpressionsWait watcher program × StoresWait watcher program × StepsWait watcher program × EndsWait watcher program
