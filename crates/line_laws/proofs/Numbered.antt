-- Numbering the nodes of a body moves no statement: what lies on lines still does.
use Rattle.std.proofs.Common.{List, None, Option, Some, [], ap, inl, inr, map, refl, subst, suc, sym, true, zero, ℕ, ◌++◌, ◌+◌, ◌∙◌, ◌∷◌, ◌≡◌, ◌≤◌}
use Rattle.std.specs.List.{AllByRecursion}
use Rattle.std.specs.Option.{option_map, option_to_list}
use Rattle.py_language.specs.TreesNumbers.{Numbered, in_order}
use Rattle.py_syntax.specs.declared.expr.Expr.{Expr}
use Rattle.py_syntax.specs.declared.module.Func.{Func}
use Rattle.py_syntax.specs.declared.module.Item.{Item}
use Rattle.py_syntax.specs.declared.module.Item.TheVariants as item
use Rattle.py_syntax.specs.declared.module.Member.{Member}
use Rattle.py_syntax.specs.declared.module.Member.TheVariants as member
use Rattle.py_syntax.specs.declared.module.Module.{Module}
use Rattle.py_syntax.specs.declared.stmt.Clause.{Clause, fold_out-Clause, out-Clause, out-roll-Clause}
use Rattle.py_syntax.specs.declared.stmt.Stmt.{Stmt, fold_out-Stmt}
use Rattle.py_syntax.specs.declared.stmt.StmtKind.{StmtKind, StmtKind-F, fold_out-StmtKind, map-StmtKind, out-StmtKind}
use Rattle.py_syntax.specs.declared.stmt.StmtKind.TheVariants.{outs-Assert, outs-Assign, outs-Augment, outs-Bare, outs-Break, outs-Continue, outs-Del, outs-For, outs-If, outs-Pass, outs-Raise, outs-Return, outs-Try, outs-While}
use Rattle.py_nodes.specs.CodeStatements.{block_of}
use Rattle.py_nodes.specs.Expressions.{expr}
use Rattle.py_nodes.specs.Numbers.{arm_by, class, clause, clause_by, func, item_numbered, kind, kind_by, maybe_block, member_numbered, numbered, stmt, stmt_by}
use Rattle.line_laws.specs.Layout.{Block, Blocks, InLines, ItemLaid, Laid, MemberLaid, Next, OnLine, Rows, blocks_of, inside}

-- blocks, and the same with numbers
abbrev pub Same : List (List Stmt) → List (List Stmt) → Type 0
Same [] [] = Unit {0}
Same [] (c ∷ cs) = ⊥
Same (b ∷ bs) [] = ⊥
Same (b ∷ bs) (c ∷ cs) = ((k : ℕ) × (c ≡ (block_of true b k).0)) × Same bs cs

same_join : (xs ys bs cs : List (List Stmt)) → Same xs ys → Same bs cs → Same (xs ++ bs) (ys ++ cs)
same_join [] [] bs cs h k = k
same_join [] (y ∷ ys) bs cs h k = absurd h
same_join (x ∷ xs) [] bs cs h k = absurd h
same_join (x ∷ xs) (y ∷ ys) bs cs h k = (h.0, same_join xs ys bs cs h.1 k)

same_none : (cs : List (List Stmt)) → Same [] cs → cs ≡ []
same_none [] h = refl
same_none (c ∷ cs) h = absurd h

-- ---- a statement, a clause and what a statement is, one level at a time

-- a statement with what its parts are in their places
abbrev level : StmtKind-F StmtKind Clause Stmt → Numbered StmtKind
level f = kind_by true (map-StmtKind StmtKind Clause Stmt (Numbered StmtKind) (Numbered Clause) (Numbered Stmt) (kind true) (clause true) (stmt true) f)

kind-out : (q : StmtKind) → kind true q ≡ level (out-StmtKind q)
unfolding stmt clause kind
kind-out q = fold_out-StmtKind (Numbered StmtKind) (Numbered Clause) (Numbered Stmt) (kind_by true) (clause_by true) (stmt_by true) q

clause-out : (c : Clause) → clause true c ≡ clause_by true (record { node = (out-Clause c).node; line = (out-Clause c).line; classes = (out-Clause c).classes; name = (out-Clause c).name; body = map (stmt true) (out-Clause c).body })
unfolding stmt clause kind
clause-out c = fold_out-Clause (Numbered StmtKind) (Numbered Clause) (Numbered Stmt) (kind_by true) (clause_by true) (stmt_by true) c

stmt-out : (s : Stmt) → stmt true s ≡ stmt_by true (record { node = s.node; line = s.line; kind = kind true s.kind })
unfolding stmt clause kind
stmt-out s = fold_out-Stmt (Numbered StmtKind) (Numbered Clause) (Numbered Stmt) (kind_by true) (clause_by true) (stmt_by true) s

abbrev kind_at : StmtKind-F StmtKind Clause Stmt → ℕ → StmtKind
kind_at f k = (level f k).0

-- ---- the blocks in a statement

abbrev Arm : Type 0
Arm = Expr × List Stmt

abbrev arm_with : Arm → Expr × List (Numbered Stmt)
arm_with arm = (arm.0, map (stmt true) arm.1)

arms_same : (tests : List Arm) (k : ℕ) → Same (map (λ arm. arm.1) tests) (map (λ arm. arm.1) (in_order (map (arm_by true) (map arm_with tests)) k).0)
arms_same [] k = tt
arms_same (arm ∷ more) k = (((expr true arm.0 k).1, refl), arms_same more ((arm_by true (arm_with arm) k).1))

maybe_same : (body : Option (List Stmt)) (k : ℕ) → Same (option_to_list body) (option_to_list (maybe_block true (option_map (map (stmt true)) body) k).0)
maybe_same None k = tt
maybe_same (Some body) k = ((k, refl), tt)

abbrev clause_body : Clause → List Stmt
clause_body c = (out-Clause c).body

clause_same : (c : Clause) (k : ℕ) → clause_body (clause true c k).0 ≡ (block_of true (clause_body c) (suc k)).0
clause_same c k = ap (λ (p : Numbered Clause). clause_body (p k).0) (clause-out c) ∙ ap (λ o. o.body) (out-roll-Clause _)

clauses_same : (clauses : List Clause) (k : ℕ) → Same (map clause_body clauses) (map clause_body (in_order (map (clause true) clauses) k).0)
clauses_same [] k = tt
clauses_same (c ∷ clauses) k = ((suc k, clause_same c k), clauses_same clauses (clause true c k).1)

-- by what a kind is rolled from
same_by : (bs : List (List Stmt)) (kind : StmtKind) (f : StmtKind-F StmtKind Clause Stmt) → out-StmtKind kind ≡ f → Same bs (blocks_of f) → Same bs (blocks_of (out-StmtKind kind))
same_by bs kind f e h = subst (λ f. Same bs (blocks_of f)) (sym e) h

abbrev if_at : List Arm → Option (List Stmt) → Numbered StmtKind
if_at tests other = kind_by true (StmtKind-F.If (map arm_with tests) (option_map (map (stmt true)) other))

if_same : (tests : List Arm) (other : Option (List Stmt)) (k : ℕ) → Same (blocks_of (StmtKind-F.If tests other)) (blocks_of (out-StmtKind (if_at tests other k).0))
if_same tests other k = same_by (blocks_of (StmtKind-F.If tests other)) _ _ (outs-If _ _) (same_join _ _ (option_to_list other) _ (arms_same tests k) (maybe_same other _))

abbrev try_at : List Stmt → List Clause → Option (List Stmt) → Option (List Stmt) → Numbered StmtKind
try_at body clauses other last = kind_by true (StmtKind-F.Try (map (stmt true) body) (map (clause true) clauses) (option_map (map (stmt true)) other) (option_map (map (stmt true)) last))

try_same : (body : List Stmt) (clauses : List Clause) (other last : Option (List Stmt)) (k : ℕ) → Same (blocks_of (StmtKind-F.Try body clauses other last)) (blocks_of (out-StmtKind (try_at body clauses other last k).0))
try_same body clauses other last k =
    same_by (blocks_of (StmtKind-F.Try body clauses other last)) _ _ (outs-Try _ _ _ _)
    ((k, refl), same_join _ _ (option_to_list other ++ option_to_list last) _ (clauses_same clauses _) (same_join _ _ (option_to_list last) _ (maybe_same other _) (maybe_same last _)))

blocks_same : (f : StmtKind-F StmtKind Clause Stmt) (k : ℕ) → Same (blocks_of f) (blocks_of (out-StmtKind (kind_at f k)))
blocks_same StmtKind-F.Pass k = same_by [] _ _ outs-Pass tt
blocks_same StmtKind-F.Break k = same_by [] _ _ outs-Break tt
blocks_same StmtKind-F.Continue k = same_by [] _ _ outs-Continue tt
blocks_same (StmtKind-F.Return None) k = same_by [] _ _ (outs-Return _) tt
blocks_same (StmtKind-F.Return (Some x)) k = same_by [] _ _ (outs-Return _) tt
blocks_same (StmtKind-F.Raise None) k = same_by [] _ _ (outs-Raise _) tt
blocks_same (StmtKind-F.Raise (Some x)) k = same_by [] _ _ (outs-Raise _) tt
blocks_same (StmtKind-F.Assert x None) k = same_by [] _ _ (outs-Assert _ _) tt
blocks_same (StmtKind-F.Assert x (Some message)) k = same_by [] _ _ (outs-Assert _ _) tt
blocks_same (StmtKind-F.Del of at) k = same_by [] _ _ (outs-Del _ _) tt
blocks_same (StmtKind-F.Assign ts is_tuple annotation x) k = same_by [] _ _ (outs-Assign _ _ _ _) tt
blocks_same (StmtKind-F.Augment t op x) k = same_by [] _ _ (outs-Augment _ _ _) tt
blocks_same (StmtKind-F.Bare x) k = same_by [] _ _ (outs-Bare _) tt
blocks_same (StmtKind-F.If tests None) k = if_same tests None k
blocks_same (StmtKind-F.If tests (Some other)) k = if_same tests (Some other) k
blocks_same (StmtKind-F.While test body) k = same_by (body ∷ []) _ _ (outs-While _ _) ((_, refl), tt)
blocks_same (StmtKind-F.For names is_tuple x body) k = same_by (body ∷ []) _ _ (outs-For _ _ _ _) ((_, refl), tt)
blocks_same (StmtKind-F.Try body clauses None None) k = try_same body clauses None None k
blocks_same (StmtKind-F.Try body clauses None (Some last)) k = try_same body clauses None (Some last) k
blocks_same (StmtKind-F.Try body clauses (Some other) None) k = try_same body clauses (Some other) None k
blocks_same (StmtKind-F.Try body clauses (Some other) (Some last)) k = try_same body clauses (Some other) (Some last) k

-- ---- statements

module _ (s : Stmt) (k : ℕ) where
  abbrev changed : Stmt
  changed = (stmt true s k).0

  is : changed ≡ record { node = record { 0 = k }; line = s.line; kind = (kind true s.kind (suc k)).0 }
  is = ap (λ (p : Numbered Stmt). (p k).0) (stmt-out s)

  line_same : changed.line ≡ s.line
  line_same = ap (λ t. t.line) is

  inside_same : Same (inside s) (inside changed)
  inside_same =
      subst (λ t. Same (inside s) (inside t)) (sym is)
      (subst (λ q. Same (inside s) (blocks_of (out-StmtKind q))) (sym (ap (λ (p : Numbered StmtKind). (p (suc k)).0) (kind-out s.kind))) (blocks_same (out-StmtKind s.kind) (suc k)))

on_line_numbered : (line : ℕ) (body : List Stmt) (k : ℕ) → OnLine line body → OnLine line (block_of true body k).0
on_line_numbered line [] k h = tt
on_line_numbered line (s ∷ more) k h =
    ((line_same s k ∙ h.0.0, same_none (inside (changed s k)) (subst (λ bs. Same bs (inside (changed s k))) h.0.1 (inside_same s k))), on_line_numbered line more (stmt true s k).1 h.1)

module _ (Deeper : ℕ → ℕ → List Stmt → Type 0) (numbered_too : (start end : ℕ) (body : List Stmt) (k : ℕ) → Deeper start end body → Deeper start end (block_of true body k).0) where
  block_numbered : (header end : ℕ) (body : List Stmt) (k : ℕ) → Block Deeper header end body → Block Deeper header end (block_of true body k).0
  block_numbered header end body k (inl h) = inl (h.0, on_line_numbered header body k h.1)
  block_numbered header end body k (inr h) = inr (numbered_too (header + 1) end body k h)

  same_block : (header end : ℕ) (b c : List Stmt) → ((k : ℕ) × (c ≡ (block_of true b k).0)) → Block Deeper header end b → Block Deeper header end c
  same_block header end b c e h = subst (Block Deeper header end) (sym e.1) (block_numbered header end b e.0 h)

  blocks_numbered : (header end : ℕ) (b c : List Stmt) (bs cs : List (List Stmt)) → Same (b ∷ bs) (c ∷ cs) → Blocks Deeper header end b bs → Blocks Deeper header end c cs
  blocks_numbered header end b c [] [] e h = same_block header end b c e.0 h
  blocks_numbered header end b c [] (d ∷ cs) e h = absurd e.1
  blocks_numbered header end b c (a ∷ bs) [] e h = absurd e.1
  blocks_numbered header end b c (a ∷ bs) (d ∷ cs) e h = (h.0, h.1, same_block header h.0 b c e.0 h.2, h.3, blocks_numbered h.1 end a d bs cs e.1 h.4)

  next_numbered : (rest rest' : ℕ → Type 0) (header end : ℕ) (bs cs : List (List Stmt)) → Same bs cs → ((from : ℕ) → rest from → rest' from) → Next Deeper rest header end bs → Next Deeper rest' header end cs
  next_numbered rest rest' header end [] [] e f h = (h.0, f header h.1)
  next_numbered rest rest' header end [] (c ∷ cs) e f h = absurd e
  next_numbered rest rest' header end (b ∷ bs) [] e f h = absurd e
  next_numbered rest rest' header end (b ∷ bs) (c ∷ cs) e f h = (h.0, blocks_numbered header h.0 b c bs cs e h.1, f h.0 h.2)

  rows_numbered : (start end : ℕ) (body : List Stmt) (k : ℕ) → Rows Deeper start end body → Rows Deeper start end (block_of true body k).0
  rows_numbered start end [] k h = h
  rows_numbered start end (s ∷ more) k h =
      let t = changed s k in
      let next = (stmt true s k).1 in
      let rest' : ℕ → Type 0 = λ from. Rows Deeper from end (block_of true more next).0 in
      let made = next_numbered (λ from. Rows Deeper from end more) rest' s.line end (inside s) (inside t) (inside_same s k) (λ from rest. rows_numbered from end more next rest) h.1 in
      subst (λ line. (start ≤ line) × Next Deeper rest' line end (inside t)) (sym (line_same s k)) (h.0, made)

lines_numbered : (room start end : ℕ) (body : List Stmt) (k : ℕ) → InLines room start end body → InLines room start end (block_of true body k).0
lines_numbered zero start end body k h = (ap (λ body. (block_of true body k).0) h.0, h.1)
lines_numbered (suc room) start end body k h = rows_numbered (InLines room) (lines_numbered room) start end body k h

-- ---- functions, classes and modules

func_numbered : (f : Func) (k : ℕ) → Laid f → Laid (func f k).0
func_numbered f k h = (h.0, h.1, block_numbered (InLines h.0) (lines_numbered h.0) f.line h.1 f.body (suc k) h.2)

members_numbered : (members : List Member) (k : ℕ) → AllByRecursion MemberLaid members → AllByRecursion MemberLaid (in_order (map member_numbered members) k).0
members_numbered [] k h = tt
members_numbered (member.Func f ∷ members) k h = (func_numbered f k h.0, members_numbered members (func f k).1 h.1)
members_numbered (member.Other s ∷ members) k h = (tt, members_numbered members k h.1)

items_numbered : (items : List Item) (k : ℕ) → AllByRecursion ItemLaid items → AllByRecursion ItemLaid (in_order (map item_numbered items) k).0
items_numbered [] k h = tt
items_numbered (item.Func f ∷ items) k h = (func_numbered f k h.0, items_numbered items (func f k).1 h.1)
items_numbered (item.Class c ∷ items) k h = (members_numbered c.members k h.0, items_numbered items (class c k).1 h.1)
items_numbered (item.Import line names ∷ items) k h = (tt, items_numbered items k h.1)
items_numbered (item.Other s ∷ items) k h = (tt, items_numbered items k h.1)

pub module_numbered : (m : Module) → AllByRecursion ItemLaid m.items → AllByRecursion ItemLaid (numbered m).items
module_numbered m h = items_numbered m.items 0 h
