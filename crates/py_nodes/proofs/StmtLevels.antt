-- The numbers of a statement's parts, by the kind of statement.
use Rattle.std.proofs.Common.{◌≡◌, ◌∙◌, ap, map, ℕ, Bool, List, Option}
use Rattle.py_syntax.specs.declared.expr.Expr.{Expr}
use Rattle.py_syntax.specs.declared.operator.BinOp.{BinOp}
use Rattle.py_syntax.specs.declared.stmt.Annotation.{Annotation}
use Rattle.py_syntax.specs.declared.stmt.Clause.{Clause, fold_out-Clause, out-Clause}
use Rattle.py_syntax.specs.declared.stmt.Stmt.{Stmt, fold_out-Stmt}
use Rattle.py_syntax.specs.declared.stmt.StmtKind.{StmtKind, StmtKind-F, fold_out-StmtKind, map-StmtKind, out-StmtKind}
use Rattle.py_syntax.specs.declared.stmt.StmtKind.TheVariants as s
use Rattle.py_syntax.specs.declared.stmt.StmtKind.TheVariants.{outs-Pass, outs-Break, outs-Continue, outs-Return, outs-Raise, outs-Assert, outs-Del, outs-Assign, outs-Augment, outs-Bare, outs-If, outs-While, outs-For, outs-Try}
use Rattle.py_syntax.specs.declared.stmt.Target.{Target}
use Rattle.py_language.specs.TreesNumbers.{Numbered}
use Rattle.py_nodes.specs.Numbers.{kind_by, clause_by, stmt_by, stmt, clause, kind}

-- a statement with what its parts are in their places
abbrev pub stmt_level : Bool → StmtKind-F StmtKind Clause Stmt → Numbered StmtKind
stmt_level counted k = kind_by counted (map-StmtKind StmtKind Clause Stmt (Numbered StmtKind) (Numbered Clause) (Numbered Stmt) (kind counted) (clause counted) (stmt counted) k)

pub kind-out : (counted : Bool) (k : StmtKind) → kind counted k ≡ stmt_level counted (out-StmtKind k)
unfolding stmt clause kind
kind-out counted k = fold_out-StmtKind (Numbered StmtKind) (Numbered Clause) (Numbered Stmt) (kind_by counted) (clause_by counted) (stmt_by counted) k

pub clause-out : (counted : Bool) (c : Clause) → clause counted c ≡ clause_by counted (record { node = (out-Clause c).node; line = (out-Clause c).line; classes = (out-Clause c).classes; name = (out-Clause c).name; body = map (stmt counted) (out-Clause c).body })
unfolding stmt clause kind
clause-out counted c = fold_out-Clause (Numbered StmtKind) (Numbered Clause) (Numbered Stmt) (kind_by counted) (clause_by counted) (stmt_by counted) c

pub stmt-out : (counted : Bool) (x : Stmt) → stmt counted x ≡ stmt_by counted (record { node = x.node; line = x.line; kind = kind counted x.kind })
unfolding stmt clause kind
stmt-out counted x = fold_out-Stmt (Numbered StmtKind) (Numbered Clause) (Numbered Stmt) (kind_by counted) (clause_by counted) (stmt_by counted) x

by_kind : (counted : Bool) (k : StmtKind) (f : StmtKind-F StmtKind Clause Stmt) (n : ℕ) → out-StmtKind k ≡ f → kind counted k n ≡ stmt_level counted f n
by_kind counted k f n is = ap (λ (p : Numbered StmtKind). p n) (kind-out counted k ∙ ap (stmt_level counted) is)

pub kind-Pass : (counted : Bool) (n : ℕ) → kind counted s.Pass n ≡ stmt_level counted StmtKind-F.Pass n
kind-Pass counted n = by_kind counted s.Pass StmtKind-F.Pass n outs-Pass

pub kind-Break : (counted : Bool) (n : ℕ) → kind counted s.Break n ≡ stmt_level counted StmtKind-F.Break n
kind-Break counted n = by_kind counted s.Break StmtKind-F.Break n outs-Break

pub kind-Continue : (counted : Bool) (n : ℕ) → kind counted s.Continue n ≡ stmt_level counted StmtKind-F.Continue n
kind-Continue counted n = by_kind counted s.Continue StmtKind-F.Continue n outs-Continue

pub kind-Return : (counted : Bool) (x : Option Expr) (n : ℕ) → kind counted (s.Return x) n ≡ stmt_level counted (StmtKind-F.Return x) n
kind-Return counted x n = by_kind counted (s.Return x) (StmtKind-F.Return x) n (outs-Return x)

pub kind-Raise : (counted : Bool) (x : Option Expr) (n : ℕ) → kind counted (s.Raise x) n ≡ stmt_level counted (StmtKind-F.Raise x) n
kind-Raise counted x n = by_kind counted (s.Raise x) (StmtKind-F.Raise x) n (outs-Raise x)

pub kind-Assert : (counted : Bool) (x : Expr) (m : Option Expr) (n : ℕ) → kind counted (s.Assert x m) n ≡ stmt_level counted (StmtKind-F.Assert x m) n
kind-Assert counted x m n = by_kind counted (s.Assert x m) (StmtKind-F.Assert x m) n (outs-Assert x m)

pub kind-Del : (counted : Bool) (x i : Expr) (n : ℕ) → kind counted (s.Del x i) n ≡ stmt_level counted (StmtKind-F.Del x i) n
kind-Del counted x i n = by_kind counted (s.Del x i) (StmtKind-F.Del x i) n (outs-Del x i)

pub kind-Assign : (counted : Bool) (ts : List Target) (is_tuple : Bool) (annotation : Option Annotation) (x : Expr) (n : ℕ) → kind counted (s.Assign ts is_tuple annotation x) n ≡ stmt_level counted (StmtKind-F.Assign ts is_tuple annotation x) n
kind-Assign counted ts is_tuple annotation x n = by_kind counted (s.Assign ts is_tuple annotation x) (StmtKind-F.Assign ts is_tuple annotation x) n (outs-Assign ts is_tuple annotation x)

pub kind-Augment : (counted : Bool) (t : Target) (op : BinOp) (x : Expr) (n : ℕ) → kind counted (s.Augment t op x) n ≡ stmt_level counted (StmtKind-F.Augment t op x) n
kind-Augment counted t op x n = by_kind counted (s.Augment t op x) (StmtKind-F.Augment t op x) n (outs-Augment t op x)

pub kind-Bare : (counted : Bool) (x : Expr) (n : ℕ) → kind counted (s.Bare x) n ≡ stmt_level counted (StmtKind-F.Bare x) n
kind-Bare counted x n = by_kind counted (s.Bare x) (StmtKind-F.Bare x) n (outs-Bare x)

pub kind-If : (counted : Bool) (arms : List (Expr × List Stmt)) (other : Option (List Stmt)) (n : ℕ) → kind counted (s.If arms other) n ≡ stmt_level counted (StmtKind-F.If arms other) n
kind-If counted arms other n = by_kind counted (s.If arms other) (StmtKind-F.If arms other) n (outs-If arms other)

pub kind-While : (counted : Bool) (x : Expr) (b : List Stmt) (n : ℕ) → kind counted (s.While x b) n ≡ stmt_level counted (StmtKind-F.While x b) n
kind-While counted x b n = by_kind counted (s.While x b) (StmtKind-F.While x b) n (outs-While x b)

pub kind-For : (counted : Bool) (names : List (List ℕ)) (is_tuple : Bool) (x : Expr) (b : List Stmt) (n : ℕ) → kind counted (s.For names is_tuple x b) n ≡ stmt_level counted (StmtKind-F.For names is_tuple x b) n
kind-For counted names is_tuple x b n = by_kind counted (s.For names is_tuple x b) (StmtKind-F.For names is_tuple x b) n (outs-For names is_tuple x b)

pub kind-Try : (counted : Bool) (b : List Stmt) (cs : List Clause) (o f : Option (List Stmt)) (n : ℕ) → kind counted (s.Try b cs o f) n ≡ stmt_level counted (StmtKind-F.Try b cs o f) n
kind-Try counted b cs o f n = by_kind counted (s.Try b cs o f) (StmtKind-F.Try b cs o f) n (outs-Try b cs o f)

pub ruleset kinds = (stmt-out, clause-out, kind-Pass, kind-Break, kind-Continue, kind-Return, kind-Raise, kind-Assert, kind-Del, kind-Assign, kind-Augment, kind-Bare, kind-If, kind-While, kind-For, kind-Try)
