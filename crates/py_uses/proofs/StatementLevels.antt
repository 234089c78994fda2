-- What statements use, by their kinds, after what was used before.
use Rattle.std.proofs.Common.{◌≡◌, ◌∙◌, refl, ap, ap₂, ℕ, Bool, List, Option, Some, None, [], ◌∷◌, ◌++◌, map, true, false, append-nil}
use Rattle.std.specs.List.{flat_map}
use Rattle.std.proofs.lemmas.List.Folds.{flat_map-map}
use Rattle.py_syntax.specs.declared.expr.Expr.{Expr}
use Rattle.py_syntax.specs.declared.operator.BinOp.{BinOp}
use Rattle.py_syntax.specs.declared.stmt.Annotation.{Annotation}
use Rattle.py_syntax.specs.declared.stmt.Clause.{Clause, out-Clause}
use Rattle.py_syntax.specs.declared.stmt.Stmt.{Stmt}
use Rattle.py_syntax.specs.declared.stmt.StmtKind.{StmtKind, StmtKind-F, map-StmtKind, out-StmtKind}
use Rattle.py_syntax.specs.declared.stmt.StmtKind.TheVariants as k
use Rattle.py_syntax.specs.declared.stmt.StmtKind.TheVariants.{outs-Pass, outs-Break, outs-Continue, outs-Return, outs-Raise, outs-Assert, outs-Del, outs-Assign, outs-Augment, outs-Bare, outs-If, outs-While, outs-For, outs-Try}
use Rattle.py_syntax.specs.declared.stmt.Target.{Target}
use Rattle.py_scopes.specs.Folds.{uses_by_stmt, uses_by_stmt_kind, uses_by_clause}
use Rattle.py_scopes.specs.Uses.{Uses, NoLoop, NoClause, Around, Within, block, maybe_block, binds, catches, bound_as, annotated, unless, maybe_uses, target_uses, stmt_kind_uses, uses_of, uses_in, uses_in_kind, uses_in_clause}
use Rattle.py_uses.specs.Blocks.{body_uses, maybe_body, arm_uses, clauses_uses}
use Rattle.py_uses.proofs.ExpressionLevels.{two, three}

-- ---- lists of parts

abbrev parts : StmtKind-F StmtKind Clause Stmt → StmtKind-F (ℕ → Within) Within Within
parts = map-StmtKind StmtKind Clause Stmt (ℕ → Within) Within Within uses_in_kind uses_in_clause uses_in

block_is : (body : List Stmt) (around : Around) → block (map uses_in body) around ≡ body_uses around body
block_is body around = flat_map-map (λ (part : Within). part around) uses_in body

clauses_are : (clauses : List Clause) (around : Around) → block (map uses_in_clause clauses) around ≡ clauses_uses around clauses
clauses_are clauses around = flat_map-map (λ (part : Within). part around) uses_in_clause clauses

abbrev maybe_parts : Option (List Stmt) → Option (List Within)
maybe_parts None = None
maybe_parts (Some body) = Some (map uses_in body)

maybe_is : (body : Option (List Stmt)) (around : Around) → maybe_block (maybe_parts body) around ≡ maybe_body around body
maybe_is None around = refl
maybe_is (Some body) around = block_is body around

abbrev arm_parts : Expr × List Stmt → Expr × List Within
arm_parts arm = (arm.0, map uses_in arm.1)

arms_are : (arms : List (Expr × List Stmt)) (around : Around) → flat_map (λ (arm : Expr × List Within). uses_of arm.0 ++ block arm.1 around) (map arm_parts arms) ≡ flat_map (arm_uses around) arms
arms_are [] around = refl
arms_are (arm ∷ arms) around = ap₂ (λ ys zs. (uses_of arm.0 ++ ys) ++ zs) (block_is arm.1 around) (arms_are arms around)

-- ---- one level

abbrev pub raised : Option Expr → ℕ → Around → Uses
raised None line around = unless around.clause line NoClause
raised (Some x) line around = uses_of x

abbrev pub level : StmtKind-F StmtKind Clause Stmt → ℕ → Around → Uses
level StmtKind-F.Pass line around = []
level StmtKind-F.Break line around = unless around.loop line NoLoop
level StmtKind-F.Continue line around = unless around.loop line NoLoop
level (StmtKind-F.Return x) line around = maybe_uses x
level (StmtKind-F.Raise x) line around = raised x line around
level (StmtKind-F.Assert x message) line around = uses_of x ++ maybe_uses message
level (StmtKind-F.Del x i) line around = uses_of x ++ uses_of i
level (StmtKind-F.Assign targets is_tuple annotation x) line around = flat_map (target_uses line) targets ++ annotated line annotation ++ uses_of x
level (StmtKind-F.Augment t op x) line around = target_uses line t ++ uses_of x
level (StmtKind-F.Bare x) line around = uses_of x
level (StmtKind-F.If arms other) line around = flat_map (arm_uses around) arms ++ maybe_body around other
level (StmtKind-F.While x body) line around = uses_of x ++ body_uses (record around { loop = true }) body
level (StmtKind-F.For names is_tuple x body) line around = binds line names ++ uses_of x ++ body_uses (record around { loop = true }) body
level (StmtKind-F.Try body clauses other last) line around =
    body_uses around body ++ clauses_uses around clauses ++ maybe_body around other ++ maybe_body (record around { clause = false }) last

try_level : (body : List Stmt) (clauses : List Clause) (other last : Option (List Stmt)) (around : Around)
    → block (map uses_in body) around ++ block (map uses_in_clause clauses) around ++ maybe_block (maybe_parts other) around ++ maybe_block (maybe_parts last) (record around { clause = false })
    ≡ body_uses around body ++ clauses_uses around clauses ++ maybe_body around other ++ maybe_body (record around { clause = false }) last
try_level body clauses other last around =
    ap₂ (λ a b. a ++ b ++ maybe_block (maybe_parts other) around ++ maybe_block (maybe_parts last) (record around { clause = false })) (block_is body around) (clauses_are clauses around)
    ∙ ap₂ (λ a b. body_uses around body ++ clauses_uses around clauses ++ a ++ b) (maybe_is other around) (maybe_is last (record around { clause = false }))

levels_are : (f : StmtKind-F StmtKind Clause Stmt) (line : ℕ) (around : Around) → stmt_kind_uses (parts f) line around ≡ level f line around
levels_are StmtKind-F.Pass line around = refl
levels_are StmtKind-F.Break line around = refl
levels_are StmtKind-F.Continue line around = refl
levels_are (StmtKind-F.Return None) line around = refl
levels_are (StmtKind-F.Return (Some x)) line around = refl
levels_are (StmtKind-F.Raise None) line around = refl
levels_are (StmtKind-F.Raise (Some x)) line around = refl
levels_are (StmtKind-F.Assert x message) line around = refl
levels_are (StmtKind-F.Del x i) line around = refl
levels_are (StmtKind-F.Assign targets is_tuple annotation x) line around = refl
levels_are (StmtKind-F.Augment t op x) line around = refl
levels_are (StmtKind-F.Bare x) line around = refl
levels_are (StmtKind-F.If arms None) line around = ap (λ ys. ys ++ []) (arms_are arms around)
levels_are (StmtKind-F.If arms (Some other)) line around = ap₂ (λ a b. a ++ b) (arms_are arms around) (block_is other around)
levels_are (StmtKind-F.While x body) line around = ap (λ ys. uses_of x ++ ys) (block_is body (record around { loop = true }))
levels_are (StmtKind-F.For names is_tuple x body) line around = ap (λ ys. binds line names ++ uses_of x ++ ys) (block_is body (record around { loop = true }))
levels_are (StmtKind-F.Try body clauses None None) line around = try_level body clauses None None around
levels_are (StmtKind-F.Try body clauses None (Some last)) line around = try_level body clauses None (Some last) around
levels_are (StmtKind-F.Try body clauses (Some other) None) line around = try_level body clauses (Some other) None around
levels_are (StmtKind-F.Try body clauses (Some other) (Some last)) line around = try_level body clauses (Some other) (Some last) around

by : (us : Uses) (kind : StmtKind) (f : StmtKind-F StmtKind Clause Stmt) (line : ℕ) (around : Around) → out-StmtKind kind ≡ f → us ++ uses_in_kind kind line around ≡ us ++ level f line around
by us kind f line around is = ap (λ ys. us ++ ys) (uses_by_stmt_kind kind line around ∙ levels_are (out-StmtKind kind) line around ∙ ap (λ f. level f line around) is)

four : (us a b c d : Uses) → us ++ (a ++ b ++ c ++ d) ≡ us ++ a ++ b ++ c ++ d
four us a b c d = two us (a ++ b ++ c) d ∙ ap (λ ys. ys ++ d) (three us a b c)

pub kind-Pass : (us : Uses) (line : ℕ) (around : Around) → us ++ uses_in_kind k.Pass line around ≡ us
kind-Pass us line around = by us _ _ line around outs-Pass ∙ append-nil us

pub kind-Break : (us : Uses) (line : ℕ) (around : Around) → us ++ uses_in_kind k.Break line around ≡ us ++ unless around.loop line NoLoop
kind-Break us line around = by us _ _ line around outs-Break

pub kind-Continue : (us : Uses) (line : ℕ) (around : Around) → us ++ uses_in_kind k.Continue line around ≡ us ++ unless around.loop line NoLoop
kind-Continue us line around = by us _ _ line around outs-Continue

pub kind-Return : (us : Uses) (line : ℕ) (around : Around) (x : Option Expr) → us ++ uses_in_kind (k.Return x) line around ≡ us ++ maybe_uses x
kind-Return us line around x = by us _ _ line around (outs-Return x)

pub kind-Raise-None : (us : Uses) (line : ℕ) (around : Around) → us ++ uses_in_kind (k.Raise None) line around ≡ us ++ unless around.clause line NoClause
kind-Raise-None us line around = by us _ _ line around (outs-Raise None)

pub kind-Raise-Some : (us : Uses) (line : ℕ) (around : Around) (x : Expr) → us ++ uses_in_kind (k.Raise (Some x)) line around ≡ us ++ uses_of x
kind-Raise-Some us line around x = by us _ _ line around (outs-Raise (Some x))

pub kind-Assert : (us : Uses) (line : ℕ) (around : Around) (x : Expr) (message : Option Expr) → us ++ uses_in_kind (k.Assert x message) line around ≡ us ++ uses_of x ++ maybe_uses message
kind-Assert us line around x message = by us _ _ line around (outs-Assert x message) ∙ two us (uses_of x) (maybe_uses message)

pub kind-Del : (us : Uses) (line : ℕ) (around : Around) (x i : Expr) → us ++ uses_in_kind (k.Del x i) line around ≡ us ++ uses_of x ++ uses_of i
kind-Del us line around x i = by us _ _ line around (outs-Del x i) ∙ two us (uses_of x) (uses_of i)

pub kind-Assign : (us : Uses) (line : ℕ) (around : Around) (targets : List Target) (is_tuple : Bool) (annotation : Option Annotation) (x : Expr)
    → us ++ uses_in_kind (k.Assign targets is_tuple annotation x) line around ≡ us ++ flat_map (target_uses line) targets ++ annotated line annotation ++ uses_of x
kind-Assign us line around targets is_tuple annotation x = by us _ _ line around (outs-Assign targets is_tuple annotation x) ∙ three us (flat_map (target_uses line) targets) (annotated line annotation) (uses_of x)

pub kind-Augment : (us : Uses) (line : ℕ) (around : Around) (t : Target) (op : BinOp) (x : Expr) → us ++ uses_in_kind (k.Augment t op x) line around ≡ us ++ target_uses line t ++ uses_of x
kind-Augment us line around t op x = by us _ _ line around (outs-Augment t op x) ∙ two us (target_uses line t) (uses_of x)

pub kind-Bare : (us : Uses) (line : ℕ) (around : Around) (x : Expr) → us ++ uses_in_kind (k.Bare x) line around ≡ us ++ uses_of x
kind-Bare us line around x = by us _ _ line around (outs-Bare x)

pub kind-If : (us : Uses) (line : ℕ) (around : Around) (arms : List (Expr × List Stmt)) (other : Option (List Stmt)) → us ++ uses_in_kind (k.If arms other) line around ≡ us ++ flat_map (arm_uses around) arms ++ maybe_body around other
kind-If us line around arms other = by us _ _ line around (outs-If arms other) ∙ two us (flat_map (arm_uses around) arms) (maybe_body around other)

pub kind-While : (us : Uses) (line : ℕ) (around : Around) (x : Expr) (body : List Stmt) → us ++ uses_in_kind (k.While x body) line around ≡ us ++ uses_of x ++ body_uses (record around { loop = true }) body
kind-While us line around x body = by us _ _ line around (outs-While x body) ∙ two us (uses_of x) (body_uses (record around { loop = true }) body)

pub kind-For : (us : Uses) (line : ℕ) (around : Around) (names : List (List ℕ)) (is_tuple : Bool) (x : Expr) (body : List Stmt)
    → us ++ uses_in_kind (k.For names is_tuple x body) line around ≡ us ++ binds line names ++ uses_of x ++ body_uses (record around { loop = true }) body
kind-For us line around names is_tuple x body = by us _ _ line around (outs-For names is_tuple x body) ∙ three us (binds line names) (uses_of x) (body_uses (record around { loop = true }) body)

pub kind-Try : (us : Uses) (line : ℕ) (around : Around) (body : List Stmt) (clauses : List Clause) (other last : Option (List Stmt))
    → us ++ uses_in_kind (k.Try body clauses other last) line around ≡ us ++ body_uses around body ++ clauses_uses around clauses ++ maybe_body around other ++ maybe_body (record around { clause = false }) last
kind-Try us line around body clauses other last =
    by us _ _ line around (outs-Try body clauses other last) ∙ four us (body_uses around body) (clauses_uses around clauses) (maybe_body around other) (maybe_body (record around { clause = false }) last)

pub clause-out : (us : Uses) (clause : Clause) (around : Around) → us ++ uses_in_clause clause around
    ≡ us ++ catches (out-Clause clause).line (out-Clause clause).classes ++ bound_as (out-Clause clause).line (out-Clause clause).name ++ body_uses (record around { clause = true }) (out-Clause clause).body
clause-out us clause around =
    let c = out-Clause clause in
    ap (λ ys. us ++ ys) (uses_by_clause clause around ∙ ap (λ ys. catches c.line c.classes ++ bound_as c.line c.name ++ ys) (block_is c.body (record around { clause = true })))
    ∙ three us (catches c.line c.classes) (bound_as c.line c.name) (body_uses (record around { clause = true }) c.body)

pub ruleset statement_levels = (uses_by_stmt, clause-out, kind-Pass, kind-Break, kind-Continue, kind-Return, kind-Raise-None, kind-Raise-Some, kind-Assert, kind-Del, kind-Assign, kind-Augment, kind-Bare, kind-If, kind-While, kind-For, kind-Try)
