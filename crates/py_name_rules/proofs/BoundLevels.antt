-- What a statement and a clause bind, one level at a time, by the blocks in them.
use Rattle.std.proofs.Common.{◌≡◌, List, [], ◌∷◌, ◌++◌, map, Option, Some, None, Bool, refl, sym, ap, ◌∙◌}
use Rattle.std.proofs.lemmas.List.{append_assoc, append-nil}
use Rattle.std.specs.List.{flat_map, filter_map}
use Rattle.py_syntax.specs.declared.expr.Expr.{Expr}
use Rattle.py_syntax.specs.declared.operator.BinOp.{BinOp}
use Rattle.py_syntax.specs.declared.stmt.Annotation.{Annotation}
use Rattle.py_syntax.specs.declared.stmt.Clause.{Clause, out-Clause, fold_out-Clause}
use Rattle.py_syntax.specs.declared.stmt.Stmt.{Stmt, fold_out-Stmt}
use Rattle.py_syntax.specs.declared.stmt.StmtKind.{StmtKind, StmtKind-F, map-StmtKind, out-StmtKind, fold_out-StmtKind}
use Rattle.py_syntax.specs.declared.stmt.StmtKind.TheVariants as k
use Rattle.py_syntax.specs.declared.stmt.StmtKind.TheVariants.{outs-Pass, outs-Break, outs-Continue, outs-Return, outs-Raise, outs-Assert, outs-Del, outs-Assign, outs-Augment, outs-Bare, outs-If, outs-While, outs-For, outs-Try}
use Rattle.py_syntax.specs.declared.stmt.Target.{Target}
use Rattle.py_names.specs.Bound.{Spellings, joined, joined_option, bound_by, clause_bound, stmt_bound, names_bound, clause_names, kind_names, target_name, name_or_none}
use Rattle.py_name_rules.specs.Blocks.{block_bound, maybe_bound, arms_bound}

pub of_stmt : (stmt : Stmt) → names_bound stmt ≡ kind_names stmt.kind
unfolding names_bound clause_names kind_names
of_stmt stmt = fold_out-Stmt Spellings Spellings Spellings bound_by clause_bound stmt_bound stmt

joined-map : {A : Type 0} (f : A → Spellings) (xs : List A) → joined (map f xs) ≡ flat_map f xs
joined-map f [] = refl
joined-map f (x ∷ xs) = ap (λ rest. f x ++ rest) (joined-map f xs)

pub of_clause : (clause : Clause) → clause_names clause ≡ name_or_none (out-Clause clause).name ++ block_bound (out-Clause clause).body
unfolding names_bound clause_names kind_names
of_clause clause = fold_out-Clause Spellings Spellings Spellings bound_by clause_bound stmt_bound clause
    ∙ ap (λ rest. name_or_none (out-Clause clause).name ++ rest) (joined-map names_bound (out-Clause clause).body)

-- a statement with what its parts bind in their places
abbrev parts : StmtKind-F StmtKind Clause Stmt → StmtKind-F Spellings Spellings Spellings
parts = map-StmtKind StmtKind Clause Stmt Spellings Spellings Spellings kind_names clause_names names_bound

abbrev pub level : StmtKind-F StmtKind Clause Stmt → Spellings
level (StmtKind-F.Assign targets is_tuple annotation e) = filter_map target_name targets
level (StmtKind-F.Augment target op e) = name_or_none (target_name target)
level (StmtKind-F.If arms other) = arms_bound arms ++ maybe_bound other
level (StmtKind-F.While test body) = block_bound body
level (StmtKind-F.For names is_tuple e body) = names ++ block_bound body
level (StmtKind-F.Try body clauses other last) = block_bound body ++ flat_map clause_names clauses ++ maybe_bound other ++ maybe_bound last
level _ = []

arms-joined : {A : Type 0} (f : A → Spellings) (arms : List (Expr × List A)) → flat_map (λ (arm : Expr × List Spellings). joined arm.1) (map (λ (arm : Expr × List A). (arm.0, map f arm.1)) arms) ≡ flat_map (λ (arm : Expr × List A). flat_map f arm.1) arms
arms-joined {A = A} f [] = refl
arms-joined {A = A} f (arm ∷ arms) = ap (λ first. first ++ flat_map (λ (arm : Expr × List Spellings). joined arm.1) (map (λ (arm : Expr × List A). (arm.0, map f arm.1)) arms)) (joined-map f arm.1)
    ∙ ap (λ rest. flat_map f arm.1 ++ rest) (arms-joined f arms)

abbrev maybe_parts : Option (List Stmt) → Option (List Spellings)
maybe_parts None = None
maybe_parts (Some body) = Some (map names_bound body)

maybe-joined : (body : Option (List Stmt)) → joined_option (maybe_parts body) ≡ maybe_bound body
maybe-joined None = refl
maybe-joined (Some body) = joined-map names_bound body

if_level : (arms : List (Expr × List Stmt)) (other : Option (List Stmt)) → bound_by (parts (StmtKind-F.If arms other)) ≡ arms_bound arms ++ maybe_bound other
if_level arms None = ap (λ first. first ++ []) (arms-joined names_bound arms)
if_level arms (Some body) = ap (λ first. first ++ joined (map names_bound body)) (arms-joined names_bound arms) ∙ ap (λ rest. arms_bound arms ++ rest) (joined-map names_bound body)

try_level : (body : List Stmt) (clauses : List Clause) (other last : Option (List Stmt))
    → joined (map names_bound body) ++ joined (map clause_names clauses) ++ joined_option (maybe_parts other) ++ joined_option (maybe_parts last) ≡ level (StmtKind-F.Try body clauses other last)
try_level body clauses other last = rw (joined-map names_bound body, joined-map clause_names clauses, maybe-joined other, maybe-joined last) refl

try_cases : (body : List Stmt) (clauses : List Clause) (other last : Option (List Stmt)) → bound_by (parts (StmtKind-F.Try body clauses other last)) ≡ level (StmtKind-F.Try body clauses other last)
try_cases body clauses None None = try_level body clauses None None
try_cases body clauses None (Some last) = try_level body clauses None (Some last)
try_cases body clauses (Some other) None = try_level body clauses (Some other) None
try_cases body clauses (Some other) (Some last) = try_level body clauses (Some other) (Some last)

levels_are : (k : StmtKind-F StmtKind Clause Stmt) → bound_by (parts k) ≡ level k
levels_are (StmtKind-F.Assign targets is_tuple annotation e) = refl
levels_are (StmtKind-F.Augment target op e) = refl
levels_are (StmtKind-F.If arms other) = if_level arms other
levels_are (StmtKind-F.While test body) = joined-map names_bound body
levels_are (StmtKind-F.For names is_tuple e body) = ap (λ rest. names ++ rest) (joined-map names_bound body)
levels_are (StmtKind-F.Try body clauses other last) = try_cases body clauses other last
levels_are StmtKind-F.Pass = refl
levels_are StmtKind-F.Break = refl
levels_are StmtKind-F.Continue = refl
levels_are (StmtKind-F.Return e) = refl
levels_are (StmtKind-F.Raise e) = refl
levels_are (StmtKind-F.Assert test message) = refl
levels_are (StmtKind-F.Del of at) = refl
levels_are (StmtKind-F.Bare e) = refl

pub of_kind : (kind : StmtKind) → kind_names kind ≡ level (out-StmtKind kind)
unfolding names_bound clause_names kind_names
of_kind kind = fold_out-StmtKind Spellings Spellings Spellings bound_by clause_bound stmt_bound kind ∙ levels_are (out-StmtKind kind)

by : (kind : StmtKind) (f : StmtKind-F StmtKind Clause Stmt) → out-StmtKind kind ≡ f → kind_names kind ≡ level f
by kind f is = of_kind kind ∙ ap level is

-- what names with those of a kind are, and of a clause
two : (xs a b : Spellings) → xs ++ (a ++ b) ≡ xs ++ a ++ b
two xs a b = sym (append_assoc xs a b)

four : (xs a b c d : Spellings) → xs ++ (a ++ b ++ c ++ d) ≡ xs ++ a ++ b ++ c ++ d
four xs a b c d = sym (append_assoc xs (a ++ b ++ c) d) ∙ ap (λ ys. ys ++ d) (sym (append_assoc xs (a ++ b) c) ∙ ap (λ ys. ys ++ c) (two xs a b))

none : (xs : Spellings) (kind : StmtKind) → kind_names kind ≡ [] → xs ++ kind_names kind ≡ xs
none xs kind e = ap (λ ys. xs ++ ys) e ∙ append-nil xs

pub kind-Pass : (xs : Spellings) → xs ++ kind_names k.Pass ≡ xs
kind-Pass xs = none xs _ (by _ _ outs-Pass)

pub kind-Break : (xs : Spellings) → xs ++ kind_names k.Break ≡ xs
kind-Break xs = none xs _ (by _ _ outs-Break)

pub kind-Continue : (xs : Spellings) → xs ++ kind_names k.Continue ≡ xs
kind-Continue xs = none xs _ (by _ _ outs-Continue)

pub kind-Return : (xs : Spellings) (e : Option Expr) → xs ++ kind_names (k.Return e) ≡ xs
kind-Return xs e = none xs _ (by _ _ (outs-Return e))

pub kind-Raise : (xs : Spellings) (e : Option Expr) → xs ++ kind_names (k.Raise e) ≡ xs
kind-Raise xs e = none xs _ (by _ _ (outs-Raise e))

pub kind-Assert : (xs : Spellings) (test : Expr) (message : Option Expr) → xs ++ kind_names (k.Assert test message) ≡ xs
kind-Assert xs test message = none xs _ (by _ _ (outs-Assert test message))

pub kind-Del : (xs : Spellings) (of : Expr) (at : Expr) → xs ++ kind_names (k.Del of at) ≡ xs
kind-Del xs of at = none xs _ (by _ _ (outs-Del of at))

pub kind-Bare : (xs : Spellings) (e : Expr) → xs ++ kind_names (k.Bare e) ≡ xs
kind-Bare xs e = none xs _ (by _ _ (outs-Bare e))

pub kind-Assign : (xs : Spellings) (targets : List Target) (is_tuple : Bool) (annotation : Option Annotation) (e : Expr) → xs ++ kind_names (k.Assign targets is_tuple annotation e) ≡ xs ++ filter_map target_name targets
kind-Assign xs targets is_tuple annotation e = ap (λ ys. xs ++ ys) (by _ _ (outs-Assign targets is_tuple annotation e))

pub kind-Augment : (xs : Spellings) (target : Target) (op : BinOp) (e : Expr) → xs ++ kind_names (k.Augment target op e) ≡ xs ++ name_or_none (target_name target)
kind-Augment xs target op e = ap (λ ys. xs ++ ys) (by _ _ (outs-Augment target op e))

pub kind-If : (xs : Spellings) (arms : List (Expr × List Stmt)) (other : Option (List Stmt)) → xs ++ kind_names (k.If arms other) ≡ xs ++ arms_bound arms ++ maybe_bound other
kind-If xs arms other = ap (λ ys. xs ++ ys) (by _ _ (outs-If arms other)) ∙ two xs (arms_bound arms) (maybe_bound other)

pub kind-While : (xs : Spellings) (test : Expr) (body : List Stmt) → xs ++ kind_names (k.While test body) ≡ xs ++ block_bound body
kind-While xs test body = ap (λ ys. xs ++ ys) (by _ _ (outs-While test body))

pub kind-For : (xs : Spellings) (names : Spellings) (is_tuple : Bool) (e : Expr) (body : List Stmt) → xs ++ kind_names (k.For names is_tuple e body) ≡ xs ++ names ++ block_bound body
kind-For xs names is_tuple e body = ap (λ ys. xs ++ ys) (by _ _ (outs-For names is_tuple e body)) ∙ two xs names (block_bound body)

pub kind-Try : (xs : Spellings) (body : List Stmt) (clauses : List Clause) (other last : Option (List Stmt))
    → xs ++ kind_names (k.Try body clauses other last) ≡ xs ++ block_bound body ++ flat_map clause_names clauses ++ maybe_bound other ++ maybe_bound last
kind-Try xs body clauses other last = ap (λ ys. xs ++ ys) (by _ _ (outs-Try body clauses other last)) ∙ four xs (block_bound body) (flat_map clause_names clauses) (maybe_bound other) (maybe_bound last)

pub clause-out : (xs : Spellings) (clause : Clause) → xs ++ clause_names clause ≡ xs ++ name_or_none (out-Clause clause).name ++ block_bound (out-Clause clause).body
clause-out xs clause = ap (λ ys. xs ++ ys) (of_clause clause) ∙ two xs (name_or_none (out-Clause clause).name) (block_bound (out-Clause clause).body)

pub ruleset levels = (of_stmt, clause-out, kind-Pass, kind-Break, kind-Continue, kind-Return, kind-Raise, kind-Assert, kind-Del, kind-Bare, kind-Assign, kind-Augment, kind-If, kind-While, kind-For, kind-Try)
