-- The names that statements bind, and with them the locals of a function (Language Reference 4.2.1: "If a name is bound in a block,
-- it is a local variable of that block").
use Rattle.std.specs.Prelude.{ℕ, List, [], ◌∷◌, ◌++◌, map, Option, Some, None}
use Rattle.std.specs.List.{flat_map, filter_map}
use Rattle.py_syntax.specs.declared.module.Func.{Func}
use Rattle.py_syntax.specs.declared.stmt.Clause.{Clause, Clause-F, fold-Clause}
use Rattle.py_syntax.specs.declared.stmt.Stmt.{Stmt, Stmt-F, fold-Stmt}
use Rattle.py_syntax.specs.declared.stmt.StmtKind.{StmtKind, StmtKind-F, fold-StmtKind}
use Rattle.py_syntax.specs.declared.stmt.Target.{Target}
use Rattle.py_syntax.specs.declared.stmt.Target.TheVariants as target

abbrev pub Spellings : Type 0
Spellings = List (List ℕ)

abbrev pub joined : List Spellings → Spellings
joined = flat_map (λ names. names)

abbrev pub joined_option : Option (List Spellings) → Spellings
joined_option None = []
joined_option (Some parts) = joined parts

-- A target that is an attribute or an item binds no name.
abbrev pub target_name : Target → Option (List ℕ)
target_name (target.Name name) = Some name
target_name _ = None

abbrev pub name_or_none : Option (List ℕ) → Spellings
name_or_none None = []
name_or_none (Some name) = name ∷ []

-- what a statement binds, from what the statements and clauses in it bind
abbrev pub bound_by : StmtKind-F Spellings Spellings Spellings → Spellings
bound_by (StmtKind-F.Assign targets is_tuple annotation e) = filter_map target_name targets
bound_by (StmtKind-F.Augment target op e) = name_or_none (target_name target)
bound_by (StmtKind-F.If arms other) = flat_map (λ arm. joined arm.1) arms ++ joined_option other
bound_by (StmtKind-F.While test body) = joined body
bound_by (StmtKind-F.For names is_tuple e body) = names ++ joined body
bound_by (StmtKind-F.Try body clauses other last) = joined body ++ joined clauses ++ joined_option other ++ joined_option last
bound_by _ = []

-- a clause binds the name after `as`, and what its block binds
abbrev pub clause_bound : Clause-F Spellings Spellings Spellings → Spellings
clause_bound clause = name_or_none clause.name ++ joined clause.body

abbrev pub stmt_bound : Stmt-F Spellings Spellings Spellings → Spellings
stmt_bound stmt = stmt.kind

-- the names that a statement binds, those of its blocks too, in the order of the text
unfoldable pub names_bound : Stmt → Spellings
names_bound = fold-Stmt Spellings Spellings Spellings bound_by clause_bound stmt_bound

-- those of a clause
unfoldable pub clause_names : Clause → Spellings
clause_names = fold-Clause Spellings Spellings Spellings bound_by clause_bound stmt_bound

-- those of a statement without its number and line
unfoldable pub kind_names : StmtKind → Spellings
kind_names = fold-StmtKind Spellings Spellings Spellings bound_by clause_bound stmt_bound

abbrev pub parameters : Func → Spellings
parameters f = map (λ param. param.name) f.params

-- Every name that a function binds anywhere is local in all of it, its parameters too. A name may be listed more than once.
abbrev pub locals : Func → Spellings
locals f = parameters f ++ flat_map names_bound f.body
