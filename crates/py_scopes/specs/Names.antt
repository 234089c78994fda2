-- What a module and its classes bind, in order, and what is known where a statement stands (Language Reference 4.2.1, 8.7 and 8.8).
use Rattle.std.specs.Prelude.{ℕ, false, List, [], ◌∷◌, ◌++◌, map, Option, Some, None, option_to_list}
use Rattle.std.specs.List.{flat_map, filter_map}
use Rattle.py_syntax.specs.declared.expr.Expr.{Expr}
use Rattle.py_syntax.specs.declared.module.Item.{Item}
use Rattle.py_syntax.specs.declared.module.Item.TheVariants as item
use Rattle.py_syntax.specs.declared.module.Member.{Member}
use Rattle.py_syntax.specs.declared.module.Member.TheVariants as member
use Rattle.py_syntax.specs.declared.stmt.Annotation.{Annotation}
use Rattle.py_syntax.specs.declared.stmt.Clause.{Clause}
use Rattle.py_syntax.specs.declared.stmt.Stmt.{Stmt}
use Rattle.py_syntax.specs.declared.stmt.StmtKind.{StmtKind, StmtKind-F, out-StmtKind}
use Rattle.py_syntax.specs.declared.stmt.Target.TheVariants as target
use Rattle.py_meaning.specs.Methods.{Names}
use Rattle.py_scopes.specs.Constants.{Constant, constant}

-- an assignment to one name: the name, its annotation and its value
pub record Assigned : Type 0 where
  pub name : List ℕ
  pub annotation : Option Annotation
  pub value : Expr

abbrev pub assigned_by : StmtKind-F StmtKind Clause Stmt → Option Assigned
assigned_by (StmtKind-F.Assign (target.Name name ∷ []) false annotation x) = Some record { name = name; annotation = annotation; value = x }
assigned_by _ = None

abbrev pub assigned : Stmt → Option Assigned
assigned stmt = assigned_by (out-StmtKind stmt.kind)

-- ---- names with the lines on which they are bound

pub record Bound : Type 0 where
  pub name : List ℕ
  pub line : ℕ

abbrev pub bound : List ℕ → ℕ → Bound
bound name line = record { name = name; line = line }

abbrev pub bound_by : Stmt → List Bound
bound_by stmt = map (λ (a : Assigned). bound a.name stmt.line) (option_to_list (assigned stmt))

abbrev pub bound_by_item : Item → List Bound
bound_by_item (item.Func f) = bound f.name f.line ∷ []
bound_by_item (item.Class c) = bound c.name c.line ∷ []
bound_by_item (item.Import line names) = map (λ name. bound name line) names
bound_by_item (item.Other stmt) = bound_by stmt

abbrev pub bound_by_member : Member → List Bound
bound_by_member (member.Func f) = bound f.name f.line ∷ []
bound_by_member (member.Other stmt) = bound_by stmt

abbrev pub names_of : List Bound → List (List ℕ)
names_of bounds = map (λ (b : Bound). b.name) bounds

abbrev pub module_names : List Item → List (List ℕ)
module_names items = names_of (flat_map bound_by_item items)

abbrev pub class_names : List Member → List (List ℕ)
class_names members = names_of (flat_map bound_by_member members)

-- ---- what is before a statement

-- one of several, with those before it
pub record Standing (A : Type 0) : Type 0 where
  pub before : List A
  pub now : A

abbrev pub standing_from : {A : Type 0} → List A → List A → List (Standing A)
standing_from before [] = []
standing_from before (x ∷ xs) = record { before = before; now = x } ∷ standing_from (before ++ x ∷ []) xs

abbrev pub standing : {A : Type 0} → List A → List (Standing A)
standing xs = standing_from [] xs

-- the module's constants among items, with the depths of their values
abbrev pub with_constant : Names ℕ → List ℕ → Option Constant → Names ℕ
with_constant names name None = names
with_constant names name (Some x) = names ++ (name, x.depth) ∷ []

abbrev pub with_assigned : Names ℕ → Option Assigned → Names ℕ
with_assigned names None = names
with_assigned names (Some a) = with_constant names a.name (constant a.value names)

abbrev pub constants_from : Names ℕ → List Item → Names ℕ
constants_from names [] = names
constants_from names (item.Other stmt ∷ items) = constants_from (with_assigned names (assigned stmt)) items
constants_from names (other ∷ items) = constants_from names items

abbrev pub constants_of : List Item → Names ℕ
constants_of items = constants_from [] items

abbrev pub class_in : Item → Option (List ℕ)
class_in (item.Class c) = Some c.name
class_in _ = None

-- the names of classes, and of what is imported, among items
abbrev pub classes_in : List Item → List (List ℕ)
classes_in items = filter_map class_in items

abbrev pub imported_in : Item → List (List ℕ)
imported_in (item.Import line names) = names
imported_in _ = []

abbrev pub imports_in : List Item → List (List ℕ)
imports_in items = flat_map imported_in items
