-- The rules of statements at a module's level and in classes, of functions' lines, and of what they bind. Each rule gives the lines that
-- break it.
use Rattle.std.specs.Prelude.{ℕ, ◌+◌, Bool, true, false, ◌&&◌, ◌||◌, not, nat_lt, if◌then◌else◌, List, [], ◌∷◌, ◌++◌, drop, map, count_by, Option, Some, None, is_some, codes, bytes_eq}
use Rattle.std.specs.List.{list_any, flat_map}
use Rattle.pyn_base.specs.declared.class.ClassId.{ClassId}
use Rattle.pyn_base.specs.declared.class.ClassId.TheVariants.{Built, Own}
use Rattle.py_syntax.specs.declared.expr.Args.{Args}
use Rattle.py_syntax.specs.declared.expr.Expr.{Expr}
use Rattle.py_syntax.specs.declared.expr.ExprKind.{ExprKind, ExprKind-F, out-ExprKind}
use Rattle.py_syntax.specs.declared.module.Func.{Func}
use Rattle.py_syntax.specs.declared.module.Item.{Item}
use Rattle.py_syntax.specs.declared.module.Item.TheVariants as item
use Rattle.py_syntax.specs.declared.module.Member.{Member}
use Rattle.py_syntax.specs.declared.module.Member.TheVariants as member
use Rattle.py_syntax.specs.declared.module.Module.{Module}
use Rattle.py_syntax.specs.declared.module.Param.{Param}
use Rattle.py_syntax.specs.declared.stmt.Annotation.{Annotation}
use Rattle.py_syntax.specs.declared.stmt.Clause.{Clause}
use Rattle.py_syntax.specs.declared.stmt.Stmt.{Stmt}
use Rattle.py_syntax.specs.declared.stmt.StmtKind.{StmtKind, StmtKind-F, out-StmtKind}
use Rattle.py_meaning.specs.Methods.{Names, named, is_among}
use Rattle.py_plain.specs.BuiltNames.{built_classes, built_functions}
use Rattle.py_plain.specs.Classes.{resolution_order}
use Rattle.py_plain.specs.Program.{Program, program_of}
use Rattle.py_scopes.specs.Annotations.{is_exception_name, is_faulty, unquoted_in}
use Rattle.py_scopes.specs.Constants.{is_constant, has_display}
use Rattle.py_scopes.specs.Names.{Assigned, assigned, Bound, bound_by_item, bound_by_member, class_names, Standing, standing, constants_of, classes_in}
use Rattle.py_scopes.specs.Uses.{Use, Used, Uses, Reads, Annotated, uses_of, uses_of_body, annotated}

-- ---- functions

abbrev pub functions_in_member : Member → List Func
functions_in_member (member.Func f) = f ∷ []
functions_in_member (member.Other stmt) = []

abbrev pub functions_in_item : Item → List Func
functions_in_item (item.Func f) = f ∷ []
functions_in_item (item.Class c) = flat_map functions_in_member c.members
functions_in_item _ = []

abbrev pub most_functions : ℕ
most_functions = 2000

abbrev pub too_many_functions : Module → List ℕ
too_many_functions m = map (λ (f : Func). f.line) (drop most_functions (flat_map functions_in_item m.items))

-- ---- the future line: after a docstring, which is the first statement, and other such lines alone

abbrev pub is_string_by : ExprKind-F ExprKind Args Expr → Bool
is_string_by (ExprKind-F.StrLit text) = true
is_string_by _ = false

abbrev pub is_string : Expr → Bool
is_string x = is_string_by (out-ExprKind x.kind)

abbrev pub is_text_by : StmtKind-F StmtKind Clause Stmt → Bool
is_text_by (StmtKind-F.Bare x) = is_string x
is_text_by _ = false

abbrev pub is_text : Item → Bool
is_text (item.Other stmt) = is_text_by (out-StmtKind stmt.kind)
is_text _ = false

abbrev pub future_lines : List Item → List ℕ
future_lines [] = []
future_lines (item.Import line [] ∷ items) = line ∷ future_lines items
future_lines (other ∷ items) = future_lines items

-- those after anything else
abbrev pub late_futures : List Item → List ℕ
late_futures (item.Import line [] ∷ items) = late_futures items
late_futures items = future_lines items

abbrev pub import_lines : List Item → List ℕ
import_lines [] = []
import_lines (first ∷ items) = if is_text first then late_futures items else late_futures (first ∷ items)

abbrev pub import_order : Module → List ℕ
import_order m = import_lines m.items

-- ---- statements

-- an assignment whose value has a display
abbrev pub makes_state_by : StmtKind-F StmtKind Clause Stmt → Bool
makes_state_by (StmtKind-F.Assign targets is_tuple annotation x) = has_display x
makes_state_by _ = false

abbrev pub makes_state : Stmt → Bool
makes_state stmt = makes_state_by (out-StmtKind stmt.kind)

abbrev pub has_constant : Names ℕ → Option Assigned → Bool
has_constant names None = false
has_constant names (Some a) = is_constant names a.value

abbrev pub is_allowed_by : StmtKind-F StmtKind Clause Stmt → Bool
is_allowed_by StmtKind-F.Pass = true
is_allowed_by (StmtKind-F.Bare x) = is_string x
is_allowed_by _ = false

-- `pass`, a string, or one name assigned a constant
abbrev pub is_allowed : Names ℕ → Stmt → Bool
is_allowed names stmt = is_allowed_by (out-StmtKind stmt.kind) || has_constant names (assigned stmt)

abbrev pub line_if : Bool → ℕ → List ℕ
line_if true line = line ∷ []
line_if false line = []

abbrev pub state_in_member : Member → List ℕ
state_in_member (member.Func f) = []
state_in_member (member.Other stmt) = line_if (makes_state stmt) stmt.line

abbrev pub state_in_item : Item → List ℕ
state_in_item (item.Class c) = flat_map state_in_member c.members
state_in_item (item.Other stmt) = line_if (makes_state stmt) stmt.line
state_in_item _ = []

abbrev pub module_state : Module → List ℕ
module_state m = flat_map state_in_item m.items

abbrev pub statement_in : List Item → Item → List ℕ
statement_in before (item.Other stmt) = line_if (not (is_allowed (constants_of before) stmt)) stmt.line
statement_in before _ = []

abbrev pub module_statement : Module → List ℕ
module_statement m = flat_map (λ (s : Standing Item). statement_in s.before s.now) (standing m.items)

abbrev pub statement_in_member : Names ℕ → Member → List ℕ
statement_in_member names (member.Func f) = []
statement_in_member names (member.Other stmt) = line_if (not (is_allowed names stmt)) stmt.line

abbrev pub statements_in_class : List Item → Item → List ℕ
statements_in_class before (item.Class c) = flat_map (statement_in_member (constants_of before)) c.members
statements_in_class before _ = []

abbrev pub class_statement : Module → List ℕ
class_statement m = flat_map (λ (s : Standing Item). statements_in_class s.before s.now) (standing m.items)

-- ---- names that are bound twice

abbrev pub is_built_name : List ℕ → Bool
is_built_name name = is_some (named built_classes name) || is_some (named built_functions name)

-- where these are bound already
abbrev pub bound_again : List (List ℕ) → List Bound → List ℕ
bound_again names [] = []
bound_again names (b ∷ bounds) = line_if (is_among names b.name) b.line ++ bound_again (names ++ b.name ∷ []) bounds

abbrev pub bound_built : Bound → List ℕ
bound_built b = line_if (is_built_name b.name) b.line

abbrev pub again_in_class : Item → List ℕ
again_in_class (item.Class c) = bound_again [] (flat_map bound_by_member c.members)
again_in_class _ = []

abbrev pub duplicate_name : Module → List ℕ
duplicate_name m = let bounds = flat_map bound_by_item m.items in bound_again [] bounds ++ flat_map bound_built bounds ++ flat_map again_in_class m.items

-- ---- classes

abbrev pub is_base : List Item → Option (List ℕ) → Bool
is_base before None = true
is_base before (Some name) = is_among (classes_in before) name || bytes_eq name (codes "object") || is_exception_name name

abbrev pub base_in : List Item → Item → List ℕ
base_in before (item.Class c) = line_if (not (is_base before c.base)) c.line
base_in before _ = []

abbrev pub unknown_base : Module → List ℕ
unknown_base m = flat_map (λ (s : Standing Item). base_in s.before s.now) (standing m.items)

abbrev pub is_own : ClassId → Bool
is_own (Own k) = true
is_own (Built class) = false

abbrev pub longest_chain : ℕ
longest_chain = 20

-- a class itself, and those of the module above it
abbrev pub has_long_chain : Program → ℕ → Bool
has_long_chain program k = nat_lt (longest_chain + 1) (count_by is_own (resolution_order program (Own k)))

abbrev pub chains_from : Program → ℕ → List Item → List ℕ
chains_from program k [] = []
chains_from program k (item.Class c ∷ items) = line_if (has_long_chain program k) c.line ++ chains_from program (k + 1) items
chains_from program k (other ∷ items) = chains_from program k items

abbrev pub base_chain : Module → List ℕ
base_chain m = chains_from (program_of m) 0 m.items

-- ---- parameters and their defaults

-- where these names came before, and whether one of them has a default
abbrev pub params_from : List (List ℕ) → Bool → List Param → List ℕ
params_from names had [] = []
params_from names had (p ∷ params) =
    line_if (is_among names p.name || (had && not (is_some p.default))) p.line ++ params_from (names ++ p.name ∷ []) (had || is_some p.default) params

abbrev pub parameters : Module → List ℕ
parameters m = flat_map (λ (f : Func). params_from [] false f.params) (flat_map functions_in_item m.items)

abbrev pub default_where : (Expr → Bool) → ℕ → Option Expr → List ℕ
default_where is_faulty line None = []
default_where is_faulty line (Some x) = line_if (is_faulty x) line

abbrev pub defaults_where : (Expr → Bool) → Item → List ℕ
defaults_where is_faulty now = flat_map (λ (f : Func). flat_map (λ (p : Param). default_where is_faulty p.line p.default) f.params) (functions_in_item now)

abbrev pub mutable_default : Module → List ℕ
mutable_default m = flat_map (defaults_where has_display) m.items

abbrev pub defaults_in : Standing Item → List ℕ
defaults_in s = defaults_where (λ x. not (is_constant (constants_of s.before) x)) s.now

abbrev pub defaults : Module → List ℕ
defaults m = flat_map defaults_in (standing m.items)

-- ---- annotations

-- Those of parameters and results, and of names at a module's level and in classes, are evaluated, unless the module has the future line.
module _ (m : Module) (before : List Item) where
  abbrev pub faulty_use : Bool → ℕ → Use → List ℕ
  faulty_use evaluated line (Annotated annotation) = line_if (is_faulty m.items before (evaluated && not m.future) annotation) line
  faulty_use evaluated line _ = []

  abbrev pub faulty_uses : Bool → Uses → List ℕ
  faulty_uses evaluated uses = flat_map (λ (u : Used). faulty_use evaluated u.line u.use') uses

  abbrev pub in_function : Func → List ℕ
  in_function f = faulty_uses true (flat_map (λ (p : Param). annotated p.line p.annotation) f.params ++ annotated f.line f.returns) ++ faulty_uses false (uses_of_body f.body)

  abbrev pub in_member : Member → List ℕ
  in_member (member.Func f) = in_function f
  in_member (member.Other stmt) = faulty_uses true (uses_of_body (stmt ∷ []))

  abbrev pub in_item : Item → List ℕ
  in_item (item.Func f) = in_function f
  in_item (item.Class c) = flat_map in_member c.members
  in_item (item.Import line names) = []
  in_item (item.Other stmt) = faulty_uses true (uses_of_body (stmt ∷ []))

abbrev pub annotations : Module → List ℕ
annotations m = flat_map (λ (s : Standing Item). in_item m s.before s.now) (standing m.items)

-- ---- what a class body binds isn't seen by what is evaluated in it afterwards

abbrev pub read_by : Use → List (List ℕ)
read_by (Reads name) = name ∷ []
read_by _ = []

abbrev pub reads_in : Uses → List (List ℕ)
reads_in uses = flat_map (λ (u : Used). read_by u.use') uses

abbrev pub names_some : List (List ℕ) → List (List ℕ) → Bool
names_some names used = list_any (is_among names) used

abbrev pub evaluated_names : Bool → Option Annotation → List (List ℕ)
evaluated_names true annotation = []
evaluated_names false None = []
evaluated_names false (Some annotation) = unquoted_in annotation

abbrev pub reads_of : Option Expr → List (List ℕ)
reads_of None = []
reads_of (Some x) = reads_in (uses_of x)

module _ (future : Bool) where
  abbrev pub scope_in_param : List (List ℕ) → Param → List ℕ
  scope_in_param names p = line_if (names_some names (reads_of p.default ++ evaluated_names future p.annotation)) p.line

  abbrev pub scope_in_assigned : List (List ℕ) → ℕ → Option Assigned → List ℕ
  scope_in_assigned names line None = []
  scope_in_assigned names line (Some a) =
      line_if (names_some names (reads_in (uses_of a.value)) || names_some (a.name ∷ names) (evaluated_names future a.annotation)) line

  -- where these names are bound before
  abbrev pub scope_in : List (List ℕ) → Member → List ℕ
  scope_in names (member.Func f) = flat_map (scope_in_param names) f.params ++ line_if (names_some names (evaluated_names future f.returns)) f.line
  scope_in names (member.Other stmt) = scope_in_assigned names stmt.line (assigned stmt)

  abbrev pub scope_in_item : Item → List ℕ
  scope_in_item (item.Class c) = flat_map (λ (s : Standing Member). scope_in (class_names s.before) s.now) (standing c.members)
  scope_in_item _ = []

abbrev pub class_scope : Module → List ℕ
class_scope m = flat_map (scope_in_item m.future) m.items
