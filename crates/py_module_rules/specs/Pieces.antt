-- Parts of the rules, as the code has them.
use Rattle.std.specs.Prelude.{ℕ, Bool, true, false, not, ◌||◌, if◌then◌else◌, List, [], ◌∷◌, ◌++◌, Option, Some, None, codes, bytes_eq}
use Rattle.std.specs.List.{flat_map}
use Rattle.py_syntax.specs.declared.expr.Expr.{Expr}
use Rattle.py_syntax.specs.declared.module.Func.{Func}
use Rattle.py_syntax.specs.declared.module.Item.{Item}
use Rattle.py_syntax.specs.declared.module.Item.TheVariants as item
use Rattle.py_syntax.specs.declared.module.Param.{Param}
use Rattle.py_meaning.specs.Methods.{Names, is_among}
use Rattle.py_scopes.specs.Annotations.{is_exception_name}
use Rattle.py_scopes.specs.Constants.{is_constant, constant, Constant}
use Rattle.py_scopes.specs.ModuleRows.{is_text, line_if, is_allowed, statement_in_member, default_where, future_lines, late_futures, statement_in, statements_in_class, base_in, params_from}
use Rattle.py_scopes.specs.Names.{assigned, with_assigned, Standing}

abbrev pub line_of : Func → ℕ
line_of f = f.line

-- ---- the future line

abbrev pub after_docstring : List Item → List Item
after_docstring [] = []
after_docstring (first ∷ items) = if is_text first then items else first ∷ items

abbrev pub future_of : Item → Option ℕ
future_of (item.Import line []) = Some line
future_of _ = None

-- the lines that break the rule among items, after something else or not
abbrev pub futures_left : Bool → List Item → List ℕ
futures_left true items = future_lines items
futures_left false items = late_futures items

-- ---- by the constants before an item

abbrev pub with_item : Names ℕ → Item → Names ℕ
with_item names (item.Other stmt) = with_assigned names (assigned stmt)
with_item names _ = names

abbrev pub statement_by : Names ℕ → Item → List ℕ
statement_by names (item.Other stmt) = line_if (not (is_allowed names stmt)) stmt.line
statement_by names _ = []

abbrev pub statements_by : Names ℕ → Item → List ℕ
statements_by names (item.Class c) = flat_map (statement_in_member names) c.members
statements_by names _ = []

-- ---- parameters

abbrev pub params_where : (Expr → Bool) → List Param → List ℕ
params_where is_faulty params = flat_map (λ (p : Param). default_where is_faulty p.line p.default) params

abbrev pub functions_where : (Expr → Bool) → List Func → List ℕ
functions_where is_faulty functions = flat_map (λ (f : Func). params_where is_faulty f.params) functions

abbrev pub is_no_constant : Names ℕ → Expr → Bool
is_no_constant names x = not (is_constant names x)

-- ---- constants

abbrev pub constant_of : Names ℕ → Expr → Option Constant
constant_of names x = constant x names

-- ---- what stands among items

abbrev pub statement_at : Standing Item → List ℕ
statement_at s = statement_in s.before s.now

abbrev pub class_statements_at : Standing Item → List ℕ
class_statements_at s = statements_in_class s.before s.now

abbrev pub base_at : Standing Item → List ℕ
base_at s = base_in s.before s.now

-- by the names of the classes before it
abbrev pub is_base_by : List (List ℕ) → Option (List ℕ) → Bool
is_base_by classes None = true
is_base_by classes (Some name) = is_among classes name || bytes_eq name (codes "object") || is_exception_name name

abbrev pub base_by : List (List ℕ) → Item → List ℕ
base_by classes (item.Class c) = line_if (not (is_base_by classes c.base)) c.line
base_by classes _ = []

abbrev pub with_class : List (List ℕ) → Item → List (List ℕ)
with_class classes (item.Class c) = classes ++ c.name ∷ []
with_class classes _ = classes

-- the lines of a function whose parameters break their rule
abbrev pub params_of : Func → List ℕ
params_of f = params_from [] false f.params
