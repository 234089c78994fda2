-- The lines that a suite file may have besides those of a module: its two import lines (Language Reference 7.11), and `with` (8.5) round a step
-- that has to raise (pytest's manual, "Assertions about expected exceptions"). `line` is the number of the logical line.
use Rattle.std.specs.Prelude.{ℕ, Bool, false, ◌&&◌, if◌then◌else◌, List, [], ◌∷◌, Option, Some, None, bytes_eq, codes}
use Rattle.std.specs.Option.{option_map}
use Rattle.py_language.specs.declared.token.Logical.{Logical}
use Rattle.py_language.specs.declared.token.Token.{Token}
use Rattle.py_language.specs.declared.token.Token.TheVariants as t
use Rattle.py_language.specs.declared.token.Keyword.TheVariants as keyword
use Rattle.py_language.specs.Trees.{◌>>=◌}
use Rattle.py_syntax.specs.declared.expr.Args.{Args, out-Args}
use Rattle.py_syntax.specs.declared.expr.Expr.{Expr}
use Rattle.py_syntax.specs.declared.expr.ExprKind.{ExprKind-F}
use Rattle.py_grammar.specs.declared.separator.Separator.TheVariants.{Colon}
use Rattle.py_grammar.specs.Forms.{block, form_of}
use Rattle.py_grammar.specs.Separators.{front, back}
use Rattle.py_grammar.specs.Statements.{expr}
use Rattle.py_plain.specs.Assertions.{ExprNode}
use Rattle.py_plain.specs.Nodes.{kind_of_expr}
use Rattle.suite_grammar.specs.declared.form.TestForm.{TestForm}
use Rattle.suite_grammar.specs.declared.form.TestForm.TheVariants as test
use Rattle.suite_grammar.specs.declared.form.TopForm.{TopForm}
use Rattle.suite_grammar.specs.declared.form.TopForm.TheVariants as top

-- ---- at the top: `import pytest`, and `import NAME as module_0`

abbrev pub lone_import : List ℕ → Option TopForm
lone_import name = if bytes_eq name (codes "pytest") then Some top.Pytest else None

abbrev pub import_as : List ℕ → List ℕ → Option TopForm
import_as name alias = if bytes_eq alias (codes "module_0") then Some (top.Tested name) else None

abbrev pub import_form : List Token → Option TopForm
import_form (t.Name name ∷ []) = lone_import name
import_form (t.Name name ∷ t.Keyword keyword.As ∷ t.Name alias ∷ []) = import_as name alias
import_form _ = None

-- a line of this number and these tokens, by its form in a module
abbrev pub top_by : Option TopForm → List Token → Option TopForm
top_by usual (t.Keyword keyword.Import ∷ xs) = import_form xs
top_by usual xs = usual

-- the form of a line at the top of a suite file, if it has one
unfoldable pub top_form : Logical → Option TopForm
top_form l = top_by (option_map top.Usual (form_of l)) l.tokens

-- ---- in a test: `with pytest.raises(CLASS):`, by the tree of its item

abbrev pub is_pytest : ExprNode → Bool
is_pytest (ExprKind-F.Name name) = bytes_eq name (codes "pytest")
is_pytest _ = false

-- one argument without a name
abbrev pub lone_argument : List Expr → List (List ℕ × Expr) → Option Expr
lone_argument (class ∷ []) [] = Some class
lone_argument _ _ = None

abbrev pub class_given : Args → Option Expr
class_given args = lone_argument (out-Args args).plain (out-Args args).named

abbrev pub raised_by : ExprNode → Option Expr
raised_by (ExprKind-F.Method of name args) = if is_pytest (kind_of_expr of) && bytes_eq name (codes "raises") then class_given args else None
raised_by _ = None

-- the class of an item
abbrev pub raised_in : Expr → Option Expr
raised_in item = raised_by (kind_of_expr item)

-- by what is before the first colon, and what is from there on
abbrev pub with_by : ℕ → List Token → List Token → Option TestForm
with_by line before [] = None
with_by line before (x ∷ xs) = do
  item ← expr line before
  class ← raised_in item
  body ← block line xs
  Some (test.Raises class body)

abbrev pub with_form : ℕ → List Token → Option TestForm
with_form line xs = with_by line (front Colon xs) (back Colon xs)

abbrev pub test_by : ℕ → Option TestForm → List Token → Option TestForm
test_by line usual (t.Keyword keyword.With ∷ xs) = with_form line xs
test_by line usual xs = usual

-- the form of a line in a test, if it has one
unfoldable pub test_form : Logical → Option TestForm
test_form l = test_by l.line (option_map test.Usual (form_of l)) l.tokens
