-- Short names for the worked examples of forms.
use Rattle.std.specs.Prelude.{List, [], Option, Some, None, map, codes}
use Rattle.py_language.specs.declared.token.Token.{Token}
use Rattle.py_language.specs.declared.token.Token.TheVariants as t
use Rattle.py_syntax.specs.declared.expr.Expr.{Expr}
use Rattle.py_syntax.specs.declared.expr.ExprKind.TheVariants as e
use Rattle.py_syntax.specs.declared.module.Param.{Param}
use Rattle.py_syntax.specs.declared.stmt.Annotation.{Annotation}
use Rattle.py_syntax.specs.declared.stmt.Annotation.TheVariants.{Named}
use Rattle.py_syntax.specs.declared.stmt.Stmt.{Stmt}
use Rattle.py_syntax.specs.declared.stmt.StmtKind.{StmtKind}
use Rattle.py_grammar.specs.declared.form.Form.{Form}
use Rattle.py_grammar.specs.declared.form.Form.TheVariants.{Simple, Compound}
use Rattle.py_grammar.specs.declared.form.Header.{Header}
use Rattle.py_grammar.specs.Forms.{form_of}
use Prim.Native.String.{String}

-- the form of a logical line that begins on the third line of its text
abbrev pub read : List Token → Option Form
read xs = form_of (record { line = 3; column = 0; tokens = xs })

abbrev pub name : String → Token
name n = t.Name (codes n)

-- a name as an expression, which is on the third line
abbrev pub operand : String → Expr
operand n = record { node = record { 0 = 0 }; line = 3; kind = e.Name (codes n) }

abbrev pub small : StmtKind → Stmt
small kind = record { node = record { 0 = 0 }; line = 3; kind = kind }

-- small statements
abbrev pub statements : List StmtKind → Option Form
statements kinds = Some (Simple (map small kinds))

-- a header alone on its line
abbrev pub alone : Header → Option Form
alone header = Some (Compound header None)

-- a name as an annotation
abbrev pub type : String → Annotation
type n = Named (codes n) []

abbrev pub param : String → Option Annotation → Option Expr → Param
param n annotation default = record { name = codes n; annotation = annotation; default = default; line = 3 }
