-- The statements that assertions are (Language Reference 7.3): of a variable or an attribute, by `is`, `==` or `isinstance`.
use Rattle.std.specs.Prelude.{ℕ, if◌then◌else◌, List, [], ◌∷◌, None, codes, slice_get}
use Rattle.pyn_base.specs.declared.class.BuiltClass.{BuiltClass}
use Rattle.pyn_base.specs.declared.class.ClassId.{ClassId}
use Rattle.pyn_base.specs.declared.class.ClassId.TheVariants.{Built, Own}
use Rattle.py_syntax.specs.declared.expr.Args.{roll-Args}
use Rattle.py_syntax.specs.declared.expr.Expr.{Expr}
use Rattle.py_syntax.specs.declared.expr.ExprKind.TheVariants as e
use Rattle.py_syntax.specs.declared.operator.CmpOp.TheVariants.{Eq, Same}
use Rattle.py_syntax.specs.declared.stmt.Stmt.{Stmt}
use Rattle.py_syntax.specs.declared.stmt.StmtKind.TheVariants as s
use Rattle.py_meaning.specs.Methods.{Names}
use Rattle.py_meaning.specs.Values.{same_class}
use Rattle.py_plain.specs.BuiltNames.{built_classes}
use Rattle.py_plain.specs.Program.{Program}
use Rattle.suite_model.specs.declared.suite.Assert.{Assert}
use Rattle.suite_model.specs.declared.suite.Shown.{Shown, Shown-F, fold-Shown}
use Rattle.suite_model.specs.declared.suite.Subject.{Subject}
use Rattle.suite_model.specs.declared.suite.Subject.TheVariants.{Whole, Attr}
use Rattle.suite_model.specs.declared.suite.Wants.{Wants}
use Rattle.suite_model.specs.declared.suite.Wants.TheVariants.{Is, Equals, Kind}
use Rattle.suite_model.specs.Statements.{expression, variable_read, literal, class_name, module_read}

-- ---- displays

abbrev pub display_by : Shown-F Expr → Expr
display_by (Shown-F.Prim p) = literal p
display_by (Shown-F.List parts) = expression (e.ListLit parts)
display_by (Shown-F.Tuple parts) = expression (e.TupleLit parts)
display_by (Shown-F.Dict pairs) = expression (e.DictLit pairs)

unfoldable pub display : Shown → Expr
display = fold-Shown Expr display_by

-- ---- classes by their names: that of a built-in one, or `module_0.NAME`

abbrev pub name_in : Names BuiltClass → BuiltClass → List ℕ
name_in [] class = []
name_in (row ∷ rows) class = if same_class (Built row.1) (Built class) then row.0 else name_in rows class

-- the bare name of a class
abbrev pub bare_name : Program → ClassId → List ℕ
bare_name program (Built class) = name_in built_classes class
bare_name program (Own k) = class_name (slice_get program.classes k)

abbrev pub class_read : Program → ClassId → Expr
class_read program (Built class) = expression (e.Name (bare_name program (Built class)))
class_read program (Own k) = expression (e.Attr module_read (bare_name program (Own k)))

-- ---- assertions

abbrev pub subject_read : Subject → Expr
subject_read (Whole k) = variable_read k
subject_read (Attr k name) = expression (e.Attr (variable_read k) name)

abbrev pub condition : Program → Expr → Wants → Expr
condition program subject (Is p) = expression (e.Compare subject ((Same, literal p) ∷ []))
condition program subject (Equals shown) = expression (e.Compare subject ((Eq, display shown) ∷ []))
condition program subject (Kind class) =
    expression (e.Call (expression (e.Name (codes "isinstance"))) (roll-Args record { plain = subject ∷ class_read program class ∷ []; named = [] }))

abbrev pub assertion : Program → Assert → Stmt
assertion program a = record { node = record { 0 = 0 }; line = 1; kind = s.Assert (condition program (subject_read a.subject) a.wants) None }
