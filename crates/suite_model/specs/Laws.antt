-- Types one level at a time, and what is kept of what was kept.
use Rattle.std.specs.Prelude.{◌≡◌, ◌≤◌, ℕ, List, length, take}
use Rattle.py_syntax.specs.declared.stmt.Annotation.{Annotation, map-Annotation, out-Annotation}
use Rattle.py_syntax.specs.declared.stmt.Stmt.{Stmt}
use Rattle.py_meaning.specs.Worlds.{World}
use Rattle.py_plain.specs.declared.state.State.{State}
use Rattle.py_plain.specs.Program.{ClassInfo, Program}
use Rattle.py_plain.specs.Tests.{Trail}
use Rattle.py_syntax.specs.declared.expr.Expr.{Expr}
use Rattle.suite_model.specs.declared.suite.Shown.{Shown, map-Shown, out-Shown}
use Rattle.suite_model.specs.declared.ty.Ty.{Ty, map-Ty, out-Ty}
use Rattle.suite_model.specs.Assertions.{display, display_by}
use Rattle.suite_model.specs.Kept.{kept_from}
use Rattle.suite_model.specs.Types.{annotated, type_by, Asked, asked_by, same_type, fits}

abbrev pub ByAnnotation : Type 0
ByAnnotation = (classes : List ClassInfo) (annotation : Annotation) →
    annotated classes annotation ≡ type_by classes (map-Annotation Annotation Ty (annotated classes) (out-Annotation annotation))

-- what is asked of a type, from what is asked of its parts
abbrev pub asked_of : Program → Ty → Asked
asked_of program t = record { same = same_type program t; fits = λ given. fits program given t }

abbrev pub asked_again : Program → Ty → Asked
asked_again program t = asked_by program (map-Ty Ty Asked (asked_of program) (out-Ty t))

abbrev pub BySame : Type 0
BySame = (program : Program) (t : Ty) (given : Ty) → same_type program t given ≡ (asked_again program t).same given

abbrev pub ByFits : Type 0
ByFits = (program : Program) (given : Ty) (t : Ty) → fits program given t ≡ (asked_again program t).fits given

-- a display, from those of its parts
abbrev pub ByShown : Type 0
ByShown = (shown : Shown) → display shown ≡ display_by (map-Shown Shown Expr display (out-Shown shown))

-- The statements that are kept, run alone, take the same steps and leave the same trail: what follows them plays no part.
abbrev pub KeptAlone : Type 0
KeptAlone = (program : Program) (limit : ℕ) (stmts : List Stmt) (s : State World Trail) →
    let whole = kept_from program limit stmts s in
    let alone = kept_from program limit (take (length whole.used) stmts) s in
    (alone.used ≡ whole.used) × (alone.trail ≡ whole.trail)

-- no more is kept than there is
abbrev pub KeptOf : Type 0
KeptOf = (program : Program) (limit : ℕ) (stmts : List Stmt) (s : State World Trail) →
    length (kept_from program limit stmts s).used ≤ length stmts
