-- What the readers of blocks give, with what they have read before.
use Rattle.std.specs.Prelude.{ℕ, List, ◌++◌, Option, Some, None, Result, Ok}
use Rattle.std.specs.Borrow.{Bor}
use Rattle.std.specs.declared.alloc.Global.{Global}
use Rattle.py_language.specs.declared.token.Logical.{Logical}
use Rattle.py_syntax.specs.Gives.{Gives}
use Rattle.py_syntax.specs.declared.expr.Expr.{Expr}
use Rattle.py_syntax.specs.declared.refusal.Refusal.{Refusal}
use Rattle.py_syntax.specs.declared.stmt.Clause.{Clause}
use Rattle.py_syntax.specs.declared.stmt.Stmt.{Stmt}
use Rattle.py_grammar.specs.declared.form.Form.{Form}
use Rattle.py_grammar.specs.declared.place.Place.{Place}
use Rattle.py_grammar.specs.Forms.{form_of}
use Rattle.py_grammar.specs.Refusals.{refused}
use Rattle.py_grammar.specs.Blocks as blocks
use Rattle.py_grammar.specs.Blocks.{◌>>=◌}
use Rattle.py_grammar.specs.Compounds.{statements}
use Rattle.py_parser.specs.declared.lines.Group.{Group}
use Rattle.py_parser.specs.Lines.{group_of}

-- a function value gives the statements of the blocks that are inside these lines
pub record Inner (room : ℕ) (pre : Global → Option Refusal → Bor (List Logical) → ℕ → Type 0)
    (post : Global → Option Refusal → Bor (List Logical) → ℕ → Result (List Stmt) Refusal → Type 0) : Type 0 where
  pub callable : (alloc : Global) (end : Option Refusal) (lines : Bor (List Logical)) → pre alloc end lines room
  pub gives : (alloc : Global) (end : Option Refusal) (lines : Bor (List Logical)) (r : Result (List Stmt) Refusal) → post alloc end lines room r
      → Gives r (statements room end lines.now)

-- a function that is called gives what f has
abbrev pub Answers : {T : Type 0} → (Option Refusal → blocks.Group → Form → Result (List T) Refusal) → (Option Refusal → Group → Form → Result (List T) Refusal → Type 0) → Type 0
Answers f post = (end : Option Refusal) (g : Group) (form : Form) (r : Result _ Refusal) → post end g form r → Gives r (f end (group_of g) form)

-- a form, or the refusal of the line
abbrev pub form_or_refusal : Place → ℕ → Logical → Option Form → Result Form Refusal
form_or_refusal place room l None = refused place room l
form_or_refusal place room l (Some form) = Ok form

abbrev pub form_at : Place → ℕ → Logical → Result Form Refusal
form_at place room l = form_or_refusal place room l (form_of l)

-- ---- with these before them

abbrev pub prepend : {T : Type 0} → List T → Result (List T) Refusal → Result (List T) Refusal
prepend begun rest = rest >>= λ all. Ok (begun ++ all)

abbrev pub prepend_arms : List (Expr × List Stmt) → Result (List (Expr × List Stmt) × Option (List Stmt)) Refusal → Result (List (Expr × List Stmt) × Option (List Stmt)) Refusal
prepend_arms begun rest = rest >>= λ all. Ok (begun ++ all.0, all.1)

abbrev pub prepend_clauses : List Clause → Result (List Clause × Option (List Stmt) × Option (List Stmt)) Refusal → Result (List Clause × Option (List Stmt) × Option (List Stmt)) Refusal
prepend_clauses begun rest = rest >>= λ all. Ok (begun ++ all.0, all.1, all.2)
