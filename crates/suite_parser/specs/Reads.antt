-- What the readers of blocks give, by a form of their lines.
use Rattle.std.specs.Prelude.{ℕ, List, ◌∷◌, Option, Some, None, Result, Ok}
use Rattle.std.specs.Borrow.{Bor}
use Rattle.py_expr_shape.specs.declared.fault.ExprFault.{ExprFault}
use Rattle.py_expr_shape.specs.Reads.{Gives as GivesForm}
use Rattle.py_language.specs.declared.token.Logical.{Logical}
use Rattle.py_syntax.specs.Gives.{Gives}
use Rattle.py_syntax.specs.declared.refusal.Refusal.{Refusal}
use Rattle.py_syntax.specs.declared.stmt.Stmt.{Stmt}
use Rattle.py_grammar.specs.declared.place.Place.{Place}
use Rattle.py_grammar.specs.Refusals.{refused}
use Rattle.py_grammar.specs.Blocks as blocks
use Rattle.py_parser.specs.declared.lines.Group.{Group}
use Rattle.py_parser.specs.Lines.{group_of}

-- a function that is called gives the form of a line
abbrev pub Forms : {F : Type 0} → (Logical → Option F) → (Bor Logical → Result F ExprFault → Type 0) → Type 0
Forms form post = (l : Bor Logical) (r : Result _ ExprFault) → post l r → GivesForm r (form l.now)

-- a function that is called gives what f has
abbrev pub Answers : {T F : Type 0} → (Option Refusal → blocks.Group → F → Result (List T) Refusal) → (Option Refusal → Group → F → Result (List T) Refusal → Type 0) → Type 0
Answers f post = (end : Option Refusal) (g : Group) (form : _) (r : Result _ Refusal) → post end g form r → Gives r (f end (group_of g) form)

-- a form, or the refusal of the line
abbrev pub form_or_refusal : {F : Type 0} → Place → ℕ → Logical → Option F → Result F Refusal
form_or_refusal place room l None = refused place room l
form_or_refusal place room l (Some form) = Ok form

-- the line of the second statement, if there is one
abbrev pub second_line : List Stmt → Option ℕ
second_line (stmt ∷ (next ∷ more)) = Some next.line
second_line _ = None
