-- The first form of a module: functions that return one literal.
use Rattle.std.specs.Prelude.{ℕ, ◌+◌, ◌-◌, ◌*◌, Bool, true, false, not, ◌&&◌, ◌||◌, ◌==◌, nat_le, nat_lt, pos, List, [], ◌∷◌, ◌++◌, length, take, drop, fold, map, Option, Some, None, option_map, option_and_then, Result, Ok, Err, if◌then◌else◌, codes, bytes_eq}
use Rattle.std.specs.List.{list_all, list_any, onto_first}
use Rattle.std.specs.Char.{is_ascii_digit, is_ascii_lowercase}
use Rattle.pyn_base.specs.declared.construct.Construct.TheVariants.{Form}
use Rattle.py_syntax.specs.declared.refusal.Refusal.{Refusal}
use Rattle.py_syntax.specs.declared.refusal.Refusal.TheVariants.{Refused}
use Rattle.py_syntax.specs.declared.expr.ExprKind.{ExprKind}
use Rattle.py_syntax.specs.declared.expr.ExprKind.TheVariants.{NoneLit, BoolLit, IntLit, StrLit}
use Rattle.py_syntax.specs.declared.expr.Expr.{Expr}
use Rattle.py_syntax.specs.declared.stmt.Stmt.{Stmt}
use Rattle.py_syntax.specs.declared.stmt.StmtKind.TheVariants.{Return}
use Rattle.py_syntax.specs.declared.module.Func.{Func}
use Rattle.py_syntax.specs.declared.module.Item.{Item}
use Rattle.py_syntax.specs.declared.module.Item.TheVariants as item
use Rattle.py_syntax.specs.declared.module.Module.{Module}
pub use Rattle.py_language.specs.declared.first.First.{First}

-- ---- parts of a text

-- The lines of a text, each with the line feed that ends it. A rest without one is a line too.
abbrev pub lines_of : List ℕ → List (List ℕ)
lines_of [] = []
lines_of (c ∷ rest) = if c == 10 then (10 ∷ []) ∷ lines_of rest else onto_first c (lines_of rest)

-- what follows a beginning
abbrev pub after : List ℕ → List ℕ → Option (List ℕ)
after start text = if bytes_eq (take (length start) text) start then Some (drop (length start) text) else None

-- what precedes an ending
abbrev pub before : List ℕ → List ℕ → Option (List ℕ)
before end text =
    if bytes_eq (drop (length text - length end) text) end then Some (take (length text - length end) text) else None

-- what stands between a beginning and an ending
abbrev pub between : List ℕ → List ℕ → List ℕ → Option (List ℕ)
between start end text = option_and_then (before end) (after start text)

-- a text that passes a test
abbrev pub passing : (List ℕ → Bool) → List ℕ → Option (List ℕ)
passing test text = if test text then Some text else None

-- ---- literals

-- a digit, or up to 19 digits without a leading zero
abbrev pub is_number : List ℕ → Bool
is_number [] = false
is_number (first ∷ rest) =
    list_all is_ascii_digit (first ∷ rest) && (not (first == 48) || (length rest == 0)) && nat_le (length rest) 18

abbrev pub number_of : List ℕ → ℕ
number_of digits = fold (λ n digit. 10 * n + (digit - 48)) 0 digits

-- what may stand in a string: ASCII from blank to tilde, without the quote and the backslash
abbrev pub is_plain : ℕ → Bool
is_plain c = nat_le 32 c && nat_le c 126 && not (c == 34) && not (c == 92)

-- the characters of a string in double quotes
abbrev pub string_of : List ℕ → Option (List ℕ)
string_of text = option_and_then (passing (list_all is_plain)) (between (codes "\"") (codes "\"") text)

-- the literal that a text spells
abbrev pub literal_of : List ℕ → Option ExprKind
literal_of text =
    if bytes_eq text (codes "None") then Some NoneLit
    else if bytes_eq text (codes "True") then Some (BoolLit true)
    else if bytes_eq text (codes "False") then Some (BoolLit false)
    else if is_number text then Some (IntLit (pos (number_of text)))
    else option_map StrLit (string_of text)

-- ---- lines

-- a lower-case letter, then digits
abbrev pub is_name : List ℕ → Bool
is_name [] = false
is_name (first ∷ rest) = is_ascii_lowercase first && list_all is_ascii_digit rest

-- the name in a line `def NAME():`
abbrev pub named_by : List ℕ → Option (List ℕ)
named_by line = option_and_then (passing is_name) (between (codes "def ") (codes "():\n") line)

-- the literal in a line `    return LIT`
abbrev pub returned_by : List ℕ → Option ExprKind
returned_by line = option_and_then literal_of (between (codes "    return ") (codes "\n") line)

abbrev pub is_empty_line : List ℕ → Bool
is_empty_line line = bytes_eq line (codes "\n")

-- the function of two lines
abbrev pub function_of : List ℕ → List ℕ → Option First
function_of head body =
    option_and_then (λ name. option_map (λ literal. record { name = name; literal = literal }) (returned_by body)) (named_by head)

-- ---- the form

-- one function or more, parted by exactly two empty lines
abbrev pub parted : List (List ℕ) → Option (List First)
parted (head ∷ body ∷ []) = option_map (λ function. function ∷ []) (function_of head body)
parted (head ∷ body ∷ first ∷ second ∷ rest) =
    option_and_then (λ function. if is_empty_line first && is_empty_line second then option_map (λ more. function ∷ more) (parted rest) else None)
    (function_of head body)
parted lines = None

-- a name is one of these
abbrev pub is_among : List (List ℕ) → List ℕ → Bool
is_among names name = list_any (λ other. bytes_eq other name) names

-- no name stands twice
abbrev pub is_distinct : List (List ℕ) → Bool
is_distinct [] = true
is_distinct (name ∷ rest) = not (is_among rest name) && is_distinct rest

abbrev pub name_of : First → List ℕ
name_of function = function.name

-- how many functions a module may have
abbrev pub most_functions : ℕ
most_functions = 2000

-- The functions of a module, of which none has another's name and there are not too many.
abbrev pub permitted : List First → Option (List First)
permitted functions =
    if is_distinct (map name_of functions) && nat_le (length functions) most_functions then Some functions else None

-- The functions of the first form that lines hold: none, or some that are parted.
abbrev pub functions_of : List (List ℕ) → Option (List First)
functions_of [] = Some []
functions_of (line ∷ rest) = option_and_then permitted (parted (line ∷ rest))

-- ---- the line of a refusal

-- the places of a function's lines, with those of the two empty lines behind it
pub data Place : Type 0 where
  Head : Place
  Body : Place
  Gap : Place
  SecondGap : Place

abbrev pub next_place : Place → Place
next_place Head = Body
next_place Body = Gap
next_place Gap = SecondGap
next_place SecondGap = Head

-- The names of the functions up to a line that may stand at this place, behind functions with these names. An
-- empty line asks for one more function.
abbrev pub names_up_to : Place → List (List ℕ) → List ℕ → Option (List (List ℕ))
names_up_to Head names line =
    option_and_then (λ name. if is_among names name then None else Some (names ++ name ∷ [])) (named_by line)
names_up_to Body names line = option_map (λ literal. names) (returned_by line)
names_up_to Gap names line = if is_empty_line line && nat_lt (length names) most_functions then Some names else None
names_up_to SecondGap names line = if is_empty_line line then Some names else None

-- one more than what the names behind a line lead to, where that line may stand
abbrev pub counted : (List (List ℕ) → ℕ) → Option (List (List ℕ)) → ℕ
counted behind None = 0
counted behind (Some names) = 1 + behind names

-- How many of the lines, from this place on, a text of the form can begin with, behind functions with these names.
abbrev pub fitting : Place → List (List ℕ) → List (List ℕ) → ℕ
fitting place names [] = 0
fitting place names (line ∷ rest) = counted (λ known. fitting (next_place place) known rest) (names_up_to place names line)

-- The first line up to which no text of the form begins with these lines. It is the line after the last, where the text
-- is cut short.
abbrev pub refused_line : List (List ℕ) → ℕ
refused_line lines = 1 + fitting Head [] lines

-- ---- the tree

-- A function stands in four lines and has three nodes: itself, its `return` and the literal. These are the nodes and the
-- lines of the function with this place in the module, counted from 0.
abbrev pub literal_at : ℕ → First → Expr
literal_at place function = record { node = record { 0 = 3 * place + 2 }; line = 4 * place + 2; kind = function.literal }

abbrev pub return_at : ℕ → First → Stmt
return_at place function = record { node = record { 0 = 3 * place + 1 }; line = 4 * place + 2; kind = Return (Some (literal_at place function)) }

abbrev pub func_at : ℕ → First → Func
func_at place function = record {
  node = record { 0 = 3 * place };
  name = function.name;
  line = 4 * place + 1;
  params = [];
  returns = None;
  body = return_at place function ∷ [];
}

-- the functions, from this place on
abbrev pub items_from : ℕ → List First → List Item
items_from place [] = []
items_from place (function ∷ rest) = item.Func (func_at place function) ∷ items_from (place + 1) rest

abbrev pub module_of : List First → Module
module_of functions = record { items = items_from 0 functions; future = false; nodes = 3 * length functions }

-- ---- the whole

abbrev pub answer : List (List ℕ) → Option (List First) → Result Module Refusal
answer lines None = Err (Refused (refused_line lines) Form)
answer lines (Some functions) = Ok (module_of functions)

-- What a text is, read as a module of the first form.
abbrev pub first_form : List ℕ → Result Module Refusal
first_form text = answer (lines_of text) (functions_of (lines_of text))
