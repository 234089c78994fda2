-- Acceptance: of all faults the one with the least line is refused, and on one line the first row of the table.
use Rattle.std.specs.Prelude.{ℕ, nat_lt, if◌then◌else◌, List, [], ◌∷◌, min, Option, Some, None}
use Rattle.pyn_base.specs.declared.construct.Construct.{Construct}
use Rattle.pyn_base.specs.declared.construct.Construct.TheVariants as construct
use Rattle.py_syntax.specs.declared.module.Module.{Module}
use Rattle.py_scopes.specs.ModuleRows.{too_many_functions, import_order, module_state, module_statement, class_statement, duplicate_name, unknown_base, base_chain, parameters, mutable_default, defaults, annotations, class_scope}
use Rattle.py_scopes.specs.NameRows.{special_method, special_name, private_name, typing_name, break_outside_loop, bare_raise, exception_name, super, arguments, unknown_name}

-- a rule: its construct, and the lines of a module that break it
abbrev pub Row : Type 0
Row = Construct × (Module → List ℕ)

abbrev pub rows : List Row
rows = (construct.TooManyFunctions, too_many_functions) ∷ (construct.Import, import_order) ∷ (construct.ModuleState, module_state)
    ∷ (construct.ModuleStatement, module_statement) ∷ (construct.ClassStatement, class_statement) ∷ (construct.DuplicateName, duplicate_name)
    ∷ (construct.SpecialMethod, special_method) ∷ (construct.SpecialName, special_name) ∷ (construct.PrivateName, private_name)
    ∷ (construct.UnknownBase, unknown_base) ∷ (construct.BaseChain, base_chain) ∷ (construct.Parameters, parameters)
    ∷ (construct.MutableDefault, mutable_default) ∷ (construct.Default, defaults) ∷ (construct.Annotation, annotations)
    ∷ (construct.ClassScope, class_scope) ∷ (construct.TypingName, typing_name) ∷ (construct.BreakOutsideLoop, break_outside_loop)
    ∷ (construct.BareRaise, bare_raise) ∷ (construct.ExceptionName, exception_name) ∷ (construct.Super, super)
    ∷ (construct.Arguments, arguments) ∷ (construct.UnknownName, unknown_name) ∷ []

abbrev pub least_with : ℕ → Option ℕ → Option ℕ
least_with line None = Some line
least_with line (Some other) = Some (min line other)

abbrev pub least : List ℕ → Option ℕ
least [] = None
least (line ∷ lines) = least_with line (least lines)

-- the earlier of two faults; on one line the first
abbrev pub earlier : Option (ℕ × Construct) → Option (ℕ × Construct) → Option (ℕ × Construct)
earlier None other = other
earlier first None = first
earlier (Some first) (Some other) = if nat_lt other.0 first.0 then Some other else Some first

abbrev pub fault_of : Construct → Option ℕ → Option (ℕ × Construct)
fault_of construct None = None
fault_of construct (Some line) = Some (line, construct)

abbrev pub first_fault : List Row → Module → Option (ℕ × Construct)
first_fault [] m = None
first_fault (row ∷ more) m = earlier (fault_of row.0 (least (row.1 m))) (first_fault more m)

-- the line and the construct of what is refused; a module in which nothing is, is accepted
abbrev pub refusal : Module → Option (ℕ × Construct)
refusal m = first_fault rows m
