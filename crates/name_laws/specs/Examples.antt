-- Worked examples: programs whose names are found or not, and names that are identifiers or not.
use Rattle.std.specs.Prelude.{List, None, Option, Some, [], codes, ℕ, ◌∷◌}
use Prim.Native.String.{String}
use Rattle.pyn_base.specs.declared.class.BuiltClass.TheVariants.{Object}
use Rattle.pyn_base.specs.declared.class.ClassId.TheVariants.{Built}
use Rattle.py_plain.specs.Program.{ClassInfo, Function, Program}
use Rattle.name_laws.specs.Laws.{HasIdentifiers, NamesAreFound}

abbrev pub function : Option ℕ → String → Function
function owner name = record { tree = record { node = record { 0 = 0 }; name = codes name; line = 1; params = []; returns = None; body = [] }; owner = owner; locals = [] }

abbrev pub class : String → ClassInfo
class name = record { name = codes name; base = Built Object; methods = []; constants = [] }

abbrev pub program : List Function → List ClassInfo → Program
program functions classes = record { functions = functions; classes = classes; bindings = [] }

-- a class `A` with a method `f`, and then a function `f`
abbrev pub with_method : Program
with_method = program (function (Some 0) "f" ∷ function None "f" ∷ []) (class "A" ∷ [])

abbrev pub MethodNotInTheWay : Type 0
MethodNotInTheWay = NamesAreFound with_method

-- two functions `f`
abbrev pub twice : Program
twice = program (function None "f" ∷ function None "f" ∷ []) []

abbrev pub FunctionsOfOneName : Type 0
FunctionsOfOneName = NamesAreFound twice → ⊥

-- a function and a class of one name
abbrev pub shared : Program
shared = program (function None "A" ∷ []) (class "A" ∷ [])

abbrev pub FunctionNamedAsClass : Type 0
FunctionNamedAsClass = NamesAreFound shared → ⊥

abbrev pub Identifiers : Type 0
Identifiers = HasIdentifiers with_method

-- a function `def`
abbrev pub Keyword : Type 0
Keyword = HasIdentifiers (program (function None "def" ∷ []) []) → ⊥

-- a class whose name begins with a digit
abbrev pub NoName : Type 0
NoName = HasIdentifiers (program [] (class "2A" ∷ [])) → ⊥
