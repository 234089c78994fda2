-- Import: the state in which a test begins (Language Reference 5.4, 8.7 and 8.8).
use Rattle.std.specs.Prelude.{ℕ, List, [], ◌∷◌, ◌++◌, map, Option, Some, None}
use Rattle.std.specs.List.{filter_map}
use Rattle.std.specs.Option.{option_map}
use Rattle.py_syntax.specs.declared.expr.Args.{Args-F}
use Rattle.py_syntax.specs.declared.expr.Expr.{Expr, Expr-F, fold-Expr}
use Rattle.py_syntax.specs.declared.expr.ExprKind.{ExprKind-F}
use Rattle.py_syntax.specs.declared.module.Func.{Func}
use Rattle.py_syntax.specs.declared.operator.Sign.{Sign}
use Rattle.py_meaning.specs.declared.value.Value.{Value, Value-F, out-Value}
use Rattle.py_meaning.specs.declared.value.Value.TheVariants as v
use Rattle.py_meaning.specs.Arithmetic.{signed}
use Rattle.py_meaning.specs.Methods.{Names}
use Rattle.py_meaning.specs.Tuples.{tuple}
use Rattle.py_meaning.specs.Worlds.{World, Attributes}
use Rattle.py_plain.specs.declared.state.Space.{Space}
use Rattle.py_plain.specs.declared.state.State.{State}
use Rattle.py_plain.specs.Names.{lookup}
use Rattle.py_plain.specs.Program.{Binding, OfConstant, OfFunction, OfClass, ClassInfo, Program}

-- ---- constants: literals, `-` before an integer, tuples of constants, and names of earlier ones

abbrev pub Constant : Type 0
Constant = Attributes → Value

abbrev pub or_none : Option Value → Value
or_none None = v.None
or_none (Some x) = x

abbrev pub signed_value : Sign → Value-F Value → Value
signed_value sign (Value-F.Int n) = v.Int (signed sign n)
signed_value sign _ = v.None

abbrev pub constant_by : ExprKind-F Constant (Unit {0}) Constant → Constant
constant_by (ExprKind-F.BoolLit b) names = v.Bool b
constant_by (ExprKind-F.IntLit n) names = v.Int n
constant_by (ExprKind-F.StrLit text) names = v.Str text
constant_by (ExprKind-F.TupleLit parts) names = tuple (map (λ part. part names) parts)
constant_by (ExprKind-F.Unary sign part) names = signed_value sign (out-Value (part names))
constant_by (ExprKind-F.Name name) names = or_none (lookup name names)
constant_by _ names = v.None

abbrev pub constant_of_args : Args-F Constant (Unit {0}) Constant → Unit {0}
constant_of_args args = tt

abbrev pub constant_of_expr : Expr-F Constant (Unit {0}) Constant → Constant
constant_of_expr e = e.kind

-- the value of a constant, where names are bound
unfoldable pub constant : Expr → Constant
constant = fold-Expr Constant (Unit {0}) Constant constant_by constant_of_args constant_of_expr

-- ---- the module's names, in order (8.7, 8.8)

abbrev pub binding_value : Attributes → Binding → Value
binding_value names (OfConstant e) = constant e names
binding_value names (OfFunction f) = v.Func f
binding_value names (OfClass class) = v.Class class

-- the names that are bound, and the bindings that are left
abbrev pub names_from : Attributes → Names Binding → Attributes
names_from names [] = names
names_from names (binding ∷ more) = names_from (names ++ (binding.0, binding_value names binding.1) ∷ []) more

-- Defaults and constants of classes name earlier module constants alone, which nothing binds again.
abbrev pub default_of : Attributes → List ℕ → Option Expr → Option (List ℕ × Value)
default_of names name default = option_map (λ e. (name, constant e names)) default

abbrev pub defaults_of : Attributes → Func → Attributes
defaults_of names f = filter_map (λ param. default_of names param.name param.default) f.params

abbrev pub constants_of : Attributes → ClassInfo → Attributes
constants_of names info = map (λ row. (row.0, constant row.1 names)) info.constants

abbrev pub space_of : Program → Attributes → Space
space_of program names = record { names = names; defaults = map (λ f. defaults_of names f.tree) program.functions; constants = map (constants_of names) program.classes }

-- The state after import: no object, and a test's own frame, which nothing leaves.
abbrev pub imported : {W : Type 0} → Program → W → State World W
imported program seen = record {
  frame = record { function = None; variables = []; handled = [] };
  space = space_of program (names_from [] program.bindings);
  objects = [];
  depth = 0;
  left = 0;
  seen = seen;
}
