-- The worked examples, by computation.
use Rattle.std.proofs.Common.{None, Option, Some, ap, arith, false, refl, true, ℕ, ◌≡◌}
use Rattle.pyn_base.specs.declared.ids.FuncId.{FuncId}
use Rattle.py_language.specs.TokensNames.{keywords_of_2, keywords_of_3, keywords_of_4, keywords_of_5, keywords_of_6, keywords_of_7, keywords_of_8}
use Rattle.name_laws.proofs.AcceptedModules.{found_in}
use Rattle.name_laws.proofs.Lists.{all_at}
use Rattle.name_laws.proofs.ReadModules.{FunctionNamed, InfoNamed}
use Rattle.name_laws.specs.Examples.{FunctionNamedAsClass, FunctionsOfOneName, Identifiers, Keyword, MethodNotInTheWay, NoName, class, function, with_method}

pub method : MethodNotInTheWay
method = found_in with_method (tt, tt) (tt, tt) ((λ same. absurd (cc), tt), tt)

number : Option FuncId → ℕ
number None = 0
number (Some f) = f.0

pub functions : FunctionsOfOneName
unfolding number
functions h = let same : 0 ≡ 1 = ap number (h.functions 1 (function None "f") refl refl) in absurd (omega (arith, same))

pub class_and_function : FunctionNamedAsClass
class_and_function h = let both = h.apart 0 (class "A") refl in absurd (cc)

pub identifiers : Identifiers
unfolding keywords_of_2 keywords_of_3 keywords_of_4 keywords_of_5 keywords_of_6 keywords_of_7 keywords_of_8
identifiers = record {
  functions = λ i f at. all_at FunctionNamed with_method.functions i f (refl, (refl, tt)) at;
  classes = λ i c at. all_at InfoNamed with_method.classes i c (refl, tt) at;
}

pub keyword : Keyword
unfolding keywords_of_2 keywords_of_3 keywords_of_4 keywords_of_5 keywords_of_6 keywords_of_7 keywords_of_8
keyword h = let is_name : false ≡ true = h.functions 0 (function None "def") refl in absurd (cc)

pub no_name : NoName
no_name h = let is_name : false ≡ true = h.classes 0 (class "2A") refl in absurd (cc)
