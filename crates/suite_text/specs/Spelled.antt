-- What every suite in memory is by its types: its integers are in the supported range, its texts are characters of Unicode, and its lists have lengths below 2^64.
use Rattle.std.specs.Prelude.{Bool, true, ◌&&◌, ◌^◌, nat_lt, length, pos, nat_abs}
use Rattle.std.specs.List.{list_all}
use Rattle.std.specs.Str.{all_scalars}
use Rattle.py_spelling.specs.Spelling.{is_small}
use Rattle.suite_model.specs.declared.suite.Assert.{Assert}
use Rattle.suite_model.specs.declared.suite.Shown.{Shown, Shown-F, fold-Shown}
use Rattle.suite_model.specs.declared.suite.Suite.{Suite}
use Rattle.suite_model.specs.declared.suite.TestCase.{TestCase}
use Rattle.suite_model.specs.declared.suite.Wants.{Wants}
use Rattle.suite_model.specs.declared.suite.Wants.TheVariants.{Equals}
use Rattle.suite_model.specs.declared.test.Primitive.{Primitive}
use Rattle.suite_model.specs.declared.test.Primitive.TheVariants as prim
use Rattle.suite_model.specs.declared.test.Step.{Step}
use Rattle.suite_model.specs.declared.test.Step.TheVariants as step

abbrev pub is_spelled_literal : Primitive → Bool
is_spelled_literal (prim.Int n) = is_small (pos (nat_abs n))
is_spelled_literal (prim.Str text) = all_scalars text
is_spelled_literal _ = true

abbrev pub spelled_by : Shown-F Bool → Bool
spelled_by (Shown-F.Prim p) = is_spelled_literal p
spelled_by (Shown-F.List parts) = list_all (λ part. part) parts
spelled_by (Shown-F.Tuple parts) = list_all (λ part. part) parts
spelled_by (Shown-F.Dict pairs) = list_all (λ pair. pair.0 && pair.1) pairs

unfoldable pub is_spelled_display : Shown → Bool
is_spelled_display = fold-Shown Bool spelled_by

abbrev pub is_spelled_step : Step → Bool
is_spelled_step (step.Prim p) = is_spelled_literal p
is_spelled_step _ = true

abbrev pub is_spelled_wish : Wants → Bool
is_spelled_wish (Equals shown) = is_spelled_display shown
is_spelled_wish _ = true

abbrev pub is_spelled_case : TestCase → Bool
is_spelled_case case = nat_lt (length case.test.steps) (2 ^ 64) && (list_all is_spelled_step case.test.steps && list_all (λ (a : Assert). is_spelled_wish a.wants) case.asserts)

abbrev pub is_spelled : Suite → Bool
is_spelled suite = nat_lt (length suite.cases) (2 ^ 64) && list_all is_spelled_case suite.cases
