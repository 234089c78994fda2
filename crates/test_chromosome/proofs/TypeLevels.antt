-- What is asked of a type, one level at a time.
use Rattle.std.proofs.Common.{◌≡◌, true, ap, ◌∙◌}
use Rattle.std.specs.Prelude.{◌||◌}
use Rattle.pyn_base.specs.declared.class.ClassId.{ClassId}
use Rattle.py_meaning.specs.Values.{same_class}
use Rattle.py_plain.specs.Classes.{derives}
use Rattle.py_plain.specs.Program.{Program}
use Rattle.suite_model.specs.declared.ty.Ty.{Ty, Ty-F, map-Ty, out-Ty}
use Rattle.suite_model.specs.declared.ty.Ty.TheVariants as ty
use Rattle.suite_model.specs.declared.ty.Ty.TheVariants.{outs-Int, outs-Bool, outs-Str, outs-NoneType, outs-List, outs-Dict, outs-Class, outs-OrNone, outs-Any}
use Rattle.suite_model.specs.Folds.{by_same, by_fits}
use Rattle.suite_model.specs.Laws.{asked_of}
use Rattle.suite_model.specs.Types.{Asked, asked_by, same_type, fits, is_int, is_bool, is_str, is_none, is_any, is_list_of, is_dict_of, is_class_of, is_or_none_of, whatever}

pub ruleset outs = (outs-Int, outs-Bool, outs-Str, outs-NoneType, outs-List, outs-Dict, outs-Class, outs-OrNone, outs-Any)

module _ (program : Program) (given : Ty) where
  same_by : (t : Ty) (f : Ty-F Ty) → out-Ty t ≡ f → same_type program t given ≡ (asked_by program (map-Ty Ty Asked (asked_of program) f)).same given
  same_by t f is = by_same program t given ∙ ap (λ f. (asked_by program (map-Ty Ty Asked (asked_of program) f)).same given) is

  fits_by : (t : Ty) (f : Ty-F Ty) → out-Ty t ≡ f → fits program given t ≡ (asked_by program (map-Ty Ty Asked (asked_of program) f)).fits given
  fits_by t f is = by_fits program given t ∙ ap (λ f. (asked_by program (map-Ty Ty Asked (asked_of program) f)).fits given) is

  pub same-Int : same_type program ty.Int given ≡ is_int (out-Ty given)
  same-Int = same_by ty.Int Ty-F.Int outs-Int

  pub same-Bool : same_type program ty.Bool given ≡ is_bool (out-Ty given)
  same-Bool = same_by ty.Bool Ty-F.Bool outs-Bool

  pub same-Str : same_type program ty.Str given ≡ is_str (out-Ty given)
  same-Str = same_by ty.Str Ty-F.Str outs-Str

  pub same-NoneType : same_type program ty.NoneType given ≡ is_none (out-Ty given)
  same-NoneType = same_by ty.NoneType Ty-F.NoneType outs-NoneType

  pub same-Any : same_type program ty.Any given ≡ is_any (out-Ty given)
  same-Any = same_by ty.Any Ty-F.Any outs-Any

  pub same-List : (element : Ty) → same_type program (ty.List element) given ≡ is_list_of (same_type program element) (out-Ty given)
  same-List element = same_by (ty.List element) (Ty-F.List element) (outs-List element)

  pub same-Dict : (key value : Ty) → same_type program (ty.Dict key value) given ≡ is_dict_of (same_type program key) (same_type program value) (out-Ty given)
  same-Dict key value = same_by (ty.Dict key value) (Ty-F.Dict key value) (outs-Dict key value)

  pub same-Class : (class : ClassId) → same_type program (ty.Class class) given ≡ is_class_of (same_class class) (out-Ty given)
  same-Class class = same_by (ty.Class class) (Ty-F.Class class) (outs-Class class)

  pub same-OrNone : (t : Ty) → same_type program (ty.OrNone t) given ≡ is_or_none_of (same_type program t) (out-Ty given)
  same-OrNone t = same_by (ty.OrNone t) (Ty-F.OrNone t) (outs-OrNone t)

  pub fits-Int : fits program given ty.Int ≡ (is_int (out-Ty given) || is_bool (out-Ty given))
  fits-Int = fits_by ty.Int Ty-F.Int outs-Int

  pub fits-Bool : fits program given ty.Bool ≡ is_bool (out-Ty given)
  fits-Bool = fits_by ty.Bool Ty-F.Bool outs-Bool

  pub fits-Str : fits program given ty.Str ≡ is_str (out-Ty given)
  fits-Str = fits_by ty.Str Ty-F.Str outs-Str

  pub fits-NoneType : fits program given ty.NoneType ≡ is_none (out-Ty given)
  fits-NoneType = fits_by ty.NoneType Ty-F.NoneType outs-NoneType

  pub fits-Any : fits program given ty.Any ≡ true
  fits-Any = fits_by ty.Any Ty-F.Any outs-Any

  pub fits-List : (element : Ty) → fits program given (ty.List element) ≡ is_list_of whatever (out-Ty given)
  fits-List element = fits_by (ty.List element) (Ty-F.List element) (outs-List element)

  pub fits-Dict : (key value : Ty) → fits program given (ty.Dict key value) ≡ is_dict_of whatever whatever (out-Ty given)
  fits-Dict key value = fits_by (ty.Dict key value) (Ty-F.Dict key value) (outs-Dict key value)

  pub fits-Class : (class : ClassId) → fits program given (ty.Class class) ≡ is_class_of (λ given. derives program given class) (out-Ty given)
  fits-Class class = fits_by (ty.Class class) (Ty-F.Class class) (outs-Class class)

  pub fits-OrNone : (t : Ty) → fits program given (ty.OrNone t) ≡ (is_none (out-Ty given) || is_or_none_of (same_type program t) (out-Ty given) || fits program given t)
  fits-OrNone t = fits_by (ty.OrNone t) (Ty-F.OrNone t) (outs-OrNone t)

pub ruleset levels = (outs-Int, outs-Bool, outs-Str, outs-NoneType, outs-List, outs-Dict, outs-Class, outs-OrNone, outs-Any, same-Int, same-Bool, same-Str, same-NoneType, same-Any, same-List, same-Dict, same-Class, same-OrNone, fits-Int, fits-Bool, fits-Str, fits-NoneType, fits-Any, fits-List, fits-Dict, fits-Class, fits-OrNone)
