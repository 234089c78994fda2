-- The functions of a module of the first form, by their places and names.
use Rattle.std.proofs.Common.{◌≡◌, refl, sym, ◌∙◌, ap, subst, ℕ, suc, ◌+◌, Bool, true, false, not, ◌&&◌, cond, List, [], ◌∷◌, ◌++◌, length, Option, Some, None, map, bytes_eq, slice_get, arith, append_assoc, length-append, add-zero}
use Rattle.std.specs.List.{filter_map, list_any, position_from}
use Rattle.py_syntax.specs.declared.module.Func.{Func}
use Rattle.py_language.specs.declared.first.First.{First}
use Rattle.py_language.specs.FirstForm.{func_at, items_from, module_of, is_among, is_distinct, name_of}
use Rattle.pyn_model.specs.FirstMeaning.{place_of}
use Rattle.py_syntax.specs.Functions.{function_in, functions_of}
use Rattle.pyn_model.proofs.Booleans.{both, not_true, same_text, none_between}

abbrev pub funcs_from : ℕ → List First → List Func
funcs_from place [] = []
funcs_from place (f ∷ rest) = func_at place f ∷ funcs_from (place + 1) rest

functions_from : (place : ℕ) (fs : List First) → filter_map function_in (items_from place fs) ≡ funcs_from place fs
functions_from place [] = refl
functions_from place (f ∷ rest) = ap (λ gs. func_at place f ∷ gs) (functions_from (place + 1) rest)

pub functions_of-module : (fs : List First) → functions_of (module_of fs) ≡ funcs_from 0 fs
functions_of-module fs = functions_from 0 fs

func_between : (place : ℕ) (before : List First) (f : First) (after : List First) → slice_get (funcs_from place (before ++ (f ∷ after))) (length before) ≡ Some (func_at (place + length before) f)
func_between place [] f after = ap (λ k. Some (func_at k f)) (sym (add-zero place))
func_between place (b ∷ before) f after =
    let e : (place + 1) + length before ≡ place + length (b ∷ before) = omega arith in
    func_between (place + 1) before f after ∙ ap (λ k. Some (func_at k f)) e

-- at the head of the list: the names of those before it are others
passed : (t : Bool) (place : ℕ) (rest : Option ℕ) → t ≡ false → cond t (Some place) rest ≡ rest
passed t place rest e = rw e refl

found : (t : Bool) (place : ℕ) (rest : Option ℕ) → t ≡ true → cond t (Some place) rest ≡ Some place
found t place rest e = rw e refl

names-append : (before : List First) (f : First) (after : List First) → map name_of (before ++ (f ∷ after)) ≡ map name_of before ++ (f.name ∷ map name_of after)
names-append [] f after = refl
names-append (b ∷ before) f after = ap (λ names. b.name ∷ names) (names-append before f after)

place_between : (place : ℕ) (before : List First) (f : First) (after : List First) → is_distinct (map name_of (before ++ (f ∷ after))) ≡ true
    → position_from (λ (g : Func). bytes_eq f.name g.name) place (funcs_from place (before ++ (f ∷ after))) ≡ Some (place + length before)
place_between place [] f after e = found _ place _ (same_text f.name) ∙ ap (λ k. Some k) (sym (add-zero place))
place_between place (b ∷ before) f after e =
    let names = map name_of (before ++ (f ∷ after)) in
    let parts = both (not (is_among names b.name)) (is_distinct names) e in
    let other : list_any (λ (name : List ℕ). bytes_eq name b.name) (map name_of before ++ (f.name ∷ map name_of after)) ≡ false =
    ap (λ ns. list_any (λ (name : List ℕ). bytes_eq name b.name) ns) (sym (names-append before f after)) ∙ not_true _ parts.0 in
    let e : (place + 1) + length before ≡ place + length (b ∷ before) = omega arith in
    passed _ place _ (none_between (λ (name : List ℕ). bytes_eq name b.name) (map name_of before) f.name (map name_of after) other)
    ∙ place_between (place + 1) before f after parts.1 ∙ ap (λ k. Some k) e

-- the function with this number, and the number of its name
pub record IsCalled (all : List Func) (k : ℕ) (f : First) : Type 0 where
  pub at : slice_get all k ≡ Some (func_at k f)
  pub place : place_of all f.name ≡ Some k

abbrev pub AllCalled : List Func → ℕ → List First → Type 0
AllCalled all k [] = Unit {0}
AllCalled all k (f ∷ rest) = IsCalled all k f × AllCalled all (k + 1) rest

called_from : (all before rest : List First) → all ≡ before ++ rest → is_distinct (map name_of all) ≡ true → AllCalled (funcs_from 0 all) (length before) rest
called_from all before [] e d = tt
called_from all before (f ∷ rest) e d =
    let P : ℕ → Type 0 = λ k. AllCalled (funcs_from 0 all) k rest in
    let one_more : length (before ++ (f ∷ [])) ≡ length before + 1 = length-append before (f ∷ []) in
    let d' : is_distinct (map name_of (before ++ (f ∷ rest))) ≡ true = ap (λ fs. is_distinct (map name_of fs)) (sym e) ∙ d in (
      record {
        at = ap (λ fs. slice_get (funcs_from 0 fs) (length before)) e ∙ func_between 0 before f rest ∙ ap (λ k. Some (func_at k f)) (omega arith);
        place = ap (λ fs. position_from (λ (g : Func). bytes_eq f.name g.name) 0 (funcs_from 0 fs)) e ∙ place_between 0 before f rest d' ∙ ap (λ k. Some k) (omega arith);
      },
      subst P one_more (called_from all (before ++ (f ∷ [])) rest (e ∙ sym (append_assoc before (f ∷ []) rest)) d),
    )

pub all_called : (fs : List First) → is_distinct (map name_of fs) ≡ true → AllCalled (funcs_from 0 fs) 0 fs
all_called fs d = called_from fs [] fs refl d
