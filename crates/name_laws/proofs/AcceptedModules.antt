-- In a module that is accepted each name finds what it names: no name is bound twice at its level.
use Rattle.std.proofs.Common.{Bool, List, None, Some, [], ap, arith, false, map, refl, subst, suc, sym, true, zero, ℕ, ◌++◌, ◌+◌, ◌∙◌, ◌∷◌, ◌≡◌}
use Rattle.std.proofs.lemmas.List.{append-nil}
use Rattle.std.proofs.lemmas.Slice.Eq.{bytes_eq-Decides}
use Rattle.std.specs.List.{AllByRecursion, flat_map}
use Rattle.std.specs.Prelude.{bytes_eq, if◌then◌else◌, is_some, length, slice_get}
use Rattle.pyn_base.specs.declared.class.ClassId.TheVariants.{Own}
use Rattle.pyn_base.specs.declared.ids.FuncId.{FuncId}
use Rattle.py_meaning.specs.Methods.{Names, named}
use Rattle.py_syntax.specs.declared.module.Item.{Item}
use Rattle.py_syntax.specs.declared.module.Item.TheVariants as item
use Rattle.py_syntax.specs.declared.module.Member.{Member}
use Rattle.py_syntax.specs.declared.module.Member.TheVariants as member
use Rattle.py_plain.specs.Program.{ClassInfo, Function, class_info, classes_from, functions_from, methods_from, methods_in, numbered, program_of, Program}
use Rattle.py_scopes.specs.Names.{Bound, bound, bound_by, bound_by_item, module_names, names_of}
use Rattle.suite_file.specs.SuiteOf.{own_functions}
use Rattle.name_laws.proofs.Distinct.{Apart, Differs, Distinct, accepted_distinct}
use Rattle.name_laws.specs.Laws.{AcceptedNamesAreFound, NamesAreFound}

-- ---- rows of a table, by their names

named_here : {M : Type 0} (name : List ℕ) (x : M) (rows : Names M) → named ((name, x) ∷ rows) name ≡ Some x
named_here name x rows = let same : bytes_eq name name ≡ true = (bytes_eq-Decides name name).1 refl in ap (λ b. if b then Some x else named rows name) same

named_later : {M : Type 0} (row : List ℕ × M) (rows : Names M) (name : List ℕ) → Differs name row.0 → named (row ∷ rows) name ≡ named rows name
named_later row rows name differs = by (bytes_eq name row.0) refl
  where
    by : (b : Bool) → bytes_eq name row.0 ≡ b → (if b then Some row.1 else named rows name) ≡ named rows name
    by true e = absurd (differs ((bytes_eq-Decides name row.0).0 e))
    by false e = refl

-- ---- functions that are no methods, and their names

abbrev pub name_unless : Bool → List ℕ → List (List ℕ)
name_unless b name = if b then [] else name ∷ []

abbrev pub own_names : List Function → List (List ℕ)
own_names [] = []
own_names (f ∷ fs) = name_unless (is_some f.owner) f.tree.name ++ own_names fs

module _ (P : List ℕ → Type 0) where
  all_first : (b : Bool) (name : List ℕ) (names : List (List ℕ)) → b ≡ false → AllByRecursion P (name_unless b name ++ names) → P name
  all_first true name names e h = absurd (cc)
  all_first false name names e h = h.0

  all_others : (b : Bool) (name : List ℕ) (names : List (List ℕ)) → AllByRecursion P (name_unless b name ++ names) → AllByRecursion P names
  all_others true name names h = h
  all_others false name names h = h.1

  own_at : (fs : List Function) (i : ℕ) (f : Function) → AllByRecursion P (own_names fs) → slice_get fs i ≡ Some f → f.owner ≡ None → P f.tree.name
  own_at [] i f h e none = absurd (cc)
  own_at (g ∷ fs) zero f h e none =
      let same : g ≡ f = cc in
      let here : is_some g.owner ≡ false = ap (λ (f : Function). is_some f.owner) same ∙ ap is_some none in
      subst (λ (f : Function). P f.tree.name) same (all_first (is_some g.owner) g.tree.name (own_names fs) here h)
  own_at (g ∷ fs) (suc i) f h e none = own_at fs i f (all_others (is_some g.owner) g.tree.name (own_names fs) h) e none

distinct_others : (b : Bool) (name : List ℕ) (names : List (List ℕ)) → Distinct (name_unless b name ++ names) → Distinct names
distinct_others true name names h = h
distinct_others false name names h = h.1

first_apart : (b : Bool) (name : List ℕ) (names : List (List ℕ)) → b ≡ false → Distinct (name_unless b name ++ names) → Apart names name
first_apart true name names e h = absurd (cc)
first_apart false name names e h = h.0

-- past a function: one that is no method has another name
named_past : (b : Bool) (row : List ℕ × FuncId) (rows : Names FuncId) (name : List ℕ) → (b ≡ false → Differs name row.0) → named ((if b then [] else row ∷ []) ++ rows) name ≡ named rows name
named_past true row rows name differs = refl
named_past false row rows name differs = named_later row rows name (differs refl)

function_found : (k : ℕ) (fs : List Function) (i : ℕ) (f : Function) → Distinct (own_names fs) → slice_get fs i ≡ Some f → f.owner ≡ None → named (own_functions k fs) f.tree.name ≡ Some (record { 0 = k + i })
function_found k [] i f d e none = absurd (cc)
function_found k (g ∷ fs) zero f d e none =
    let same : g ≡ f = cc in
    let here : is_some g.owner ≡ false = ap (λ (f : Function). is_some f.owner) same ∙ ap is_some none in
    let k_is : k ≡ k + 0 = omega arith in
    subst (λ (f : Function). named (own_functions k (g ∷ fs)) f.tree.name ≡ Some (record { 0 = k + 0 })) same
    (ap (λ b. named ((if b then [] else (g.tree.name, record { 0 = k }) ∷ []) ++ own_functions (k + 1) fs) g.tree.name) here
    ∙ named_here g.tree.name (record { 0 = k }) (own_functions (k + 1) fs) ∙ ap (λ n. Some (record { 0 = n })) k_is)
function_found k (g ∷ fs) (suc i) f d e none =
    let apart = λ (b : is_some g.owner ≡ false). λ (same : f.tree.name ≡ g.tree.name). own_at (Differs g.tree.name) fs i f (first_apart (is_some g.owner) g.tree.name (own_names fs) b d) e none (sym same) in
    let number : k + 1 + i ≡ k + suc i = omega arith in
    named_past (is_some g.owner) (g.tree.name, record { 0 = k }) (own_functions (k + 1) fs) f.tree.name apart
    ∙ function_found (k + 1) fs i f (distinct_others (is_some g.owner) g.tree.name (own_names fs) d) e none ∙ ap (λ n. Some (record { 0 = n })) number

no_function : (k : ℕ) (fs : List Function) (name : List ℕ) → Apart (own_names fs) name → named (own_functions k fs) name ≡ None
no_function k [] name h = refl
no_function k (g ∷ fs) name h =
    named_past (is_some g.owner) (g.tree.name, record { 0 = k }) (own_functions (k + 1) fs) name (λ b. all_first (Differs name) (is_some g.owner) g.tree.name (own_names fs) b h)
    ∙ no_function (k + 1) fs name (all_others (Differs name) (is_some g.owner) g.tree.name (own_names fs) h)

-- ---- classes and their names

abbrev pub infos_names : List ClassInfo → List (List ℕ)
infos_names infos = map (λ (c : ClassInfo). c.name) infos

class_at : (P : List ℕ → Type 0) (cs : List ClassInfo) (i : ℕ) (c : ClassInfo) → AllByRecursion P (infos_names cs) → slice_get cs i ≡ Some c → P c.name
class_at P [] i c h e = absurd (cc)
class_at P (d ∷ cs) zero c h e = let same : d ≡ c = cc in subst (λ (c : ClassInfo). P c.name) same h.0
class_at P (d ∷ cs) (suc i) c h e = class_at P cs i c h.1 e

class_found : (k : ℕ) (cs : List ClassInfo) (i : ℕ) (c : ClassInfo) → Distinct (infos_names cs) → slice_get cs i ≡ Some c → named (numbered k cs) c.name ≡ Some (Own (k + i))
class_found k [] i c d e = absurd (cc)
class_found k (b ∷ cs) zero c d e =
    let same : b ≡ c = cc in
    let k_is : k ≡ k + 0 = omega arith in
    subst (λ (c : ClassInfo). named (numbered k (b ∷ cs)) c.name ≡ Some (Own (k + 0))) same (named_here b.name (Own k) (numbered (k + 1) cs) ∙ ap (λ n. Some (Own n)) k_is)
class_found k (b ∷ cs) (suc i) c d e =
    let number : k + 1 + i ≡ k + suc i = omega arith in
    named_later (b.name, Own k) (numbered (k + 1) cs) c.name (λ same. class_at (Differs b.name) cs i c d.0 e (sym same))
    ∙ class_found (k + 1) cs i c d.1 e ∙ ap (λ n. Some (Own n)) number

-- ---- the names of a module's items

abbrev function_names : List Item → List (List ℕ)
function_names [] = []
function_names (item.Func f ∷ items) = f.name ∷ function_names items
function_names (item.Class c ∷ items) = function_names items
function_names (item.Import line names ∷ items) = function_names items
function_names (item.Other stmt ∷ items) = function_names items

abbrev class_names : List Item → List (List ℕ)
class_names [] = []
class_names (item.Func f ∷ items) = class_names items
class_names (item.Class c ∷ items) = c.name ∷ class_names items
class_names (item.Import line names ∷ items) = class_names items
class_names (item.Other stmt ∷ items) = class_names items

abbrev imported : ℕ → List (List ℕ) → List Bound
imported line names = map (λ name. bound name line) names

abbrev later : List Item → List Bound
later items = flat_map bound_by_item items

module _ (P : List ℕ → Type 0) where
  past_names : (bs cs : List Bound) → AllByRecursion P (names_of (bs ++ cs)) → AllByRecursion P (names_of cs)
  past_names [] cs h = h
  past_names (b ∷ bs) cs h = past_names bs cs h.1

  of_functions : (items : List Item) → AllByRecursion P (module_names items) → AllByRecursion P (function_names items)
  of_functions [] h = tt
  of_functions (item.Func f ∷ items) h = (h.0, of_functions items h.1)
  of_functions (item.Class c ∷ items) h = of_functions items h.1
  of_functions (item.Import line names ∷ items) h = of_functions items (past_names (imported line names) (later items) h)
  of_functions (item.Other stmt ∷ items) h = of_functions items (past_names (bound_by stmt) (later items) h)

  of_classes : (items : List Item) → AllByRecursion P (module_names items) → AllByRecursion P (class_names items)
  of_classes [] h = tt
  of_classes (item.Func f ∷ items) h = of_classes items h.1
  of_classes (item.Class c ∷ items) h = (h.0, of_classes items h.1)
  of_classes (item.Import line names ∷ items) h = of_classes items (past_names (imported line names) (later items) h)
  of_classes (item.Other stmt ∷ items) h = of_classes items (past_names (bound_by stmt) (later items) h)

distinct_past : (bs cs : List Bound) → Distinct (names_of (bs ++ cs)) → Distinct (names_of cs)
distinct_past [] cs h = h
distinct_past (b ∷ bs) cs h = distinct_past bs cs h.1

-- the names of functions, those of classes, and both
record Parted (items : List Item) : Type 0 where
  functions : Distinct (function_names items)
  classes : Distinct (class_names items)
  apart : AllByRecursion (Apart (function_names items)) (class_names items)

another_function : (name : List ℕ) (functions classes : List (List ℕ)) → Apart classes name → AllByRecursion (Apart functions) classes → AllByRecursion (Apart (name ∷ functions)) classes
another_function name functions [] h k = tt
another_function name functions (c ∷ classes) h k = ((λ same. h.0 (sym same), k.0), another_function name functions classes h.1 k.1)

parted : (items : List Item) → Distinct (module_names items) → Parted items
parted [] d = record { functions = tt; classes = tt; apart = tt }
parted (item.Func f ∷ items) d =
    let rest = parted items d.1 in
    record {
      functions = (of_functions (Differs f.name) items d.0, rest.functions);
      classes = rest.classes;
      apart = another_function f.name (function_names items) (class_names items) (of_classes (Differs f.name) items d.0) rest.apart;
    }
parted (item.Class c ∷ items) d =
    let rest = parted items d.1 in
    record { functions = rest.functions; classes = (of_classes (Differs c.name) items d.0, rest.classes); apart = (of_functions (Differs c.name) items d.0, rest.apart) }
parted (item.Import line names ∷ items) d =
    let rest = parted items (distinct_past (imported line names) (later items) d) in record { functions = rest.functions; classes = rest.classes; apart = rest.apart }
parted (item.Other stmt ∷ items) d =
    let rest = parted items (distinct_past (bound_by stmt) (later items) d) in record { functions = rest.functions; classes = rest.classes; apart = rest.apart }

-- ---- the names of a program

no_methods : (c : ℕ) (members : List Member) (fs : List Function) → own_names (methods_in c members ++ fs) ≡ own_names fs
no_methods c [] fs = refl
no_methods c (member.Func f ∷ members) fs = no_methods c members fs
no_methods c (member.Other stmt ∷ members) fs = no_methods c members fs

functions_are : (classes : ℕ) (items : List Item) → own_names (functions_from classes items) ≡ function_names items
functions_are classes [] = refl
functions_are classes (item.Func f ∷ items) = ap (λ names. f.name ∷ names) (functions_are classes items)
functions_are classes (item.Class c ∷ items) = no_methods classes c.members (functions_from (classes + 1) items) ∙ functions_are (classes + 1) items
functions_are classes (item.Import line names ∷ items) = functions_are classes items
functions_are classes (item.Other stmt ∷ items) = functions_are classes items

one_more : (infos : List ClassInfo) (c : ClassInfo) (names : List (List ℕ)) → infos_names (infos ++ c ∷ []) ++ names ≡ infos_names infos ++ c.name ∷ names
one_more [] c names = refl
one_more (info ∷ infos) c names = ap (λ ns. info.name ∷ ns) (one_more infos c names)

classes_are : (infos : List ClassInfo) (functions : ℕ) (items : List Item) → infos_names (classes_from infos functions items) ≡ infos_names infos ++ class_names items
classes_are infos functions [] = sym (append-nil (infos_names infos))
classes_are infos functions (item.Func f ∷ items) = classes_are infos (functions + 1) items
classes_are infos functions (item.Class c ∷ items) =
    classes_are (infos ++ class_info infos functions c ∷ []) (functions + length (methods_from 0 c.members)) items ∙ one_more infos (class_info infos functions c) (class_names items)
classes_are infos functions (item.Import line names ∷ items) = classes_are infos functions items
classes_are infos functions (item.Other stmt ∷ items) = classes_are infos functions items

from_none : (i : ℕ) → 0 + i ≡ i
from_none i = omega arith

pub found_in : (program : Program) → Distinct (own_names program.functions) → Distinct (infos_names program.classes) → AllByRecursion (Apart (own_names program.functions)) (infos_names program.classes) → NamesAreFound program
found_in program functions classes apart = record {
  functions = λ i f at none. function_found 0 program.functions i f functions at none ∙ ap (λ n. Some (record { 0 = n })) (from_none i);
  classes = λ i c at. class_found 0 program.classes i c classes at ∙ ap (λ n. Some (Own n)) (from_none i);
  apart = λ i c at. no_function 0 program.functions c.name (class_at (Apart (own_names program.functions)) program.classes i c apart at);
}

pub names_found : AcceptedNamesAreFound
names_found m e =
    let p = parted m.items (accepted_distinct m e) in
    let fs = functions_are 0 m.items in
    let cs = classes_are [] 0 m.items in
    let functions : Distinct (own_names (functions_from 0 m.items)) = subst Distinct (sym fs) p.functions in
    let classes : Distinct (infos_names (classes_from [] 0 m.items)) = subst Distinct (sym cs) p.classes in
    let apart : AllByRecursion (Apart (own_names (functions_from 0 m.items))) (infos_names (classes_from [] 0 m.items)) =
    subst (λ names. AllByRecursion (Apart names) (infos_names (classes_from [] 0 m.items))) (sym fs) (subst (AllByRecursion (Apart (function_names m.items))) (sym cs) p.apart) in
    found_in (program_of m) functions classes apart
