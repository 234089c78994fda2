-- Functions and classes that may be called, by the list of callables and by themselves.
use Rattle.std.proofs.Common.{◌≡◌, ℕ, zero, suc, ◌+◌, ◌<◌, List, [], ◌∷◌, ◌++◌, length, Option, Some, None, Bool, true, false, refl, sym, ap, ap₂, ◌∙◌, cond, arith}
use Rattle.std.specs.List.{list_any}
use Rattle.std.specs.Option.{option_map}
use Rattle.std.specs.Prelude.{◌||◌, ◌&&◌, ◌==◌, slice_get}
use Rattle.std.proofs.lemmas.Bool.{eq-eqb}
use Rattle.std.proofs.lemmas.Bool.Decides.{nat_tests}
use Rattle.std.proofs.lemmas.List.Folds.{list_any-append}
use Rattle.std.proofs.lemmas.Option.{slice_get-map}
use Rattle.pyn_base.specs.declared.ids.FuncId.{FuncId}
use Rattle.py_syntax.specs.declared.module.Item.{Item}
use Rattle.py_syntax.specs.declared.module.Item.TheVariants as item
use Rattle.py_syntax.specs.declared.module.Member.{Member}
use Rattle.py_syntax.specs.declared.module.Member.TheVariants as member
use Rattle.py_syntax.specs.declared.module.Module.{Module}
use Rattle.py_plain.specs.Names.{function_at}
use Rattle.py_plain.specs.Program.{ClassInfo, methods_in, functions_from, methods_from, program_of}
use Rattle.suite_model.specs.declared.callable.Callable.{Callable}
use Rattle.suite_model.specs.declared.callable.Callable.TheVariants.{Constructor, Method}
use Rattle.suite_model.specs.declared.callable.Callable.TheVariants as callable
use Rattle.suite_model.specs.Callables.{is_public, is_callable, methods_called, callables_from, callables_of}
use Rattle.suite_model.specs.WellFormed.{may_call}
use Rattle.test_chromosome.specs.Calls.{is_called, is_public_name, is_made}
use Rattle.test_chromosome.proofs.Heads.{Head, head, heads_from, all_heads}

abbrev pub func_id : ℕ → FuncId
func_id n = record { 0 = n }

pub same : (n : ℕ) → (n == n) ≡ true
same n = eq-eqb n n refl

pub plus_none : (n : ℕ) → n ≡ n + 0
plus_none n = omega arith

pub none_plus : (n : ℕ) → 0 + n ≡ n
none_plus n = omega arith

pub less_other : (k n : ℕ) → k < n → (k == n) ≡ false
less_other k n lt = grind (arith, nat_tests)

pub more_other : (n j : ℕ) → (n + suc j == n) ≡ false
more_other n j = grind (arith, nat_tests)

-- one item's callables and those after it
pub by_public : (test : Callable → Bool) (b : Bool) (cs rest : List Callable) → list_any test (cond b cs [] ++ rest) ≡ ((b && list_any test cs) || list_any test rest)
by_public test true cs rest = list_any-append test cs rest
by_public test false cs rest = refl

pub skipped : (b p q : Bool) → p ≡ false → ((b && p) || q) ≡ q
skipped true p q e = ap (λ p. p || q) e
skipped false p q e = refl

pub settled : (b p q : Bool) → p ≡ true → q ≡ false → ((b && p) || q) ≡ b
settled true p q e h = ap (λ p. p || q) e
settled false p q e h = h

pub or_false : (p q : Bool) → p ≡ false → (p || q) ≡ q
or_false p q e = ap (λ p. p || q) e

-- a test that no callable of these passes
module _ (test : Callable → Bool) (class : ℕ) (fails : (number : ℕ) → test (Method class (func_id number)) ≡ false) where
  pub no_method : (number : ℕ) (members : List Member) → list_any test (methods_called class number members) ≡ false
  no_method number [] = refl
  no_method number (member.Func g ∷ members) =
      by_public test (is_public g.name) (Method class (func_id number) ∷ []) (methods_called class (number + 1) members)
      ∙ skipped (is_public g.name) (test (Method class (func_id number)) || false) (list_any test (methods_called class (number + 1) members)) (or_false (test (Method class (func_id number))) false (fails number))
      ∙ no_method (number + 1) members
  no_method number (member.Other stmt ∷ members) = no_method number members

-- ---- functions

module _ (k : ℕ) where
  before : (n c : ℕ) (items : List Item) → k < n → list_any (is_callable (callable.Function (func_id k))) (callables_from n c items) ≡ false
  before n c [] lt = refl
  before n c (item.Func g ∷ items) lt =
      by_public (is_callable (callable.Function (func_id k))) (is_public g.name) (callable.Function (func_id n) ∷ []) (callables_from (n + 1) c items)
      ∙ skipped (is_public g.name) ((k == n) || false) (list_any (is_callable (callable.Function (func_id k))) (callables_from (n + 1) c items)) (or_false (k == n) false (less_other k n lt))
      ∙ before (n + 1) c items (omega (arith, lt))
  before n c (item.Class cl ∷ items) lt =
      by_public (is_callable (callable.Function (func_id k))) (is_public cl.name) (Constructor c ∷ methods_called c n cl.members) (callables_from (n + length (methods_from 0 cl.members)) (c + 1) items)
      ∙ skipped (is_public cl.name) (list_any (is_callable (callable.Function (func_id k))) (methods_called c n cl.members))
      (list_any (is_callable (callable.Function (func_id k))) (callables_from (n + length (methods_from 0 cl.members)) (c + 1) items))
      (no_method (is_callable (callable.Function (func_id k))) c (λ number. refl) n cl.members)
      ∙ before (n + length (methods_from 0 cl.members)) (c + 1) items (omega (arith, lt))
  before n c (item.Import line names ∷ items) lt = before n c items lt
  before n c (item.Other stmt ∷ items) lt = before n c items lt

abbrev asks_function : ℕ → Callable → Bool
asks_function k = is_callable (callable.Function (func_id k))

abbrev FunctionsFrom : List Item → Type 0
FunctionsFrom items = (n c j : ℕ) → is_called (slice_get (functions_from c items) j) ≡ list_any (asks_function (n + j)) (callables_from n c items)

pub methods_counted : (number : ℕ) (members : List Member) → length (methods_from (number + 1) members) ≡ length (methods_from number members)
methods_counted number [] = refl
methods_counted number (member.Func f ∷ members) = ap suc (methods_counted (number + 1) members)
methods_counted number (member.Other stmt ∷ members) = methods_counted number members

-- methods are no functions of the module's level
past_methods : (items : List Item) → FunctionsFrom items → (n c class : ℕ) (members : List Member) (j : ℕ)
    → is_called (slice_get (methods_in class members ++ functions_from c items) j) ≡ list_any (asks_function (n + j)) (callables_from (n + length (methods_from 0 members)) c items)
past_methods items rest n c class [] j = rest n c j ∙ ap (λ k. list_any (asks_function (n + j)) (callables_from k c items)) (plus_none n)
past_methods items rest n c class (member.Func f ∷ members) zero = sym (before (n + 0) (n + suc (length (methods_from 1 members))) c items (omega arith))
past_methods items rest n c class (member.Func f ∷ members) (suc j) =
    past_methods items rest (n + 1) c class members j
    ∙ ap₂ (λ a b. list_any (asks_function a) (callables_from b c items)) (omega arith) (let e : length (methods_from 1 members) ≡ length (methods_from 0 members) = methods_counted 0 members in omega (arith, e))
past_methods items rest n c class (member.Other stmt ∷ members) j = past_methods items rest n c class members j

functions_called : (items : List Item) → FunctionsFrom items
functions_called [] n c j = refl
functions_called (item.Func g ∷ items) n c zero =
    sym (ap (λ k. list_any (asks_function k) (callables_from n c (item.Func g ∷ items))) (sym (plus_none n)) ∙ by_public (asks_function n) (is_public g.name) (callable.Function (func_id n) ∷ []) (callables_from (n + 1) c items)
    ∙ settled (is_public g.name) ((n == n) || false) (list_any (asks_function n) (callables_from (n + 1) c items)) (ap (λ p. p || false) (same n)) (before n (n + 1) c items (omega arith)))
functions_called (item.Func g ∷ items) n c (suc j) =
    functions_called items (n + 1) c j
    ∙ ap (λ k. list_any (asks_function k) (callables_from (n + 1) c items)) (omega arith)
    ∙ sym (by_public (asks_function (n + suc j)) (is_public g.name) (callable.Function (func_id n) ∷ []) (callables_from (n + 1) c items)
    ∙ skipped (is_public g.name) ((n + suc j == n) || false) (list_any (asks_function (n + suc j)) (callables_from (n + 1) c items)) (or_false (n + suc j == n) false (more_other n j)))
functions_called (item.Class cl ∷ items) n c j =
    past_methods items (functions_called items) n (c + 1) c cl.members j
    ∙ sym (by_public (asks_function (n + j)) (is_public cl.name) (Constructor c ∷ methods_called c n cl.members) (callables_from (n + length (methods_from 0 cl.members)) (c + 1) items)
    ∙ skipped (is_public cl.name) (list_any (asks_function (n + j)) (methods_called c n cl.members))
    (list_any (asks_function (n + j)) (callables_from (n + length (methods_from 0 cl.members)) (c + 1) items)) (no_method (asks_function (n + j)) c (λ number. refl) n cl.members))
functions_called (item.Import line names ∷ items) n c j = functions_called items n c j
functions_called (item.Other stmt ∷ items) n c j = functions_called items n c j

pub function_called : (m : Module) (f : FuncId) → is_called (function_at (program_of m) (Some f)) ≡ may_call (program_of m) (callables_of m) (callable.Function f)
function_called m f = functions_called m.items 0 0 f.0 ∙ ap (λ k. list_any (asks_function k) (callables_of m)) (none_plus f.0)

-- ---- classes

abbrev asks_class : ℕ → Callable → Bool
asks_class k = is_callable (Constructor k)

no_class : (k n c : ℕ) (items : List Item) → k < c → list_any (asks_class k) (callables_from n c items) ≡ false
no_class k n c [] lt = refl
no_class k n c (item.Func g ∷ items) lt =
    by_public (asks_class k) (is_public g.name) (callable.Function (func_id n) ∷ []) (callables_from (n + 1) c items)
    ∙ skipped (is_public g.name) false (list_any (asks_class k) (callables_from (n + 1) c items)) refl
    ∙ no_class k (n + 1) c items lt
no_class k n c (item.Class cl ∷ items) lt =
    by_public (asks_class k) (is_public cl.name) (Constructor c ∷ methods_called c n cl.members) (callables_from (n + length (methods_from 0 cl.members)) (c + 1) items)
    ∙ skipped (is_public cl.name) ((k == c) || list_any (asks_class k) (methods_called c n cl.members)) (list_any (asks_class k) (callables_from (n + length (methods_from 0 cl.members)) (c + 1) items))
    (or_false (k == c) (list_any (asks_class k) (methods_called c n cl.members)) (less_other k c lt) ∙ no_method (asks_class k) c (λ number. refl) n cl.members)
    ∙ no_class k (n + length (methods_from 0 cl.members)) (c + 1) items (omega (arith, lt))
no_class k n c (item.Import line names ∷ items) lt = no_class k n c items lt
no_class k n c (item.Other stmt ∷ items) lt = no_class k n c items lt

abbrev head_name : Head → List ℕ
head_name h = h.0

class_from : (n c : ℕ) (items : List Item) (j : ℕ) → is_public_name (option_map head_name (slice_get (heads_from n items) j)) ≡ list_any (asks_class (c + j)) (callables_from n c items)
class_from n c [] j = refl
class_from n c (item.Func g ∷ items) j =
    class_from (n + 1) c items j
    ∙ sym (by_public (asks_class (c + j)) (is_public g.name) (callable.Function (func_id n) ∷ []) (callables_from (n + 1) c items)
    ∙ skipped (is_public g.name) false (list_any (asks_class (c + j)) (callables_from (n + 1) c items)) refl)
class_from n c (item.Class cl ∷ items) zero =
    sym (ap (λ k. list_any (asks_class k) (callables_from n c (item.Class cl ∷ items))) (sym (plus_none c)) ∙ by_public (asks_class c) (is_public cl.name) (Constructor c ∷ methods_called c n cl.members) (callables_from (n + length (methods_from 0 cl.members)) (c + 1) items)
    ∙ settled (is_public cl.name) ((c == c) || list_any (asks_class c) (methods_called c n cl.members)) (list_any (asks_class c) (callables_from (n + length (methods_from 0 cl.members)) (c + 1) items))
    (ap (λ p. p || list_any (asks_class c) (methods_called c n cl.members)) (same c)) (no_class c (n + length (methods_from 0 cl.members)) (c + 1) items (omega arith)))
class_from n c (item.Class cl ∷ items) (suc j) =
    class_from (n + length (methods_from 0 cl.members)) (c + 1) items j
    ∙ ap (λ k. list_any (asks_class k) (callables_from (n + length (methods_from 0 cl.members)) (c + 1) items)) (omega arith)
    ∙ sym (by_public (asks_class (c + suc j)) (is_public cl.name) (Constructor c ∷ methods_called c n cl.members) (callables_from (n + length (methods_from 0 cl.members)) (c + 1) items)
    ∙ skipped (is_public cl.name) ((c + suc j == c) || list_any (asks_class (c + suc j)) (methods_called c n cl.members))
    (list_any (asks_class (c + suc j)) (callables_from (n + length (methods_from 0 cl.members)) (c + 1) items))
    (or_false (c + suc j == c) (list_any (asks_class (c + suc j)) (methods_called c n cl.members)) (more_other c j) ∙ no_method (asks_class (c + suc j)) c (λ number. refl) n cl.members))
class_from n c (item.Import line names ∷ items) j = class_from n c items j
class_from n c (item.Other stmt ∷ items) j = class_from n c items j

made_by : (info : Option ClassInfo) → is_made info ≡ is_public_name (option_map head_name (option_map head info))
made_by None = refl
made_by (Some info) = refl

pub class_called : (m : Module) (k : ℕ) → is_made (slice_get (program_of m).classes k) ≡ may_call (program_of m) (callables_of m) (Constructor k)
class_called m k =
    made_by (slice_get (program_of m).classes k)
    ∙ ap (λ h. is_public_name (option_map head_name h)) (sym (slice_get-map head (program_of m).classes k))
    ∙ ap (λ hs. is_public_name (option_map head_name (slice_get hs k))) (all_heads m.items)
    ∙ class_from 0 0 m.items k
    ∙ ap (λ j. list_any (asks_class j) (callables_of m)) (none_plus k)
