-- Which methods a receiver answers to, by the list of callables and by the classes above its own.
use Rattle.std.proofs.Common.{◌≡◌, ℕ, zero, suc, ◌+◌, ◌<◌, List, [], ◌∷◌, ◌++◌, length, Option, Some, None, Bool, true, false, refl, sym, ap, ap₂, ◌∙◌, cond, arith}
use Rattle.std.specs.List.{list_any}
use Rattle.std.specs.Option.{option_map}
use Rattle.std.specs.Prelude.{◌||◌, ◌&&◌, ◌==◌, slice_get, is_some, bytes_eq}
use Rattle.std.proofs.lemmas.Bool.Decides.{nat_tests}
use Rattle.std.proofs.lemmas.Option.{slice_get-map}
use Rattle.std.proofs.lemmas.Slice.Eq.{bytes_eq-Decides}
use Rattle.pyn_base.specs.declared.class.BuiltClass.{BuiltClass}
use Rattle.pyn_base.specs.declared.class.ClassId.{ClassId}
use Rattle.pyn_base.specs.declared.class.ClassId.TheVariants.{Built, Own}
use Rattle.pyn_base.specs.declared.ids.FuncId.{FuncId}
use Rattle.py_syntax.specs.declared.module.Item.{Item}
use Rattle.py_syntax.specs.declared.module.Item.TheVariants as item
use Rattle.py_syntax.specs.declared.module.Member.{Member}
use Rattle.py_syntax.specs.declared.module.Member.TheVariants as member
use Rattle.py_syntax.specs.declared.module.Module.{Module}
use Rattle.py_meaning.specs.Methods.{named}
use Rattle.py_meaning.specs.Values.{same_class}
use Rattle.py_names.specs.Bound.{locals}
use Rattle.py_plain.specs.Classes.{resolution_order, derives}
use Rattle.py_plain.specs.Names.{function_at}
use Rattle.py_plain.specs.Program.{Function, ClassInfo, Program, methods_in, functions_from, methods_from, program_of}
use Rattle.suite_model.specs.declared.callable.Callable.{Callable}
use Rattle.suite_model.specs.declared.callable.Callable.TheVariants.{Constructor, Method}
use Rattle.suite_model.specs.declared.callable.Callable.TheVariants as callable
use Rattle.suite_model.specs.declared.ty.Ty.{Ty, Ty-F, out-Ty}
use Rattle.suite_model.specs.Callables.{is_public, methods_called, callables_from, callables_of}
use Rattle.suite_model.specs.Types.{is_class_of}
use Rattle.suite_model.specs.WellFormed.{has_name, answers}
use Rattle.test_chromosome.specs.Calls.{head_has, info_has, class_has, answers_by}
use Rattle.test_chromosome.proofs.Called.{func_id, plus_none, none_plus, same, by_public, skipped, or_false, no_method, methods_counted}
use Rattle.test_chromosome.proofs.Heads.{head, heads_from, all_heads}
use Rattle.test_chromosome.proofs.TypeLevels.{fits-Class}

-- ---- tests of lists

same_test : {X : Type 0} (p q : X → Bool) → ((x : X) → p x ≡ q x) → (xs : List X) → list_any p xs ≡ list_any q xs
same_test p q e [] = refl
same_test p q e (x ∷ xs) = ap₂ (λ a b. a || b) (e x) (same_test p q e xs)

never : {X : Type 0} (p : X → Bool) → ((x : X) → p x ≡ false) → (xs : List X) → list_any p xs ≡ false
never p e [] = refl
never p e (x ∷ xs) = or_false (p x) (list_any p xs) (e x) ∙ never p e xs

and_each : {X : Type 0} (b : Bool) (p : X → Bool) (xs : List X) → (b && list_any p xs) ≡ list_any (λ x. b && p x) xs
and_each true p xs = refl
and_each false p xs = sym (never (λ x. false) (λ x. refl) xs)

between : (a b c d : Bool) → ((a || b) || (c || d)) ≡ ((a || c) || (b || d))
between true b c d = refl
between false true true d = refl
between false true false d = refl
between false false c d = refl

each_or : {X : Type 0} (p q : X → Bool) (xs : List X) → (list_any p xs || list_any q xs) ≡ list_any (λ x. p x || q x) xs
each_or p q [] = refl
each_or p q (x ∷ xs) = between (p x) (list_any p xs) (q x) (list_any q xs) ∙ ap (λ r. (p x || q x) || r) (each_or p q xs)

-- which of two lists is gone through first doesn't matter
swapped : {X Y : Type 0} (r : X → Y → Bool) (xs : List X) (ys : List Y) → list_any (λ x. list_any (r x) ys) xs ≡ list_any (λ y. list_any (λ x. r x y) xs) ys
swapped r [] ys = sym (never (λ y. false) (λ y. refl) ys)
swapped r (x ∷ xs) ys = ap (λ b. list_any (r x) ys || b) (swapped r xs ys) ∙ each_or (r x) (λ y. list_any (λ x. r x y) xs) ys

-- ---- the methods of one class

module _ (program : Program) (name : List ℕ) where
  -- a method of the name in this class
  abbrev pub in_own : ℕ → Callable → Bool
  in_own j (Method k f) = has_name name (function_at program (Some f)) && (k == j)
  in_own j _ = false

  falls : (b : Bool) → (b && false) ≡ false
  falls true = refl
  falls false = refl

  other_method : (j k : ℕ) → (k == j) ≡ false → (f : FuncId) → in_own j (Method k f) ≡ false
  other_method j k e f = ap (λ b. has_name name (function_at program (Some f)) && b) e ∙ falls (has_name name (function_at program (Some f)))

  -- the functions from a number on are these
  abbrev pub At : ℕ → List Function → Type 0
  At n fs = (i : ℕ) → slice_get program.functions (n + i) ≡ slice_get fs i

  after : (n : ℕ) (f : Function) (fs : List Function) → At n (f ∷ fs) → At (n + 1) fs
  after n f fs at i = ap (λ k. slice_get program.functions k) (omega arith) ∙ at (suc i)

  one_method : (pg pn q rest found : Bool) → pg ≡ pn → rest ≡ (pn && found) → ((pg && ((q && true) || false)) || rest) ≡ (pn && cond q true found)
  one_method true true true rest found e h = refl
  one_method true true false rest found e h = h
  one_method false false true rest found e h = h
  one_method false false false rest found e h = h
  one_method true false q rest found e h = absurd (cc)
  one_method false true q rest found e h = absurd (cc)

  other_name : (pg rest : Bool) → ((pg && ((false && true) || false)) || rest) ≡ rest
  other_name true rest = refl
  other_name false rest = refl

  found_or : (b : Bool) (f : FuncId) (rest : Option FuncId) → is_some (cond b (Some f) rest) ≡ cond b true (is_some rest)
  found_or true f rest = refl
  found_or false f rest = refl

  -- by whether the method has the name
  by_name : (pg pn q rest found : Bool) → (q ≡ true → pg ≡ pn) → rest ≡ (pn && found) → ((pg && ((q && true) || false)) || rest) ≡ (pn && cond q true found)
  by_name pg pn true rest found e h = one_method pg pn true rest found (e refl) h
  by_name pg pn false rest found e h = other_name pg rest ∙ h

  one_at : (n : ℕ) (f : Function) (fs : List Function) → At n (f ∷ fs) → function_at program (Some (func_id n)) ≡ Some f
  one_at n f fs at = ap (λ k. slice_get program.functions k) (omega arith) ∙ at 0

  methods_named : (j n : ℕ) (members : List Member) (more : List Function) → At n (methods_in j members ++ more)
      → list_any (in_own j) (methods_called j n members) ≡ (is_public name && is_some (named (methods_from n members) name))
  methods_named j n [] more at = sym (falls (is_public name))
  methods_named j n (member.Func g ∷ members) more at =
      let this : Function = record { tree = g; owner = Some j; locals = locals g } in
      by_public (in_own j) (is_public g.name) (Method j (func_id n) ∷ []) (methods_called j (n + 1) members)
      ∙ ap₂ (λ h k. (is_public g.name && ((h && k) || false)) || list_any (in_own j) (methods_called j (n + 1) members)) (ap (has_name name) (one_at n this (methods_in j members ++ more) at)) (same j)
      ∙ by_name (is_public g.name) (is_public name) (bytes_eq name g.name) (list_any (in_own j) (methods_called j (n + 1) members)) (is_some (named (methods_from (n + 1) members) name))
      (λ e. ap is_public (sym ((bytes_eq-Decides name g.name).0 e)))
      (methods_named j (n + 1) members more (after n this (methods_in j members ++ more) at))
      ∙ ap (λ b. is_public name && b) (sym (found_or (bytes_eq name g.name) (func_id n) (named (methods_from (n + 1) members) name)))
  methods_named j n (member.Other stmt ∷ members) more at = methods_named j n members more at

  -- ---- those of all classes

  flipped : (j c : ℕ) → j < c → (c == j) ≡ false
  flipped j c lt = grind (arith, nat_tests)

  below : (c i : ℕ) → (c == c + suc i) ≡ false
  below c i = grind (arith, nat_tests)

  no_own : (j n c : ℕ) (items : List Item) → j < c → list_any (in_own j) (callables_from n c items) ≡ false
  no_own j n c [] lt = refl
  no_own j n c (item.Func g ∷ items) lt =
      by_public (in_own j) (is_public g.name) (callable.Function (func_id n) ∷ []) (callables_from (n + 1) c items)
      ∙ skipped (is_public g.name) false (list_any (in_own j) (callables_from (n + 1) c items)) refl
      ∙ no_own j (n + 1) c items lt
  no_own j n c (item.Class cl ∷ items) lt =
      by_public (in_own j) (is_public cl.name) (Constructor c ∷ methods_called c n cl.members) (callables_from (n + length (methods_from 0 cl.members)) (c + 1) items)
      ∙ skipped (is_public cl.name) (list_any (in_own j) (methods_called c n cl.members)) (list_any (in_own j) (callables_from (n + length (methods_from 0 cl.members)) (c + 1) items))
      (no_method (in_own j) c (λ number. other_method j c (flipped j c lt) (func_id number)) n cl.members)
      ∙ no_own j (n + length (methods_from 0 cl.members)) (c + 1) items (omega (arith, lt))
  no_own j n c (item.Import line names ∷ items) lt = no_own j n c items lt
  no_own j n c (item.Other stmt ∷ items) lt = no_own j n c items lt

  past : (n class : ℕ) (members : List Member) (more : List Function) → At n (methods_in class members ++ more) → At (n + length (methods_from 0 members)) more
  past n class [] more at i = ap (λ k. slice_get program.functions k) (omega arith) ∙ at i
  past n class (member.Func g ∷ members) more at i =
      let e : length (methods_from 1 members) ≡ length (methods_from 0 members) = methods_counted 0 members in
      ap (λ k. slice_get program.functions k) (omega (arith, e))
      ∙ past (n + 1) class members more (after n record { tree = g; owner = Some class; locals = locals g } (methods_in class members ++ more) at) i
  past n class (member.Other stmt ∷ members) more at i = past n class members more at i

  all_three : (p q r : Bool) → (p && (q && r)) ≡ ((p && q) && r)
  all_three true q r = refl
  all_three false q r = refl

  last : (p q r : Bool) → r ≡ false → ((p && q) || r) ≡ (p && q)
  last true true r e = refl
  last true false r e = e
  last false q r e = e

  own_methods : (items : List Item) (n c i : ℕ) → At n (functions_from c items) → list_any (in_own (c + i)) (callables_from n c items) ≡ head_has name (slice_get (heads_from n items) i)
  own_methods [] n c i at = refl
  own_methods (item.Func g ∷ items) n c i at =
      by_public (in_own (c + i)) (is_public g.name) (callable.Function (func_id n) ∷ []) (callables_from (n + 1) c items)
      ∙ skipped (is_public g.name) false (list_any (in_own (c + i)) (callables_from (n + 1) c items)) refl
      ∙ own_methods items (n + 1) c i (after n record { tree = g; owner = None; locals = locals g } (functions_from c items) at)
  own_methods (item.Class cl ∷ items) n c zero at =
      ap (λ j. list_any (in_own j) (callables_from n c (item.Class cl ∷ items))) (sym (plus_none c))
      ∙ by_public (in_own c) (is_public cl.name) (Constructor c ∷ methods_called c n cl.members) (callables_from (n + length (methods_from 0 cl.members)) (c + 1) items)
      ∙ last (is_public cl.name) (list_any (in_own c) (methods_called c n cl.members)) (list_any (in_own c) (callables_from (n + length (methods_from 0 cl.members)) (c + 1) items))
      (no_own c (n + length (methods_from 0 cl.members)) (c + 1) items (omega arith))
      ∙ ap (λ b. is_public cl.name && b) (methods_named c n cl.members (functions_from (c + 1) items) at)
      ∙ all_three (is_public cl.name) (is_public name) (is_some (named (methods_from n cl.members) name))
  own_methods (item.Class cl ∷ items) n c (suc i) at =
      by_public (in_own (c + suc i)) (is_public cl.name) (Constructor c ∷ methods_called c n cl.members) (callables_from (n + length (methods_from 0 cl.members)) (c + 1) items)
      ∙ skipped (is_public cl.name) (list_any (in_own (c + suc i)) (methods_called c n cl.members)) (list_any (in_own (c + suc i)) (callables_from (n + length (methods_from 0 cl.members)) (c + 1) items))
      (no_method (in_own (c + suc i)) c (λ number. other_method (c + suc i) c (below c i) (func_id number)) n cl.members)
      ∙ ap (λ j. list_any (in_own j) (callables_from (n + length (methods_from 0 cl.members)) (c + 1) items)) (omega arith)
      ∙ own_methods items (n + length (methods_from 0 cl.members)) (c + 1) i (past n c cl.members (functions_from (c + 1) items) at)
  own_methods (item.Import line names ∷ items) n c i at = own_methods items n c i at
  own_methods (item.Other stmt ∷ items) n c i at = own_methods items n c i at

-- ---- receivers

module _ (m : Module) (name : List ℕ) where
  abbrev program : Program
  program = program_of m

  -- a method of the name, where it is written in this class
  abbrev answered_in : ClassId → Callable → Bool
  answered_in class (Method k f) = has_name name (function_at program (Some f)) && same_class (Own k) class
  answered_in class _ = false

  by_head : (info : Option ClassInfo) → head_has name (option_map head info) ≡ info_has name info
  by_head None = refl
  by_head (Some info) = refl

  own_answers : (j : ℕ) (c : Callable) → answered_in (Own j) c ≡ in_own program name j c
  own_answers j (Constructor k) = refl
  own_answers j (Method k f) = refl
  own_answers j (callable.Function f) = refl

  built_answers : (class : BuiltClass) (c : Callable) → answered_in (Built class) c ≡ false
  built_answers class (Constructor k) = refl
  built_answers class (Method k f) = falls program name (has_name name (function_at program (Some f)))
  built_answers class (callable.Function f) = refl

  class_answers : (class : ClassId) → list_any (answered_in class) (callables_of m) ≡ class_has program name class
  class_answers (Built class) = never (answered_in (Built class)) (built_answers class) (callables_of m)
  class_answers (Own j) =
      same_test (answered_in (Own j)) (in_own program name j) (own_answers j) (callables_of m)
      ∙ ap (λ k. list_any (in_own program name k) (callables_of m)) (sym (none_plus j))
      ∙ own_methods program name m.items 0 0 j (λ i. ap (λ k. slice_get program.functions k) (none_plus i))
      ∙ ap (λ hs. head_has name (slice_get hs j)) (sym (all_heads m.items))
      ∙ ap (head_has name) (slice_get-map head program.classes j)
      ∙ by_head (slice_get program.classes j)

  given_class : (receiver : Ty) (given : ClassId) → out-Ty receiver ≡ Ty-F.Class given → (c : Callable)
      → answers program (callables_of m) receiver name c ≡ list_any (λ class. answered_in class c) (resolution_order program given)
  given_class receiver given is (Constructor k) = sym (never (λ class. false) (λ class. refl) (resolution_order program given))
  given_class receiver given is (Method k f) =
      ap (λ b. has_name name (function_at program (Some f)) && b) (fits-Class program receiver (Own k) ∙ ap (is_class_of (λ g. derives program g (Own k))) is)
      ∙ and_each (has_name name (function_at program (Some f))) (same_class (Own k)) (resolution_order program given)
  given_class receiver given is (callable.Function f) = sym (never (λ class. false) (λ class. refl) (resolution_order program given))

  no_class : (receiver : Ty) (t : Ty-F Ty) → out-Ty receiver ≡ t → ((which : ClassId → Bool) → is_class_of which t ≡ false) → (c : Callable) → answers program (callables_of m) receiver name c ≡ false
  no_class receiver t is none (Constructor k) = refl
  no_class receiver t is none (Method k f) =
      ap (λ b. has_name name (function_at program (Some f)) && b) (fits-Class program receiver (Own k) ∙ ap (is_class_of (λ g. derives program g (Own k))) is ∙ none (λ g. derives program g (Own k)))
      ∙ falls program name (has_name name (function_at program (Some f)))
  no_class receiver t is none (callable.Function f) = refl

  answered_by : (receiver : Ty) (t : Ty-F Ty) → out-Ty receiver ≡ t → list_any (answers program (callables_of m) receiver name) (callables_of m) ≡ answers_by program t name
  answered_by receiver (Ty-F.Class given) is =
      same_test (answers program (callables_of m) receiver name) (λ c. list_any (λ class. answered_in class c) (resolution_order program given)) (given_class receiver given is) (callables_of m)
      ∙ swapped (λ c class. answered_in class c) (callables_of m) (resolution_order program given)
      ∙ same_test (λ class. list_any (answered_in class) (callables_of m)) (class_has program name) class_answers (resolution_order program given)
  answered_by receiver Ty-F.Int is = never (answers program (callables_of m) receiver name) (no_class receiver Ty-F.Int is (λ which. refl)) (callables_of m)
  answered_by receiver Ty-F.Bool is = never (answers program (callables_of m) receiver name) (no_class receiver Ty-F.Bool is (λ which. refl)) (callables_of m)
  answered_by receiver Ty-F.Str is = never (answers program (callables_of m) receiver name) (no_class receiver Ty-F.Str is (λ which. refl)) (callables_of m)
  answered_by receiver Ty-F.NoneType is = never (answers program (callables_of m) receiver name) (no_class receiver Ty-F.NoneType is (λ which. refl)) (callables_of m)
  answered_by receiver (Ty-F.List t) is = never (answers program (callables_of m) receiver name) (no_class receiver (Ty-F.List t) is (λ which. refl)) (callables_of m)
  answered_by receiver (Ty-F.Dict k v) is = never (answers program (callables_of m) receiver name) (no_class receiver (Ty-F.Dict k v) is (λ which. refl)) (callables_of m)
  answered_by receiver (Ty-F.OrNone t) is = never (answers program (callables_of m) receiver name) (no_class receiver (Ty-F.OrNone t) is (λ which. refl)) (callables_of m)
  answered_by receiver Ty-F.Any is = never (answers program (callables_of m) receiver name) (no_class receiver Ty-F.Any is (λ which. refl)) (callables_of m)

pub method_answered : (m : Module) (receiver : Ty) (name : List ℕ) → answers_by (program_of m) (out-Ty receiver) name ≡ list_any (answers (program_of m) (callables_of m) receiver name) (callables_of m)
method_answered m receiver name = sym (answered_by m name receiver (out-Ty receiver) refl)
