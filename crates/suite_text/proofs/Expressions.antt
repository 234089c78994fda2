-- The expressions of a printable suite fit.
use Rattle.std.proofs.Common.{◌≡◌, ◌∙◌, sym, ap, refl, subst, ℕ, zero, suc, ◌+◌, ◌%◌, ◌^◌, ◌<◌, ◌≤◌, Bool, true, false, ◌&&◌, List, [], ◌∷◌, ◌++◌, Option, Some, None, arith, decimal}
use Rattle.std.specs.Prelude.{map, max, pos, negsuc, nat_lt, is_none, slice_get, codes}
use Rattle.std.specs.List.{list_all}
use Rattle.std.specs.Str.{all_scalars}
use Rattle.std.proofs.Math.Nat.{le-max_left, le-max_right}
use Rattle.std.proofs.lemmas.Bool.Decides.{nat_tests}
use Rattle.std.proofs.lemmas.Fmt.{decimal_by_steps_wide}
use Rattle.std.proofs.lemmas.List.Folds.{list_all-append}
use Rattle.pyn_base.specs.declared.class.BuiltClass.TheVariants as built
use Rattle.pyn_base.specs.declared.class.ClassId.{ClassId}
use Rattle.pyn_base.specs.declared.class.ClassId.TheVariants.{Built, Own}
use Rattle.py_language.specs.declared.shape.Atom.TheVariants as a
use Rattle.py_language.specs.declared.shape.Shape.TheVariants as shape
use Rattle.py_language.specs.declared.shape.Symbol.TheVariants as s
use Rattle.py_language.specs.TokensCharacters.{is_word}
use Rattle.py_language.specs.TokensNames.{keywords_of_2, keywords_of_3, keywords_of_4, keywords_of_5, keywords_of_6, keywords_of_7, keywords_of_8}
use Rattle.py_syntax.specs.declared.expr.Expr.{Expr}
use Rattle.py_syntax.specs.declared.expr.ExprKind.TheVariants as e
use Rattle.py_syntax.specs.declared.operator.Sign.TheVariants.{Minus}
use Rattle.py_plain.specs.Names.{function_at}
use Rattle.py_plain.specs.Program.{Function, ClassInfo, Program}
use Rattle.py_spelling.specs.Spelling.{is_small}
use Rattle.py_printing.specs.Expressions.{unnumbered}
use Rattle.py_printing.specs.Printing.{Each}
use Rattle.py_printing.proofs.CleanForms.{clean}
use Rattle.suite_model.specs.declared.suite.Shown.{Shown, Shown-F, map-Shown, out-Shown, fold_out-Shown}
use Rattle.suite_model.specs.declared.test.Primitive.{Primitive}
use Rattle.suite_model.specs.declared.test.Primitive.TheVariants as prim
use Rattle.suite_model.specs.declared.test.Step.{Step}
use Rattle.suite_model.specs.declared.test.Step.TheVariants as step
use Rattle.suite_model.specs.Assertions.{display, display_by, bare_name, class_read}
use Rattle.suite_model.specs.Folds.{by_shown}
use Rattle.suite_model.specs.Statements.{expression, variable, variable_read, literal, class_name, function_name, calls, module_read, right_of}
use Rattle.suite_text.specs.Printable.{is_identifier, largest, literal_depth, depth_by, display_depth, are_bound, is_own_class, is_function, is_there, is_printable_step}
use Rattle.suite_text.specs.Spelled.{is_spelled_literal, spelled_by, is_spelled_display, is_spelled_step}
use Rattle.suite_text.proofs.Clean.{and_both, and_intro}
use Rattle.suite_text.proofs.Fitting.{Fine, FineEntry, atom_fine, list_fine, tuple_fine, dict_fine, negative_fine, attribute_fine, method_fine}
use Rattle.suite_text.proofs.Shapes.{both_unnumbered, given, shape-NoneLit, shape-BoolLit, shape-IntLit, shape-StrLit, shape-Name, shape-ListLit, shape-TupleLit, shape-DictLit, shape-Attr, shape-Unary, shape-Method}

-- ---- names

digit_word : (m : ℕ) → m < 10 → is_word (48 + m) ≡ true
digit_word m lt = grind (arith, nat_tests, lt)

one_word : (m : ℕ) → m < 10 → list_all is_word ((48 + m) ∷ []) ≡ true
one_word m lt = rw (digit_word m lt) refl

more_words : (m : ℕ) (ds : List ℕ) → 10 ≤ m → list_all is_word ds ≡ true → list_all is_word (ds ++ ((48 + m % 10) ∷ [])) ≡ true
more_words m ds le h = list_all-append is_word ds ((48 + m % 10) ∷ []) ∙ rw (h, digit_word (m % 10) (omega arith)) refl

pub decimal_words : (n : ℕ) → n < 10 ^ 64 → list_all is_word (decimal n) ≡ true
decimal_words n lt = decimal_by_steps_wide (λ m ds. list_all is_word ds ≡ true) one_word more_words n lt

pub variable_named : (k : ℕ) → k < 10 ^ 64 → is_identifier (variable k) ≡ true
unfolding keywords_of_2 keywords_of_3 keywords_of_4 keywords_of_5 keywords_of_6 keywords_of_7 keywords_of_8
variable_named k lt = rw (decimal_words k lt) refl

pub module_named : is_identifier (codes "module_0") ≡ true
unfolding keywords_of_2 keywords_of_3 keywords_of_4 keywords_of_5 keywords_of_6 keywords_of_7 keywords_of_8
module_named = refl

pub isinstance_named : is_identifier (codes "isinstance") ≡ true
unfolding keywords_of_2 keywords_of_3 keywords_of_4 keywords_of_5 keywords_of_6 keywords_of_7 keywords_of_8
isinstance_named = refl

pub pytest_named : is_identifier (codes "pytest") ≡ true
unfolding keywords_of_2 keywords_of_3 keywords_of_4 keywords_of_5 keywords_of_6 keywords_of_7 keywords_of_8
pytest_named = refl

pub raises_named : is_identifier (codes "raises") ≡ true
unfolding keywords_of_2 keywords_of_3 keywords_of_4 keywords_of_5 keywords_of_6 keywords_of_7 keywords_of_8
raises_named = refl

pub name_clean : (n : List ℕ) → is_identifier n ≡ true → clean (s.Atom (a.Name n)) ≡ true
name_clean n h = and_intro (is_identifier n) true h refl

pub attribute_clean : (n : List ℕ) → is_identifier n ≡ true → clean (s.Attribute n) ≡ true
attribute_clean n h = and_intro (is_identifier n) true h refl

pub method_clean : (n : List ℕ) → is_identifier n ≡ true → clean (s.Method n) ≡ true
method_clean n h = and_intro (is_identifier n) true h refl

pub name_fine : (d : ℕ) (n : List ℕ) → is_identifier n ≡ true → Fine (suc d) (unnumbered (expression (e.Name n)))
name_fine d n h = subst (Fine (suc d)) (sym (shape-Name n)) (atom_fine d (a.Name n) (name_clean n h))

-- ---- literals and displays

pub literal_fine : (d : ℕ) (p : Primitive) → literal_depth p ≤ suc d → is_spelled_literal p ≡ true → Fine (suc d) (unnumbered (literal p))
literal_fine d prim.None le h = subst (Fine (suc d)) (sym shape-NoneLit) (atom_fine d a.NoneLit refl)
literal_fine d (prim.Bool true) le h = subst (Fine (suc d)) (sym (shape-BoolLit true)) (atom_fine d (a.BoolLit true) refl)
literal_fine d (prim.Bool false) le h = subst (Fine (suc d)) (sym (shape-BoolLit false)) (atom_fine d (a.BoolLit false) refl)
literal_fine d (prim.Int (pos n)) le h = subst (Fine (suc d)) (sym (shape-IntLit (pos n))) (atom_fine d (a.IntLit (pos n)) (and_intro (is_small (pos n)) true h refl))
literal_fine zero (prim.Int (negsuc n)) le h = absurd (omega (arith, le))
literal_fine (suc d) (prim.Int (negsuc n)) le h =
    let part = expression (e.IntLit (pos (suc n))) in
    subst (Fine (suc (suc d))) (sym (shape-Unary Minus part ∙ ap (shape.Unary Minus) (shape-IntLit (pos (suc n))))) (negative_fine d (a.IntLit (pos (suc n))) (and_intro (is_small (pos (suc n))) true h refl))
literal_fine d (prim.Str text) le h = subst (Fine (suc d)) (sym (shape-StrLit text)) (atom_fine d (a.StrLit text) (and_intro (all_scalars text) true h refl))

pub depth_is : (x : Shown) → display_depth x ≡ depth_by (map-Shown Shown ℕ display_depth (out-Shown x))
unfolding display_depth
depth_is x = fold_out-Shown ℕ depth_by x

spelled_is : (x : Shown) → is_spelled_display x ≡ spelled_by (map-Shown Shown Bool is_spelled_display (out-Shown x))
unfolding is_spelled_display
spelled_is x = fold_out-Shown Bool spelled_by x

positive_by : (f : Shown-F ℕ) → 1 ≤ depth_by f
positive_by (Shown-F.Prim prim.None) = omega arith
positive_by (Shown-F.Prim (prim.Bool b)) = omega arith
positive_by (Shown-F.Prim (prim.Int (pos n))) = omega arith
positive_by (Shown-F.Prim (prim.Int (negsuc n))) = omega arith
positive_by (Shown-F.Prim (prim.Str text)) = omega arith
positive_by (Shown-F.List parts) = omega arith
positive_by (Shown-F.Tuple parts) = omega arith
positive_by (Shown-F.Dict pairs) = omega arith

positive : (x : Shown) → 1 ≤ display_depth x
positive x = subst (λ n. 1 ≤ n) (sym (depth_is x)) (positive_by (map-Shown Shown ℕ display_depth (out-Shown x)))

abbrev pub IsFine : ℕ → Type 0
IsFine d = (x : Shown) → display_depth x ≤ d → is_spelled_display x ≡ true → Fine d (unnumbered (display x))

parts_fine : (d : ℕ) → IsFine d → (parts : List Shown) → largest (map display_depth parts) ≤ d → list_all (λ part. part) (map is_spelled_display parts) ≡ true → Each (Fine d) (map unnumbered (map display parts))
parts_fine d ih [] le h = tt
parts_fine d ih (x ∷ parts) le h =
    let two = and_both (is_spelled_display x) (list_all (λ part. part) (map is_spelled_display parts)) h in
    let left = le-max_left (display_depth x) (largest (map display_depth parts)) in
    let right = le-max_right (display_depth x) (largest (map display_depth parts)) in
    (ih x (omega (arith, left, le)) two.0, parts_fine d ih parts (omega (arith, right, le)) two.1)

abbrev depths : Shown × Shown → ℕ × ℕ
depths p = (display_depth p.0, display_depth p.1)

abbrev spelled_both : Shown × Shown → Bool × Bool
spelled_both p = (is_spelled_display p.0, is_spelled_display p.1)

abbrev displays : Shown × Shown → Expr × Expr
displays p = (display p.0, display p.1)

pairs_fine : (d : ℕ) → IsFine d → (pairs : List (Shown × Shown)) → largest (map (λ (pair : ℕ × ℕ). max pair.0 pair.1) (map depths pairs)) ≤ d
    → list_all (λ (pair : Bool × Bool). pair.0 && pair.1) (map spelled_both pairs) ≡ true → Each (FineEntry d) (map both_unnumbered (map displays pairs))
pairs_fine d ih [] le h = tt
pairs_fine d ih (x ∷ pairs) le h =
    let rest = list_all (λ (pair : Bool × Bool). pair.0 && pair.1) (map spelled_both pairs) in
    let two = and_both (is_spelled_display x.0 && is_spelled_display x.1) rest h in
    let own = and_both (is_spelled_display x.0) (is_spelled_display x.1) two.0 in
    let others = largest (map (λ (pair : ℕ × ℕ). max pair.0 pair.1) (map depths pairs)) in
    let left = le-max_left (max (display_depth x.0) (display_depth x.1)) others in
    let right = le-max_right (max (display_depth x.0) (display_depth x.1)) others in
    let key = le-max_left (display_depth x.0) (display_depth x.1) in
    let value = le-max_right (display_depth x.0) (display_depth x.1) in
    ((ih x.0 (omega (arith, key, left, le)) own.0, ih x.1 (omega (arith, value, left, le)) own.1), pairs_fine d ih pairs (omega (arith, right, le)) two.1)

-- one level
display_by_fine : (d : ℕ) → IsFine d → (f : Shown-F Shown) → depth_by (map-Shown Shown ℕ display_depth f) ≤ suc d → spelled_by (map-Shown Shown Bool is_spelled_display f) ≡ true
    → Fine (suc d) (unnumbered (display_by (map-Shown Shown Expr display f)))
display_by_fine d ih (Shown-F.Prim p) le h = literal_fine d p le h
display_by_fine d ih (Shown-F.List parts) le h = subst (Fine (suc d)) (sym (shape-ListLit (map display parts))) (list_fine d (map unnumbered (map display parts)) (parts_fine d ih parts (omega (arith, le)) h))
display_by_fine d ih (Shown-F.Tuple parts) le h = subst (Fine (suc d)) (sym (shape-TupleLit (map display parts))) (tuple_fine d (map unnumbered (map display parts)) (parts_fine d ih parts (omega (arith, le)) h))
display_by_fine d ih (Shown-F.Dict pairs) le h = subst (Fine (suc d)) (sym (shape-DictLit (map displays pairs))) (dict_fine d (map both_unnumbered (map displays pairs)) (pairs_fine d ih pairs (omega (arith, le)) h))

pub display_fine : (d : ℕ) → IsFine d
display_fine zero x le h = absurd (let some = positive x in omega (arith, some, le))
display_fine (suc d) x le h =
    let deep = subst (λ n. n ≤ suc d) (depth_is x) le in
    subst (λ y. Fine (suc d) (unnumbered y)) (sym (by_shown x)) (display_by_fine d (λ y l k. display_fine d y l k) (out-Shown x) deep (sym (spelled_is x) ∙ h))

-- ---- variables and calls

within : (k bound : ℕ) → nat_lt k bound ≡ true → k < bound
within k bound h = grind (arith, nat_tests, h)

pub read_fine : (d k bound : ℕ) → nat_lt k bound ≡ true → bound ≤ 2 ^ 64 → Fine (suc d) (unnumbered (variable_read k))
read_fine d k bound h le = let lt = within k bound h in name_fine d (variable k) (variable_named k (omega (arith, lt, le)))

reads_fine : (d bound : ℕ) (ks : List ℕ) → are_bound bound ks ≡ true → bound ≤ 2 ^ 64 → Each (Fine (suc d)) (map unnumbered (map variable_read ks))
reads_fine d bound [] h le = tt
reads_fine d bound (k ∷ ks) h le =
    let two = and_both (nat_lt k bound) (are_bound bound ks) h in
    (read_fine d k bound two.0 le, reads_fine d bound ks two.1 le)

abbrev read_pair : ℕ × ℕ → Expr × Expr
read_pair pair = (variable_read pair.0, variable_read pair.1)

abbrev is_bound_pair : ℕ → ℕ × ℕ → Bool
is_bound_pair bound pair = nat_lt pair.0 bound && nat_lt pair.1 bound

read_pairs_fine : (d bound : ℕ) (pairs : List (ℕ × ℕ)) → list_all (is_bound_pair bound) pairs ≡ true → bound ≤ 2 ^ 64 → Each (FineEntry (suc d)) (map both_unnumbered (map read_pair pairs))
read_pairs_fine d bound [] h le = tt
read_pairs_fine d bound (pair ∷ pairs) h le =
    let two = and_both (is_bound_pair bound pair) (list_all (is_bound_pair bound) pairs) h in
    let own = and_both (nat_lt pair.0 bound) (nat_lt pair.1 bound) two.0 in
    ((read_fine d pair.0 bound own.0 le, read_fine d pair.1 bound own.1 le), read_pairs_fine d bound pairs two.1 le)

-- a call through a name
pub calls_fine : (d bound : ℕ) (of name : List ℕ) (args : List ℕ) → is_identifier of ≡ true → is_identifier name ≡ true → are_bound bound args ≡ true → bound ≤ 2 ^ 64
    → Fine (suc (suc d)) (unnumbered (calls (expression (e.Name of)) name args))
calls_fine d bound of name args h k g le =
    let reads = map variable_read args in
    subst (Fine (suc (suc d))) (sym (shape-Method (expression (e.Name of)) name reads ∙ ap (λ x. shape.Method x name (given reads)) (shape-Name of)))
    (method_fine d (a.Name of) name (map unnumbered reads) (name_clean of h) (method_clean name k) (reads_fine d bound args g le))

own_named : (o : Option ClassInfo) → is_own_class o ≡ true → is_identifier (class_name o) ≡ true
own_named None h = absurd (cc)
own_named (Some info) h = h

function_named : (o : Option Function) → is_function o ≡ true → is_identifier (function_name o) ≡ true
function_named None h = absurd (cc)
function_named (Some f) h = (and_both (is_none f.owner) (is_identifier f.tree.name) h).1

-- ---- what a step makes

pub right_fine : (program : Program) (d bound : ℕ) (step : Step) → is_printable_step program bound step ≡ true → is_spelled_step step ≡ true → bound ≤ 2 ^ 64 → Fine (suc (suc d)) (unnumbered (right_of program step))
right_fine program d bound (step.Prim p) h k le = literal_fine (suc d) p (at_most_two p) k
  where
    at_most_two : (p : Primitive) → literal_depth p ≤ suc (suc d)
    at_most_two prim.None = omega arith
    at_most_two (prim.Bool b) = omega arith
    at_most_two (prim.Int (pos n)) = omega arith
    at_most_two (prim.Int (negsuc n)) = omega arith
    at_most_two (prim.Str text) = omega arith
right_fine program d bound (step.ListOf parts) h k le =
    subst (Fine (suc (suc d))) (sym (shape-ListLit (map variable_read parts))) (list_fine (suc d) (map unnumbered (map variable_read parts)) (reads_fine d bound parts h le))
right_fine program d bound (step.DictOf pairs) h k le =
    subst (Fine (suc (suc d))) (sym (shape-DictLit (map read_pair pairs))) (dict_fine (suc d) (map both_unnumbered (map read_pair pairs)) (read_pairs_fine d bound pairs h le))
right_fine program d bound (step.Construct class args) h k le =
    let two = and_both (is_there program (Own class)) (are_bound bound args) h in
    calls_fine d bound (codes "module_0") (class_name (slice_get program.classes class)) args module_named (own_named (slice_get program.classes class) two.0) two.1 le
right_fine program d bound (step.Method receiver name args) h k le =
    let two = and_both (nat_lt receiver bound) (is_identifier name && are_bound bound args) h in
    let rest = and_both (is_identifier name) (are_bound bound args) two.1 in
    let lt = within receiver bound two.0 in
    calls_fine d bound (variable receiver) name args (variable_named receiver (omega (arith, lt, le))) rest.0 rest.1 le
right_fine program d bound (step.Function f args) h k le =
    let two = and_both (is_function (function_at program (Some f))) (are_bound bound args) h in
    calls_fine d bound (codes "module_0") (function_name (function_at program (Some f))) args module_named (function_named (function_at program (Some f)) two.0) two.1 le

-- ---- classes

pub class_named : (program : Program) (class : ClassId) → is_there program class ≡ true → is_identifier (bare_name program class) ≡ true
unfolding keywords_of_2 keywords_of_3 keywords_of_4 keywords_of_5 keywords_of_6 keywords_of_7 keywords_of_8
class_named program (Built built.Object) h = refl
class_named program (Built built.Int) h = refl
class_named program (Built built.Bool) h = refl
class_named program (Built built.Str) h = refl
class_named program (Built built.List) h = refl
class_named program (Built built.Dict) h = refl
class_named program (Built built.Tuple) h = refl
class_named program (Built built.Exception) h = refl
class_named program (Built built.ArithmeticError) h = refl
class_named program (Built built.ZeroDivisionError) h = refl
class_named program (Built built.LookupError) h = refl
class_named program (Built built.IndexError) h = refl
class_named program (Built built.KeyError) h = refl
class_named program (Built built.ValueError) h = refl
class_named program (Built built.TypeError) h = refl
class_named program (Built built.AttributeError) h = refl
class_named program (Built built.NameError) h = refl
class_named program (Built built.UnboundLocalError) h = refl
class_named program (Built built.AssertionError) h = refl
class_named program (Built built.RuntimeError) h = refl
class_named program (Built built.NotImplementedError) h = refl
class_named program (Own k) h = own_named (slice_get program.classes k) h

pub class_fine : (program : Program) (d : ℕ) (class : ClassId) → is_there program class ≡ true → Fine (suc (suc d)) (unnumbered (class_read program class))
class_fine program d (Built class) h = name_fine (suc d) (bare_name program (Built class)) (class_named program (Built class) h)
class_fine program d (Own k) h =
    let name = bare_name program (Own k) in
    subst (Fine (suc (suc d))) (sym (shape-Attr module_read name ∙ ap (λ x. shape.Attr x name) (shape-Name (codes "module_0"))))
    (attribute_fine d (a.Name (codes "module_0")) name (name_clean (codes "module_0") module_named) (attribute_clean name (class_named program (Own k) h)))
