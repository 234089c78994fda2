-- A text of the first form is read as a module whose functions return literals, under names of their own.
use Rattle.std.proofs.Common.{◌≡◌, refl, sym, ◌∙◌, ap, subst, ℕ, ℤ, ◌≤◌, ◌<◌, unwrap_or, Bool, true, false, not, ◌&&◌, ◌==◌, cond, nat_le, List, [], ◌∷◌, map, length, Option, Some, None, option_map, option_and_then, Result, Ok, Err, codes, bytes_eq, pos, arith}
use Rattle.std.specs.List.{list_all}
use Rattle.std.specs.Char.{is_ascii_digit, is_ascii_lowercase}
use Rattle.std.proofs.lemmas.Bool.{false≢true}
use Rattle.std.proofs.lemmas.Bool.Decides.{nat_tests, eqb_tells}
use Rattle.py_syntax.specs.declared.expr.ExprKind.{ExprKind}
use Rattle.py_syntax.specs.declared.expr.ExprKind.TheVariants.{NoneLit, BoolLit, IntLit, StrLit, outs-NoneLit, outs-BoolLit, outs-IntLit, outs-StrLit}
use Rattle.py_syntax.specs.declared.module.Module.{Module}
use Rattle.py_syntax.specs.declared.refusal.Refusal.{Refusal}
use Rattle.py_language.specs.declared.first.First.{First}
use Rattle.py_language.specs.FirstForm.{between, passing, is_number, number_of, string_of, literal_of, is_name, named_by, returned_by, is_empty_line, function_of, parted, is_distinct, name_of, most_functions, permitted, functions_of, module_of, lines_of, answer, first_form}
use Rattle.py_meaning.specs.declared.value.Value.{Value}
use Rattle.py_meaning.specs.declared.value.Value.TheVariants as v
use Rattle.pyn_model.specs.FirstModules.{IsLiteral, is_one_line, AllReturn, IsFirst}
use Rattle.pyn_model.proofs.Booleans.{both, and_true}
use Rattle.pyn_model.proofs.Judging.{other_number}

-- ---- literals

Literal : ExprKind → Type 0
Literal kind = (x : Value) × IsLiteral kind x

none_is : Literal NoneLit
unfolding Literal
none_is = (v.None, λ funcs value does. rw outs-NoneLit refl)

bool_is : (b : Bool) → Literal (BoolLit b)
unfolding Literal
bool_is b = (v.Bool b, λ funcs value does. rw (outs-BoolLit b) refl)

string_is : (text : List ℕ) → Literal (StrLit text)
unfolding Literal
string_is text = (v.Str text, λ funcs value does. rw (outs-StrLit text) refl)

int_is : (n : ℤ) → Literal (IntLit n)
unfolding Literal
int_is n = (v.Int n, λ funcs value does. rw (outs-IntLit n) refl)

some_is : {A : Type 0} (x y : A) → Some x ≡ Some y → x ≡ y
some_is x y e = ap (λ o. unwrap_or o x) e

carried : (k kind : ExprKind) → Some k ≡ Some kind → Literal k → Literal kind
carried k kind e l = subst Literal (some_is k kind e) l

by_tests : (a b c d : Bool) (n : ℤ) (s : Option (List ℕ)) (kind : ExprKind)
    → cond a (Some NoneLit) (cond b (Some (BoolLit true)) (cond c (Some (BoolLit false)) (cond d (Some (IntLit n)) (option_map StrLit s)))) ≡ Some kind → Literal kind
by_tests true b c d n s kind e = carried NoneLit kind e none_is
by_tests false true c d n s kind e = carried (BoolLit true) kind e (bool_is true)
by_tests false false true d n s kind e = carried (BoolLit false) kind e (bool_is false)
by_tests false false false true n s kind e = carried (IntLit n) kind e (int_is n)
by_tests false false false false n (Some text) kind e = carried (StrLit text) kind e (string_is text)
by_tests false false false false n None kind e = absurd (cc)

literal_is : (text : List ℕ) (kind : ExprKind) → literal_of text ≡ Some kind → Literal kind
literal_is text kind e =
    by_tests (bytes_eq text (codes "None")) (bytes_eq text (codes "True")) (bytes_eq text (codes "False")) (is_number text) (pos (number_of text)) (string_of text) kind e

-- what an `option_and_then` found
found : {A B : Type 0} (f : A → Option B) (o : Option A) (y : B) → option_and_then f o ≡ Some y → (x : A) × (o ≡ Some x) × (f x ≡ Some y)
found f (Some x) y e = (x, refl, e)
found f None y e = absurd (cc)

mapped : {A B : Type 0} (f : A → B) (o : Option A) (y : B) → option_map f o ≡ Some y → (x : A) × (o ≡ Some x) × (f x ≡ y)
mapped f (Some x) y e = (x, refl, some_is (f x) y e)
mapped f None y e = absurd (cc)

-- ---- names

stays : (c : ℕ) → (c ≡ 10 → ⊥) → not (c == 10) ≡ true
stays c n = ap not (other_number c 10 n)

digit_stays : (c : ℕ) → is_ascii_digit c ≡ true → not (c == 10) ≡ true
digit_stays c e = stays c (λ is. absurd (false≢true (ap is_ascii_digit (sym is) ∙ e)))

letter_stays : (c : ℕ) → is_ascii_lowercase c ≡ true → not (c == 10) ≡ true
letter_stays c e = stays c (λ is. absurd (false≢true (ap is_ascii_lowercase (sym is) ∙ e)))

digits_stay : (cs : List ℕ) → list_all is_ascii_digit cs ≡ true → is_one_line cs ≡ true
digits_stay [] e = refl
digits_stay (c ∷ cs) e =
    let parts = both (is_ascii_digit c) (list_all is_ascii_digit cs) e in
    and_true _ _ (digit_stays c parts.0) (digits_stay cs parts.1)

one_line-name : (name : List ℕ) → is_name name ≡ true → is_one_line name ≡ true
one_line-name [] e = absurd (false≢true e)
one_line-name (c ∷ cs) e =
    let parts = both (is_ascii_lowercase c) (list_all is_ascii_digit cs) e in
    and_true _ _ (letter_stays c parts.0) (digits_stay cs parts.1)

passes : (t : List ℕ → Bool) (text name : List ℕ) (b : Bool) → t text ≡ b → cond b (Some text) None ≡ Some name → t name ≡ true
passes t text name true is e = ap t (sym (some_is text name e)) ∙ is
passes t text name false is e = absurd (cc)

named_is : (line name : List ℕ) → named_by line ≡ Some name → is_one_line name ≡ true
named_is line name e =
    let part = found (passing is_name) (between (codes "def ") (codes "():\n") line) name e in
    one_line-name name (passes is_name part.0 name (is_name part.0) refl part.2)

-- ---- functions

Returns : First → Type 0
Returns f = (Literal f.literal) × (is_one_line f.name ≡ true)

function_is : (head body : List ℕ) (f : First) → function_of head body ≡ Some f → Returns f
unfolding Returns
function_is head body f e =
    let name = found _ (named_by head) f e in
    let literal = mapped _ (returned_by body) f name.2 in
    let text = found literal_of (between (codes "    return ") (codes "\n") body) literal.0 literal.1 in
    let P : First → Type 0 = λ g. (Literal g.literal) × (is_one_line g.name ≡ true) in
    subst P literal.2 (literal_is text.0 literal.0 text.2, named_is head name.0 name.1)

one_returns : (f : First) (rest : List First) → Returns f → AllReturn rest → AllReturn (f ∷ rest)
unfolding Literal Returns
one_returns f rest r more = (r.0, r.1, more)

within : (gap : Bool) (f : First) (more : Option (List First)) (fs : List First) → cond gap (option_map (λ rest. f ∷ rest) more) None ≡ Some fs
    → (rest : List First) × (more ≡ Some rest) × (f ∷ rest ≡ fs)
within true f more fs e = mapped (λ rest. f ∷ rest) more fs e
within false f more fs e = absurd (cc)

all_return : (lines : List (List ℕ)) (fs : List First) → parted lines ≡ Some fs → AllReturn fs
all_return [] fs e = absurd (cc)
all_return (head ∷ []) fs e = absurd (cc)
all_return (head ∷ body ∷ []) fs e =
    let one = mapped (λ f. f ∷ []) (function_of head body) fs e in
    subst AllReturn one.2 (one_returns one.0 [] (function_is head body one.0 one.1) tt)
all_return (head ∷ body ∷ first ∷ []) fs e = absurd (cc)
all_return (head ∷ body ∷ first ∷ second ∷ rest) fs e =
    let one = found (λ (f : First). cond (is_empty_line first && is_empty_line second) (option_map (λ more. f ∷ more) (parted rest)) None) (function_of head body) fs e in
    let more = within _ one.0 (parted rest) fs one.2 in
    subst AllReturn more.2 (one_returns one.0 more.0 (function_is head body one.0 one.1) (all_return rest more.0 more.1))

-- what is known of the functions of a text
record Known (fs : List First) : Type 0 where
  distinct : is_distinct (map name_of fs) ≡ true
  few : length fs ≤ most_functions
  return : AllReturn fs

at_most : (m n : ℕ) → nat_le m n ≡ true → m ≤ n
at_most m n e = grind (arith, nat_tests, e)

permitted_are : (t : Bool) (found fs : List First) → (is_distinct (map name_of found) && nat_le (length found) most_functions) ≡ t
    → cond t (Some found) None ≡ Some fs → AllReturn found → Known fs
permitted_are true found fs is e r =
    let parts = both _ _ is in
    subst Known (some_is found fs e) (record { distinct = parts.0; few = at_most _ _ parts.1; return = r })
permitted_are false found fs is e r = absurd (cc)

known : (lines : List (List ℕ)) (fs : List First) → functions_of lines ≡ Some fs → Known fs
known [] fs e = subst Known (some_is [] fs e) (record { distinct = refl; few = omega arith; return = tt })
known (line ∷ rest) fs e =
    let part = found permitted (parted (line ∷ rest)) fs e in
    permitted_are _ part.0 fs refl part.2 (all_return (line ∷ rest) part.0 part.1)

ok_is : (x y : Module) → ◌≡◌ {A = Result Module Refusal} (Ok x) (Ok y) → x ≡ y
ok_is x y e = cc

answered : (lines : List (List ℕ)) (functions : Option (List First)) (m : Module) → functions_of lines ≡ functions → answer lines functions ≡ Ok m → IsFirst m
answered lines (Some fs) m is e =
    let k = known lines fs is in
    record { functions = fs; is = sym (ok_is _ _ e); distinct = k.distinct; few = k.few; return = k.return }
answered lines None m is e = absurd (cc)

-- a text that is read gives such a module
pub first_form-IsFirst : (text : List ℕ) (m : Module) → first_form text ≡ Ok m → IsFirst m
first_form-IsFirst text m e = answered (lines_of text) (functions_of (lines_of text)) m refl e
