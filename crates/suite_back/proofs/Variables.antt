-- A variable's name is read as its number.
use Rattle.std.proofs.Common.{Bool, List, Some, [], ap, arith, decimal, false, map, refl, true, ℕ, ◌%◌, ◌&&◌, ◌+◌, ◌++◌, ◌/◌, ◌<◌, ◌^◌, ◌∙◌, ◌∷◌, ◌≡◌, ◌≤◌}
use Rattle.std.specs.Prelude.{min, not, nat_lt, ◌==◌, ◌||◌}
use Rattle.std.specs.List.{list_all}
use Rattle.std.specs.Char.{is_ascii_digit}
use Rattle.std.specs.Str.{all_ascii_digits}
use Rattle.std.proofs.lemmas.Bool.Decides.{nat_tests}
use Rattle.std.proofs.lemmas.Fmt.{decimal_by_steps_wide, decimal_is_IsNumeral_wide}
use Rattle.py_syntax.specs.declared.expr.Expr.{Expr}
use Rattle.py_syntax.specs.declared.expr.ExprKind.TheVariants.{outs-Name}
use Rattle.suite_model.specs.Statements.{variable, variable_read}
use Rattle.suite_text.specs.Printable.{are_bound}
use Rattle.suite_back.proofs.Truths.{and_both, and_intro}
use Rattle.suite_file.specs.Spelled.{beyond, is_empty, is_numeral, numeral, variable_named, variable_in, variable_by, variables_in, pairs_in}

-- ---- digits of a number

record Digits (n : ℕ) (ds : List ℕ) : Type 0 where
  first : ℕ
  more : List ℕ
  are : ds ≡ first ∷ more
  digits : all_ascii_digits (first ∷ more) ≡ true
  plain : (not (first == 48) || is_empty more) ≡ true
  leading : 1 ≤ n → (first == 48) ≡ false

or_true : (b : Bool) → (b || true) ≡ true
or_true true = refl
or_true false = refl

digit_is : (n : ℕ) → n < 10 → is_ascii_digit (48 + n) ≡ true
digit_is n lt = grind (arith, nat_tests)

digits_end : (xs : List ℕ) (d : ℕ) → all_ascii_digits xs ≡ true → is_ascii_digit d ≡ true → all_ascii_digits (xs ++ d ∷ []) ≡ true
digits_end [] d h k = rw k refl
digits_end (x ∷ xs) d h k =
    let two = and_both (is_ascii_digit x) (all_ascii_digits xs) h in
    and_intro (is_ascii_digit x) (all_ascii_digits (xs ++ d ∷ [])) two.0 (digits_end xs d two.1 k)

one_digit : (n : ℕ) → n < 10 → Digits n ((48 + n) ∷ [])
one_digit n lt = record {
  first = 48 + n;
  more = [];
  are = refl;
  digits = rw (digit_is n lt) refl;
  plain = or_true (not (48 + n == 48));
  leading = λ some. grind (arith, nat_tests);
}

more_digits : (n : ℕ) (ds : List ℕ) → 10 ≤ n → Digits (n / 10) ds → Digits n (ds ++ ((48 + n % 10) ∷ []))
more_digits n ds le w =
    let some : 1 ≤ n / 10 = omega arith in
    let leading = w.leading some in
    record {
      first = w.first;
      more = w.more ++ (48 + n % 10) ∷ [];
      are = ap (λ xs. xs ++ (48 + n % 10) ∷ []) w.are;
      digits = digits_end (w.first ∷ w.more) (48 + n % 10) w.digits (digit_is (n % 10) (omega arith));
      plain = rw leading refl;
      leading = λ h. leading;
    }

digits_of : (n : ℕ) → n < 10 ^ 64 → Digits n (decimal n)
digits_of n lt = decimal_by_steps_wide Digits one_digit more_digits n lt

is_numeral_decimal : (n : ℕ) → n < 10 ^ 64 → is_numeral (decimal n) ≡ true
is_numeral_decimal n lt = let w = digits_of n lt in ap is_numeral w.are ∙ rw (w.digits, w.plain) refl

numeral_back : (n : ℕ) → n < 2 ^ 31 → numeral (decimal n) ≡ Some n
numeral_back n lt =
    let value = (decimal_is_IsNumeral_wide n (omega arith)).1 in
    let small : min n beyond ≡ n = omega arith in
    rw (is_numeral_decimal n (omega arith), value, small) refl

pub named_back : (k : ℕ) → k < 2 ^ 31 → variable_named (variable k) ≡ Some k
named_back k lt = numeral_back k lt

-- ---- expressions that are variables, of which so many are bound

read_back : (k : ℕ) → k < 2 ^ 31 → variable_in (variable_read k) ≡ Some k
read_back k lt = ap variable_by (outs-Name (variable k)) ∙ named_back k lt

within : (k bound : ℕ) → nat_lt k bound ≡ true → k < bound
within k bound h = grind (arith, nat_tests, h)

pub bound_back : (bound k : ℕ) → nat_lt k bound ≡ true → bound ≤ 2 ^ 31 → variable_in (variable_read k) ≡ Some k
bound_back bound k h le = let lt = within k bound h in read_back k (omega (arith, lt, le))

pub all_back : (bound : ℕ) (ks : List ℕ) → are_bound bound ks ≡ true → bound ≤ 2 ^ 31 → variables_in (map variable_read ks) ≡ Some ks
all_back bound [] h le = refl
all_back bound (k ∷ ks) h le =
    let two = and_both (nat_lt k bound) (are_bound bound ks) h in
    rw (bound_back bound k two.0 le, all_back bound ks two.1 le) refl

abbrev pub is_pair_bound : ℕ → ℕ × ℕ → Bool
is_pair_bound bound pair = nat_lt pair.0 bound && nat_lt pair.1 bound

abbrev pub read_pair : ℕ × ℕ → Expr × Expr
read_pair pair = (variable_read pair.0, variable_read pair.1)

pub pairs_back : (bound : ℕ) (pairs : List (ℕ × ℕ)) → list_all (is_pair_bound bound) pairs ≡ true → bound ≤ 2 ^ 31 → pairs_in (map read_pair pairs) ≡ Some pairs
pairs_back bound [] h le = refl
pairs_back bound (pair ∷ pairs) h le =
    let two = and_both (is_pair_bound bound pair) (list_all (is_pair_bound bound) pairs) h in
    let own = and_both (nat_lt pair.0 bound) (nat_lt pair.1 bound) two.0 in
    rw (bound_back bound pair.0 own.0 le, bound_back bound pair.1 own.1 le, pairs_back bound pairs two.1 le) refl
