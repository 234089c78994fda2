-- Logical lines that show rows: how they are split, at which columns they are, and their forms.
use Rattle.std.proofs.Common.{◌≡◌, ◌∙◌, sym, ap, refl, ℕ, Bool, true, false, List, [], ◌∷◌, ◌++◌, append_assoc, Option, None, arith}
use Rattle.std.specs.Prelude.{if◌then◌else◌, map, option_map}
use Rattle.py_language.specs.declared.token.Token.{Token}
use Rattle.std.specs.Prelude.{bytes_eq, codes, pred}
use Rattle.py_grammar.specs.declared.form.Form.{Form}
use Rattle.py_grammar.specs.declared.form.Form.TheVariants.{Simple, Compound}
use Rattle.py_grammar.specs.declared.form.Header.TheVariants as h
use Rattle.py_grammar.specs.Forms as f
use Rattle.py_language.specs.declared.token.Logical.{Logical}
use Rattle.std.specs.Prelude.{Result, Ok, Err}
use Rattle.py_grammar.specs.Blocks.{Member, behind}
use Rattle.std.specs.Prelude.{◌==◌, option_to_list}
use Rattle.py_layout.proofs.BlockForms.{Every}
use Rattle.std.proofs.Common.{◌≤◌, ◌+◌}
use Rattle.std.specs.List.{flat_map}
use Rattle.py_layout.specs.Blocks.{shown}
use Rattle.py_layout.specs.Rows.{Rows, indent}
use Rattle.py_layout.proofs.Members.{AllOut, lines_of, is_shallow}

-- ---- lists of lines

pub cons_is : {A : Type 0} (x y : A) (xs ys : List A) → x ∷ xs ≡ y ∷ ys → (x ≡ y) × (xs ≡ ys)
cons_is x y xs ys e = (cc, cc)

-- the forms of statements that may be in any block
abbrev pub is_plain_form : Form → Bool
is_plain_form (Simple all) = true
is_plain_form (Compound (h.If test) small) = true
is_plain_form (Compound (h.While test) small) = true
is_plain_form (Compound (h.For names is_tuple walked) small) = true
is_plain_form (Compound h.Try small) = true
is_plain_form _ = false

pub record Split (ls : List Logical) (xs ys : Rows) : Type 0 where
  pub first : List Logical
  pub rest : List Logical
  pub whole : ls ≡ first ++ rest
  pub shows : map shown first ≡ xs
  pub shows_rest : map shown rest ≡ ys

pub split_rows : (ls : List Logical) (xs ys : Rows) → map shown ls ≡ xs ++ ys → Split ls xs ys
split_rows ls [] ys e = record { first = []; rest = ls; whole = refl; shows = refl; shows_rest = e }
split_rows [] (x ∷ xs) ys e = absurd (cc)
split_rows (l ∷ ls) (x ∷ xs) ys e =
    let c = cons_is (shown l) x (map shown ls) (xs ++ ys) e in
    let r = split_rows ls xs ys c.1 in
    record { first = l ∷ r.first; rest = r.rest; whole = ap (λ z. l ∷ z) r.whole; shows = ap (λ z. z ∷ map shown r.first) c.0 ∙ ap (λ z. x ∷ z) r.shows; shows_rest = r.shows_rest }

abbrev pub FromOn : ℕ → List Logical → Type 0
FromOn column ls = Every (λ (l : Logical). column ≤ l.column) ls

pub from_append : (column : ℕ) (xs ys : List Logical) → FromOn column xs → FromOn column ys → FromOn column (xs ++ ys)
from_append column [] ys r q = q
from_append column (x ∷ xs) ys r q = (r.0, from_append column xs ys r.1 q)

pub from_less : (column : ℕ) (xs : List Logical) → FromOn (column + indent) xs → FromOn column xs
from_less column [] r = tt
from_less column (x ∷ xs) r = (less column x.column r.0, from_less column xs r.1)
  where
    less : (a b : ℕ) → a + 4 ≤ b → a ≤ b
    less a b h = omega arith

pub deeper : (column : ℕ) (xs : List Logical) → FromOn (column + indent) xs → AllOut (is_shallow column) xs
deeper column [] r = tt
deeper column (x ∷ xs) r = (over column x.column r.0, deeper column xs r.1)
  where
    over : (a b : ℕ) → a + 4 ≤ b → Rattle.std.specs.Prelude.nat_le b a ≡ false
    over a b h = grind (arith, Rattle.std.proofs.lemmas.Bool.Decides.nat_tests)

pub lines_append : (ms ns : List Member) → lines_of (ms ++ ns) ≡ lines_of ms ++ lines_of ns
lines_append [] ns = refl
lines_append (m ∷ ms) ns = ap (λ z. m.0 ∷ (m.1 ++ z)) (lines_append ms ns) ∙ ap (λ z. m.0 ∷ z) (sym (append_assoc m.1 (lines_of ms) (lines_of ns)))

pub behind_none : {A : Type 0} (xs : List A) → behind xs None ≡ None
behind_none [] = refl
behind_none (x ∷ xs) = refl

pub same_number : (n : ℕ) → (n == n) ≡ true
same_number n = grind (arith, Rattle.std.proofs.lemmas.Bool.Decides.nat_tests)

pub form_as : (l : Logical) (ts : List Token) (o : Option Form) → l.tokens ≡ ts → f.form l.line ts ≡ o → f.form_of l ≡ o
unfolding f.form_of
form_as l ts o is e = ap (f.form l.line) is ∙ e
