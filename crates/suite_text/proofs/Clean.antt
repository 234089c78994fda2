-- Symbols whose tokens a text can hold, where they are the parts of a display or a call.
use Rattle.std.proofs.Common.{◌≡◌, ◌∙◌, refl, Bool, true, false, ◌&&◌, ℕ, List, [], ◌∷◌, ◌++◌, Option, arith}
use Rattle.std.specs.Prelude.{map}
use Rattle.std.specs.List.{list_all}
use Rattle.std.proofs.lemmas.List.Folds.{list_all-append}
use Rattle.py_language.specs.declared.shape.Bracket.{Bracket}
use Rattle.py_language.specs.declared.shape.Bracket.TheVariants.{Round, Square, Brace}
use Rattle.py_language.specs.declared.shape.Shape.{Shape}
use Rattle.py_language.specs.declared.shape.Symbol.{Symbol}
use Rattle.py_language.specs.declared.shape.Symbol.TheVariants as s
use Rattle.py_language.specs.declared.token.Token.{Token}
use Rattle.py_language.specs.TreesPlaces.{Level, Conditional}
use Rattle.py_language.specs.Trees.{deepest}
use Rattle.py_spelling.specs.Spelling.{is_sound, is_balanced, OnlyBracketsOpen}
use Rattle.py_printing.specs.Expressions.{unnamed, named}
use Rattle.py_printing.specs.Printing.{chain, after_comma, commas, enclosed, At, Printed, one, argument, arguments, entry, tuple, printed, print, Each, Fits}
use Rattle.py_printing.specs.SymbolTokens.{tokens, tokens_in}
use Rattle.py_printing.specs.Texts.{shape_tokens}
use Rattle.py_printing.proofs.CleanForms.{Clean, cat, slot_clean}
use Rattle.py_printing.proofs.Nesting.{print_nests}

pub and_both : (v w : Bool) → (v && w) ≡ true → (v ≡ true) × (w ≡ true)
and_both true w e = (refl, e)
and_both false w e = absurd (cc)

pub and_intro : (v w : Bool) → v ≡ true → w ≡ true → (v && w) ≡ true
and_intro v w h k = rw (h, k) refl

pub enclosed_clean : (b : Bracket) (xs : List Symbol) → Clean xs → Clean (enclosed b xs)
enclosed_clean Round xs h = (refl, cat xs (s.Close Round ∷ []) h (refl, tt))
enclosed_clean Square xs h = (refl, cat xs (s.Close Square ∷ []) h (refl, tt))
enclosed_clean Brace xs h = (refl, cat xs (s.Close Brace ∷ []) h (refl, tt))

chain_clean : (xs : List Symbol) (ts : List (List Symbol)) → Clean xs → Each Clean ts → Clean (chain xs (map after_comma ts))
chain_clean xs [] h g = h
chain_clean xs (t ∷ ts) h g = cat xs (s.Comma ∷ chain t (map after_comma ts)) h (refl, chain_clean t ts g.0 g.1)

pub commas_clean : (ts : List (List Symbol)) → Each Clean ts → Clean (commas ts)
commas_clean [] h = tt
commas_clean (t ∷ ts) h = chain_clean t ts h.0 h.1

pub tuple_clean : (ts : List (List Symbol)) → Each Clean ts → Clean (tuple ts)
tuple_clean [] h = tt
tuple_clean (t ∷ []) h = cat t (s.Comma ∷ []) h.0 (refl, tt)
tuple_clean (t ∷ u ∷ us) h = commas_clean (t ∷ u ∷ us) h

-- shapes whose own symbols are clean
abbrev pub CleanShape : Shape → Type 0
CleanShape x = Clean (printed x).bare

pub ones_clean : (xs : List Shape) → Each CleanShape xs → Each Clean (map one (map printed xs))
ones_clean [] h = tt
ones_clean (x ∷ xs) h = (slot_clean (At Conditional) (printed x) h.0, ones_clean xs h.1)

abbrev pub CleanEntry : Shape × Shape → Type 0
CleanEntry p = CleanShape p.0 × CleanShape p.1

pub entries_clean : (xs : List (Shape × Shape)) → Each CleanEntry xs → Each Clean (map entry (map (λ (p : Shape × Shape). (printed p.0, printed p.1)) xs))
entries_clean [] h = tt
entries_clean (x ∷ xs) h =
    (cat (print (At Conditional) x.0) (s.Colon ∷ print (At Conditional) x.1) (slot_clean (At Conditional) (printed x.0) h.0.0) (refl, slot_clean (At Conditional) (printed x.1) h.0.1), entries_clean xs h.1)

-- arguments without names
abbrev pub with_printed : Option (List ℕ) × Shape → Option (List ℕ) × Printed
with_printed p = (p.0, printed p.1)

args_clean : (xs : List Shape) → Each CleanShape xs → Each Clean (map argument (map with_printed (unnamed xs ++ named [])))
args_clean [] h = tt
args_clean (x ∷ xs) h = (slot_clean (At Conditional) (printed x) h.0, args_clean xs h.1)

pub arguments_clean : (xs : List Shape) → Each CleanShape xs → Clean (arguments (map with_printed (unnamed xs ++ named [])))
arguments_clean xs h = enclosed_clean Round (commas (map argument (map with_printed (unnamed xs ++ named [])))) (commas_clean (map argument (map with_printed (unnamed xs ++ named []))) (args_clean xs h))

-- ---- their tokens

pub clean_tokens : (xs : List Symbol) → Clean xs → list_all is_sound (tokens xs) ≡ true
clean_tokens [] h = refl
clean_tokens (x ∷ xs) h = list_all-append is_sound (tokens_in x) (tokens xs) ∙ rw (h.0, clean_tokens xs h.1) refl

-- what a line may have: tokens that a text can hold, whose brackets close, whatever comes after them
pub record Closed (ts : List Token) : Type 0 where
  pub sound : list_all is_sound ts ≡ true
  pub balanced : (rest : List Token) → is_balanced [] (ts ++ rest) ≡ is_balanced [] rest

-- an expression that fits
pub closed : OnlyBracketsOpen → (l : Level) (x : Shape) → Fits deepest (At l) x → CleanShape x → Closed (shape_tokens l x)
closed only l x fits clean =
    let sound = clean_tokens (print (At l) x) (slot_clean (At l) (printed x) clean) in
    record { sound = sound; balanced = λ rest. print_nests only deepest (At l) x fits [] rest (omega arith) sound }
