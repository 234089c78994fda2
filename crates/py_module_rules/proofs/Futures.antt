-- The future line among items, one item on.
use Rattle.std.proofs.Common.{◌≡◌, ◌∙◌, refl, sym, ap, ℕ, ◌+◌, ◌<◌, ◌≤◌, Bool, true, false, List, [], ◌∷◌, ◌++◌, Some, None, drop, length, get_or, append_assoc, append-nil, add-one}
use Rattle.std.specs.Prelude.{if◌then◌else◌}
use Rattle.std.proofs.Math.Seq.{drop-cons}
use Rattle.std.proofs.lemmas.List.{drop_all}
use Rattle.py_syntax.specs.declared.module.Item.{Item}
use Rattle.py_syntax.specs.declared.module.Item.TheVariants as item
use Rattle.py_scopes.specs.ModuleRows.{is_text, line_if, late_futures, import_lines}
use Rattle.py_module_rules.specs.Pieces.{after_docstring, future_of, futures_left}

pub rest_of : {X : Type 0} (xs : List X) (i : ℕ) (x : X) → i < length xs → x ≡ get_or xs i x → drop i xs ≡ x ∷ drop (i + 1) xs
rest_of xs i x lt is = rw (drop-cons xs i x lt, ← is, add-one) refl

future_step : (late : Bool) (line : ℕ) (x : Item) (items : List Item) → Some line ≡ future_of x → futures_left late (x ∷ items) ≡ line_if late line ++ futures_left late items
future_step true line (item.Import at []) items is = cc
future_step false line (item.Import at []) items is = refl
future_step late line (item.Import at (name ∷ names)) items is = cc
future_step late line (item.Func f) items is = cc
future_step late line (item.Class c) items is = cc
future_step late line (item.Other stmt) items is = cc

other_step : (late : Bool) (x : Item) (items : List Item) → None ≡ future_of x → futures_left late (x ∷ items) ≡ futures_left true items
other_step late (item.Import at []) items is = cc
other_step true (item.Import at (name ∷ names)) items is = refl
other_step false (item.Import at (name ∷ names)) items is = refl
other_step true (item.Func f) items is = refl
other_step false (item.Func f) items is = refl
other_step true (item.Class c) items is = refl
other_step false (item.Class c) items is = refl
other_step true (item.Other stmt) items is = refl
other_step false (item.Other stmt) items is = refl

pub future_more : (items : List Item) (i : ℕ) (x : Item) (late : Bool) (line : ℕ) (lines more all : List ℕ) → i < length items → x ≡ get_or items i x → Some line ≡ future_of x
    → lines ++ futures_left late (drop i items) ≡ all → more ≡ lines ++ line_if late line → more ++ futures_left late (drop (i + 1) items) ≡ all
future_more items i x late line lines more all lt is found before added =
    ap (λ ls. ls ++ futures_left late (drop (i + 1) items)) added
    ∙ append_assoc lines (line_if late line) (futures_left late (drop (i + 1) items))
    ∙ ap (λ ls. lines ++ ls) (sym (future_step late line x (drop (i + 1) items) found))
    ∙ ap (λ rest. lines ++ futures_left late rest) (sym (rest_of items i x lt is))
    ∙ before

pub other_more : (items : List Item) (i : ℕ) (x : Item) (late : Bool) (lines all : List ℕ) → i < length items → x ≡ get_or items i x → None ≡ future_of x
    → lines ++ futures_left late (drop i items) ≡ all → lines ++ futures_left true (drop (i + 1) items) ≡ all
other_more items i x late lines all lt is found before =
    ap (λ ls. lines ++ ls) (sym (other_step late x (drop (i + 1) items) found)) ∙ ap (λ rest. lines ++ futures_left late rest) (sym (rest_of items i x lt is)) ∙ before

none_left : (late : Bool) → futures_left late [] ≡ []
none_left true = refl
none_left false = refl

pub futures_done : (items : List Item) (i : ℕ) (late : Bool) (lines all : List ℕ) → length items ≤ i → lines ++ futures_left late (drop i items) ≡ all → lines ≡ all
futures_done items i late lines all le before =
    sym (append-nil lines) ∙ ap (λ ls. lines ++ ls) (sym (none_left late)) ∙ ap (λ rest. lines ++ futures_left late rest) (sym (drop_all i items le)) ∙ before

docstring_if : (b : Bool) (first : Item) (items : List Item) → (if b then late_futures items else late_futures (first ∷ items)) ≡ late_futures (if b then items else first ∷ items)
docstring_if true first items = refl
docstring_if false first items = refl

pub imports_are : (items : List Item) → import_lines items ≡ late_futures (after_docstring items)
imports_are [] = refl
imports_are (first ∷ items) = docstring_if (is_text first) first items
