use Rattle.std.proofs.Common.{◌≡◌, refl, sym, ap, ◌∙◌, ℕ, suc, ◌+◌, ◌≤◌, ◌<◌, List, [], ◌∷◌, ◌++◌, length, length-append, add-zero, arith}
use Rattle.py_syntax.specs.declared.module.Item.{Item}
use Rattle.py_syntax.specs.declared.module.Item.TheVariants as item
use Rattle.py_language.specs.declared.first.First.{First}
use Rattle.py_language.specs.FirstForm.{items_from, func_at}

-- ---- the items of functions

pub length-items_from : (place : ℕ) (functions : List First) → length (items_from place functions) ≡ length functions
length-items_from place [] = refl
length-items_from place (function ∷ rest) = ap suc (length-items_from (place + 1) rest)

pub items_from-push : (place : ℕ) (functions : List First) (function : First)
    → items_from place (functions ++ function ∷ []) ≡ items_from place functions ++ item.Func (func_at (place + length functions) function) ∷ []
items_from-push place [] function = ap (λ n. item.Func (func_at n function) ∷ []) (sym (add-zero place))
items_from-push place (first ∷ rest) function =
    let place_is : place + 1 + length rest ≡ place + suc (length rest) = omega arith in
    ap (λ items. item.Func (func_at place first) ∷ items)
    (items_from-push (place + 1) rest function ∙ ap (λ n. items_from (place + 1) rest ++ item.Func (func_at n function) ∷ []) place_is)

-- one more function
pub items_from-more : (items : List Item) (place : ℕ) (functions : List First) (function : First) → items ≡ items_from 0 functions → place ≡ length items
    → items ++ item.Func (func_at place function) ∷ [] ≡ items_from 0 (functions ++ function ∷ [])
items_from-more items place functions function e n =
    let at : place ≡ 0 + length functions = omega (arith, n ∙ ap length e ∙ length-items_from 0 functions) in
    ap (λ all. all ++ item.Func (func_at place function) ∷ []) e
    ∙ ap (λ k. items_from 0 functions ++ item.Func (func_at k function) ∷ []) at
    ∙ sym (items_from-push 0 functions function)

-- the functions that are left leave room for the next
pub next_place : (items : List Item) (place most : ℕ) (functions rest all : List First) (function : First) → items ≡ items_from 0 functions → place ≡ length items
    → functions ++ function ∷ rest ≡ all → length all ≤ most → place < most
next_place items place most functions rest all function e n w h =
    let number : place ≡ length functions = n ∙ ap length e ∙ length-items_from 0 functions in
    let whole : length functions + suc (length rest) ≡ length all = sym (length-append functions (function ∷ rest)) ∙ ap length w in
    omega (arith, number, whole)
