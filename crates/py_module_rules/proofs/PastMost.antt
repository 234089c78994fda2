-- The lines of functions after so many.
use Rattle.std.proofs.Common.{◌≡◌, refl, ap, ℕ, zero, suc, List, [], ◌∷◌, map, drop}
use Rattle.std.specs.Borrow.{Bor}
use Rattle.py_syntax.specs.declared.module.Func.{Func}
use Rattle.py_module_rules.specs.Pieces.{line_of}

all_lines : (functions : List (Bor Func)) → map (λ function. line_of function.now) functions ≡ map line_of (map (λ function. function.now) functions)
all_lines [] = refl
all_lines (function ∷ functions) = ap (λ lines. line_of function.now ∷ lines) (all_lines functions)

pub lines_past : (n : ℕ) (functions : List (Bor Func)) → map (λ function. line_of function.now) (drop n functions) ≡ map line_of (drop n (map (λ function. function.now) functions))
lines_past zero functions = all_lines functions
lines_past (suc n) [] = refl
lines_past (suc n) (function ∷ functions) = lines_past n functions
