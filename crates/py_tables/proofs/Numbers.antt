-- The numbers of classes by their names, with one class more.
use Rattle.std.proofs.Common.{◌≡◌, ◌∙◌, ap, ℕ, ◌+◌, List, [], ◌∷◌, ◌++◌, length, arith}
use Rattle.pyn_base.specs.declared.class.ClassId.TheVariants.{Own}
use Rattle.py_plain.specs.Program.{ClassInfo, numbered}

numbered_more : (n : ℕ) (infos : List ClassInfo) (info : ClassInfo) → numbered n (infos ++ info ∷ []) ≡ numbered n infos ++ (info.name, Own (n + length infos)) ∷ []
numbered_more n [] info = let e : n ≡ n + 0 = omega arith in ap (λ m. (info.name, Own m) ∷ []) e
numbered_more n (first ∷ infos) info =
    let e : n + 1 + length infos ≡ n + length (first ∷ infos) = omega arith in
    ap (λ rows. (first.name, Own n) ∷ rows) (numbered_more (n + 1) infos info ∙ ap (λ m. numbered (n + 1) infos ++ (info.name, Own m) ∷ []) e)

pub numbered_push : (infos : List ClassInfo) (info : ClassInfo) → numbered 0 (infos ++ info ∷ []) ≡ numbered 0 infos ++ (info.name, Own (length infos)) ∷ []
numbered_push infos info =
    let e : 0 + length infos ≡ length infos = omega arith in
    numbered_more 0 infos info ∙ ap (λ m. numbered 0 infos ++ (info.name, Own m) ∷ []) e
