-- The worked examples: of plain lines by computation, and of statements on lines by what each kind is made of.
use Rattle.std.proofs.Common.{List, None, Some, [], ap, arith, inl, inr, refl, subst, suc, sym, zero, ℕ, ◌<◌, ◌∙◌, ◌∷◌, ◌≡◌, ◌≤◌}
use Rattle.py_syntax.specs.declared.stmt.Stmt.{Stmt}
use Rattle.py_syntax.specs.declared.stmt.StmtKind.TheVariants as s
use Rattle.py_syntax.specs.declared.stmt.StmtKind.TheVariants.{outs-Pass, outs-Try}
use Rattle.line_laws.specs.Examples.{Astray, LiesNowhere, LiesOnLines, Nested, Plain, on, tried}
use Rattle.line_laws.specs.Layout.{Block, Blocks, InLines, Next, OnLine, blocks_of, inside}

pub plain : Plain
plain = refl

pub nested : Nested
nested = refl

pub astray : Astray
astray = refl

pass_inside : (line : ℕ) → inside (on line s.Pass) ≡ []
pass_inside line = ap blocks_of outs-Pass

abbrev attempt : ℕ → List Stmt → List Stmt → Stmt
attempt line body last = on line (s.Try body [] None (Some last))

attempt_inside : (line : ℕ) (body last : List Stmt) → inside (attempt line body last) ≡ body ∷ last ∷ []
attempt_inside line body last = ap blocks_of (outs-Try body [] None (Some last))

module _ (room : ℕ) where
  pass_lies : (start line end : ℕ) (more : List Stmt) → start ≤ line → line < end → InLines (suc room) line end more → InLines (suc room) start end (on line s.Pass ∷ more)
  pass_lies start line end more le lt h = (le, subst (Next (InLines room) (λ from. InLines (suc room) from end more) line end) (sym (pass_inside line)) (lt, h))

  attempt_lies : (start line middle end : ℕ) (body last more : List Stmt) → start ≤ line → Blocks (InLines room) line middle body (last ∷ []) → InLines (suc room) middle end more → InLines (suc room) start end (attempt line body last ∷ more)
  attempt_lies start line middle end body last more le b h = (le, subst (Next (InLines room) (λ from. InLines (suc room) from end more) line end) (sym (attempt_inside line body last)) (middle, b, h))

two_passes : OnLine 3 (on 3 s.Pass ∷ on 3 s.Pass ∷ [])
two_passes = ((refl, pass_inside 3), ((refl, pass_inside 3), tt))

pub lies_on_lines : LiesOnLines
lies_on_lines =
    let after : InLines 2 6 7 (on 6 s.Pass ∷ []) = pass_lies 1 6 6 7 [] (omega arith) (omega arith) (omega arith) in
    let held : InLines 1 5 6 (on 5 s.Pass ∷ []) = pass_lies 0 5 5 6 [] (omega arith) (omega arith) (omega arith) in
    pass_lies 1 2 2 7 (on 2 s.Pass ∷ tried ∷ on 6 s.Pass ∷ []) (omega arith) (omega arith)
    (pass_lies 1 2 2 7 (tried ∷ on 6 s.Pass ∷ []) (omega arith) (omega arith)
    (attempt_lies 1 2 3 6 7 (on 3 s.Pass ∷ on 3 s.Pass ∷ []) (on 5 s.Pass ∷ []) (on 6 s.Pass ∷ []) (omega arith) (4, 4, inl (omega arith, two_passes), omega arith, inr held) after))

no_block : (room end : ℕ) (last : List Stmt) → Block (InLines room) 2 end (attempt 2 (on 2 s.Pass ∷ []) last ∷ []) → ⊥
no_block room end last (inl b) = let e : (on 2 s.Pass ∷ []) ∷ last ∷ [] ≡ [] = sym (attempt_inside 2 (on 2 s.Pass ∷ []) last) ∙ b.1.0.1 in absurd (cc)
no_block zero end last (inr b) = let e = b.0 in absurd (cc)
no_block (suc room) end last (inr b) = let le = b.0 in absurd (omega (arith, le))

pub lies_nowhere : LiesNowhere
lies_nowhere zero start end last h = let e = h.0 in absurd (cc)
lies_nowhere (suc room) start end last h =
    let body = attempt 2 (on 2 s.Pass ∷ []) last in
    let next = subst (Next (InLines room) (λ from. from ≤ end) 2 end) (attempt_inside 2 (body ∷ []) last) h.1 in
    no_block room next.1.0 last next.1.2
