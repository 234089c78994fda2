-- What lies on lines from one on and before another: the second isn't above the first, and each later one will do too.
use Rattle.std.proofs.Common.{List, [], arith, inl, inr, suc, zero, ℕ, ◌+◌, ◌<◌, ◌∷◌, ◌≤◌}
use Rattle.py_syntax.specs.declared.stmt.Stmt.{Stmt}
use Rattle.line_laws.specs.Layout.{Block, Blocks, InLines, Next, Rows, inside}

module _ (Deeper : ℕ → ℕ → List Stmt → Type 0) (rises : (start end : ℕ) (body : List Stmt) → Deeper start end body → start ≤ end) where
  pub block_rises : (header end : ℕ) (body : List Stmt) → Block Deeper header end body → header < end
  block_rises header end body (inl h) = h.0
  block_rises header end body (inr h) = let le = rises (header + 1) end body h in omega (arith, le)

  pub blocks_rise : (header end : ℕ) (body : List Stmt) (more : List (List Stmt)) → Blocks Deeper header end body more → header < end
  blocks_rise header end body [] h = block_rises header end body h
  blocks_rise header end body (next ∷ more) h =
      let lt = block_rises header h.0 body h.2 in let le = h.3 in let lt' = blocks_rise h.1 end next more h.4 in omega (arith, lt, le, lt')

  next_rises : (rest : ℕ → Type 0) (header end : ℕ) (bs : List (List Stmt)) → ((from : ℕ) → rest from → from ≤ end) → Next Deeper rest header end bs → header ≤ end
  next_rises rest header end [] f h = let lt = h.0 in omega (arith, lt)
  next_rises rest header end (b ∷ bs) f h = let lt = blocks_rise header h.0 b bs h.1 in let le = f h.0 h.2 in omega (arith, lt, le)

  pub rows_rise : (start end : ℕ) (body : List Stmt) → Rows Deeper start end body → start ≤ end
  rows_rise start end [] h = h
  rows_rise start end (s ∷ more) h =
      let le = h.0 in let le' = next_rises (λ from. Rows Deeper from end more) s.line end (inside s) (λ from rest. rows_rise from end more rest) h.1 in omega (arith, le, le')

pub lines_rise : (room start end : ℕ) (body : List Stmt) → InLines room start end body → start ≤ end
lines_rise zero start end body h = h.1
lines_rise (suc room) start end body h = rows_rise (InLines room) (lines_rise room) start end body h

-- ---- before later lines

module _ (Deeper : ℕ → ℕ → List Stmt → Type 0) where
  pub block_wider : ((start end end' : ℕ) (body : List Stmt) → end ≤ end' → Deeper start end body → Deeper start end' body)
      → (header end end' : ℕ) (body : List Stmt) → end ≤ end' → Block Deeper header end body → Block Deeper header end' body
  block_wider deeper_wider header end end' body le (inl h) = inl (let lt = h.0 in omega (arith, le, lt), h.1)
  block_wider deeper_wider header end end' body le (inr h) = inr (deeper_wider (header + 1) end end' body le h)

  next_wider : (rest rest' : ℕ → Type 0) (header end end' : ℕ) (bs : List (List Stmt)) → end ≤ end' → ((from : ℕ) → rest from → rest' from) → Next Deeper rest header end bs → Next Deeper rest' header end' bs
  next_wider rest rest' header end end' [] le f h = (let lt = h.0 in omega (arith, le, lt), f header h.1)
  next_wider rest rest' header end end' (body ∷ more) le f h = (h.0, h.1, f h.0 h.2)

  rows_wider : (start end end' : ℕ) (body : List Stmt) → end ≤ end' → Rows Deeper start end body → Rows Deeper start end' body
  rows_wider start end end' [] le h = omega (arith, le, h)
  rows_wider start end end' (s ∷ more) le h = (h.0, next_wider (λ from. Rows Deeper from end more) (λ from. Rows Deeper from end' more) s.line end end' (inside s) le (λ from rest. rows_wider from end end' more le rest) h.1)

pub lines_wider : (room start end end' : ℕ) (body : List Stmt) → end ≤ end' → InLines room start end body → InLines room start end' body
lines_wider zero start end end' body le h = (h.0, let at = h.1 in omega (arith, le, at))
lines_wider (suc room) start end end' body le h = rows_wider (InLines room) start end end' body le h
