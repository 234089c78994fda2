-- How the statements of a body lie on lines (Language Reference 8): simple statements may share a line; a compound statement has a line for its
-- header, and its blocks follow one another, each on its header's line or on the lines after it.
use Rattle.std.specs.List.{AllByRecursion}
use Rattle.std.specs.Option.{option_to_list}
use Rattle.std.specs.Prelude.{List, [], map, suc, zero, ℕ, ◌++◌, ◌+◌, ◌<◌, ◌∷◌, ◌≡◌, ◌≤◌, ◌⊎◌}
use Rattle.py_syntax.specs.declared.module.Func.{Func}
use Rattle.py_syntax.specs.declared.module.Item.{Item}
use Rattle.py_syntax.specs.declared.module.Item.TheVariants as item
use Rattle.py_syntax.specs.declared.module.Member.{Member}
use Rattle.py_syntax.specs.declared.module.Member.TheVariants as member
use Rattle.py_syntax.specs.declared.stmt.Clause.{Clause, out-Clause}
use Rattle.py_syntax.specs.declared.stmt.Stmt.{Stmt}
use Rattle.py_syntax.specs.declared.stmt.StmtKind.{StmtKind, StmtKind-F, out-StmtKind}

-- the blocks in a statement, in the order of reading
abbrev pub blocks_of : StmtKind-F StmtKind Clause Stmt → List (List Stmt)
blocks_of (StmtKind-F.If tests other) = map (λ arm. arm.1) tests ++ option_to_list other
blocks_of (StmtKind-F.While test body) = body ∷ []
blocks_of (StmtKind-F.For names is_tuple e body) = body ∷ []
blocks_of (StmtKind-F.Try body clauses other last) = body ∷ (map (λ c. (out-Clause c).body) clauses ++ (option_to_list other ++ option_to_list last))
blocks_of _ = []

abbrev pub inside : Stmt → List (List Stmt)
inside s = blocks_of (out-StmtKind s.kind)

-- simple statements on one line
abbrev pub OnLine : ℕ → List Stmt → Type 0
OnLine line body = AllByRecursion (λ s. (s.line ≡ line) × (inside s ≡ [])) body

-- by how the blocks on lines of their own lie, from a line on and before another
module _ (Deeper : ℕ → ℕ → List Stmt → Type 0) where
  -- a block, by the line of its header
  abbrev pub Block : ℕ → ℕ → List Stmt → Type 0
  Block header end body = ((header < end) × OnLine header body) ⊎ Deeper (header + 1) end body

  -- blocks one after another, the first by the line of its header; each further header has a line after the block before it
  abbrev pub Blocks : ℕ → ℕ → List Stmt → List (List Stmt) → Type 0
  Blocks header end body [] = Block header end body
  Blocks header end body (next ∷ more) = (middle : ℕ) × (later : ℕ) × Block header middle body × (middle ≤ later) × Blocks later end next more

  -- A simple statement, and those that may be on its line; or a compound one, and those after its lines.
  abbrev pub Next : (ℕ → Type 0) → ℕ → ℕ → List (List Stmt) → Type 0
  Next rest header end [] = (header < end) × rest header
  Next rest header end (body ∷ more) = (middle : ℕ) × Blocks header middle body more × rest middle

  -- statements one after another
  abbrev pub Rows : ℕ → ℕ → List Stmt → Type 0
  Rows start end [] = start ≤ end
  Rows start end (s ∷ more) = (start ≤ s.line) × Next (λ from. Rows from end more) s.line end (inside s)

-- with so many blocks in one another at most
abbrev pub InLines : ℕ → ℕ → ℕ → List Stmt → Type 0
InLines zero start end body = (body ≡ []) × (start ≤ end)
InLines (suc room) start end body = Rows (InLines room) start end body

-- a function, whose body has the function's line or lies on the lines after it
abbrev pub Laid : Func → Type 0
Laid f = (room : ℕ) × (end : ℕ) × Block (InLines room) f.line end f.body

abbrev pub MemberLaid : Member → Type 0
MemberLaid (member.Func f) = Laid f
MemberLaid (member.Other s) = Unit {0}

-- the functions of an item
abbrev pub ItemLaid : Item → Type 0
ItemLaid (item.Func f) = Laid f
ItemLaid (item.Class c) = AllByRecursion MemberLaid c.members
ItemLaid (item.Import line names) = Unit {0}
ItemLaid (item.Other s) = Unit {0}
