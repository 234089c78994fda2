-- What the readers' lines are in the words of the grammar.
use Rattle.std.specs.Prelude.{◌≡◌, ℕ, ◌<◌, Bool, not, ◌&&◌, nat_le, List, ◌∷◌, length}
use Rattle.std.specs.Borrow.{Bor}
use Rattle.py_language.specs.declared.token.Logical.{Logical}
use Rattle.py_grammar.specs.Blocks as blocks
use Rattle.py_grammar.specs.Blocks.{members, groups, continues}
use Rattle.py_parser.specs.declared.lines.Member.{Member}
use Rattle.py_parser.specs.declared.lines.Group.{Group}

-- the line is no deeper than the column
abbrev pub is_at : ℕ → Logical → Bool
is_at column l = nat_le l.column column

-- the line is no deeper than the column, and does not continue a statement there
abbrev pub begins_anew : ℕ → Logical → Bool
begins_anew column l = nat_le l.column column && not (continues column l)

abbrev pub member_of : Member → blocks.Member
member_of m = (m.line.now, m.deeper.now)

abbrev pub group_of : Group → blocks.Group
group_of g = (member_of g.first, members g.column g.others.now)

-- the first member of a block, and the lines of the others
pub record FirstMember (column : ℕ) (lines : List Logical) (r : Member × Bor (List Logical)) : Type 0 where
  pub members_are : members column lines ≡ member_of r.0 ∷ members column r.1.now
  pub fewer : length r.1.now < length lines

-- the first statement of a block, and the lines of the others
pub record FirstGroup (column : ℕ) (lines : List Logical) (r : Group × Bor (List Logical)) : Type 0 where
  pub groups_are : groups column lines ≡ group_of r.0 ∷ groups column r.1.now
  pub column_is : r.0.column ≡ column
  pub fewer : length r.1.now < length lines
