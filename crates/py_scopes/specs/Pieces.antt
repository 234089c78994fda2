-- A module in pieces: what each does with names, and where it stands (Language Reference 4.2.2).
use Rattle.std.specs.Prelude.{ℕ, Bool, List, [], ◌∷◌, ◌++◌, map, filter, Option, Some, None}
use Rattle.std.specs.List.{flat_map}
use Rattle.py_syntax.specs.declared.module.Class.{Class}
use Rattle.py_syntax.specs.declared.module.Func.{Func}
use Rattle.py_syntax.specs.declared.module.Item.{Item}
use Rattle.py_syntax.specs.declared.module.Item.TheVariants as item
use Rattle.py_syntax.specs.declared.module.Member.{Member}
use Rattle.py_syntax.specs.declared.module.Member.TheVariants as member
use Rattle.py_syntax.specs.declared.module.Module.{Module}
use Rattle.py_syntax.specs.declared.module.Param.{Param}
use Rattle.py_scopes.specs.Uses.{Use, Used, Uses, Binds, Defines, Based, Imported, at, annotated, maybe_uses, uses_in, uses_of_body, nothing}

pub data Place : Type 0 where
  AtModule : Place
  InClass : Class → Place
  -- a function's body, with the class in which the function is written
  InBody : Option Class → Func → Place

pub record Piece : Type 0 where
  pub place : Place
  pub uses : Uses

abbrev pub piece : Place → Uses → Piece
piece place uses = record { place = place; uses = uses }

abbrev pub outside : Option Class → Place
outside None = AtModule
outside (Some c) = InClass c

-- What stands in a `def` line but its parameters' names is evaluated outside of the function.
abbrev pub param_uses : Param → Uses
param_uses p = annotated p.line p.annotation ++ maybe_uses p.default

abbrev pub pieces_of_func : Option Class → Func → List Piece
pieces_of_func owner f =
    piece (outside owner) (at f.line (Defines f.name) ++ flat_map param_uses f.params ++ annotated f.line f.returns)
    ∷ piece (InBody owner f) (flat_map (λ (p : Param). at p.line (Binds p.name)) f.params ++ uses_of_body f.body) ∷ []

abbrev pub pieces_of_member : Class → Member → List Piece
pieces_of_member c (member.Func f) = pieces_of_func (Some c) f
pieces_of_member c (member.Other stmt) = piece (InClass c) (uses_in stmt nothing) ∷ []

abbrev pub based : ℕ → Option (List ℕ) → Uses
based line None = []
based line (Some name) = at line (Based name)

-- The line of a `class` stands outside of it.
abbrev pub pieces_of_item : Item → List Piece
pieces_of_item (item.Func f) = pieces_of_func None f
pieces_of_item (item.Class c) = piece AtModule (at c.line (Binds c.name) ++ based c.line c.base) ∷ flat_map (pieces_of_member c) c.members
pieces_of_item (item.Import line names) = piece AtModule (flat_map (λ name. at line (Imported name)) names) ∷ []
pieces_of_item (item.Other stmt) = piece AtModule (uses_in stmt nothing) ∷ []

abbrev pub pieces_of : Module → List Piece
pieces_of m = flat_map pieces_of_item m.items

-- the lines on which something is done that a rule forbids there
abbrev pub lines_in : (Place → Use → Bool) → Piece → List ℕ
lines_in is_faulty p = map (λ (u : Used). u.line) (filter (λ (u : Used). is_faulty p.place u.use') p.uses)

abbrev pub lines_where : (Place → Use → Bool) → Module → List ℕ
lines_where is_faulty m = flat_map (lines_in is_faulty) (pieces_of m)
