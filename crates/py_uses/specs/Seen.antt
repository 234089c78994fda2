-- What a use, a place and the surroundings of a statement stand for.
use Rattle.std.specs.Prelude.{Option}
use Rattle.std.specs.Borrow.{Bor}
use Rattle.std.specs.Option.{option_map}
use Rattle.py_syntax.specs.declared.module.Class.{Class}
use Rattle.py_scopes.specs.Pieces.{Place as Where, AtModule, InClass, InBody}
use Rattle.py_scopes.specs.Uses.{Use as Done, Reads, Binds, Attribute, Super, Argument, Catches, Defines, Based, Imported, Annotated, MixedArguments, NoLoop, NoClause, Around as Surroundings}
use Rattle.py_uses.specs.declared.pieces.Place.{Place}
use Rattle.py_uses.specs.declared.pieces.Place.TheVariants as place
use Rattle.py_uses.specs.declared.statements.Around.{Around}
use Rattle.py_uses.specs.declared.uses.Use.{Use}
use Rattle.py_uses.specs.declared.uses.Use.TheVariants as use'

abbrev pub seen : Use → Done
seen (use'.Reads name) = Reads name.now
seen (use'.Binds name) = Binds name.now
seen (use'.Attribute name) = Attribute name.now
seen (use'.Super name) = Super name.now
seen (use'.Argument name) = Argument name.now
seen (use'.Catches name) = Catches name.now
seen (use'.Defines name) = Defines name.now
seen (use'.Based name) = Based name.now
seen (use'.Imported name) = Imported name.now
seen (use'.Annotated annotation) = Annotated annotation.now
seen use'.MixedArguments = MixedArguments
seen use'.NoLoop = NoLoop
seen use'.NoClause = NoClause

abbrev pub class_seen : Option (Bor Class) → Option Class
class_seen = option_map (λ c. c.now)

abbrev pub place_seen : Place → Where
place_seen place.AtModule = AtModule
place_seen (place.InClass c) = InClass c.now
place_seen (place.InBody owner f) = InBody (class_seen owner) f.now

abbrev pub around_seen : Around → Surroundings
around_seen around = record { loop = around.in_loop; clause = around.in_clause }
