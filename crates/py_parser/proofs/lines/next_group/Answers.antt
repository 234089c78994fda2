use Rattle.std.proofs.Common.{refl}
use Rattle.py_parser.specs.Lines.{begins_anew}
use Rattle.py_parser.proofs.Cuts.{first_group, shorter}
use Rattle.py_parser.proofs.lines.next_group.Goals as goal

pub returns : goal.returns
returns c = record {
  groups_are = first_group c.args.column _ _ _ _ _ _ _ c.in_ok-line.ensures.cases.0 c.cut_statement.ensures.front c.cut_statement.ensures.back c.cut_deeper.ensures.front c.cut_deeper.ensures.back;
  column_is = refl;
  fewer = shorter (begins_anew c.args.column) _ _ _ _ c.in_ok-line.ensures.cases.0 c.cut_statement.ensures.back;
}
