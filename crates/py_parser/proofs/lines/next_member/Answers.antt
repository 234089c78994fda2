use Rattle.py_parser.specs.Lines.{is_at}
use Rattle.py_parser.proofs.Cuts.{first_member, shorter}
use Rattle.py_parser.proofs.lines.next_member.Goals as goal

pub returns : goal.returns
returns c = record {
  members_are = first_member c.args.column _ _ _ _ _ c.in_ok-line.ensures.cases.0 c.cut_deeper.ensures.front c.cut_deeper.ensures.back;
  fewer = shorter (is_at c.args.column) _ _ _ _ c.in_ok-line.ensures.cases.0 c.cut_deeper.ensures.back;
}
