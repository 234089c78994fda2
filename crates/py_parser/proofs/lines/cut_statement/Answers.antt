use Rattle.std.proofs.Common.{◌∙◌, ap, take, drop}
use Rattle.py_parser.specs.Lines.{begins_anew}
use Rattle.py_parser.proofs.Cuts.{front_taken, back_dropped}
use Rattle.py_parser.proofs.lines.cut_statement.Goals as goal

pub returns-clause-front : goal.returns-clause-front
returns-clause-front c = c.split_at.ensures.front ∙ ap (λ n. take n c.args.lines.now) c.statement_len.ensures.value ∙ front_taken (begins_anew c.args.column) c.args.lines.now

pub returns-clause-back : goal.returns-clause-back
returns-clause-back c = c.split_at.ensures.back ∙ ap (λ n. drop n c.args.lines.now) c.statement_len.ensures.value ∙ back_dropped (begins_anew c.args.column) c.args.lines.now
