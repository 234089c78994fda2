use Rattle.std.proofs.lemmas.Result.{err_from_is_err_and}
use Rattle.py_line.specs.Headers.{header}
use Rattle.py_line.proofs.FormLemmas.{no_block}
use Rattle.py_line.proofs.statement.Reader.compound.Goals as goal

pub returns-in_err-body : goal.returns-in_err-body
returns-in_err-body c =
    let p = err_from_is_err_and c.from_residual.result c.from_residual.ensures.1 in
    rw (p.1, p.2) (no_block c.args.self.now.line (header c.args.self.now.line c.args.word) _ _ _ _ _ c.cut.ensures.front c.cut.ensures.back c.in-Some.ensures _ c.in_err-body.ensures)
