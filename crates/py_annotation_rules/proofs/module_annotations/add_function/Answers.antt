use Rattle.std.proofs.lemmas.Result.{on_ok_weaker}
use Rattle.py_annotation_rules.proofs.UsesFound.{function_lines}
use Rattle.py_annotation_rules.proofs.module_annotations.add_function.Goals as goal

pub returns : goal.returns
returns c =
    let scope = c.args.scope.now in
    let f = c.args.f.now in
    on_ok_weaker c.add_body_faults.result
    (function_lines scope f c.args.lines.now c.add_params.new.lines c.add_maybe.new.lines c.add_body_faults.new.lines (rw (c.as_slice.ensures) at c.in_ok-add_params.ensures) (rw (c.as_ref.ensures.value) at c.in_ok-add_maybe.ensures))
    (rw (c.as_slice-2.ensures) at c.add_body_faults.ensures)
