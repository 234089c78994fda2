use Rattle.std.proofs.Common.{◌≡◌, ◌+◌, ◌*◌, drop}
use Rattle.std.specs.List.{flat_map}
use Rattle.py_language.specs.declared.token.Keyword.TheVariants as k
use Rattle.py_layout.specs.Rows.{rows_of, rows_of_clause, block_rows}
use Rattle.py_annotation_layout.specs.Annotations.{annotation_tokens}
use Rattle.module_printer.specs.Blocks.{arms_by}
use Rattle.module_printer.specs.Pages.{onto}
use Rattle.module_printer.proofs.StatementRows.{left}
use Rattle.module_printer.proofs.blocks.+blocks.Given as goal

abbrev pub invariant-block-loop-x : goal.invariant-block-loop-x
invariant-block-loop-x l = onto l.fn.page (block_rows annotation_tokens l.column l.body) ≡ onto l.page (left (λ x. rows_of annotation_tokens x l.column) l.body l.x-index)

abbrev pub invariant-clauses-loop-x : goal.invariant-clauses-loop-x
invariant-clauses-loop-x l = onto l.fn.page (flat_map (λ x. rows_of_clause annotation_tokens x l.column) l.all) ≡ onto l.page (left (λ x. rows_of_clause annotation_tokens x l.column) l.all l.x-index)

abbrev pub invariant-branches-loop-arm : goal.invariant-branches-loop-arm
invariant-branches-loop-arm l = onto l.fn.page (arms_by l.column k.If l.arms) ≡ onto l.page (arms_by l.column l.keyword (drop l.arm-index l.arms))

-- A function that passes its statements on unchanged is above the one that it calls.

abbrev pub decreases-branches : goal.decreases-branches
decreases-branches l = 6 * goal.size-branches l

abbrev pub decreases-clause : goal.decreases-clause
decreases-clause l = 6 * goal.size-clause l

abbrev pub decreases-statement : goal.decreases-statement
decreases-statement l = 6 * goal.size-statement l + 1

abbrev pub decreases-clauses : goal.decreases-clauses
decreases-clauses l = 6 * goal.size-clauses l + 1

abbrev pub decreases-block : goal.decreases-block
decreases-block l = 6 * goal.size-block l + 2

abbrev pub decreases-deeper : goal.decreases-deeper
decreases-deeper l = 6 * goal.size-deeper l + 3

abbrev pub decreases-maybe : goal.decreases-maybe
decreases-maybe l = 6 * goal.size-maybe l + 5

abbrev pub decreases-worded : goal.decreases-worded
decreases-worded l = 6 * goal.size-worded l + 4
