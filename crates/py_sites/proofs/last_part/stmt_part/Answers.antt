use Rattle.std.proofs.Common.{◌∙◌, sym, ap, List, [], ◌∷◌}
use Rattle.std.specs.List.{flat_map}
use Rattle.py_syntax.specs.declared.stmt.Stmt.{Stmt}
use Rattle.py_sites.specs.Nodes.{Nodes, statement, clause}
use Rattle.py_sites.specs.Walks.{last_from, stmt_part, of_option}
use Rattle.py_sites.proofs.LastParts.{stmt-Try}
use Rattle.py_sites.proofs.last_part.stmt_part.Goals as goal

abbrev block : List Stmt → Nodes
block = flat_map (λ s. statement s ∷ [])

pub returns-in-Try : goal.returns-in-Try
returns-in-Try c =
    let limit = c.args.limit in
    let clauses = c.in-Try.clauses in
    let other = c.in-Try.other in
    let last = c.in-Try.last in
    let handled = c.last_part-handled.ensures ∙ ap (λ o. last_from limit o (flat_map (λ c. clause c ∷ []) clauses)) c.last_part-in-Try.ensures in
    let others = c.last_part-in-Try-2.ensures ∙ ap (λ o. last_from limit o (of_option block other)) handled in
    c.last_part-in-Try-3.ensures ∙ ap (λ o. last_from limit o (of_option block last)) others
    ∙ sym (ap (stmt_part limit) c.in-Try.is ∙ stmt-Try limit c.in-Try.body clauses other last)
