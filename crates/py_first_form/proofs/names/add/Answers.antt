use Rattle.std.proofs.Common.{◌∙◌, ap, not, List, ℕ, bytes_eq}
use Rattle.std.specs.List.{list_any}
use denote.Ref.{Bor}
use Rattle.py_first_form.proofs.NameLemmas.{list_any-insert_key, list_any-tie}
use Rattle.py_first_form.proofs.names.add.Goals as goal

pub returns-clause-new : goal.returns-clause-new
returns-clause-new c = c.in_ok-insert.ensures.added ∙ ap not (list_any-tie c.args.name.now c.args.names.now.keys)

pub returns-clause-added : goal.returns-clause-added
returns-clause-added c = λ other.
    ap (λ (keys : List (Bor (List ℕ))). list_any (λ key. bytes_eq key.now other) keys) c.in_ok-insert.ensures.keys
    ∙ list_any-insert_key other c.args.names.now.keys c.args.name
