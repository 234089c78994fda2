use Rattle.py_eval_calls.proofs.ByName.{of_no_name}
use Rattle.py_eval_calls.proofs.starts.builtin_called.Goals as goal

pub returns-in_default : goal.returns-in_default
returns-in_default g c = λ watcher value does args. of_no_name watcher c.args.tables.now value does c.args.f.now args c.args.s.now c.args.f.now.kind c.in_default.not-Name
