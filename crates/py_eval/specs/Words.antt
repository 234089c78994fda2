-- Runs of two parts, as transitions cite them: a clause can't write `>>=`.
use Rattle.std.specs.Prelude.{ℕ, List}
use Rattle.py_syntax.specs.declared.operator.BinOp.{BinOp}
use Rattle.py_meaning.specs.declared.value.Value.{Value}
use Rattle.py_plain.specs.Attributes.{finds, read_found, sets_attribute}
use Rattle.py_plain.specs.Names.{binds}
use Rattle.py_plain.specs.Operators.{augments, sets_item}
use Rattle.py_plain.specs.Program.{Program}
use Rattle.py_plain.specs.Runs.{Run, Finding, ◌>>=◌, ◌>>◌}

abbrev pub reads_attribute : {W : Type 0} → Program → Value → List ℕ → Run W Finding
reads_attribute program of name = finds program of name >>= read_found

abbrev pub adds_to_name : {W : Type 0} → List ℕ → BinOp → Value → Value → Run W Finding
adds_to_name name op old x = augments op old x >>= (λ new. binds name new.0)

abbrev pub adds_to_attribute : {W : Type 0} → Program → Value → List ℕ → BinOp → Value → Value → Run W Finding
adds_to_attribute program of name op old x = augments op old x >>= (λ new. sets_attribute program of name new.0)

abbrev pub adds_to_item : {W : Type 0} → Value → Value → BinOp → Value → Value → Run W Finding
adds_to_item of at op old x = augments op old x >>= (λ new. sets_item of at new.0)

-- one run and then another
abbrev pub and_then : {W : Type 0} → Run W Finding → Run W Finding → Run W Finding
and_then first second = first >> second
