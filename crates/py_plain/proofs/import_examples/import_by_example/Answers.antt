use Rattle.py_plain.proofs.ExamplesImport.{imports}
use Rattle.py_plain.proofs.import_examples.import_by_example.Goals as goal

-- src/import_examples.rt:6:1
pub returns-clause-imported : goal.returns-clause-imported
returns-clause-imported c = imports
