-- What the examples of texts are of.
use Rattle.std.specs.Prelude.{codes}
use Rattle.pynguin_job.specs.declared.words.Job.{Job}

abbrev pub box : Job
box = record { source = codes "a/box.py"; suite = codes "test_box.py"; report = codes "report.txt"; name = codes "box" }
