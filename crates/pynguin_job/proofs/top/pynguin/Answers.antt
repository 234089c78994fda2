use Rattle.pynguin_job.proofs.Runs.{never_began, words_unread}
use Rattle.pynguin_job.proofs.top.pynguin.Goals as goal

pub returns-in-Err-Memory-clause-words : goal.returns-in-Err-Memory-clause-words
returns-in-Err-Memory-clause-words g c = words_unread _ _ _ _ c.say_out_of_memory.ensures.concludes

pub returns-in-Err-Memory-clause-runs : goal.returns-in-Err-Memory-clause-runs
returns-in-Err-Memory-clause-runs g c = never_began _ _ _ _ c.say_out_of_memory.ensures.concludes
