use Rattle.test_frames.proofs.Steps.{frames_are_kept, assignments_leave_tests, expressions_leave_tests}
use Rattle.test_frames.proofs.laws.laws_of_test_frames.Goals as goal

pub returns-clause-frames : goal.returns-clause-frames
returns-clause-frames g c watcher program e s = frames_are_kept watcher program e s

pub returns-clause-assignments : goal.returns-clause-assignments
returns-clause-assignments g c watcher program node line name annotation e s apart is =
    assignments_leave_tests c.laws_of_meaning.ensures.statements watcher program node line name annotation e s apart is

pub returns-clause-expressions : goal.returns-clause-expressions
returns-clause-expressions g c watcher program node line e s is = expressions_leave_tests c.laws_of_meaning.ensures.statements watcher program node line e s is
