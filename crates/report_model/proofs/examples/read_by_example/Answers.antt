-- Each example computes.
use Rattle.std.proofs.Common.{refl}
use Rattle.std.specs.Fmt.{digits}
use Rattle.report_model.specs.Fields.{after, after_number, number_at, number_of, name_of, named}
use Rattle.report_model.specs.LineForms.{title_of, module_of, steps_of, cap_of, raised_of, reason_of, left_of, cause_of, line_at, fails_of, stopped_of, end_of, test_of, covered_of, cover_of, goal_by, goal_of, killed_of, undecided_of, verdict_of, mutant_by, mutant_of, total_of, minimal_of}
use Rattle.report_model.specs.ReportRead.{head_at, end_at, report_at, read_lines, read_report}
use Rattle.report_model.proofs.examples.read_by_example.Goals as goal

pub returns-clause-read : goal.returns-clause-read
unfolding digits number_of number_at after after_number name_of named title_of module_of steps_of cap_of raised_of reason_of left_of cause_of line_at fails_of stopped_of end_of test_of covered_of cover_of goal_by goal_of killed_of undecided_of verdict_of mutant_by mutant_of total_of minimal_of head_at end_at report_at read_lines read_report
returns-clause-read c = refl

pub returns-clause-other_totals : goal.returns-clause-other_totals
unfolding digits number_of number_at after after_number name_of named title_of module_of steps_of cap_of raised_of reason_of left_of cause_of line_at fails_of stopped_of end_of test_of covered_of cover_of goal_by goal_of killed_of undecided_of verdict_of mutant_by mutant_of total_of minimal_of head_at end_at report_at read_lines read_report
returns-clause-other_totals c = refl
