-- Each example computes.
use Rattle.std.proofs.Common.{refl}
use Rattle.std.specs.Fmt.{digits}
use Rattle.report_model.specs.Fields.{after, after_number, number_at, number_of, name_of, named}
use Rattle.report_model.specs.LineForms.{title_of, module_of, steps_of, cap_of, raised_of, reason_of, left_of, cause_of, line_at, fails_of, stopped_of, end_of, test_of, covered_of, cover_of, goal_by, goal_of, killed_of, undecided_of, verdict_of, mutant_by, mutant_of, total_of, minimal_of}
use Rattle.report_model.specs.ReportRead.{head_at, end_at, report_at, read_lines, read_report}
use Rattle.report_model.proofs.examples.refused_by_example.Goals as goal

pub returns-clause-empty : goal.returns-clause-empty
unfolding digits number_of number_at after after_number name_of named title_of module_of steps_of cap_of raised_of reason_of left_of cause_of line_at fails_of stopped_of end_of test_of covered_of cover_of goal_by goal_of killed_of undecided_of verdict_of mutant_by mutant_of total_of minimal_of head_at end_at report_at read_lines read_report
returns-clause-empty c = refl

pub returns-clause-another_version : goal.returns-clause-another_version
unfolding digits number_of number_at after after_number name_of named title_of module_of steps_of cap_of raised_of reason_of left_of cause_of line_at fails_of stopped_of end_of test_of covered_of cover_of goal_by goal_of killed_of undecided_of verdict_of mutant_by mutant_of total_of minimal_of head_at end_at report_at read_lines read_report
returns-clause-another_version c = refl

pub returns-clause-no_name : goal.returns-clause-no_name
unfolding digits number_of number_at after after_number name_of named title_of module_of steps_of cap_of raised_of reason_of left_of cause_of line_at fails_of stopped_of end_of test_of covered_of cover_of goal_by goal_of killed_of undecided_of verdict_of mutant_by mutant_of total_of minimal_of head_at end_at report_at read_lines read_report
returns-clause-no_name c = refl

pub returns-clause-leading_zero : goal.returns-clause-leading_zero
unfolding digits number_of number_at after after_number name_of named title_of module_of steps_of cap_of raised_of reason_of left_of cause_of line_at fails_of stopped_of end_of test_of covered_of cover_of goal_by goal_of killed_of undecided_of verdict_of mutant_by mutant_of total_of minimal_of head_at end_at report_at read_lines read_report
returns-clause-leading_zero c = refl

pub returns-clause-too_large : goal.returns-clause-too_large
unfolding digits number_of number_at after after_number name_of named title_of module_of steps_of cap_of raised_of reason_of left_of cause_of line_at fails_of stopped_of end_of test_of covered_of cover_of goal_by goal_of killed_of undecided_of verdict_of mutant_by mutant_of total_of minimal_of head_at end_at report_at read_lines read_report
returns-clause-too_large c = refl

pub returns-clause-another_number : goal.returns-clause-another_number
unfolding digits number_of number_at after after_number name_of named title_of module_of steps_of cap_of raised_of reason_of left_of cause_of line_at fails_of stopped_of end_of test_of covered_of cover_of goal_by goal_of killed_of undecided_of verdict_of mutant_by mutant_of total_of minimal_of head_at end_at report_at read_lines read_report
returns-clause-another_number c = refl

pub returns-clause-no_construct : goal.returns-clause-no_construct
unfolding digits number_of number_at after after_number name_of named title_of module_of steps_of cap_of raised_of reason_of left_of cause_of line_at fails_of stopped_of end_of test_of covered_of cover_of goal_by goal_of killed_of undecided_of verdict_of mutant_by mutant_of total_of minimal_of head_at end_at report_at read_lines read_report
returns-clause-no_construct c = refl

pub returns-clause-test_after_a_goal : goal.returns-clause-test_after_a_goal
unfolding digits number_of number_at after after_number name_of named title_of module_of steps_of cap_of raised_of reason_of left_of cause_of line_at fails_of stopped_of end_of test_of covered_of cover_of goal_by goal_of killed_of undecided_of verdict_of mutant_by mutant_of total_of minimal_of head_at end_at report_at read_lines read_report
returns-clause-test_after_a_goal c = refl

pub returns-clause-two_spaces : goal.returns-clause-two_spaces
unfolding digits number_of number_at after after_number name_of named title_of module_of steps_of cap_of raised_of reason_of left_of cause_of line_at fails_of stopped_of end_of test_of covered_of cover_of goal_by goal_of killed_of undecided_of verdict_of mutant_by mutant_of total_of minimal_of head_at end_at report_at read_lines read_report
returns-clause-two_spaces c = refl

pub returns-clause-is_cut : goal.returns-clause-is_cut
unfolding digits number_of number_at after after_number name_of named title_of module_of steps_of cap_of raised_of reason_of left_of cause_of line_at fails_of stopped_of end_of test_of covered_of cover_of goal_by goal_of killed_of undecided_of verdict_of mutant_by mutant_of total_of minimal_of head_at end_at report_at read_lines read_report
returns-clause-is_cut c = refl

pub returns-clause-maybe_minimal : goal.returns-clause-maybe_minimal
unfolding digits number_of number_at after after_number name_of named title_of module_of steps_of cap_of raised_of reason_of left_of cause_of line_at fails_of stopped_of end_of test_of covered_of cover_of goal_by goal_of killed_of undecided_of verdict_of mutant_by mutant_of total_of minimal_of head_at end_at report_at read_lines read_report
returns-clause-maybe_minimal c = refl

pub returns-clause-no_line_feed : goal.returns-clause-no_line_feed
unfolding digits number_of number_at after after_number name_of named title_of module_of steps_of cap_of raised_of reason_of left_of cause_of line_at fails_of stopped_of end_of test_of covered_of cover_of goal_by goal_of killed_of undecided_of verdict_of mutant_by mutant_of total_of minimal_of head_at end_at report_at read_lines read_report
returns-clause-no_line_feed c = refl

pub returns-clause-more_after_the_end : goal.returns-clause-more_after_the_end
unfolding digits number_of number_at after after_number name_of named title_of module_of steps_of cap_of raised_of reason_of left_of cause_of line_at fails_of stopped_of end_of test_of covered_of cover_of goal_by goal_of killed_of undecided_of verdict_of mutant_by mutant_of total_of minimal_of head_at end_at report_at read_lines read_report
returns-clause-more_after_the_end c = refl

pub returns-clause-more_without_a_line_feed : goal.returns-clause-more_without_a_line_feed
unfolding digits number_of number_at after after_number name_of named title_of module_of steps_of cap_of raised_of reason_of left_of cause_of line_at fails_of stopped_of end_of test_of covered_of cover_of goal_by goal_of killed_of undecided_of verdict_of mutant_by mutant_of total_of minimal_of head_at end_at report_at read_lines read_report
returns-clause-more_without_a_line_feed c = refl
