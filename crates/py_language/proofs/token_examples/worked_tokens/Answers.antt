use Rattle.std.proofs.Common.{refl}
use Rattle.std.specs.Str.{chars, is_utf8}
use lib.Utf8.{encode}
use Rattle.py_language.specs.Tokens.{tokens_of}
use Rattle.py_language.specs.TokensCharacters.{lines_of, decoded}
use Rattle.py_language.specs.TokensNames.{keywords_of_2, keywords_of_3, keywords_of_4, keywords_of_5, keywords_of_6, keywords_of_7, keywords_of_8, name_token, is_string_prefix}
use Rattle.py_language.specs.TokensStrings.{string_len, string_content}
use Rattle.py_language.specs.TokensMarks.{marks, mark_of}
use Rattle.py_language.specs.TokensPieces.{spells, longest, piece_len, pieces_of}
use Rattle.py_language.specs.TokensLines.{line_after, open_after, ends_line, line_begun, lines_ended}
use Rattle.py_language.specs.TokensFaults.{name_fault, number_fault, blank_fault, comment_fault, mark_fault, stray_fault, string_fault, fault_by}
use Rattle.py_language.proofs.token_examples.worked_tokens.Goals as goal

pub returns-clause-product : goal.returns-clause-product
unfolding tokens_of lines_of decoded keywords_of_2 keywords_of_3 keywords_of_4 keywords_of_5 keywords_of_6 keywords_of_7 keywords_of_8 name_token is_string_prefix string_len string_content marks mark_of spells longest piece_len pieces_of line_after open_after ends_line line_begun lines_ended name_fault number_fault blank_fault comment_fault mark_fault stray_fault string_fault fault_by chars is_utf8 encode
returns-clause-product c = refl

pub returns-clause-longest_marks : goal.returns-clause-longest_marks
unfolding tokens_of lines_of decoded keywords_of_2 keywords_of_3 keywords_of_4 keywords_of_5 keywords_of_6 keywords_of_7 keywords_of_8 name_token is_string_prefix string_len string_content marks mark_of spells longest piece_len pieces_of line_after open_after ends_line line_begun lines_ended name_fault number_fault blank_fault comment_fault mark_fault stray_fault string_fault fault_by chars is_utf8 encode
returns-clause-longest_marks c = refl

pub returns-clause-forms_of_strings : goal.returns-clause-forms_of_strings
unfolding tokens_of lines_of decoded keywords_of_2 keywords_of_3 keywords_of_4 keywords_of_5 keywords_of_6 keywords_of_7 keywords_of_8 name_token is_string_prefix string_len string_content marks mark_of spells longest piece_len pieces_of line_after open_after ends_line line_begun lines_ended name_fault number_fault blank_fault comment_fault mark_fault stray_fault string_fault fault_by chars is_utf8 encode
returns-clause-forms_of_strings c = refl

pub returns-clause-escapes : goal.returns-clause-escapes
unfolding tokens_of lines_of decoded keywords_of_2 keywords_of_3 keywords_of_4 keywords_of_5 keywords_of_6 keywords_of_7 keywords_of_8 name_token is_string_prefix string_len string_content marks mark_of spells longest piece_len pieces_of line_after open_after ends_line line_begun lines_ended name_fault number_fault blank_fault comment_fault mark_fault stray_fault string_fault fault_by chars is_utf8 encode
returns-clause-escapes c = refl

pub returns-clause-bracket_over_two_lines : goal.returns-clause-bracket_over_two_lines
unfolding tokens_of lines_of decoded keywords_of_2 keywords_of_3 keywords_of_4 keywords_of_5 keywords_of_6 keywords_of_7 keywords_of_8 name_token is_string_prefix string_len string_content marks mark_of spells longest piece_len pieces_of line_after open_after ends_line line_begun lines_ended name_fault number_fault blank_fault comment_fault mark_fault stray_fault string_fault fault_by chars is_utf8 encode
returns-clause-bracket_over_two_lines c = refl

pub returns-clause-columns : goal.returns-clause-columns
unfolding tokens_of lines_of decoded keywords_of_2 keywords_of_3 keywords_of_4 keywords_of_5 keywords_of_6 keywords_of_7 keywords_of_8 name_token is_string_prefix string_len string_content marks mark_of spells longest piece_len pieces_of line_after open_after ends_line line_begun lines_ended name_fault number_fault blank_fault comment_fault mark_fault stray_fault string_fault fault_by chars is_utf8 encode
returns-clause-columns c = refl

pub returns-clause-line_ends : goal.returns-clause-line_ends
unfolding tokens_of lines_of decoded keywords_of_2 keywords_of_3 keywords_of_4 keywords_of_5 keywords_of_6 keywords_of_7 keywords_of_8 name_token is_string_prefix string_len string_content marks mark_of spells longest piece_len pieces_of line_after open_after ends_line line_begun lines_ended name_fault number_fault blank_fault comment_fault mark_fault stray_fault string_fault fault_by chars is_utf8 encode
returns-clause-line_ends c = refl

pub returns-clause-integers : goal.returns-clause-integers
unfolding tokens_of lines_of decoded keywords_of_2 keywords_of_3 keywords_of_4 keywords_of_5 keywords_of_6 keywords_of_7 keywords_of_8 name_token is_string_prefix string_len string_content marks mark_of spells longest piece_len pieces_of line_after open_after ends_line line_begun lines_ended name_fault number_fault blank_fault comment_fault mark_fault stray_fault string_fault fault_by chars is_utf8 encode
returns-clause-integers c = refl

pub returns-clause-order_mark : goal.returns-clause-order_mark
unfolding tokens_of lines_of decoded keywords_of_2 keywords_of_3 keywords_of_4 keywords_of_5 keywords_of_6 keywords_of_7 keywords_of_8 name_token is_string_prefix string_len string_content marks mark_of spells longest piece_len pieces_of line_after open_after ends_line line_begun lines_ended name_fault number_fault blank_fault comment_fault mark_fault stray_fault string_fault fault_by chars is_utf8 encode
returns-clause-order_mark c = refl

pub returns-clause-greatest_integer : goal.returns-clause-greatest_integer
unfolding tokens_of lines_of decoded keywords_of_2 keywords_of_3 keywords_of_4 keywords_of_5 keywords_of_6 keywords_of_7 keywords_of_8 name_token is_string_prefix string_len string_content marks mark_of spells longest piece_len pieces_of line_after open_after ends_line line_begun lines_ended name_fault number_fault blank_fault comment_fault mark_fault stray_fault string_fault fault_by chars is_utf8 encode
returns-clause-greatest_integer c = refl

pub returns-clause-accepted_encoding : goal.returns-clause-accepted_encoding
unfolding tokens_of lines_of decoded keywords_of_2 keywords_of_3 keywords_of_4 keywords_of_5 keywords_of_6 keywords_of_7 keywords_of_8 name_token is_string_prefix string_len string_content marks mark_of spells longest piece_len pieces_of line_after open_after ends_line line_begun lines_ended name_fault number_fault blank_fault comment_fault mark_fault stray_fault string_fault fault_by chars is_utf8 encode
returns-clause-accepted_encoding c = refl

pub returns-clause-ellipsis_before_a_digit : goal.returns-clause-ellipsis_before_a_digit
unfolding tokens_of lines_of decoded keywords_of_2 keywords_of_3 keywords_of_4 keywords_of_5 keywords_of_6 keywords_of_7 keywords_of_8 name_token is_string_prefix string_len string_content marks mark_of spells longest piece_len pieces_of line_after open_after ends_line line_begun lines_ended name_fault number_fault blank_fault comment_fault mark_fault stray_fault string_fault fault_by chars is_utf8 encode
returns-clause-ellipsis_before_a_digit c = refl

pub returns-clause-lines_before_a_fault : goal.returns-clause-lines_before_a_fault
unfolding tokens_of lines_of decoded keywords_of_2 keywords_of_3 keywords_of_4 keywords_of_5 keywords_of_6 keywords_of_7 keywords_of_8 name_token is_string_prefix string_len string_content marks mark_of spells longest piece_len pieces_of line_after open_after ends_line line_begun lines_ended name_fault number_fault blank_fault comment_fault mark_fault stray_fault string_fault fault_by chars is_utf8 encode
returns-clause-lines_before_a_fault c = refl

pub returns-clause-encoding_of_a_byte : goal.returns-clause-encoding_of_a_byte
unfolding tokens_of lines_of decoded keywords_of_2 keywords_of_3 keywords_of_4 keywords_of_5 keywords_of_6 keywords_of_7 keywords_of_8 name_token is_string_prefix string_len string_content marks mark_of spells longest piece_len pieces_of line_after open_after ends_line line_begun lines_ended name_fault number_fault blank_fault comment_fault mark_fault stray_fault string_fault fault_by chars is_utf8 encode
returns-clause-encoding_of_a_byte c = refl

pub returns-clause-encoding_by_name : goal.returns-clause-encoding_by_name
unfolding tokens_of lines_of decoded keywords_of_2 keywords_of_3 keywords_of_4 keywords_of_5 keywords_of_6 keywords_of_7 keywords_of_8 name_token is_string_prefix string_len string_content marks mark_of spells longest piece_len pieces_of line_after open_after ends_line line_begun lines_ended name_fault number_fault blank_fault comment_fault mark_fault stray_fault string_fault fault_by chars is_utf8 encode
returns-clause-encoding_by_name c = refl

pub returns-clause-tab : goal.returns-clause-tab
unfolding tokens_of lines_of decoded keywords_of_2 keywords_of_3 keywords_of_4 keywords_of_5 keywords_of_6 keywords_of_7 keywords_of_8 name_token is_string_prefix string_len string_content marks mark_of spells longest piece_len pieces_of line_after open_after ends_line line_begun lines_ended name_fault number_fault blank_fault comment_fault mark_fault stray_fault string_fault fault_by chars is_utf8 encode
returns-clause-tab c = refl

pub returns-clause-tab_on_a_blank_line : goal.returns-clause-tab_on_a_blank_line
unfolding tokens_of lines_of decoded keywords_of_2 keywords_of_3 keywords_of_4 keywords_of_5 keywords_of_6 keywords_of_7 keywords_of_8 name_token is_string_prefix string_len string_content marks mark_of spells longest piece_len pieces_of line_after open_after ends_line line_begun lines_ended name_fault number_fault blank_fault comment_fault mark_fault stray_fault string_fault fault_by chars is_utf8 encode
returns-clause-tab_on_a_blank_line c = refl

pub returns-clause-string_open : goal.returns-clause-string_open
unfolding tokens_of lines_of decoded keywords_of_2 keywords_of_3 keywords_of_4 keywords_of_5 keywords_of_6 keywords_of_7 keywords_of_8 name_token is_string_prefix string_len string_content marks mark_of spells longest piece_len pieces_of line_after open_after ends_line line_begun lines_ended name_fault number_fault blank_fault comment_fault mark_fault stray_fault string_fault fault_by chars is_utf8 encode
returns-clause-string_open c = refl

pub returns-clause-escape : goal.returns-clause-escape
unfolding tokens_of lines_of decoded keywords_of_2 keywords_of_3 keywords_of_4 keywords_of_5 keywords_of_6 keywords_of_7 keywords_of_8 name_token is_string_prefix string_len string_content marks mark_of spells longest piece_len pieces_of line_after open_after ends_line line_begun lines_ended name_fault number_fault blank_fault comment_fault mark_fault stray_fault string_fault fault_by chars is_utf8 encode
returns-clause-escape c = refl

pub returns-clause-escape_on_a_later_line : goal.returns-clause-escape_on_a_later_line
unfolding tokens_of lines_of decoded keywords_of_2 keywords_of_3 keywords_of_4 keywords_of_5 keywords_of_6 keywords_of_7 keywords_of_8 name_token is_string_prefix string_len string_content marks mark_of spells longest piece_len pieces_of line_after open_after ends_line line_begun lines_ended name_fault number_fault blank_fault comment_fault mark_fault stray_fault string_fault fault_by chars is_utf8 encode
returns-clause-escape_on_a_later_line c = refl

pub returns-clause-string_prefix : goal.returns-clause-string_prefix
unfolding tokens_of lines_of decoded keywords_of_2 keywords_of_3 keywords_of_4 keywords_of_5 keywords_of_6 keywords_of_7 keywords_of_8 name_token is_string_prefix string_len string_content marks mark_of spells longest piece_len pieces_of line_after open_after ends_line line_begun lines_ended name_fault number_fault blank_fault comment_fault mark_fault stray_fault string_fault fault_by chars is_utf8 encode
returns-clause-string_prefix c = refl

pub returns-clause-number_with_a_point : goal.returns-clause-number_with_a_point
unfolding tokens_of lines_of decoded keywords_of_2 keywords_of_3 keywords_of_4 keywords_of_5 keywords_of_6 keywords_of_7 keywords_of_8 name_token is_string_prefix string_len string_content marks mark_of spells longest piece_len pieces_of line_after open_after ends_line line_begun lines_ended name_fault number_fault blank_fault comment_fault mark_fault stray_fault string_fault fault_by chars is_utf8 encode
returns-clause-number_with_a_point c = refl

pub returns-clause-number_with_two_underscores : goal.returns-clause-number_with_two_underscores
unfolding tokens_of lines_of decoded keywords_of_2 keywords_of_3 keywords_of_4 keywords_of_5 keywords_of_6 keywords_of_7 keywords_of_8 name_token is_string_prefix string_len string_content marks mark_of spells longest piece_len pieces_of line_after open_after ends_line line_begun lines_ended name_fault number_fault blank_fault comment_fault mark_fault stray_fault string_fault fault_by chars is_utf8 encode
returns-clause-number_with_two_underscores c = refl

pub returns-clause-number_with_leading_zero : goal.returns-clause-number_with_leading_zero
unfolding tokens_of lines_of decoded keywords_of_2 keywords_of_3 keywords_of_4 keywords_of_5 keywords_of_6 keywords_of_7 keywords_of_8 name_token is_string_prefix string_len string_content marks mark_of spells longest piece_len pieces_of line_after open_after ends_line line_begun lines_ended name_fault number_fault blank_fault comment_fault mark_fault stray_fault string_fault fault_by chars is_utf8 encode
returns-clause-number_with_leading_zero c = refl

pub returns-clause-number_in_base_two : goal.returns-clause-number_in_base_two
unfolding tokens_of lines_of decoded keywords_of_2 keywords_of_3 keywords_of_4 keywords_of_5 keywords_of_6 keywords_of_7 keywords_of_8 name_token is_string_prefix string_len string_content marks mark_of spells longest piece_len pieces_of line_after open_after ends_line line_begun lines_ended name_fault number_fault blank_fault comment_fault mark_fault stray_fault string_fault fault_by chars is_utf8 encode
returns-clause-number_in_base_two c = refl

pub returns-clause-point_before_a_digit : goal.returns-clause-point_before_a_digit
unfolding tokens_of lines_of decoded keywords_of_2 keywords_of_3 keywords_of_4 keywords_of_5 keywords_of_6 keywords_of_7 keywords_of_8 name_token is_string_prefix string_len string_content marks mark_of spells longest piece_len pieces_of line_after open_after ends_line line_begun lines_ended name_fault number_fault blank_fault comment_fault mark_fault stray_fault string_fault fault_by chars is_utf8 encode
returns-clause-point_before_a_digit c = refl

pub returns-clause-integer_range : goal.returns-clause-integer_range
unfolding tokens_of lines_of decoded keywords_of_2 keywords_of_3 keywords_of_4 keywords_of_5 keywords_of_6 keywords_of_7 keywords_of_8 name_token is_string_prefix string_len string_content marks mark_of spells longest piece_len pieces_of line_after open_after ends_line line_begun lines_ended name_fault number_fault blank_fault comment_fault mark_fault stray_fault string_fault fault_by chars is_utf8 encode
returns-clause-integer_range c = refl

pub returns-clause-bracket_closed : goal.returns-clause-bracket_closed
unfolding tokens_of lines_of decoded keywords_of_2 keywords_of_3 keywords_of_4 keywords_of_5 keywords_of_6 keywords_of_7 keywords_of_8 name_token is_string_prefix string_len string_content marks mark_of spells longest piece_len pieces_of line_after open_after ends_line line_begun lines_ended name_fault number_fault blank_fault comment_fault mark_fault stray_fault string_fault fault_by chars is_utf8 encode
returns-clause-bracket_closed c = refl

pub returns-clause-bracket_open : goal.returns-clause-bracket_open
unfolding tokens_of lines_of decoded keywords_of_2 keywords_of_3 keywords_of_4 keywords_of_5 keywords_of_6 keywords_of_7 keywords_of_8 name_token is_string_prefix string_len string_content marks mark_of spells longest piece_len pieces_of line_after open_after ends_line line_begun lines_ended name_fault number_fault blank_fault comment_fault mark_fault stray_fault string_fault fault_by chars is_utf8 encode
returns-clause-bracket_open c = refl

pub returns-clause-bracket_after_any_other_fault : goal.returns-clause-bracket_after_any_other_fault
unfolding tokens_of lines_of decoded keywords_of_2 keywords_of_3 keywords_of_4 keywords_of_5 keywords_of_6 keywords_of_7 keywords_of_8 name_token is_string_prefix string_len string_content marks mark_of spells longest piece_len pieces_of line_after open_after ends_line line_begun lines_ended name_fault number_fault blank_fault comment_fault mark_fault stray_fault string_fault fault_by chars is_utf8 encode
returns-clause-bracket_after_any_other_fault c = refl

pub returns-clause-nesting : goal.returns-clause-nesting
unfolding tokens_of lines_of decoded keywords_of_2 keywords_of_3 keywords_of_4 keywords_of_5 keywords_of_6 keywords_of_7 keywords_of_8 name_token is_string_prefix string_len string_content marks mark_of spells longest piece_len pieces_of line_after open_after ends_line line_begun lines_ended name_fault number_fault blank_fault comment_fault mark_fault stray_fault string_fault fault_by chars is_utf8 encode
returns-clause-nesting c = refl

pub returns-clause-backslash : goal.returns-clause-backslash
unfolding tokens_of lines_of decoded keywords_of_2 keywords_of_3 keywords_of_4 keywords_of_5 keywords_of_6 keywords_of_7 keywords_of_8 name_token is_string_prefix string_len string_content marks mark_of spells longest piece_len pieces_of line_after open_after ends_line line_begun lines_ended name_fault number_fault blank_fault comment_fault mark_fault stray_fault string_fault fault_by chars is_utf8 encode
returns-clause-backslash c = refl

pub returns-clause-lone_carriage_return : goal.returns-clause-lone_carriage_return
unfolding tokens_of lines_of decoded keywords_of_2 keywords_of_3 keywords_of_4 keywords_of_5 keywords_of_6 keywords_of_7 keywords_of_8 name_token is_string_prefix string_len string_content marks mark_of spells longest piece_len pieces_of line_after open_after ends_line line_begun lines_ended name_fault number_fault blank_fault comment_fault mark_fault stray_fault string_fault fault_by chars is_utf8 encode
returns-clause-lone_carriage_return c = refl

pub returns-clause-last_carriage_return : goal.returns-clause-last_carriage_return
unfolding tokens_of lines_of decoded keywords_of_2 keywords_of_3 keywords_of_4 keywords_of_5 keywords_of_6 keywords_of_7 keywords_of_8 name_token is_string_prefix string_len string_content marks mark_of spells longest piece_len pieces_of line_after open_after ends_line line_begun lines_ended name_fault number_fault blank_fault comment_fault mark_fault stray_fault string_fault fault_by chars is_utf8 encode
returns-clause-last_carriage_return c = refl

pub returns-clause-utf8_in_a_string : goal.returns-clause-utf8_in_a_string
unfolding tokens_of lines_of decoded keywords_of_2 keywords_of_3 keywords_of_4 keywords_of_5 keywords_of_6 keywords_of_7 keywords_of_8 name_token is_string_prefix string_len string_content marks mark_of spells longest piece_len pieces_of line_after open_after ends_line line_begun lines_ended name_fault number_fault blank_fault comment_fault mark_fault stray_fault string_fault fault_by chars is_utf8 encode
returns-clause-utf8_in_a_string c = refl

pub returns-clause-encoding_in_a_string : goal.returns-clause-encoding_in_a_string
unfolding tokens_of lines_of decoded keywords_of_2 keywords_of_3 keywords_of_4 keywords_of_5 keywords_of_6 keywords_of_7 keywords_of_8 name_token is_string_prefix string_len string_content marks mark_of spells longest piece_len pieces_of line_after open_after ends_line line_begun lines_ended name_fault number_fault blank_fault comment_fault mark_fault stray_fault string_fault fault_by chars is_utf8 encode
returns-clause-encoding_in_a_string c = refl

pub returns-clause-form_feed_in_a_comment : goal.returns-clause-form_feed_in_a_comment
unfolding tokens_of lines_of decoded keywords_of_2 keywords_of_3 keywords_of_4 keywords_of_5 keywords_of_6 keywords_of_7 keywords_of_8 name_token is_string_prefix string_len string_content marks mark_of spells longest piece_len pieces_of line_after open_after ends_line line_begun lines_ended name_fault number_fault blank_fault comment_fault mark_fault stray_fault string_fault fault_by chars is_utf8 encode
returns-clause-form_feed_in_a_comment c = refl
