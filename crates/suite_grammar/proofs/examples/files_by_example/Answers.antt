use Rattle.std.proofs.Common.{refl}
use Rattle.std.specs.Str.{chars, is_utf8}
use Rattle.std.specs.Fmt.{digits}
use lib.Utf8.{encode}
use Rattle.py_language.specs.Tokens.{tokens_of}
use Rattle.py_language.specs.TokensCharacters.{lines_of, decoded}
use Rattle.py_language.specs.TokensFaults.{name_fault, number_fault, blank_fault, comment_fault, mark_fault, stray_fault, string_fault, fault_by}
use Rattle.py_language.specs.TokensLines.{line_after, open_after, ends_line, line_begun, lines_ended}
use Rattle.py_language.specs.TokensMarks.{marks, mark_of}
use Rattle.py_language.specs.TokensNames.{keywords_of_2, keywords_of_3, keywords_of_4, keywords_of_5, keywords_of_6, keywords_of_7, keywords_of_8, name_token, is_string_prefix}
use Rattle.py_language.specs.TokensPieces.{spells, longest, piece_len, pieces_of}
use Rattle.py_language.specs.TokensStrings.{string_len, string_content}
use Rattle.py_language.specs.Trees.{inside, postfix, signed, product, sum, comparison, negation, conjunction, disjunction, conditional, listed, tree_at}
use Rattle.py_language.specs.TreesNumbers.{numbered}
use Rattle.py_language.specs.TreesPlaces.{at, below, closing, colon}
use Rattle.py_grammar.specs.Annotations.{held, annotation_in}
use Rattle.py_grammar.specs.Compounds.{statement, statements}
use Rattle.py_grammar.specs.Forms.{form_of}
use Rattle.py_grammar.specs.Modules.{method, methods, module_item}
use Rattle.py_grammar.specs.Refusals.{construct_of}
use Rattle.py_grammar.specs.Separators.{outside}
use Rattle.suite_file.specs.Spelled.{shown_in, shown_in_kind, shown_in_args}
use Rattle.suite_grammar.specs.Files.{test_statement, test_statements, top_item, top_items, file_in}
use Rattle.suite_grammar.specs.Forms.{top_form, test_form}
use Rattle.suite_grammar.proofs.Levels.{levels}
use Rattle.suite_grammar.proofs.examples.files_by_example.Goals as goal

pub returns-clause-empty : goal.returns-clause-empty
unfolding tokens_of lines_of decoded name_fault number_fault blank_fault comment_fault mark_fault stray_fault string_fault fault_by line_after open_after ends_line line_begun lines_ended marks mark_of keywords_of_2 keywords_of_3 keywords_of_4 keywords_of_5 keywords_of_6 keywords_of_7 keywords_of_8 name_token is_string_prefix spells longest piece_len pieces_of string_len string_content inside postfix signed product sum comparison negation conjunction disjunction conditional listed tree_at numbered at below closing colon held annotation_in statement statements form_of method methods module_item construct_of outside shown_in shown_in_kind shown_in_args test_statement test_statements top_item top_items file_in top_form test_form chars is_utf8 encode digits
returns-clause-empty c = refl

pub returns-clause-layouts : goal.returns-clause-layouts
unfolding tokens_of lines_of decoded name_fault number_fault blank_fault comment_fault mark_fault stray_fault string_fault fault_by line_after open_after ends_line line_begun lines_ended marks mark_of keywords_of_2 keywords_of_3 keywords_of_4 keywords_of_5 keywords_of_6 keywords_of_7 keywords_of_8 name_token is_string_prefix spells longest piece_len pieces_of string_len string_content inside postfix signed product sum comparison negation conjunction disjunction conditional listed tree_at numbered at below closing colon held annotation_in statement statements form_of method methods module_item construct_of outside shown_in shown_in_kind shown_in_args test_statement test_statements top_item top_items file_in top_form test_form chars is_utf8 encode digits
returns-clause-layouts c = refl

pub returns-clause-items : goal.returns-clause-items
returns-clause-items c = simp levels

pub returns-clause-imports : goal.returns-clause-imports
unfolding tokens_of lines_of decoded name_fault number_fault blank_fault comment_fault mark_fault stray_fault string_fault fault_by line_after open_after ends_line line_begun lines_ended marks mark_of keywords_of_2 keywords_of_3 keywords_of_4 keywords_of_5 keywords_of_6 keywords_of_7 keywords_of_8 name_token is_string_prefix spells longest piece_len pieces_of string_len string_content inside postfix signed product sum comparison negation conjunction disjunction conditional listed tree_at numbered at below closing colon held annotation_in statement statements form_of method methods module_item construct_of outside shown_in shown_in_kind shown_in_args test_statement test_statements top_item top_items file_in top_form test_form chars is_utf8 encode digits
returns-clause-imports c = refl

pub returns-clause-strays : goal.returns-clause-strays
unfolding tokens_of lines_of decoded name_fault number_fault blank_fault comment_fault mark_fault stray_fault string_fault fault_by line_after open_after ends_line line_begun lines_ended marks mark_of keywords_of_2 keywords_of_3 keywords_of_4 keywords_of_5 keywords_of_6 keywords_of_7 keywords_of_8 name_token is_string_prefix spells longest piece_len pieces_of string_len string_content inside postfix signed product sum comparison negation conjunction disjunction conditional listed tree_at numbered at below closing colon held annotation_in statement statements form_of method methods module_item construct_of outside shown_in shown_in_kind shown_in_args test_statement test_statements top_item top_items file_in top_form test_form chars is_utf8 encode digits
returns-clause-strays c = refl
