-- What strings hold: two worked examples.
use Rattle.std.proofs.Common.{◌≡◌, [], ◌∷◌, Some, None, refl, ap}
use Rattle.std.specs.Prelude.{encode_utf8_all, codes}
use Rattle.std.specs.Str.{chars, is_utf8}
use lib.Utf8.{encode}
use Rattle.py_language.specs.Tokens.{tokens_of}
use Rattle.py_language.specs.TokensCharacters.{lines_of, decoded}
use Rattle.py_language.specs.TokensNames.{keywords_of_2, keywords_of_3, keywords_of_4, keywords_of_5, keywords_of_6, keywords_of_7, keywords_of_8, name_token, is_string_prefix}
use Rattle.py_language.specs.TokensStrings.{string_len, string_content}
use Rattle.py_language.specs.TokensMarks.{marks, mark_of}
use Rattle.py_language.specs.TokensPieces.{spells, longest, piece_len, pieces_of}
use Rattle.py_language.specs.TokensLines.{line_after, open_after, ends_line, line_begun, lines_ended}
use Rattle.py_language.specs.TokensFaults.{name_fault, number_fault, blank_fault, comment_fault, mark_fault, stray_fault, string_fault, fault_by}
use Rattle.py_language.specs.declared.token.Token.TheVariants.{Name}
use Rattle.py_language.specs.Trees.{◌>>=◌}
use Rattle.py_grammar.specs.Separators.{outside}
use Rattle.py_grammar.specs.Annotations.{line_in, annotation_in, held}
use Rattle.py_grammar.specs.FormsExamples.{type}

int_line : line_in (encode_utf8_all (codes " int")) ≡ Some (Name (codes "int") ∷ [])
unfolding tokens_of lines_of decoded keywords_of_2 keywords_of_3 keywords_of_4 keywords_of_5 keywords_of_6 keywords_of_7 keywords_of_8 name_token is_string_prefix string_len string_content marks mark_of spells longest piece_len pieces_of line_after open_after ends_line line_begun lines_ended name_fault number_fault blank_fault comment_fault mark_fault stray_fault string_fault fault_by chars is_utf8 encode
int_line = refl

pub int_held : held (annotation_in 50) (codes " int") ≡ Some (type "int")
unfolding held annotation_in outside
int_held = ap (λ xs. xs >>= annotation_in 50) int_line

faulty_line : line_in (encode_utf8_all (codes "int$")) ≡ None
unfolding tokens_of lines_of decoded keywords_of_2 keywords_of_3 keywords_of_4 keywords_of_5 keywords_of_6 keywords_of_7 keywords_of_8 name_token is_string_prefix string_len string_content marks mark_of spells longest piece_len pieces_of line_after open_after ends_line line_begun lines_ended name_fault number_fault blank_fault comment_fault mark_fault stray_fault string_fault fault_by chars is_utf8 encode
faulty_line = refl

pub faulty_held : held (annotation_in 50) (codes "int$") ≡ None
unfolding held
faulty_held = ap (λ xs. xs >>= annotation_in 50) faulty_line
