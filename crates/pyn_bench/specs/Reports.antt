-- What the program prints.
use Rattle.std.specs.Prelude.{ℕ, ◌+◌, ◌-◌, ◌^◌, nat_le, if◌then◌else◌, min, Bool, true, false, List, [], ◌∷◌, ◌++◌, length, codes, decimal, encode_utf8_all, Result, Ok, Err}
use Rattle.std.specs.Option.{is_some}
use Rattle.py_language.specs.declared.token.Logical.{Logical}
use Rattle.py_language.specs.declared.token.Token.{Token}
use Rattle.py_language.specs.Tokens.{tokens_of}
use Rattle.py_language.specs.Trees.{tree_of}
use Rattle.py_syntax.specs.declared.module.Module.{Module}
use Rattle.py_syntax.specs.declared.refusal.Refusal.{Refusal}
use Rattle.py_syntax.specs.declared.refusal.Refusal.TheVariants as refusal
use Rattle.py_parser.specs.Parsed.{parsed}
use Rattle.pyn_base.specs.declared.construct.Construct.TheVariants.{TooLong}
use Rattle.pyn_bench.specs.declared.reports.Reading.{Reading}
use Rattle.pyn_bench.specs.declared.reports.Reading.TheVariants as reading
use Rattle.pyn_bench.specs.Refused.{refused_text}
use Rattle.pyn_bench.specs.Runs.{run_report}

-- how many tokens logical lines have
abbrev pub tokens_in : List Logical → ℕ
tokens_in [] = 0
tokens_in (l ∷ ls) = length l.tokens + tokens_in ls

-- a count stands still at its type's end
abbrev pub counted : ℕ → ℕ
counted n = min n (2 ^ 64 - 1)

abbrev pub counts_text : ℕ → ℕ → List ℕ
counts_text lines tokens = codes "lines " ++ decimal lines ++ codes "\ntokens " ++ decimal tokens ++ codes "\n"

abbrev pub counts_report : List Logical → List ℕ
counts_report lines = counts_text (length lines) (counted (tokens_in lines))

-- the tokens of the first logical line
abbrev pub first_line : List Logical → List Token
first_line [] = []
first_line (l ∷ ls) = l.tokens

abbrev pub answer : Bool → List ℕ
answer true = codes "\nread\n"
answer false = codes "\nrefused\n"

abbrev pub expression_report : List Token → List ℕ
expression_report tokens = codes "tokens " ++ decimal (length tokens) ++ answer (is_some (tree_of tokens))

abbrev pub read_text : ℕ → List ℕ
read_text nodes = codes "read\nnodes " ++ decimal nodes ++ codes "\n"

-- no definition gives the refusal for want of memory
abbrev pub answer_text : Result Module Refusal → List ℕ
answer_text (Ok m) = read_text m.nodes
answer_text (Err (refusal.Refused line construct)) = refused_text line construct
answer_text (Err refusal.Memory) = []

-- a text of more than 262,144 bytes is no module
abbrev pub module_report : List ℕ → List ℕ
module_report text = if nat_le (length text) 262144 then answer_text (parsed text) else refused_text 1 TooLong

-- what is said of a text
abbrev pub report : Reading → List ℕ → List ℕ
report reading.Tokens text = counts_report (tokens_of text).lines
report reading.Expression text = expression_report (first_line (tokens_of text).lines)
report reading.Module text = module_report text
report (reading.Run times) text = run_report times text

-- the bytes that are said of a text
abbrev pub said_of : Reading → List ℕ → List ℕ
said_of reading text = encode_utf8_all (report reading text)
