-- Where the tokens of a line are cut: at separators outside brackets (Language Reference 2.5 and 2.6).
use Rattle.std.specs.Prelude.{ℕ, suc, pred, Bool, true, false, ◌&&◌, ◌==◌, List, [], ◌∷◌, Option, Some, None, map}
use Rattle.py_cut.specs.Cut as cut
use Rattle.py_language.specs.declared.shape.Bracket.{Bracket}
use Rattle.py_language.specs.declared.shape.Bracket.TheVariants.{Round, Square}
use Rattle.py_language.specs.declared.token.Token.{Token}
use Rattle.py_language.specs.declared.token.Token.TheVariants.{Keyword, Mark}
use Rattle.py_language.specs.declared.token.Keyword.TheVariants as keyword
use Rattle.py_language.specs.declared.token.Mark.TheVariants as mark
use Rattle.py_language.specs.Trees.{each}
use Rattle.py_grammar.specs.declared.separator.Separator.{Separator}
use Rattle.py_grammar.specs.declared.separator.Separator.TheVariants.{Semicolon, Comma, Colon, Equal, Assign, Pipe, Part, In, As, Closing}

-- how many brackets are open behind a token
abbrev pub opened : ℕ → Token → ℕ
opened depth (Mark mark.LeftParen) = suc depth
opened depth (Mark mark.LeftBracket) = suc depth
opened depth (Mark mark.LeftBrace) = suc depth
opened depth (Mark mark.RightParen) = pred depth
opened depth (Mark mark.RightBracket) = pred depth
opened depth (Mark mark.RightBrace) = pred depth
opened depth _ = depth

-- the tokens that each separator stands for
abbrev pub marks : Separator → Token → Bool
marks Semicolon (Mark mark.Semicolon) = true
marks Comma (Mark mark.Comma) = true
marks Colon (Mark mark.Colon) = true
marks Equal (Mark mark.Equal) = true
marks Assign (Mark mark.Equal) = true
marks Assign (Mark mark.PlusEqual) = true
marks Assign (Mark mark.MinusEqual) = true
marks Assign (Mark mark.StarEqual) = true
marks Assign (Mark mark.DoubleSlashEqual) = true
marks Assign (Mark mark.PercentEqual) = true
marks Pipe (Mark mark.Pipe) = true
marks Part (Mark mark.Dot) = true
marks Part (Mark mark.LeftBracket) = true
marks In (Keyword keyword.In) = true
marks As (Keyword keyword.As) = true
marks Closing (Mark mark.RightParen) = true
marks Closing (Mark mark.RightBracket) = true
marks Closing (Mark mark.RightBrace) = true
marks _ _ = false

-- the token is the separator, where so many brackets are open
unfoldable pub outside : Separator → ℕ → Token → Bool
outside p depth x = (depth == 0) && marks p x

-- the tokens before the first separator
abbrev pub front : Separator → List Token → List Token
front p xs = cut.front opened (outside p) 0 xs

-- the tokens from the first separator on
abbrev pub back : Separator → List Token → List Token
back p xs = cut.back opened (outside p) 0 xs

-- the last separator, with what is before it and behind it
abbrev pub last_cut : Separator → List Token → Option (List Token × Token × List Token)
last_cut p xs = cut.last_cut opened (outside p) 0 xs

-- the parts between the separators
abbrev pub split : Separator → List Token → List (List Token)
split p xs = front p xs ∷ map (λ q. q.1) (cut.pieces opened (outside p) 0 xs)

-- without an empty part behind the last separator
abbrev pub trimmed : List (List Token) → List (List Token)
trimmed [] = []
trimmed ([] ∷ []) = []
trimmed (x ∷ xs) = x ∷ trimmed xs

-- what each part between separators is; a last separator may stand behind them
abbrev pub parts : {B : Type 0} → Separator → (List Token → Option B) → List Token → Option (List B)
parts p f xs = each f (trimmed (split p xs))

-- the same where there is one part at least
abbrev pub some_parts : {B : Type 0} → Separator → (List Token → Option B) → List Token → Option (List B)
some_parts p f [] = None
some_parts p f xs = parts p f xs

-- the same without a last separator
abbrev pub all_parts : {B : Type 0} → Separator → (List Token → Option B) → List Token → Option (List B)
all_parts p f xs = each f (split p xs)

abbrev pub is_some : List Token → Bool
is_some [] = false
is_some (x ∷ xs) = true

-- whether a separator is outside brackets
abbrev pub has : Separator → List Token → Bool
has p xs = is_some (back p xs)

-- What is in a bracket that was opened right before, if the bracket that closes it is of its kind and is the last token.
abbrev pub closed : Bracket → List Token → List Token → Option (List Token)
closed Round content (Mark mark.RightParen ∷ []) = Some content
closed Square content (Mark mark.RightBracket ∷ []) = Some content
closed _ content _ = None

abbrev pub inside : Bracket → List Token → Option (List Token)
inside b xs = closed b (front Closing xs) (back Closing xs)
