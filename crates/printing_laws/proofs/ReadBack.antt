-- Expressions and modules that were read are read back from their texts.
use Rattle.std.proofs.Common.{◌≡◌, ◌∙◌, sym, ap, refl, subst, ℕ, ◌+◌, true, List, [], ◌∷◌, ◌++◌, append-nil, map, encode_utf8_all}
use lib.Utf8.{encode}
use Rattle.std.proofs.lemmas.Str.{encodes-append}
use Rattle.std.specs.Prelude.{Err, None, Ok, Result}
use Rattle.std.specs.List.{list_all}
use Rattle.py_language.specs.Tokens.{tokens_of}
use Rattle.py_language.specs.declared.token.Logical.{Logical}
use Rattle.py_language.specs.declared.token.Token.{Token}
use Rattle.py_language.specs.declared.token.Tokens.{Tokens}
use Rattle.py_syntax.specs.declared.module.Module.{Module}
use Rattle.py_syntax.specs.declared.refusal.Refusal.{Refusal}
use Rattle.py_grammar.specs.Blocks.{◌>>=◌}
use Rattle.py_grammar.specs.Forms.{form_of}
use Rattle.py_grammar.specs.Modules.{fault_in, read_lines, unnumbered}
use Rattle.py_nodes.specs.Numbers.{numbered}
use Rattle.py_spelling.specs.Spelling.{AllTokensAreSound, has_sound_tokens, is_balanced}
use Rattle.py_printing.specs.Expressions.{expr_tokens, SoundTreesAreSound, TreesAreBalanced, TreesReadBack}
use Rattle.py_layout.specs.Blocks.{shown}
use Rattle.py_layout.specs.Modules.{ModulesReadBack, erased_module, module_rows}
use Rattle.py_layout.specs.Small.{ReadsBack}
use Rattle.py_layout.specs.Starts.{ExpressionsBegin}
use Rattle.py_layout.proofs.Good.{all_of, and_both, good_of}
use Rattle.py_printer.specs.Lines.{Line, LinesReadBack, has_tokens, is_line, lines_text, logicals}
use Rattle.py_printer.specs.Style.{text_of}
use Rattle.py_annotation_layout.specs.Annotations.{annotation_tokens}
use Rattle.py_annotation_layout.specs.Laws.{AnnotationsAreSound}
use Rattle.module_printer.specs.Modules.{LinesAreRows, module_lines, module_text, row_of}
use Rattle.printing_laws.specs.ReadBack.{HasFewBrackets, NumbersChangeNothing, PrintedExpressionsReadBack, PrintedModulesReadBack}
use Rattle.printing_laws.proofs.Forms.{FormGood, form_of_good}
use Rattle.printing_laws.proofs.Groups.{GoodLine, GoodLines}
use Rattle.printing_laws.proofs.Holds.{Maybe, holds_of}
use Rattle.printing_laws.proofs.ModuleRows.{ModuleGood, module_good}
use Rattle.printing_laws.proofs.NumberedModules.{lines_kept, module_kept}
use Rattle.printing_laws.proofs.SmallRows.{GoodRows}

-- ---- the lines of a text, and the lines of the module

lines_of_text : (ls : List Logical) → list_all has_sound_tokens ls ≡ true → GoodLines ls
lines_of_text [] e = tt
lines_of_text (l ∷ ls) e = let two = and_both (has_sound_tokens l) (list_all has_sound_tokens ls) e in (good_of l.tokens two.0, lines_of_text ls two.1)

-- lines whose rows a text can hold, and that open few brackets
are_lines : (ls : List Line) → GoodRows (map row_of ls) → list_all (λ (l : Line). is_balanced [] l.tokens) ls ≡ true → list_all is_line ls ≡ true
are_lines [] k e = refl
are_lines (l ∷ ls) k e =
    let two = and_both (is_balanced [] l.tokens) (list_all (λ (l : Line). is_balanced [] l.tokens) ls) e in
    rw (k.0.0, all_of l.tokens k.0.1, two.0, are_lines ls k.1 two.1) refl

shown_lines : (number : ℕ) (ls : List Line) → map shown (logicals number ls) ≡ map row_of ls
shown_lines number [] = refl
shown_lines number (l ∷ ls) = ap (λ z. row_of l ∷ z) (shown_lines (number + l.blanks + 1) ls)

ok_bind : {A B : Type 0} (r : Result A Refusal) (next : A → Result B Refusal) (b : B) → (r >>= next) ≡ Ok b → (a : A) × ((r ≡ Ok a) × (next a ≡ Ok b))
ok_bind (Err why) next b e = absurd (cc)
ok_bind (Ok a) next b e = (a, (refl, e))

ok_is : {A : Type 0} (a b : A) → (let r : Result A Refusal = Ok a in r) ≡ Ok b → a ≡ b
ok_is a b e = cc

-- ---- modules

module _ (sounds : AllTokensAreSound) (sound_trees : SoundTreesAreSound) (begins : ExpressionsBegin) (annotations : AnnotationsAreSound) (reads : ReadsBack annotation_tokens)
    (lines_back : LinesReadBack) (modules_back : ModulesReadBack) (rows : LinesAreRows) where
  form_good : (l : Logical) → GoodLine l → Maybe FormGood (form_of l)
  unfolding form_of
  form_good l k = form_of_good sound_trees begins annotations l.line l refl k

  -- before its nodes are numbered
  unnumbered_back : (text : List ℕ) (m : Module) → unnumbered text ≡ Ok m → HasFewBrackets m → (made : Module) × ((unnumbered (encode_utf8_all (module_text m)) ≡ Ok made) × (erased_module made ≡ erased_module m))
  unfolding unnumbered
  unnumbered_back text m e few =
      let end = fault_in (tokens_of text).fault in
      let lines = (tokens_of text).lines in
      let good : GoodRows (module_rows annotation_tokens m) = holds_of (ModuleGood form_good) (read_lines end lines) m (module_good form_good end lines (lines_of_text lines (sounds text))) e in
      let fine : list_all is_line (module_lines m) ≡ true = are_lines (module_lines m) (subst GoodRows (sym (rows m)) good) few in
      let back : tokens_of (encode_utf8_all (module_text m)) ≡ record { lines = logicals 1 (module_lines m); fault = None } = lines_back (module_lines m) fine in
      let own = logicals 1 (module_lines m) in
      let made = modules_back annotation_tokens reads end lines m e own (shown_lines 1 (module_lines m) ∙ rows m) in
      (made.0, (ap (λ (ts : Tokens). read_lines (fault_in ts.fault) ts.lines) back ∙ made.1.0, made.1.1))

  pub printed_modules_read_back : PrintedModulesReadBack
  printed_modules_read_back text m e few =
      let read = ok_bind (unnumbered text) (λ read. Ok (numbered read)) m e in
      let is : numbered read.0 ≡ m = ok_is (numbered read.0) m read.1.1 in
      let lines : module_lines m ≡ module_lines read.0 = ap module_lines (sym is) ∙ lines_kept read.0 in
      let made = unnumbered_back text read.0 read.1.0 (ap (list_all (λ (l : Line). is_balanced [] l.tokens)) (sym lines) ∙ few) in
      let again : unnumbered (encode_utf8_all (module_text m)) ≡ Ok made.0 = ap (λ ls. unnumbered (encode_utf8_all (lines_text ls))) lines ∙ made.1.0 in (
        numbered made.0,
        (
          ap (λ r. r >>= λ read. Ok (numbered read)) again,
          module_kept made.0 ∙ made.1.1 ∙ sym (module_kept read.0) ∙ ap erased_module is,
        ),
      )

pub numbers_change_nothing : NumbersChangeNothing
numbers_change_nothing m = record { lines = lines_kept m; same = module_kept m }

-- ---- expressions

line_of : List Token → Line
line_of ts = record { blanks = 0; column = 0; tokens = ts }

line_end : encode_utf8_all (10 ∷ []) ≡ 10 ∷ []
unfolding encode
line_end = refl

pub printed_expressions_read_back : LinesReadBack → TreesReadBack → TreesAreBalanced → ExpressionsBegin → PrintedExpressionsReadBack
unfolding line_of
printed_expressions_read_back lines trees balanced begins l ts x e sound =
    let own = expr_tokens l x in
    let b = begins l ts x e in
    let some : has_tokens own ≡ true = subst (λ z. has_tokens z ≡ true) (sym b.whole) refl in
    let closed : is_balanced [] own ≡ true = ap (is_balanced []) (sym (append-nil own)) ∙ balanced l ts x [] e sound in
    let fine : list_all is_line (line_of own ∷ []) ≡ true = rw (some, sound, closed) refl in
    let bytes : encode_utf8_all (text_of own) ++ 10 ∷ [] ≡ encode_utf8_all (lines_text (line_of own ∷ [])) =
    sym (ap encode_utf8_all (append-nil (text_of own ++ 10 ∷ [])) ∙ encodes-append (text_of own) (10 ∷ []) ∙ ap (λ z. encode_utf8_all (text_of own) ++ z) line_end) in
    (ap tokens_of bytes ∙ lines (line_of own ∷ []) fine, trees l ts x e)
