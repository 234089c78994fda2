-- Every module that reading gives has plain lines.
use Rattle.std.proofs.Common.{List, [], refl, true, ℕ, ◌+◌, ◌∷◌, ◌≡◌}
use Rattle.std.proofs.lemmas.Bool.{and_from}
use Rattle.std.specs.List.{AllByRecursion}
use Rattle.std.specs.Prelude.{Ok}
use Rattle.py_language.specs.Tokens.{tokens_of}
use Rattle.py_language.specs.TokensCharacters.{lines_of}
use Rattle.py_language.specs.TokensLaws.{InOrder}
use Rattle.py_language.specs.TokensLines.{line_feeds}
use Rattle.py_syntax.specs.declared.module.Item.{Item}
use Rattle.py_syntax.specs.declared.module.Item.TheVariants as item
use Rattle.py_syntax.specs.declared.module.Member.{Member}
use Rattle.py_syntax.specs.declared.module.Member.TheVariants as member
use Rattle.py_grammar.specs.Blocks.{◌>>=◌}
use Rattle.py_grammar.specs.Modules.{unnumbered}
use Rattle.py_nodes.specs.Numbers.{numbered}
use Rattle.py_plain.specs.Program.{Function, functions_from, methods_in}
use Rattle.line_laws.proofs.Holds.{given, holds_bind, holds_of}
use Rattle.line_laws.proofs.Lists.{all_join}
use Rattle.line_laws.proofs.Modules.{ModuleLaid, unnumbered_laid}
use Rattle.line_laws.proofs.Numbered.{module_numbered}
use Rattle.line_laws.proofs.Plain.{function_plain}
use Rattle.line_laws.specs.Laws.{LinesArePlain}
use Rattle.line_laws.specs.Layout.{ItemLaid, Laid, MemberLaid}
use Rattle.line_laws.specs.PlainLines.{plain_from}

abbrev FunctionLaid : Function → Type 0
FunctionLaid f = Laid f.tree

methods_laid : (number : ℕ) (members : List Member) → AllByRecursion MemberLaid members → AllByRecursion FunctionLaid (methods_in number members)
methods_laid number [] h = tt
methods_laid number (member.Func f ∷ members) h = (h.0, methods_laid number members h.1)
methods_laid number (member.Other s ∷ members) h = methods_laid number members h.1

functions_laid : (classes : ℕ) (items : List Item) → AllByRecursion ItemLaid items → AllByRecursion FunctionLaid (functions_from classes items)
functions_laid classes [] h = tt
functions_laid classes (item.Func f ∷ items) h = (h.0, functions_laid classes items h.1)
functions_laid classes (item.Class c ∷ items) h = all_join FunctionLaid (methods_in classes c.members) (functions_from (classes + 1) items) (methods_laid classes c.members h.0) (functions_laid (classes + 1) items h.1)
functions_laid classes (item.Import line names ∷ items) h = functions_laid classes items h.1
functions_laid classes (item.Other s ∷ items) h = functions_laid classes items h.1

functions_plain : (number : ℕ) (fs : List Function) → AllByRecursion FunctionLaid fs → plain_from number fs ≡ true
functions_plain number [] h = refl
functions_plain number (f ∷ fs) h = and_from _ (plain_from (number + 1) fs) (function_plain (record { 0 = number }) f.tree h.0) (functions_plain (number + 1) fs h.1)

-- that the logical lines of each text are in order is a law of tokens
pub lines_are_plain : ((text : List ℕ) → InOrder 1 (1 + line_feeds (lines_of text)) (tokens_of text).lines) → LinesArePlain
lines_are_plain in_order text m e =
    let read = holds_bind ModuleLaid (unnumbered text) (λ read. Ok (numbered read)) (unnumbered_laid text (in_order text)) (λ read h. given (module_numbered read h)) in
    let laid = holds_of ModuleLaid (unnumbered text >>= λ read. Ok (numbered read)) m read e in
    functions_plain 0 (functions_from 0 m.items) (functions_laid 0 m.items laid)
