use Rattle.std.proofs.Common.{◌∙◌, refl, sym, ap, ◌∷◌, []}
use Rattle.py_language.specs.declared.shape.Atom.TheVariants as a
use Rattle.py_language.specs.declared.shape.Symbol.TheVariants as s
use Rattle.py_language.specs.declared.token.Keyword.TheVariants as keyword
use Rattle.py_language.specs.declared.token.Token.TheVariants as t
use Rattle.py_printer.specs.Expressions.{bare_of}
use Rattle.py_printer.proofs.Forms.{atom_ok}
use Rattle.py_printer.proofs.Parts.{bare-NoneLit, bare-BoolLit, bare-IntLit, bare-StrLit, bare-Name}
use Rattle.py_printer.proofs.expressions.atom.Goals as goal

pub returns-in-NoneLit : goal.returns-in-NoneLit
returns-in-NoneLit c = atom_ok c.keyword.result c.args.pen.now c.keyword.new.self (t.Keyword keyword.NoneLit) (s.Atom a.NoneLit) _ refl c.keyword.ensures (ap bare_of c.in-NoneLit.is ∙ bare-NoneLit)

pub returns-in-BoolLit : goal.returns-in-BoolLit
returns-in-BoolLit c = atom_ok c.keyword-in-BoolLit.result c.args.pen.now c.keyword-in-BoolLit.new.self _ (s.Atom (a.BoolLit c.in-BoolLit.value)) _ (ap (λ y. y ∷ []) (sym c.truth.ensures)) c.keyword-in-BoolLit.ensures (ap bare_of c.in-BoolLit.is ∙ bare-BoolLit c.in-BoolLit.value)

pub returns-in-IntLit : goal.returns-in-IntLit
returns-in-IntLit c = atom_ok c.integer.result c.args.pen.now c.integer.new.self (t.Int c.in-IntLit.number) (s.Atom (a.IntLit c.in-IntLit.number)) _ refl c.integer.ensures (ap bare_of c.in-IntLit.is ∙ bare-IntLit c.in-IntLit.number)

pub returns-in-StrLit : goal.returns-in-StrLit
returns-in-StrLit c = atom_ok c.string.result c.args.pen.now c.string.new.self (t.Str c.in-StrLit.text) (s.Atom (a.StrLit c.in-StrLit.text)) _ refl c.string.ensures (ap bare_of c.in-StrLit.is ∙ bare-StrLit c.in-StrLit.text)

pub returns-in-Name : goal.returns-in-Name
returns-in-Name c = atom_ok c.name.result c.args.pen.now c.name.new.self (t.Name c.in-Name.name) (s.Atom (a.Name c.in-Name.name)) _ refl c.name.ensures (ap bare_of c.in-Name.is ∙ bare-Name c.in-Name.name)
