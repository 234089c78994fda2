use Rattle.std.proofs.Common.{◌∙◌, ap, sym, refl}
use Rattle.std.specs.Prelude.{bytes_eq}
use Rattle.py_syntax.specs.declared.expr.ExprKind.TheVariants.{outs-Name}
use Rattle.py_printing.specs.SymbolTokens.{super_name}
use Rattle.py_printer.specs.Expressions.{is_super_name, super_name_node}
use Rattle.py_printer.proofs.Ascii.{chars_of_ascii}
use Rattle.py_printer.proofs.slots.is_super_name.Goals as goal

pub returns-in-Name : goal.returns-in-Name
returns-in-Name c = c.is.ensures ∙ ap (bytes_eq c.in-Name.name) (chars_of_ascii super_name refl) ∙ sym (ap is_super_name c.in-Name.is ∙ ap super_name_node (outs-Name c.in-Name.name))
