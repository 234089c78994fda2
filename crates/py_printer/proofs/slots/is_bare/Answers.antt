use Rattle.std.proofs.Common.{◌∙◌, ◌&&◌, ap₂, sym}
use Rattle.std.specs.Prelude.{nat_le}
use Rattle.py_printer.proofs.Looks.{bare_is}
use Rattle.py_printer.proofs.slots.is_bare.Goals as goal

pub returns : goal.returns
returns c =
    ap₂ (λ v w. v && w) (ap₂ nat_le c.slot_number.ensures c.own.ensures) c.is_allowed.ensures ∙ sym (bare_is c.args.slot c.args.kind.now)
