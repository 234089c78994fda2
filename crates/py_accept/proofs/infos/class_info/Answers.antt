use Rattle.std.proofs.Common.{◌∙◌, refl}
use Rattle.py_accept.proofs.MethodIds.{ids_told}
use Rattle.py_accept.proofs.infos.class_info.Goals as goal

pub returns : goal.returns
returns c =
    let name = c.in_ok-to_owned.ensures ∙ c.name.ensures in
    let methods = c.in_ok-method_ids.ensures ∙ ids_told c.methods.result.now c.args.row.now.methods c.methods.ensures in
    let constants = c.in_ok-constants_of.ensures ∙ c.constants.ensures in
    rw (name, c.base.ensures, methods, constants) refl
