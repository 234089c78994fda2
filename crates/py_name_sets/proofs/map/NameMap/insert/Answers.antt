use Rattle.std.proofs.Common.{rules, ◌≡◌, true, false, chars, sym, subst, ap, ◌∙◌}
use Rattle.py_name_sets.specs.Agrees.{Agrees}
use Rattle.py_name_sets.proofs.Rows.{agrees_there, agrees_added, told_more}
use Rattle.py_name_sets.proofs.map.NameMap.insert.Goals as goal

pub invariant_of-self-in-Ok : goal.invariant_of-self-in-Ok
invariant_of-self-in-Ok g c =
    let key = c.as_str-key.result.now in
    let value = c.args.value in
    let was : c.contains_key-was_there.result ≡ false = search rules in
    let more = told_more (λ row. (row.0.now, row.1)) c.self.inside.rows.items c.push.new.self.items (c.args.name, value) (chars key) value c.in_ok-push.ensures.items (ap (λ name. (name, value)) (sym c.as_str-key.ensures.chars)) in
    subst (Agrees c.insert.new.self) (sym more)
    (agrees_added c.self.inside.first c.insert.new.self _ key value c.as_str-key.utf8 c.self.invariant (sym c.contains_key-was_there.ensures ∙ was) c.in-Ok.ensures.updates)

pub invariant_of-self-else-not-was_there : goal.invariant_of-self-else-not-was_there
invariant_of-self-else-not-was_there g c =
    let key = c.as_str-key.result.now in
    let value = c.args.value in
    let was : c.contains_key-was_there.result ≡ true = search rules in
    let more = told_more (λ row. (row.0.now, row.1)) c.self.inside.rows.items c.push.new.self.items (c.args.name, value) (chars key) value c.in_ok-push.ensures.items (ap (λ name. (name, value)) (sym c.as_str-key.ensures.chars)) in
    subst (Agrees c.self.inside.first) (sym more)
    (agrees_there c.self.inside.first _ key value c.as_str-key.utf8 c.self.invariant (sym c.contains_key-was_there.ensures ∙ was))
