use Rattle.std.proofs.Common.{◌≡◌, ◌≤◌, ◌∙◌, refl, sym, ap, ◌+◌, ◌-◌, length, arith}
use Rattle.std.specs.List.{range_with_len}
use Rattle.py_sites.specs.Nodes.{sites}
use Rattle.py_sites.specs.Refs.{seen}
use Rattle.py_sites.proofs.Orders.{one_number, last_is}
use Rattle.py_sites.proofs.find.sites_in.Goals as goal

pub loop-next-preserved : goal.loop-next-preserved
loop-next-preserved c =
    let first = c.args.func.now.node.0 in
    let next = c.loop-next.next in
    let le = c.loop-next.invariant.0 in (
      omega arith,
      λ h. omega arith,
      one_number first next (next + 1) c.loop-next.ids c.push.new.self le refl c.loop-next.invariant.2 c.in_ok-push.ensures.ok,
    )

pub returns : goal.returns
returns c = λ consecutive.
    let f = c.args.func.now in
    let first = f.node.0 in
    let is = last_is f (seen c.last_below.result) c.number_of-last.result consecutive c.last_below.ensures c.number_of-last.ensures in
    let below : c.loop-next.next ≤ c.number_of-last.result = c.loop-next.invariant.1 (omega (arith, is)) in
    let count : c.loop-next.next - first ≡ length (sites f) = omega (arith, is, below) in
    c.loop-next.invariant.2 ∙ ap (range_with_len (first + 1)) count ∙ sym consecutive
