use Rattle.std.proofs.Common.{arith}
use Rattle.py_module_rules.proofs.Chains.{chain_begins, chain_goes_on}
use Rattle.py_module_rules.proofs.classes.has_long_chain.Goals as goal

pub loop-class-init : goal.loop-class-init
loop-class-init c = record {
  above = chain_begins c.args.tables.now c.classes-left.result.now c.args.number c.base_of-class.result c.classes-left.ensures c.base_of-class.ensures c.if-left-eq0.false;
  few = omega arith;
}

pub loop-class-preserved : goal.loop-class-preserved
loop-class-preserved c = record {
  above = chain_goes_on c.args.tables.now c.loop-class.left c.in-Own.field-0 c.loop-class.count _ c.loop-class.class c.base-class.result c.in-Own.is c.base-class.ensures c.if-left-eq0-2.false c.loop-class.invariant.above;
  few = omega arith;
}
