use Rattle.py_grammar.specs.Compounds.{statements}
use Rattle.py_parser.specs.Lines.{member_of}
use Rattle.py_parser.proofs.Steps.{no_arm}
use Rattle.py_parser.proofs.blocks.Reader.arm.Goals as goal

pub returns-in-Compound : goal.returns-in-Compound
returns-in-Compound g c =
    no_arm c.args.self.now.scope.place c.args.self.now.scope.room (statements c.args.self.now.scope.room) c.args.end (member_of c.args.member) _ c.args.form c.in-Compound.header c.in-Compound.small
    c.in-Compound.is c.in_default-header.not-Elif c.in_default-header.not-Else c.refusal.result c.refusal.ensures
