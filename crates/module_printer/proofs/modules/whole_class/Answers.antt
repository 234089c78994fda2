use Rattle.module_printer.proofs.Parts.{class_ok}
use Rattle.module_printer.proofs.modules.whole_class.Goals as goal

pub returns : goal.returns
returns c = class_ok c.members.result c.args.x.now c.as_slice.result.now c.args.page.now c.class_line.new.page c.members.new.page c.in_ok-class_line.ensures c.as_slice.ensures c.members.ensures
