use Rattle.pyn_base.proofs.Appends.{appended_three}
use Rattle.pytest_file.proofs.write.write_imports.Goals as goal

pub returns : goal.returns
returns c = appended_three _ _ _ _ _ _ _ c.in_ok-push_ascii.ensures.ok c.in_ok-push_str.ensures.ok c.in_ok-push_ascii-2.ensures.ok
