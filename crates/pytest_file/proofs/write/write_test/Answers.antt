use Rattle.pyn_base.proofs.Appends.{appended_five}
use Rattle.pytest_file.proofs.write.write_test.Goals as goal

pub returns : goal.returns
returns c =
    appended_five _ _ _ _ _ _ _ _ _ _ _ c.in_ok-push_ascii.ensures.ok c.in_ok-push_number.ensures.ok c.in_ok-push_ascii-2.ensures.ok
    c.in_ok-push_name.ensures.ok c.in_ok-push_ascii-3.ensures.ok
