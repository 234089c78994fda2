use Rattle.std.proofs.Common.{◌∙◌, sym, ap, subst, arith, IsUtf8}
use Rattle.std.specs.Result.{result_ok}
use Rattle.std.proofs.lemmas.Fmt.{IsAscii-decimal, parse-decimal}
use Rattle.std.proofs.lemmas.Str.{IsUtf8-from_ascii}
use Rattle.suite_report.proofs.fields.parsed.Goals as goal

pub returns-in-Err-clause-found : goal.returns-in-Err-clause-found
returns-in-Err-clause-found c = λ n lt e. absurd (c.in-Err.ensures.cases.0 (subst IsUtf8 (sym e) (IsUtf8-from_ascii _ (IsAscii-decimal n (omega arith)))))

pub returns-in-Ok-clause-found : goal.returns-in-Ok-clause-found
returns-in-Ok-clause-found c = λ n lt e. c.ok.ensures.value ∙ ap result_ok (parse-decimal 32 n _ _ lt (omega arith) (c.in-Ok.ensures.cases.0 ∙ e) c.parse.ensures.value.0)
