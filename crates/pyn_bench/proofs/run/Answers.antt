use Rattle.std.proofs.Common.{◌∙◌, ap, chars, encode_utf8_all}
use Rattle.pyn_bench.specs.Reports.{report}
use Rattle.pyn_bench.proofs.ReportLemmas.{says_report}
use Rattle.pyn_bench.proofs.run.Goals as goal

pub returns : goal.returns
returns g c = says_report c.args.reading c.say.result (g.D.Desk.state c.args.desk.now).files (g.D.Desk.state c.args.desk.now).said (g.D.Desk.state c.read.new.self).said (g.D.Desk.state c.say.new.self).said (chars c.args.name.now) c.in_ok-bytes.bytes c.as_bytes.result.now
    c.read.ensures.said c.in_ok-bytes.ensures.exact
    (c.as_bytes.ensures.value ∙ (c.as_str.ensures.bytes ∙ ap encode_utf8_all (c.in_ok-text.ensures ∙ ap (report c.args.reading) c.as_slice.ensures)))
    c.say.ensures.whole
