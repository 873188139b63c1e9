use Rattle.rm_script.proofs.OneLine.{line_taken}
use Rattle.rm_script.proofs.drafts.Draft.with_text.Goals as goal

pub returns : goal.returns
returns c = line_taken c.with_line.result c.args.self c.in_ok-line.line c.args.text.now c.in_ok-line.ensures c.with_line.ensures
