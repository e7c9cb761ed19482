use Rattle.run_rows.proofs.Lines.{refusals_have_lines}
use Rattle.run_rows.proofs.rows.refusals_have_lines.Goals as goal

pub returns : goal.returns
returns c = refusals_have_lines
