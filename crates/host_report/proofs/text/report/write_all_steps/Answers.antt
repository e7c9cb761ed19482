use Rattle.host_text.proofs.Putting.{puts_exit, stops_longer}
use Rattle.host_report.proofs.text.report.write_all_steps.Goals as goal

pub returns-in_err-write_count : goal.returns-in_err-write_count
returns-in_err-write_count g c = puts_exit _ _ c.from_residual.ensures.0 (stops_longer _ (rw c.len.ensures at c.in_err-write_count.ensures))
