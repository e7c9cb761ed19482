use Rattle.host_text.proofs.Putting.{puts_exit, stops_longer}
use Rattle.host_report.proofs.text.report.write_end.Goals as goal

pub returns-in_err-put_line : goal.returns-in_err-put_line
returns-in_err-put_line g c = puts_exit _ _ c.from_residual.ensures.0 (stops_longer _ (rw c.word_of_closing.ensures at c.in_err-put_line.ensures))
