use Rattle.host_text.proofs.Putting.{puts_after, puts_exit, stops_longer}
use Rattle.host_report.proofs.text.session.write_taken.Goals as goal

pub returns-in_err-write_rows : goal.returns-in_err-write_rows
returns-in_err-write_rows g c = puts_exit _ _ c.from_residual.ensures.0 (stops_longer _ (rw c.as_slice.ensures at c.in_err-write_rows.ensures))

pub returns : goal.returns
returns g c = puts_after _ _ _ _ (rw c.as_slice.ensures at c.in_ok-write_rows.ensures) (rw c.as_slice-2.ensures at c.write_entries.ensures)
