use Rattle.host_text.proofs.Putting.{adds_more, puts_after, puts_exit, stops_later, stops_longer}
use Rattle.host_list.proofs.list.write_text.Goals as goal

pub returns-in_err-write_head : goal.returns-in_err-write_head
returns-in_err-write_head g c = puts_exit _ _ c.from_residual.ensures.0 (stops_longer _ (stops_longer _ c.in_err-write_head.ensures))

pub returns-in_err-write_entries : goal.returns-in_err-write_entries
returns-in_err-write_entries g c =
    puts_exit _ _ c.from_residual-in_err-write_entries.ensures.0
    (stops_longer _ (stops_later c.in_ok-write_head.ensures (rw (c.as_slice.ensures, c.requires.parts) at c.in_err-write_entries.ensures)))

pub returns : goal.returns
returns g c = puts_after _ _ _ _ (adds_more c.in_ok-write_head.ensures (rw (c.as_slice.ensures, c.requires.parts) at c.in_ok-write_entries.ensures)) c.put_line.ensures
