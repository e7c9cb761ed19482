use Rattle.host_text.proofs.Putting.{adds_more, puts_after, puts_exit, stops_later, stops_longer}
use Rattle.host_list.proofs.list.write_head.Goals as goal

pub returns-in_err-write_image : goal.returns-in_err-write_image
returns-in_err-write_image g c = puts_exit _ _ c.from_residual.ensures.0 (stops_longer _ (stops_longer _ c.in_err-write_image.ensures))

pub returns-in_err-write_which : goal.returns-in_err-write_which
returns-in_err-write_which g c =
    puts_exit _ _ c.from_residual-in_err-write_which.ensures.0 (stops_longer _ (stops_later c.in_ok-write_image.ensures c.in_err-write_which.ensures))

pub returns : goal.returns
returns g c = puts_after _ _ _ _ (adds_more c.in_ok-write_image.ensures c.in_ok-write_which.ensures) c.write_disk.ensures
