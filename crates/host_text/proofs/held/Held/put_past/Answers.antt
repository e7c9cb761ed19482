use Rattle.host_text.proofs.Putting.{adds_then_held, puts_exit, puts_past, stops_longer}
use Rattle.host_text.proofs.held.Held.put_past.Goals as goal

pub returns-in_err-send : goal.returns-in_err-send
returns-in_err-send g c = puts_exit _ _ c.from_residual.ensures.0 (stops_longer c.args.piece.now c.in_err-send.ensures.text)

pub returns-then-fits : goal.returns-then-fits
returns-then-fits g c = rw c.push.ensures (adds_then_held c.args.piece.now c.in_ok-send.ensures.text)

pub returns-else-fits : goal.returns-else-fits
returns-else-fits g c = puts_past _ _ _ c.in_ok-send.ensures.text c.in_ok-send.ensures.empty c.put_all.ensures
