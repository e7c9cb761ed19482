use Rattle.host_text.specs.{printed}
use Rattle.host_text.proofs.Putting.{puts_after, puts_exit, stops_longer}
use Rattle.host_text.proofs.line.put_next.Goals as goal

pub returns-in_err-put : goal.returns-in_err-put
returns-in_err-put g c = puts_exit _ _ c.from_residual.ensures.0 (stops_longer (printed c.args.word.now) c.in_err-put.ensures)

pub returns : goal.returns
returns g c = puts_after _ _ _ _ c.in_ok-put.ensures c.put_word.ensures
