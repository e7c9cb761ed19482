use Rattle.std.proofs.Common.{◌≡◌, [], refl}
use Rattle.std.proofs.lemmas.Result.{IfOk-from_err}
use Rattle.host_text.proofs.Putting.{adds_sent, puts_exit, stops_sent}
use Rattle.host_text.proofs.held.Held.send.Goals as goal

pub returns-in_err-put_all : goal.returns-in_err-put_all
returns-in_err-put_all g c = record {
  text = puts_exit _ _ c.from_residual.ensures.0 (stops_sent (rw c.as_slice.ensures at c.in_err-put_all.ensures));
  empty = IfOk-from_err c.from_residual.result (λ _. c.args.self.now ≡ []) c.from_residual.ensures.0;
}

pub returns : goal.returns
returns g c = record {
  text = adds_sent (rw c.as_slice.ensures at c.in_ok-put_all.ensures);
  empty = refl;
}
