use Rattle.std.proofs.Common.{flat_map}
use Rattle.host_text.specs.{after_space}
use Rattle.host_text.proofs.Putting.{puts_exit, stops_longer}
use Rattle.host_text.proofs.line.put_words.Goals as goal

pub returns-in_err-put_word-in-Some : goal.returns-in_err-put_word-in-Some
returns-in_err-put_word-in-Some g c =
    rw (c.in-Some.ensures.cases.0) (puts_exit _ _ c.from_residual.ensures.0 (stops_longer (flat_map after_space c.in-Some.rest.now) c.in_err-put_word-in-Some.ensures))
