use Rattle.std.proofs.Common.{arith}
use Rattle.host_text.specs.{after_space}
use Rattle.host_text.proofs.Putting.{adds_at, puts_exit, stops_at}
use Rattle.host_text.proofs.line.put_rest.Goals as goal

pub returns-in_err-put_next : goal.returns-in_err-put_next
returns-in_err-put_next g c =
    puts_exit _ _ c.from_residual.ensures.0
    (stops_at after_space c.args.words.now c.loop-word.word-index c.word-item.result c.word-item.result (omega arith) c.word-item.is c.loop-word.invariant c.in_err-put_next.ensures)

pub loop-word-preserved : goal.loop-word-preserved
loop-word-preserved g c =
    adds_at after_space c.args.words.now c.loop-word.word-index c.word-item.result c.word-item.result (omega arith) c.word-item.is c.loop-word.invariant c.in_ok-put_next.ensures
