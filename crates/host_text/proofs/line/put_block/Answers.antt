use Rattle.std.proofs.Common.{List, ℕ, sym, subst}
use Rattle.host_text.specs.{hex_byte, PutsHeldText}
use Rattle.host_text.proofs.PrintedLemmas.{block_word_same}
use Rattle.host_text.proofs.Putting.{puts_exit, stops_longer}
use Rattle.host_text.proofs.line.put_block.Goals as goal

pub returns-in_err-put : goal.returns-in_err-put
returns-in_err-put g c =
    subst (λ (l : List ℕ). PutsHeldText g.K.Sink.tells g.K.Sink.faults g.K.Sink.appended c.args.out.now c.args.held.now c.put.new.out c.put.new.self l c.from_residual.result)
    (sym (block_word_same c.args.bytes.now _ _ c.first_byte-first.ensures c.are_all.ensures c.if-are_all.true))
    (puts_exit _ _ c.from_residual.ensures.0 (stops_longer (hex_byte c.first_byte-first.result) c.in_err-put.ensures))
