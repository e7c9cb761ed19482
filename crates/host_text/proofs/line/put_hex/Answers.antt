use Rattle.std.proofs.Common.{get_or, refl, arith}
use Rattle.host_text.specs.{hex_byte}
use Rattle.host_text.proofs.Putting.{adds_at, puts_exit, stops_at}
use Rattle.host_text.proofs.line.put_hex.Goals as goal

pub returns-in_err-put_byte : goal.returns-in_err-put_byte
returns-in_err-put_byte g c =
    let bytes = c.args.bytes.now in
    let i = c.loop-byte.byte-index in
    puts_exit _ _ c.from_residual.ensures.0 (stops_at hex_byte bytes i (get_or bytes i 0) 0 (omega arith) refl c.loop-byte.invariant c.in_err-put_byte.ensures)

pub loop-byte-preserved : goal.loop-byte-preserved
loop-byte-preserved g c =
    let bytes = c.args.bytes.now in
    let i = c.loop-byte.byte-index in
    adds_at hex_byte bytes i (get_or bytes i 0) 0 (omega arith) refl c.loop-byte.invariant c.in_ok-put_byte.ensures
