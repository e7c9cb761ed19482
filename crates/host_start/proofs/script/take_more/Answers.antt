use Rattle.std.proofs.Common.{◌<◌, length, arith}
use Rattle.host_start.proofs.ReadLemmas.{piece_taken}
use Rattle.host_start.proofs.script.take_more.Goals as goal

pub returns-clause-more : goal.returns-clause-more
returns-clause-more g c = λ told.
    let auto = c.take.auto.into in
    let some : 0 < length c.take.new.into = omega (arith, auto) in
    piece_taken _ _ c.take.new.into c.args.text.now.items _ c.in_ok-taken.taken (c.in_ok-taken.ensures.bytes.bytes told) (omega (arith, c.in_ok-taken.ensures.bound, auto)) c.in_ok-extend_from_slice.ensures.items
    (λ none. c.in_ok-taken.ensures.bytes.end told none some)
