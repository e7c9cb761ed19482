use Rattle.std.proofs.Common.{◌≡◌, flat_map}
use Rattle.std.specs.List.{range_with_len}
use Rattle.host_model.specs.{page_at}
use Rattle.buffer_check.proofs.pages.pages_from.Given as goal

abbrev pub invariant-loop-k : goal.invariant-loop-k
invariant-loop-k l = l.bytes.items ≡ flat_map (λ n. page_at l.size l.history l.v n) (range_with_len l.block l.k)
