use Rattle.std.proofs.Common.{◌≡◌, ◌*◌, take, flat_map}
use Rattle.std.specs.List.{range_with_len}
use Rattle.host_memory.specs.{page_held}
use Rattle.host_memory.proofs.buffer.Buffer.show.Given as goal

abbrev pub invariant-loop-i : goal.invariant-loop-i
invariant-loop-i l = take (l.i * l.size) l.into ≡ flat_map (page_held l.self.pages) (range_with_len l.block l.i)
