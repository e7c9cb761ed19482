use Rattle.std.proofs.Common.{◌≡◌, ◌++◌, length}
use Rattle.host_io.specs.{image_of}
use Rattle.host_check.proofs.image_bytes.cut_blocks.Given as goal

abbrev pub invariant-loop-rest : goal.invariant-loop-rest
invariant-loop-rest l = l.list.items ++ image_of l.width l.rest ≡ image_of l.width l.bytes

abbrev pub decreases-loop-rest : goal.decreases-loop-rest
decreases-loop-rest l = length l.rest
