use Rattle.std.proofs.Common.{◌≡◌, ℕ, ◌<◌, ◌*◌, drop, length}
use Rattle.std.specs.Prelude.{slice_index_or}
use Rattle.host_block.specs.{block_at, picked}
use Rattle.host_io.specs.{cut, pairs_of}
use Rattle.host_io.proofs.mem_disk.MemDisk.crash.Given as goal

abbrev pub invariant-loop-b : goal.invariant-loop-b
invariant-loop-b l = record {
  long : length l.bytes.items ≡ length l.self.bytes.items;
  rest : drop (l.self.blocks * l.self.size) l.bytes.items ≡ drop (l.self.blocks * l.self.size) l.self.bytes.items;
  done : (k : ℕ) → k < l.b → block_at (cut l.self.size l.self.blocks l.bytes.items) k
      ≡ picked (pairs_of l.self.waiting.items) k (slice_index_or l.picks k 0) (block_at (cut l.self.size l.self.blocks l.self.bytes.items) k);
}
