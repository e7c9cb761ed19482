use Rattle.std.proofs.Common.{◌≡◌, ℕ, [], length, get_or}
use Rattle.host_frames.specs.{contents, pages_pool}
use Rattle.host_memory.proofs.Filling.{upto}
use Rattle.host_memory.proofs.buffer.fill_pages.Given as goal

abbrev pub invariant-loop-i : goal.invariant-loop-i
invariant-loop-i l = record {
  pool : pages_pool l.pages ≡ pages_pool l.fn.pages;
  long : length (contents l.pages) ≡ length (contents l.fn.pages);
  pages : (k : ℕ) → get_or (contents l.pages) k [] ≡ upto l.block l.i l.byte (contents l.fn.pages) k;
}
