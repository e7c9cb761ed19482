use Rattle.std.proofs.Common.{◌≡◌, length}
use Rattle.host_frames.specs.{pages_pool, contents}
use Rattle.state_client.proofs.frames.buffer.Buffer.fill.Given as goal

abbrev pub invariant-loop-i : goal.invariant-loop-i
invariant-loop-i l = (pages_pool l.self.pages ≡ pages_pool l.fn.self.pages) × (length (contents l.self.pages) ≡ length (contents l.fn.self.pages))
