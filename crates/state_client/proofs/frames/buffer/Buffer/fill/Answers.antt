use Rattle.std.proofs.Common.{◌∙◌, arith}
use Rattle.host_frames.proofs.LentPages.{contents_length}
use Rattle.state_client.proofs.frames.buffer.Buffer.fill.Goals as goal

pub invariant_of-self : goal.invariant_of-self
invariant_of-self c = let same = contents_length c.loop-i.self.pages.1.1 c.loop-i.i c.fill.new.self in let some = c.loop-i.self.some in record { some = (omega arith) }

pub loop-i-preserved : goal.loop-i-preserved
loop-i-preserved c = let inv = c.loop-i.invariant in (inv.0, contents_length c.loop-i.self.pages.1.1 c.loop-i.i c.fill.new.self ∙ inv.1)
