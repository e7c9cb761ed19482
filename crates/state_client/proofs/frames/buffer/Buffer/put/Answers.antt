use Rattle.std.proofs.Common.{◌∙◌, ℕ, List, length, map, set, ap, arith}
use Rattle.host_frames.proofs.LentPages.{contents_length, contents_written}
use Rattle.state_client.proofs.frames.buffer.Buffer.put.Goals as goal

pub invariant_of-self : goal.invariant_of-self
invariant_of-self c = let same = contents_length c.args.self.now.pages.1.1 c.args.i c.copy_from_slice.new.self in let some = c.args.self.now.some in record { some = (omega arith) }

pub returns-clause-written : goal.returns-clause-written
returns-clause-written c = let is = c.copy_from_slice.ensures.after in contents_written c.args.self.now.pages.1.1 c.args.i c.copy_from_slice.new.self (ap length is ∙ c.requires.long) ∙ ap (λ w. set (map (λ (q : ℕ × List ℕ). q.1) c.args.self.now.pages.1.1) c.args.i w) is
