use Rattle.std.proofs.Common.{ℕ, length, sym, subst}
use Rattle.host_device.specs.{IsOnDisk, IsPiece}
use Rattle.disk_client.proofs.device.tests.hand.Hand.step.Goals as goal

pub step_at-requires-clause-block : goal.step_at-requires-clause-block
step_at-requires-clause-block g c = λ fixed is. subst (λ (n : ℕ). IsOnDisk c.args.op c.args.b n) (sym (c.args.self.now.blocks fixed is)) c.requires.block

pub step_at-requires-clause-piece : goal.step_at-requires-clause-piece
step_at-requires-clause-piece g c = λ fixed is. subst (λ (n : ℕ). IsPiece c.args.op (length c.args.bytes.now) n) (sym (c.args.self.now.size fixed is)) c.requires.piece
