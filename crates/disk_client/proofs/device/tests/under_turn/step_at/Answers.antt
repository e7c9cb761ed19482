use Rattle.std.proofs.Common.{sym, ◌∙◌}
use Rattle.disk_client.proofs.device.tests.under_turn.step_at.Goals as goal

pub make_step-done-requires-clause-block : goal.make_step-done-requires-clause-block
make_step-done-requires-clause-block g c = let e = c.enter-device.ensures in c.requires.block _ (sym e.seat.0.3 ∙ e.fixed_part)

pub make_step-done-requires-clause-piece : goal.make_step-done-requires-clause-piece
make_step-done-requires-clause-piece g c = let e = c.enter-device.ensures in c.requires.piece _ (sym e.seat.0.3 ∙ e.fixed_part)
