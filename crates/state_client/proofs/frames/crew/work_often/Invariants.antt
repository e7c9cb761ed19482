use Rattle.std.proofs.Common.{◌≡◌}
use Rattle.host_frames.specs.{seat_pool, pool_id}
use Rattle.state_client.proofs.frames.crew.work_often.Given as goal

abbrev pub invariant-loop : goal.invariant-loop
invariant-loop l = seat_pool l.worker.seat ≡ pool_id l.pool
