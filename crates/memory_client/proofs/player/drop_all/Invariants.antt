use Rattle.std.proofs.Common.{◌≡◌}
use Rattle.host_frames.specs.{seat_pool}
use Rattle.memory_client.proofs.player.drop_all.Given as goal

abbrev pub invariant-loop-dropped : goal.invariant-loop-dropped
invariant-loop-dropped l = record {
  plan : l.memory.plan ≡ l.fn.memory.plan;
  seat : seat_pool l.seat ≡ seat_pool l.fn.seat;
}
