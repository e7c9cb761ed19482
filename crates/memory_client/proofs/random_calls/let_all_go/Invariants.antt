use Rattle.std.proofs.Common.{◌≡◌}
use Rattle.host_frames.specs.{seat_pool}
use Rattle.memory_client.proofs.random_calls.let_all_go.Given as goal

abbrev pub invariant-loop : goal.invariant-loop
invariant-loop l = record {
  plan : l.game.player.memory.plan ≡ l.fn.game.player.memory.plan;
  seat : seat_pool l.seat ≡ seat_pool l.fn.seat;
}
