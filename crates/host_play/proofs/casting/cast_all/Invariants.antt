use Rattle.std.proofs.Common.{◌+◌, ◌≤◌, length, vec_capacity, vec_len}
use Rattle.host_play.proofs.CastSoFar.{IsCastSoFar}
use Rattle.host_play.proofs.casting.cast_all.Given as goal

abbrev pub invariant-loop-hand : goal.invariant-loop-hand
invariant-loop-hand g l = record {
  so_far : IsCastSoFar l.fn.hands.items l.fn.clients.items l.fn.pieces.items l.hands.items l.clients.items l.pieces.items l.actors.items;
  room : length l.actors.items + length l.hands.items ≤ vec_capacity l.actors;
}

abbrev pub decreases-loop-hand : goal.decreases-loop-hand
decreases-loop-hand g l = vec_len l.hands
