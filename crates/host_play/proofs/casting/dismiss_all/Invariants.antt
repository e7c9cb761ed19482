use Rattle.std.proofs.Common.{◌+◌, ◌++◌, ◌≤◌, length, vec_capacity, vec_len}
use Rattle.host_play.specs.{clients_in, hands_in}
use Rattle.host_play.proofs.CastSoFar.{AreBackSoFar}
use Rattle.host_play.proofs.casting.dismiss_all.Given as goal

abbrev pub invariant-loop-actor : goal.invariant-loop-actor
invariant-loop-actor g l = record {
  so_far : AreBackSoFar (l.fn.hands.items ++ hands_in l.fn.actors.items) (l.fn.clients.items ++ clients_in l.fn.actors.items) l.hands.items l.clients.items l.actors.items;
  hands_fit : length l.hands.items + length l.actors.items ≤ vec_capacity l.hands;
  clients_fit : length l.clients.items + length (clients_in l.actors.items) ≤ vec_capacity l.clients;
}

abbrev pub decreases-loop-actor : goal.decreases-loop-actor
decreases-loop-actor g l = vec_len l.actors
