use denote.Param.Send.{sendable}
use Rattle.std.proofs.Crossing.{crosses}
use Rattle.host_session.proofs.Crossing.{pool_sync, session_hand_send, session_shared_sync}
use Rattle.host_turn.proofs.Crossing.{table_seat_send}
use Rattle.session_client.proofs.Crossing.{judge_send}
use Rattle.session_client.proofs.pair.act_both.Goals as goal

pub join-hand-requires-send-F : goal.join-hand-requires-send-F
join-hand-requires-send-F g c κs within = let y = c.type_bounds.sync-R in search (sendable, crosses, session_hand_send, session_shared_sync, pool_sync, table_seat_send, judge_send) depth 30

pub join-hand-requires-send-A : goal.join-hand-requires-send-A
join-hand-requires-send-A g c κs within = search (sendable, session_hand_send) depth 10
