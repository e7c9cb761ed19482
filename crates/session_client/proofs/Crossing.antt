-- A judge may cross threads.
use denote.Param.Send.{IsSend, sendable}
use Rattle.std.proofs.Crossing.{crosses}
use Rattle.host_model.specs.contracts.event.Event as event
use Rattle.session_client.specs.contracts.judge.Judge as judge

event_send : IsSend event.the_row
event_send = search (sendable, crosses) depth 30 fits 10000

pub judge_send : IsSend judge.the_row
judge_send = search (sendable, crosses, event_send) depth 30 fits 10000
