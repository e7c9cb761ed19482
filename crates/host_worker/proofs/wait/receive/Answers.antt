use Rattle.std.proofs.Common.{◌<◌, length, arith, sym, subst}
use Rattle.host_model.specs.{received}
use Rattle.host_session.specs.{owed_count, IsShared, SessionPlan}
use Rattle.host_worker.proofs.Receiving.{may_receive, plan_still, received_then, recv_received, recv_room}
use Rattle.host_worker.proofs.wait.receive.Goals as goal

pub recv-requires-clause-shared : goal.recv-requires-clause-shared
recv-requires-clause-shared g c = subst (λ (p : SessionPlan). IsShared p c.args.shared.now) (sym (plan_still c.args.client.now c.loop.client c.loop.invariant.2)) c.requires.shared

pub recv-requires-clause-room : goal.recv-requires-clause-room
recv-requires-clause-room g c =
    let due : length (received c.loop.client.log) < owed_count c.loop.client.log = omega arith in
    may_receive c.loop.client due (c.loop.invariant.3 0 c.requires.room)

pub loop-preserved : goal.loop-preserved
loop-preserved g c =
    let due : length (received c.loop.client.log) < owed_count c.loop.client.log = omega arith in (
      tt,
      tt,
      received_then c.args.client.now c.loop.client c.recv.new.self c.loop.invariant.2 (recv_received c.loop.client c.recv.new.self c.recv.result due c.recv.ensures),
      λ more h. recv_room c.loop.client c.recv.new.self c.recv.result due c.recv.ensures more (c.loop.invariant.3 more h),
    )

pub returns-then-is_none : goal.returns-then-is_none
returns-then-is_none g c =
    let due : length (received c.loop.client.log) < owed_count c.loop.client.log = omega arith in
    record {
      received = received_then c.args.client.now c.loop.client c.recv.new.self c.loop.invariant.2 (recv_received c.loop.client c.recv.new.self c.recv.result due c.recv.ensures);
      room = λ more h. recv_room c.loop.client c.recv.new.self c.recv.result due c.recv.ensures more (c.loop.invariant.3 more h);
    }
