use Rattle.std.proofs.Common.{List, sym, subst, arith, ◌≡◌, ◌≤◌, length, map, vec_capacity, []}
use Rattle.host_worker.specs.{AreAccounted, AreEnded, hand_end, AreClosed, AreHands}
use Rattle.script_model.specs.{plans_of}
use Rattle.host_play.specs.{Actor, clients_in, hands_in}
use Rattle.host_play.proofs.Leaving.{accounted, are_closed, are_hands}
use Rattle.host_play.proofs.Performing.{all_count, client_count, performed, stage_played}
use Rattle.host_play.proofs.playing.perform.Goals as goal

pub leave_stage-requires-clause-hands : goal.leave_stage-requires-clause-hands
leave_stage-requires-clause-hands g c =
    let s = c.args.stage in
    let plans = plans_of c.args.script.now in
    let new : List (Actor g.row.D.Denot g.D.Disk) = c.act_all.new.actors in
    let p = stage_played s.server plans s.actors c.as_mut_slice.result.now new c.as_mut_slice.ensures.value c.act_all.ensures in
    subst (λ (l : List (Actor g.row.D.Denot g.D.Disk)). AreHands s.server (hands_in l)) (sym p.1) (are_hands s.server plans s.actors.items new p.0 c.requires.numbers)

pub leave_stage-requires-clause-clients : goal.leave_stage-requires-clause-clients
leave_stage-requires-clause-clients g c =
    let s = c.args.stage in
    let plans = plans_of c.args.script.now in
    let new : List (Actor g.row.D.Denot g.D.Disk) = c.act_all.new.actors in
    let p = stage_played s.server plans s.actors c.as_mut_slice.result.now new c.as_mut_slice.ensures.value c.act_all.ensures in
    subst (λ (l : List (Actor g.row.D.Denot g.D.Disk)). AreClosed s.server (clients_in l)) (sym p.1) (are_closed s.server plans s.actors.items new p.0 c.requires.clients)

pub leave_stage-requires-clause-accounted : goal.leave_stage-requires-clause-accounted
leave_stage-requires-clause-accounted g c =
    let s = c.args.stage in
    let plans = plans_of c.args.script.now in
    let new : List (Actor g.row.D.Denot g.D.Disk) = c.act_all.new.actors in
    let p = stage_played s.server plans s.actors c.as_mut_slice.result.now new c.as_mut_slice.ensures.value c.act_all.ensures in
    subst (λ (l : List (Actor g.row.D.Denot g.D.Disk)). AreAccounted (hands_in l) (clients_in l)) (sym p.1) (accounted s.server plans s.actors.items new p.0)

pub leave_stage-requires-clause-hands_room : goal.leave_stage-requires-clause-hands_room
leave_stage-requires-clause-hands_room g c =
    let s = c.args.stage in
    let plans = plans_of c.args.script.now in
    let new : List (Actor g.row.D.Denot g.D.Disk) = c.act_all.new.actors in
    let p = stage_played s.server plans s.actors c.as_mut_slice.result.now new c.as_mut_slice.ensures.value c.act_all.ensures in
    subst (λ (l : List (Actor g.row.D.Denot g.D.Disk)). (s.hands.items ≡ []) × (length l ≤ vec_capacity s.hands)) (sym p.1)
    (c.requires.hands_room.0, (let n = all_count s.server plans s.actors.items new p.0 c.requires.numbers c.requires.clients in omega (arith, n, c.requires.hands_room.1)))

pub leave_stage-requires-clause-clients_room : goal.leave_stage-requires-clause-clients_room
leave_stage-requires-clause-clients_room g c =
    let s = c.args.stage in
    let plans = plans_of c.args.script.now in
    let new : List (Actor g.row.D.Denot g.D.Disk) = c.act_all.new.actors in
    let p = stage_played s.server plans s.actors c.as_mut_slice.result.now new c.as_mut_slice.ensures.value c.act_all.ensures in
    subst (λ (l : List (Actor g.row.D.Denot g.D.Disk)). (s.clients.items ≡ []) × (length (clients_in l) ≤ vec_capacity s.clients)) (sym p.1)
    (c.requires.clients_room.0, (let n = client_count s.server plans s.actors.items new p.0 c.requires.numbers c.requires.clients in omega (arith, n, c.requires.clients_room.1)))

pub returns-clause-ended : goal.returns-clause-ended
returns-clause-ended g c =
    let s = c.args.stage in
    let plans = plans_of c.args.script.now in
    let new : List (Actor g.row.D.Denot g.D.Disk) = c.act_all.new.actors in
    let p = stage_played s.server plans s.actors c.as_mut_slice.result.now new c.as_mut_slice.ensures.value c.act_all.ensures in
    performed s.server plans s.actors.items new p.0 c.requires.numbers c.requires.clients c.leave_stage.result.ends
    (subst (λ (l : List (Actor g.row.D.Denot g.D.Disk)). AreEnded (clients_in l) (map hand_end (hands_in l)) c.leave_stage.result.ends) p.1 c.leave_stage.ensures.ended)
