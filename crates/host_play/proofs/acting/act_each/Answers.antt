use Rattle.std.proofs.Common.{◌≡◌, List, subst}
use Rattle.std.specs.Prelude.{slice_index_or}
use denote.Param.Send.{sendable}
use Rattle.std.proofs.Crossing.{crosses}
use Rattle.host_worker.proofs.Crossing.{server_sync}
use Rattle.host_io.specs.declared.disk.Disk as disk
use Rattle.host_worker.specs.{Server}
use Rattle.script_model.specs.{PlannedSession, plans_of}
use Rattle.host_play.specs.{HasPlayedPart, Actor}
use Rattle.host_play.proofs.Crossing.{actor_send, script_sync}
use Rattle.host_play.proofs.Reversed.{zipped}
use Rattle.host_play.proofs.acting.act_each.Goals as goal

pub for_each_mut-requires-send-T : goal.for_each_mut-requires-send-T
for_each_mut-requires-send-T g c κs within = let s = c.type_bounds.send-D in search (sendable, actor_send) depth 10

pub for_each_mut-requires-sync-F : goal.for_each_mut-requires-sync-F
for_each_mut-requires-sync-F g c κs within =
    let s = c.type_bounds.send-D in
    let r = c.type_bounds.sync-R in
    let y = c.type_bounds.sync-G in
    search (sendable, crosses, server_sync, script_sync) depth 20

module _ (D : Type 0) (g : disk.Ghosts D) (server : Server D g) (plans : List PlannedSession) where
  -- what a call left at a place, of what was there
  part_at : (x y argument after : Actor D g) → HasPlayedPart server plans argument after → argument ≡ x → after ≡ y → HasPlayedPart server plans x y
  part_at x y argument after part was left = subst (λ (a : Actor D g). HasPlayedPart server plans a y) was (subst (λ (b : Actor D g). HasPlayedPart server plans argument b) left part)

pub returns : goal.returns
returns g c =
    let server = c.args.server.now in
    let plans = plans_of c.args.script.now in
    let old = c.args.actors.now in
    let new = c.for_each_mut.new.s in
    zipped (HasPlayedPart server plans) old new c.for_each_mut.auto.s
    (λ i d less.
    let at = (c.for_each_mut.ensures i d less).1 in
    part_at g.row.D.Denot g.D.Disk server plans (slice_index_or old i d) (slice_index_or new i d) at.argument.now at.after_call.now at.call at.argument_is at.left)
