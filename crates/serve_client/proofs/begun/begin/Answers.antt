use Rattle.std.proofs.Common.{◌≡◌, ◌∷◌, [], ◌+◌, ◌^◌, ◌<◌, ◌≤◌, Bool, List, length, sym, ap, subst, ◌∙◌, arith, rules}
use Rattle.host_device.specs.{shape_of, steps_of}
use Rattle.host_session.specs.{SessionSpec}
use Rattle.host_worker.specs.{AreSpecs, IsStarted}
use Rattle.serve_client.specs.{spec_for}
use Rattle.serve_client.proofs.Beginning.{begun_over, one_spec}
use Rattle.serve_client.proofs.begun.begin.Goals as goal

pub start-requires-clause-specs : goal.start-requires-clause-specs
start-requires-clause-specs g c =
    let load = c.args.load.now in
    let d = c.args.device in
    let word : load.blocks < 2 ^ 64 = search rules in
    let blocks = c.requires.device.2 in
    subst (λ (l : List SessionSpec). AreSpecs (steps_of d).kept (shape_of d).blocks load.size l) (sym (c.deref.ensures.value ∙ c.in-Ok.ensures))
    (subst (λ (b : Bool). AreSpecs (steps_of d).kept (shape_of d).blocks load.size (spec_for load b ∷ [])) (sym c.is_kept.ensures)
    (one_spec load (steps_of d).kept (shape_of d).blocks (omega (arith, c.requires.range, blocks)) (omega (arith, word, blocks))))

pub returns : goal.returns
returns g c =
    let specs = c.deref.ensures.value ∙ c.in-Ok.ensures in
    let started = c.in_ok-started.started in
    let t = c.take_apart.ensures in
    begun_over c.args.device c.args.load.now c.is_kept.result started (subst (λ (l : List SessionSpec). IsStarted c.args.device l 1 started) specs c.in_ok-started.ensures) c.take_apart.result t.server t.client t.hand t.clients_room t.hands_room
