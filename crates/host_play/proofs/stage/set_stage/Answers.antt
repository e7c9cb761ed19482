use Rattle.std.proofs.Common.{◌≡◌, ◌+◌, ◌^◌, ◌<◌, ◌≤◌, ℕ, Bool, true, List, length, sym, ap, subst, ◌∙◌, arith, rules}
use Rattle.std.proofs.lemmas.List.{length-map}
use Rattle.std.proofs.lemmas.Result.{MatchResult-weaker}
use Rattle.host_device.specs.{shape_of, steps_of}
use Rattle.host_io.specs.{Shape}
use Rattle.host_session.specs.{SessionSpec}
use Rattle.host_worker.specs.{AreSpecs}
use Rattle.script_model.specs.{plan_of, plans_of}
use Rattle.host_play.specs.{specs_from}
use Rattle.host_play.proofs.SetUp.{are_specs, is_set}
use Rattle.host_play.proofs.stage.set_stage.Goals as goal

pub start-requires-clause-specs : goal.start-requires-clause-specs
start-requires-clause-specs g c =
    let device = c.in-Ok-open_device.device in
    let plans = plans_of c.args.script.now in
    let few : length plans ≤ 16 = let n = length-map c.args.script.now.sessions.items plan_of in omega (arith, n, c.requires.script.few) in
    let shape = device.same_shape ∙ ap g.D.Disk.shape c.in-Ok-open_device.ensures.opening in
    let word : c.args.ground.blocks < 2 ^ 64 = search rules in
    subst (λ (l : List SessionSpec). AreSpecs (steps_of device).kept (shape_of device).blocks c.args.ground.size l) (sym c.in-Ok.ensures.specs_are)
    (subst (λ (b : Bool). AreSpecs b (shape_of device).blocks c.args.ground.size (specs_from 1 plans c.args.ranges.now c.args.ground.size c.args.setting.depth)) (sym c.in-Ok-open_device.ensures.steps.1)
    (subst (λ (n : ℕ). AreSpecs true n c.args.ground.size (specs_from 1 plans c.args.ranges.now c.args.ground.size c.args.setting.depth)) (c.requires.ground.blocks_are ∙ sym (ap (λ (s : Shape). s.blocks) shape))
    (are_specs plans c.args.ranges.now c.args.ground.size c.args.setting.depth c.args.ground.blocks c.requires.ranges few c.requires.inside word c.requires.setting.depth)))

pub returns-in-Ok-open_device : goal.returns-in-Ok-open_device
returns-in-Ok-open_device g c =
    let device = c.in-Ok-open_device.device in
    let plans = plans_of c.args.script.now in
    let opened = c.in-Ok-open_device.ensures in
    let size = ap (λ (s : Shape). s.size) (device.same_shape ∙ ap g.D.Disk.shape opened.opening) ∙ sym c.requires.ground.size_is in
    let hands : c.args.setting.workers + c.len.result ≡ c.args.setting.workers + length plans = let n = length-map c.args.script.now.sessions.items plan_of in omega (arith, n, c.len.ensures) in
    MatchResult-weaker c.start.result c.start.ensures
    (λ stage st. is_set c.args.ground.disk plans c.args.ranges.now c.args.ground.size c.args.setting device c.in-Ok.props (c.args.setting.workers + c.len.result) stage st opened.opening size opened.steps.1 (opened.steps.2 ∙ c.steps_ahead.ensures) hands c.requires.ranges c.in-Ok.ensures)
    (λ no same. same ∙ opened.disk)
