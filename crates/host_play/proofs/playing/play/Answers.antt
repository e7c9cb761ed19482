use Rattle.std.proofs.Common.{◌≡◌, ◌+◌, ℕ, length, map, sym, ap, subst, ◌∙◌, arith}
use Rattle.host_report.specs.{SessionReport}
use Rattle.host_worker.specs.{specs_of}
use Rattle.script_model.specs.{plans_of}
use Rattle.script_played.specs.{PlaysPlans}
use Rattle.host_play.specs.{specs_from, IsReportOf}
use Rattle.host_play.proofs.Performing.{told}
use Rattle.host_play.proofs.Saying.{is_playable}
use Rattle.host_play.proofs.SetUp.{as_many, sessions_set}
use Rattle.host_play.proofs.playing.play.Goals as goal

pub set_stage-requires-clause-script : goal.set_stage-requires-clause-script
set_stage-requires-clause-script g c = is_playable c.args.ground.size c.args.script.now.sessions.items c.requires.said c.requires.limits

pub perform-finished-requires-clause-playable : goal.perform-finished-requires-clause-playable
perform-finished-requires-clause-playable g c κs within = (is_playable c.args.ground.size c.args.script.now.sessions.items c.requires.said c.requires.limits).lines

pub perform-finished-requires-clause-some : goal.perform-finished-requires-clause-some
perform-finished-requires-clause-some g c κs within =
    let n = as_many (c.args.setting.workers + length (plans_of c.args.script.now)) c.in_ok-stage.stage.actors.items c.in_ok-stage.ensures.numbers in
    omega (arith, n, c.requires.setting.workers.0)

pub perform-finished-requires-clause-clients_room : goal.perform-finished-requires-clause-clients_room
perform-finished-requires-clause-clients_room g c κs within =
    let set = c.in_ok-stage.ensures in
    let n = sessions_set c.args.ground.disk (plans_of c.args.script.now) c.args.ranges.now c.args.ground.size c.args.setting c.in_ok-stage.stage c.requires.ranges set in
    (set.clients_room.0, omega (arith, set.clients_room.1, n))

pub gather_kept-report-requires-clause-kept : goal.gather_kept-report-requires-clause-kept
gather_kept-report-requires-clause-kept g c =
    let set = c.in_ok-stage.ensures in
    (c.perform-finished.ensures.keeps ∙ set.keeps, ap (λ f. f.keeps) (c.close_device-closing.ensures.fixed ∙ c.perform-finished.ensures.device) ∙ set.keeps)

-- what is told of the report
all_told : (g : _) (c : goal.After-gather_kept-report g) → let report = c.gather_kept-report.result.0 in IsReportOf (plans_of c.args.script.now) c.args.ranges.now c.args.setting.workers c.args.setting.depth report × PlaysPlans (plans_of c.args.script.now) report × (map (λ (s : SessionReport). s.range) report.sessions.items ≡ c.args.ranges.now)
all_told g c =
    let plans = plans_of c.args.script.now in
    let server = c.in_ok-stage.stage.server in
    let set = c.in_ok-stage.ensures in
    let specs = subst (λ (n : ℕ). specs_of server.sessions.items ≡ specs_from 1 plans c.args.ranges.now n c.args.setting.depth) (sym c.gather_kept-report.ensures.given.1) set.specs_are in
    told server set.server plans c.args.ranges.now c.args.setting.workers c.args.setting.depth c.gather_kept-report.result.0 c.perform-finished.result.ends c.perform-finished.ensures.ended c.gather_kept-report.ensures.gathered specs set.hand_count c.requires.ranges

pub returns-clause-played : goal.returns-clause-played
returns-clause-played g c = (all_told g c).1

pub returns-clause-report : goal.returns-clause-report
returns-clause-report g c = (all_told g c).0

pub returns-clause-ranges : goal.returns-clause-ranges
returns-clause-ranges g c = (all_told g c).2
