-- Each answer of `serve`, by what the hand found.
use Rattle.host_hand.proofs.Posted.{posted_still}
use Rattle.host_hand.proofs.Served.{closed_served, done_below, idle_served, job_served, job_taken, passed_served, waits_served}
use Rattle.host_frames.specs.{pool_id}
use Rattle.host_group.specs.{cells_id}
use Rattle.host_turn.specs.{seen_by}
use Rattle.host_hand.specs.{count_told}
use Rattle.host_hand.proofs.serving.serve.Goals as goal

pub returns-in-Passed : goal.returns-in-Passed
returns-in-Passed g c =
    let e = c.in-Passed.ensures in let f = e.found in
    passed_served c.args.spec.now (count_told c.args.note) c.args.me c.args.hand.now c.find_next.new.hand c.args.device_seat.now c.args.pool_seat.now f.0 e.same c.requires.device.outside c.requires.kept f.1 e.buffers f.2.0 f.2.1

pub returns-in-Waits : goal.returns-in-Waits
returns-in-Waits g c =
    let e = c.in-Waits.ensures in let f = e.found in
    waits_served c.args.spec.now (count_told c.args.note) c.args.me c.args.hand.now c.find_next.new.hand c.args.device_seat.now c.args.pool_seat.now f.0 e.same c.requires.device.outside c.requires.kept f.1 e.buffers f.2.2.0 f.2.0 f.2.1 f.2.2.1 f.2.2.2

pub returns-in-Idle : goal.returns-in-Idle
returns-in-Idle g c =
    let e = c.in-Idle.ensures in let f = e.found in
    idle_served c.args.spec.now (count_told c.args.note) c.args.me c.args.hand.now c.find_next.new.hand c.args.device_seat.now c.args.pool_seat.now f.0 e.same c.requires.device.outside c.requires.kept f.1 e.buffers f.2.0 f.2.1 f.2.2 f.2.3

pub returns-in-Closed : goal.returns-in-Closed
returns-in-Closed g c =
    let e = c.in-Closed.ensures in let f = e.found in
    closed_served c.args.spec.now (count_told c.args.note) c.args.me c.args.hand.now c.find_next.new.hand c.args.device_seat.now c.args.pool_seat.now f.0 e.same c.requires.device.outside c.requires.kept f.1 e.buffers f.2.0 f.2.1 f.2.2

pub work_off-requires-clause-hand : goal.work_off-requires-clause-hand
work_off-requires-clause-hand g c =
    posted_still c.args.spec.now c.args.me (pool_id c.args.pool.now) c.args.session.now c.args.hand.now c.find_next.new.hand c.requires.hand c.in-Took.ensures.same

pub work_off-requires-clause-job : goal.work_off-requires-clause-job
work_off-requires-clause-job g c =
    let e = c.in-Took.ensures in let f = e.found in
    job_taken c.args.spec.now (count_told c.args.note) c.args.me c.args.hand.now c.find_next.new.hand c.args.device_seat.now c.args.pool_seat.now f.0 e.same c.requires.device.outside c.requires.kept f.1 e.buffers
    (cells_id c.args.session.now.cells) (pool_id c.args.pool.now) c.in-Took.job f.2.1.0 f.2.0 f.2.1.1 f.2.1.2

pub returns-in-Took : goal.returns-in-Took
returns-in-Took g c =
    let e = c.in-Took.ensures in let f = e.found in let w = c.work_off.ensures in
    job_served c.args.spec.now (count_told c.args.note) c.args.me c.args.hand.now c.find_next.new.hand c.args.device_seat.now c.args.pool_seat.now f.0 e.same c.requires.device.outside c.requires.kept f.1 e.buffers
    (cells_id c.args.session.now.cells) (pool_id c.args.pool.now) c.in-Took.job f.2.1.0 f.2.0 f.2.1.1 f.2.1.2
    c.work_off.new.hand c.work_off.new.device_seat c.work_off.new.pool_seat w.same w.stepped w.claims w.kept w.more w.frames w.did w.phase

pub find_next-requires-clause-clean : goal.find_next-requires-clause-clean
find_next-requires-clause-clean g c = done_below c.args.spec.now c.args.me (seen_by c.args.hand.now.intake) (seen_by c.args.hand.now.memory) (seen_by c.args.device_seat.now) c.args.hand.now.sender.pushed c.requires.kept
