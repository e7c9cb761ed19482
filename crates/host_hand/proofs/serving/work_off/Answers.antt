-- The job is carried out, settled and landed, and the hand keeps the session.
use Rattle.std.proofs.Common.{sym, ap, subst, ◌∙◌, arith}
use Rattle.host_frames.specs.{pool_id}
use Rattle.host_group.specs.{cells_id}
use Rattle.host_rings.specs.{SlipSenderState}
use Rattle.host_turn.specs.{book_id, seen_by}
use Rattle.host_session.specs.{IsSeatIn, intake_plan}
use Rattle.host_session.proofs.Turning.{same_seat}
use Rattle.host_session.proofs.Visiting.{seat_still}
use Rattle.host_hand.specs.{Errand, IsAtBuffers, IsOfPool, IsAtDevice, IsWork}
use Rattle.host_hand.proofs.Posted.{at_buffers, job_work}
use Rattle.host_hand.proofs.Worked.{freed_pages, index_is, job_ends, job_flies, job_right, lands_longer, lands_sender, worked_begun, worked_kept, worked_longer, worked_out, worked_steps}
use Rattle.host_hand.proofs.serving.work_off.Goals as goal

pub carry_out-carried-requires-clause-buffers : goal.carry_out-carried-requires-clause-buffers
carry_out-carried-requires-clause-buffers g c =
    subst (λ (e : Errand). IsAtBuffers (book_id c.args.session.now.memory) e.hand e.size c.args.hand.now.memory × IsOfPool (pool_id c.args.pool.now) c.args.hand.now.memory) (sym c.of-errand.ensures)
    (at_buffers c.args.spec.now c.args.me (pool_id c.args.pool.now) c.args.session.now c.args.hand.now c.requires.hand)

pub carry_out-carried-requires-clause-device : goal.carry_out-carried-requires-clause-device
carry_out-carried-requires-clause-device g c =
    subst (λ (e : Errand). IsAtDevice (book_id c.args.device.now) e.hand e.part e.size c.args.device_seat.now) (sym c.of-errand.ensures) c.requires.device

pub carry_out-carried-requires-clause-work : goal.carry_out-carried-requires-clause-work
carry_out-carried-requires-clause-work g c =
    subst (λ (e : Errand). IsWork e (pool_id c.args.pool.now) (seen_by c.args.hand.now.memory) c.args.job.work) (sym c.of-errand.ensures)
    (job_work (cells_id c.args.session.now.cells) c.args.spec.now (pool_id c.args.pool.now) c.args.me (seen_by c.args.hand.now.intake) (seen_by c.args.hand.now.memory) (seen_by c.args.device_seat.now) c.args.hand.now.sender.pushed c.args.job c.requires.job)

pub end_freed-requires-clause-seat : goal.end_freed-requires-clause-seat
end_freed-requires-clause-seat g c =
    let p = c.requires.hand.plan in
    (p, c.requires.hand.of_session, subst (λ (e : Errand). IsSeatIn p.intake (intake_plan p) e.hand c.args.hand.now.intake) (sym c.of-errand.ensures) c.requires.hand.hand_is.intake)

pub end_freed-requires-clause-pool : goal.end_freed-requires-clause-pool
end_freed-requires-clause-pool g c = c.carry_out-carried.ensures.claims.pool_is ∙ c.requires.pool

pub end_freed-requires-clause-pages : goal.end_freed-requires-clause-pages
end_freed-requires-clause-pages g c =
    freed_pages c.of-errand.result (pool_id c.args.pool.now) c.carry_out-carried.result.end.memory_front (seen_by c.carry_out-carried.new.memory_seat) c.carry_out-carried.result.freed c.carry_out-carried.ensures.carried.is_freed

pub settle-answer-requires : goal.settle-answer-requires
settle-answer-requires g c =
    job_right (cells_id c.args.session.now.cells) c.args.spec.now (pool_id c.args.pool.now) c.args.me (seen_by c.args.hand.now.intake) (seen_by c.args.hand.now.memory) (seen_by c.args.device_seat.now) c.args.hand.now.sender c.args.job c.of-errand.result c.of-errand.ensures c.requires.job

pub land-requires-clause-seat : goal.land-requires-clause-seat
land-requires-clause-seat g c =
    let p = c.requires.hand.plan in
    (p, c.requires.hand.of_session, seat_still p.intake (intake_plan p) c.args.me c.args.hand.now.intake c.end_freed.new.seat c.requires.hand.hand_is.intake c.end_freed.ensures.seat.0 c.end_freed.ensures.seat.1)

pub land-requires-clause-taken : goal.land-requires-clause-taken
land-requires-clause-taken g c =
    let cells = cells_id c.args.session.now.cells in let spec = c.args.spec.now in let pool = pool_id c.args.pool.now in let me = c.args.me in
    let es1 = seen_by c.args.hand.now.intake in let h = seen_by c.args.hand.now.memory in let old_s = seen_by c.args.device_seat.now in let s = c.args.hand.now.sender in
    let job = c.args.job in let e = c.of-errand.result in let is = c.of-errand.ensures in let j = c.requires.job in
    let es2 = seen_by c.end_freed.new.seat in let s' = c.end_freed.new.sender in let r = c.carry_out-carried.result in let l = c.end_freed.ensures.landed in
    let b = lands_longer e.hand r.end.memory_front r.freed es1 es2 s s' l in (
      j.taking,
      sym (index_is cells spec pool me es1 h old_s s job e is j),
      job_flies cells spec pool me es1 h old_s s job e is j es2 s' r.end.memory_front r.freed b l,
      job_ends cells spec pool me es1 h old_s s job e is j es2 s' r.end.memory_front r.freed b l r.end c.settle-answer.result.answer c.settle-answer.result.right c.settle-answer.ensures.used c.settle-answer.ensures.answer,
    )

pub returns-clause-same : goal.returns-clause-same
returns-clause-same g c =
    let k = c.carry_out-carried.ensures.seats in let r = c.carry_out-carried.result in
    let s = lands_sender c.of-errand.result.hand r.end.memory_front r.freed (seen_by c.args.hand.now.intake) (seen_by c.end_freed.new.seat) c.args.hand.now.sender c.end_freed.new.sender c.end_freed.ensures.landed in
    let p = c.push_answer-kept.ensures.pushed in
    record {
      intake = (same_seat c.args.hand.now.intake c.end_freed.new.seat c.land.new.seat c.end_freed.ensures.seat.0 c.land.ensures.seat.0, c.land.ensures.seat.1);
      memory = (k.0, k.1);
      sender = (ap (λ (x : SlipSenderState). x.ring) p ∙ s.0, ap (λ (x : SlipSenderState). x.number) p ∙ s.1);
    }

pub returns-clause-stepped : goal.returns-clause-stepped
returns-clause-stepped g c =
    let k = c.carry_out-carried.ensures.seats in
    let w = worked_steps (cells_id c.args.session.now.cells) c.args.spec.now (pool_id c.args.pool.now) c.args.me (seen_by c.args.hand.now.intake) (seen_by c.args.hand.now.memory) (seen_by c.args.device_seat.now) c.args.hand.now.sender c.args.job c.of-errand.result c.of-errand.ensures c.requires.job
    (seen_by c.end_freed.new.seat) (seen_by c.land.new.seat) (seen_by c.carry_out-carried.new.memory_seat) (seen_by c.carry_out-carried.new.device_seat) c.end_freed.new.sender c.push_answer-kept.new.sender c.carry_out-carried.result c.settle-answer.result.answer c.push_answer-kept.result
    c.carry_out-carried.ensures.carried c.end_freed.ensures.landed c.land.ensures.landed c.push_answer-kept.ensures.pushed in
    record { seat = (k.2, k.3); steps = w.0; added = w.1; named = w.2 }

pub returns-clause-claims : goal.returns-clause-claims
returns-clause-claims g c =
    let a = c.carry_out-carried.ensures.claims in let b = c.end_freed.ensures.claims in
    record { pool_is = b.pool_is ∙ a.pool_is; claims_are = b.claims_are ∙ a.claims_are; granted_is = b.granted_is ∙ a.granted_is }

pub returns-clause-kept : goal.returns-clause-kept
returns-clause-kept g c =
    worked_kept (cells_id c.args.session.now.cells) c.args.spec.now (pool_id c.args.pool.now) c.args.me (seen_by c.args.hand.now.intake) (seen_by c.args.hand.now.memory) (seen_by c.args.device_seat.now) c.args.hand.now.sender c.args.job c.of-errand.result c.of-errand.ensures c.requires.job
    (seen_by c.end_freed.new.seat) (seen_by c.land.new.seat) (seen_by c.carry_out-carried.new.memory_seat) (seen_by c.carry_out-carried.new.device_seat) c.end_freed.new.sender c.push_answer-kept.new.sender c.carry_out-carried.result c.settle-answer.result.answer c.push_answer-kept.result
    c.carry_out-carried.ensures.carried c.end_freed.ensures.landed c.land.ensures.landed c.push_answer-kept.ensures.pushed

pub returns-clause-more : goal.returns-clause-more
returns-clause-more g c =
    record {
      intake = worked_longer (cells_id c.args.session.now.cells) c.args.spec.now (pool_id c.args.pool.now) c.args.me (seen_by c.args.hand.now.intake) (seen_by c.args.hand.now.memory) (seen_by c.args.device_seat.now) c.args.hand.now.sender c.args.job c.of-errand.result c.of-errand.ensures c.requires.job
          (seen_by c.end_freed.new.seat) (seen_by c.land.new.seat) (seen_by c.carry_out-carried.new.memory_seat) (seen_by c.carry_out-carried.new.device_seat) c.end_freed.new.sender c.push_answer-kept.new.sender c.carry_out-carried.result c.settle-answer.result.answer c.push_answer-kept.result
          c.carry_out-carried.ensures.carried c.end_freed.ensures.landed c.land.ensures.landed c.push_answer-kept.ensures.pushed;
      buffers = c.carry_out-carried.ensures.carried.buffers.begins;
    }

pub returns-clause-frames : goal.returns-clause-frames
returns-clause-frames g c =
    let out = worked_out (cells_id c.args.session.now.cells) c.args.spec.now (pool_id c.args.pool.now) c.args.me (seen_by c.args.hand.now.intake) (seen_by c.args.hand.now.memory) (seen_by c.args.device_seat.now) c.args.hand.now.sender c.args.job c.of-errand.result c.of-errand.ensures c.requires.job
    (seen_by c.end_freed.new.seat) (seen_by c.land.new.seat) (seen_by c.carry_out-carried.new.memory_seat) (seen_by c.carry_out-carried.new.device_seat) c.end_freed.new.sender c.push_answer-kept.new.sender c.carry_out-carried.result c.settle-answer.result.answer c.push_answer-kept.result
    c.carry_out-carried.ensures.carried c.end_freed.ensures.landed c.land.ensures.landed c.push_answer-kept.ensures.pushed in
    let a = c.carry_out-carried.ensures.given_back in let b = c.end_freed.ensures.given_back in
    omega (arith, out, a, b)

pub returns-clause-did : goal.returns-clause-did
returns-clause-did g c =
    worked_begun (cells_id c.args.session.now.cells) c.args.spec.now (pool_id c.args.pool.now) c.args.me (seen_by c.args.hand.now.intake) (seen_by c.args.hand.now.memory) (seen_by c.args.device_seat.now) c.args.hand.now.sender c.args.job c.of-errand.result c.of-errand.ensures c.requires.job
    (seen_by c.end_freed.new.seat) (seen_by c.land.new.seat) (seen_by c.carry_out-carried.new.memory_seat) (seen_by c.carry_out-carried.new.device_seat) c.end_freed.new.sender c.push_answer-kept.new.sender c.carry_out-carried.result c.settle-answer.result.answer c.push_answer-kept.result
    c.carry_out-carried.ensures.carried c.end_freed.ensures.landed c.land.ensures.landed c.push_answer-kept.ensures.pushed
