-- What each answer of the intake is to the hand.
use Rattle.std.proofs.Common.{◌≡◌, false, length, refl, sym, ap, subst, ◌∙◌, arith}
use Rattle.std.specs.List.{list_any}
use Rattle.host_frames.specs.{pool_id}
use Rattle.host_group.specs.{cells_id}
use Rattle.host_intake.specs.{place_of, IntakeState}
use Rattle.host_memory.specs.{is_done_for, events}
use Rattle.host_record.specs.{opcode, request_of}
use Rattle.host_rings.specs.{Envelope}
use Rattle.host_log.specs.{entries_of}
use Rattle.host_turn.specs.{number, seen_by}
use Rattle.host_hand.specs.{IsOfPool, all_taken, at_limit, finished, stalled, IsNext}
use Rattle.host_hand.proofs.Jobbed.{accepted_some, admitted_next, idle_next, none_left, refused_next}
use Rattle.host_hand.proofs.next.take_next.Goals as goal

pub admitted-requires : goal.admitted-requires
admitted-requires g c =
    let k = c.in-Admitted.ensures.answer.1 in
    accepted_some c.args.intake.now.part (number c.args.intake.now.memory_seat) (seen_by c.admit_next.new.seat) k.0 c.in-Admitted.envelope k.1.taken.judged k.1.verdict k.1.taken.envelope

pub returns-in-Refused-clause-found : goal.returns-in-Refused-clause-found
returns-in-Refused-clause-found g c =
    let k = c.in-Refused.ensures.answer.1 in
    refused_next c.args.me (cells_id c.args.cells.now) c.args.spec.now (pool_id c.args.pool.now) (length c.args.intake.now.taker.heard) c.args.intake.now c.admit_next.new.self c.admit_next.new.seat c.in-Refused.envelope c.in-Refused.status c.in-Refused.right c.args.sender.now k.0
    c.requires.intake.1 c.requires.intake.2 k.1

pub returns-in-Admitted-clause-found : goal.returns-in-Admitted-clause-found
returns-in-Admitted-clause-found g c =
    let a = c.args in let e = c.in-Admitted.ensures in let k = e.answer.1 in let new = c.admit_next.new.seat in
    let of_pool : IsOfPool (pool_id a.pool.now) new = λ plan is. c.requires.seat.1 plan (sym e.seat.0.3 ∙ is) in
    let own = ap (λ m. entries_of (λ x. x.hand) m (seen_by new)) c.requires.seat.0.number_is in
    let same = ap (λ m. entries_of (λ x. x.hand) m (seen_by a.memory_seat.now)) c.requires.seat.0.number_is in
    let index = ap (λ (x : Envelope). x.index) k.1.taken.envelope ∙ k.1.taken.index in
    let undone : list_any (is_done_for (place_of k.0)) (events (entries_of (λ x. x.hand) k.0.hand (seen_by new))) ≡ false =
    ap (λ m. list_any (is_done_for (place_of k.0)) (events (entries_of (λ x. x.hand) m (seen_by new)))) k.1.by
    ∙ (ap (λ l. list_any (is_done_for (place_of k.0)) (events l)) (sym own ∙ (e.later.1 ∙ same)) ∙ c.requires.clean (place_of k.0) (omega (arith, index))) in
    subst (λ n. IsNext (cells_id a.cells.now) a.spec.now (pool_id a.pool.now) (length a.intake.now.taker.heard) a.me a.intake.now.entries c.admit_next.new.self.entries (seen_by new) a.sender.now a.sender.now n) (sym c.admitted.ensures)
    (admitted_next a.me (cells_id a.cells.now) a.spec.now (pool_id a.pool.now) (length a.intake.now.taker.heard) a.intake.now c.admit_next.new.self new c.in-Admitted.envelope c.in-Admitted.right a.sender.now k.0 c.in-Admitted.pages
    c.requires.intake.1 c.requires.intake.2 c.requires.phase of_pool undone k.1 (opcode (request_of c.in-Admitted.envelope.bytes)) refl)

pub returns-in-Finished-clause-found : goal.returns-in-Finished-clause-found
returns-in-Finished-clause-found g c =
    let k = c.in-Finished.ensures.answer in
    idle_next (cells_id c.args.cells.now) c.args.spec.now (pool_id c.args.pool.now) (length c.args.intake.now.taker.heard) c.args.me c.args.intake.now.entries c.admit_next.new.self.entries (seen_by c.admit_next.new.seat) c.args.sender.now (ap (λ (s : IntakeState). s.entries) k.1) c.requires.phase (finished k.0)

pub returns-in-AtLimit-clause-found : goal.returns-in-AtLimit-clause-found
returns-in-AtLimit-clause-found g c =
    let k = c.in-AtLimit.ensures.answer in
    idle_next (cells_id c.args.cells.now) c.args.spec.now (pool_id c.args.pool.now) (length c.args.intake.now.taker.heard) c.args.me c.args.intake.now.entries c.admit_next.new.self.entries (seen_by c.admit_next.new.seat) c.args.sender.now (ap (λ (s : IntakeState). s.entries) k.2) c.requires.phase (at_limit k.0 k.1)

pub returns-in-NoRecord-clause-found : goal.returns-in-NoRecord-clause-found
returns-in-NoRecord-clause-found g c =
    let k = c.in-NoRecord.ensures.answer in
    idle_next (cells_id c.args.cells.now) c.args.spec.now (pool_id c.args.pool.now) (length c.args.intake.now.taker.heard) c.args.me c.args.intake.now.entries c.admit_next.new.self.entries (seen_by c.admit_next.new.seat) c.args.sender.now (ap (λ (s : IntakeState). s.entries) k.2) c.requires.phase (all_taken k.0 (none_left c.args.intake.now k.1))

pub returns-in-Stalled-clause-found : goal.returns-in-Stalled-clause-found
returns-in-Stalled-clause-found g c =
    let k = c.in-Stalled.ensures.answer.1 in
    idle_next (cells_id c.args.cells.now) c.args.spec.now (pool_id c.args.pool.now) (length c.args.intake.now.taker.heard) c.args.me c.args.intake.now.entries c.admit_next.new.self.entries (seen_by c.admit_next.new.seat) c.args.sender.now k.1.entries c.requires.phase (stalled c.in-Stalled.ensures.answer.0 (request_of k.0.bytes).group k.1.in_flight)
