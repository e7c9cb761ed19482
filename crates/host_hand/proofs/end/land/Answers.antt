-- The record is in flight in the state that was entered, and its end is the one that its right was used with.
use Rattle.std.proofs.Common.{◌≡◌, ℕ, List, refl, sym, ap, subst, ◌∙◌, inl}
use Rattle.host_group.specs.{cells_id}
use Rattle.host_intake.specs.{IntakeEntry, Landed, answer_owed, landings, maker_of, request_in, requests_of, takings, is_shut, AreSettled, IntakeState, phase_in}
use Rattle.host_log.specs.{Continues}
use Rattle.host_turn.specs.{number, seen_by}
use Rattle.host_hand.proofs.Jobbed.{phase_same}
use Rattle.host_hand.proofs.Landed.{flying_open, in_flight_later, is_lander_taken, none_waits, owed_there, settled_longer}
use Rattle.host_hand.proofs.end.land.Goals as goal

-- what the seat had seen goes on to what was entered
entered : (n m : ℕ) (old seen new : List IntakeEntry) → n ≡ m → new ≡ seen → Continues maker_of n old seen → Continues maker_of m old new
entered n m old seen new is same c = subst (λ k. Continues maker_of k old new) is (subst (λ l. Continues maker_of n old l) (sym same) c)

pub landed-requires-clause-flight : goal.landed-requires-clause-flight
landed-requires-clause-flight g c =
    let t = c.requires.taken in let e = c.enter-intake.ensures in
    let l = entered (number c.args.seat.now) c.args.me (seen_by c.args.seat.now) (seen_by c.enter-intake.new.seat) c.enter-intake.result.entries c.requires.seat.2.number_is e.story e.later in
    let k = in_flight_later c.args.me c.args.index (seen_by c.args.seat.now) c.enter-intake.result.entries t.0 l t.2 in
    c.own_records_fly.ensures c.enter-intake.result.entries c.args.me c.args.index t.0 c.vouch.ensures.landed k.stands k.by k.waits k.unended

pub landed-requires-clause-waits : goal.landed-requires-clause-waits
landed-requires-clause-waits g c =
    let t = c.requires.taken in let e = c.enter-intake.ensures in
    let l = entered (number c.args.seat.now) c.args.me (seen_by c.args.seat.now) (seen_by c.enter-intake.new.seat) c.enter-intake.result.entries c.requires.seat.2.number_is e.story e.later in
    let k = in_flight_later c.args.me c.args.index (seen_by c.args.seat.now) c.enter-intake.result.entries t.0 l t.2 in
    none_waits _ (takings c.enter-intake.result.entries) (landings c.enter-intake.result.entries) c.enter-intake.result.waiting c.args.index t.0 c.vouch.ensures.waiting k.stands k.waits

pub landed-requires-clause-hand : goal.landed-requires-clause-hand
landed-requires-clause-hand g c =
    let t = c.requires.taken in let e = c.enter-intake.ensures in
    let l = entered (number c.args.seat.now) c.args.me (seen_by c.args.seat.now) (seen_by c.enter-intake.new.seat) c.enter-intake.result.entries c.requires.seat.2.number_is e.story e.later in
    let k = in_flight_later c.args.me c.args.index (seen_by c.args.seat.now) c.enter-intake.result.entries t.0 l t.2 in
    is_lander_taken c.args.me c.args.index (takings c.enter-intake.result.entries) t.0 k.stands (inl k.by)

pub landed-requires-clause-right : goal.landed-requires-clause-right
landed-requires-clause-right g c =
    let t = c.requires.taken in let e = c.enter-intake.ensures in
    let l = entered (number c.args.seat.now) c.args.me (seen_by c.args.seat.now) (seen_by c.enter-intake.new.seat) c.enter-intake.result.entries c.requires.seat.2.number_is e.story e.later in
    settled_longer (cells_id c.args.session.now.cells) (seen_by c.args.seat.now) c.enter-intake.result.entries c.args.index t.0 c.args.end c.args.right l.0 t.2.stands
    (subst (λ i. AreSettled (cells_id c.args.session.now.cells) (requests_of (takings (seen_by c.args.seat.now))) i c.args.end c.args.right) t.1 t.3.settled)

pub landed-requires-clause-answer : goal.landed-requires-clause-answer
landed-requires-clause-answer g c =
    let t = c.requires.taken in let e = c.enter-intake.ensures in
    let l = entered (number c.args.seat.now) c.args.me (seen_by c.args.seat.now) (seen_by c.enter-intake.new.seat) c.enter-intake.result.entries c.requires.seat.2.number_is e.story e.later in
    let k = in_flight_later c.args.me c.args.index (seen_by c.args.seat.now) c.enter-intake.result.entries t.0 l t.2 in
    t.3.answer_is ∙ (ap (λ i. answer_owed (request_in t.0) i c.args.end c.args.right) t.1 ∙ owed_there (takings c.enter-intake.result.entries) c.args.index t.0 c.args.end c.args.right k.stands)

pub returns-clause-phase : goal.returns-clause-phase
returns-clause-phase g c =
    let t = c.requires.taken in let e = c.enter-intake.ensures in
    let l = entered (number c.args.seat.now) c.args.me (seen_by c.args.seat.now) (seen_by c.enter-intake.new.seat) c.enter-intake.result.entries c.requires.seat.2.number_is e.story e.later in
    let k = in_flight_later c.args.me c.args.index (seen_by c.args.seat.now) c.enter-intake.result.entries t.0 l t.2 in
    let flies = c.own_records_fly.ensures c.enter-intake.result.entries c.args.me c.args.index t.0 c.vouch.ensures.landed k.stands k.by k.waits k.unended in
    ap (λ es. is_shut (phase_in es)) (c.leave.ensures.story ∙ ap (λ (s : IntakeState). s.entries) c.landed.ensures.entry)
    ∙ (ap is_shut (phase_same c.enter-intake.result.entries (Landed c.args.me c.args.index c.args.end c.args.answer c.args.kept) refl) ∙ flying_open c.enter-intake.result c.args.index c.vouch.ensures flies)
