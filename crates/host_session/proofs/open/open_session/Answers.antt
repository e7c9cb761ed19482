use Rattle.std.proofs.Common.{◌≡◌, ◌+◌, vec_len, refl, sym, ap, ◌∙◌, arith}
use Rattle.host_frames.specs.{Pool, page_size, pool_id}
use Rattle.host_group.specs.{cells_id}
use Rattle.host_intake.specs.{IntakeState, plan_of_intake}
use Rattle.host_memory.specs.{MemoryState}
use Rattle.host_rings.specs.{SlipTakerState, SenderState}
use Rattle.host_turn.specs.{book_id, opening_of, seat_book}
use Rattle.host_session.specs.{SessionShared, IsShared, SessionPlan, intake_plan, memory_plan, memory_plan_for}
use Rattle.host_session.proofs.Opened.{all_fresh, all_hands, intake_plan_is, new_kept, new_seat_in}
use Rattle.host_session.proofs.open.open_session.Goals as goal

pub invariant_of-client : goal.invariant_of-client
invariant_of-client c =
    let made = c.in_ok-memory.ensures in
    let adm = c.hand_out-admissions.ensures in
    let mem = c.hand_out-memory_seat.ensures in
    let int = c.hand_out-intake_seat.ensures in
    let book = c.in-Ok.ensures.book in
    let room = c.in_ok-all.ensures.room in
    let p : SessionPlan = record {
      spec = c.args.spec;
      hands = c.args.hands;
      pool = pool_id c.of.result.value;
      intake = seat_book c.hand_out-intake_seat.result;
      memory = seat_book c.hand_out-memory_seat.result;
      cells = cells_id c.of-2.result.value;
      requests = c.in_ok-sender.sender.ring;
      answers = c.in_ok-senders.taker.ring;
    } in
    let many : vec_len c.in_ok-memory.memory_seats ≡ c.args.hands + 2 = c.in_ok-memory.memory_seats.ok.0 ∙ made.count.1 in
    let left_adm : vec_len c.hand_out-admissions.new.seats ≡ c.args.hands + 1 = omega (arith, many, adm.count.0) in
    let left_mem : vec_len c.hand_out-memory_seat.new.seats ≡ c.args.hands = omega (arith, left_adm, mem.count.0) in
    let left_int : vec_len c.hand_out-intake_seat.new.seats ≡ c.args.hands = omega (arith, c.in-Ok.ensures.seats.0, int.count.0) in
    let of_intake : plan_of_intake (opening_of c.in-Ok.intake) ≡ intake_plan p =
    ap plan_of_intake book.1 ∙ intake_plan_is p c.in_ok-state.state c.in_ok-sender.requests c.hand_out-admissions.result c.in_ok-cells.cell_seat c.in_ok-state.ensures
    (sym c.in_ok-sender.ensures.ring) (adm.seat.2 ∙ left_adm) (adm.seat.0 ∙ sym mem.seat.0) (c.in_ok-cells.ensures.0.0 ∙ ap cells_id (sym c.of-2.ensures)) in
    let of_memory : (opening_of c.in_ok-memory.memory).plan ≡ memory_plan p = made.plan ∙ ap (λ (x : Pool). memory_plan_for c.args.spec c.args.hands (pool_id x)) (sym c.of.ensures) in
    new_kept _
    (new_seat_in (λ (s : IntakeState). s.entries) plan_of_intake (book_id c.in-Ok.intake) (opening_of c.in-Ok.intake) (vec_len c.hand_out-intake_seat.new.seats) c.args.hands c.hand_out-intake_seat.result p.intake (intake_plan p) int.seat refl left_int of_intake)
    (new_seat_in (λ (m : MemoryState). m.entries) (λ (m : MemoryState). m.plan) (book_id c.in_ok-memory.memory) (opening_of c.in_ok-memory.memory) (vec_len c.hand_out-memory_seat.new.seats) c.args.hands c.hand_out-memory_seat.result p.memory (memory_plan p) mem.seat refl left_mem of_memory)
    (ap page_size c.of.ensures ∙ c.requires.size)
    (ap (λ (s : SenderState). s.records) c.in_ok-sender.ensures.sender)
    (ap (λ (t : SlipTakerState). t.senders) c.in_ok-senders.ensures.taker)
    c.in_ok-log.ensures.empty
    (omega (arith, c.in_ok-log.ensures.room, c.in-Some.ensures))
    c.in_ok-log.ensures.kept
    (refl, refl, refl, refl)
    refl
    refl
    (int.seat.3 ∙ ap (λ (s : IntakeState). s.entries) (book.1 ∙ c.in_ok-state.ensures))
    (mem.seat.3 ∙ made.nothing)
    (ap (λ (s : SenderState). s.pushed) c.in_ok-sender.ensures.sender)
    (ap (λ (t : SlipTakerState). t.taken) c.in_ok-senders.ensures.taker)
    record {
      empty = c.in_ok-all.ensures.empty;
      intake_seats = omega (arith, room.intake_seats, int.count.1, c.in-Ok.intake_seats.ok.1, c.in-Ok.ensures.seats.0);
      memory_seats = omega (arith, room.memory_seats, mem.count.1, adm.count.1, c.in_ok-memory.memory_seats.ok.1, many);
      senders = omega (arith, room.senders, c.in_ok-senders.senders.ok.0, c.in_ok-senders.senders.ok.1, c.in_ok-senders.ensures.count);
    }

pub returns : goal.returns
returns c =
    let made = c.in_ok-memory.ensures in
    let adm = c.hand_out-admissions.ensures in
    let mem = c.hand_out-memory_seat.ensures in
    let int = c.hand_out-intake_seat.ensures in
    let book = c.in-Ok.ensures.book in
    let dealt = c.in_ok-all.ensures in
    let kept = invariant_of-client c in
    let p : SessionPlan = record {
      spec = c.args.spec;
      hands = c.args.hands;
      pool = pool_id c.of.result.value;
      intake = seat_book c.hand_out-intake_seat.result;
      memory = seat_book c.hand_out-memory_seat.result;
      cells = cells_id c.of-2.result.value;
      requests = c.in_ok-sender.sender.ring;
      answers = c.in_ok-senders.taker.ring;
    } in
    let shared : SessionShared = record { intake = c.in-Ok.intake; memory = c.in_ok-memory.memory; cells = c.in_ok-cells.cells } in
    let many : vec_len c.in_ok-memory.memory_seats ≡ c.args.hands + 2 = c.in_ok-memory.memory_seats.ok.0 ∙ made.count.1 in
    let left_adm : vec_len c.hand_out-admissions.new.seats ≡ c.args.hands + 1 = omega (arith, many, adm.count.0) in
    let of_intake : plan_of_intake (opening_of c.in-Ok.intake) ≡ intake_plan p =
    ap plan_of_intake book.1 ∙ intake_plan_is p c.in_ok-state.state c.in_ok-sender.requests c.hand_out-admissions.result c.in_ok-cells.cell_seat c.in_ok-state.ensures
    (sym c.in_ok-sender.ensures.ring) (adm.seat.2 ∙ left_adm) (adm.seat.0 ∙ sym mem.seat.0) (c.in_ok-cells.ensures.0.0 ∙ ap cells_id (sym c.of-2.ensures)) in
    let of_memory : (opening_of c.in_ok-memory.memory).plan ≡ memory_plan p = made.plan ∙ ap (λ (x : Pool). memory_plan_for c.args.spec c.args.hands (pool_id x)) (sym c.of.ensures) in
    let none_taken = ap (λ (s : IntakeState). s.entries) (book.1 ∙ c.in_ok-state.ensures) in
    let part : IsShared p shared = record {
      books = (sym int.seat.0, sym mem.seat.0);
      cells = ap cells_id (sym c.of-2.ensures);
      seats = (book.0, made.count.0);
      plans = (of_intake, of_memory);
      nothing = (none_taken, made.nothing);
    } in
    record {
      plan = (refl, refl, ap pool_id c.of.ensures);
      part = part;
      end = record {
        client = kept.client;
        log = c.in_ok-log.ensures.empty;
        open_still = (refl, refl);
        fronts = refl;
        seen = (int.seat.3 ∙ none_taken, mem.seat.3 ∙ made.nothing);
        sender = c.in_ok-sender.ensures.sender;
        taker = c.in_ok-senders.ensures.taker;
      };
      dealt = all_hands p shared part c.in_ok-all.all.items c.in_ok-senders.senders.items dealt.senders c.in_ok-senders.ensures.senders c.in_ok-senders.ensures.count dealt.each;
      fresh = all_fresh p shared part c.in_ok-all.all.items c.in_ok-senders.senders.items dealt.senders c.in_ok-senders.ensures.senders c.in_ok-senders.ensures.count dealt.each;
    }
