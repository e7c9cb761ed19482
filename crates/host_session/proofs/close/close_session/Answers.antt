use Rattle.std.proofs.Common.{◌≡◌, ℕ, ◌+◌, ◌<◌, true, IsTrue, List, map, All, refl, sym, ap, subst, ◌∙◌, arith}
use Rattle.std.specs.List.{list_all}
use Rattle.host_block.specs.{IsPrefix}
use Rattle.host_group.specs.{CellSeat, AreThoseAdmitted, HasItsEnd, HaveRows, admitted, back}
use Rattle.host_intake.specs.{IntakePlan, maker_of, MemorySeat, plan_of_intake}
use Rattle.host_memory.specs.{MemoryPlan, is_numbered, events}
use Rattle.host_model.specs.{MemEntry, all_with_before, lifts_page}
use Rattle.host_rings.specs.{Slip, SlipSenderState, TakerState, ComeFrom}
use Rattle.host_log.specs.{Continues, entries_of}
use Rattle.host_turn.specs.{IsSeatOutside, number, seat_count, seen_by}
use Rattle.host_session.specs.{SessionHand, ClientState, IntakeSeat, client_state, IsClient, AreAllHands, IsShared, intake_plan, memory_plan, HasAllOf, IsSessionWhole}
use Rattle.host_session.proofs.Whole.{all_but_last, all_last, all_mapped, all_one_more, all_others, all_senders, all_unmapped, intake_outside, map_twice, memory_outside}
use Rattle.host_session.proofs.WholeClient.{client_of, home, phase_is}
use Rattle.host_session.proofs.close.close_session.Goals as goal

pub close-state-requires-clause-outside : goal.close-state-requires-clause-outside
close-state-requires-clause-outside c =
    let s : ClientState = client_state c.client.inside in
    let k : IsClient s = c.client.invariant.client in
    let part : IsShared s.plan c.args.shared = subst (λ (x : ClientState). IsShared x.plan c.args.shared) (sym c.client.view_is) c.requires.shared in
    let are : AreAllHands s.plan c.args.hands.items = subst (λ (x : ClientState). AreAllHands x.plan c.args.hands.items) (sym c.client.view_is) c.requires.hands in
    all_one_more (λ (q : IntakeSeat). IsSeatOutside c.args.shared.intake q) c.gather-intake_seats.result.intake_seats.items c.push_reserved.new.self.items c.client.inside.intake_seat c.push_reserved.ensures.items
    (all_mapped (λ (q : IntakeSeat). IsSeatOutside c.args.shared.intake q) (λ (hand : SessionHand). hand.intake) c.args.hands.items c.gather-intake_seats.result.intake_seats.items c.gather-intake_seats.ensures.seats.0 (intake_outside s.plan c.args.shared part c.args.hands.items are))
    (sym part.books.0, k.intake_seat.outside)

pub into_parts-rows-requires : goal.into_parts-rows-requires
into_parts-rows-requires c =
    let s : ClientState = client_state c.client.inside in
    let k : IsClient s = c.client.invariant.client in
    let part : IsShared s.plan c.args.shared = subst (λ (x : ClientState). IsShared x.plan c.args.shared) (sym c.client.view_is) c.requires.shared in
    let are : AreAllHands s.plan c.args.hands.items = subst (λ (x : ClientState). AreAllHands x.plan c.args.hands.items) (sym c.client.view_is) c.requires.hands in
    let closed : s.closed ≡ true = ap (λ (x : ClientState). x.closed) c.client.view_is ∙ c.requires.closed in
    let o = c.close-state.result in
    let plan : plan_of_intake o ≡ intake_plan s.plan = c.close-state.ensures.fixed_part ∙ part.plans.0 in
    let later : HasAllOf maker_of o.entries s.intake_seat =
    all_last (λ (q : IntakeSeat). Continues maker_of (number q) (seen_by q) o.entries) c.gather-intake_seats.result.intake_seats.items c.push_reserved.new.self.items c.client.inside.intake_seat c.push_reserved.ensures.items c.close-state.ensures.seats in
    phase_is s k closed o c.vouch.ensures plan later

pub close-buffers-requires-clause-outside : goal.close-buffers-requires-clause-outside
close-buffers-requires-clause-outside c =
    let s : ClientState = client_state c.client.inside in
    let k : IsClient s = c.client.invariant.client in
    let part : IsShared s.plan c.args.shared = subst (λ (x : ClientState). IsShared x.plan c.args.shared) (sym c.client.view_is) c.requires.shared in
    let are : AreAllHands s.plan c.args.hands.items = subst (λ (x : ClientState). AreAllHands x.plan c.args.hands.items) (sym c.client.view_is) c.requires.hands in
    let o = c.close-state.result in
    let plan : plan_of_intake o ≡ intake_plan s.plan = c.close-state.ensures.fixed_part ∙ part.plans.0 in
    all_one_more (λ (q : MemorySeat). IsSeatOutside c.args.shared.memory q) c.push_reserved-2.new.self.items c.push_reserved-3.new.self.items c.into_parts-rows.result.memory_seat c.push_reserved-3.ensures.items
    (all_one_more (λ (q : MemorySeat). IsSeatOutside c.args.shared.memory q) c.gather-intake_seats.result.memory_seats.items c.push_reserved-2.new.self.items c.client.inside.memory_seat c.push_reserved-2.ensures.items
    (all_mapped (λ (q : MemorySeat). IsSeatOutside c.args.shared.memory q) (λ (hand : SessionHand). hand.memory) c.args.hands.items c.gather-intake_seats.result.memory_seats.items c.gather-intake_seats.ensures.seats.1 (memory_outside s.plan c.args.shared part c.args.hands.items are))
    (sym part.books.1, k.memory_seat.outside))
    (subst (λ (q : MemorySeat). IsSeatOutside c.args.shared.memory q) (sym c.into_parts-rows.ensures.memory_seat) (ap (λ (x : IntakePlan). x.memory) plan ∙ sym part.books.1, c.vouch.ensures.resting.outside))

pub close_answers-requires : goal.close_answers-requires
close_answers-requires c =
    let s : ClientState = client_state c.client.inside in
    let k : IsClient s = c.client.invariant.client in
    let part : IsShared s.plan c.args.shared = subst (λ (x : ClientState). IsShared x.plan c.args.shared) (sym c.client.view_is) c.requires.shared in
    let are : AreAllHands s.plan c.args.hands.items = subst (λ (x : ClientState). AreAllHands x.plan c.args.hands.items) (sym c.client.view_is) c.requires.hands in
    all_senders s.plan c.args.shared part c.args.hands.items are c.client.inside.taker c.gather-intake_seats.result.senders.items c.gather-intake_seats.ensures.seats.2 refl k.rings.taker.1

pub into_entries-requires : goal.into_entries-requires
into_entries-requires c =
    let s : ClientState = client_state c.client.inside in
    let k : IsClient s = c.client.invariant.client in
    let part : IsShared s.plan c.args.shared = subst (λ (x : ClientState). IsShared x.plan c.args.shared) (sym c.client.view_is) c.requires.shared in
    let are : AreAllHands s.plan c.args.hands.items = subst (λ (x : ClientState). AreAllHands x.plan c.args.hands.items) (sym c.client.view_is) c.requires.hands in
    let closed : s.closed ≡ true = ap (λ (x : ClientState). x.closed) c.client.view_is ∙ c.requires.closed in
    let m = c.close-buffers.result in
    let of : m.plan ≡ memory_plan s.plan = c.close-buffers.ensures.fixed_part ∙ part.plans.1 in
    let numbers : IsTrue (list_all (is_numbered s.plan.hands (s.plan.hands + 1)) m.entries) = subst (λ (x : MemoryPlan). IsTrue (list_all (is_numbered x.limits.hands (x.limits.hands + 1)) m.entries)) of c.vouch-2.ensures.numbers in
    let fewer : All (λ (q : MemorySeat). Continues (λ (e : MemEntry). e.hand) (number q) (seen_by q) m.entries) c.push_reserved-2.new.self.items =
    all_but_last (λ (q : MemorySeat). Continues (λ (e : MemEntry). e.hand) (number q) (seen_by q) m.entries) c.push_reserved-2.new.self.items c.push_reserved-3.new.self.items c.into_parts-rows.result.memory_seat c.push_reserved-3.ensures.items c.close-buffers.ensures.seats in
    let later_h : HasAllOf (λ (e : MemEntry). e.hand) m.entries s.memory_seat =
    all_last (λ (q : MemorySeat). Continues (λ (e : MemEntry). e.hand) (number q) (seen_by q) m.entries) c.gather-intake_seats.result.memory_seats.items c.push_reserved-2.new.self.items c.client.inside.memory_seat c.push_reserved-2.ensures.items fewer in
    home s k closed m.entries numbers later_h

pub returns-clause-kept : goal.returns-clause-kept
returns-clause-kept c =
    let s : ClientState = client_state c.client.inside in
    let part : IsShared s.plan c.args.shared = subst (λ (x : ClientState). IsShared x.plan c.args.shared) (sym c.client.view_is) c.requires.shared in
    let plan : plan_of_intake c.close-state.result ≡ intake_plan s.plan = c.close-state.ensures.fixed_part ∙ part.plans.0 in
    let of : c.close-buffers.result.plan ≡ memory_plan s.plan = c.close-buffers.ensures.fixed_part ∙ part.plans.1 in
    let keeps : s.plan.spec.keeps ≡ c.args.client.plan.spec.keeps = ap (λ (x : ClientState). x.plan.spec.keeps) c.client.view_is in
    record {
      log = c.client.invariant.counted.keeps ∙ keeps;
      rows = c.into_parts-rows.ensures.kept ∙ (ap (λ (x : IntakePlan). x.keeps) plan ∙ keeps);
      memory = c.into_entries.ensures.kept ∙ (ap (λ (x : MemoryPlan). x.limits.keeps) of ∙ keeps);
    }

pub returns-clause-whole : goal.returns-clause-whole
returns-clause-whole c =
    let s : ClientState = client_state c.client.inside in
    let k : IsClient s = c.client.invariant.client in
    let part : IsShared s.plan c.args.shared = subst (λ (x : ClientState). IsShared x.plan c.args.shared) (sym c.client.view_is) c.requires.shared in
    let are : AreAllHands s.plan c.args.hands.items = subst (λ (x : ClientState). AreAllHands x.plan c.args.hands.items) (sym c.client.view_is) c.requires.hands in
    let closed : s.closed ≡ true = ap (λ (x : ClientState). x.closed) c.client.view_is ∙ c.requires.closed in
    let o = c.close-state.result in
    let plan : plan_of_intake o ≡ intake_plan s.plan = c.close-state.ensures.fixed_part ∙ part.plans.0 in
    let later : HasAllOf maker_of o.entries s.intake_seat =
    all_last (λ (q : IntakeSeat). Continues maker_of (number q) (seen_by q) o.entries) c.gather-intake_seats.result.intake_seats.items c.push_reserved.new.self.items c.client.inside.intake_seat c.push_reserved.ensures.items c.close-state.ensures.seats in
    let m = c.close-buffers.result in
    let of : m.plan ≡ memory_plan s.plan = c.close-buffers.ensures.fixed_part ∙ part.plans.1 in
    let numbers : IsTrue (list_all (is_numbered s.plan.hands (s.plan.hands + 1)) m.entries) = subst (λ (x : MemoryPlan). IsTrue (list_all (is_numbered x.limits.hands (x.limits.hands + 1)) m.entries)) of c.vouch-2.ensures.numbers in
    let fewer : All (λ (q : MemorySeat). Continues (λ (e : MemEntry). e.hand) (number q) (seen_by q) m.entries) c.push_reserved-2.new.self.items =
    all_but_last (λ (q : MemorySeat). Continues (λ (e : MemEntry). e.hand) (number q) (seen_by q) m.entries) c.push_reserved-2.new.self.items c.push_reserved-3.new.self.items c.into_parts-rows.result.memory_seat c.push_reserved-3.ensures.items c.close-buffers.ensures.seats in
    let later_h : HasAllOf (λ (e : MemEntry). e.hand) m.entries s.memory_seat =
    all_last (λ (q : MemorySeat). Continues (λ (e : MemEntry). e.hand) (number q) (seen_by q) m.entries) c.gather-intake_seats.result.memory_seats.items c.push_reserved-2.new.self.items c.client.inside.memory_seat c.push_reserved-2.ensures.items fewer in
    let hands : List SessionHand = c.args.hands.items in
    let taken = c.into_parts-rows.ensures in
    let whole : IsSessionWhole s hands s.log c.into_parts-rows.result.rows.items m.entries = record {
      intake = o;
      log_is = refl;
      rows_are = taken.rows;
      intake_history = record {
        intake = c.vouch.ensures;
        plan = plan;
        closed = phase_is s k closed o c.vouch.ensures plan later;
        of_hands = all_unmapped (λ (q : IntakeSeat). Continues maker_of (number q) (seen_by q) o.entries) (λ (hand : SessionHand). hand.intake) hands c.gather-intake_seats.result.intake_seats.items c.gather-intake_seats.ensures.seats.0
            (all_but_last (λ (q : IntakeSeat). Continues maker_of (number q) (seen_by q) o.entries) c.gather-intake_seats.result.intake_seats.items c.push_reserved.new.self.items c.client.inside.intake_seat c.push_reserved.ensures.items c.close-state.ensures.seats);
        of_client = later;
        others = λ n above. c.close-state.ensures.others n (all_others (λ (q : IntakeSeat). number q) (seat_count c.args.shared.intake) n c.push_reserved.new.self.items (omega (arith, above, part.seats.0)) c.close-state.ensures.numbers)
            ∙ ap (λ l. entries_of maker_of n l) part.nothing.0;
      };
      memory_history = record {
        of_hands = all_unmapped (λ (q : MemorySeat). Continues (λ (e : MemEntry). e.hand) (number q) (seen_by q) m.entries) (λ (hand : SessionHand). hand.memory) hands c.gather-intake_seats.result.memory_seats.items c.gather-intake_seats.ensures.seats.1
            (all_but_last (λ (q : MemorySeat). Continues (λ (e : MemEntry). e.hand) (number q) (seen_by q) m.entries) c.gather-intake_seats.result.memory_seats.items c.push_reserved-2.new.self.items c.client.inside.memory_seat c.push_reserved-2.ensures.items fewer);
        of_client = later_h;
        of_admissions = subst (λ (q : MemorySeat). Continues (λ (e : MemEntry). e.hand) (number q) (seen_by q) m.entries) taken.memory_seat
            (all_last (λ (q : MemorySeat). Continues (λ (e : MemEntry). e.hand) (number q) (seen_by q) m.entries) c.push_reserved-2.new.self.items c.push_reserved-3.new.self.items c.into_parts-rows.result.memory_seat c.push_reserved-3.ensures.items c.close-buffers.ensures.seats);
        others = λ n above. c.close-buffers.ensures.others n (all_others (λ (q : MemorySeat). number q) (seat_count c.args.shared.memory) n c.push_reserved-3.new.self.items (omega (arith, above, part.seats.1)) c.close-buffers.ensures.numbers)
            ∙ ap (λ l. entries_of (λ (e : MemEntry). e.hand) n l) part.nothing.1;
        numbers = numbers;
        carriers = c.vouch-2.ensures.done;
        home = home s k closed m.entries numbers later_h;
        once = c.into_entries.ensures.once;
        last = c.into_entries.ensures.last;
        closes = c.into_entries.ensures.closes;
        lifts = subst (λ (x : MemoryPlan). IsTrue (all_with_before (lifts_page x.limits.size) (events m.entries))) of c.into_entries.ensures.lifts;
      };
      joined = record {
        requests = subst (λ (t : TakerState). IsPrefix t.taken c.client.inside.sender.pushed) taken.taker c.close_requests.ensures;
        answers = subst (λ (l : List (List Slip)). ComeFrom l c.client.inside.taker.taken)
            (ap (map (λ (x : SlipSenderState). x.pushed)) c.gather-intake_seats.ensures.seats.2 ∙ map_twice (λ (hand : SessionHand). hand.sender) (λ (x : SlipSenderState). x.pushed) hands) c.close_answers.ensures.order;
        rows = subst (λ (q : CellSeat). HaveRows (admitted q) (back q)) taken.cell_seat c.close.ensures.rows;
        those = subst (λ (q : CellSeat). AreThoseAdmitted (admitted q) (back q)) taken.cell_seat c.close.ensures.those;
        ends = subst (λ (q : CellSeat). (g j : ℕ) → g < 8 → HasItsEnd g j (admitted q) (back q)) taken.cell_seat c.close.ensures.ends;
      };
      client_of = client_of s k closed o c.vouch.ensures plan later taken.before_close m.entries numbers later_h;
    } in
    subst (λ (x : ClientState). IsSessionWhole x hands c.client.inside.log.items c.into_parts-rows.result.rows.items c.into_entries.result.items) c.client.view_is
    (subst (λ (h : List MemEntry). IsSessionWhole s hands s.log c.into_parts-rows.result.rows.items h) (sym c.into_entries.ensures.entries) whole)
