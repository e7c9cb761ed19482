use Rattle.std.proofs.Common.{◌∷◌, [], sym, ap, ◌∙◌}
use Rattle.host_block.specs.{Read}
use Rattle.host_memory.specs.{is_block_of, history}
use Rattle.host_turn.specs.{number, seen_by}
use Rattle.host_hand.specs.{ask_at}
use Rattle.host_hand.proofs.BlockTurns.{left_turn, run_held}
use Rattle.host_hand.proofs.HoldPins.{entered_as, held_still, page_fits, pinned_now}
use Rattle.host_hand.proofs.block.read_block.Goals as goal

pub page-page-requires : goal.page-page-requires
page-page-requires g c =
    let e = c.enter_past-memory.ensures in
    let m = c.enter_past-memory.result in
    let later = entered_as c.args.errand.now.hand (number c.args.memory_seat.now) (seen_by c.args.memory_seat.now) (seen_by c.enter_past-memory.new.seat) m.entries c.requires.buffers.number_is (sym e.story) e.later in
    page_fits c.args.errand.now m.entries c.args.k (c.vouch.ensures.pages c.args.errand.now.request.vmoid) (held_still c.args.errand.now (seen_by c.args.memory_seat.now) m.entries later c.requires.held) c.requires.block.1

pub read_in_turn-run-requires-clause-pinned : goal.read_in_turn-run-requires-clause-pinned
read_in_turn-run-requires-clause-pinned g c =
    let e = c.enter_past-memory.ensures in
    let m = c.enter_past-memory.result in
    let later = entered_as c.args.errand.now.hand (number c.args.memory_seat.now) (seen_by c.args.memory_seat.now) (seen_by c.enter_past-memory.new.seat) m.entries c.requires.buffers.number_is (sym e.story) e.later in
    pinned_now c.args.errand.now m.entries (c.vouch.ensures.one_pin c.args.errand.now.index) c.vouch.ensures.done (held_still c.args.errand.now (seen_by c.args.memory_seat.now) m.entries later c.requires.held)

pub read_in_turn-run-requires-clause-page : goal.read_in_turn-run-requires-clause-page
read_in_turn-run-requires-clause-page g c =
    let e = c.enter_past-memory.ensures in
    let m = c.enter_past-memory.result in
    let later = entered_as c.args.errand.now.hand (number c.args.memory_seat.now) (seen_by c.args.memory_seat.now) (seen_by c.enter_past-memory.new.seat) m.entries c.requires.buffers.number_is (sym e.story) e.later in
    let held = held_still c.args.errand.now (seen_by c.args.memory_seat.now) m.entries later c.requires.held in
    (ap (is_block_of c.args.errand.now.request.vmoid (history m)) c.page-page.ensures ∙ held.blocks c.args.k c.requires.block.1, c.page-page.ensures)

pub returns-clause-held : goal.returns-clause-held
returns-clause-held g c =
    let e = c.enter_past-memory.ensures in
    let m = c.enter_past-memory.result in
    let r = c.read_in_turn-run in
    let later = entered_as c.args.errand.now.hand (number c.args.memory_seat.now) (seen_by c.args.memory_seat.now) (seen_by c.enter_past-memory.new.seat) m.entries c.requires.buffers.number_is (sym e.story) e.later in
    run_held c.args.errand.now Read c.args.k (ask_at c.args.errand.now Read c.args.k ∷ []) r.result (seen_by c.args.memory_seat.now) (seen_by c.leave.new.seat) (seen_by c.args.device_seat.now) (seen_by r.new.device_seat)
    (left_turn c.args.errand.now Read c.args.k (ask_at c.args.errand.now Read c.args.k ∷ []) r.result (seen_by c.args.memory_seat.now) m.entries r.new.memory.entries (seen_by c.leave.new.seat) (seen_by c.args.device_seat.now) (seen_by r.new.device_seat) later e.past c.leave.ensures.story r.ensures.run)
    c.requires.held

pub returns-clause-run : goal.returns-clause-run
returns-clause-run g c =
    let e = c.enter_past-memory.ensures in
    let m = c.enter_past-memory.result in
    let r = c.read_in_turn-run in
    let later = entered_as c.args.errand.now.hand (number c.args.memory_seat.now) (seen_by c.args.memory_seat.now) (seen_by c.enter_past-memory.new.seat) m.entries c.requires.buffers.number_is (sym e.story) e.later in
    left_turn c.args.errand.now Read c.args.k (ask_at c.args.errand.now Read c.args.k ∷ []) r.result (seen_by c.args.memory_seat.now) m.entries r.new.memory.entries (seen_by c.leave.new.seat) (seen_by c.args.device_seat.now) (seen_by r.new.device_seat) later e.past c.leave.ensures.story r.ensures.run
