use Rattle.std.proofs.Common.{sym, ap, ◌∙◌}
use Rattle.host_memory.specs.{is_block_of, history}
use Rattle.host_turn.specs.{number, seen_by}
use Rattle.host_hand.proofs.BlockTurns.{lifted_grown, lifted_held, unlifted_grown}
use Rattle.host_hand.proofs.HoldPins.{entered_as, held_still, page_fits, pinned_now}
use Rattle.host_hand.proofs.block.lift_page.Goals as goal

pub page-page-requires : goal.page-page-requires
page-page-requires g c =
    let e = c.enter_past-memory.ensures in
    let m = c.enter_past-memory.result in
    let later = entered_as c.args.errand.now.hand (number c.args.seat.now) (seen_by c.args.seat.now) (seen_by c.enter_past-memory.new.seat) m.entries c.requires.buffers.number_is (sym e.story) e.later in
    page_fits c.args.errand.now m.entries c.args.k (c.vouch.ensures.pages c.args.errand.now.request.vmoid) (held_still c.args.errand.now (seen_by c.args.seat.now) m.entries later c.requires.held) c.requires.block

pub lift-piece-requires-clause-pinned : goal.lift-piece-requires-clause-pinned
lift-piece-requires-clause-pinned g c =
    let e = c.enter_past-memory.ensures in
    let m = c.enter_past-memory.result in
    let later = entered_as c.args.errand.now.hand (number c.args.seat.now) (seen_by c.args.seat.now) (seen_by c.enter_past-memory.new.seat) m.entries c.requires.buffers.number_is (sym e.story) e.later in
    pinned_now c.args.errand.now m.entries (c.vouch.ensures.one_pin c.args.errand.now.index) c.vouch.ensures.done (held_still c.args.errand.now (seen_by c.args.seat.now) m.entries later c.requires.held)

pub lift-piece-requires-clause-page : goal.lift-piece-requires-clause-page
lift-piece-requires-clause-page g c =
    let e = c.enter_past-memory.ensures in
    let m = c.enter_past-memory.result in
    let later = entered_as c.args.errand.now.hand (number c.args.seat.now) (seen_by c.args.seat.now) (seen_by c.enter_past-memory.new.seat) m.entries c.requires.buffers.number_is (sym e.story) e.later in
    let held = held_still c.args.errand.now (seen_by c.args.seat.now) m.entries later c.requires.held in
    ap (is_block_of c.args.errand.now.request.vmoid (history m)) c.page-page.ensures ∙ held.blocks c.args.k c.requires.block

pub returns-clause-held : goal.returns-clause-held
returns-clause-held g c =
    let e = c.enter_past-memory.ensures in
    let m = c.enter_past-memory.result in
    let later = entered_as c.args.errand.now.hand (number c.args.seat.now) (seen_by c.args.seat.now) (seen_by c.enter_past-memory.new.seat) m.entries c.requires.buffers.number_is (sym e.story) e.later in
    lifted_held c.args.errand.now c.args.k c.page-page.result (seen_by c.args.seat.now) m.entries later e.past c.page-page.ensures c.lift-piece.result c.lift-piece.new.memory.entries (seen_by c.leave.new.seat) c.leave.ensures.story c.lift-piece.ensures.lifted c.lift-piece.ensures.refused c.requires.held

pub returns-clause-lifted : goal.returns-clause-lifted
returns-clause-lifted g c =
    let e = c.enter_past-memory.ensures in
    let m = c.enter_past-memory.result in
    let later = entered_as c.args.errand.now.hand (number c.args.seat.now) (seen_by c.args.seat.now) (seen_by c.enter_past-memory.new.seat) m.entries c.requires.buffers.number_is (sym e.story) e.later in
    lifted_grown c.args.errand.now c.args.k c.page-page.result (seen_by c.args.seat.now) m.entries later e.past c.page-page.ensures c.lift-piece.result c.lift-piece.new.memory.entries (seen_by c.leave.new.seat) c.leave.ensures.story c.lift-piece.ensures.lifted

pub returns-clause-refused : goal.returns-clause-refused
returns-clause-refused g c =
    let e = c.enter_past-memory.ensures in
    let m = c.enter_past-memory.result in
    let later = entered_as c.args.errand.now.hand (number c.args.seat.now) (seen_by c.args.seat.now) (seen_by c.enter_past-memory.new.seat) m.entries c.requires.buffers.number_is (sym e.story) e.later in
    unlifted_grown c.args.errand.now c.args.k c.page-page.result (seen_by c.args.seat.now) m.entries later e.past c.page-page.ensures c.lift-piece.result c.lift-piece.new.memory.entries (seen_by c.leave.new.seat) c.leave.ensures.story c.lift-piece.ensures.refused
