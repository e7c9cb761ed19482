use Rattle.std.proofs.Common.{length, sym, ap, ◌∙◌}
use Rattle.host_frames.specs.{pool_id}
use Rattle.host_memory.specs.{block_size_of}
use Rattle.host_turn.specs.{number, seen_by}
use Rattle.host_hand.proofs.HoldGone.{done_entries, let_go_of, pages_here}
use Rattle.host_hand.proofs.HoldPins.{entered_as, held_still, pinned_now}
use Rattle.host_hand.proofs.hold.let_go.Goals as goal

pub done-freed-requires : goal.done-freed-requires
done-freed-requires g c =
    let e = c.enter_past-memory.ensures in
    let later = entered_as c.args.errand.now.hand (number c.args.seat.now) (seen_by c.args.seat.now) (seen_by c.enter_past-memory.new.seat) c.enter_past-memory.result.entries c.requires.seat.number_is (sym e.story) e.later in
    pinned_now c.args.errand.now c.enter_past-memory.result.entries (c.vouch.ensures.one_pin c.args.errand.now.index) c.vouch.ensures.done (held_still c.args.errand.now (seen_by c.args.seat.now) c.enter_past-memory.result.entries later c.requires.held)

pub returns-clause-gone : goal.returns-clause-gone
returns-clause-gone g c =
    let e = c.enter_past-memory.ensures in
    let later = entered_as c.args.errand.now.hand (number c.args.seat.now) (seen_by c.args.seat.now) (seen_by c.enter_past-memory.new.seat) c.enter_past-memory.result.entries c.requires.seat.number_is (sym e.story) e.later in
    let m = c.enter_past-memory.result in
    let d = c.done-freed.ensures in
    let_go_of c.args.errand.now (pool_id c.args.pool.now) (block_size_of m) c.length-front.result (seen_by c.args.seat.now) m.entries (seen_by c.leave.new.seat) later e.past (c.length-front.ensures ∙ ap (λ l. length l) (sym c.leave.ensures.story))
    c.done-freed.result d.answer (pages_here (pool_id c.args.pool.now) m c.args.errand.now.request.vmoid c.done-freed.result (c.requires.pool _ (sym e.seat.0.3 ∙ e.fixed_part)) d.pages)
    (c.leave.ensures.story ∙ done_entries c.args.errand.now.hand c.args.errand.now.index c.args.errand.now.request.vmoid c.done-freed.result m c.done-freed.new.self d.entries)
