use Rattle.std.proofs.Common.{sym, ◌∙◌}
use Rattle.host_model.specs.{MemEntry}
use Rattle.host_turn.specs.{number, seen_by}
use Rattle.host_log.proofs.Growing.{grown_nothing}
use Rattle.host_hand.proofs.HoldPins.{entered_as}
use Rattle.host_hand.proofs.hold.look.Goals as goal

pub returns-clause-seen : goal.returns-clause-seen
returns-clause-seen g c =
    let e = c.enter-memory.ensures in
    grown_nothing (λ (x : MemEntry). x.hand) c.args.errand.now.hand c.args.errand.now.memory_front c.length-length.result (seen_by c.args.seat.now) (seen_by c.leave.new.seat)
    (entered_as c.args.errand.now.hand (number c.args.seat.now) (seen_by c.args.seat.now) (seen_by c.enter-memory.new.seat) (seen_by c.leave.new.seat) c.requires.number_is (sym (c.leave.ensures.story ∙ e.story)) e.later)
