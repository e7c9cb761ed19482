use Rattle.std.proofs.Common.{List, sym, subst}
use Rattle.host_group.specs.{cells_id}
use Rattle.host_intake.specs.{IntakeEntry}
use Rattle.host_turn.specs.{number, seen_by}
use Rattle.session_client.specs.{IsToDo}
use Rattle.session_client.proofs.Tasks.{after_taking, entered_to_do}
use Rattle.session_client.proofs.taking.take.Goals as goal

pub returns-clause-still : goal.returns-clause-still
returns-clause-still g c task d =
    let e = c.enter-intake.ensures in
    let t = c.take_in_turn-taken in
    let here = entered_to_do (cells_id c.args.shared.now.cells) c.args.number (number c.args.hand.now.intake) (seen_by c.args.hand.now.intake) (seen_by c.enter-intake.new.seat) c.enter-intake.result.entries c.requires.hand.number_is e.later e.story task d in
    subst (λ (xs : List IntakeEntry). IsToDo (cells_id c.args.shared.now.cells) c.args.number xs task) (sym c.leave.ensures.story)
    (after_taking (cells_id c.args.shared.now.cells) c.args.number c.enter-intake.result.entries t.new.intake.entries t.ensures.adds t.ensures.landings task here)
