use Rattle.std.proofs.Common.{sym, subst}
use Rattle.host_group.specs.{cells_id}
use Rattle.session_client.specs.{Taken, IsTakenToDo}
use Rattle.session_client.proofs.Tasks.{landings_taken}
use Rattle.session_client.proofs.ToDo.{admitted_to_do, refused_stays, to_do}
use Rattle.session_client.proofs.taking.take_in_turn.Goals as goal

pub returns-in-Refused-clause-task : goal.returns-in-Refused-clause-task
returns-in-Refused-clause-task g c =
    let a = c.in-Refused.ensures.answer.1 in
    let r = a.1 in
    to_do (cells_id c.args.shared.now.cells) c.args.number c.args.intake.now c.admit_next.new.self c.admit_next.new.seat c.in-Refused.envelope c.vouch.ensures.landed c.requires.cells a.0 r.taken r.by c.in-Refused.status c.in-Refused.right
    (refused_stays (cells_id c.args.shared.now.cells) c.args.number c.args.intake.now c.admit_next.new.self c.admit_next.new.seat c.in-Refused.envelope c.vouch.ensures.landed c.requires.cells a.0 r.taken r.by c.in-Refused.status r.verdict)
    r.right_out

pub returns-in-Refused-clause-landings : goal.returns-in-Refused-clause-landings
returns-in-Refused-clause-landings g c =
    let a = c.in-Refused.ensures.answer.1 in
    landings_taken c.args.intake.now.entries c.admit_next.new.self.entries a.0 a.1.taken.entries

pub returns-in-Admitted-clause-task : goal.returns-in-Admitted-clause-task
returns-in-Admitted-clause-task g c =
    let a = c.in-Admitted.ensures.answer.1 in
    let r = a.1 in
    subst (λ (x : Taken). IsTakenToDo (cells_id c.args.shared.now.cells) c.args.number c.admit_next.new.self.entries x) (sym c.admitted.ensures.task)
    (admitted_to_do (cells_id c.args.shared.now.cells) c.args.number c.args.intake.now c.admit_next.new.self c.admit_next.new.seat c.in-Admitted.envelope c.vouch.ensures.landed c.requires.cells a.0 r.taken r.by c.in-Admitted.pages c.in-Admitted.right r)

pub returns-in-Admitted-clause-landings : goal.returns-in-Admitted-clause-landings
returns-in-Admitted-clause-landings g c =
    let a = c.in-Admitted.ensures.answer.1 in
    landings_taken c.args.intake.now.entries c.admit_next.new.self.entries a.0 a.1.taken.entries
