use Rattle.std.proofs.Common.{◌≡◌, List, [], ◌∷◌, ◌++◌, sym, ap, ◌∙◌}
use Rattle.host_record.specs.{Finish}
use Rattle.host_intake.specs.{IntakeEntry, Turned, Phase, Running, IntakeState, turns}
use Rattle.host_model.specs.{last}
use Rattle.host_turn.specs.{seen_by}
use Rattle.host_session.specs.{phase_for}
use Rattle.host_session.proofs.Turning.{entered_turns, same_seat, turned_more}
use Rattle.host_session.proofs.finish.turn_to.Goals as goal
use Rattle.host_session.proofs.finish.turn_to.Goals.{in-Drain, in-Abort}

pub drain-requires-clause-phase : goal.drain-requires-clause-phase
drain-requires-clause-phase g c =
    let e = c.enter-intake.ensures in
    ap (λ (l : List Phase). last Running l) (entered_turns c.args.client [] c.args.seat.now c.enter-intake.new.seat c.enter-intake.result c.requires.running e.seat.0 e.story e.later e.fixed_part c.vouch.ensures)

pub abort-requires-clause-phase : goal.abort-requires-clause-phase
abort-requires-clause-phase g c =
    let e = c.enter-intake.ensures in
    ap (λ (l : List Phase). last Running l) (entered_turns c.args.client [] c.args.seat.now c.enter-intake.new.seat c.enter-intake.result c.requires.running e.seat.0 e.story e.later e.fixed_part c.vouch.ensures)

pub returns : goal.returns
returns g c =
    let e = c.enter-intake.ensures in
    let l = c.leave.ensures in
    let entries : c.match-how.intake.entries ≡ c.enter-intake.result.entries ++ Turned c.args.client (phase_for c.args.how) ∷ [] = elim c.match-how.branch [
      | in-Drain w ↦ ap (λ (s : IntakeState). s.entries) (w.intake-is ∙ w.drain.ensures.entry) ∙ ap (λ (h : Finish). c.enter-intake.result.entries ++ Turned c.args.client (phase_for h) ∷ []) (sym w.in-Drain.is)
      | in-Abort w ↦ ap (λ (s : IntakeState). s.entries) (w.intake-is ∙ w.abort.ensures.entry) ∙ ap (λ (h : Finish). c.enter-intake.result.entries ++ Turned c.args.client (phase_for h) ∷ []) (sym w.in-Abort.is)
    ] in
    let left : seen_by c.leave.new.seat ≡ seen_by c.enter-intake.new.seat ++ Turned c.args.client (phase_for c.args.how) ∷ [] = l.story ∙ (entries ∙ ap (λ (x : List IntakeEntry). x ++ Turned c.args.client (phase_for c.args.how) ∷ []) e.story) in
    record {
      found = seen_by c.enter-intake.new.seat;
      turn = record {
        seat = (same_seat c.args.seat.now c.enter-intake.new.seat c.leave.new.seat e.seat.0 l.seat.0, l.seat.1);
        later = e.later;
        left = left;
      };
      only = ap turns left ∙ (turned_more c.args.client (seen_by c.enter-intake.new.seat) (phase_for c.args.how)
          ∙ ap (λ (x : List Phase). x ++ phase_for c.args.how ∷ []) (ap turns (sym e.story) ∙ (entered_turns c.args.client [] c.args.seat.now c.enter-intake.new.seat c.enter-intake.result c.requires.running e.seat.0 e.story e.later e.fixed_part c.vouch.ensures)));
    }
