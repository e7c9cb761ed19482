use Rattle.std.proofs.Common.{ℕ, List, [], ◌∷◌, ◌++◌, ◌∙◌, append_assoc}
use Rattle.host_model.specs.{Drained}
use Rattle.host_worker.specs.{received_events}
use Rattle.host_play.proofs.Accounts.{square_ended}
use Rattle.host_play.proofs.LineSteps.{drain_closed}
use Rattle.host_play.proofs.Quiet.{silent_drain}
use Rattle.host_play.proofs.ending.drain_session.Goals as goal

pub returns-clause-closed : goal.returns-clause-closed
returns-clause-closed g c = drain_closed c.args.client.now c.drain.new.client c.drain.ensures.drained

pub returns-clause-helped : goal.returns-clause-helped
returns-clause-helped g c =
    let e = c.drain.ensures in
    let answers : List (List ℕ) = e.drained.answers in
    record {
      hand = e.hand;
      number_is = e.worked.number;
      account = λ sq. square_ended c.args.hand.now c.drain.new.hand c.args.client.now c.drain.new.client (received_events answers ++ Drained ∷ []) e.worked
          (e.drained.log_is ∙ append_assoc c.args.client.now.log (received_events answers) (Drained ∷ [])) (silent_drain answers) sq;
    }
