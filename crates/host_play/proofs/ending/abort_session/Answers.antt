use Rattle.std.proofs.Common.{[], ◌∷◌}
use Rattle.host_model.specs.{Aborted}
use Rattle.host_play.proofs.Accounts.{square_ended}
use Rattle.host_play.proofs.LineSteps.{abort_closed}
use Rattle.host_play.proofs.Quiet.{silent_abort}
use Rattle.host_play.proofs.ending.abort_session.Goals as goal

pub returns-clause-closed : goal.returns-clause-closed
returns-clause-closed g c = abort_closed c.args.client.now c.abort.new.client c.abort.ensures.aborted

pub returns-clause-helped : goal.returns-clause-helped
returns-clause-helped g c =
    let e = c.abort.ensures in
    record {
      hand = e.hand;
      number_is = e.worked.number;
      account = λ sq. square_ended c.args.hand.now c.abort.new.hand c.args.client.now c.abort.new.client (Aborted ∷ []) e.worked e.aborted.log_is silent_abort sq;
    }
