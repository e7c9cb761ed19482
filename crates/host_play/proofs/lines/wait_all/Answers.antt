use Rattle.std.proofs.Common.{◌≤◌, ℕ, length, subst}
use Rattle.host_model.specs.{received}
use Rattle.host_play.proofs.Accounts.{square_worked}
use Rattle.host_play.proofs.LineSteps.{wait_all_done}
use Rattle.host_play.proofs.Quiet.{received_before}
use Rattle.host_play.proofs.lines.wait_all.Goals as goal

pub wait_for-requires-clause-may : goal.wait_for-requires-clause-may
wait_for-requires-clause-may g c = c.requires.may.waits

pub returns-clause-done : goal.returns-clause-done
returns-clause-done g c =
    let e = c.wait_for.ensures in
    wait_all_done c.args.client.now c.wait_for.new.client e.received (subst (λ (n : ℕ). n ≤ length (received c.wait_for.new.client.log)) c.owed-all.ensures e.total) c.requires.may.waits.open_still

pub returns-clause-helped : goal.returns-clause-helped
returns-clause-helped g c =
    let e = c.wait_for.ensures in
    record {
      hand = e.hand;
      number_is = e.worked.number;
      account = λ sq. square_worked c.args.hand.now c.wait_for.new.hand c.args.client.now c.wait_for.new.client e.worked (received_before c.args.client.now c.wait_for.new.client e.received) sq;
    }
