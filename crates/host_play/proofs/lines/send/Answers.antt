use Rattle.std.proofs.Common.{refl}
use Rattle.host_play.proofs.Accounts.{square_worked}
use Rattle.host_play.proofs.LineSteps.{send_done}
use Rattle.host_play.proofs.Quiet.{sent_before}
use Rattle.host_play.proofs.lines.send.Goals as goal

pub send_through-requires-clause-may : goal.send_through-requires-clause-may
send_through-requires-clause-may g c = c.requires.may.waits

pub send_through-requires-clause-records : goal.send_through-requires-clause-records
send_through-requires-clause-records g c = c.requires.may.records refl

pub returns-clause-done : goal.returns-clause-done
returns-clause-done g c = send_done c.args.bytes c.send_through.result c.args.client.now c.send_through.new.client c.send_through.ensures.sent c.requires.may.waits.open_still

pub returns-clause-helped : goal.returns-clause-helped
returns-clause-helped g c =
    let e = c.send_through.ensures in
    record {
      hand = e.hand;
      number_is = e.worked.number;
      account = λ sq. square_worked c.args.hand.now c.send_through.new.hand c.args.client.now c.send_through.new.client e.worked (sent_before c.args.bytes c.send_through.result c.args.client.now c.send_through.new.client e.sent) sq;
    }
