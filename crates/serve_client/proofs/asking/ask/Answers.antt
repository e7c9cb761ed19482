use Rattle.std.proofs.Common.{◌≤◌, ℕ, length, subst, ◌∙◌}
use Rattle.host_model.specs.{received}
use Rattle.host_play.proofs.LineSteps.{send_done, wait_all_done}
use Rattle.host_play.proofs.PlayedLines.{helped_then}
use Rattle.host_worker.proofs.Shared.{client_still}
use Rattle.serve_client.proofs.Asked.{helped_received, helped_sent, may_less, may_received, may_sent}
use Rattle.serve_client.proofs.asking.ask.Goals as goal

pub send_through-requires-clause-may : goal.send_through-requires-clause-may
send_through-requires-clause-may g c = may_less c.args.client.now c.requires.may

pub wait_for-requires-clause-client : goal.wait_for-requires-clause-client
wait_for-requires-clause-client g c =
    client_still c.args.server.now c.args.client.now c.send_through.new.client
    (send_done c.args.bytes c.send_through.result c.args.client.now c.send_through.new.client c.send_through.ensures.sent c.requires.may.open_still).plan c.requires.client

pub wait_for-requires-clause-may : goal.wait_for-requires-clause-may
wait_for-requires-clause-may g c =
    let e = c.send_through.ensures in
    may_sent c.args.bytes c.send_through.result c.args.client.now c.send_through.new.client e.sent e.room c.requires.may

pub returns-clause-plan : goal.returns-clause-plan
returns-clause-plan g c =
    let e = c.send_through.ensures in
    let w = c.wait_for.ensures in
    let s = send_done c.args.bytes c.send_through.result c.args.client.now c.send_through.new.client e.sent c.requires.may.open_still in
    let enough = subst (λ (n : ℕ). n ≤ length (received c.wait_for.new.client.log)) c.owed-all.ensures w.total in
    (wait_all_done c.send_through.new.client c.wait_for.new.client w.received enough s.open_still).plan ∙ s.plan

pub returns-clause-may : goal.returns-clause-may
returns-clause-may g c =
    let e = c.send_through.ensures in
    let w = c.wait_for.ensures in
    may_received c.send_through.new.client c.wait_for.new.client w.received w.room (subst (λ (n : ℕ). n ≤ length (received c.wait_for.new.client.log)) c.owed-all.ensures w.total)
    (may_sent c.args.bytes c.send_through.result c.args.client.now c.send_through.new.client e.sent e.room c.requires.may)

pub returns-clause-helped : goal.returns-clause-helped
returns-clause-helped g c =
    let e = c.send_through.ensures in
    let w = c.wait_for.ensures in
    helped_then c.args.server.now c.args.hand.now c.send_through.new.hand c.wait_for.new.hand c.args.client.now c.send_through.new.client c.wait_for.new.client
    (helped_sent c.args.server.now c.args.hand.now c.send_through.new.hand c.args.bytes c.send_through.result c.args.client.now c.send_through.new.client e.hand e.worked e.sent)
    (helped_received c.args.server.now c.send_through.new.hand c.wait_for.new.hand c.send_through.new.client c.wait_for.new.client w.hand w.worked w.received)
