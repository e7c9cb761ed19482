use Rattle.std.proofs.Common.{◌<◌, ℕ, length, refl, sym, ap, subst, ◌∙◌}
use Rattle.host_model.specs.{sent}
use Rattle.host_play.proofs.PlayedLines.{helped_none, helped_then}
use Rattle.host_worker.proofs.Shared.{client_still}
use Rattle.serve_client.proofs.asking.ask_all.Goals as goal

pub loop-n-init : goal.loop-n-init
loop-n-init g c = record {
  helped = helped_none c.args.server.now c.args.hand.now c.args.client.now c.requires.hand;
  plan = refl;
  may = c.requires.may;
}

pub ask-requires-clause-client : goal.ask-requires-clause-client
ask-requires-clause-client g c = client_still c.args.server.now c.args.client.now c.loop-n.client c.loop-n.invariant.plan c.requires.client

pub ask-requires-clause-hand : goal.ask-requires-clause-hand
ask-requires-clause-hand g c = c.loop-n.invariant.helped.hand

pub loop-n-preserved : goal.loop-n-preserved
loop-n-preserved g c =
    let so = c.loop-n.invariant in
    let e = c.ask.ensures in
    record {
      helped = helped_then c.args.server.now c.args.hand.now c.loop-n.hand c.ask.new.hand c.args.client.now c.loop-n.client c.ask.new.client so.helped e.helped;
      plan = e.plan ∙ so.plan;
      may = e.may;
    }
