use Rattle.std.proofs.Common.{◌≡◌}
use Rattle.host_worker.specs.{MayWait}
use Rattle.host_play.specs.{HasHelped}
use Rattle.serve_client.proofs.asking.ask_all.Given as goal

abbrev pub invariant-loop-n : goal.invariant-loop-n
invariant-loop-n g l = record {
  helped : HasHelped l.server l.fn.hand l.hand l.fn.client l.client;
  plan : l.client.plan ≡ l.fn.client.plan;
  may : MayWait 0 l.client;
}
