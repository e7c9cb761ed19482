use Rattle.std.proofs.Common.{refl}
use Rattle.host_worker.proofs.finish.end_session.Goals as goal

pub returns-clause-end : goal.returns-clause-end
returns-clause-end c = record {
  spec = (refl, refl, refl);
  finish = c.finish_of-finish.ensures;
  whole = c.close_session.ensures.whole;
}
