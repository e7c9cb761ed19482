use Rattle.host_cache.specs.{Prepares, PutsInFront, dirty_line}
use Rattle.host_cache.proofs.MadeLemmas.{runs_early}
use Rattle.host_cache.proofs.cache.Cache.write.Goals as goal

pub returns-in-Err-clause-calls : goal.returns-in-Err-clause-calls
returns-in-Err-clause-calls g c =
    runs_early (Prepares c.args.b) (PutsInFront c.args.b (dirty_line c.args.from.now)) c.in-Err.error c.args.self.now c.prepare.new.self c.in-Err.ensures.calls
