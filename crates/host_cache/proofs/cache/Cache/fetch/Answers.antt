use Rattle.host_cache.specs.{ReadsDisk, PutsInFront, clean_line}
use Rattle.host_cache.proofs.MadeLemmas.{runs_early}
use Rattle.host_cache.proofs.RunLemmas.{read_same_content}
use Rattle.host_cache.proofs.cache.Cache.fetch.Goals as goal

pub returns-in-Err-clause-calls : goal.returns-in-Err-clause-calls
returns-in-Err-clause-calls g c =
    runs_early (ReadsDisk c.args.b) (PutsInFront c.args.b (clean_line c.read_through.new.into)) c.in-Err.error c.args.self.now c.read_through.new.self c.in-Err.ensures.calls

pub returns-in-Err-clause-content : goal.returns-in-Err-clause-content
returns-in-Err-clause-content g c = read_same_content c.args.self.now c.read_through.new.self c.read_through.ensures.held c.read_through.ensures.state
