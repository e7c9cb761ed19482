use Rattle.std.proofs.Common.{subst}
use Rattle.host_block.specs.{done}
use Rattle.host_io.specs.{Shape}
use Rattle.host_cache.specs.{WritesVictim, Then, WritesDirty, Syncs, cache_outcome, cache_error_outcome, shape_of, Runs}
use Rattle.host_cache.proofs.MadeLemmas.{runs_then, runs_early}
use Rattle.host_cache.proofs.cache.Cache.flush.Goals as goal

pub returns-in-Err-clause-calls : goal.returns-in-Err-clause-calls
returns-in-Err-clause-calls g c =
    runs_early WritesVictim (Then (WritesDirty (shape_of c.args.self.now).blocks) Syncs) c.in-Err.error c.args.self.now c.write_victim.new.self c.in-Err.ensures.calls

pub returns-in-Err-write_dirty-clause-calls : goal.returns-in-Err-write_dirty-clause-calls
returns-in-Err-write_dirty-clause-calls g c =
    let old = c.args.self.now in
    let mid = c.write_victim.new.self in
    let blocks = (shape_of old).blocks in
    let e = c.in-Err-write_dirty.error in
    let last = c.write_dirty.new.self in
    let dirty = subst (λ (sh : Shape). Runs (WritesDirty sh.blocks) mid (cache_error_outcome e) last) c.write_victim.ensures.shape c.in-Err-write_dirty.ensures.calls in
    runs_then WritesVictim (Then (WritesDirty blocks) Syncs) (cache_error_outcome e) old mid last c.in-Ok.ensures.calls (runs_early (WritesDirty blocks) Syncs e mid last dirty)

pub returns-clause-calls : goal.returns-clause-calls
returns-clause-calls g c =
    let old = c.args.self.now in
    let mid = c.write_victim.new.self in
    let blocks = (shape_of old).blocks in
    let written = c.write_dirty.new.self in
    let o = cache_outcome c.sync.result in
    let dirty = subst (λ (sh : Shape). Runs (WritesDirty sh.blocks) mid done written) c.write_victim.ensures.shape c.in-Ok-write_dirty.ensures.calls in
    runs_then WritesVictim (Then (WritesDirty blocks) Syncs) o old mid c.sync.new.self c.in-Ok.ensures.calls
    (runs_then (WritesDirty blocks) Syncs o mid written c.sync.new.self dirty c.sync.ensures.calls)
