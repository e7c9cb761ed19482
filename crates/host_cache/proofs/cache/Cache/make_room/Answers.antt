use Rattle.std.proofs.Common.{◌<◌, length, sym, ap, subst}
use Rattle.host_cache.specs.{cache_outcome, held_of}
use Rattle.host_cache.specs.declared.line.TheConstants.{ENTRIES}
use Rattle.host_cache.proofs.EntryLemmas.{Entries}
use Rattle.host_cache.proofs.RunLemmas.{written_lines, same_then, faulted_as, runs_room}
use Rattle.host_cache.proofs.cache.Cache.make_room.Goals as goal

pub returns-clause-calls : goal.returns-clause-calls
returns-clause-calls g c =
    runs_room (cache_outcome c.write_victim.result) c.args.self.now c.evict.new.self c.write_victim.new.self c.evict.ensures.held c.evict.ensures.disk c.write_victim.ensures.calls

pub returns-clause-fault : goal.returns-clause-fault
returns-clause-fault g c is = faulted_as c.args.self.now c.evict.new.self c.write_victim.new.self c.evict.ensures.disk (c.write_victim.ensures.fault is)

pub returns-clause-content : goal.returns-clause-content
returns-clause-content g c =
    same_then c.args.self.now c.evict.new.self c.write_victim.new.self (ap (λ d. g.D.Disk.shape d) c.evict.ensures.disk) c.evict.ensures.content c.write_victim.ensures.content

pub returns-clause-room : goal.returns-clause-room
returns-clause-room g c =
    let runs = c.write_victim.ensures.calls in
    subst (λ (l : Entries). length l < ENTRIES)
    (sym (written_lines (held_of c.evict.new.self) (held_of c.write_victim.new.self) runs.calls (cache_outcome c.write_victim.result) runs.ruled))
    c.evict.ensures.room
