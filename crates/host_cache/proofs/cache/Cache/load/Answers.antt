use Rattle.std.proofs.Common.{IsTrue, sym, ◌∙◌, subst}
use Rattle.host_block.specs.{done}
use Rattle.host_io.specs.{Shape}
use Rattle.host_cache.specs.{MakesRoom, Then, ReadsDisk, PutsInFront, clean_line, cache_outcome}
use Rattle.host_cache.proofs.MadeLemmas.{runs_then, runs_early}
use Rattle.host_cache.proofs.RunLemmas.{same_then, faulted_then, absent_after, on_ok_map}
use Rattle.host_cache.proofs.cache.Cache.load.Goals as goal

pub fetch-requires-clause-absent : goal.fetch-requires-clause-absent
fetch-requires-clause-absent g c = absent_after c.args.b done c.args.self.now c.make_room.new.self c.requires.absent c.in-Ok.ensures.calls

pub returns-in-Err-clause-calls : goal.returns-in-Err-clause-calls
returns-in-Err-clause-calls g c =
    runs_early MakesRoom (Then (ReadsDisk c.args.b) (PutsInFront c.args.b (clean_line c.args.into.now))) c.in-Err.error c.args.self.now c.make_room.new.self c.in-Err.ensures.calls

pub returns-clause-calls : goal.returns-clause-calls
returns-clause-calls g c =
    runs_then MakesRoom (Then (ReadsDisk c.args.b) (PutsInFront c.args.b (clean_line c.fetch.new.into))) (cache_outcome c.fetch.result) c.args.self.now c.make_room.new.self c.fetch.new.self
    c.in-Ok.ensures.calls c.fetch.ensures.calls

pub returns-clause-fault : goal.returns-clause-fault
returns-clause-fault g c is = faulted_then MakesRoom done c.args.self.now c.make_room.new.self c.fetch.new.self c.in-Ok.ensures.calls (c.fetch.ensures.fault is)

pub returns-clause-bytes : goal.returns-clause-bytes
returns-clause-bytes g c told =
    let shape = c.make_room.ensures.shape in
    on_ok_map c.fetch.result (λ is. is ∙ c.make_room.ensures.content told c.args.b c.requires.block) (c.fetch.ensures.bytes (subst (λ (sh : Shape). IsTrue sh.tells) (sym shape) told))

pub returns-clause-content : goal.returns-clause-content
returns-clause-content g c =
    same_then c.args.self.now c.make_room.new.self c.fetch.new.self c.make_room.ensures.shape c.make_room.ensures.content c.fetch.ensures.content
