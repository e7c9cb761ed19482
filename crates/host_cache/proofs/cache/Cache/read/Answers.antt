use Rattle.std.proofs.Common.{IsTrue, sym, ◌∙◌, subst}
use Rattle.host_block.specs.{done}
use Rattle.host_io.specs.{Shape}
use Rattle.host_cache.specs.{WritesVictim, Gives, cache_outcome}
use Rattle.host_cache.proofs.MadeLemmas.{runs_then, runs_early}
use Rattle.host_cache.proofs.RunLemmas.{same_then, faulted_then, on_ok_map}
use Rattle.host_cache.proofs.cache.Cache.read.Goals as goal

pub returns-in-Err-clause-calls : goal.returns-in-Err-clause-calls
returns-in-Err-clause-calls g c = runs_early WritesVictim (Gives c.args.b c.args.into.now) c.in-Err.error c.args.self.now c.write_victim.new.self c.in-Err.ensures.calls

pub returns-clause-calls : goal.returns-clause-calls
returns-clause-calls g c =
    runs_then WritesVictim (Gives c.args.b c.give.new.into) (cache_outcome c.give.result) c.args.self.now c.write_victim.new.self c.give.new.self c.in-Ok.ensures.calls c.give.ensures.calls

pub returns-clause-fault : goal.returns-clause-fault
returns-clause-fault g c is = faulted_then WritesVictim done c.args.self.now c.write_victim.new.self c.give.new.self c.in-Ok.ensures.calls (c.give.ensures.fault is)

pub returns-clause-bytes : goal.returns-clause-bytes
returns-clause-bytes g c told =
    on_ok_map c.give.result (λ is. is ∙ c.write_victim.ensures.content told c.args.b c.requires.block) (c.give.ensures.bytes (subst (λ (sh : Shape). IsTrue sh.tells) (sym c.write_victim.ensures.shape) told))

pub returns-clause-content : goal.returns-clause-content
returns-clause-content g c =
    same_then c.args.self.now c.write_victim.new.self c.give.new.self c.write_victim.ensures.shape c.write_victim.ensures.content c.give.ensures.content
