use Rattle.std.proofs.Common.{inl, inr, sym, ◌∙◌}
use Rattle.host_block.specs.{done}
use Rattle.host_cache.specs.{WritesVictim, MakesRoomFor, cache_outcome}
use Rattle.host_cache.proofs.ListLemmas.{on_ok}
use Rattle.host_cache.proofs.MadeLemmas.{runs_then, runs_early}
use Rattle.host_cache.proofs.RunLemmas.{same_then, faulted_then, runs_idle, runs_room_for, there_at}
use Rattle.host_cache.proofs.cache.Cache.prepare.Goals as goal

pub returns-in-Err-clause-calls : goal.returns-in-Err-clause-calls
returns-in-Err-clause-calls g c =
    runs_early WritesVictim (MakesRoomFor c.args.b) c.in-Err.error c.args.self.now c.write_victim.new.self c.in-Err.ensures.calls

pub returns-then-contains-clause-calls : goal.returns-then-contains-clause-calls
returns-then-contains-clause-calls g c =
    let mid = c.write_victim.new.self in
    runs_then WritesVictim (MakesRoomFor c.args.b) done c.args.self.now mid mid c.in-Ok.ensures.calls
    (runs_idle c.args.b mid (sym c.contains.ensures ∙ c.if-contains.true))

pub returns-then-contains-clause-room : goal.returns-then-contains-clause-room
returns-then-contains-clause-room g c = inl (there_at c.args.b c.write_victim.new.self (sym c.contains.ensures ∙ c.if-contains.true))

pub returns-clause-calls : goal.returns-clause-calls
returns-clause-calls g c =
    let mid = c.write_victim.new.self in
    let o = cache_outcome c.make_room.result in
    runs_then WritesVictim (MakesRoomFor c.args.b) o c.args.self.now mid c.make_room.new.self c.in-Ok.ensures.calls
    (runs_room_for c.args.b o mid c.make_room.new.self (sym c.contains.ensures ∙ c.if-contains.false) c.make_room.ensures.calls)

pub returns-clause-fault : goal.returns-clause-fault
returns-clause-fault g c is = faulted_then WritesVictim done c.args.self.now c.write_victim.new.self c.make_room.new.self c.in-Ok.ensures.calls (c.make_room.ensures.fault is)

pub returns-clause-content : goal.returns-clause-content
returns-clause-content g c =
    same_then c.args.self.now c.write_victim.new.self c.make_room.new.self c.write_victim.ensures.shape c.write_victim.ensures.content c.make_room.ensures.content

pub returns-clause-room : goal.returns-clause-room
returns-clause-room g c = on_ok c.make_room.result _ (λ is. inr c.make_room.ensures.room)
