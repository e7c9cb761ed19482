use Rattle.std.proofs.Common.{◌+◌, length, ap, arith}
use Rattle.std.proofs.lemmas.Bool.{leb-true}
use Rattle.host_memory.specs.{history}
use Rattle.memory_client.proofs.Told.{pins_few, used_few}
use Rattle.memory_client.proofs.player.Player.has_room.Goals as goal

pub returns-clause-used : goal.returns-clause-used
returns-clause-used c = let p = c.args.self.now in
    (λ t. let few = used_few (history p.memory) in let same = ap length p.same in let room = p.limits.room in let n = leb-true (c.len.result + 2) 2000 t in let is = c.len.ensures in let ok = p.done.ok.0 in omega arith)

pub returns-clause-pins : goal.returns-clause-pins
returns-clause-pins c = let p = c.args.self.now in
    (λ t. let few = pins_few (history p.memory) in let same = ap length p.same in let records = p.limits.records in let n = leb-true (c.len.result + 2) 2000 t in let is = c.len.ensures in let ok = p.done.ok.0 in omega arith)
