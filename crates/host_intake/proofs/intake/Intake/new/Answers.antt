use Rattle.std.proofs.Common.{◌<◌, List, [], None, sym, subst, arith}
use Rattle.host_intake.specs.{Waiting, IsIntake, LedgerState}
use Rattle.host_intake.proofs.Beginning.{intake_new}
use Rattle.host_intake.proofs.intake.Intake.new.Goals as goal

pub invariant_of-result : goal.invariant_of-result
invariant_of-result c = let p = c.args in let m = c.requires.memory in let q = c.requires.cells in
    let fits : p.room < 4294967296 = (let f = c.ranges.room.fits in omega arith) in
    let made = intake_new p.part p.size p.room p.keeps p.taker p.memory_seat p.cell_seat fits c.requires.taker.0 c.requires.taker.1 m.0 m.1 m.2 q.0 q.1 q.2 q.3 in (
      subst (λ (l : LedgerState). IsIntake (record { part = p.part; size = p.size; room = l.room; keeps = l.keeps; entries = l.entries; held = None; waiting = c.in-Ok.waiting.items; taker = p.taker; memory_seat = p.memory_seat; cell_seat = p.cell_seat })) (sym c.in_ok-ledger.ensures)
          (subst (λ (w : List Waiting). IsIntake (record { part = p.part; size = p.size; room = p.room; keeps = p.keeps; entries = []; held = None; waiting = w; taker = p.taker; memory_seat = p.memory_seat; cell_seat = p.cell_seat })) (sym c.in-Ok.ensures.items) made),
      c.in-Ok.ensures.capacity,
    )
