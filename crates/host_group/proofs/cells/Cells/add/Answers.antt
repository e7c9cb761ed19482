use Rattle.std.proofs.Common.{◌≤◌, ◌<◌, ◌+◌, ◌^◌, length, sym, subst, arith}
use Rattle.host_group.specs.{View}
use Rattle.host_group.proofs.AdmitSteps.{adds_open, adds_last}
use Rattle.host_group.proofs.cells.Cells.add.Goals as goal

pub fetch_add-requires : goal.fetch_add-requires
fetch_add-requires c = let words = c.args.self.now.words in let small = c.requires.seat.1 in let is = c.place.ensures.0 in let e = c.place.ensures.1 in
    let low = c.requires.index.0 in let high = c.requires.index.1 in (
      is.0.0,
      omega arith,
      adds_last _ _ _ _ (omega arith) is.0.1 (is.0.3, is.1, is.2) (subst (λ (z : View). length z.admitted < length z.back + 64) (sym e) c.requires.room)
          (subst (λ (z : View). z.next ≤ z.row.member.index) (sym e) low) (subst (λ (z : View). z.row.member.index + 1 < 2 ^ 32) (sym e) (omega arith)),
    )

pub fetch_add-requires-else-last : goal.fetch_add-requires-else-last
fetch_add-requires-else-last c = let words = c.args.self.now.words in let small = c.requires.seat.1 in let is = c.requires.seat.0 in
    let low = c.requires.index.0 in let high = c.requires.index.1 in
    (is.0.0, omega arith, adds_open _ _ _ _ (omega arith) is.0.1 (is.0.3, is.1, is.2) c.requires.room low (omega arith))
