use Rattle.std.proofs.Common.{ap, arith, ⊎_elim}
use Rattle.host_group.proofs.cells.Cells.join_right.Goals as goal
use Rattle.host_group.specs.{unsettled_of, ending_of}
use Rattle.host_group.proofs.Seating.{returns}

pub join_seat-requires : goal.join_seat-requires
join_seat-requires c = let words = c.args.self.now.words in let is = c.requires.seat in let right = c.requires.right.0 in let used = c.requires.right.1 in (
  is.0,
  right.0,
  right.1,
  omega arith,
  returns _ _ _ _ is.1 is.3 right.2 (⊎_elim (λ e. ap unsettled_of e) (λ e. ap unsettled_of e) used) (⊎_elim (λ e. ap ending_of e) (λ e. ap ending_of e) used),
)
