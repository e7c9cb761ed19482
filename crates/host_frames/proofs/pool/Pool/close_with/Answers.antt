use Rattle.std.proofs.Common.{ℕ, subst, arith}
use Rattle.std.specs.Slots.{slots_items, slots_counts}
use Rattle.host_frames.specs.{SomeIsRefused, IsBlankPage}
use Rattle.host_frames.proofs.Seating.{ends}
use Rattle.host_frames.proofs.pool.Pool.close_with.Goals as goal

pub returns : goal.returns
returns c = let b = c.args.self in let k = b.table.shared.key in let base = c.args.base in let closed = c.close_with-closed.ensures in let slots = c.close_with-closed.result.slots in let some = b.some.1 in let counted = b.counted in let n = closed.counts.1 in let counts = slots_counts slots in let s = b.slots in let home = c.count_home-home.ensures.home in
    let last = ends IsBlankPage k base.id base.me.0 _ (slots_items slots) c.requires.all some c.requires.idle.1 c.requires.idle.0 (omega arith) closed.values.2 in
    record {
      home = (let l = last.0 in omega arith);
      refused = λ p. let lt = last.1 (subst (λ (z : ℕ). SomeIsRefused z base.me.0.claims) counted p) in omega arith;
    }
