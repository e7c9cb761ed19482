use Rattle.std.proofs.Common.{◌∙◌, ◌++◌, ap}
use Rattle.std.specs.Option.{option_to_list}
use Rattle.host_frames.specs.{PoolSeat}
use Rattle.host_frames.proofs.Closing.{standing}
use Rattle.host_frames.proofs.pool.Pool.gather_all.Goals as goal

pub returns-clause-gathered : goal.returns-clause-gathered
returns-clause-gathered c = let qs = c.pop.new.self.items in let q : PoolSeat = c.unwrap-base.result in
    standing qs c.args.seats.items q c.gather_seats.new.base.me (c.pop.ensures.items ∙ ap (λ o. qs ++ option_to_list o) c.unwrap-base.ensures) c.gather_seats.ensures.gathered
