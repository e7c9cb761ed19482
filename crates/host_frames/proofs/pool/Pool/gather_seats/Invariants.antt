use Rattle.std.proofs.Common.{◌≡◌, ◌++◌, List, All}
use Rattle.host_frames.specs.{PoolSeat, HasGathered, seat_pool, pool_id}
use Rattle.host_frames.proofs.pool.Pool.gather_seats.Given as goal

abbrev pub invariant-loop-seat : goal.invariant-loop-seat
invariant-loop-seat l =
    (l.base.table_id ≡ l.fn.base.table_id) × (l.base.id ≡ l.fn.base.id) × All (λ q. seat_pool q ≡ pool_id l.self) l.seats.items
    × ((done : List PoolSeat) × (l.seats.items ++ done ≡ l.fn.seats.items) × HasGathered l.fn.base.me.0 done l.base.me)

abbrev pub decreases-loop-seat : goal.decreases-loop-seat
decreases-loop-seat l = goal.left-loop-seat l
