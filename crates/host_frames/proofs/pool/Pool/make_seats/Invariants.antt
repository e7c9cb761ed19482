use Rattle.std.proofs.Common.{◌≡◌, ◌-◌, ◌≤◌, [], All, vec_len, vec_capacity}
use Rattle.host_frames.specs.{idle_view, IsNewSeat, pool_id, page_size}
use Rattle.host_frames.proofs.pool.Pool.make_seats.Given as goal

abbrev pub invariant-loop : goal.invariant-loop
invariant-loop l = (l.maker.table_id ≡ l.self.table.shared.table_id) × (l.maker.me ≡ (idle_view (l.seats - l.counter) (page_size l.self), [])) × (vec_len l.all ≡ l.counter) × (l.seats ≤ vec_capacity l.all) × All (IsNewSeat (pool_id l.self)) l.all.items
