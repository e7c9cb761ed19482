use Rattle.std.proofs.Common.{◌≡◌, ◌≤◌, length, take, vec_capacity, vec_len}
use Rattle.host_frames.specs.{pool_id}
use Rattle.host_worker.specs.{AreOpened}
use Rattle.host_worker.proofs.prepare.open_all.Given as goal

abbrev pub invariant-loop-k : goal.invariant-loop-k
invariant-loop-k l = AreOpened (take l.k l.specs) l.hands l.hands (pool_id l.pool) l.opened × (length l.specs ≤ vec_capacity l.opened.sessions) × (length l.specs ≤ vec_capacity l.opened.clients) × (vec_len l.opened.sessions ≡ l.k) × (vec_len l.opened.clients ≡ l.k)
