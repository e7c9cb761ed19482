-- A client of a server, with a seat at the pool.
use Rattle.std.proofs.Common.{◌≡◌, ◌≤◌, ℕ, ap, subst, ◌∙◌, arith}
use Rattle.host_frames.specs.{Pool, PoolSeat, pool_id, seat_pool}
use Rattle.host_io.specs.declared.disk.Disk as disk
use Rattle.host_session.specs.{SessionShared, ClientState, IsItsPool, IsShared}
use Rattle.host_worker.specs.{Hand, Server, IsHandOf, pool_seat_of, IsClientOf, IsServer, IsSessionShared, pool_of, session_count}
use Rattle.host_worker.proofs.Shared.{its_pool, number_within, shares}

module _ {D : Type 0} {g : disk.Ghosts D} (server : Server D g) (client : ClientState) (running : IsServer server) (own : IsClientOf server client) where
  -- the number that a client's end tells is that of a session
  pub within : (n : ℕ) → n ≡ client.plan.spec.number → (1 ≤ n) × (n ≤ session_count server)
  within n same = let w = number_within server client running own in (omega (arith, w.0, same), omega (arith, w.1, same))

  pub its_shared : (n : ℕ) (shared : SessionShared) → n ≡ client.plan.spec.number → IsSessionShared server n shared → IsShared client.plan shared
  its_shared n shared same given = shares server client running own shared (subst (λ (m : ℕ). IsSessionShared server m shared) same given)

  pub pools : (pool : Pool) (seat : PoolSeat) (hand : Hand D g) → IsHandOf server hand → pool ≡ pool_of server → seat ≡ pool_seat_of hand → IsItsPool client.plan pool seat
  pools pool seat hand h same seat_is =
      let its = its_pool server client running own hand h in
      (ap pool_id same ∙ its.0, ap seat_pool seat_is ∙ its.1)
