use Rattle.std.proofs.Common.{◌≡◌, ◌≤◌, ◌-◌, vec_capacity, vec_len}
use Rattle.host_worker.proofs.Dealt.{AreDealtFrom}
use Rattle.host_worker.proofs.prepare.deal.Given as goal

abbrev pub invariant-loop : goal.invariant-loop
invariant-loop l = AreDealtFrom (l.hands - l.counter) l.fn.sessions.items l.sessions.items l.shares.items × (vec_len l.shares ≡ l.counter) × (l.hands ≤ vec_capacity l.shares)
