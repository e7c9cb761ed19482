use Rattle.std.proofs.Common.{◌≤◌, length, vec_capacity}
use Rattle.host_worker.proofs.Dealt.{AreGiven}
use Rattle.host_worker.proofs.prepare.last_share.Given as goal

abbrev pub invariant-loop-k : goal.invariant-loop-k
invariant-loop-k l = AreGiven l.k l.fn.sessions.items l.sessions.items l.share.items × (length l.fn.sessions.items ≤ vec_capacity l.share)
