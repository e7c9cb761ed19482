use Rattle.std.proofs.Common.{◌≡◌, ◌+◌, ◌≤◌, length, vec_len}
use Rattle.host_worker.proofs.Taking.{AreEndedSoFar}
use Rattle.host_worker.proofs.finish.end_all.Given as goal

abbrev pub invariant-loop-session : goal.invariant-loop-session
invariant-loop-session l = AreEndedSoFar l.fn.sessions.items l.fn.clients.items l.sessions.items l.clients.items l.ends.items × (length l.ends.items + length l.sessions.items ≤ l.ends.room) × (l.ends.kept ≡ l.fn.ends.kept)

abbrev pub decreases-loop-session : goal.decreases-loop-session
decreases-loop-session l = vec_len l.sessions
