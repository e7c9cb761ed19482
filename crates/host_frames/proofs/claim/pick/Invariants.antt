use Rattle.std.proofs.Common.{◌≡◌, ◌+◌, ◌≤◌, length}
use Rattle.host_frames.specs.{frames_in, IsPick}
use Rattle.host_frames.proofs.claim.pick.Given as goal

abbrev pub invariant-loop-j : goal.invariant-loop-j
invariant-loop-j l = IsPick l.found l.from l.j l.mask × (length (frames_in 0 l.mask) + l.left ≤ l.need) × (l.j ≡ l.from → l.left ≡ l.need)
