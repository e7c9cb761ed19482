use Rattle.std.proofs.Common.{arith, refl, sym, ap, ◌≢◌, ◌+◌, ◌<◌, ℕ, subst, length}
use Rattle.host_frames.specs.{frames_in, IsPick}
use Rattle.host_frames.proofs.Bits.{none_set}
use Rattle.host_frames.proofs.Picking.{pick_starts, is_clear, is_set, pick_takes, pick_passes, pick_counts}
use Rattle.host_frames.proofs.claim.pick.Goals as goal
use Rattle.host_frames.proofs.claim.pick.Goals.{then-found-bit-eq0, else-found-bit-eq0}

pub loop-j-init : goal.loop-j-init
loop-j-init c = (pick_starts c.args.found c.args.from, (let none = none_set 0 in omega arith), λ e. refl)

pub loop-j-preserved : goal.loop-j-preserved
loop-j-preserved c = let inv = c.loop-j.invariant in let n : ℕ = c.args.found in let from : ℕ = c.args.from in let j : ℕ = c.loop-j.j in let mask : ℕ = c.loop-j.mask in let le = c.loop-j.auto.j in let lt = c.loop-j-test.true in let below = c.requires.1 in
    let low : j < 64 = omega arith in let some : c.loop-j.left ≢ 0 = c.if-left-eq0.false in elim c.if-found-bit-eq0.branch [
      | then-found-bit-eq0 w ↦ (
        subst (IsPick n from (j + 1)) (sym w.mask-is) (pick_takes n from j mask low le (is_clear n j low w.if-found-bit-eq0.true) inv.0),
        (let now = ap (λ z. length (frames_in 0 z)) w.mask-is in let more = pick_counts mask j low in let left = w.left-is in let few = inv.1 in omega arith),
        (λ e. absurd (omega arith)),
      )
      | else-found-bit-eq0 w ↦ (
        subst (IsPick n from (j + 1)) (sym w.mask-is) (pick_passes n from j mask le (is_set n j low w.if-found-bit-eq0.false) inv.0),
        (let now = ap (λ z. length (frames_in 0 z)) w.mask-is in let left = w.left-is in let few = inv.1 in omega arith),
        (λ e. absurd (omega arith)),
      )
    ]
